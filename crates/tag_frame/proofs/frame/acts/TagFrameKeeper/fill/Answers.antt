use Rattle.std.proofs.Common.{get_or, ap, ◌∙◌, arith}
use Rattle.std.proofs.lemmas.List.{length-map}
use Rattle.tag_frame.specs.declared.table.Table.{Table}
use Rattle.tag_frame.specs.Tables.{table_held}
use Rattle.tag_frame.proofs.frame.acts.TagFrameKeeper.fill.Goals as goal

pub add-requires : goal.add-requires
add-requires c =
    let f = c.args.self.now in
    let e = c.replace-table.ensures.value in
    record {
      within = omega (arith, ap (λ (t : Table). t.count) e, f.tabled, f.sites.ok.0, simp length-map at c.requires.within);
      empty = ap (λ (t : Table). get_or (table_held t) c.args.p 0) e ∙ c.requires.empty;
      some = c.requires.some;
      numbered = c.requires.numbered;
    }
