use Rattle.std.proofs.Common.{◌≡◌, length, vec_items, vec_len, sym, ap, ◌∙◌, arith, rules}
use Rattle.std.proofs.lemmas.List.{length-map}
use Rattle.robots.proofs.Makings.{passed}
use Rattle.tag_frame.specs.Tables.{table_held}
use Rattle.tag_frame.proofs.Fitted.{meant_of}
use Rattle.tag_frame.proofs.frame.TagFrame.new.Goals as goal

pub invariant_of-result : goal.invariant_of-result
invariant_of-result c =
    let xs = c.args.places.now in
    let v = c.in_ok-sites.sites in
    let a = passed xs c.args.hand _ c.in_ok-check_places.ensures in
    let e : vec_len v ≡ length xs = v.ok.0 ∙ ap length c.in_ok-sites.ensures ∙ simp length-map in
    record { few = omega (arith, a.few); tabled = c.in_ok-table.ensures.0 ∙ sym e; handed = a.hand_number }

pub returns : goal.returns
returns c = (
  search rules,
  meant_of (vec_items c.in_ok-sites.sites) (table_held c.in_ok-table.table) c.args.hand c.args.places.now c.in_ok-sites.ensures c.in_ok-table.ensures.1,
)
