use Rattle.std.proofs.Common.{◌≡◌, slice_index, arith}
use Rattle.tag_frame.specs.Tables.{table_held}
use Rattle.tag_frame.specs.Tagged.{found_held, held_number}
use Rattle.tag_frame.proofs.table.Table.number_at.Goals as goal

pub returns : goal.returns
returns c =
    let t = c.args.self.now in
    let e = found_held t.count t.tags.items c.args.p t.distinct in
    let v : c.number_in.result ≡ slice_index (table_held t) c.args.p = cc in
    record { value = v; number = omega (arith, held_number t.count t.tags.items c.args.p t.distinct) }
