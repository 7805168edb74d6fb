use Rattle.std.proofs.Common.{◌≡◌, length}
use Rattle.tag_frame.specs.Tables.{table_held}
use Rattle.tag_frame.proofs.Filling.{filled}
use Rattle.tag_frame.proofs.table.Table.of_places.Given as goal

abbrev pub invariant-loop-p : goal.invariant-loop-p
invariant-loop-p l = (l.table.count ≡ length l.places) × (table_held l.table ≡ filled l.p l.places)
