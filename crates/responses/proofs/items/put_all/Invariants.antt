use Rattle.std.proofs.Common.{◌+◌, ◌*◌, ◌≤◌, take}
use Rattle.byte_fields.specs.Writers.{Added}
use Rattle.responses.proofs.items.put_all.Given as goal

abbrev pub invariant-loop-item : goal.invariant-loop-item
invariant-loop-item g l = Added (g.T.Item.all (take l.item-index l.items)) l.initial.writer l.writer × (l.writer.at ≤ l.initial.writer.at + g.T.Item.most * l.item-index)
