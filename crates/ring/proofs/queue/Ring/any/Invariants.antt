use Rattle.std.proofs.Common.{◌≡◌, Bool, drop}
use Rattle.ring.specs.Queue.{Answers, records}
use Rattle.ring.specs.Order.{any_of}
use Rattle.ring.proofs.queue.Ring.any.Given as goal

abbrev pub invariant-loop-i : goal.invariant-loop-i
invariant-loop-i g l = (p : g.row.T.Denot → Bool) → Answers (goal.F-post g l.is_met) p → any_of p (drop l.i (records l.self)) ≡ any_of p (records l.self)
