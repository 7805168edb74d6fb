use Rattle.std.proofs.Common.{◌≡◌}
use Rattle.ring.specs.Queue.{Answers, Kept, records}
use Rattle.ring.proofs.Partly.{partly}
use Rattle.ring.proofs.queue.Ring.each.Given as goal

abbrev pub invariant-loop-i : goal.invariant-loop-i
invariant-loop-i g l =
    ((f : g.row.T.Denot → g.row.T.Denot) → Answers (goal.F-post g l.change) f → records l.self ≡ partly f l.i (records l.initial.self))
    × Kept l.initial.self l.self
