use Rattle.std.proofs.Common.{◌<◌, ◌≤◌, length, sym, ◌∙◌, arith}
use Rattle.ring.specs.Queue.{records}
use Rattle.ring.proofs.Loops.{any_of_nth, any_of_none, nth_there, or_left, or_right}
use Rattle.ring.proofs.Slots.{length_records}
use Rattle.ring.proofs.queue.Ring.any.Goals.{in-Some+else-is_met, in_default}
use Rattle.ring.proofs.queue.Ring.any.Goals as goal

pub returns-then-is_met : goal.returns-then-is_met
returns-then-is_met g c = λ p k.
    let e = any_of_nth p (records c.args.self.now) c.loop-i.i c.in-Some.x (sym c.get.ensures ∙ c.in-Some.is) in
    sym (sym (c.loop-i.invariant p k) ∙ e ∙ or_left _ _ (sym (k _ _ c.is_met.ensures) ∙ c.if-is_met.true))

pub loop-i-preserved : goal.loop-i-preserved
loop-i-preserved g c = λ p k.
    let xs = records c.args.self.now in
    let t = c.loop-i-test.true in
    let h : c.loop-i.i < length xs = omega (arith, length_records c.args.self.now) in
    elim c.match-get.branch [
      | in-Some+else-is_met w ↦
          let e = any_of_nth p xs c.loop-i.i w.in-Some.x (sym c.get.ensures ∙ w.in-Some.is) in
          sym (or_right _ _ (sym (k _ _ w.is_met.ensures) ∙ w.if-is_met.false)) ∙ sym e ∙ c.loop-i.invariant p k
      | in_default w ↦ absurd (nth_there xs c.loop-i.i h (sym c.get.ensures ∙ w.in_default.is))
    ]

pub returns : goal.returns
returns g c = λ p k.
    let xs = records c.args.self.now in
    let t = c.loop-i-test.false in
    let h : length xs ≤ c.loop-i.i = omega (arith, length_records c.args.self.now) in
    sym (sym (c.loop-i.invariant p k) ∙ any_of_none p xs c.loop-i.i h)
