use Rattle.std.proofs.Common.{◌<◌, ◌≤◌, length, sym, ap, ◌∙◌, subst, arith}
use Rattle.ring.specs.Queue.{Kept, records}
use Rattle.ring.proofs.Loops.{partly_all, length_partly, nth_there, each_more}
use Rattle.ring.proofs.Slots.{kept_then, length_records}
use Rattle.ring.proofs.queue.Ring.each.Goals.{in-Some, in_default}
use Rattle.ring.proofs.queue.Ring.each.Goals as goal

pub loop-i-preserved : goal.loop-i-preserved
loop-i-preserved g c =
    let xs = records c.args.self.now in
    let zs = records c.loop-i.self in
    let i = c.loop-i.i in
    let v = c.loop-i.invariant in
    let t = c.loop-i-test.true in
    let l : i ≤ length xs = omega (arith, length_records c.args.self.now) in (
      λ f k. elim c.match-get.branch [
        | in-Some w ↦
            ap records w.self-is ∙ w.overwrite.ensures.records
            ∙ each_more f xs zs i w.in-Some.x w.change.result (v.0 f k) (sym c.get.ensures ∙ w.in-Some.is) (k _ _ w.change.ensures)
        | in_default w ↦
            let m = ap length (v.0 f k) ∙ length_partly f xs i l in
            let h : i < length zs = omega (arith, length_records c.args.self.now) in
            absurd (nth_there zs i h (sym c.get.ensures ∙ w.in_default.is))
      ],
      elim c.match-get.branch [
        | in-Some w ↦ subst (Kept c.args.self.now) (sym w.self-is) (kept_then c.args.self.now c.loop-i.self _ v.1 w.overwrite.ensures.kept)
        | in_default w ↦ subst (Kept c.args.self.now) (sym w.self-is) v.1
      ],
    )

pub returns-clause-records : goal.returns-clause-records
returns-clause-records g c = λ f k.
    let xs = records c.args.self.now in
    let t = c.loop-i-test.false in
    let h : length xs ≤ c.loop-i.i = omega (arith, length_records c.args.self.now) in
    c.loop-i.invariant.0 f k ∙ partly_all f xs c.loop-i.i h
