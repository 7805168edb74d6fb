use Rattle.std.proofs.Common.{Some, ap, ◌∙◌}
use Rattle.ring.proofs.Slots.{got, past}
use Rattle.ring.proofs.queue.Ring.get.Goals as goal

pub returns-then-i-self : goal.returns-then-i-self
returns-then-i-self g c =
    ap (λ y. Some y) c.index-slots-at.is
    ∙ got c.args.self.now c.slot-at.result c.args.i c.index-slots-at.result c.slot-at.ensures.at c.if-i-self.true

pub returns-else-i-self : goal.returns-else-i-self
returns-else-i-self g c = past c.args.self.now c.args.i c.if-i-self.false
