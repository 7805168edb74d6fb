use Rattle.ring.proofs.Slots.{advanced}
use Rattle.ring.proofs.queue.Ring.advance.Goals as goal

pub returns-clause-records : goal.returns-clause-records
returns-clause-records g c = advanced c.args.self.now c.slot-self.result c.slot-self.ensures.at c.requires
