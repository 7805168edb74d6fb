use Rattle.ring.proofs.Slots.{none_in_order}
use Rattle.ring.proofs.queue.Ring.new.Goals as goal

pub returns-clause-none : goal.returns-clause-none
returns-clause-none g c = none_in_order c.min-capacity.result c.args.slots.now
