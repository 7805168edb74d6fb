use Rattle.std.proofs.Common.{◌<◌, arith, length-set}
use Rattle.ring.proofs.Slots.{length_records, pushed}
use Rattle.ring.proofs.queue.Ring.append.Goals as goal

pub invariant_of-self : goal.invariant_of-self
invariant_of-self g c =
    let q = c.args.self.now in
    let t : q.count < q.capacity = omega (arith, length_records q) in
    record { lent = simp length-set q.lent; headed = q.headed; counted = omega arith }

pub returns-clause-records : goal.returns-clause-records
returns-clause-records g c =
    let q = c.args.self.now in
    let t : q.count < q.capacity = omega (arith, length_records q) in
    pushed q c.slot-at.result c.args.x c.slot-at.ensures.at t
