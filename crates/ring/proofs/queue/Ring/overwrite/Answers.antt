use Rattle.std.proofs.Common.{◌<◌, refl, arith}
use Rattle.ring.proofs.Slots.{length_records, replaced, unused}
use Rattle.ring.proofs.queue.Ring.overwrite.Goals as goal

pub slot-at-requires : goal.slot-at-requires
slot-at-requires g c = let q = c.args.self.now in omega (arith, length_records q, q.counted)

pub bounds-self-at : goal.bounds-self-at
bounds-self-at g c =
    let q = c.args.self.now in
    let h : c.args.i < q.capacity = omega (arith, length_records q, q.counted) in
    omega (arith, c.slot-at.ensures.within h, q.lent)

pub returns : goal.returns
returns g c =
    let q = c.args.self.now in
    let i : c.args.i < q.count = omega (arith, length_records q) in
    let h : c.args.i < q.capacity = omega (arith, q.counted) in
    record {
      records = replaced q c.slot-at.result c.args.i c.args.x c.slot-at.ensures.at i;
      kept = record { capacity = refl; unused = unused q c.slot-at.result c.args.x (c.slot-at.ensures.within h) };
    }
