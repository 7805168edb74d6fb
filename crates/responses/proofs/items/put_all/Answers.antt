use Rattle.std.proofs.Common.{◌≡◌, ◌+◌, ◌*◌, sym, arith}
use Rattle.byte_fields.proofs.Overs.{added_then, added_same}
use Rattle.responses.proofs.Loops.{all_more}
use Rattle.responses.proofs.items.put_all.Goals as goal

pub loop-item-preserved : goal.loop-item-preserved
loop-item-preserved g c =
    let most = g.T.Item.most in
    let i = c.loop-item.item-index in
    let e = all_more g.T.Item.all g.T.Item.bytes g.met.T.Item.none g.met.T.Item.more c.args.items.now i c.item-item.result c.item-item.is (omega arith) in
    let m : most * (i + 1) ≡ most * i + most = grind arith in
    let b = c.put.ensures.bound in
    let k = c.loop-item.invariant.1 in
    (added_same _ _ (sym e) (added_then c.loop-item.invariant.0 c.put.ensures.added), omega (arith, m, b, k))
