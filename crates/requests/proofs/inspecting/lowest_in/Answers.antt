use Rattle.std.proofs.Common.{◌≡◌, false, eqb, refl, rules}
use Rattle.requests.proofs.Masks.{none_wrong, some_wrong}
use Rattle.requests.proofs.inspecting.lowest_in.Goals as goal

pub returns-then-wrong-eq0 : goal.returns-then-wrong-eq0
returns-then-wrong-eq0 c =
    let z : c.wrong_mask-wrong.result ≡ 0 = search rules in
    none_wrong c.args.command c.args.map c.args.bad c.wrong_mask-wrong.result c.ranges.map.fits c.wrong_mask-wrong.ensures z

pub returns : goal.returns
returns c =
    let z : eqb c.wrong_mask-wrong.result 0 ≡ false = search rules in
    some_wrong c.args.command c.args.map c.args.bad c.wrong_mask-wrong.result _ c.ranges.map.fits c.wrong_mask-wrong.ensures z refl
