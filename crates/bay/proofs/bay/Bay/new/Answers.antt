use Rattle.std.proofs.Common.{◌≡◌, vec_items}
use Rattle.robots.proofs.Makings.{passed, numbers_within}
use Rattle.bay.proofs.bay.Bay.new.Goals as goal

pub invariant_of-result-clause-numbered : goal.invariant_of-result-clause-numbered
invariant_of-result-clause-numbered c =
    let xs = c.args.places.now in
    let e : vec_items c.in_ok-places.places ≡ xs = c.in_ok-places.ensures.items_if_clones_equal (λ x y h. h) in
    rw e (numbers_within xs (passed xs c.args.hand _ c.in_ok-check_places.ensures).numbers)
