use Rattle.std.proofs.Common.{◌≡◌, ℕ, ◌+◌, List, length, take, refl, ap, ◌∙◌, arith, take_all}
use Rattle.responses.specs.Inventories.{map_bytes}
use Rattle.responses.proofs.Marking.{marked, one_less, length_map_bytes}
use Rattle.responses.proofs.inventories.inventory_map.Goals as goal
use Rattle.responses.proofs.inventories.inventory_map.Goals.{then-number-ne0, else-number-ne0}

pub loop-place-init : goal.loop-place-init
unfolding map_bytes
loop-place-init c = (refl, refl)

pub loop-place-preserved : goal.loop-place-preserved
loop-place-preserved c =
    let e : c.if-number-ne0.map ≡ map_bytes 32 (take (c.loop-place.place + 1) c.args.inventory.now) = elim c.if-number-ne0.branch [
      | then-number-ne0 w ↦ w.map-is ∙ marked c.args.inventory.now c.loop-place.map c.loop-place.place 0 w.bit_of.result (omega arith) c.requires w.if-number-ne0.true c.loop-place.invariant.1 w.bit_of.ensures
      | else-number-ne0 w ↦ w.map-is ∙ c.loop-place.invariant.1 ∙ one_less c.args.inventory.now c.loop-place.place 0 (omega arith) (omega (arith, w.if-number-ne0.false))
    ] in
    (ap (λ (l : List ℕ). length l) e ∙ length_map_bytes 32 _, e)

pub returns : goal.returns
returns c = c.loop-place.invariant.1 ∙ ap (λ (l : List ℕ). map_bytes 32 l) (take_all c.loop-place.place c.args.inventory.now (omega arith))
