use Rattle.std.proofs.Common.{◌≡◌, ℕ, ◌≤◌, List, length, take, drop, Some, sym, ap, ◌∙◌, arith, length-take-le, rules}
use Rattle.responses.specs.Reading.{bits_of, place_off}
use Rattle.responses.proofs.Taking.{prefixed_none, place_turn, place_end, inventory_at, length_bits}
use Rattle.responses.proofs.inventories.take_inventory.Goals as goal

-- A map of 32 bytes has a bit for each of 256 places.
bits : (bs map : List ℕ) → 32 ≤ length bs → map ≡ take 32 bs → length (bits_of map) ≡ 256
bits bs map h e =
    let n = length_bits map in
    let k = length-take-le 32 bs h in
    let m : length map ≡ length (take 32 bs) = ap (λ (l : List ℕ). length l) e in
    omega arith

pub loop-place-init : goal.loop-place-init
loop-place-init c = prefixed_none _

pub loop-place-preserved : goal.loop-place-preserved
loop-place-preserved c =
    let bs = c.args.bytes.now in
    let map = c.in_ok-map.map.now in
    let l : 32 ≤ length bs = search rules in
    let m : map ≡ take 32 bs = search rules in
    let n = bits bs map l m in
    let e : Some (c.in_ok-slot.field-0-0, c.in_ok-slot.field-0-1.now) ≡ place_off c.bit_at.result c.loop-place.rest.now = search rules in
    c.loop-place.invariant ∙ place_turn (bits_of map) c.loop-place.place _ _ c.loop-place.places _ c.bit_at.result (omega arith) (omega arith) c.bit_at.ensures e

pub returns : goal.returns
returns c =
    let bs = c.args.bytes.now in
    let map = c.in_ok-map.map.now in
    let l : 32 ≤ length bs = search rules in
    let m : map ≡ take 32 bs = search rules in
    let r : c.in_ok-map.rest.now ≡ drop 32 bs = search rules in
    let n = bits bs map l m in
    sym (inventory_at bs map _ l m r ∙ c.loop-place.invariant ∙ place_end (bits_of map) c.loop-place.place _ c.loop-place.places (omega arith) (omega arith))
