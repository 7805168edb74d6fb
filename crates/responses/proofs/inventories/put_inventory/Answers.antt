use Rattle.std.proofs.Common.{◌≡◌, ℕ, List, ◌++◌, length, Option, sym, ap, ◌∙◌, arith, Bor}
use Rattle.byte_fields.proofs.Overs.{put_added, added_then, added_same}
use Rattle.responses.specs.Responses.{listed}
use Rattle.responses.specs.Inventories.{inventory_bytes, labels_bytes}
use Rattle.responses.proofs.Marking.{length_map_bytes}
use Rattle.responses.proofs.inventories.put_inventory.Goals as goal

pub returns-in-Some-clause-added : goal.returns-in-Some-clause-added
returns-in-Some-clause-added c =
    let room = c.requires.room in
    let i = c.inventory_map.ensures in
    let m : length c.inventory_map.result ≡ 32 = ap (λ (l : List ℕ). length l) i ∙ length_map_bytes 32 c.in-Some.inventory.now in
    added_same _ _ (ap (λ (l : List ℕ). l ++ labels_bytes c.in-Some.inventory.now) i ∙ ap (λ (o : Option (Bor (List ℕ))). inventory_bytes (listed o)) (sym c.in-Some.is))
    (added_then (put_added (omega arith) c.put.ensures.put) c.put_all.ensures.added)
