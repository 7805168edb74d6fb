use Rattle.std.proofs.Common.{◌≡◌, length, take}
use Rattle.responses.specs.Inventories.{map_bytes}
use Rattle.responses.proofs.inventories.inventory_map.Given as goal

abbrev pub invariant-loop-place : goal.invariant-loop-place
invariant-loop-place l = (length l.map ≡ 32) × (l.map ≡ map_bytes 32 (take l.place l.inventory))
