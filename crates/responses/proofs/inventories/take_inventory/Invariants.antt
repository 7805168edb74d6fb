use Rattle.std.proofs.Common.{◌≡◌, take, drop}
use Rattle.responses.specs.Reading.{bits_of, places_off, prefixed}
use Rattle.responses.proofs.inventories.take_inventory.Given as goal

abbrev pub invariant-loop-place : goal.invariant-loop-place
invariant-loop-place l = places_off (bits_of l.map) l.initial.rest ≡ prefixed (take l.place l.places) (places_off (drop l.place (bits_of l.map)) l.rest)
