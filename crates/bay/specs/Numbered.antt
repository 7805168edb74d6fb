-- What holds of the cartridges in a bay's places.
use Rattle.std.specs.Prelude.{ℕ, ◌≤◌, List, map, slice_index}
use Rattle.labels.specs.Numbers.{unreadable_number}
use Rattle.robots.specs.declared.place.Place.{Place}
use Rattle.robots.specs.Making.{place_cartridge}

-- Each number is a cartridge's or 0.
abbrev pub Numbered : List Place → Type 0
Numbered xs = (p : ℕ) → slice_index (map place_cartridge xs) p ≤ unreadable_number
