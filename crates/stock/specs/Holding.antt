-- What cells and drives hold.
use Rattle.std.specs.Prelude.{ℕ, Bool, cond, not, ◌&&◌, List, map, ◌==◌, nat_lt}
use Rattle.labels.specs.Numbers.{unreadable_number}
use Rattle.std.specs.List.{range_with_len}
use Rattle.robots.specs.Meaning.{Meaning, count, held_at}
use Rattle.robot_moves.specs.Search.{is_port, of_kind}

-- The cartridge at p; 0 where there is none, or no such place.
abbrev pub held_in : Meaning → ℕ → ℕ
held_in m p = cond (nat_lt p (count m)) (held_at m p) 0

-- What an inventory says of p: the cartridge of a cell or a drive, nothing of a port place.
abbrev pub shown_at : Meaning → ℕ → ℕ
shown_at m p = cond (of_kind is_port m p) 0 (held_in m p)

-- An inventory tells 256 places.
unfoldable pub inventory_of : Meaning → List ℕ
inventory_of m = map (shown_at m) (range_with_len 0 256)

-- A cartridge with a label that can be read.
abbrev pub readable : ℕ → Bool
readable k = not (k == 0) && not (k == unreadable_number)
