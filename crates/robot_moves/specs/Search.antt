-- Searches for a place.
use Rattle.std.specs.Prelude.{ℕ, ◌+◌, ◌-◌, Bool, true, false, cond, not, ◌&&◌, List, [], ◌∷◌, ◌++◌, find, Option, ◌==◌, nat_lt}
use Rattle.std.specs.List.{range_with_len}
use Rattle.robots.specs.declared.kind.Kind.{Kind}
use Rattle.robots.specs.declared.kind.Kind.TheVariants.{Cell, Drive, Port}
use Rattle.robots.specs.Meaning.{Meaning, count, kind_of, held_at, serving}
use Rattle.robot_moves.specs.declared.search.Wanted.{Wanted}
use Rattle.robot_moves.specs.declared.search.Wanted.TheVariants.{FreeCell, FreePort, FullPort}

-- Tests of a kind.
abbrev pub is_cell : Kind → Bool
is_cell Cell = true
is_cell Drive = false
is_cell Port = false

abbrev pub is_drive : Kind → Bool
is_drive Cell = false
is_drive Drive = true
is_drive Port = false

abbrev pub is_port : Kind → Bool
is_port Cell = false
is_port Drive = false
is_port Port = true

-- A kind is the one that is asked for.
abbrev pub is_kind : Kind → Kind → Bool
is_kind Cell = is_cell
is_kind Drive = is_drive
is_kind Port = is_port

-- There is a place p, and its kind passes the test.
abbrev pub of_kind : (Kind → Bool) → Meaning → ℕ → Bool
of_kind test m p = nat_lt p (count m) && test (kind_of m p)

-- A free place is empty and in service.
abbrev pub free : Meaning → ℕ → Bool
free m p = serving m p && held_at m p == 0

-- What a search looks for.
abbrev pub passes : Wanted → Meaning → ℕ → Bool
passes FreeCell m p = of_kind is_cell m p && free m p
passes FreePort m p = of_kind is_port m p && free m p
passes FullPort m p = of_kind is_port m p && not (held_at m p == 0)

-- The first of a list of places that passes.
abbrev pub first_of : Wanted → Meaning → List ℕ → Option ℕ
first_of w m ps = find (passes w m) ps

-- The numbers from a up to, and without, b.
abbrev pub up_to : ℕ → ℕ → List ℕ
up_to a b = range_with_len a (b - a)

-- The next free cell from p: the first among p + 1 to the last place, then 0 to p.
abbrev pub next_free_cell : Meaning → ℕ → Option ℕ
next_free_cell m p = first_of FreeCell m (up_to (p + 1) (count m) ++ up_to 0 (p + 1))

-- The lowest free port place.
abbrev pub lowest_free_port : Meaning → Option ℕ
lowest_free_port m = first_of FreePort m (up_to 0 (count m))

-- The lowest full port place from p on.
abbrev pub next_full_port : Meaning → ℕ → Option ℕ
next_full_port m p = first_of FullPort m (up_to p (count m))

-- How many of a list of places are port places.
abbrev pub ports_among : Meaning → List ℕ → ℕ
ports_among m [] = 0
ports_among m (p ∷ ps) = cond (of_kind is_port m p) 1 0 + ports_among m ps

abbrev pub port_count : Meaning → ℕ
port_count m = ports_among m (up_to 0 (count m))
