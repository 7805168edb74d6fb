-- What a robot means: its make-up, what each place and the hand hold, and which places are in service.
use Rattle.std.specs.Prelude.{◌≡◌, ℕ, ◌≤◌, Bool, false, cond, List, length, Some, None, Option, nat_lt, slice_index, slice_index_or}
use Rattle.labels.specs.Numbers.{unreadable_number}
use Rattle.robots.specs.declared.kind.Kind.{Kind}
use Rattle.robots.specs.declared.kind.Kind.TheVariants.{Cell}

-- Places are numbered from 0. A cartridge number of 0 says that a place, or the hand, is empty.
pub record Meaning : Type 0 where
  pub kinds : List Kind
  pub held : List ℕ
  pub service : List Bool
  pub hand : ℕ

-- How many places there are.
abbrev pub count : Meaning → ℕ
count m = length m.kinds

-- What holds of every robot: each place has its kind, holding and service, and every number is a cartridge's or 0.
pub record Sound (m : Meaning) : Type 0 where
  pub few : count m ≤ 65535
  pub held_length : length m.held ≡ count m
  pub service_length : length m.service ≡ count m
  pub held_numbers : (p : ℕ) → slice_index m.held p ≤ unreadable_number
  pub hand_number : m.hand ≤ unreadable_number

-- The kind of a place, what it holds, and whether it is in service.
abbrev pub kind_of : Meaning → ℕ → Kind
kind_of m p = slice_index_or m.kinds p Cell

abbrev pub held_at : Meaning → ℕ → ℕ
held_at m p = slice_index m.held p

abbrev pub serving : Meaning → ℕ → Bool
serving m p = slice_index_or m.service p false

-- What a question about a place tells: x, or nothing where there is no such place.
abbrev pub asked : {A : Type 0} → Meaning → ℕ → A → Option A
asked m p x = cond (nat_lt p (count m)) (Some x) None

-- The three questions about a place.
abbrev pub kind_asked : Meaning → ℕ → Option Kind
kind_asked m p = asked m p (kind_of m p)

abbrev pub cartridge_asked : Meaning → ℕ → Option ℕ
cartridge_asked m p = asked m p (held_at m p)

abbrev pub service_asked : Meaning → ℕ → Option Bool
service_asked m p = asked m p (serving m p)
