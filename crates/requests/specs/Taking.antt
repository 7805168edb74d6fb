-- The fields of a packet.
use Rattle.std.specs.Prelude.{◌≡◌, ℕ, ◌<◌, List, [], ◌∷◌, is_some, Some, None, Option}
use Rattle.std.specs.Borrow.{Bor}
use Rattle.byte_fields.specs.Taking.{has_bit, one_off, two_off, six_off}
use Rattle.requests.specs.declared.taking.Fields.{Fields}
use Rattle.requests.specs.declared.taking.Taken.{Taken}
use Rattle.requests.specs.declared.taking.Ending.{Ending}
use Rattle.requests.specs.declared.taking.Ending.TheVariants.{Short, Exact, Long}

-- The map m with the fields number, command, option, label, place, target and drive state.
abbrev pub held : ℕ → Option ℕ → Option ℕ → Option ℕ → Option (List ℕ) → Option ℕ → Option ℕ → Option ℕ → Fields
held m n c o l p t d = record { map = m; number = n; command = c; option = o; label = l; place = p; target = t; drive_state = d }

-- The map alone.
abbrev pub map_alone : ℕ → Fields
map_alone m = held m None None None None None None None

-- The fields with one more.
abbrev pub with_number : Fields → Option ℕ → Fields
with_number f x = held f.map x f.command f.option f.label f.place f.target f.drive_state

abbrev pub with_command : Fields → Option ℕ → Fields
with_command f x = held f.map f.number x f.option f.label f.place f.target f.drive_state

abbrev pub with_option : Fields → Option ℕ → Fields
with_option f x = held f.map f.number f.command x f.label f.place f.target f.drive_state

abbrev pub with_label : Fields → Option (List ℕ) → Fields
with_label f x = held f.map f.number f.command f.option x f.place f.target f.drive_state

abbrev pub with_place : Fields → Option ℕ → Fields
with_place f x = held f.map f.number f.command f.option f.label x f.target f.drive_state

abbrev pub with_target : Fields → Option ℕ → Fields
with_target f x = held f.map f.number f.command f.option f.label f.place x f.drive_state

abbrev pub with_state : Fields → Option ℕ → Fields
with_state f x = held f.map f.number f.command f.option f.label f.place f.target x

-- The packet ends before a field: what was taken so far.
abbrev pub short_of : Fields → Taken
short_of f = record { fields = f; ending = Short }

-- The bytes left behind the last field.
abbrev pub ending_of : List ℕ → Ending
ending_of [] = Exact
ending_of (b ∷ bs) = Long

-- The fields taken, with the bytes left behind them, or with none where the packet ended before one.
abbrev pub ended : Fields → Option (Bor (List ℕ)) → Taken
ended f None = short_of f
ended f (Some r) = record { fields = f; ending = ending_of r.now }

-- What comes of a packet with the field that was cut off and the bytes behind it, or without it.
abbrev pub next : {X : Type 0} → Option (X × List ℕ) → Fields → (X → List ℕ → Taken) → Taken
next None f on = short_of f
next (Some p) f on = on p.0 p.1

-- What is taken from a field on, behind the fields f. Bit 6, the drive state, is the last.
abbrev pub from_state : Fields → List ℕ → Taken
from_state f bs = next (one_off (has_bit f.map 64) bs) f (λ d rest. record { fields = with_state f d; ending = ending_of rest })

-- Bit 5, the target request number.
abbrev pub from_target : Fields → List ℕ → Taken
from_target f bs = next (two_off (has_bit f.map 32) bs) f (λ t. from_state (with_target f t))

-- Bit 4, the place.
abbrev pub from_place : Fields → List ℕ → Taken
from_place f bs = next (one_off (has_bit f.map 16) bs) f (λ p. from_target (with_place f p))

-- Bit 3, the label.
abbrev pub from_label : Fields → List ℕ → Taken
from_label f bs = next (six_off (has_bit f.map 8) bs) f (λ l. from_place (with_label f l))

-- Bit 2, the option.
abbrev pub from_option : Fields → List ℕ → Taken
from_option f bs = next (one_off (has_bit f.map 4) bs) f (λ o. from_label (with_option f o))

-- Bit 1, the command.
abbrev pub from_command : Fields → List ℕ → Taken
from_command f bs = next (one_off (has_bit f.map 2) bs) f (λ c. from_option (with_command f c))

-- Bit 0, the request number.
abbrev pub from_number : Fields → List ℕ → Taken
from_number f bs = next (two_off (has_bit f.map 1) bs) f (λ n. from_command (with_number f n))

-- The map byte comes first.
abbrev pub taken : List ℕ → Taken
taken [] = short_of (map_alone 0)
taken (m ∷ bs) = from_number (map_alone m) bs

-- Each field is there exactly where its bit stands, and the map is a byte.
pub record Stands (f : Fields) : Type 0 where
  pub number : is_some f.number ≡ has_bit f.map 1
  pub command : is_some f.command ≡ has_bit f.map 2
  pub option : is_some f.option ≡ has_bit f.map 4
  pub label : is_some f.label ≡ has_bit f.map 8
  pub place : is_some f.place ≡ has_bit f.map 16
  pub target : is_some f.target ≡ has_bit f.map 32
  pub state : is_some f.drive_state ≡ has_bit f.map 64
  pub byte : f.map < 256
