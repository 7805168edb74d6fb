-- A packet's length against what its map says.
use Rattle.std.specs.Prelude.{◌≡◌, ℕ, ◌+◌, ◌<◌, Bool, cond, List, [], ◌∷◌, length, Ok, Err, Result}
use Rattle.byte_fields.specs.Taking.{has_bit}
use Rattle.statuses.specs.declared.Status.TheVariants as status
use Rattle.statuses.specs.Statuses.{status_number}
use Rattle.requests.specs.declared.bodies.Request.{Request}
use Rattle.requests.specs.declared.refusals.BadPacket.{BadPacket}
use Rattle.requests.specs.Refusals.{cause_status}

-- The width of a field, 0 where its bit does not stand.
abbrev pub width_if : Bool → ℕ → ℕ
width_if there w = cond there w 0

-- The width of the fields that the map m says.
abbrev pub width_of : ℕ → ℕ
width_of m =
    width_if (has_bit m 1) 2 + (width_if (has_bit m 2) 1 + (width_if (has_bit m 4) 1 + (width_if (has_bit m 8) 6
    + (width_if (has_bit m 16) 1 + (width_if (has_bit m 32) 2 + width_if (has_bit m 64) 1)))))

-- A packet is a map byte and its fields. The empty packet is shorter than any.
abbrev pub Shorter : List ℕ → Type 0
Shorter [] = Unit {0}
Shorter (m ∷ bs) = length (m ∷ bs) < 1 + width_of m

abbrev pub Longer : List ℕ → Type 0
Longer [] = ⊥
Longer (m ∷ bs) = 1 + width_of m < length (m ∷ bs)

-- The number of the status that a packet is answered by.
abbrev pub answered_with : Result Request BadPacket → ℕ
answered_with (Ok r) = status_number status.Success
answered_with (Err e) = status_number (cause_status e.cause)

-- The one holds exactly where the other does.
abbrev pub Exactly : Type 0 → Type 0 → Type 0
Exactly P Q = (P → Q) × (Q → P)

-- Status 1 is told exactly of the packets that are empty or shorter than their map says, 2 exactly of those that are longer.
pub record LengthTold (p : List ℕ) (r : Result Request BadPacket) : Type 0 where
  pub short : Exactly (answered_with r ≡ 1) (Shorter p)
  pub long : Exactly (answered_with r ≡ 2) (Longer p)
