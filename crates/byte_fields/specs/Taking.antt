-- Fields off the front of a packet.
use Rattle.std.specs.Prelude.{ℕ, ◌+◌, ◌*◌, ◌/◌, ◌%◌, ◌<◌, Bool, true, false, List, [], ◌∷◌, Some, None, Option, ◌==◌}
use Rattle.std.specs.Borrow.{Bor}

-- Whether the bit that is worth w stands in the map m.
abbrev pub has_bit : ℕ → ℕ → Bool
has_bit m w = m / w % 2 == 1

-- A field that is not there takes no bytes. One that is there is cut off the front, unless the bytes end before it.
abbrev pub one_off : Bool → List ℕ → Option (Option ℕ × List ℕ)
one_off false bs = Some (None, bs)
one_off true [] = None
one_off true (b ∷ bs) = Some (Some b, bs)

-- The high byte is the first.
abbrev pub two_off : Bool → List ℕ → Option (Option ℕ × List ℕ)
two_off false bs = Some (None, bs)
two_off true [] = None
two_off true (a ∷ []) = None
two_off true (a ∷ b ∷ bs) = Some (Some (a * 256 + b), bs)

abbrev pub six_off : Bool → List ℕ → Option (Option (List ℕ) × List ℕ)
six_off false bs = Some (None, bs)
six_off true [] = None
six_off true (a ∷ []) = None
six_off true (a ∷ b ∷ []) = None
six_off true (a ∷ b ∷ c ∷ []) = None
six_off true (a ∷ b ∷ c ∷ d ∷ []) = None
six_off true (a ∷ b ∷ c ∷ d ∷ e ∷ []) = None
six_off true (a ∷ b ∷ c ∷ d ∷ e ∷ f ∷ bs) = Some (Some (a ∷ b ∷ c ∷ d ∷ e ∷ f ∷ []), bs)

-- What a function returned, with the bytes that its slice holds.
abbrev pub seen : {X : Type 0} → Option (X × Bor (List ℕ)) → Option (X × List ℕ)
seen None = None
seen (Some p) = Some (p.0, p.1.now)

-- The same of a function that cuts off a field that has to be there.
abbrev pub found : {X : Type 0} → Option (X × Bor (List ℕ)) → Option (Option X × List ℕ)
found None = None
found (Some p) = Some (Some p.0, p.1.now)

-- Each is a byte.
abbrev pub Bytes : List ℕ → Type 0
Bytes [] = Unit {0}
Bytes (b ∷ bs) = (b < 256) × Bytes bs
