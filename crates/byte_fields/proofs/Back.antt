-- A field that was put is taken off again as it was.
use Rattle.std.proofs.Common.{◌≡◌, ℕ, List, ◌++◌, length, is_some, Some, None, Option, sym, refl}
use Rattle.byte_fields.specs.Again.{two_again, six_again}
use Rattle.byte_fields.specs.Taking.{one_off, two_off, six_off}
use Rattle.byte_fields.specs.Putting.{one_bytes, two_bytes, six_bytes}

pub one_back : (o : Option ℕ) (rest : List ℕ) → Some (o, rest) ≡ one_off (is_some o) (one_bytes o ++ rest)
one_back None rest = refl
one_back (Some b) rest = refl

pub two_back : (o : Option ℕ) (rest : List ℕ) → Some (o, rest) ≡ two_off (is_some o) (two_bytes o ++ rest)
two_back None rest = refl
two_back (Some n) rest = sym (two_again n rest)

-- A label's field has six bytes.
abbrev pub Six : Option (List ℕ) → Type 0
Six None = Unit {0}
Six (Some l) = length l ≡ 6

pub six_back : (o : Option (List ℕ)) (rest : List ℕ) → Six o → Some (o, rest) ≡ six_off (is_some o) (six_bytes o ++ rest)
six_back None rest h = refl
six_back (Some l) rest h = sym (six_again l rest h)
