-- A field that was put is cut off again as it was: the laws of fields by their lemmas.
use Rattle.std.proofs.Common.{◌≡◌, ℕ, true, ◌+◌, ◌*◌, ◌/◌, ◌%◌, List, [], ◌∷◌, ◌++◌, length, Some, refl, arith}
use Rattle.byte_fields.specs.Taking.{two_off, six_off}
use Rattle.byte_fields.specs.Putting.{two_bytes, six_bytes}

pub two_again : (n : ℕ) (rest : List ℕ) → two_off true (two_bytes (Some n) ++ rest) ≡ Some (Some n, rest)
two_again n rest = let e : n / 256 * 256 + n % 256 ≡ n = omega arith in rw e

pub six_again : (l rest : List ℕ) → length l ≡ 6 → six_off true (six_bytes (Some l) ++ rest) ≡ Some (Some l, rest)
six_again [] rest h = absurd (omega arith)
six_again (u ∷ []) rest h = absurd (omega arith)
six_again (u ∷ v ∷ []) rest h = absurd (omega arith)
six_again (u ∷ v ∷ w ∷ []) rest h = absurd (omega arith)
six_again (u ∷ v ∷ w ∷ x ∷ []) rest h = absurd (omega arith)
six_again (u ∷ v ∷ w ∷ x ∷ y ∷ []) rest h = absurd (omega arith)
six_again (u ∷ v ∷ w ∷ x ∷ y ∷ z ∷ []) rest h = refl
six_again (u ∷ v ∷ w ∷ x ∷ y ∷ z ∷ q ∷ r) rest h = absurd (omega arith)
