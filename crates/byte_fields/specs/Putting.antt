-- Fields put into a buffer.
use Rattle.std.specs.Prelude.{◌≡◌, ℕ, ◌+◌, ◌/◌, ◌%◌, List, [], ◌∷◌, ◌++◌, length, take, drop, Some, None, Option}

-- The bytes of a field, none where it is not there.
abbrev pub one_bytes : Option ℕ → List ℕ
one_bytes None = []
one_bytes (Some b) = b ∷ []

-- The high byte is the first.
abbrev pub two_bytes : Option ℕ → List ℕ
two_bytes None = []
two_bytes (Some n) = n / 256 ∷ n % 256 ∷ []

abbrev pub six_bytes : Option (List ℕ) → List ℕ
six_bytes None = []
six_bytes (Some l) = l

-- xs with the bytes bs written over it from the place at on.
abbrev pub over : ℕ → List ℕ → List ℕ → List ℕ
over at bs xs = take at xs ++ (bs ++ drop (at + length bs) xs)

-- A buffer that held xs holds ys: the bytes bs were written from the place at on, and end at the place r.
pub record Wrote (at : ℕ) (bs xs ys : List ℕ) (r : ℕ) : Type 0 where
  pub bytes : ys ≡ over at bs xs
  pub end : r ≡ at + length bs
