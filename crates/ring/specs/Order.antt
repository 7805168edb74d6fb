-- How the slots of a ring are read in order, over its bare parts.
use Rattle.std.specs.Prelude.{ℕ, ◌+◌, ◌-◌, Bool, false, cond, ◌||◌, List, [], ◌∷◌, ◌++◌, take, drop, Option, nat_lt}
use Rattle.std.specs.List.{slice_get}

-- The records, the oldest first: `count` of the slots in use, read from `head` on and then again from the first.
unfoldable pub in_order : {X : Type 0} → ℕ → ℕ → ℕ → List X → List X
in_order capacity head count slots = take count (drop head (take capacity slots) ++ take capacity slots)

-- The slot of the i-th oldest.
abbrev pub slot_of : ℕ → ℕ → ℕ → ℕ
slot_of capacity head i = cond (nat_lt i (capacity - head)) (head + i) (i - (capacity - head))

-- The first of a list, if there is one.
abbrev pub first : {X : Type 0} → List X → Option X
first xs = slice_get xs 0

-- A list without its first.
abbrev pub rest : {X : Type 0} → List X → List X
rest [] = []
rest (x ∷ xs) = xs

-- Whether some element passes the test.
abbrev pub any_of : {X : Type 0} → (X → Bool) → List X → Bool
any_of p [] = false
any_of p (x ∷ xs) = p x || any_of p xs
