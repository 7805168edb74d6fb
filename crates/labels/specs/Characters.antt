-- Which characters make a label.
use Rattle.std.specs.Prelude.{ℕ, suc, Bool, true, false, cond, not, List, [], ◌∷◌, is_some, Some, None, Option, nat_le}

-- A right character is one of 0 to 9 (codes 48 to 57) or A to Z (65 to 90).
abbrev pub right : ℕ → Bool
right b = cond (cond (nat_le 48 b) (nat_le b 57) false) true (cond (nat_le 65 b) (nat_le b 90) false)

-- The place of the first wrong character, where the first of the list stands at i.
abbrev pub first_wrong : ℕ → List ℕ → Option ℕ
first_wrong i [] = None
first_wrong i (b ∷ bs) = cond (right b) (first_wrong (suc i) bs) (Some i)

-- No character is wrong.
abbrev pub all_right : List ℕ → Bool
all_right l = not (is_some (first_wrong 0 l))
