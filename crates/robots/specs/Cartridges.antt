-- How many cartridges of each number there are.
use Rattle.std.specs.Prelude.{◌≡◌, ℕ, ◌+◌, ◌<◌, cond, List, [], ◌∷◌, ◌==◌}
use Rattle.robots.specs.Meaning.{Meaning}

-- How often k stands in a list.
abbrev pub tally : ℕ → List ℕ → ℕ
tally k [] = 0
tally k (x ∷ xs) = cond (x == k) 1 0 + tally k xs

-- How many cartridges of number k the hand and the places hold.
abbrev pub cartridges_of : ℕ → Meaning → ℕ
cartridges_of k m = tally k (m.hand ∷ m.held)

-- Neither lost nor made: of each number there are as many as before.
abbrev pub SameCartridges : Meaning → Meaning → Type 0
SameCartridges before after = (k : ℕ) → cartridges_of k after ≡ cartridges_of k before

-- One cartridge of this number more, and of every other number as many as before.
abbrev pub OneMore : ℕ → Meaning → Meaning → Type 0
OneMore number before after = (k : ℕ) → 0 < k → cartridges_of k after ≡ cartridges_of k before + cond (number == k) 1 0

-- One fewer: with it there were as many.
abbrev pub OneFewer : ℕ → Meaning → Meaning → Type 0
OneFewer number before after = OneMore number after before
