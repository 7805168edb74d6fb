-- An array that is made by a function of the index.
use Rattle.std.proofs.Common.{◌≡◌, ℕ, zero, suc, ◌+◌, ◌<◌, ◌≤◌, List, get_or, subst, ◌∙◌, ⊎_elim, arith}
use Rattle.std.specs.Array.{IsFromFnResult, IsFromFnResultFrom}
use Rattle.std.specs.Fn.{Called, Mut}
use Rattle.std.proofs.lemmas.Bool.{cases_eq}
use Rattle.std.proofs.lemmas.List.FromFn.{fill_by_all}
use Rattle.robots.specs.Meaning.{Meaning}
use Rattle.stock.specs.Holding.{shown_at, inventory_of}

-- Each of n elements from i on is what h gives, where each call of f does, and leaves f as it was.
each_at : {F : Type 0} (g : Mut F (ℕ × Unit {0}) ℕ) (h : ℕ → ℕ) (f : F) → ((i y : ℕ) (q : F) → Called g f (i, tt) y q → (q ≡ f) × (y ≡ h i)) → (ys : List ℕ) (n i k : ℕ) → IsFromFnResultFrom g f ys i n → i ≤ k → k < i + n → get_or ys k 0 ≡ h k
each_at g h f says ys zero i k w a b = absurd (omega arith)
each_at {F} g h f says ys (suc n) i k (q, y, e, c, rest) a b =
    let s = says i y q c in
    let P : F → Type 0 = λ p. IsFromFnResultFrom g p ys (i + 1) n in
    ⊎_elim
    (λ (z : k ≡ i). rw z (e.1 0 ∙ s.1))
    (λ (z : k ≡ i → ⊥). each_at g h f says ys n (i + 1) k (subst P s.0 rest) (omega arith) (omega arith))
    (cases_eq k i)

pub all_shown : {F : Type 0} (g : Mut F (ℕ × Unit {0}) ℕ) (m : Meaning) (f : F) → ((i y : ℕ) (q : F) → Called g f (i, tt) y q → (q ≡ f) × (y ≡ shown_at m i)) → (ys : List ℕ) → IsFromFnResult g f ys 256 → ys ≡ inventory_of m
unfolding inventory_of
all_shown g m f says ys w = fill_by_all (shown_at m) ys 256 0 w.long (λ k l. each_at g (shown_at m) f says ys 256 0 k w.each (omega arith) (omega arith))
