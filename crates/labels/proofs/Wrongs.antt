-- The search for the first wrong character.
use Rattle.std.proofs.Common.{◌≡◌, ℕ, zero, suc, ◌+◌, ◌<◌, ◌≤◌, Bool, true, false, cond, not, List, [], ◌∷◌, length, get_or, drop, is_some, Some, None, Option, sym, refl, ap, le_of_suc-le-suc, not-suc-le-zero, add-one, arith, drop-cons}
use Rattle.std.proofs.lemmas.List.{drop_all}
use Rattle.labels.specs.Characters.{right, first_wrong, all_right}

-- The character at i is right.
pub past : (l : List ℕ) (i : ℕ) → i < length l → right (get_or l i 0) ≡ true → first_wrong i (drop i l) ≡ first_wrong (i + 1) (drop (i + 1) l)
past l i h e = rw (add-one, drop-cons l i 0, e)

-- The character at i is wrong.
pub here : (l : List ℕ) (i : ℕ) → i < length l → right (get_or l i 0) ≡ false → first_wrong i (drop i l) ≡ Some i
here l i h e = rw (drop-cons l i 0, e)

-- No character is left.
pub none_left : (l : List ℕ) (i : ℕ) → length l ≤ i → first_wrong i (drop i l) ≡ None
none_left l i h = let e : drop i l ≡ [] = drop_all i l h in rw e

pub some_none : {X : Type 0} (x : X) → Some x ≡ None → ⊥
some_none x h = let z : ◌≡◌ {A = ℕ} 0 1 = cc in omega arith

pub true_false : true ≡ false → ⊥
true_false h = let z : ◌≡◌ {A = ℕ} 0 1 = cc in omega arith

right_on : (i b : ℕ) (bs : List ℕ) (t : Bool) → right b ≡ t → cond t (first_wrong (suc i) bs) (Some i) ≡ None → (right b ≡ true) × (first_wrong (suc i) bs ≡ None)
right_on i b bs true e h = (e, h)
right_on i b bs false e h = absurd (some_none i h)

-- Where none is wrong, the one at k is right.
pub right_at_holds : (i : ℕ) (l : List ℕ) (k : ℕ) → first_wrong i l ≡ None → k < length l → right (get_or l k 0) ≡ true
right_at_holds i [] k e h = absurd (not-suc-le-zero h)
right_at_holds i (b ∷ bs) zero e h = (right_on i b bs (right b) refl e).0
right_at_holds i (b ∷ bs) (suc k) e h = right_at_holds (suc i) bs k (right_on i b bs (right b) refl e).1 (le_of_suc-le-suc h)

no_wrong : (o : Option ℕ) → not (is_some o) ≡ true → o ≡ None
no_wrong None h = refl
no_wrong (Some i) h = absurd (true_false (sym h))

-- A label's characters: none is wrong.
pub none_wrong : (l : List ℕ) → all_right l ≡ true → first_wrong 0 l ≡ None
none_wrong l h = no_wrong (first_wrong 0 l) h

pub all_right_holds : (l : List ℕ) → first_wrong 0 l ≡ None → all_right l ≡ true
all_right_holds l h = ap (λ (o : Option ℕ). not (is_some o)) h
