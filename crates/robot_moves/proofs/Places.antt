-- Searches among the places.
use Rattle.std.proofs.Common.{◌≡◌, ℕ, zero, suc, ◌+◌, ◌-◌, ◌≤◌, true, false, cond, List, [], ◌∷◌, ◌++◌, count_by, Some, None, sym, refl, ap, ◌∙◌, ⊎_elim, add-zero, zero-add, arith}
use Rattle.std.proofs.lemmas.Bool.{le-ltb, cases_Bool}
use Rattle.std.proofs.lemmas.List.Sums.{sum_by-cons}
use Rattle.std.specs.List.{range_with_len}
use Rattle.robots.specs.Meaning.{Meaning, count}
use Rattle.robot_moves.specs.declared.search.Wanted.{Wanted}
use Rattle.robot_moves.specs.declared.search.Wanted.TheVariants.{FreeCell}
use Rattle.robot_moves.specs.Search.{passes, first_of, next_free_cell, of_kind, is_port, ports_among, up_to}

-- The ports that there are, in the library's words.
pub ports_counted : (m : Meaning) (ps : List ℕ) → count_by (of_kind is_port m) ps ≡ ports_among m ps
ports_counted m [] = refl
ports_counted m (p ∷ ps) = sum_by-cons (λ x. cond (of_kind is_port m x) 1 0) p ps ∙ ap (λ n. cond (of_kind is_port m p) 1 0 + n) (ports_counted m ps)

-- What a search finds is what it looks for.
pub first_passes : (w : Wanted) (m : Meaning) (xs : List ℕ) (i : ℕ) → first_of w m xs ≡ Some i → passes w m i ≡ true
first_passes w m [] i e = let z : ◌≡◌ {A = ℕ} 0 1 = cc in absurd (omega arith)
first_passes w m (x ∷ xs) i e =
    ⊎_elim
    (λ (t : passes w m x ≡ true). let h : Some x ≡ Some i = rw t at e in let k : x ≡ i = cc in rw (← k) t)
    (λ (t : passes w m x ≡ false). first_passes w m xs i (rw t at e))
    (cases_Bool (passes w m x))

-- The first in two lists of places, one behind the other.
first_end : (w : Wanted) (m : Meaning) (xs ys : List ℕ) → first_of w m ys ≡ None → first_of w m (xs ++ ys) ≡ first_of w m xs
first_end w m [] ys e = e
first_end w m (x ∷ xs) ys e = let ih = first_end w m xs ys e in rw ih refl

-- Past the last place no cell is free.
none_past : (m : Meaning) (a n : ℕ) → count m ≤ a → first_of FreeCell m (range_with_len a n) ≡ None
none_past m a zero h = refl
none_past m a (suc n) h = rw (le-ltb a (count m) h) (none_past m (a + 1) n (omega arith))

counting_more : (a n k : ℕ) → range_with_len a (n + k) ≡ range_with_len a n ++ range_with_len (a + n) k
counting_more a zero k = rw (zero-add, add-zero) refl
counting_more a (suc n) k =
    let e : suc n + k ≡ suc (n + k) = omega arith in
    let d : a + suc n ≡ (a + 1) + n = omega arith in
    rw (e, d) (ap (λ (z : List ℕ). a ∷ z) (counting_more (a + 1) n k))

-- From a number past the last place the search is over all places.
pub from_past : (m : Meaning) (p : ℕ) → count m ≤ p → first_of FreeCell m (up_to 0 (count m)) ≡ next_free_cell m p
from_past m p h =
    let a : count m - (p + 1) ≡ 0 = omega arith in
    let b : (p + 1) - 0 ≡ (count m - 0) + (p + 1 - count m) = omega arith in
    let d = counting_more 0 (count m - 0) (p + 1 - count m) in
    let n : first_of FreeCell m (range_with_len (0 + (count m - 0)) (p + 1 - count m)) ≡ None = none_past m (0 + (count m - 0)) (p + 1 - count m) (omega arith) in
    rw (a, b, d) (sym (first_end FreeCell m (range_with_len 0 (count m - 0)) (range_with_len (0 + (count m - 0)) (p + 1 - count m)) n))
