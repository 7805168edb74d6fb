use Rattle.std.proofs.Common.{◌≡◌, ℕ, zero, suc, ◌+◌, ◌<◌, ◌≤◌, Bool, true, false, ◌||◌, List, [], ◌∷◌, ◌++◌, map, length, drop, set, Some, None, sym, ap, ◌∙◌, arith}
use Rattle.std.specs.List.{slice_get}
use Rattle.std.proofs.lemmas.List.{drop_all, take_all, append-nil, length-map, length-append, length-take, length-drop}
use Rattle.ring.proofs.Partly.{partly}
use Rattle.ring.specs.Order.{any_of}

no_one : {X : Type 0} (x : X) → None ≡ Some x → ⊥
no_one x e = let z : ◌≡◌ {A = ℕ} 0 1 = cc in omega arith

next : (i : ℕ) → suc i + 1 ≡ suc (i + 1)
next i = omega arith

-- the i-th stands in front of what is left from i on
pub drop_nth : {X : Type 0} (xs : List X) (i : ℕ) (x : X) → slice_get xs i ≡ Some x → drop i xs ≡ x ∷ drop (i + 1) xs
drop_nth [] i x e = absurd (no_one x e)
drop_nth (y ∷ ys) zero x e = let s : y ≡ x = cc in ap (λ z. z ∷ ys) s
drop_nth (y ∷ ys) (suc i) x e = drop_nth ys i x e ∙ ap (λ (n : ℕ). x ∷ drop n (y ∷ ys)) (sym (next i))

pub set_nth : {X : Type 0} (xs : List X) (i : ℕ) (x : X) → slice_get xs i ≡ Some x → set xs i x ≡ xs
set_nth [] i x e = absurd (no_one x e)
set_nth (y ∷ ys) zero x e = let s : x ≡ y = cc in ap (λ z. z ∷ ys) s
set_nth (y ∷ ys) (suc i) x e = ap (λ zs. y ∷ zs) (set_nth ys i x e)

pub partly_more : {X : Type 0} (f : X → X) (xs : List X) (i : ℕ) (x : X) → slice_get (partly f i xs) i ≡ Some x → set (partly f i xs) i (f x) ≡ partly f (i + 1) xs
partly_more f [] zero x e = absurd (no_one x e)
partly_more f [] (suc i) x e = absurd (no_one x e)
partly_more f (y ∷ ys) zero x e = let s : x ≡ y = cc in ap (λ z. f z ∷ ys) s
partly_more f (y ∷ ys) (suc i) x e =
    ap (λ zs. f y ∷ zs) (partly_more f ys i x e) ∙ ap (λ (n : ℕ). partly f n (y ∷ ys)) (sym (next i))

pub partly_all : {X : Type 0} (f : X → X) (xs : List X) (i : ℕ) → length xs ≤ i → partly f i xs ≡ map f xs
partly_all f xs i h =
    ap (λ zs. map f zs ++ drop i xs) (take_all i xs h) ∙ ap (λ zs. map f xs ++ zs) (drop_all i xs h) ∙ append-nil (map f xs)

pub length_partly : {X : Type 0} (f : X → X) (xs : List X) (i : ℕ) → i ≤ length xs → length (partly f i xs) ≡ length xs
length_partly f xs i h =
    simp (length-append, length-map, length-take, length-drop) (omega arith)

pub nth_there : {X : Type 0} (xs : List X) (i : ℕ) → i < length xs → slice_get xs i ≡ None → ⊥
nth_there [] i h e = omega arith
nth_there (x ∷ xs) zero h e = no_one x (sym e)
nth_there (x ∷ xs) (suc i) h e = nth_there xs i (omega arith) e

pub or_left : (a b : Bool) → a ≡ true → (a || b) ≡ true
or_left a b e = ap (λ t. t || b) e

pub or_right : (a b : Bool) → a ≡ false → (a || b) ≡ b
or_right a b e = ap (λ t. t || b) e

pub any_of_nth : {X : Type 0} (p : X → Bool) (xs : List X) (i : ℕ) (x : X) → slice_get xs i ≡ Some x → any_of p (drop i xs) ≡ (p x || any_of p (drop (i + 1) xs))
any_of_nth p xs i x e = ap (λ zs. any_of p zs) (drop_nth xs i x e)

pub any_of_none : {X : Type 0} (p : X → Bool) (xs : List X) (i : ℕ) → length xs ≤ i → any_of p (drop i xs) ≡ false
any_of_none p xs i h = ap (λ zs. any_of p zs) (drop_all i xs h)

pub each_more : {X : Type 0} (f : X → X) (xs zs : List X) (i : ℕ) (x y : X) → zs ≡ partly f i xs → slice_get zs i ≡ Some x → y ≡ f x → set zs i y ≡ partly f (i + 1) xs
each_more f xs zs i x y z e h =
    ap (λ v. set zs i v) h ∙ ap (λ ys. set ys i (f x)) z ∙ partly_more f xs i x (ap (λ ys. slice_get ys i) (sym z) ∙ e)
