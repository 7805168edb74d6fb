-- A table that is filled place by place.
use Rattle.std.proofs.Common.{◌≡◌, ℕ, zero, suc, ◌+◌, ◌≤◌, List, [], ◌∷◌, map, length, get_or, set, replicate, sym, refl, ap, ◌∙◌, add-one, arith}
use Rattle.std.proofs.lemmas.List.{set-get_or}
use Rattle.robots.specs.declared.place.Place.{Place}
use Rattle.robots.specs.Making.{place_cartridge}

-- What the first i places hold, and none of the others.
abbrev pub filled : ℕ → List Place → List ℕ
filled i [] = []
filled zero (x ∷ xs) = 0 ∷ filled zero xs
filled (suc i) (x ∷ xs) = x.cartridge ∷ filled i xs

pub filled_none : (xs : List Place) → filled 0 xs ≡ replicate {A = ℕ} (length xs) 0
filled_none [] = refl
filled_none (x ∷ xs) = ap (λ (z : List ℕ). 0 ∷ z) (filled_none xs)

pub filled_here : (xs : List Place) (i : ℕ) → get_or (filled i xs) i 0 ≡ 0
filled_here [] i = refl
filled_here (x ∷ xs) zero = refl
filled_here (x ∷ xs) (suc i) = filled_here xs i

filled_next : (xs : List Place) (i : ℕ) (d : Place) → filled (suc i) xs ≡ set (filled i xs) i (get_or xs i d).cartridge
filled_next [] i d = refl
filled_next (x ∷ xs) zero d = refl
filled_next (x ∷ xs) (suc i) d = ap (λ (z : List ℕ). x.cartridge ∷ z) (filled_next xs i d)

pub filled_more : (xs : List Place) (i : ℕ) (d : Place) → set (filled i xs) i (get_or xs i d).cartridge ≡ filled (i + 1) xs
filled_more xs i d = rw add-one (sym (filled_next xs i d))

pub filled_all : (xs : List Place) (i : ℕ) → length xs ≤ i → filled i xs ≡ map place_cartridge xs
filled_all [] i h = refl
filled_all (x ∷ xs) zero h = absurd (omega arith)
filled_all (x ∷ xs) (suc i) h = ap (λ (z : List ℕ). x.cartridge ∷ z) (filled_all xs i (omega arith))

-- One turn: the place's cartridge is added, or it has none.
pub filled_with : (xs : List Place) (i : ℕ) (d : Place) (held now : List ℕ) → held ≡ filled i xs → now ≡ set held i (get_or xs i d).cartridge → now ≡ filled (i + 1) xs
filled_with xs i d held now e f = f ∙ ap (λ (z : List ℕ). set z i (get_or xs i d).cartridge) e ∙ filled_more xs i d

pub filled_without : (xs : List Place) (i : ℕ) (d : Place) (held : List ℕ) → held ≡ filled i xs → (get_or xs i d).cartridge ≡ 0 → held ≡ filled (i + 1) xs
filled_without xs i d held e z =
    let a : set (filled i xs) i 0 ≡ filled i xs = ap (λ (k : ℕ). set (filled i xs) i k) (sym (filled_here xs i)) ∙ set-get_or (filled i xs) i 0 in
    e ∙ sym a ∙ ap (λ (k : ℕ). set (filled i xs) i k) (sym z) ∙ filled_more xs i d

pub filled_empty : (xs : List Place) (i : ℕ) (held : List ℕ) → held ≡ filled i xs → get_or held i 0 ≡ 0
filled_empty xs i held e = ap (λ (l : List ℕ). get_or l i 0) e ∙ filled_here xs i
