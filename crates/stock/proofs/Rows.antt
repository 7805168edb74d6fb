-- The rows of a label, in the library's words.
use Rattle.std.proofs.Common.{◌≡◌, ℕ, suc, ◌+◌, ◌<◌, Bool, true, false, cond, eqb, List, [], ◌∷◌, length, get_or, drop, Some, None, Option, refl, ◌∙◌, ⊎_elim, arith}
use Rattle.std.specs.List.{list_any, position_from}
use Rattle.std.proofs.lemmas.Bool.{cases_Bool}
use Rattle.stock.specs.declared.catalogue.Filed.{Filed}
use Rattle.stock.specs.declared.catalogue.Volume.{Volume}
use Rattle.stock.specs.declared.catalogue.Volume.TheVariants.{One, Several}
use Rattle.stock.specs.Filing.{volume_from, volume_of}

abbrev pub has : ℕ → Filed → Bool
has k row = eqb row.number k

-- Once one row is seen, another makes several.
rest_from : (v : Volume) (i : ℕ) (xs : List Filed) (k : ℕ) → volume_from i xs k (Some v) ≡ cond (list_any (has k) xs) (Some Several) (Some v)
rest_from v i [] k = refl
rest_from v i (x ∷ xs) k =
    let a = rest_from Several (i + 1) xs k in
    ⊎_elim
    (λ (h : eqb x.number k ≡ true). rw (h, a) (⊎_elim (λ (z : list_any (has k) xs ≡ true). rw z refl) (λ (z : list_any (has k) xs ≡ false). rw z refl) (cases_Bool (list_any (has k) xs))))
    (λ (h : eqb x.number k ≡ false). rw h (rest_from v (i + 1) xs k))
    (cases_Bool (eqb x.number k))

-- The first row is n rows behind i.
first_from : (i : ℕ) (xs : List Filed) (k j : ℕ) (d : Filed) → position_from (has k) i xs ≡ Some j → (n : ℕ) × (j ≡ i + n) × (n < length xs) × (volume_from i xs k None ≡ cond (list_any (has k) (drop (suc n) xs)) (Some Several) (Some (One (record { index = j; place = (get_or xs n d).place }))))
first_from i [] k j d e = let z : ◌≡◌ {A = ℕ} 0 1 = cc in absurd (omega arith)
first_from i (x ∷ xs) k j d e =
    ⊎_elim
    (λ (h : eqb x.number k ≡ true).
    let z : Some i ≡ Some j = rw h at e in
    let q : i ≡ j = cc in
    (0, omega arith, omega arith, rw (h, q) (rest_from (One (record { index = j; place = x.place })) (j + 1) xs k)))
    (λ (h : eqb x.number k ≡ false).
    let w = first_from (i + 1) xs k j d (rw h at e) in
    (suc w.0, omega (arith, w.1), omega (arith, w.2), rw h w.3))
    (cases_Bool (eqb x.number k))

none_from : (i : ℕ) (xs : List Filed) (k : ℕ) → position_from (has k) i xs ≡ None → volume_from i xs k None ≡ None
none_from i [] k e = refl
none_from i (x ∷ xs) k e =
    ⊎_elim
    (λ (h : eqb x.number k ≡ true). let z : ◌≡◌ {A = Option ℕ} (Some i) None = rw h at e in let y : ◌≡◌ {A = ℕ} 0 1 = cc in absurd (omega arith))
    (λ (h : eqb x.number k ≡ false). rw h (none_from (i + 1) xs k (rw h at e)))
    (cases_Bool (eqb x.number k))

pub none_found : (xs : List Filed) (k : ℕ) → position_from (has k) 0 xs ≡ None → volume_of xs k ≡ None
none_found xs k e = none_from 0 xs k e

-- Here b tells whether another row follows.
pub first_found : (xs : List Filed) (k j : ℕ) (d : Filed) (b : Bool) → position_from (has k) 0 xs ≡ Some j → b ≡ list_any (has k) (drop (j + 1) xs) → volume_of xs k ≡ cond b (Some Several) (Some (One (record { index = j; place = (get_or xs j d).place })))
first_found xs k j d b e a =
    let w = first_from 0 xs k j d e in
    let n : w.0 ≡ j = omega (arith, w.1) in
    let s : suc w.0 ≡ j + 1 = omega (arith, w.1) in
    w.3 ∙ rw (s, n, a) refl
