-- What a lookup in the catalogue tells of its rows.
use Rattle.std.proofs.Common.{◌≡◌, ℕ, zero, suc, ◌+◌, ◌-◌, ◌<◌, ◌≤◌, Bool, true, false, cond, ◌&&◌, eqb, List, [], ◌∷◌, length, get_or, Some, None, Option, sym, refl, ap, ◌∙◌, subst, arith}
use mathlib.Core.Path.{subst⁻¹}
use Rattle.std.proofs.lemmas.Bool.{eqb-true, eq-eqb}
use Rattle.stock.specs.declared.catalogue.Filed.{Filed}
use Rattle.stock.specs.declared.catalogue.Row.{Row}
use Rattle.stock.specs.declared.catalogue.Volume.{Volume}
use Rattle.stock.specs.declared.catalogue.Volume.TheVariants.{One, Several}
use Rattle.stock.specs.Filing.{index_from, index_of, no_row, one_more, volume_from, volume_of}
use Rattle.site.specs.Catalogues.{filings}

-- The row i of a catalogue is that of k at p.
pub record RowAt (xs : List Filed) (i k p : ℕ) : Type 0 where
  pub within : i < length xs
  pub is : get_or xs i no_row ≡ record { number = k; place = p }

absurd_one : {A : Type 0} → ◌≡◌ {A = ℕ} 0 1 → A
absurd_one e = absurd (omega arith)

-- Several stay several.
several : (i : ℕ) (xs : List Filed) (k : ℕ) → volume_from i xs k (Some Several) ≡ Some Several
several i [] k = refl
several i (x ∷ xs) k = go (several (i + 1) xs k) (eqb x.number k)
  where
    go : volume_from (i + 1) xs k (Some Several) ≡ Some Several → (b : Bool) → volume_from (i + 1) xs k (cond b (one_more (Some Several) (record { index = i; place = x.place })) (Some Several)) ≡ Some Several
    go ih true = ih
    go ih false = ih

-- One that is known stays the one, or there are several.
one_stays : (i : ℕ) (xs : List Filed) (k : ℕ) (r s : Row) → volume_from i xs k (Some (One r)) ≡ Some (One s) → r ≡ s
one_stays i [] k r s e = cc
one_stays i (x ∷ xs) k r s e = go (λ h. one_stays (i + 1) xs k r s h) (eqb x.number k) e
  where
    go : (volume_from (i + 1) xs k (Some (One r)) ≡ Some (One s) → r ≡ s) → (b : Bool) → volume_from (i + 1) xs k (cond b (one_more (Some (One r)) (record { index = i; place = x.place })) (Some (One r))) ≡ Some (One s) → r ≡ s
    go ih true h = let z : ◌≡◌ {A = Option Volume} (Some Several) (Some (One s)) = sym (several (i + 1) xs k) ∙ h in cc
    go ih false h = ih h

-- The one row.
record Found (i : ℕ) (xs : List Filed) (k : ℕ) (r : Row) : Type 0 where
  pub from : i ≤ r.index
  pub row : RowAt xs (r.index - i) k r.place

found_from : (i : ℕ) (xs : List Filed) (k : ℕ) (r : Row) → volume_from i xs k None ≡ Some (One r) → Found i xs k r
found_from i [] k r e = let z : ◌≡◌ {A = ℕ} 0 1 = cc in absurd_one z
found_from i (x ∷ xs) k r e = go (λ h. found_from (i + 1) xs k r h) (eqb x.number k) refl e
  where
    later : Found (i + 1) xs k r → Found i (x ∷ xs) k r
    later f =
        let a = f.from in
        let b = f.row.within in
        let d : r.index - i ≡ suc (r.index - (i + 1)) = omega arith in
        record { from = omega arith; row = subst⁻¹ (λ (n : ℕ). RowAt (x ∷ xs) n k r.place) d (record { within = omega arith; is = f.row.is }) }

    go : (volume_from (i + 1) xs k None ≡ Some (One r) → Found (i + 1) xs k r) → (b : Bool) → eqb x.number k ≡ b → volume_from (i + 1) xs k (cond b (one_more None (record { index = i; place = x.place })) None) ≡ Some (One r) → Found i (x ∷ xs) k r
    go ih true m h =
        let same : record { index = i; place = x.place } ≡ r = one_stays (i + 1) xs k (record { index = i; place = x.place }) r h in
        let a : i ≡ r.index = ap (λ (y : Row). y.index) same in
        let b : x.place ≡ r.place = ap (λ (y : Row). y.place) same in
        let d : r.index - i ≡ 0 = omega arith in
        record {
          from = omega arith;
          row = subst⁻¹ (λ (n : ℕ). RowAt (x ∷ xs) n k r.place) d (record { within = omega arith; is = λ j. record { number = eqb-true x.number k m j; place = b j } });
        }
    go ih false m h = later (ih h)

-- Where a label is in one row, that is its row.
pub one_row : (xs : List Filed) (k : ℕ) (r : Row) → volume_of xs k ≡ Some (One r) → RowAt xs r.index k r.place
one_row xs k r e =
    let f = found_from 0 xs k r e in
    let d : r.index - 0 ≡ r.index = omega arith in
    subst (λ (n : ℕ). RowAt xs n k r.place) d f.row

-- Where a label is in no row, it is filed nowhere.
known : (i : ℕ) (xs : List Filed) (k : ℕ) (v : Volume) → volume_from i xs k (Some v) ≡ None → ⊥
known i [] k v e = let z : ◌≡◌ {A = ℕ} 0 1 = cc in omega arith
known i (x ∷ xs) k v e = go (λ u h. known (i + 1) xs k u h) (eqb x.number k) e
  where
    go : ((u : Volume) → volume_from (i + 1) xs k (Some u) ≡ None → ⊥) → (b : Bool) → volume_from (i + 1) xs k (cond b (one_more (Some v) (record { index = i; place = x.place })) (Some v)) ≡ None → ⊥
    go ih true h = ih Several h
    go ih false h = ih v h

none_from : (i : ℕ) (xs : List Filed) (k p : ℕ) → volume_from i xs k None ≡ None → filings k p xs ≡ 0
none_from i [] k p e = refl
none_from i (x ∷ xs) k p e = go (λ h. none_from (i + 1) xs k p h) (eqb x.number k) e
  where
    go : (volume_from (i + 1) xs k None ≡ None → filings k p xs ≡ 0) → (b : Bool) → volume_from (i + 1) xs k (cond b (one_more None (record { index = i; place = x.place })) None) ≡ None → cond (b && eqb x.place p) 1 0 + filings k p xs ≡ 0
    go ih true h = absurd (known (i + 1) xs k (One (record { index = i; place = x.place })) h)
    go ih false h = omega (arith, ih h)

pub no_row_holds : (xs : List Filed) (k p : ℕ) → volume_of xs k ≡ None → filings k p xs ≡ 0
no_row_holds xs k p e = none_from 0 xs k p e

-- A row is filed.
pub row_filed : (xs : List Filed) (i k p : ℕ) → RowAt xs i k p → 1 ≤ filings k p xs
row_filed [] i k p r = let h = r.within in absurd (omega arith)
row_filed (x ∷ xs) zero k p r =
    let a : eqb x.number k ≡ true = eq-eqb x.number k (ap (λ (y : Filed). y.number) r.is) in
    let b : eqb x.place p ≡ true = eq-eqb x.place p (ap (λ (y : Filed). y.place) r.is) in
    rw (a, b) (omega arith)
row_filed (x ∷ xs) (suc i) k p r =
    let h = r.within in
    let ih = row_filed xs i k p (record { within = omega arith; is = r.is }) in
    omega arith

-- The row that names a place, and that none does.
index_from_holds : (i : ℕ) (xs : List Filed) (p j : ℕ) → index_from i xs p ≡ Some j → (i ≤ j) × (j - i < length xs) × ((get_or xs (j - i) no_row).place ≡ p)
index_from_holds i [] p j e = let z : ◌≡◌ {A = ℕ} 0 1 = cc in absurd_one z
index_from_holds i (x ∷ xs) p j e = go (λ h. index_from_holds (i + 1) xs p j h) (eqb x.place p) refl e
  where
    later : (i + 1 ≤ j) × (j - (i + 1) < length xs) × ((get_or xs (j - (i + 1)) no_row).place ≡ p) → (i ≤ j) × (j - i < length (x ∷ xs)) × ((get_or (x ∷ xs) (j - i) no_row).place ≡ p)
    later t =
        let a = t.0 in
        let b = t.1 in
        let d : j - i ≡ suc (j - (i + 1)) = omega arith in
        (omega arith, omega arith, ap (λ (n : ℕ). (get_or (x ∷ xs) n no_row).place) d ∙ t.2)

    go : (index_from (i + 1) xs p ≡ Some j → (i + 1 ≤ j) × (j - (i + 1) < length xs) × ((get_or xs (j - (i + 1)) no_row).place ≡ p)) → (b : Bool) → eqb x.place p ≡ b → cond b (Some i) (index_from (i + 1) xs p) ≡ Some j → (i ≤ j) × (j - i < length (x ∷ xs)) × ((get_or (x ∷ xs) (j - i) no_row).place ≡ p)
    go ih true m h =
        let s : i ≡ j = cc in
        let d : j - i ≡ 0 = omega arith in
        (omega arith, omega arith, ap (λ (n : ℕ). (get_or (x ∷ xs) n no_row).place) d ∙ eqb-true x.place p m)
    go ih false m h = later (ih h)

pub index_row : (xs : List Filed) (p j : ℕ) → index_of xs p ≡ Some j → RowAt xs j (get_or xs j no_row).number p
index_row xs p j e =
    let t = index_from_holds 0 xs p j e in
    let a = t.1 in
    let d : j - 0 ≡ j = omega arith in
    let b : (get_or xs j no_row).place ≡ p = ap (λ (n : ℕ). (get_or xs n no_row).place) (sym d) ∙ t.2 in
    record { within = omega arith; is = λ i. record { number = (get_or xs j no_row).number; place = b i } }

index_none : (i : ℕ) (xs : List Filed) (k p : ℕ) → index_from i xs p ≡ None → filings k p xs ≡ 0
index_none i [] k p e = refl
index_none i (x ∷ xs) k p e = go (λ h. index_none (i + 1) xs k p h) (eqb x.number k) (eqb x.place p) e
  where
    go : (index_from (i + 1) xs p ≡ None → filings k p xs ≡ 0) → (c b : Bool) → cond b (Some i) (index_from (i + 1) xs p) ≡ None → cond (c && b) 1 0 + filings k p xs ≡ 0
    go ih c true h = let z : ◌≡◌ {A = ℕ} 0 1 = cc in absurd_one z
    go ih true false h = omega (arith, ih h)
    go ih false false h = omega (arith, ih h)

pub no_index : (xs : List Filed) (k p : ℕ) → index_of xs p ≡ None → filings k p xs ≡ 0
no_index xs k p e = index_none 0 xs k p e
