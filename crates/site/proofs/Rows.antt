-- A catalogue that files at most what is due has no more rows than there are places.
use Rattle.std.proofs.Common.{◌≡◌, ℕ, zero, suc, ◌+◌, ◌<◌, ◌≤◌, Bool, true, false, cond, ◌&&◌, eqb, ltb, ◌≢◌, List, [], ◌∷◌, ◌++◌, length, get_or, take, drop, set, sym, refl, ap, ◌∙◌, ⊎_elim, arith}
use Rattle.std.proofs.lemmas.List.{get_or_past}
use Rattle.std.proofs.lemmas.Bool.{cases_lt, cases_eq, eq-eqb, ne_eqb}
use Rattle.std.proofs.lemmas.Bool.Decides.{nat_tests}
use Rattle.robots.specs.Meaning.{Meaning, Sound, count}
use Rattle.stock.specs.declared.catalogue.Filed.{Filed}
use Rattle.stock.specs.Filing.{no_row}
use Rattle.stock.specs.Holding.{readable}
use Rattle.site.specs.Catalogues.{filings, due}
use Rattle.site.specs.Inventories.{port_at}
use Rattle.site.proofs.Ways.{cells, shown_cells}

abbrev pub one_if : Bool → ℕ
one_if b = cond b 1 0

-- Whether a row files k at p.
abbrev pub matches : ℕ → ℕ → Filed → ℕ
matches k p row = one_if (eqb row.number k && eqb row.place p)

-- What is due, by what a place holds.
abbrev pub owed : ℕ → ℕ → ℕ
owed k held = one_if (readable k && eqb held k)

pub due_is : (m : Meaning) (k p : ℕ) → Sound m → due m k p ≡ owed k (cells m p)
due_is m k p s = ap (owed k) (shown_cells m p s)

module _ (k p : ℕ) where
  pub filings-append : (xs ys : List Filed) → filings k p (xs ++ ys) ≡ filings k p xs + filings k p ys
  filings-append [] ys = omega arith
  filings-append (x ∷ xs) ys = omega (arith, filings-append xs ys)

  pub filings-more : (xs : List Filed) (row : Filed) → filings k p (xs ++ row ∷ []) ≡ filings k p xs + matches k p row
  filings-more xs row = filings-append xs (row ∷ []) ∙ omega arith

  -- Another row in the place of row i.
  pub filings-set : (xs : List Filed) (i : ℕ) (row : Filed) → i < length xs → filings k p (set xs i row) + matches k p (get_or xs i no_row) ≡ filings k p xs + matches k p row
  filings-set [] i row h = absurd (omega arith)
  filings-set (x ∷ xs) zero row h = omega arith
  filings-set (x ∷ xs) (suc i) row h = let ih = filings-set xs i row (omega arith) in omega arith

  -- Row i is no more.
  pub filings-without : (xs : List Filed) (i : ℕ) → i < length xs → filings k p (take i xs ++ drop (i + 1) xs) + matches k p (get_or xs i no_row) ≡ filings k p xs
  filings-without [] i h = absurd (omega arith)
  filings-without (x ∷ xs) zero h = omega arith
  filings-without (x ∷ xs) (suc i) h = let ih = filings-without xs i (omega arith) in let e : suc i + 1 ≡ suc (i + 1) = omega arith in rw e (omega (arith, ih))

-- No cartridge is no readable one.
pub none_owed : (k : ℕ) → owed k 0 ≡ 0
none_owed k = grind (arith, nat_tests)

abbrev AtMost : List Filed → Meaning → Type 0
AtMost xs m = (k p : ℕ) → filings k p xs ≤ owed k (cells m p)

-- What is filed is held, at a place that there is.
record Held (m : Meaning) (row : Filed) : Type 0 where
  label : cells m row.place ≡ row.number
  within : row.place < count m

abbrev AllHeld : Meaning → List Filed → Type 0
AllHeld m [] = Unit {0}
AllHeld m (x ∷ xs) = Held m x × AllHeld m xs

is_held : (b : Bool) (k v : ℕ) → 1 ≤ one_if (b && eqb v k) → v ≡ k
is_held true k v h = grind (arith, nat_tests)
is_held false k v h = absurd (omega arith)

pub owed_held : (k v : ℕ) → 1 ≤ owed k v → (v ≡ k) × (readable k ≡ true)
owed_held k v h = (is_held (readable k) k v h, go (readable k) h)
  where
    go : (b : Bool) → 1 ≤ one_if (b && eqb v k) → b ≡ true
    go true h = refl
    go false h = absurd (omega arith)

pub none_past : (m : Meaning) (p : ℕ) → Sound m → count m ≤ p → cells m p ≡ 0
none_past m p s h = ap (λ v. cond (port_at m.kinds p) 0 v) (get_or_past m.held p 0 (omega (arith, s.held_length))) ∙ both (port_at m.kinds p)
  where
    both : (b : Bool) → ◌≡◌ {A = ℕ} (cond b 0 0) 0
    both true = refl
    both false = refl

held_by : (m : Meaning) (row : Filed) → Sound m → 1 ≤ owed row.number (cells m row.place) → Held m row
held_by m row s h = record {
  label = (owed_held row.number (cells m row.place) h).0;
  within = ⊎_elim (λ (lt : row.place < count m). lt) (λ (past : count m ≤ row.place).
      let z : owed row.number (cells m row.place) ≡ 0 = ap (owed row.number) (none_past m row.place s past) ∙ none_owed row.number in
      absurd (omega arith)) (cases_lt row.place (count m));
}

counted_once : (row : Filed) → matches row.number row.place row ≡ 1
counted_once row = grind (arith, nat_tests)

all_held : (m : Meaning) → Sound m → (xs : List Filed) → AtMost xs m → AllHeld m xs
all_held m s [] h = tt
all_held m s (x ∷ xs) h =
    let one = counted_once x in
    let most = h x.number x.place in
    let some : 1 ≤ owed x.number (cells m x.place) = omega arith in
    (held_by m x s some, all_held m s xs (λ k p. let y = h k p in omega arith))

-- Rows at a place, and below one.
abbrev at_place : ℕ → List Filed → ℕ
at_place p [] = 0
at_place p (x ∷ xs) = one_if (eqb x.place p) + at_place p xs

abbrev below : ℕ → List Filed → ℕ
below p [] = 0
below p (x ∷ xs) = one_if (ltb x.place p) + below p xs

below_more : (p : ℕ) (xs : List Filed) → below (suc p) xs ≡ below p xs + at_place p xs
below_more p [] = refl
below_more p (x ∷ xs) = let h = below_more p xs in grind (arith, nat_tests)

one_label : (m : Meaning) (x : Filed) (p : ℕ) → cells m x.place ≡ x.number → one_if (eqb x.place p) ≡ one_if (eqb x.number (cells m p) && eqb x.place p)
one_label m x p e =
    ⊎_elim
    (λ (same : x.place ≡ p). let l : x.number ≡ cells m p = sym e ∙ ap (cells m) same in let a = eq-eqb x.number (cells m p) l in rw a refl)
    (λ (other : x.place ≢ p). let n : eqb x.place p ≡ false = ne_eqb x.place p other in go (eqb x.number (cells m p)) (eqb x.place p) n)
    (cases_eq x.place p)
  where
    go : (a b : Bool) → b ≡ false → one_if b ≡ one_if (a && b)
    go true b e = refl
    go false b e = ap one_if e

at_filings : (m : Meaning) (p : ℕ) (xs : List Filed) → AllHeld m xs → at_place p xs ≡ filings (cells m p) p xs
at_filings m p [] h = refl
at_filings m p (x ∷ xs) h = let a = one_label m x p h.0.label in let b = at_filings m p xs h.1 in omega arith

at_most_one : (b : Bool) → one_if b ≤ 1
at_most_one true = omega arith
at_most_one false = omega arith

none_below : (xs : List Filed) → below 0 xs ≤ 0
none_below [] = omega arith
none_below (x ∷ xs) = let y = none_below xs in let z : one_if (ltb x.place 0) ≡ 0 = grind (arith, nat_tests) in omega arith

below_few : (m : Meaning) (xs : List Filed) → AtMost xs m → AllHeld m xs → (p : ℕ) → below p xs ≤ p
below_few m xs h a zero = none_below xs
below_few m xs h a (suc p) =
    let x = below_few m xs h a p in
    let y = below_more p xs in
    let z = at_filings m p xs a in
    let u = h (cells m p) p in
    let v = at_most_one (readable (cells m p) && eqb (cells m p) (cells m p)) in
    omega arith

below_all : (m : Meaning) (xs : List Filed) → AllHeld m xs → below (count m) xs ≡ length xs
below_all m [] a = refl
below_all m (x ∷ xs) a = let ih = below_all m xs a.1 in let y = a.0.within in let z : one_if (ltb x.place (count m)) ≡ 1 = grind (arith, nat_tests) in omega arith

few_rows : (m : Meaning) (xs : List Filed) → Sound m → AtMost xs m → length xs ≤ count m
few_rows m xs s h = let a = all_held m s xs h in omega (arith, below_few m xs h a (count m), below_all m xs a)

-- Rows that are true are as few as places.
pub true_few : (m : Meaning) (xs : List Filed) → Sound m → ((k p : ℕ) → filings k p xs ≡ owed k (cells m p)) → length xs ≤ count m
true_few m xs s h = few_rows m xs s (λ k p. let e = h k p in omega arith)
