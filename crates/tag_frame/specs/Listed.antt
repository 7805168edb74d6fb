-- A list of cartridges that is changed by one entry, put at its end or taken out at its index, and searched by index.
use Rattle.std.specs.Prelude.{◌≡◌, ℕ, suc, ◌+◌, ◌<◌, ◌≤◌, true, false, cond, List, [], ◌∷◌, ◌++◌, length, get_or, drop, ◌==◌, ◌≢◌, nat_eq, slice_index, slice_index_or, slice_set, refl}
use Rattle.std.proofs.Common.{sym, ap, ◌∙◌, ⊎_elim, arith, add-one, drop-cons}
use Rattle.labels.specs.Numbers.{unreadable_number}
use Rattle.std.specs.List.{remove}
use Rattle.std.proofs.lemmas.Bool.{cases_Bool, cases_eq, eq-eqb, ne_eqb}
use Rattle.std.proofs.lemmas.Bool.Decides.{nat_tests}
use Rattle.tag_frame.specs.declared.tag.Tag.{Tag}
use Rattle.tag_frame.specs.Tags.{lookup, index_of, absent, tidy, held_of}
use Rattle.tag_frame.specs.Tagged.{tidy_tells, tidy_makes, absent_tells, absent_makes, lookup_absent, held_found, held_length, held_set, lookup_push, tidy_push, full_or_empty, some_empty}

-- Where a place holds nothing, no cartridge is in the list for it.
absent_lookup : (n p : ℕ) (ts : List Tag) → tidy n ts ≡ true → lookup ts p ≡ 0 → absent p ts ≡ true
absent_lookup n p [] o e = refl
absent_lookup n p (t ∷ ts) o e =
    let a = tidy_tells n t ts o in
    ⊎_elim
    (λ (h : t.place ≡ p). absurd (grind (arith, nat_tests)))
    (λ (h : t.place ≡ p → ⊥). absent_makes p t ts h (absent_lookup n p ts a.4 (rw (ne_eqb t.place p h) at e)))
    (cases_eq t.place p)

unheld : (n : ℕ) (ts : List Tag) (p : ℕ) → tidy n ts ≡ true → slice_index (held_of n ts) p ≡ 0 → absent p ts ≡ true
unheld n ts p o e = absent_lookup n p ts o (sym (held_found n ts p o) ∙ e)

-- One more at the end, for a place that held nothing.
pub more_held : (n : ℕ) (ts : List Tag) (t : Tag) → tidy n ts ≡ true → slice_index (held_of n ts) t.place ≡ 0 → held_of n (ts ++ t ∷ []) ≡ slice_set (held_of n ts) t.place t.number
more_held n ts t o e = held_set (lookup ts) (lookup (ts ++ t ∷ [])) n t.place t.number (λ q. lookup_push ts t q (unheld n ts t.place o e))

pub more_tidy : (n : ℕ) (ts : List Tag) (t : Tag) → tidy n ts ≡ true → t.place < n → slice_index (held_of n ts) t.place ≡ 0 → 0 < t.number → t.number ≤ unreadable_number → tidy n (ts ++ t ∷ []) ≡ true
more_tidy n ts t o l e a b = tidy_push n ts t o l a b (unheld n ts t.place o e)

-- One out, at the index where its place stands.
abbrev without : List Tag → ℕ → List Tag
without [] p = []
without (t ∷ ts) p = cond (t.place == p) ts (t ∷ without ts p)

absent_without : (r : ℕ) (ts : List Tag) (p : ℕ) → absent r ts ≡ true → absent r (without ts p) ≡ true
absent_without r [] p a = refl
absent_without r (t ∷ ts) p a =
    let b = absent_tells r t ts a in
    let ih = absent_without r ts p b.1 in
    ⊎_elim
    (λ (h : nat_eq t.place p ≡ true). rw h b.1)
    (λ (h : nat_eq t.place p ≡ false). rw h (absent_makes r t (without ts p) b.0 ih))
    (cases_Bool (t.place == p))

tidy_without : (n : ℕ) (ts : List Tag) (p : ℕ) → tidy n ts ≡ true → tidy n (without ts p) ≡ true
tidy_without n [] p o = refl
tidy_without n (t ∷ ts) p o =
    let w = tidy_tells n t ts o in
    let ih = tidy_without n ts p w.4 in
    ⊎_elim
    (λ (h : nat_eq t.place p ≡ true). rw h w.4)
    (λ (h : nat_eq t.place p ≡ false). rw h (tidy_makes n t (without ts p) w.0 w.1 w.2 (absent_without t.place ts p w.3) ih))
    (cases_Bool (t.place == p))

lookup_without : (n : ℕ) (ts : List Tag) (p q : ℕ) → tidy n ts ≡ true → lookup (without ts p) q ≡ cond (p == q) 0 (lookup ts q)
lookup_without n [] p q o = ⊎_elim (λ (h : nat_eq p q ≡ true). rw h refl) (λ (h : nat_eq p q ≡ false). rw h refl) (cases_Bool (p == q))
lookup_without n (t ∷ ts) p q o =
    let w = tidy_tells n t ts o in
    let ih = lookup_without n ts p q w.4 in
    let z = lookup_absent t.place ts w.3 in
    ⊎_elim
    (λ (h : t.place ≡ p). rw (eq-eqb t.place p h) (grind (arith, nat_tests, cases_eq t.place q)))
    (λ (h : t.place ≡ p → ⊥). rw (ne_eqb t.place p h) (grind (arith, nat_tests)))
    (cases_eq t.place p)

removed_without : (ts : List Tag) (p : ℕ) → remove ts (index_of ts p) ≡ without ts p
removed_without [] p = refl
removed_without (t ∷ ts) p =
    ⊎_elim
    (λ (h : nat_eq t.place p ≡ true). rw h refl)
    (λ (h : nat_eq t.place p ≡ false). rw h (ap (λ (z : List Tag). t ∷ z) (removed_without ts p)))
    (cases_Bool (t.place == p))

-- Here i is where p stands, and us is what is left.
left_without : (ts us : List Tag) (p i : ℕ) → i ≡ index_of ts p → us ≡ remove ts i → us ≡ without ts p
left_without ts us p i e f = f ∙ ap (remove ts) e ∙ removed_without ts p

pub fewer_held : (n : ℕ) (ts us : List Tag) (p i : ℕ) → tidy n ts ≡ true → i ≡ index_of ts p → us ≡ remove ts i → held_of n us ≡ slice_set (held_of n ts) p 0
fewer_held n ts us p i o e f =
    ap (held_of n) (left_without ts us p i e f) ∙ held_set (lookup ts) (lookup (without ts p)) n p 0 (λ q. lookup_without n ts p q o)

pub fewer_tidy : (n : ℕ) (ts us : List Tag) (p i : ℕ) → tidy n ts ≡ true → i ≡ index_of ts p → us ≡ remove ts i → tidy n us ≡ true
fewer_tidy n ts us p i o e f = ap (tidy n) (left_without ts us p i e f) ∙ tidy_without n ts p o

-- Where a place is found.
index_within : (ts : List Tag) (p : ℕ) → (lookup ts p ≢ 0) → index_of ts p < length ts
index_within [] p h = absurd (h refl)
index_within (t ∷ ts) p h =
    ⊎_elim
    (λ (e : nat_eq t.place p ≡ true). rw e (omega arith))
    (λ (e : nat_eq t.place p ≡ false). let ih = index_within ts p (rw e at h) in rw e (omega arith))
    (cases_Bool (t.place == p))

pub held_within : (n : ℕ) (ts : List Tag) (p : ℕ) → tidy n ts ≡ true → (slice_index (held_of n ts) p ≢ 0) → index_of ts p < length ts
held_within n ts p o h = index_within ts p (λ e. h (held_found n ts p o ∙ e))

at_index : (ts : List Tag) (p : ℕ) (d : Tag) → index_of ts p < length ts → (get_or ts (index_of ts p) d).number ≡ lookup ts p
at_index [] p d h = absurd (omega arith)
at_index (t ∷ ts) p d h =
    ⊎_elim
    (λ (e : nat_eq t.place p ≡ true). rw e refl)
    (λ (e : nat_eq t.place p ≡ false). rw e (at_index ts p d (let l = rw e at h in omega arith)))
    (cases_Bool (t.place == p))

past_index : (ts : List Tag) (p : ℕ) → length ts ≤ index_of ts p → lookup ts p ≡ 0
past_index [] p h = refl
past_index (t ∷ ts) p h =
    ⊎_elim
    (λ (e : nat_eq t.place p ≡ true). let l = rw e at h in absurd (omega arith))
    (λ (e : nat_eq t.place p ≡ false). rw e (past_index ts p (let l = rw e at h in omega arith)))
    (cases_Bool (t.place == p))

-- Here i is where p stands.
pub found_held : (n : ℕ) (ts : List Tag) (p i : ℕ) (t : Tag) → tidy n ts ≡ true → i ≡ index_of ts p → i < length ts → t ≡ slice_index_or ts i t → t.number ≡ slice_index (held_of n ts) p
found_held n ts p i t o e h q =
    ap (λ (z : Tag). z.number) (q ∙ ap (λ (k : ℕ). get_or ts k t) e) ∙ at_index ts p t (omega arith) ∙ sym (held_found n ts p o)

pub none_found : (n : ℕ) (ts : List Tag) (p i : ℕ) → tidy n ts ≡ true → i ≡ index_of ts p → length ts ≤ i → 0 ≡ slice_index (held_of n ts) p
none_found n ts p i o e h = sym (held_found n ts p o ∙ past_index ts p (omega arith))

-- A step of a search through the list.
pub index_step : (ts : List Tag) (i p : ℕ) (t : Tag) → i < length ts → t ≡ slice_index_or ts i t → index_of (drop i ts) p ≡ cond (t.place == p) 0 (suc (index_of (drop (i + 1) ts) p))
index_step ts i p t h e =
    ap (λ (z : List Tag). index_of z p) (drop-cons ts i t h) ∙ rw (← e, add-one) refl

-- Where a place is empty the list is shorter than the places are many.
pub room_left : (n : ℕ) (ts : List Tag) (p : ℕ) → tidy n ts ≡ true → p < n → slice_index (held_of n ts) p ≡ 0 → length ts < n
room_left n ts p o h e =
    let a = full_or_empty n ts o in
    let b = some_empty (held_of n ts) p (omega (arith, held_length n ts)) e in
    omega arith
