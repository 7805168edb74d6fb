-- A list of cartridges, each with its place: what is found in it, and what an edit leaves.
use Rattle.std.specs.Prelude.{◌≡◌, ℕ, zero, suc, ◌+◌, ◌<◌, ◌≤◌, true, false, cond, List, [], ◌∷◌, ◌++◌, map, length, get_or, set, replicate, find, option_map, unwrap_or, ◌==◌, ◌≢◌, nat_eq, slice_index, slice_set, refl}
use Rattle.std.proofs.Common.{sym, ap, ◌∙◌, ⊎_elim, arith}
use Rattle.labels.specs.Numbers.{unreadable_number}
use Rattle.std.specs.List.{range_with_len}
use Rattle.std.proofs.lemmas.List.{same_lists, length-set, get_or-set_same, get_or-set_other, get_or_past}
use Rattle.std.proofs.lemmas.List.FromFn.{length-map-range_with_len, get_or-map-range_with_len}
use Rattle.std.proofs.lemmas.Bool.{cases_Bool, cases_eq, cases_lt, eq-eqb, ne_eqb}
use Rattle.std.proofs.lemmas.Bool.Decides.{nat_tests}
use Rattle.robots.specs.Cartridges.{tally}
use Rattle.robots.proofs.Acts.{tally_set}
use Rattle.tag_frame.specs.declared.tag.Tag.{Tag}
use Rattle.tag_frame.specs.Tags.{lookup, absent, tidy, held_of, all_but, retagged}

-- What the test tells of the first cartridge and of the rest.
pub tidy_tells : (n : ℕ) (t : Tag) (ts : List Tag) → tidy n (t ∷ ts) ≡ true → (t.place < n) × (0 < t.number) × (t.number ≤ unreadable_number) × (absent t.place ts ≡ true) × (tidy n ts ≡ true)
tidy_tells n t ts e = grind (arith, nat_tests, cases_Bool (absent t.place ts), cases_Bool (tidy n ts))

pub tidy_makes : (n : ℕ) (t : Tag) (ts : List Tag) → t.place < n → 0 < t.number → t.number ≤ unreadable_number → absent t.place ts ≡ true → tidy n ts ≡ true → tidy n (t ∷ ts) ≡ true
tidy_makes n t ts a b d e f = grind (arith, nat_tests)

pub absent_tells : (p : ℕ) (t : Tag) (ts : List Tag) → absent p (t ∷ ts) ≡ true → (t.place ≢ p) × (absent p ts ≡ true)
absent_tells p t ts e = grind (arith, nat_tests, cases_Bool (absent p ts))

pub absent_makes : (p : ℕ) (t : Tag) (ts : List Tag) → (t.place ≢ p) → absent p ts ≡ true → absent p (t ∷ ts) ≡ true
absent_makes p t ts a b = grind (arith, nat_tests)

pub lookup_absent : (p : ℕ) (ts : List Tag) → absent p ts ≡ true → lookup ts p ≡ 0
lookup_absent p [] e = refl
lookup_absent p (t ∷ ts) e =
    let a = absent_tells p t ts e in
    rw (ne_eqb t.place p a.0) (lookup_absent p ts a.1)

lookup_number : (n p : ℕ) (ts : List Tag) → tidy n ts ≡ true → lookup ts p ≤ unreadable_number
lookup_number n p [] o = omega arith
lookup_number n p (t ∷ ts) o =
    let a = tidy_tells n t ts o in
    let ih = lookup_number n p ts a.4 in
    grind (arith, nat_tests)

lookup_past : (n p : ℕ) (ts : List Tag) → tidy n ts ≡ true → n ≤ p → lookup ts p ≡ 0
lookup_past n p [] o h = refl
lookup_past n p (t ∷ ts) o h =
    let a = tidy_tells n t ts o in
    let ih = lookup_past n p ts a.4 h in
    rw (ne_eqb t.place p (omega arith)) ih

-- What is held is what is found.
pub held_length : (n : ℕ) (ts : List Tag) → length (held_of n ts) ≡ n
held_length n ts = length-map-range_with_len (lookup ts) 0 n

pub held_found : (n : ℕ) (ts : List Tag) (p : ℕ) → tidy n ts ≡ true → slice_index (held_of n ts) p ≡ lookup ts p
held_found n ts p o =
    ⊎_elim
    (λ (h : p < n). get_or-map-range_with_len (lookup ts) 0 n p p 0 h (omega arith))
    (λ (h : n ≤ p). get_or_past (held_of n ts) p 0 (omega (arith, held_length n ts)) ∙ sym (lookup_past n p ts o h))
    (cases_lt p n)

pub held_number : (n : ℕ) (ts : List Tag) (p : ℕ) → tidy n ts ≡ true → slice_index (held_of n ts) p ≤ unreadable_number
held_number n ts p o = rw (held_found n ts p o) (lookup_number n p ts o)

-- The holdings after a change at one place.
pub held_set : (f g : ℕ → ℕ) (n p v : ℕ) → ((q : ℕ) → g q ≡ cond (p == q) v (f q)) → map g (range_with_len 0 n) ≡ slice_set (map f (range_with_len 0 n)) p v
held_set f g n p v h =
    same_lists (map g (range_with_len 0 n)) (slice_set (map f (range_with_len 0 n)) p v)
    (length-map-range_with_len g 0 n ∙ sym (length-set (map f (range_with_len 0 n)) p v ∙ length-map-range_with_len f 0 n))
    (λ k d l.
    let b : k < n = omega (arith, length-map-range_with_len g 0 n) in
    let u = get_or-map-range_with_len g 0 n k k d b (omega arith) in
    let w = get_or-map-range_with_len f 0 n k k d b (omega arith) in
    ⊎_elim
    (λ (e : k ≡ p).
    let m : p < length (map f (range_with_len 0 n)) = omega (arith, length-map-range_with_len f 0 n) in
    let y : get_or (slice_set (map f (range_with_len 0 n)) p v) k d ≡ v = rw e (get_or-set_same (map f (range_with_len 0 n)) p v d m) in
    let x : g k ≡ v = h k ∙ rw (eq-eqb p k (sym e)) refl in
    u ∙ x ∙ sym y)
    (λ (e : k ≡ p → ⊥).
    let y = get_or-set_other (map f (range_with_len 0 n)) p k v d e in
    let x : g k ≡ f k = h k ∙ rw (ne_eqb p k (λ z. e (sym z))) refl in
    u ∙ x ∙ sym w ∙ sym y)
    (cases_eq k p))

-- One more at the end.
pub lookup_push : (ts : List Tag) (t : Tag) (q : ℕ) → absent t.place ts ≡ true → lookup (ts ++ t ∷ []) q ≡ cond (t.place == q) t.number (lookup ts q)
lookup_push [] t q a = refl
lookup_push (s ∷ ss) t q a =
    let b = absent_tells t.place s ss a in
    let ih = lookup_push ss t q b.1 in
    grind (arith, nat_tests)

absent_push : (p : ℕ) (ts : List Tag) (t : Tag) → absent p ts ≡ true → (t.place ≢ p) → absent p (ts ++ t ∷ []) ≡ true
absent_push p [] t a h = absent_makes p t [] h refl
absent_push p (s ∷ ss) t a h =
    let b = absent_tells p s ss a in
    absent_makes p s (ss ++ t ∷ []) b.0 (absent_push p ss t b.1 h)

pub tidy_push : (n : ℕ) (ts : List Tag) (t : Tag) → tidy n ts ≡ true → t.place < n → 0 < t.number → t.number ≤ unreadable_number → absent t.place ts ≡ true → tidy n (ts ++ t ∷ []) ≡ true
tidy_push n [] t o a b d e = tidy_makes n t [] a b d refl refl
tidy_push n (s ∷ ss) t o a b d e =
    let w = tidy_tells n s ss o in
    let z = absent_tells t.place s ss e in
    tidy_makes n s (ss ++ t ∷ []) w.0 w.1 w.2 (absent_push s.place ss t w.3 (λ h. z.0 (sym h))) (tidy_push n ss t w.4 a b d z.1)

-- What was at p is there no more.
none_at : (p : ℕ) (ts : List Tag) → absent p (all_but p ts) ≡ true
none_at p [] = refl
none_at p (t ∷ ts) = let ih = none_at p ts in grind (arith, nat_tests, cases_eq t.place p)

absent_still : (r p : ℕ) (ts : List Tag) → absent r ts ≡ true → absent r (all_but p ts) ≡ true
absent_still r p [] a = refl
absent_still r p (t ∷ ts) a =
    let b = absent_tells r t ts a in
    let ih = absent_still r p ts b.1 in
    grind (arith, nat_tests, cases_eq t.place p)

fewer_tidy : (n p : ℕ) (ts : List Tag) → tidy n ts ≡ true → tidy n (all_but p ts) ≡ true
fewer_tidy n p [] o = refl
fewer_tidy n p (t ∷ ts) o =
    let w = tidy_tells n t ts o in
    let ih = fewer_tidy n p ts w.4 in
    ⊎_elim
    (λ (h : t.place ≡ p). rw (eq-eqb t.place p h) ih)
    (λ (h : t.place ≡ p → ⊥). rw (ne_eqb t.place p h) (tidy_makes n t (all_but p ts) w.0 w.1 w.2 (absent_still t.place p ts w.3) ih))
    (cases_eq t.place p)

lookup_fewer : (p q : ℕ) (ts : List Tag) → lookup (all_but p ts) q ≡ cond (p == q) 0 (lookup ts q)
lookup_fewer p q [] = grind (arith, nat_tests, cases_eq p q)
lookup_fewer p q (t ∷ ts) =
    let ih = lookup_fewer p q ts in
    grind (arith, nat_tests, cases_eq t.place p, cases_eq p q)

-- Another cartridge in place of what is at p, or none.
lookup_other : (p v q : ℕ) (ts : List Tag) → lookup (all_but p ts ++ (record { number = v; place = p }) ∷ []) q ≡ cond (p == q) v (lookup ts q)
lookup_other p v q ts =
    let a = lookup_push (all_but p ts) (record { number = v; place = p }) q (none_at p ts) in
    let b = lookup_fewer p q ts in
    grind (arith, nat_tests, cases_eq p q)

lookup_retagged : (p v q : ℕ) (ts : List Tag) → lookup (retagged ts p v) q ≡ cond (p == q) v (lookup ts q)
lookup_retagged p v q ts =
    ⊎_elim
    (λ (h : v ≡ 0). rw h (lookup_fewer p q ts))
    (λ (h : v ≡ 0 → ⊥). rw (ne_eqb v 0 h) (lookup_other p v q ts))
    (cases_eq v 0)

pub retagged_held : (n p v : ℕ) (ts : List Tag) → held_of n (retagged ts p v) ≡ slice_set (held_of n ts) p v
retagged_held n p v ts = held_set (lookup ts) (lookup (retagged ts p v)) n p v (λ q. lookup_retagged p v q ts)

pub retagged_tidy : (n p v : ℕ) (ts : List Tag) → tidy n ts ≡ true → p < n → v ≤ unreadable_number → tidy n (retagged ts p v) ≡ true
retagged_tidy n p v ts o l b =
    let d = fewer_tidy n p ts o in
    ⊎_elim
    (λ (h : v ≡ 0). rw h d)
    (λ (h : v ≡ 0 → ⊥). rw (ne_eqb v 0 h) (tidy_push n (all_but p ts) (record { number = v; place = p }) d l (omega arith) b (none_at p ts)))
    (cases_eq v 0)

-- What a search finds.
found_number : (ts : List Tag) (p : ℕ) → unwrap_or (option_map (λ t. t.number) (find (λ t. t.place == p) ts)) 0 ≡ lookup ts p
found_number [] p = refl
found_number (t ∷ ts) p =
    let ih = found_number ts p in
    ⊎_elim
    (λ (h : nat_eq t.place p ≡ true). rw h refl)
    (λ (h : nat_eq t.place p ≡ false). rw h ih)
    (cases_Bool (t.place == p))

pub found_held : (n : ℕ) (ts : List Tag) (p : ℕ) → tidy n ts ≡ true → unwrap_or (option_map (λ t. t.number) (find (λ t. t.place == p) ts)) 0 ≡ slice_index (held_of n ts) p
found_held n ts p o = found_number ts p ∙ sym (held_found n ts p o)

-- No cartridges at all.
none_counted : (a n : ℕ) → map (lookup []) (range_with_len a n) ≡ replicate {A = ℕ} n 0
none_counted a zero = refl
none_counted a (suc n) = ap (λ (z : List ℕ). 0 ∷ z) (none_counted (a + 1) n)

pub none_held : (n : ℕ) (ts : List Tag) → ts ≡ [] → held_of n ts ≡ replicate {A = ℕ} n 0
none_held n ts e = ap (held_of n) e ∙ none_counted 0 n

all_empty : (n : ℕ) → tally 0 (replicate {A = ℕ} n 0) ≡ n
all_empty zero = refl
all_empty (suc n) = let ih = all_empty n in omega arith

-- Each place has a cartridge in the list, or is empty.
pub full_or_empty : (n : ℕ) (ts : List Tag) → tidy n ts ≡ true → length ts + tally 0 (held_of n ts) ≡ n
full_or_empty n [] o = let e = ap (tally 0) (none_held n [] refl) ∙ all_empty n in omega arith
full_or_empty n (t ∷ ts) o =
    let w = tidy_tells n t ts o in
    let ih = full_or_empty n ts w.4 in
    let z = lookup_absent t.place ts w.3 in
    let e : held_of n (t ∷ ts) ≡ set (held_of n ts) t.place t.number = held_set (lookup ts) (lookup (t ∷ ts)) n t.place t.number (λ q. refl) in
    let a = tally_set 0 (held_of n ts) t.place t.number (omega (arith, held_length n ts)) in
    let b : get_or (held_of n ts) t.place 0 ≡ 0 = held_found n ts t.place w.4 ∙ z in
    let d = rw (b, ne_eqb t.number 0 (omega arith)) at a in
    let k = ap (tally 0) e in
    omega arith

pub some_empty : (xs : List ℕ) (p : ℕ) → p < length xs → slice_index xs p ≡ 0 → 0 < tally 0 xs
some_empty [] p h e = absurd (omega arith)
some_empty (x ∷ xs) zero h e = rw e (omega arith)
some_empty (x ∷ xs) (suc p) h e = let ih = some_empty xs p (omega arith) e in omega arith

-- Where a place has no cartridge the list is shorter than the places are many.
pub room_left : (n p : ℕ) (ts : List Tag) → tidy n ts ≡ true → p < n → length (all_but p ts) < n
room_left n p ts o h =
    let d = fewer_tidy n p ts o in
    let a = full_or_empty n (all_but p ts) d in
    let e : slice_index (held_of n (all_but p ts)) p ≡ 0 = held_found n (all_but p ts) p d ∙ lookup_absent p (all_but p ts) (none_at p ts) in
    let b = some_empty (held_of n (all_but p ts)) p (omega (arith, held_length n (all_but p ts))) e in
    omega arith
