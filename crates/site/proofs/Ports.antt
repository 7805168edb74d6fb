-- What the make-up alone decides, and how many port places lie below a place.
use Rattle.std.proofs.Common.{◌≡◌, ℕ, zero, suc, ◌+◌, ◌-◌, ◌<◌, ◌≤◌, Bool, true, false, cond, not, ◌&&◌, eqb, ltb, leb, ◌≢◌, List, [], ◌∷◌, length, get_or, Some, sym, refl, ap, ◌∙◌, subst, arith}
use Rattle.std.specs.List.{range_with_len}
use Rattle.std.proofs.lemmas.Bool.{and_parts, cond-true, eqb-false}
use Rattle.std.proofs.lemmas.Bool.Decides.{nat_tests}
use Rattle.robots.specs.declared.kind.Kind.{Kind}
use Rattle.robots.specs.declared.kind.Kind.TheVariants.{Cell}
use Rattle.robot_moves.specs.declared.search.Wanted.{Wanted}
use Rattle.robot_moves.specs.declared.search.Wanted.TheVariants.{FullPort}
use Rattle.robots.specs.Meaning.{Meaning, count, held_at}
use Rattle.robot_moves.specs.Search.{first_of, is_port, next_full_port, of_kind, passes, port_count, ports_among, up_to}
use Rattle.robot_moves.proofs.Places.{first_passes}
use Rattle.stock.specs.Starts.{fit}
use Rattle.site.specs.Inventories.{port_at}
use Rattle.site.proofs.Ways.{port_of}

-- Two robots of the same make-up.
module _ (m n : Meaning) (e : m.kinds ≡ n.kinds) where
  pub of-kinds : (test : Kind → Bool) (p : ℕ) → of_kind test m p ≡ of_kind test n p
  of-kinds test p = ap (λ (ks : List Kind). ltb p (length ks) && test (get_or ks p Cell)) e

  pub ports-kinds : (ps : List ℕ) → ports_among m ps ≡ ports_among n ps
  ports-kinds [] = refl
  ports-kinds (p ∷ ps) = λ i. cond (of-kinds is_port p i) 1 0 + ports-kinds ps i

  pub count-kinds : count m ≡ count n
  count-kinds = ap length e

  pub fit-kinds : fit m ≡ fit n
  fit-kinds = λ i. not (eqb (count-kinds i) 0) && (leb (count-kinds i) 256 && leb ((ap (λ (k : ℕ). ports_among m (up_to 0 k)) count-kinds ∙ ports-kinds (up_to 0 (count n))) i) 21)

pub fit_some : (m : Meaning) → fit m ≡ true → 0 < count m
fit_some m e = grind (arith, nat_tests)

pub fit_ports : (m : Meaning) → fit m ≡ true → port_count m ≤ 21
fit_ports m e = grind (arith, nat_tests)

-- One more place.
ports_push : (m : Meaning) (a n : ℕ) → ports_among m (range_with_len a (n + 1)) ≡ ports_among m (range_with_len a n) + cond (of_kind is_port m (a + n)) 1 0
ports_push m a zero = let e : a + 0 ≡ a = omega arith in rw e (omega arith)
ports_push m a (suc n) =
    let ih = ports_push m (a + 1) n in
    let e : suc n + 1 ≡ suc (n + 1) = omega arith in
    let d : a + suc n ≡ (a + 1) + n = omega arith in
    rw (e, d) (omega (arith, ih))

below : (m : Meaning) (n : ℕ) → ports_among m (up_to 0 (n + 1)) ≡ ports_among m (up_to 0 n) + cond (of_kind is_port m n) 1 0
below m n =
    let a : (n + 1) - 0 ≡ n + 1 = omega arith in
    let b : n - 0 ≡ n = omega arith in
    let d : 0 + n ≡ n = omega arith in
    let h = ports_push m 0 n in
    rw (a, b) (rw d at h)

rising : (m : Meaning) (a k : ℕ) → ports_among m (up_to 0 a) ≤ ports_among m (up_to 0 (a + k))
rising m a zero = let e : a + 0 ≡ a = omega arith in rw e (omega arith)
rising m a (suc k) =
    let ih = rising m a k in
    let e : a + suc k ≡ (a + k) + 1 = omega arith in
    let h = below m (a + k) in
    rw e (omega (arith, ih, h))

pub ports_rise : (m : Meaning) (a b : ℕ) → a ≤ b → ports_among m (up_to 0 a) ≤ ports_among m (up_to 0 b)
ports_rise m a b h = let e : a + (b - a) ≡ b = omega arith in subst (λ (n : ℕ). ports_among m (up_to 0 a) ≤ ports_among m (up_to 0 n)) e (rising m a (b - a))

-- A search among places from a on finds one of them.
first_among : (w : Wanted) (m : Meaning) (a n p : ℕ) → first_of w m (range_with_len a n) ≡ Some p → (a ≤ p) × (p < a + n)
first_among w m a zero p e = let z : ◌≡◌ {A = ℕ} 0 1 = cc in absurd (omega arith)
first_among w m a (suc n) p e = go (λ h. first_among w m (a + 1) n p h) (passes w m a) e
  where
    go : (first_of w m (range_with_len (a + 1) n) ≡ Some p → (a + 1 ≤ p) × (p < a + 1 + n)) → (b : Bool) → cond b (Some a) (first_of w m (range_with_len (a + 1) n)) ≡ Some p → (a ≤ p) × (p < a + suc n)
    go ih true h = let s : a ≡ p = cc in (omega arith, omega arith)
    go ih false h = let t = ih h in let x = t.0 in let y = t.1 in (omega arith, omega arith)

-- The next full port place.
pub record FullAt (m : Meaning) (next p : ℕ) : Type 0 where
  pub from : next ≤ p
  pub within : p < count m
  pub port : of_kind is_port m p ≡ true
  pub full : held_at m p ≢ 0

pub full_at : (m : Meaning) (next p : ℕ) → next_full_port m next ≡ Some p → FullAt m next p
full_at m next p e =
    let t = first_among FullPort m next (count m - next) p e in
    let x = t.0 in
    let y = t.1 in
    let q = and_parts (of_kind is_port m p) (not (eqb (held_at m p) 0)) (first_passes FullPort m (up_to next (count m)) p e) in
    record { from = x; within = omega arith; port = q.0; full = eqb-false (held_at m p) 0 (opposite (eqb (held_at m p) 0) q.1) }
  where
    opposite : (b : Bool) → not b ≡ true → b ≡ false
    opposite true h = sym h
    opposite false h = refl

pub port_there : (m : Meaning) (next p : ℕ) → FullAt m next p → port_at m.kinds p ≡ true
port_there m next p f = sym (port_of m p) ∙ f.port

-- It is one more than those below `next`, and all are few.
pub ports_passed : (m : Meaning) (next p : ℕ) → FullAt m next p → ports_among m (up_to 0 next) + 1 ≤ ports_among m (up_to 0 (p + 1))
ports_passed m next p f =
    let a = ports_rise m next p f.from in
    let b = below m p in
    let d : ◌≡◌ {A = ℕ} (cond (of_kind is_port m p) 1 0) 1 = cond-true (of_kind is_port m p) 1 0 f.port in
    omega (arith, a, b, d)

pub ports_few : (m : Meaning) (next p : ℕ) → fit m ≡ true → FullAt m next p → ports_among m (up_to 0 next) < 21
ports_few m next p e f =
    let a = ports_passed m next p f in
    let b = ports_rise m (p + 1) (count m) (omega (arith, f.within)) in
    let c = fit_ports m e in
    omega (arith, a, b, c)
