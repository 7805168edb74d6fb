-- What a granted act tells, and what acts keep.
use Rattle.std.proofs.Common.{◌≡◌, ℕ, zero, suc, ◌+◌, ◌<◌, true, cond, eqb, List, [], ◌∷◌, length, get_or, set, Some, None, Option, refl, arith}
use Rattle.std.proofs.lemmas.Bool.Decides.{nat_tests}
use Rattle.robots.specs.declared.fault.Fault.{Fault}
use Rattle.robots.specs.Meaning.{Meaning, count, held_at, serving}
use Rattle.robots.specs.Acts.{left, lift_refusal, lifted, set_refusal, set_down, with_held}
use Rattle.robots.specs.Cartridges.{tally, cartridges_of}

pub lift_tells : (m : Meaning) (p : ℕ) → lift_refusal m p ≡ None → (p < count m) × (m.hand ≡ 0) × (serving m p ≡ true) × (held_at m p ≡ 0 → ⊥)
lift_tells m p e = grind (arith, nat_tests)

pub set_tells : (m : Meaning) (p : ℕ) → set_refusal m p ≡ None → (p < count m) × (m.hand ≡ 0 → ⊥) × (serving m p ≡ true) × (held_at m p ≡ 0)
set_tells m p e = grind (arith, nat_tests)

-- One for k, else nothing.
abbrev one : ℕ → ℕ → ℕ
one k x = cond (eqb x k) 1 0

pub tally_set : (k : ℕ) (xs : List ℕ) (p v : ℕ) → p < length xs → tally k (set xs p v) + one k (get_or xs p 0) ≡ tally k xs + one k v
tally_set k [] p v h = absurd (omega arith)
tally_set k (x ∷ xs) zero v h = omega arith
tally_set k (x ∷ xs) (suc p) v h = let ih = tally_set k xs p v (omega arith) in omega arith

keeps_lifted : (m : Meaning) (p k : ℕ) → length m.held ≡ count m → (o : Option Fault) → lift_refusal m p ≡ o → cartridges_of k (left o m (with_held m p 0 (held_at m p))) ≡ cartridges_of k m
keeps_lifted m p k s (Some f) e = refl
keeps_lifted m p k s None e =
    let t = lift_tells m p e in
    let l : p < length m.held = omega (arith, t.0) in
    let d = tally_set k m.held p 0 l in
    rw t.1 (omega arith)

pub lift_keeps : (m : Meaning) (p k : ℕ) → length m.held ≡ count m → cartridges_of k (lifted m p) ≡ cartridges_of k m
lift_keeps m p k s = keeps_lifted m p k s (lift_refusal m p) refl

keeps_set : (m : Meaning) (p k : ℕ) → length m.held ≡ count m → (o : Option Fault) → set_refusal m p ≡ o → cartridges_of k (left o m (with_held m p m.hand 0)) ≡ cartridges_of k m
keeps_set m p k s (Some f) e = refl
keeps_set m p k s None e =
    let t = set_tells m p e in
    let l : p < length m.held = omega (arith, t.0) in
    let d = rw t.3 at (tally_set k m.held p m.hand l) in
    omega arith

pub set_keeps : (m : Meaning) (p k : ℕ) → length m.held ≡ count m → cartridges_of k (set_down m p) ≡ cartridges_of k m
set_keeps m p k s = keeps_set m p k s (set_refusal m p) refl
