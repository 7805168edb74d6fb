-- The way back of a lifted cartridge, which is never refused.
use Rattle.std.proofs.Common.{◌≡◌, ℕ, ◌<◌, length, get_or, Some, None, Ok, Err, Option, sym, refl, ap, arith}
use Rattle.std.proofs.lemmas.List.{set-set, set-get_or, length-set, get_or-set_same}
use Rattle.std.proofs.lemmas.Bool.Decides.{nat_tests}
use Rattle.robots.specs.declared.fault.Fault.{Fault}
use Rattle.robots.specs.Meaning.{Meaning, Sound, count, held_at}
use Rattle.robots.specs.Acts.{answered, left, lift_refusal, lifted, set_refusal, set_down, with_held}
use Rattle.robots.proofs.Acts.{lift_tells}
use Rattle.robot_moves.specs.Slips.{Slip, or_slip}

-- What an answer tells of the refusal.
pub was_granted : {A : Type 0} (o : Option Fault) (x y : A) → Ok y ≡ answered o x → o ≡ None
was_granted None x y e = refl
was_granted (Some h) x y e = cc

pub granted_value : {A : Type 0} (o : Option Fault) (x y : A) → Ok y ≡ answered o x → y ≡ x
granted_value None x y e = cc
granted_value (Some h) x y e = cc

pub slip_refused : (s : Slip) (o : Option Fault) (t : Slip) (f : Fault) → Err (t, f) ≡ or_slip s (answered o tt) → (o ≡ Some f) × (t ≡ s)
slip_refused s None t f e = let z : ◌≡◌ {A = ℕ} 0 1 = cc in absurd (omega arith)
slip_refused s (Some h) t f e =
    let q : (t, f) ≡ (s, h) = cc in
    (ap (λ (z : Fault). Some z) (sym (ap (λ (z : Slip × Fault). z.1) q)), ap (λ (z : Slip × Fault). z.0) q)

-- A refused set leaves all as it was.
pub set_same : (m : Meaning) (p : ℕ) (f : Fault) → set_refusal m p ≡ Some f → set_down m p ≡ m
set_same m p f e = ap (λ (o : Option Fault). left o m (with_held m p m.hand 0)) e

-- A lifted cartridge can be put back, and then all is as it was.
pub back_fits : (m : Meaning) (p : ℕ) → Sound m → lift_refusal m p ≡ None → set_refusal (lifted m p) p ≡ None
back_fits m p s e =
    let t = lift_tells m p e in
    let l : p < length m.held = omega (arith, t.0, s.held_length) in
    let z = get_or-set_same m.held p 0 0 l in
    rw e (grind (arith, nat_tests))

pub back_is : (m : Meaning) (p : ℕ) → lift_refusal m p ≡ None → with_held (lifted m p) p (lifted m p).hand 0 ≡ m
back_is m p e =
    let t = lift_tells m p e in
    let a = set-set m.held p 0 (get_or m.held p 0) in
    let b = set-get_or m.held p 0 in
    rw e (rw (a, b, ← t.1) refl)

-- A lift leaves as many places.
pub lifted_length : (m : Meaning) (p : ℕ) (o : Option Fault) → length m.held ≡ count m → length (left o m (with_held m p 0 (held_at m p))).held ≡ count (left o m (with_held m p 0 (held_at m p)))
lifted_length m p (Some f) s = s
lifted_length m p None s = simp length-set s
