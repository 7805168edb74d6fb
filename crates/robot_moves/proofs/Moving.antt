-- The movement of a cartridge, way by way.
use Rattle.std.proofs.Common.{◌≡◌, ℕ, ◌+◌, Bool, cond, ◌++◌, Some, None, Ok, Err, Option, sym, refl, ap, ◌∙◌, arith}
use Rattle.std.proofs.lemmas.Bool.{ne_eqb}
use Rattle.std.proofs.lemmas.Bool.Decides.{nat_tests}
use Rattle.robots.specs.declared.fault.Fault.{Fault}
use Rattle.robots.specs.Meaning.{Meaning, Sound, count}
use Rattle.robots.specs.Acts.{lift_refusal, lifted, set_refusal, set_down, with_held}
use Rattle.robots.specs.Cartridges.{SameCartridges, cartridges_of}
use Rattle.robots.proofs.Acts.{lift_keeps, set_keeps}
use Rattle.robot_moves.specs.declared.search.Wanted.TheVariants.{FreeCell}
use Rattle.robot_moves.specs.declared.movement.Target.{Target}
use Rattle.robot_moves.specs.declared.movement.Stopped.TheVariants.{NoTarget, Refused}
use Rattle.robot_moves.specs.Slips.{Slip, Found, slip_from, slip_answer, set_by_slip, found}
use Rattle.robot_moves.specs.Movement.{Movement, movement, lifted_for, brought_to, set_at, sought, stopped, Emptying, cleared, hand_emptied}
use Rattle.robot_moves.specs.Search.{next_free_cell, up_to}
use Rattle.robot_moves.proofs.Places.{first_passes}
use Rattle.robot_moves.proofs.Returning.{was_granted, granted_value, slip_refused, set_same, back_fits, back_is, lifted_length}

missed : (m : Meaning) (p : ℕ) (t : Target) → lift_refusal m p ≡ None → sought t (lifted m p) p ≡ None → movement m p t ≡ stopped NoTarget m
missed m p t e h = ap (λ (o : Option Fault). lifted_for o t m p) e ∙ ap (λ (o : Option ℕ). brought_to o m p) h

refused : (m : Meaning) (p q : ℕ) (t : Target) (f : Fault) → lift_refusal m p ≡ None → sought t (lifted m p) p ≡ Some q → set_refusal (lifted m p) q ≡ Some f → movement m p t ≡ stopped (Refused f) m
refused m p q t f e h k =
    ap (λ (o : Option Fault). lifted_for o t m p) e ∙ ap (λ (o : Option ℕ). brought_to o m p) h ∙ ap (λ (o : Option Fault). set_at o m p q) k

-- Nowhere to go: m is before the lift, m1 after it.
pub no_target_fits : (m m1 : Meaning) (p : ℕ) (s : Slip) → Sound m → Ok s ≡ slip_answer m p → m1 ≡ lifted m p → set_refusal m1 s.of.from ≡ None
no_target_fits m m1 p s sound g l =
    let e = was_granted (lift_refusal m p) (slip_from p) s g in
    let et : s.of.from ≡ p = ap (λ (z : Slip). z.of.from) (granted_value (lift_refusal m p) (slip_from p) s g) in
    rw (l, et) (back_fits m p sound e)

-- Here m2 is after the way back.
pub no_target : (m m1 m2 : Meaning) (p : ℕ) (t : Target) (s : Slip) → Ok s ≡ slip_answer m p → m1 ≡ lifted m p → None ≡ sought t m1 p → m2 ≡ with_held m1 s.of.from m1.hand 0 → (Err NoTarget ≡ (movement m p t).answer) × (m2 ≡ (movement m p t).robot)
no_target m m1 m2 p t s g l n b =
    let e = was_granted (lift_refusal m p) (slip_from p) s g in
    let et : s.of.from ≡ p = ap (λ (z : Slip). z.of.from) (granted_value (lift_refusal m p) (slip_from p) s g) in
    let k = missed m p t e (ap (λ (z : Meaning). sought t z p) (sym l) ∙ sym n) in
    let eb : m2 ≡ m = b ∙ rw (l, et) (back_is m p e) in
    (sym (ap (λ (z : Movement). z.answer) k), eb ∙ sym (ap (λ (z : Movement). z.robot) k))

-- The set is refused: m2 is after it.
pub refused_fits : (m m1 m2 : Meaning) (p q : ℕ) (s t : Slip) (f : Fault) → Sound m → Ok s ≡ slip_answer m p → m1 ≡ lifted m p → Err (t, f) ≡ set_by_slip s m1 q → m2 ≡ set_down m1 q → set_refusal m2 t.of.from ≡ None
refused_fits m m1 m2 p q s t f sound g l b d =
    let e = was_granted (lift_refusal m p) (slip_from p) s g in
    let w = slip_refused s (set_refusal m1 q) t f b in
    let em : m2 ≡ lifted m p = d ∙ set_same m1 q f w.0 ∙ l in
    let et : t.of.from ≡ p = ap (λ (z : Slip). z.of.from) (w.1 ∙ granted_value (lift_refusal m p) (slip_from p) s g) in
    rw (em, et) (back_fits m p sound e)

-- Here m3 is after the way back.
pub set_refused : (m m1 m2 m3 : Meaning) (p q : ℕ) (a : Target) (s t : Slip) (f : Fault) → Ok s ≡ slip_answer m p → m1 ≡ lifted m p → Some q ≡ sought a m1 p → Err (t, f) ≡ set_by_slip s m1 q → m2 ≡ set_down m1 q → m3 ≡ with_held m2 t.of.from m2.hand 0 → (Err (Refused f) ≡ (movement m p a).answer) × (m3 ≡ (movement m p a).robot)
set_refused m m1 m2 m3 p q a s t f g l n r d b =
    let e = was_granted (lift_refusal m p) (slip_from p) s g in
    let w = slip_refused s (set_refusal m1 q) t f r in
    let k = refused m p q a f e (ap (λ (z : Meaning). sought a z p) (sym l) ∙ sym n) (ap (λ (z : Meaning). set_refusal z q) (sym l) ∙ w.0) in
    let em : m2 ≡ lifted m p = d ∙ set_same m1 q f w.0 ∙ l in
    let et : t.of.from ≡ p = ap (λ (z : Slip). z.of.from) (w.1 ∙ granted_value (lift_refusal m p) (slip_from p) s g) in
    let eb : m3 ≡ m = b ∙ rw (em, et) (back_is m p e) in
    (sym (ap (λ (z : Movement). z.answer) k), eb ∙ sym (ap (λ (z : Movement). z.robot) k))

-- No cartridge is lost or made, whichever way it goes.
keeps_set_at : (m : Meaning) (p q k : ℕ) → Sound m → (o : Option Fault) → cartridges_of k (set_at o m p q).robot ≡ cartridges_of k m
keeps_set_at m p q k s (Some f) = refl
keeps_set_at m p q k s None = set_keeps (lifted m p) q k (lifted_length m p (lift_refusal m p) s.held_length) ∙ lift_keeps m p k s.held_length

keeps_brought : (m : Meaning) (p k : ℕ) → Sound m → (o : Option ℕ) → cartridges_of k (brought_to o m p).robot ≡ cartridges_of k m
keeps_brought m p k s None = refl
keeps_brought m p k s (Some q) = keeps_set_at m p q k s (set_refusal (lifted m p) q)

keeps_lifted_for : (m : Meaning) (p k : ℕ) (t : Target) → Sound m → (o : Option Fault) → cartridges_of k (lifted_for o t m p).robot ≡ cartridges_of k m
keeps_lifted_for m p k t s (Some f) = refl
keeps_lifted_for m p k t s None = keeps_brought m p k s (sought t (lifted m p) p)

pub movement_keeps : (m n : Meaning) (p : ℕ) (t : Target) → Sound m → n ≡ (movement m p t).robot → SameCartridges m n
movement_keeps m n p t s e k = ap (cartridges_of k) e ∙ keeps_lifted_for m p k t s (lift_refusal m p)

-- A cartridge that was found in the hand, and a cell that is free for it.
found_full : (m : Meaning) (token : Found) → Some token ≡ found m → m.hand ≡ 0 → ⊥
found_full m token e h =
    let z : ◌≡◌ {A = Option Found} (Some token) None = rw h at e in
    let w : ◌≡◌ {A = ℕ} 0 1 = cc in
    omega arith

pub free_fits : (m : Meaning) (p q : ℕ) (token : Found) → Some token ≡ found m → Some q ≡ next_free_cell m p → set_refusal m q ≡ None
free_fits m p q token f e =
    let h = found_full m token f in
    let t = first_passes FreeCell m (up_to (p + 1) (count m) ++ up_to 0 (p + 1)) q (sym e) in
    grind (arith, nat_tests)

-- Here n is after the set.
pub hand_emptied_holds : (m n : Meaning) (p q : ℕ) (token : Found) → Sound m → Some token ≡ found m → Some q ≡ next_free_cell m p → n ≡ set_down m q → (Ok tt ≡ (hand_emptied m p).answer) × (n ≡ (hand_emptied m p).robot) × SameCartridges m n
hand_emptied_holds m n p q token s f e d =
    let k : hand_emptied m p ≡ cleared (Some q) m =
    ap (λ (b : Bool). cond b (record { answer = Ok tt; robot = m }) (cleared (next_free_cell m p) m)) (ne_eqb m.hand 0 (found_full m token f))
    ∙ ap (λ (o : Option ℕ). cleared o m) (sym e) in (
      sym (ap (λ (z : Emptying). z.answer) k),
      d ∙ sym (ap (λ (z : Emptying). z.robot) k),
      λ k. ap (cartridges_of k) d ∙ set_keeps m q k s.held_length,
    )
