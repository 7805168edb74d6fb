-- What each act does to the cartridges.
use Rattle.std.proofs.Common.{◌≡◌, ℕ, ◌<◌, Bool, Some, None, Option, refl, arith}
use Rattle.std.proofs.lemmas.Bool.{ne_eqb}
use Rattle.std.proofs.lemmas.Bool.Decides.{nat_tests}
use Rattle.robots.specs.declared.fault.Fault.{Fault}
use Rattle.robots.specs.declared.act.Act.{Act}
use Rattle.robots.specs.declared.act.Act.TheVariants.{Lift, Set, Put, Take, Switch}
use Rattle.robots.specs.declared.act.Answer.{Answer}
use Rattle.robots.specs.declared.act.Answer.TheVariants.{Number, Done}
use Rattle.robots.specs.Meaning.{Meaning, Sound, count, held_at}
use Rattle.robots.specs.Acts.{answered, left, put_refusal, take_refusal, switch_refusal, with_held, with_service}
use Rattle.robots.specs.Performing.{act_answer, acted, Brings, Removes, Conserves}
use Rattle.robots.specs.Cartridges.{SameCartridges}
use Rattle.robots.proofs.Acts.{tally_set, lift_keeps, set_keeps}

put_tells : (m : Meaning) (p number : ℕ) → put_refusal m p number ≡ None → (p < count m) × (held_at m p ≡ 0)
put_tells m p number e = grind (arith, nat_tests)

take_tells : (m : Meaning) (p : ℕ) → take_refusal m p ≡ None → p < count m
take_tells m p e = grind (arith, nat_tests)

put_brings : (m : Meaning) (p number : ℕ) → Sound m → (o : Option Fault) → put_refusal m p number ≡ o → Brings number (Done (answered o tt)) m (left o m (with_held m p number m.hand))
put_brings m p number s (Some fault) e = λ k. refl
put_brings m p number s None e =
    λ k h.
    let t = put_tells m p number e in
    let a = rw (t.1, ne_eqb 0 k (omega arith)) at (tally_set k m.held p number (omega (arith, t.0, s.held_length))) in
    omega arith

take_removes : (m : Meaning) (p : ℕ) → Sound m → (o : Option Fault) → take_refusal m p ≡ o → Removes (Number (answered o (held_at m p))) m (left o m (with_held m p 0 m.hand))
take_removes m p s (Some fault) e = λ k. refl
take_removes m p s None e =
    λ k h.
    let t = take_tells m p e in
    let a = rw (ne_eqb 0 k (omega arith)) at (tally_set k m.held p 0 (omega (arith, t, s.held_length))) in
    omega arith

switch_keeps : (m : Meaning) (p : ℕ) (on : Bool) (o : Option Fault) → SameCartridges m (left o m (with_service m p on))
switch_keeps m p on (Some fault) = λ k. refl
switch_keeps m p on None = λ k. refl

acted_conserves : (m : Meaning) (act : Act) → Sound m → Conserves act (act_answer m act) m (acted m act)
acted_conserves m (Lift p) s = λ k. lift_keeps m p k s.held_length
acted_conserves m (Set p) s = λ k. set_keeps m p k s.held_length
acted_conserves m (Put p number) s = put_brings m p number s (put_refusal m p number) refl
acted_conserves m (Take p) s = take_removes m p s (take_refusal m p) refl
acted_conserves m (Switch p on) s = switch_keeps m p on (switch_refusal m p)

-- Here r is the act's answer, and n is after it.
pub conserves : (m n : Meaning) (act : Act) (r : Answer) → Sound m → r ≡ act_answer m act → n ≡ acted m act → Conserves act r m n
conserves m n act r s a b = rw (a, b) (acted_conserves m act s)
