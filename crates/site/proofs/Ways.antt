-- One movement: the cartridge stays where it was, or goes from a to b; and what that keeps.
use Rattle.std.proofs.Common.{◌≡◌, ℕ, ◌<◌, ◌≤◌, cond, ◌&&◌, eqb, ltb, ◌≢◌, List, length, get_or, set, Some, None, Ok, Err, Option, sym, refl, ap, ◌∙◌, ⊎_elim, arith, length-set}
use mathlib.Core.Path.{subst⁻¹}
use Rattle.std.proofs.lemmas.List.{get_or_past, get_or-set_same, get_or-set_other}
use Rattle.std.proofs.lemmas.Bool.{cases_eq, cases_lt, eq-eqb, ne_eqb, lt-ltb, le-ltb, cond-true, cond-false}
use Rattle.labels.specs.Numbers.{unreadable_number}
use Rattle.robots.specs.declared.fault.Fault.{Fault}
use Rattle.robots.specs.declared.kind.Kind.TheVariants.{Cell}
use Rattle.robot_moves.specs.declared.movement.Target.{Target}
use Rattle.robot_moves.specs.declared.movement.Stopped.{Stopped}
use Rattle.robot_moves.specs.declared.movement.Stopped.TheVariants.{NoTarget, Refused}
use Rattle.robots.specs.Meaning.{Meaning, Sound, count, held_at}
use Rattle.robots.specs.Acts.{left, lift_refusal, lifted, set_refusal, set_down, with_held}
use Rattle.robot_moves.specs.Movement.{Movement, movement, lifted_for, brought_to, set_at, sought}
use Rattle.robot_moves.specs.Search.{is_port, of_kind}
use Rattle.robots.proofs.Acts.{lift_tells, set_tells}
use Rattle.stock.specs.Holding.{held_in, shown_at}
use Rattle.site.specs.Inventories.{port_at}

-- What cells and drives hold, by the parts of a meaning.
abbrev pub cells : Meaning → ℕ → ℕ
cells m p = cond (port_at m.kinds p) 0 (held_at m p)

-- A robot with other holdings and another hand.
abbrev pub holding : Meaning → List ℕ → ℕ → Meaning
holding m hs h = record { kinds = m.kinds; held = hs; service = m.service; hand = h }

pub record Moved (m : Meaning) (a b : ℕ) (m' : Meaning) : Type 0 where
  pub from_in : a < count m
  pub to_in : b < count m
  pub free : m.hand ≡ 0
  pub full : held_at m a ≢ 0
  pub vacant : get_or (set m.held a 0) b 0 ≡ 0
  pub is : m' ≡ holding m (set (set m.held a 0) b (held_at m a)) 0

pub data Way (m : Meaning) (a : ℕ) (t : Target) (x : Movement) : Type 0 where
  stayed : (why : Stopped) → x.answer ≡ Err why → x.robot ≡ m → Way m a t x
  went : (b : ℕ) → x.answer ≡ Ok (record { cartridge = held_at m a; to = b }) → sought t (holding m (set m.held a 0) (held_at m a)) a ≡ Some b → Moved m a b x.robot → Way m a t x

module _ (m : Meaning) (a : ℕ) (t : Target) where
  abbrev up : Meaning
  up = holding m (set m.held a 0) (held_at m a)

  is_up : lift_refusal m a ≡ None → lifted m a ≡ up
  is_up e = ap (λ (o : Option Fault). left o m up) e

  has-moved : (b : ℕ) → lift_refusal m a ≡ None → set_refusal up b ≡ None → Moved m a b (set_down (lifted m a) b)
  has-moved b e f =
      let l = lift_tells m a e in
      let s = set_tells up b f in
      record {
        from_in = l.0;
        to_in = s.0;
        free = l.1;
        full = l.3;
        vacant = s.3;
        is = ap (λ (n : Meaning). set_down n b) (is_up e) ∙ ap (λ (o : Option Fault). left o up (with_held up b up.hand 0)) f;
      }

  set-way : (b : ℕ) → lift_refusal m a ≡ None → sought t up a ≡ Some b → (g : Option Fault) → set_refusal (lifted m a) b ≡ g → Way m a t (set_at g m a b)
  set-way b e q (Some f) h = stayed (Refused f) refl refl
  set-way b e q None h = went b refl q (has-moved b e (ap (λ (n : Meaning). set_refusal n b) (sym (is_up e)) ∙ h))

  brought-way : lift_refusal m a ≡ None → (o : Option ℕ) → sought t (lifted m a) a ≡ o → Way m a t (brought_to o m a)
  brought-way e None q = stayed NoTarget refl refl
  brought-way e (Some b) q = set-way b e (ap (λ (n : Meaning). sought t n a) (sym (is_up e)) ∙ q) (set_refusal (lifted m a) b) refl

  lifted-way : (f : Option Fault) → lift_refusal m a ≡ f → Way m a t (lifted_for f t m a)
  lifted-way (Some f) e = stayed (Refused f) refl refl
  lifted-way None e = brought-way e (sought t (lifted m a) a) refl

  pub way : Way m a t (movement m a t)
  way = lifted-way (lift_refusal m a) refl

pub way_kinds : (m : Meaning) (a : ℕ) (t : Target) (x : Movement) → Way m a t x → x.robot.kinds ≡ m.kinds
way_kinds m a t x (stayed w e r) = ap (λ (n : Meaning). n.kinds) r
way_kinds m a t x (went b e q v) = ap (λ (n : Meaning). n.kinds) v.is

pub way_hand : (m : Meaning) (a : ℕ) (t : Target) (x : Movement) → Way m a t x → m.hand ≡ 0 → x.robot.hand ≡ 0
way_hand m a t x (stayed w e r) h = ap (λ (n : Meaning). n.hand) r ∙ h
way_hand m a t x (went b e q v) h = ap (λ (n : Meaning). n.hand) v.is

-- What a set leaves, as a test.
pub at_set : (l : List ℕ) (i x j : ℕ) → i < length l → get_or (set l i x) j 0 ≡ cond (eqb j i) x (get_or l j 0)
at_set l i x j h =
    ⊎_elim
    (λ (e : j ≡ i). ap (λ n. get_or (set l i x) n 0) e ∙ get_or-set_same l i x 0 h ∙ sym (ap (λ b. cond b x (get_or l j 0)) (eq-eqb j i e)))
    (λ (n : j ≢ i). get_or-set_other l i j x 0 n ∙ sym (ap (λ b. cond b x (get_or l j 0)) (ne_eqb j i n)))
    (cases_eq j i)

-- Other holdings of sound numbers are sound.
pub sound_set : (m : Meaning) (p x h : ℕ) → Sound m → p < count m → x ≤ unreadable_number → h ≤ unreadable_number → Sound (holding m (set m.held p x) h)
sound_set m p x h s l few k = record {
  few = s.few;
  held_length = length-set m.held p x ∙ s.held_length;
  service_length = s.service_length;
  held_numbers = λ q. numbers q;
  hand_number = k;
}
  where
    numbers : (q : ℕ) → get_or (set m.held p x) q 0 ≤ unreadable_number
    numbers q =
        let e = at_set m.held p x q (omega (arith, l, s.held_length)) in
        let g = s.held_numbers q in
        ⊎_elim
        (λ (same : q ≡ p). subst⁻¹ (λ v. v ≤ unreadable_number) (e ∙ cond-true (eqb q p) _ _ (eq-eqb q p same)) few)
        (λ (other : q ≢ p). subst⁻¹ (λ v. v ≤ unreadable_number) (e ∙ cond-false (eqb q p) _ _ (ne_eqb q p other)) g)
        (cases_eq q p)

pub sound_moved : (m m' : Meaning) (a b : ℕ) → Sound m → Moved m a b m' → Sound m'
sound_moved m m' a b s v =
    let one = sound_set m a 0 (held_at m a) s v.from_in (omega arith) (s.held_numbers a) in
    let two = sound_set (holding m (set m.held a 0) (held_at m a)) b (held_at m a) 0 one v.to_in (s.held_numbers a) (omega arith) in
    subst⁻¹ Sound v.is two

pub way_sound : (m : Meaning) (a : ℕ) (t : Target) (x : Movement) → Sound m → Way m a t x → Sound x.robot
way_sound m a t x s (stayed w e r) = subst⁻¹ Sound r s
way_sound m a t x s (went b e q v) = sound_moved m x.robot a b s v

-- The kind of a place, asked with and without whether there is one.
pub port_of : (m : Meaning) (p : ℕ) → of_kind is_port m p ≡ port_at m.kinds p
port_of m p =
    ⊎_elim
    (λ (l : p < count m). ap (λ b. b && port_at m.kinds p) (lt-ltb p (count m) l))
    (λ (g : count m ≤ p). ap (λ b. b && port_at m.kinds p) (le-ltb p (count m) g) ∙ sym (ap is_port (get_or_past m.kinds p Cell g)))
    (cases_lt p (count m))

held_in_holds : (m : Meaning) (p : ℕ) → Sound m → held_in m p ≡ held_at m p
held_in_holds m p s =
    ⊎_elim
    (λ (l : p < count m). cond-true (ltb p (count m)) _ _ (lt-ltb p (count m) l))
    (λ (g : count m ≤ p). cond-false (ltb p (count m)) _ _ (le-ltb p (count m) g) ∙ sym (get_or_past m.held p 0 (omega (arith, s.held_length))))
    (cases_lt p (count m))

pub shown_cells : (m : Meaning) (p : ℕ) → Sound m → shown_at m p ≡ cells m p
shown_cells m p s = λ i. cond (port_of m p i) 0 (held_in_holds m p s i)

pub held_is : (m : Meaning) (p : ℕ) → Sound m → held_in m p ≡ held_at m p
held_is = held_in_holds
