-- The acts of a robot: why each is refused, what it answers, and what it leaves.
use Rattle.std.specs.Prelude.{ℕ, Bool, cond, not, Some, None, Ok, Err, Option, Result, ◌==◌, nat_lt, slice_set}
use Rattle.labels.specs.Labels.{is_cartridge_number}
use Rattle.robots.specs.declared.fault.Fault.{Fault}
use Rattle.robots.specs.declared.fault.Fault.TheVariants.{NoPlace, HandFull, HandEmpty, OutOfService, PlaceEmpty, PlaceFull, BadNumber}
use Rattle.robots.specs.Meaning.{Meaning, count, held_at, serving}

-- The place that a fault names.
abbrev pub place_of : Fault → ℕ
place_of (NoPlace p) = p
place_of (HandFull p) = p
place_of (HandEmpty p) = p
place_of (OutOfService p) = p
place_of (PlaceEmpty p) = p
place_of (PlaceFull p) = p
place_of (BadNumber p) = p

-- A test of a ladder of refusals: where it fails the fault is told, else the rest of the ladder decides.
abbrev pub needs : Bool → Fault → Option Fault → Option Fault
needs passes fault rest = cond passes rest (Some fault)

-- Why each act is refused, in the order in which it is tested.
abbrev pub lift_refusal : Meaning → ℕ → Option Fault
lift_refusal m p =
    needs (nat_lt p (count m)) (NoPlace p)
    (needs (m.hand == 0) (HandFull p)
    (needs (serving m p) (OutOfService p)
    (needs (not (held_at m p == 0)) (PlaceEmpty p) None)))

abbrev pub set_refusal : Meaning → ℕ → Option Fault
set_refusal m p =
    needs (nat_lt p (count m)) (NoPlace p)
    (needs (not (m.hand == 0)) (HandEmpty p)
    (needs (serving m p) (OutOfService p)
    (needs (held_at m p == 0) (PlaceFull p) None)))

abbrev pub put_refusal : Meaning → ℕ → ℕ → Option Fault
put_refusal m p number =
    needs (nat_lt p (count m)) (NoPlace p)
    (needs (is_cartridge_number number) (BadNumber p)
    (needs (held_at m p == 0) (PlaceFull p) None))

abbrev pub take_refusal : Meaning → ℕ → Option Fault
take_refusal m p =
    needs (nat_lt p (count m)) (NoPlace p)
    (needs (not (held_at m p == 0)) (PlaceEmpty p) None)

abbrev pub switch_refusal : Meaning → ℕ → Option Fault
switch_refusal m p = needs (nat_lt p (count m)) (NoPlace p) None

-- A meaning in which place p and the hand hold other cartridges, and one in which place p is switched.
abbrev pub with_held : Meaning → ℕ → ℕ → ℕ → Meaning
with_held m p number hand = record { kinds = m.kinds; held = slice_set m.held p number; service = m.service; hand = hand }

abbrev pub with_service : Meaning → ℕ → Bool → Meaning
with_service m p on = record { kinds = m.kinds; held = m.held; service = slice_set m.service p on; hand = m.hand }

-- What an act answers: the fault where it is refused, else x.
abbrev pub answered : {A : Type 0} → Option Fault → A → Result A Fault
answered None x = Ok x
answered (Some fault) x = Err fault

-- What an act leaves: the meaning as it was where it is refused, else the new one.
abbrev pub left : Option Fault → Meaning → Meaning → Meaning
left None old new = new
left (Some fault) old new = old

-- Lift: the cartridge goes from the place to the hand, and its number is told.
abbrev pub lift_answer : Meaning → ℕ → Result ℕ Fault
lift_answer m p = answered (lift_refusal m p) (held_at m p)

abbrev pub lifted : Meaning → ℕ → Meaning
lifted m p = left (lift_refusal m p) m (with_held m p 0 (held_at m p))

-- Set: the cartridge goes from the hand to the place.
abbrev pub set_answer : Meaning → ℕ → Result (Unit {0}) Fault
set_answer m p = answered (set_refusal m p) tt

abbrev pub set_down : Meaning → ℕ → Meaning
set_down m p = left (set_refusal m p) m (with_held m p m.hand 0)

-- Put: a person brings a cartridge.
abbrev pub put_answer : Meaning → ℕ → ℕ → Result (Unit {0}) Fault
put_answer m p number = answered (put_refusal m p number) tt

abbrev pub put_in : Meaning → ℕ → ℕ → Meaning
put_in m p number = left (put_refusal m p number) m (with_held m p number m.hand)

-- Take: a person removes the cartridge, and its number is told.
abbrev pub take_answer : Meaning → ℕ → Result ℕ Fault
take_answer m p = answered (take_refusal m p) (held_at m p)

abbrev pub taken : Meaning → ℕ → Meaning
taken m p = left (take_refusal m p) m (with_held m p 0 m.hand)

-- Switch: the place goes into service, or out of it.
abbrev pub switch_answer : Meaning → ℕ → Result (Unit {0}) Fault
switch_answer m p = answered (switch_refusal m p) tt

abbrev pub switched : Meaning → ℕ → Bool → Meaning
switched m p on = left (switch_refusal m p) m (with_service m p on)
