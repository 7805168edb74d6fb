-- What people at the port are told.
use Rattle.std.specs.Prelude.{ℕ, Bool, true, false, cond, Some, None, Ok, Err, Option, Result, nat_lt}
use Rattle.robots.specs.declared.fault.Fault.{Fault}
use Rattle.robots.specs.declared.fault.Fault.TheVariants.{NoPlace, HandFull, HandEmpty, OutOfService, PlaceEmpty, PlaceFull, BadNumber}
use Rattle.robots.specs.Meaning.{count}
use Rattle.robots.specs.Acts.{put_answer, switch_answer, take_answer}
use Rattle.robot_moves.specs.Search.{is_port, of_kind}
use Rattle.requests.specs.declared.bodies.Body.{Body}
use Rattle.requests.specs.declared.bodies.Body.TheVariants as body
use Rattle.library.specs.Library.{Job, Library}
use Rattle.stock.specs.Models.{Stocked}
use Rattle.stock.specs.Moves.{with_put, with_switched, with_taken}
use Rattle.server.specs.declared.refusal.CallRefusal.{CallRefusal}
use Rattle.server.specs.declared.refusal.CallRefusal.TheVariants as refusal

-- The number that a refused call returns.
abbrev pub refusal_number : CallRefusal → ℕ
refusal_number refusal.ShortBuffer = 1
refusal_number refusal.NumberInUse = 2
refusal_number refusal.NoPlace = 3
refusal_number refusal.NotPort = 4
refusal_number refusal.EnterAtWork = 5
refusal_number refusal.NoNumber = 6
refusal_number refusal.PlaceFull = 7
refusal_number refusal.PlaceEmpty = 8

-- What a put that the robot refused is told.
abbrev pub why_not_put : Fault → CallRefusal
why_not_put (NoPlace p) = refusal.NoPlace
why_not_put (HandFull p) = refusal.PlaceFull
why_not_put (HandEmpty p) = refusal.PlaceFull
why_not_put (OutOfService p) = refusal.PlaceFull
why_not_put (PlaceEmpty p) = refusal.PlaceFull
why_not_put (PlaceFull p) = refusal.PlaceFull
why_not_put (BadNumber p) = refusal.NoNumber

-- What a take that the robot refused is told.
abbrev pub why_not_taken : Fault → CallRefusal
why_not_taken (NoPlace p) = refusal.NoPlace
why_not_taken (HandFull p) = refusal.PlaceEmpty
why_not_taken (HandEmpty p) = refusal.PlaceEmpty
why_not_taken (OutOfService p) = refusal.PlaceEmpty
why_not_taken (PlaceEmpty p) = refusal.PlaceEmpty
why_not_taken (PlaceFull p) = refusal.PlaceEmpty
why_not_taken (BadNumber p) = refusal.PlaceEmpty

-- Whether an enter is at work.
abbrev pub is_enter : Body → Bool
is_enter (body.Cancel target) = false
is_enter (body.Dismount label drive force) = false
is_enter (body.Eject label) = false
is_enter body.Enter = true
is_enter (body.Idle force) = false
is_enter (body.Mount label drive) = false
is_enter (body.Query label) = false
is_enter body.Start = false
is_enter (body.Vary drive setting) = false

abbrev pub entering : Option Job → Bool
entering None = false
entering (Some j) = is_enter j.request.body

-- Whether a hand reaches a place while the door is shut: no such place, not a port place, an enter at work.
abbrev pub reach : Library → ℕ → Option CallRefusal
reach l p =
    cond (nat_lt p (count l.stock.robot))
    (cond (of_kind is_port l.stock.robot p) (cond (entering l.work) (Some refusal.EnterAtWork) None) (Some refusal.NotPort))
    (Some refusal.NoPlace)

-- What a call of a person answers, and the library after it.
pub record Handled (A : Type 0) : Type 0 where
  pub answer : Result A CallRefusal
  pub library : Library

abbrev pub with_stock : Stocked → Library → Library
with_stock s l = record {
  stock = s;
  state = l.state;
  drives = l.drives;
  work = l.work;
  waiting = l.waiting;
  slots = l.slots;
  messages = l.messages;
  message_slots = l.message_slots;
  dropped = l.dropped;
  door = l.door;
}

-- A refused call changes nothing.
abbrev pub barred_hand : {A : Type 0} → CallRefusal → Library → Handled A
barred_hand why l = record { answer = Err why; library = l }

-- What the robot answers, told to the person; where it refuses, it leaves all as it was.
abbrev pub told_by : {A : Type 0} → (Fault → CallRefusal) → Result A Fault → Result A CallRefusal
told_by why (Ok x) = Ok x
told_by why (Err fault) = Err (why fault)

-- Put: within reach, as the robot answers.
abbrev pub put_if : Option CallRefusal → Library → ℕ → ℕ → Handled (Unit {0})
put_if (Some why) l p number = barred_hand why l
put_if None l p number = record {
  answer = told_by why_not_put (put_answer l.stock.robot p number);
  library = with_stock (with_put l.stock p number) l;
}

abbrev pub put_call : Library → ℕ → ℕ → Handled (Unit {0})
put_call l p number = put_if (reach l p) l p number

-- Take: within reach, as the robot answers.
abbrev pub take_if : Option CallRefusal → Library → ℕ → Handled ℕ
take_if (Some why) l p = barred_hand why l
take_if None l p = record {
  answer = told_by why_not_taken (take_answer l.stock.robot p);
  library = with_stock (with_taken l.stock p) l;
}

abbrev pub take_call : Library → ℕ → Handled ℕ
take_call l p = take_if (reach l p) l p

-- A place is switched at any time.
abbrev pub no_such_place : Fault → CallRefusal
no_such_place fault = refusal.NoPlace

abbrev pub service_call : Library → ℕ → Bool → Handled (Unit {0})
service_call l p on = record {
  answer = told_by no_such_place (switch_answer l.stock.robot p);
  library = with_stock (with_switched l.stock p on) l;
}
