-- What a call can come to: a property of all outcomes is shown way by way.
use Rattle.std.proofs.Common.{◌≡◌, ℕ, ◌≤◌, Bool, true, false, cond, ltb, List, length, Some, None, Ok, Err, Option, Result, refl, arith}
use Rattle.std.proofs.lemmas.List.{length-replicate}
use Rattle.std.proofs.lemmas.Bool.{ltb-false}
use Rattle.requests.specs.declared.bodies.Request.{Request}
use Rattle.requests.specs.declared.refusals.BadPacket.{BadPacket}
use Rattle.requests.specs.Reading.{request_in}
use Rattle.robots.specs.declared.fault.Fault.{Fault}
use Rattle.robots.specs.Acts.{answered, left, put_refusal, take_refusal, switch_refusal, with_held, with_service}
use Rattle.robots.specs.Meaning.{Meaning, held_at}
use Rattle.library.specs.Library.{Library}
use Rattle.receipt.specs.declared.refusal.NotReceived.{NotReceived}
use Rattle.receipt.specs.Accepting.{Received, received, received_if, accepted, not_received, queued, queued_if, with_queued}
use Rattle.receipt.specs.Accepting.Said.{acknowledged}
use Rattle.receipt.specs.declared.refusal.NotReceived.TheVariants as unreceived
use Rattle.receipt.specs.Checking.{refusal_of}
use Rattle.steps.specs.Stepping.{stepped}
use Rattle.server.specs.declared.refusal.CallRefusal.{CallRefusal}
use Rattle.server.specs.declared.refusal.CallRefusal.TheVariants as refusal
use Rattle.server.specs.Answers.{bad_told}
use Rattle.server.specs.Calls.{refused_call, receive_call, step_call, step_outcome, said_outcome, wrote, used_by, number_read, in_use, answered_read}
use Rattle.server.specs.Door.{put_through, within_reach, take_through}
use Rattle.server.specs.Hands.{told_by, put_if, take_if, service_call, why_not_put, why_not_taken, no_such_place, with_stock}
use Rattle.server.specs.Machine.{After, replied, handled_as, is_granted, blank, when_shut, when_open, barred_call}
use Rattle.server.specs.Machine.Reply.{refused, granted, took}

-- A call that the door may bar.
pub if_shut : (P : After → Type 0) (d : Bool) (l : Library) (a : After) → P (barred_call l) → (d ≡ false → P a) → P (when_shut d l a)
if_shut P true l a p q = p
if_shut P false l a p q = q refl

pub if_open : (P : After → Type 0) (d : Bool) (l : Library) (a : After) → P (barred_call l) → (d ≡ true → P a) → P (when_open d l a)
if_open P true l a p q = q refl
if_open P false l a p q = p

-- A refused call, whichever it is.
abbrev pub unmade : CallRefusal → Library → After
unmade why l = record { reply = refused why; library = l }

-- Receive: refused; a packet that is no request; or a request.
module _ (P : After → Type 0) (l : Library) (n : ℕ) (deny : (why : CallRefusal) → P (unmade why l)) where
  pub blank-length : 2048 ≤ n → 2048 ≤ length (blank n)
  blank-length h = omega (arith, length-replicate {A = ℕ} n 0)

  room : ltb (length (blank n)) 2048 ≡ false → 2048 ≤ n
  room e = let h = ltb-false (length (blank n)) 2048 e in omega (arith, length-replicate {A = ℕ} n 0)

  read-cases : (r : Result Request BadPacket) (b : Bool) → used_by l (number_read r) ≡ b
      → ((bad : BadPacket) → r ≡ Err bad → P (replied (wrote (bad_told bad) (blank n) l)))
      → ((q : Request) → r ≡ Ok q → in_use l q.number ≡ false → P (replied (said_outcome (received q l) (blank n))))
      → P (replied (cond b (refused_call refusal.NumberInUse (blank n) l) (answered_read r (blank n) l)))
  read-cases r true e f g = deny refusal.NumberInUse
  read-cases (Err bad) false e f g = f bad refl
  read-cases (Ok q) false e f g = g q refl e

  short-cases : (r : Result Request BadPacket) (b : Bool) → ltb (length (blank n)) 2048 ≡ b
      → (2048 ≤ n → (bad : BadPacket) → r ≡ Err bad → P (replied (wrote (bad_told bad) (blank n) l)))
      → (2048 ≤ n → (q : Request) → r ≡ Ok q → in_use l q.number ≡ false → P (replied (said_outcome (received q l) (blank n))))
      → P (replied (cond b (refused_call refusal.ShortBuffer (blank n) l) (cond (used_by l (number_read r)) (refused_call refusal.NumberInUse (blank n) l) (answered_read r (blank n) l))))
  short-cases r true e f g = deny refusal.ShortBuffer
  short-cases r false e f g = read-cases r (used_by l (number_read r)) refl (f (room e)) (g (room e))

  pub receive-cases : (packet : List ℕ)
      → (2048 ≤ n → (bad : BadPacket) → request_in packet ≡ Err bad → P (replied (wrote (bad_told bad) (blank n) l)))
      → (2048 ≤ n → (q : Request) → request_in packet ≡ Ok q → in_use l q.number ≡ false → P (replied (said_outcome (received q l) (blank n))))
      → P (replied (receive_call packet (blank n) l))
  receive-cases packet f g = short-cases (request_in packet) (ltb (length (blank n)) 2048) refl f g

  -- Step: refused, or made.
  step-if : (b : Bool) → ltb (length (blank n)) 2048 ≡ b → (2048 ≤ n → P (replied (step_outcome (stepped l) (blank n)))) → P (replied (cond b (refused_call refusal.ShortBuffer (blank n) l) (step_outcome (stepped l) (blank n))))
  step-if true e f = deny refusal.ShortBuffer
  step-if false e f = f (room e)

  pub step-cases : (2048 ≤ n → P (replied (step_outcome (stepped l) (blank n)))) → P (replied (step_call (blank n) l))
  step-cases f = step-if (ltb (length (blank n)) 2048) refl f

-- A request that was read: refused, or accepted.
received_if_holds : (P : Received → Type 0) (q : Request) (l : Library) (o : Option NotReceived) → refusal_of q.body l ≡ o → ((why : NotReceived) → P (not_received q why l)) → (refusal_of q.body l ≡ None → P (accepted q.body q l)) → P (received_if o q l)
received_if_holds P q l (Some why) e deny go = deny why
received_if_holds P q l None e deny go = go e

pub received_cases : (P : Received → Type 0) (q : Request) (l : Library) → ((why : NotReceived) → P (not_received q why l)) → (refusal_of q.body l ≡ None → P (accepted q.body q l)) → P (received q l)
received_cases P q l deny go = received_if_holds P q l (refusal_of q.body l) refl deny go

-- A request that is to be queued: the queue is full, or it is acknowledged.
queued_if_holds : (P : Received → Type 0) (q : Request) (l : Library) (b : Bool) → P (not_received q unreceived.LibraryBusy l) → P (record { said = acknowledged q; library = with_queued q l }) → P (queued_if b q l)
queued_if_holds P q l true deny go = go
queued_if_holds P q l false deny go = deny

pub queued_cases : (P : Received → Type 0) (q : Request) (l : Library) → P (not_received q unreceived.LibraryBusy l) → P (record { said = acknowledged q; library = with_queued q l }) → P (queued q l)
queued_cases P q l deny go = queued_if_holds P q l (ltb (length l.waiting) l.slots) deny go

-- A library with another robot.
abbrev pub with_robot : Meaning → Library → Library
with_robot m l = with_stock (record { robot = m; filed = l.stock.filed }) l

-- The calls of people, over the robot's refusal.
abbrev put_with : Library → ℕ → ℕ → Option Fault → After
put_with l p number x = handled_as is_granted (record { answer = told_by why_not_put (answered x tt); library = with_robot (left x l.stock.robot (with_held l.stock.robot p number l.stock.robot.hand)) l })

abbrev take_with : Library → ℕ → Option Fault → After
take_with l p x = handled_as took (record { answer = told_by why_not_taken (answered x (held_at l.stock.robot p)); library = with_robot (left x l.stock.robot (with_held l.stock.robot p 0 l.stock.robot.hand)) l })

abbrev switch_with : Library → ℕ → Bool → Option Fault → After
switch_with l p on x = handled_as is_granted (record { answer = told_by no_such_place (answered x tt); library = with_robot (left x l.stock.robot (with_service l.stock.robot p on)) l })

-- Refused, or granted.
module _ (P : After → Type 0) (l : Library) (p : ℕ) (deny : (why : CallRefusal) → P (unmade why l)) where
  put-robot : (number : ℕ) (f : Option Fault) → put_refusal l.stock.robot p number ≡ f → (put_refusal l.stock.robot p number ≡ None → P (record { reply = granted; library = with_robot (with_held l.stock.robot p number l.stock.robot.hand) l })) → P (put_with l p number f)
  put-robot number (Some fault) k go = deny (why_not_put fault)
  put-robot number None k go = go k

  put-by : (number : ℕ) (o : Option CallRefusal) → within_reach l p ≡ o
      → (within_reach l p ≡ None → put_refusal l.stock.robot p number ≡ None → P (record { reply = granted; library = with_robot (with_held l.stock.robot p number l.stock.robot.hand) l }))
      → P (handled_as is_granted (put_if o l p number))
  put-by number (Some why) e go = deny why
  put-by number None e go = put-robot number (put_refusal l.stock.robot p number) refl (go e)

  pub put-cases : (number : ℕ)
      → (within_reach l p ≡ None → put_refusal l.stock.robot p number ≡ None → P (record { reply = granted; library = with_robot (with_held l.stock.robot p number l.stock.robot.hand) l }))
      → P (handled_as is_granted (put_through l p number))
  put-cases number go = put-by number (within_reach l p) refl go

  take-robot : (f : Option Fault) → take_refusal l.stock.robot p ≡ f → (take_refusal l.stock.robot p ≡ None → P (record { reply = took (held_at l.stock.robot p); library = with_robot (with_held l.stock.robot p 0 l.stock.robot.hand) l })) → P (take_with l p f)
  take-robot (Some fault) k go = deny (why_not_taken fault)
  take-robot None k go = go k

  take_by : (o : Option CallRefusal) → within_reach l p ≡ o
      → (within_reach l p ≡ None → take_refusal l.stock.robot p ≡ None → P (record { reply = took (held_at l.stock.robot p); library = with_robot (with_held l.stock.robot p 0 l.stock.robot.hand) l }))
      → P (handled_as took (take_if o l p))
  take_by (Some why) e go = deny why
  take_by None e go = take-robot (take_refusal l.stock.robot p) refl (go e)

  pub take_cases : (within_reach l p ≡ None → take_refusal l.stock.robot p ≡ None → P (record { reply = took (held_at l.stock.robot p); library = with_robot (with_held l.stock.robot p 0 l.stock.robot.hand) l }))
      → P (handled_as took (take_through l p))
  take_cases go = take_by (within_reach l p) refl go

  switch-robot : (on : Bool) (f : Option Fault) → switch_refusal l.stock.robot p ≡ f → (switch_refusal l.stock.robot p ≡ None → P (record { reply = granted; library = with_robot (with_service l.stock.robot p on) l })) → P (switch_with l p on f)
  switch-robot on (Some fault) k go = deny (no_such_place fault)
  switch-robot on None k go = go k

  pub switch-cases : (on : Bool) → (switch_refusal l.stock.robot p ≡ None → P (record { reply = granted; library = with_robot (with_service l.stock.robot p on) l })) → P (handled_as is_granted (service_call l p on))
  switch-cases on go = switch-robot on (switch_refusal l.stock.robot p) refl go
