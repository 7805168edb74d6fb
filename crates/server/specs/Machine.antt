-- All calls as one machine: what each is answered, and the library after it.
use Rattle.std.specs.Prelude.{ℕ, Bool, true, false, List, [], ◌∷◌, take, replicate, Ok, Err, Option, Result}
use Rattle.library.specs.declared.message.Message.{Message}
use Rattle.library.specs.Library.{Library}
use Rattle.server.specs.declared.refusal.CallRefusal.{CallRefusal}
use Rattle.server.specs.Calls.{Outcome, receive_call, step_call}
use Rattle.server.specs.Hands.{Handled, service_call}
use Rattle.server.specs.Door.{Messaged, message_call, open_call, put_through, shut_call, take_through}

-- A packet and how long a buffer is lent for its response; a step with such a buffer; the calls of people; the door; the messages.
pub data Call : Type 0 where
  receive : List ℕ → ℕ → Call
  step : ℕ → Call
  put : ℕ → ℕ → Call
  take_out : ℕ → Call
  service : ℕ → Bool → Call
  open-door : Call
  shut-door : Call
  message : Call

-- The bytes written, none where nothing was; a call that is granted, or tells a cartridge, or a message and the drop count; a
-- refusal; or the door does not allow the call.
pub data Reply : Type 0 where
  response : List ℕ → Reply
  granted : Reply
  took : ℕ → Reply
  messaged : Option Message → ℕ → Reply
  refused : CallRefusal → Reply
  barred : Reply

-- A reply, and the library after it.
pub record After : Type 0 where
  pub reply : Reply
  pub library : Library

-- What a call that writes into a buffer replies: the bytes at its front.
abbrev pub written_by : Result ℕ CallRefusal → List ℕ → Reply
written_by (Ok n) buffer = response (take n buffer)
written_by (Err why) buffer = refused why

abbrev pub replied : Outcome → After
replied o = record { reply = written_by o.answer o.buffer; library = o.library }

-- What a call of a person replies.
abbrev pub told_as : {A : Type 0} → (A → Reply) → Result A CallRefusal → Reply
told_as f (Ok x) = f x
told_as f (Err why) = refused why

abbrev pub handled_as : {A : Type 0} → (A → Reply) → Handled A → After
handled_as f h = record { reply = told_as f h.answer; library = h.library }

abbrev pub is_granted : Unit {0} → Reply
is_granted x = granted

abbrev pub message_after : Messaged → After
message_after m = record { reply = messaged m.message m.dropped; library = m.library }

-- A call that the door does not allow is not made.
abbrev pub barred_call : Library → After
barred_call l = record { reply = barred; library = l }

abbrev pub when_shut : Bool → Library → After → After
when_shut true l a = barred_call l
when_shut false l a = a

abbrev pub when_open : Bool → Library → After → After
when_open true l a = a
when_open false l a = barred_call l

-- A buffer of so many bytes; what it held before shows in no reply.
abbrev pub blank : ℕ → List ℕ
blank n = replicate n 0

-- Packets, steps, messages and the opening want the door shut, its shutting wants it open; hands and service go at any time.
abbrev pub after : Library → Call → After
after l (receive packet n) = when_shut l.door l (replied (receive_call packet (blank n) l))
after l (step n) = when_shut l.door l (replied (step_call (blank n) l))
after l (put p number) = handled_as is_granted (put_through l p number)
after l (take_out p) = handled_as took (take_through l p)
after l (service p on) = handled_as is_granted (service_call l p on)
after l open-door = when_shut l.door l (record { reply = granted; library = open_call l })
after l shut-door = when_open l.door l (record { reply = granted; library = shut_call l })
after l message = when_shut l.door l (message_after (message_call l))

-- A call and what it was answered.
pub record Event : Type 0 where
  pub call : Call
  pub reply : Reply

-- The events of a list of calls, and the library at its end.
abbrev pub history : Library → List Call → List Event
history l [] = []
history l (c ∷ cs) = record { call = c; reply = (after l c).reply } ∷ history (after l c).library cs

abbrev pub stands : Library → List Call → Library
stands l [] = l
stands l (c ∷ cs) = stands (after l c).library cs
