-- Receive and step: what they answer, what they leave in the buffer, and the library after them.
use Rattle.std.specs.Prelude.{ℕ, Bool, false, cond, ◌||◌, List, length, Some, None, Ok, Err, Option, Result, ◌==◌, nat_eq, nat_lt}
use Rattle.ring.specs.Order.{any_of}
use Rattle.requests.specs.declared.bodies.Request.{Request}
use Rattle.requests.specs.declared.refusals.BadPacket.{BadPacket}
use Rattle.requests.specs.Reading.{request_in}
use Rattle.responses.specs.Responses.{Told}
use Rattle.responses.specs.Writing.{left}
use Rattle.library.specs.Finals.{FinalFor}
use Rattle.library.specs.Library.{Job, Library}
use Rattle.library.specs.Marks.{work_meets}
use Rattle.receipt.specs.Accepting.{Received, received}
use Rattle.steps.specs.Stepping.{Stepped, stepped}
use Rattle.server.specs.declared.refusal.CallRefusal.{CallRefusal}
use Rattle.server.specs.declared.refusal.CallRefusal.TheVariants.{ShortBuffer, NumberInUse}
use Rattle.server.specs.Answers.{bad_told, final_told, length_in, said_told}

pub record Outcome : Type 0 where
  pub answer : Result ℕ CallRefusal
  pub buffer : List ℕ
  pub library : Library

-- A refused call changes nothing.
abbrev pub refused_call : CallRefusal → List ℕ → Library → Outcome
refused_call why xs l = record { answer = Err why; buffer = xs; library = l }

-- A response is written at the front of the buffer.
abbrev pub wrote : Told → List ℕ → Library → Outcome
wrote t xs l = record { answer = Ok (length_in xs t); buffer = left t xs; library = l }

-- Whether the request at work has the number n.
abbrev pub work_has : Option Job → ℕ → Bool
work_has w n = work_meets (λ q. q.number == n) w

-- Whether a request with the number n is at work or waiting.
abbrev pub in_use : Library → ℕ → Bool
in_use l n = work_has l.work n || any_of (λ q. nat_eq q.number n) l.waiting

-- The request number that could be read in a packet.
abbrev pub number_read : Result Request BadPacket → Option ℕ
number_read (Ok q) = Some q.number
number_read (Err bad) = bad.number

abbrev pub used_by : Library → Option ℕ → Bool
used_by l None = false
used_by l (Some n) = in_use l n

-- A packet that is no request is refused by a final, and a request is answered.
abbrev pub said_outcome : Received → List ℕ → Outcome
said_outcome r xs = wrote (said_told r.said r.library.stock.robot) xs r.library

abbrev pub answered_read : Result Request BadPacket → List ℕ → Library → Outcome
answered_read (Err bad) xs l = wrote (bad_told bad) xs l
answered_read (Ok q) xs l = said_outcome (received q l) xs

-- Receive: a short buffer is refused, then a number in use.
abbrev pub receive_read : Result Request BadPacket → List ℕ → Library → Outcome
receive_read read xs l =
    cond (nat_lt (length xs) 2048) (refused_call ShortBuffer xs l)
    (cond (used_by l (number_read read)) (refused_call NumberInUse xs l) (answered_read read xs l))

abbrev pub receive_call : List ℕ → List ℕ → Library → Outcome
receive_call packet xs l = receive_read (request_in packet) xs l

-- Step: a short buffer is refused; a final is written, or nothing, which has the length 0.
abbrev pub step_writes : Option FinalFor → List ℕ → Library → Outcome
step_writes None xs l = record { answer = Ok 0; buffer = xs; library = l }
step_writes (Some f) xs l = wrote (final_told f l.stock.robot) xs l

abbrev pub step_outcome : Stepped → List ℕ → Outcome
step_outcome s xs = step_writes s.final xs s.library

abbrev pub step_call : List ℕ → Library → Outcome
step_call xs l = cond (nat_lt (length xs) 2048) (refused_call ShortBuffer xs l) (step_outcome (stepped l) xs)
