-- What an outsider hears: the calls, their replies, and the responses as they read from the bytes written.
use Rattle.std.specs.Prelude.{ℕ, Bool, true, false, cond, ◌&&◌, List, [], ◌∷◌, ◌++◌, Some, None, fold, Option, ◌==◌}
use Rattle.statuses.specs.Statuses.{status_number}
use Rattle.responses.specs.declared.ResponseKind.{ResponseKind}
use Rattle.responses.specs.declared.ResponseKind.TheVariants.{Acknowledge, Final}
use Rattle.responses.specs.Responses.{Told}
use Rattle.responses.specs.Reading.{response_in}
use Rattle.server.specs.Machine.{Call, Reply, Event}
use Rattle.server.specs.Machine.Call.{receive, step, put, take_out, service, open-door, shut-door, message}
use Rattle.server.specs.Machine.Reply.{response, granted, took, messaged, refused, barred}

-- The response that was written, as it reads.
abbrev pub heard : Reply → Option Told
heard (response bytes) = response_in bytes
heard granted = None
heard (took number) = None
heard (messaged m dropped) = None
heard (refused why) = None
heard barred = None

abbrev pub is_step : Call → Bool
is_step (receive packet n) = false
is_step (step n) = true
is_step (put p number) = false
is_step (take_out p) = false
is_step (service p on) = false
is_step open-door = false
is_step shut-door = false
is_step message = false

-- The numbers that a response names: one or none.
abbrev pub named : Option ℕ → List ℕ
named None = []
named (Some n) = n ∷ []

-- The request that an acknowledge is for.
abbrev pub acknowledges : ResponseKind → Option ℕ → List ℕ
acknowledges Acknowledge n = named n
acknowledges Final n = []

abbrev pub acknowledged_in : Option Told → List ℕ
acknowledged_in None = []
acknowledged_in (Some t) = acknowledges t.kind t.number

-- The request that a final is for.
abbrev pub finishes : ResponseKind → Option ℕ → List ℕ
finishes Acknowledge n = []
finishes Final n = named n

abbrev pub finished_in : Option Told → List ℕ
finished_in None = []
finished_in (Some t) = finishes t.kind t.number

-- The requests acknowledged by a call, and those answered by it; only a step's final answers one.
abbrev pub acknowledged_by : Event → List ℕ
acknowledged_by e = acknowledged_in (heard e.reply)

abbrev pub answered_by : Event → List ℕ
answered_by e = cond (is_step e.call) (finished_in (heard e.reply)) []

-- All of them in order.
abbrev pub gathered : {A B : Type 0} → (A → List B) → List A → List B
gathered f es = fold (λ xs e. xs ++ f e) [] es

abbrev pub acknowledged : List Event → List ℕ
acknowledged es = gathered acknowledged_by es

abbrev pub answered : List Event → List ℕ
answered es = gathered answered_by es

-- A start succeeds by a step's final with command 9 and status 0.
abbrev pub is_start : Option ℕ → Bool
is_start None = false
is_start (Some c) = c == 9

abbrev pub succeeds_as : ResponseKind → Told → Bool
succeeds_as Acknowledge t = false
succeeds_as Final t = is_start t.command && status_number t.status == 0

abbrev pub succeeds_in : Option Told → Bool
succeeds_in None = false
succeeds_in (Some t) = succeeds_as t.kind t

abbrev pub starts_by : Event → Bool
starts_by e = is_step e.call && succeeds_in (heard e.reply)

-- A start has succeeded.
abbrev pub started_by : Bool → Event → Bool
started_by t e = cond (starts_by e) true t

abbrev pub started : List Event → Bool
started es = fold started_by false es
