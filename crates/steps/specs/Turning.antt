-- What one step makes of a request: its taking step, a later one, or the end of a marked one.
use Rattle.std.specs.Prelude.{ℕ, ◌+◌, Bool, true, false, List, [], Some, None, Ok, Err, Option, Result, nat_lt}
use Rattle.labels.specs.Numbers.{number_of}
use Rattle.statuses.specs.declared.Status.TheVariants as status
use Rattle.requests.specs.declared.bodies.Body.{Body}
use Rattle.requests.specs.declared.bodies.Body.TheVariants as body
use Rattle.requests.specs.declared.bodies.Mark.{Mark}
use Rattle.requests.specs.declared.bodies.Mark.TheVariants.{Unmarked, Cancelled, Aborted}
use Rattle.responses.specs.declared.Entry.{Entry}
use Rattle.robots.specs.Meaning.{count}
use Rattle.robot_moves.specs.Search.{next_full_port}
use Rattle.stock.specs.declared.refusal.Refusal.{Refusal}
use Rattle.stock.specs.Refusals.{status_of, detail_of}
use Rattle.stock.specs.Models.{Stocked}
use Rattle.stock.specs.Moves.{Done, Entered, mounted, dismounted, ejected, entered}
use Rattle.stock.specs.Starts.{Begun, read_at}
use Rattle.stock.specs.Starts.{begun as startBegun}
use Rattle.library.specs.declared.state.State.{State}
use Rattle.library.specs.declared.state.State.TheVariants as state
use Rattle.library.specs.declared.message.Notice.TheVariants as notice
use Rattle.library.specs.States.{state_number}
use Rattle.library.specs.Entering.{entries_more}
use Rattle.library.specs.Verdicts.{Shown, done_with, refused_by, moved_verdict}
use Rattle.library.specs.Verdicts.Shown.{nothing, listed, inventory}
use Rattle.library.specs.Turns.{Turned, Course, Going}
use Rattle.library.specs.Turns.Going.{stays, ends}

-- Nothing is told, and the state stays.
abbrev pub quietly : State → Going → Course
quietly st g = record { state = st; notice = None; goes = g }

abbrev pub quiet : Stocked → State → Going → Turned
quiet s st g = record { stock = s; course = quietly st g }

-- Mount, dismount and eject end in one step.
abbrev pub moved_turn : Done → State → Turned
moved_turn d st = quiet d.stock st (ends (moved_verdict d.answer))

-- The taking step of an enter only takes.
abbrev pub entering : State → Course
entering st = record { state = st; notice = Some notice.Input; goes = stays 0 [] }

abbrev pub enter_taken : Stocked → State → Turned
enter_taken s st = record { stock = s; course = entering st }

-- A later step of an enter treats the next full port place, or ends with success where none is left.
abbrev pub entered_turn : Entered → State → ℕ → List Entry → Turned
entered_turn e st p es = quiet e.stock st (stays (p + 1) (entries_more e.entry es))

abbrev pub enter_on : Option ℕ → Stocked → State → List Entry → Turned
enter_on None s st es = quiet s st (ends (done_with (listed es)))
enter_on (Some p) s st es = entered_turn (entered s p) st p es

-- The taking step of a start: refused, it leaves idle.
abbrev pub start_taken_as : Result (Unit {0}) Refusal → Stocked → State → Turned
start_taken_as (Ok x) s st = quiet s st (stays 0 [])
start_taken_as (Err why) s st = quiet s state.Idle (ends (refused_by (status_of why) (detail_of why) nothing))

abbrev pub start_taken : Begun → State → Turned
start_taken b st = start_taken_as b.answer b.stock st

-- A later step of a start reads one place; the last one ends it with the inventory, and the server runs.
abbrev pub start_on_if : Bool → Stocked → State → ℕ → List Entry → Turned
start_on_if true s st p es = quiet s st (stays (p + 1) es)
start_on_if false s st p es = quiet s state.Run (ends (done_with inventory))

abbrev pub start_on : Stocked → State → ℕ → List Entry → Turned
start_on s st p es = start_on_if (nat_lt (p + 1) (count s.robot)) (read_at s p) st p es

-- The step of an idle.
abbrev pub idling : Course
idling = record { state = state.Idle; notice = Some notice.Idle; goes = ends (done_with nothing) }

abbrev pub idled : Stocked → Turned
idled s = record { stock = s; course = idling }

-- What is never queued ends at once.
abbrev pub ended_at_once : State → Course
ended_at_once st = quietly st (ends (done_with nothing))

abbrev pub at_once : Stocked → State → Turned
at_once s st = record { stock = s; course = ended_at_once st }

-- The taking step of an unmarked request.
abbrev pub begun : Body → Stocked → State → Turned
begun (body.Cancel target) s st = at_once s st
begun (body.Dismount label drive force) s st = moved_turn (dismounted s (number_of label.chars) force drive) st
begun (body.Eject label) s st = moved_turn (ejected s (number_of label.chars)) st
begun body.Enter s st = enter_taken s st
begun (body.Idle force) s st = idled s
begun (body.Mount label drive) s st = moved_turn (mounted s (number_of label.chars) drive) st
begun (body.Query label) s st = at_once s st
begun body.Start s st = start_taken (startBegun s) st
begun (body.Vary drive setting) s st = at_once s st

-- A later step of an unmarked request.
abbrev pub gone_on : Body → Stocked → State → ℕ → List Entry → Turned
gone_on (body.Cancel target) s st p es = at_once s st
gone_on (body.Dismount label drive force) s st p es = at_once s st
gone_on (body.Eject label) s st p es = at_once s st
gone_on body.Enter s st p es = enter_on (next_full_port s.robot p) s st es
gone_on (body.Idle force) s st p es = at_once s st
gone_on (body.Mount label drive) s st p es = at_once s st
gone_on (body.Query label) s st p es = at_once s st
gone_on body.Start s st p es = start_on s st p es
gone_on (body.Vary drive setting) s st p es = at_once s st

-- Every final of an enter by a step has entries.
abbrev pub shown_marked : Body → List Entry → Shown
shown_marked (body.Cancel target) es = nothing
shown_marked (body.Dismount label drive force) es = nothing
shown_marked (body.Eject label) es = nothing
shown_marked body.Enter es = listed es
shown_marked (body.Idle force) es = nothing
shown_marked (body.Mount label drive) es = nothing
shown_marked (body.Query label) es = nothing
shown_marked body.Start es = nothing
shown_marked (body.Vary drive setting) es = nothing

-- A marked request gets its final: cancelled, or not served in the state of this moment.
abbrev pub end_cancelled : Body → State → List Entry → Course
end_cancelled b st es = quietly st (ends (refused_by status.Cancelled None (shown_marked b es)))

abbrev pub end_aborted : Body → State → List Entry → Course
end_aborted b st es = quietly st (ends (refused_by status.NotServed (Some (state_number st)) (shown_marked b es)))

-- A request at its turn.
abbrev pub taken : Mark → Body → Stocked → State → Turned
taken Unmarked b s st = begun b s st
taken Cancelled b s st = record { stock = s; course = end_cancelled b st [] }
taken Aborted b s st = record { stock = s; course = end_aborted b st [] }

-- The request at work.
abbrev pub continued : Mark → Body → Stocked → State → ℕ → List Entry → Turned
continued Unmarked b s st p es = gone_on b s st p es
continued Cancelled b s st p es = record { stock = s; course = end_cancelled b st es }
continued Aborted b s st p es = record { stock = s; course = end_aborted b st es }
