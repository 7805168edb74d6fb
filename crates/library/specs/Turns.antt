-- What one step makes of a request.
use Rattle.std.specs.Prelude.{ℕ, List, Option}
use Rattle.responses.specs.declared.Entry.{Entry}
use Rattle.stock.specs.Models.{Stocked}
use Rattle.library.specs.declared.state.State.{State}
use Rattle.library.specs.declared.message.Notice.{Notice}
use Rattle.library.specs.declared.turn.Turn.{Turn}
use Rattle.library.specs.declared.turn.Goes.{Goes}
use Rattle.library.specs.declared.turn.Goes.TheVariants.{Stays, Ends}
use Rattle.library.specs.Verdicts.{Ending, verdict_of}

-- A request stays at work, from a place on and with entries so far, or ends.
pub data Going : Type 0 where
  stays : ℕ → List Entry → Going
  ends : Ending → Going

-- The state, a message, and how the request goes on.
pub record Course : Type 0 where
  pub state : State
  pub notice : Option Notice
  pub goes : Going

-- That, and robot and catalogue.
pub record Turned : Type 0 where
  pub stock : Stocked
  pub course : Course

abbrev pub going_of : Goes → Going
going_of (Stays p) = stays p.next p.entries
going_of (Ends v) = ends (verdict_of v)

abbrev pub course_of : Turn → Course
course_of t = record { state = t.state; notice = t.notice; goes = going_of t.goes }
