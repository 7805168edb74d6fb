-- A library as it stands.
use Rattle.std.specs.Prelude.{ℕ, Bool, List, [], ◌∷◌, ◌++◌, Some, None, Option}
use Rattle.requests.specs.declared.bodies.Request.{Request}
use Rattle.responses.specs.declared.Entry.{Entry}
use Rattle.stock.specs.Models.{Stocked}
use Rattle.library.specs.declared.state.State.{State}
use Rattle.library.specs.declared.drive.DriveState.{DriveState}
use Rattle.library.specs.declared.message.Message.{Message}

-- The request at work, the next place that it treats, and its entries so far.
pub record Job : Type 0 where
  pub request : Request
  pub next : ℕ
  pub entries : List Entry

-- Robot and catalogue, the server's state, the drives, the request at work, the two queues with how many records each takes
-- at most, how many messages were dropped, and whether the door is open.
pub record Library : Type 0 where
  pub stock : Stocked
  pub state : State
  pub drives : List DriveState
  pub work : Option Job
  pub waiting : List Request
  pub slots : ℕ
  pub messages : List Message
  pub message_slots : ℕ
  pub dropped : ℕ
  pub door : Bool

-- The request at work, as a list of one or none.
abbrev pub working : Option Job → List Request
working None = []
working (Some j) = j.request ∷ []

-- The request at work and those waiting.
abbrev pub unanswered : Library → List Request
unanswered l = working l.work ++ l.waiting
