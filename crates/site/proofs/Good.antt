-- What is true of a library at every moment of a run, whatever was heard of it.
use Rattle.std.proofs.Common.{◌≡◌, ℕ, ◌+◌, ◌<◌, ◌≤◌, Bool, true, false, cond, ◌&&◌, ltb, List, [], ◌∷◌, length, Some, None, Option}
use Rattle.requests.specs.declared.bodies.Body.{Body}
use Rattle.requests.specs.declared.bodies.Body.TheVariants as body
use Rattle.requests.specs.declared.bodies.Request.{Request}
use Rattle.responses.specs.RoundTrips.{Entered}
use Rattle.robots.specs.Meaning.{Meaning, Sound, count}
use Rattle.robot_moves.specs.Search.{is_drive, of_kind, ports_among, up_to}
use Rattle.stock.specs.declared.catalogue.Filed.{Filed}
use Rattle.stock.specs.Models.{Stocked}
use Rattle.stock.specs.Starts.{fit}
use Rattle.library.specs.declared.state.State.{State}
use Rattle.library.specs.declared.state.State.TheVariants as state
use Rattle.library.specs.Library.{Job, Library, unanswered}
use Rattle.library.specs.Marks.{is_unmarked, names_drive}
use Rattle.server.specs.Hands.{is_enter}
use Rattle.site.specs.Catalogues.{CatalogueTrue, filings, due, filing}
use Rattle.site.specs.Law.{Each, is_start, moves}

abbrev pub is_idle : Body → Bool
is_idle (body.Cancel target) = false
is_idle (body.Dismount label drive force) = false
is_idle (body.Eject label) = false
is_idle body.Enter = false
is_idle (body.Idle force) = true
is_idle (body.Mount label drive) = false
is_idle (body.Query label) = false
is_idle body.Start = false
is_idle (body.Vary drive setting) = false

abbrev pub in_recovery : State → ℕ
in_recovery state.Run = 0
in_recovery state.IdlePending = 0
in_recovery state.Idle = 0
in_recovery state.Recovery = 1

abbrev pub in_idle_pending : State → ℕ
in_idle_pending state.Run = 0
in_idle_pending state.IdlePending = 1
in_idle_pending state.Idle = 0
in_idle_pending state.Recovery = 0

abbrev pub in_idle : State → Bool
in_idle state.Run = false
in_idle state.IdlePending = false
in_idle state.Idle = true
in_idle state.Recovery = false

-- How many requests of a kind are unmarked.
abbrev pub unmarked_of : (Body → Bool) → List Request → ℕ
unmarked_of f [] = 0
unmarked_of f (q ∷ qs) = cond (is_unmarked q.mark && f q.body) 1 0 + unmarked_of f qs

-- What moves cartridges came when a start had succeeded, and a mount or dismount names a drive.
abbrev pub Suited : Meaning → Request → Type 0
Suited m q = (moves q.body ≡ true → fit m ≡ true) × ((d : ℕ) → names_drive d q.body ≡ true → of_kind is_drive m d ≡ true)

-- A start has read the places below `next`.
abbrev pub Partial : ℕ → List Filed → Meaning → Type 0
Partial next filed m = (k p : ℕ) → filings k p filed ≡ cond (ltb p next) (due m k p) 0

-- The request at work.
pub record JobGood (s : Stocked) (j : Job) : Type 0 where
  pub few : length j.entries ≤ 21
  pub numbers : Entered j.entries
  pub entering : is_enter j.request.body ≡ true → length j.entries ≤ ports_among s.robot (up_to 0 j.next)
  pub reading : is_start j.request.body ≡ true → (s.robot.hand ≡ 0) × (fit s.robot ≡ true)
  pub partly : is_start j.request.body ≡ true → is_unmarked j.request.mark ≡ true → (j.next < count s.robot) × (length s.filed ≤ j.next) × Partial j.next s.filed s.robot

abbrev pub WorkGood : Stocked → Option Job → Type 0
WorkGood s None = Unit {0}
WorkGood s (Some j) = JobGood s j

pub record Good (l : Library) : Type 0 where
  pub sound : Sound l.stock.robot
  pub open_idle : l.door ≡ true → in_idle l.state ≡ true
  pub starts : unmarked_of is_start (unanswered l) ≤ in_recovery l.state
  pub idles : unmarked_of is_idle (unanswered l) ≤ in_idle_pending l.state
  pub suited : Each (Suited l.stock.robot) (unanswered l)
  pub fitting : filing l.state ≡ true → fit l.stock.robot ≡ true
  pub truth : filing l.state ≡ true → CatalogueTrue l.stock.filed l.stock.robot
  pub job : WorkGood l.stock l.work
