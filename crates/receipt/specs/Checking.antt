-- The checks at receipt, in the order of their statuses.
use Rattle.std.specs.Prelude.{ℕ, Bool, true, false, cond, not as opposite, ◌||◌, Some, None, Option}
use Rattle.ring.specs.Order.{any_of}
use Rattle.labels.specs.declared.Label.{Label}
use Rattle.statuses.specs.declared.Status.{Status}
use Rattle.statuses.specs.declared.Status.TheVariants as status
use Rattle.requests.specs.declared.bodies.Body.{Body}
use Rattle.requests.specs.declared.bodies.Body.TheVariants as body
use Rattle.requests.specs.declared.bodies.DriveSetting.{DriveSetting}
use Rattle.requests.specs.declared.bodies.DriveSetting.TheVariants as setting
use Rattle.robot_moves.specs.Search.{is_drive, of_kind}
use Rattle.stock.specs.Refusals.{in_byte}
use Rattle.library.specs.declared.state.State.{State}
use Rattle.library.specs.declared.state.State.TheVariants as state
use Rattle.library.specs.States.{state_number}
use Rattle.library.specs.Drives.{drive_at, is_online}
use Rattle.library.specs.Library.{Job, Library}
use Rattle.library.specs.Marks.{cancels, work_meets}
use Rattle.receipt.specs.declared.refusal.NotReceived.{NotReceived}
use Rattle.receipt.specs.declared.refusal.NotReceived.TheVariants as unreceived

-- The status that tells why a request is refused at its receipt.
abbrev pub status_of : NotReceived → Status
status_of (unreceived.NotServed s) = status.NotServed
status_of unreceived.IdlePending = status.IdlePending
status_of (unreceived.NoDrive p) = status.NoDrive
status_of (unreceived.NotOnline p) = status.NotOnline
status_of unreceived.AlreadySo = status.AlreadySo
status_of unreceived.NothingToCancel = status.NothingToCancel
status_of unreceived.LibraryBusy = status.LibraryBusy

-- The state or the place that it is about.
abbrev pub detail_of : NotReceived → Option ℕ
detail_of (unreceived.NotServed s) = Some (state_number s)
detail_of unreceived.IdlePending = None
detail_of (unreceived.NoDrive p) = Some (in_byte p)
detail_of (unreceived.NotOnline p) = Some (in_byte p)
detail_of unreceived.AlreadySo = None
detail_of unreceived.NothingToCancel = None
detail_of unreceived.LibraryBusy = None

-- Idle pending serves cancel, query, vary and idle.
abbrev pub served_pending : Body → Bool
served_pending (body.Cancel target) = true
served_pending (body.Dismount label drive force) = false
served_pending (body.Eject label) = false
served_pending body.Enter = false
served_pending (body.Idle force) = true
served_pending (body.Mount label drive) = false
served_pending (body.Query label) = true
served_pending body.Start = false
served_pending (body.Vary drive setting) = true

abbrev pub without_label : Option Label → Bool
without_label None = true
without_label (Some l) = false

-- Idle serves cancel, query without label, vary, idle and start.
abbrev pub served_idle : Body → Bool
served_idle (body.Cancel target) = true
served_idle (body.Dismount label drive force) = false
served_idle (body.Eject label) = false
served_idle body.Enter = false
served_idle (body.Idle force) = true
served_idle (body.Mount label drive) = false
served_idle (body.Query label) = without_label label
served_idle body.Start = true
served_idle (body.Vary drive setting) = true

-- Recovery serves cancel and query without label.
abbrev pub served_recovery : Body → Bool
served_recovery (body.Cancel target) = true
served_recovery (body.Dismount label drive force) = false
served_recovery (body.Eject label) = false
served_recovery body.Enter = false
served_recovery (body.Idle force) = false
served_recovery (body.Mount label drive) = false
served_recovery (body.Query label) = without_label label
served_recovery body.Start = false
served_recovery (body.Vary drive setting) = false

-- Run serves all.
abbrev pub served : State → Body → Bool
served state.Run b = true
served state.IdlePending b = served_pending b
served state.Idle b = served_idle b
served state.Recovery b = served_recovery b

-- Idle: unforced while it is pending, or in idle.
abbrev pub idle_refusal : State → Bool → Option NotReceived
idle_refusal state.Run force = None
idle_refusal state.IdlePending force = cond force None (Some unreceived.IdlePending)
idle_refusal state.Idle force = Some unreceived.AlreadySo
idle_refusal state.Recovery force = None

-- Start in run.
abbrev pub start_refusal : State → Option NotReceived
start_refusal state.Run = Some unreceived.AlreadySo
start_refusal state.IdlePending = None
start_refusal state.Idle = None
start_refusal state.Recovery = None

-- Mount and dismount: no drive there, then a drive that is not online.
abbrev pub drive_refusal : Bool → Bool → ℕ → Option NotReceived
drive_refusal false online d = Some (unreceived.NoDrive d)
drive_refusal true false d = Some (unreceived.NotOnline d)
drive_refusal true true d = None

-- Vary: no drive there, then a drive that is so or pending so.
abbrev pub is_so : DriveSetting → Bool → Bool
is_so setting.Online online = online
is_so setting.Offline online = opposite online

abbrev pub vary_refusal : Bool → Bool → ℕ → Option NotReceived
vary_refusal false so d = Some (unreceived.NoDrive d)
vary_refusal true true d = Some unreceived.AlreadySo
vary_refusal true false d = None

-- Cancel: nothing to mark.
abbrev pub work_cancels : Option Job → ℕ → Bool
work_cancels w t = work_meets (λ q. cancels t q) w

abbrev pub can_cancel : Library → ℕ → Bool
can_cancel l t = work_cancels l.work t || any_of (λ q. cancels t q) l.waiting

abbrev pub cancel_refusal : Bool → Option NotReceived
cancel_refusal true = None
cancel_refusal false = Some unreceived.NothingToCancel

-- Whether there is a drive at d, and whether it is online.
abbrev pub drive_there : Library → ℕ → Bool
drive_there l d = of_kind is_drive l.stock.robot d

abbrev pub drive_online : Library → ℕ → Bool
drive_online l d = is_online (drive_at l.drives d)

-- What is checked of each body once its state serves it.
abbrev pub body_refusal : Body → Library → Option NotReceived
body_refusal (body.Cancel target) l = cancel_refusal (can_cancel l target)
body_refusal (body.Dismount label drive force) l = drive_refusal (drive_there l drive) (drive_online l drive) drive
body_refusal (body.Eject label) l = None
body_refusal body.Enter l = None
body_refusal (body.Idle force) l = idle_refusal l.state force
body_refusal (body.Mount label drive) l = drive_refusal (drive_there l drive) (drive_online l drive) drive
body_refusal (body.Query label) l = None
body_refusal body.Start l = start_refusal l.state
body_refusal (body.Vary drive set) l = vary_refusal (drive_there l drive) (is_so set (drive_online l drive)) drive

abbrev pub refusal_if : Bool → Body → Library → Option NotReceived
refusal_if false b l = Some (unreceived.NotServed l.state)
refusal_if true b l = body_refusal b l

-- Why a request is refused, a full queue and a query's label aside.
abbrev pub refusal_of : Body → Library → Option NotReceived
refusal_of b l = refusal_if (served l.state b) b l
