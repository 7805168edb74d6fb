-- Marks, and which requests a cancel, a forced idle or a drive concerns.
use Rattle.std.specs.Prelude.{ℕ, Bool, true, false, ◌&&◌, Some, None, Option, ◌==◌}
use Rattle.requests.specs.declared.bodies.Body.{Body}
use Rattle.requests.specs.declared.bodies.Body.TheVariants as body
use Rattle.requests.specs.declared.bodies.Mark.{Mark}
use Rattle.requests.specs.declared.bodies.Mark.TheVariants.{Unmarked, Cancelled, Aborted}
use Rattle.requests.specs.declared.bodies.Request.{Request}
use Rattle.library.specs.Library.{Job}

-- The request with another mark.
abbrev pub with_mark : Request → Mark → Request
with_mark q m = record { number = q.number; mark = m; body = q.body }

abbrev pub is_unmarked : Mark → Bool
is_unmarked Unmarked = true
is_unmarked Cancelled = false
is_unmarked Aborted = false

-- A mark stays for good.
abbrev pub aborted_mark : Mark → Mark
aborted_mark Unmarked = Aborted
aborted_mark Cancelled = Cancelled
aborted_mark Aborted = Aborted

abbrev pub aborted : Request → Request
aborted q = with_mark q (aborted_mark q.mark)

-- A cancel concerns enters and ejects.
abbrev pub may_cancel : Body → Bool
may_cancel (body.Cancel target) = false
may_cancel (body.Dismount label drive force) = false
may_cancel (body.Eject label) = true
may_cancel body.Enter = true
may_cancel (body.Idle force) = false
may_cancel (body.Mount label drive) = false
may_cancel (body.Query label) = false
may_cancel body.Start = false
may_cancel (body.Vary drive setting) = false

-- Whether a cancel of the number t marks the request.
abbrev pub cancels : ℕ → Request → Bool
cancels t q = q.number == t && (is_unmarked q.mark && may_cancel q.body)

abbrev pub cancelled_if : Bool → Request → Request
cancelled_if true q = with_mark q Cancelled
cancelled_if false q = q

abbrev pub cancelled : ℕ → Request → Request
cancelled t q = cancelled_if (cancels t q) q

-- Whether the request at work meets a condition.
abbrev pub work_meets : (Request → Bool) → Option Job → Bool
work_meets p None = false
work_meets p (Some j) = p j.request

-- A change of the request at work.
abbrev pub at_work : (Request → Request) → Option Job → Option Job
at_work f None = None
at_work f (Some j) = Some (record { request = f j.request; next = j.next; entries = j.entries })

-- Whether a mount or a dismount names the drive at p.
abbrev pub names_drive : ℕ → Body → Bool
names_drive p (body.Cancel target) = false
names_drive p (body.Dismount label drive force) = drive == p
names_drive p (body.Eject label) = false
names_drive p body.Enter = false
names_drive p (body.Idle force) = false
names_drive p (body.Mount label drive) = drive == p
names_drive p (body.Query label) = false
names_drive p body.Start = false
names_drive p (body.Vary drive setting) = false
