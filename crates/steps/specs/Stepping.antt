-- What a step makes of a library.
use Rattle.std.specs.Prelude.{ℕ, Bool, true, false, List, [], ◌∷◌, is_some, Some, None, Option}
use Rattle.requests.specs.declared.bodies.Request.{Request}
use Rattle.requests.specs.declared.bodies.Body.{Body}
use Rattle.requests.specs.declared.bodies.Body.TheVariants as body
use Rattle.robots.specs.Meaning.{Meaning}
use Rattle.robot_moves.specs.Search.{next_full_port}
use Rattle.library.specs.declared.drive.DriveState.{DriveState}
use Rattle.library.specs.declared.drive.DriveEvent.TheVariants.{Answered}
use Rattle.library.specs.declared.message.Notice.{Notice}
use Rattle.library.specs.declared.message.Notice.TheVariants.{Remove}
use Rattle.library.specs.Library.{Job, Library}
use Rattle.library.specs.Drives.{drive_told, named}
use Rattle.library.specs.Messages.{posted, dropped}
use Rattle.library.specs.Turns.{Turned, Going}
use Rattle.library.specs.Turns.Going.{stays, ends}
use Rattle.library.specs.Finals.{FinalFor}
use Rattle.steps.specs.Turning.{taken, continued}

-- What a step answers, if it ends a request, and the library after it.
pub record Stepped : Type 0 where
  pub final : Option FinalFor
  pub library : Library

-- The request stays at work, or is answered.
abbrev pub work_after : Going → Request → Option Job
work_after (stays p es) q = Some (record { request = q; next = p; entries = es })
work_after (ends v) q = None

abbrev pub final_after : Going → Request → Option FinalFor
final_after (stays p es) q = None
final_after (ends v) q = Some (record { request = q; ending = v })

-- The answer to a mount or a dismount tells its drive whether another waiting one still names it.
abbrev pub drive_answered_at : ℕ → List Request → List DriveState → List DriveState
drive_answered_at d qs ds = drive_told ds d (Answered (named d qs))

abbrev pub drive_answered : Body → List Request → List DriveState → List DriveState
drive_answered (body.Cancel target) qs ds = ds
drive_answered (body.Dismount label drive force) qs ds = drive_answered_at drive qs ds
drive_answered (body.Eject label) qs ds = ds
drive_answered body.Enter qs ds = ds
drive_answered (body.Idle force) qs ds = ds
drive_answered (body.Mount label drive) qs ds = drive_answered_at drive qs ds
drive_answered (body.Query label) qs ds = ds
drive_answered body.Start qs ds = ds
drive_answered (body.Vary drive setting) qs ds = ds

abbrev pub drives_after : Going → Body → List Request → List DriveState → List DriveState
drives_after (stays p es) b qs ds = ds
drives_after (ends v) b qs ds = drive_answered b qs ds

-- A final of an enter asks for what is left in the port to be removed.
abbrev pub remove_if : Bool → Option Notice
remove_if true = Some Remove
remove_if false = None

abbrev pub closing_notice : Body → Meaning → Option Notice → Option Notice
closing_notice (body.Cancel target) m k = k
closing_notice (body.Dismount label drive force) m k = k
closing_notice (body.Eject label) m k = k
closing_notice body.Enter m k = remove_if (is_some (next_full_port m 0))
closing_notice (body.Idle force) m k = k
closing_notice (body.Mount label drive) m k = k
closing_notice (body.Query label) m k = k
closing_notice body.Start m k = k
closing_notice (body.Vary drive setting) m k = k

abbrev pub notice_after : Going → Body → Meaning → Option Notice → Option Notice
notice_after (stays p es) b m k = k
notice_after (ends v) b m k = closing_notice b m k

abbrev pub notice_of : Request → Turned → Option Notice
notice_of q t = notice_after t.course.goes q.body t.stock.robot t.course.notice

-- The library after a turn of the request, with these still waiting.
abbrev pub library_after : Library → List Request → Request → Turned → Library
library_after l qs q t = record {
  stock = t.stock;
  state = t.course.state;
  drives = drives_after t.course.goes q.body qs l.drives;
  work = work_after t.course.goes q;
  waiting = qs;
  slots = l.slots;
  messages = posted l.message_slots l.messages (notice_of q t) q.number;
  message_slots = l.message_slots;
  dropped = dropped l.message_slots l.messages (notice_of q t) l.dropped;
  door = l.door;
}

abbrev pub finished : Library → List Request → Request → Turned → Stepped
finished l qs q t = record { final = final_after t.course.goes q; library = library_after l qs q t }

-- A step goes on with the request at work, or takes the oldest that waits, or does nothing.
abbrev pub stepped_by : Option Job → List Request → Library → Stepped
stepped_by (Some j) qs l = finished l qs j.request (continued j.request.mark j.request.body l.stock l.state j.next j.entries)
stepped_by None [] l = record { final = None; library = l }
stepped_by None (q ∷ qs) l = finished l qs q (taken q.mark q.body l.stock l.state)

abbrev pub stepped : Library → Stepped
stepped l = stepped_by l.work l.waiting l
