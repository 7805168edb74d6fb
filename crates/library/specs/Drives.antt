-- The states of drives.
use Rattle.std.specs.Prelude.{ℕ, Bool, true, false, cond, List, slice_index_or, slice_set}
use Rattle.ring.specs.Order.{any_of}
use Rattle.requests.specs.declared.bodies.Request.{Request}
use Rattle.library.specs.declared.drive.DriveState.{DriveState}
use Rattle.library.specs.declared.drive.DriveState.TheVariants.{Online, Offline, OfflinePending}
use Rattle.library.specs.declared.drive.DriveEvent.{DriveEvent}
use Rattle.library.specs.declared.drive.DriveEvent.TheVariants.{ToOnline, ToOffline, Answered}
use Rattle.library.specs.Marks.{names_drive}

-- A mount or a dismount may name an online drive.
abbrev pub is_online : DriveState → Bool
is_online Online = true
is_online Offline = false
is_online OfflinePending = false

-- Pending ends with the last request that names the drive.
abbrev pub after_answer : DriveState → Bool → DriveState
after_answer Online named = Online
after_answer Offline named = Offline
after_answer OfflinePending named = cond named OfflinePending Offline

-- The next state follows from the state and the event alone.
abbrev pub drive_after : DriveState → DriveEvent → DriveState
drive_after d ToOnline = Online
drive_after d (ToOffline named) = cond named OfflinePending Offline
drive_after d (Answered named) = after_answer d named

-- The state of the drive at p.
abbrev pub drive_at : List DriveState → ℕ → DriveState
drive_at ds p = slice_index_or ds p Online

-- The drive at p is told.
abbrev pub drive_told : List DriveState → ℕ → DriveEvent → List DriveState
drive_told ds p e = slice_set ds p (drive_after (drive_at ds p) e)

-- Whether a waiting mount or dismount names the drive at p.
abbrev pub named : ℕ → List Request → Bool
named p qs = any_of (λ q. names_drive p q.body) qs
