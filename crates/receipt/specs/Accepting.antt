-- What a request that is not refused does, and what it is answered.
use Rattle.std.specs.Prelude.{ℕ, Bool, true, false, [], ◌∷◌, ◌++◌, map, length, Some, None, Ok, Err, Option, Result, nat_lt}
use Rattle.labels.specs.declared.Label.{Label}
use Rattle.labels.specs.Numbers.{number_of}
use Rattle.statuses.specs.declared.Status.TheVariants.{Success}
use Rattle.requests.specs.declared.bodies.Request.{Request}
use Rattle.requests.specs.declared.bodies.Body.{Body}
use Rattle.requests.specs.declared.bodies.Body.TheVariants as body
use Rattle.requests.specs.declared.bodies.DriveSetting.{DriveSetting}
use Rattle.requests.specs.declared.bodies.DriveSetting.TheVariants as setting
use Rattle.responses.specs.declared.Entry.{Entry}
use Rattle.stock.specs.declared.catalogue.Row.{Row}
use Rattle.stock.specs.declared.refusal.Refusal.{Refusal}
use Rattle.stock.specs.Filing.{volume_of}
use Rattle.stock.specs.Moves.{entry_for, located_by}
use Rattle.library.specs.declared.state.State.{State}
use Rattle.library.specs.declared.state.State.TheVariants as state
use Rattle.library.specs.declared.message.Notice.{Notice}
use Rattle.library.specs.declared.message.Notice.TheVariants as notice
use Rattle.library.specs.declared.drive.DriveEvent.{DriveEvent}
use Rattle.library.specs.declared.drive.DriveEvent.TheVariants.{ToOnline, ToOffline}
use Rattle.library.specs.States.{state_number}
use Rattle.library.specs.Drives.{drive_told, named}
use Rattle.library.specs.Finals.{FinalFor, final_of}
use Rattle.library.specs.Library.{Library}
use Rattle.library.specs.Marks.{aborted, at_work, cancelled}
use Rattle.library.specs.Messages.{posted, dropped}
use Rattle.library.specs.Verdicts.{Ending, done_with, moved_verdict, refused_by, told_state}
use Rattle.library.specs.Verdicts.Shown.{nothing}
use Rattle.receipt.specs.declared.refusal.NotReceived.{NotReceived}
use Rattle.receipt.specs.declared.refusal.NotReceived.TheVariants as unreceived
use Rattle.receipt.specs.declared.receive.Answer.{Answer}
use Rattle.receipt.specs.declared.receive.Answer.TheVariants as answer
use Rattle.receipt.specs.Checking.{detail_of, refusal_of, status_of}

-- An acknowledge, or a final.
pub data Said : Type 0 where
  acknowledged : Request → Said
  final : FinalFor → Said

abbrev pub said_by : Answer → Said
said_by (answer.Acknowledge q) = acknowledged q
said_by (answer.Final f) = final (final_of f)

-- What is answered, and the library after it.
pub record Received : Type 0 where
  pub said : Said
  pub library : Library

abbrev pub answering : Request → Ending → Library → Received
answering q e l = record { said = final (record { request = q; ending = e }); library = l }

-- A refusal changes nothing.
abbrev pub not_received : Request → NotReceived → Library → Received
not_received q why l = answering q (refused_by (status_of why) (detail_of why) nothing) l

-- A queued start puts the server into recovery, a queued idle into idle pending, which is told.
abbrev pub queued_state : Body → State → State
queued_state (body.Cancel target) st = st
queued_state (body.Dismount label drive force) st = st
queued_state (body.Eject label) st = st
queued_state body.Enter st = st
queued_state (body.Idle force) st = state.IdlePending
queued_state (body.Mount label drive) st = st
queued_state (body.Query label) st = st
queued_state body.Start st = state.Recovery
queued_state (body.Vary drive setting) st = st

abbrev pub queued_notice : Body → Option Notice
queued_notice (body.Cancel target) = None
queued_notice (body.Dismount label drive force) = None
queued_notice (body.Eject label) = None
queued_notice body.Enter = None
queued_notice (body.Idle force) = Some notice.IdlePending
queued_notice (body.Mount label drive) = None
queued_notice (body.Query label) = None
queued_notice body.Start = None
queued_notice (body.Vary drive setting) = None

abbrev pub with_queued : Request → Library → Library
with_queued q l = record {
  stock = l.stock;
  state = queued_state q.body l.state;
  drives = l.drives;
  work = l.work;
  waiting = l.waiting ++ q ∷ [];
  slots = l.slots;
  messages = posted l.message_slots l.messages (queued_notice q.body) q.number;
  message_slots = l.message_slots;
  dropped = dropped l.message_slots l.messages (queued_notice q.body) l.dropped;
  door = l.door;
}

abbrev pub queued_if : Bool → Request → Library → Received
queued_if true q l = record { said = acknowledged q; library = with_queued q l }
queued_if false q l = not_received q unreceived.LibraryBusy l

-- A request is queued and acknowledged, unless the queue is full.
abbrev pub queued : Request → Library → Received
queued q l = queued_if (nat_lt (length l.waiting) l.slots) q l

-- Forced idle: the server is idle at once, every unmarked request is aborted, and idle is told with the number n.
abbrev pub with_forced : ℕ → Library → Library
with_forced n l = record {
  stock = l.stock;
  state = state.Idle;
  drives = l.drives;
  work = at_work aborted l.work;
  waiting = map aborted l.waiting;
  slots = l.slots;
  messages = posted l.message_slots l.messages (Some notice.Idle) n;
  message_slots = l.message_slots;
  dropped = dropped l.message_slots l.messages (Some notice.Idle) l.dropped;
  door = l.door;
}

-- Cancel marks, and removes nothing.
abbrev pub with_cancelled : ℕ → Library → Library
with_cancelled t l = record {
  stock = l.stock;
  state = l.state;
  drives = l.drives;
  work = at_work (cancelled t) l.work;
  waiting = map (cancelled t) l.waiting;
  slots = l.slots;
  messages = l.messages;
  message_slots = l.message_slots;
  dropped = l.dropped;
  door = l.door;
}

-- Vary tells the drive.
abbrev pub vary_event : DriveSetting → Bool → DriveEvent
vary_event setting.Online isNamed = ToOnline
vary_event setting.Offline isNamed = ToOffline isNamed

abbrev pub with_varied : ℕ → DriveSetting → Library → Library
with_varied d set l = record {
  stock = l.stock;
  state = l.state;
  drives = drive_told l.drives d (vary_event set (named d l.waiting));
  work = l.work;
  waiting = l.waiting;
  slots = l.slots;
  messages = l.messages;
  message_slots = l.message_slots;
  dropped = l.dropped;
  door = l.door;
}

-- Query tells the state, or where a label is: no volume, several, or one place.
abbrev pub found_as : ℕ → Result Row Refusal → Result Entry Refusal
found_as k (Ok r) = Ok (entry_for k r.place r.place Success)
found_as k (Err why) = Err why

abbrev pub found : Label → Library → Result Entry Refusal
found label l = found_as (number_of label.chars) (located_by (volume_of l.stock.filed (number_of label.chars)))

abbrev pub queried : Option Label → Library → Ending
queried None l = told_state (state_number l.state)
queried (Some label) l = moved_verdict (found label l)

abbrev pub idle_accepted : Bool → Request → Library → Received
idle_accepted true q l = answering q (done_with nothing) (with_forced q.number l)
idle_accepted false q l = queued q l

abbrev pub accepted : Body → Request → Library → Received
accepted (body.Cancel target) q l = answering q (done_with nothing) (with_cancelled target l)
accepted (body.Dismount label drive force) q l = queued q l
accepted (body.Eject label) q l = queued q l
accepted body.Enter q l = queued q l
accepted (body.Idle force) q l = idle_accepted force q l
accepted (body.Mount label drive) q l = queued q l
accepted (body.Query label) q l = answering q (queried label l) l
accepted body.Start q l = queued q l
accepted (body.Vary drive set) q l = answering q (done_with nothing) (with_varied drive set l)

abbrev pub received_if : Option NotReceived → Request → Library → Received
received_if (Some why) q l = not_received q why l
received_if None q l = accepted q.body q l

-- A request as read is refused, or accepted.
abbrev pub received : Request → Library → Received
received q l = received_if (refusal_of q.body l) q l
