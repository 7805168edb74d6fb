-- A library of which one part is changed.
use Rattle.std.specs.Prelude.{List, map}
use Rattle.requests.specs.declared.bodies.Request.{Request}
use Rattle.library.specs.declared.drive.DriveState.{DriveState}
use Rattle.library.specs.Library.{Library}
use Rattle.library.specs.Marks.{at_work}

-- A library with other drive states.
abbrev pub with_drives : List DriveState → Library → Library
with_drives ds l = record {
  stock = l.stock;
  state = l.state;
  drives = ds;
  work = l.work;
  waiting = l.waiting;
  slots = l.slots;
  messages = l.messages;
  message_slots = l.message_slots;
  dropped = l.dropped;
  door = l.door;
}

-- A library of which each request, waiting or at work, is changed.
abbrev pub with_requests : (Request → Request) → Library → Library
with_requests f l = record {
  stock = l.stock;
  state = l.state;
  drives = l.drives;
  work = at_work f l.work;
  waiting = map f l.waiting;
  slots = l.slots;
  messages = l.messages;
  message_slots = l.message_slots;
  dropped = l.dropped;
  door = l.door;
}
