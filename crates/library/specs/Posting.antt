-- A library once a message is posted.
use Rattle.std.specs.Prelude.{ℕ, Option}
use Rattle.library.specs.declared.message.Notice.{Notice}
use Rattle.library.specs.Library.{Library}
use Rattle.library.specs.Messages.{posted, dropped}

abbrev pub with_posted : Option Notice → ℕ → Library → Library
with_posted notice n l = record {
  stock = l.stock;
  state = l.state;
  drives = l.drives;
  work = l.work;
  waiting = l.waiting;
  slots = l.slots;
  messages = posted l.message_slots l.messages notice n;
  message_slots = l.message_slots;
  dropped = dropped l.message_slots l.messages notice l.dropped;
  door = l.door;
}
