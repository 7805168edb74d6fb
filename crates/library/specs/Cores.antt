-- The library that a core stands for.
use Rattle.std.specs.Prelude.{false, Some, None, Option}
use Rattle.ring.specs.Queue.{records}
use Rattle.library.specs.declared.cores.Work.{Work}
use Rattle.library.specs.declared.cores.Core.{Core}
use Rattle.library.specs.Library.{Job, Library}

abbrev pub job_of : Work → Job
job_of w = record { request = w.request; next = w.progress.next; entries = w.progress.entries }

abbrev pub work_of : Option Work → Option Job
work_of None = None
work_of (Some w) = Some (job_of w)

-- A core stands for a library whose door is shut.
abbrev pub library_of : {R : Type 0} → Core R → Library
library_of c = record {
  stock = c.stock;
  state = c.state;
  drives = c.drives;
  work = work_of c.work;
  waiting = records c.waiting;
  slots = c.waiting.capacity;
  messages = records c.messages;
  message_slots = c.messages.capacity;
  dropped = c.dropped;
  door = false;
}
