-- A new library.
use Rattle.std.specs.Prelude.{ℕ, min, false, [], replicate, None}
use Rattle.stock.specs.Models.{Stocked}
use Rattle.library.specs.declared.state.State.TheVariants.{Idle}
use Rattle.library.specs.declared.drive.DriveState.TheVariants.{Online}
use Rattle.library.specs.Library.{Library}

-- Idle, all drives online, nothing at work or waiting, the door shut. Of the slots that are lent, 64 are used for requests and
-- 32 for messages at most.
abbrev pub fresh : Stocked → ℕ → ℕ → Library
fresh s requestSlots lentMessages = record {
  stock = s;
  state = Idle;
  drives = replicate 256 Online;
  work = None;
  waiting = [];
  slots = min requestSlots 64;
  messages = [];
  message_slots = min lentMessages 32;
  dropped = 0;
  door = false;
}
