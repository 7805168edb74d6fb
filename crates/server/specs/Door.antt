-- The door, and the messages that an operator takes.
use Rattle.std.specs.Prelude.{ℕ, Bool, true, false, cond, List, Some, None, Option, nat_lt}
use Rattle.ring.specs.Order.{first, rest}
use Rattle.library.specs.declared.message.Message.{Message}
use Rattle.library.specs.Library.{Library}
use Rattle.robots.specs.Meaning.{count}
use Rattle.receipt.specs.Accepting.{with_forced}
use Rattle.server.specs.declared.refusal.CallRefusal.{CallRefusal}
use Rattle.server.specs.declared.refusal.CallRefusal.TheVariants as refusal
use Rattle.server.specs.Hands.{Handled, put_if, reach, take_if}

abbrev pub with_door : Bool → Library → Library
with_door is_open l = record {
  stock = l.stock;
  state = l.state;
  drives = l.drives;
  work = l.work;
  waiting = l.waiting;
  slots = l.slots;
  messages = l.messages;
  message_slots = l.message_slots;
  dropped = l.dropped;
  door = is_open;
}

-- Opening the door acts as a forced idle from every state, and is told with the number 0.
abbrev pub open_call : Library → Library
open_call l = with_door true (with_forced 0 l)

-- Shutting it leaves all else as it is.
abbrev pub shut_call : Library → Library
shut_call l = with_door false l

abbrev pub with_messages : List Message → Library → Library
with_messages ms l = record {
  stock = l.stock;
  state = l.state;
  drives = l.drives;
  work = l.work;
  waiting = l.waiting;
  slots = l.slots;
  messages = ms;
  message_slots = l.message_slots;
  dropped = l.dropped;
  door = l.door;
}

-- Whether a hand reaches a place with the door as it is: through an open one every place that there is.
abbrev pub within_reach : Library → ℕ → Option CallRefusal
within_reach l p = cond l.door (cond (nat_lt p (count l.stock.robot)) None (Some refusal.NoPlace)) (reach l p)

-- Put and take, with the door as it is.
abbrev pub put_through : Library → ℕ → ℕ → Handled (Unit {0})
put_through l p number = put_if (within_reach l p) l p number

abbrev pub take_through : Library → ℕ → Handled ℕ
take_through l p = take_if (within_reach l p) l p

-- The oldest message if there is one, the drop count, and the library after it.
pub record Messaged : Type 0 where
  pub message : Option Message
  pub dropped : ℕ
  pub library : Library

abbrev pub message_call : Library → Messaged
message_call l = record { message = first l.messages; dropped = l.dropped; library = with_messages (rest l.messages) l }
