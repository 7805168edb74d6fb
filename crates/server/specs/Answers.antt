-- The responses that a server writes.
use Rattle.std.specs.Prelude.{ℕ, List, length, Some, None, Ok, Err, Option, Result}
use Rattle.statuses.specs.declared.Status.TheVariants.{Success}
use Rattle.requests.specs.declared.bodies.Request.{Request}
use Rattle.requests.specs.declared.refusals.BadPacket.{BadPacket}
use Rattle.requests.specs.Bodies.{command_in}
use Rattle.requests.specs.Commands.{row}
use Rattle.requests.specs.Refusals.{cause_detail, cause_status}
use Rattle.responses.specs.declared.Entry.{Entry}
use Rattle.responses.specs.declared.ResponseKind.TheVariants.{Acknowledge, Final}
use Rattle.responses.specs.declared.writing.Unwritable.{Unwritable}
use Rattle.responses.specs.Responses.{Told, final_with, held}
use Rattle.responses.specs.Writing.{answer}
use Rattle.robots.specs.Meaning.{Meaning}
use Rattle.stock.specs.Holding.{inventory_of}
use Rattle.library.specs.Finals.{FinalFor}
use Rattle.library.specs.Verdicts.{Shown}
use Rattle.library.specs.Verdicts.Shown.{nothing, listed, inventory}
use Rattle.receipt.specs.Accepting.{Said}
use Rattle.receipt.specs.Accepting.Said.{acknowledged, final}

-- The number of a request's command.
abbrev pub command_of : Request → ℕ
command_of q = (row (command_in q.body)).number

-- The final that refuses a packet.
abbrev pub bad_told : BadPacket → Told
bad_told bad = held bad.number bad.command Final (cause_status bad.cause) (cause_detail bad.cause) None None

-- An acknowledge.
abbrev pub acknowledge_told : Request → Told
acknowledge_told q = held (Some q.number) (Some (command_of q)) Acknowledge Success None None None

-- A final; an inventory is that of the robot as it is then.
abbrev pub shown_entries : Shown → Option (List Entry)
shown_entries nothing = None
shown_entries (listed es) = Some es
shown_entries inventory = None

abbrev pub shown_inventory : Shown → Meaning → Option (List ℕ)
shown_inventory nothing m = None
shown_inventory (listed es) m = None
shown_inventory inventory m = Some (inventory_of m)

abbrev pub final_told : FinalFor → Meaning → Told
final_told f m =
    final_with (Some f.request.number) (Some (command_of f.request)) f.ending.status f.ending.detail
    (shown_entries f.ending.shown) (shown_inventory f.ending.shown m)

-- What a received request is told.
abbrev pub said_told : Said → Meaning → Told
said_told (acknowledged q) m = acknowledge_told q
said_told (final f) m = final_told f m

-- The length of a response in a buffer that held xs; what cannot be written has none.
abbrev pub length_by : Result ℕ Unwritable → ℕ
length_by (Ok n) = n
length_by (Err why) = 0

abbrev pub length_in : List ℕ → Told → ℕ
length_in xs t = length_by (answer (length xs) t)
