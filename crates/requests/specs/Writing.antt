-- The bytes of a packet, and what the writer leaves in a buffer.
use Rattle.std.specs.Prelude.{ℕ, cond, List, ◌∷◌, ◌++◌, length, drop, Some, None, Ok, Err, Option, Result, nat_lt}
use Rattle.byte_fields.specs.Putting.{one_bytes, two_bytes, six_bytes}
use Rattle.statuses.specs.declared.Status.{Status}
use Rattle.statuses.specs.declared.Status.TheVariants as status
use Rattle.requests.specs.declared.bodies.Request.{Request}
use Rattle.requests.specs.declared.refusals.Cause.{Cause}
use Rattle.requests.specs.declared.taking.Fields.{Fields}
use Rattle.requests.specs.declared.writing.Unwritable.{Unwritable}
use Rattle.requests.specs.declared.writing.Unwritable.TheVariants.{SmallBuffer, BadFields}
use Rattle.requests.specs.Refusals.{cause_status}
use Rattle.requests.specs.Checking.{checked}

-- The map, then each field that is there, in bit order.
unfoldable pub packet_of : Fields → List ℕ
packet_of f =
    f.map ∷ (two_bytes f.number ++ (one_bytes f.command ++ (one_bytes f.option ++ (six_bytes f.label
    ++ (one_bytes f.place ++ (two_bytes f.target ++ one_bytes f.drive_state))))))

-- The status of a packet that is not written.
abbrev pub unwritable_status : Unwritable → Status
unwritable_status SmallBuffer = status.Long
unwritable_status (BadFields e) = cause_status e

-- Why fields are not written into a buffer of n bytes: it is small, or they make no request.
abbrev pub bad_fields : Result Request Cause → Option Unwritable
bad_fields (Ok r) = None
bad_fields (Err e) = Some (BadFields e)

abbrev pub unwritable : ℕ → Fields → Option Unwritable
unwritable n f = cond (nat_lt n 15) (Some SmallBuffer) (bad_fields (checked f))

-- What the writer answers: the length, or why not.
abbrev pub answer_by : Option Unwritable → Fields → Result ℕ Unwritable
answer_by None f = Ok (length (packet_of f))
answer_by (Some e) f = Err e

abbrev pub answer : ℕ → Fields → Result ℕ Unwritable
answer n f = answer_by (unwritable n f) f

-- What it leaves in a buffer that held xs: the packet at the front and the rest as it was, or all as it was.
abbrev pub left_by : Option Unwritable → Fields → List ℕ → List ℕ
left_by None f xs = packet_of f ++ drop (length (packet_of f)) xs
left_by (Some e) f xs = xs

abbrev pub left : Fields → List ℕ → List ℕ
left f xs = left_by (unwritable (length xs) f) f xs
