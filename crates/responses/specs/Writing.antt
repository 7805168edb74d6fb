-- The bytes of a response, and what the writer leaves in a buffer.
use Rattle.std.specs.Prelude.{ℕ, ◌+◌, Bool, cond, List, ◌∷◌, ◌++◌, length, drop, is_some, Some, None, Ok, Err, Option, Result, nat_lt}
use Rattle.std.specs.Option.{option_map}
use Rattle.byte_fields.specs.Putting.{one_bytes, two_bytes}
use Rattle.statuses.specs.declared.Status.{Status}
use Rattle.statuses.specs.Statuses.{row, status_number, layer_number}
use Rattle.responses.specs.declared.writing.Unwritable.{Unwritable}
use Rattle.responses.specs.declared.writing.Unwritable.TheVariants.{SmallBuffer, ManyEntries, ManyPlaces}
use Rattle.responses.specs.Responses.{enough_bytes, most_entries, most_places, Told, kind_number, count_of}
use Rattle.responses.specs.Entries.{entries_bytes}
use Rattle.responses.specs.Inventories.{inventory_bytes}

-- What a field that is there adds to the map.
abbrev pub flag : Bool → ℕ → ℕ
flag there w = cond there w 0

-- A refusal has the layer of its status.
abbrev pub layer_byte : Status → Option ℕ
layer_byte s = option_map layer_number (row s).layer

-- The map: kind and status are always there.
abbrev pub map_of : Told → ℕ
map_of t =
    flag (is_some t.number) 1 + flag (is_some t.command) 2 + 4 + 8 + flag (is_some (layer_byte t.status)) 16 + flag (is_some t.detail) 32
    + flag (is_some t.entries) 64 + flag (is_some t.inventory) 128

-- The map, then each field that is there, in bit order.
unfoldable pub bytes_of : Told → List ℕ
bytes_of t =
    map_of t ∷ (two_bytes t.number ++ (one_bytes t.command ++ (kind_number t.kind ∷ status_number t.status
    ∷ (one_bytes (layer_byte t.status) ++ (one_bytes t.detail ++ (entries_bytes t.entries ++ inventory_bytes t.inventory))))))

-- Why a response is not written into a buffer of n bytes.
abbrev pub unwritable : ℕ → Told → Option Unwritable
unwritable n t =
    cond (nat_lt n enough_bytes) (Some SmallBuffer)
    (cond (nat_lt most_entries (count_of t.entries)) (Some ManyEntries)
    (cond (nat_lt most_places (count_of t.inventory)) (Some ManyPlaces) None))

-- What the writer answers: the length, or why not.
abbrev pub answer_by : Option Unwritable → Told → Result ℕ Unwritable
answer_by None t = Ok (length (bytes_of t))
answer_by (Some e) t = Err e

abbrev pub answer : ℕ → Told → Result ℕ Unwritable
answer n t = answer_by (unwritable n t) t

-- What it leaves in a buffer that held xs: the response at the front and the rest as it was, or all as it was.
abbrev pub left_by : Option Unwritable → Told → List ℕ → List ℕ
left_by None t xs = bytes_of t ++ drop (length (bytes_of t)) xs
left_by (Some e) t xs = xs

abbrev pub left : Told → List ℕ → List ℕ
left t xs = left_by (unwritable (length xs) t) t xs
