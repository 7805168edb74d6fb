-- What a response tells.
use Rattle.std.specs.Prelude.{ℕ, cond, List, length, Some, None, Option}
use Rattle.std.specs.Borrow.{Bor}
use Rattle.statuses.specs.declared.Status.{Status}
use Rattle.statuses.specs.Statuses.{row}
use Rattle.responses.specs.declared.Entry.{Entry}
use Rattle.responses.specs.declared.Response.{Response}
use Rattle.responses.specs.declared.ResponseKind.{ResponseKind}
use Rattle.responses.specs.declared.ResponseKind.TheVariants.{Acknowledge, Final}

-- Every response finds room in a buffer of so many bytes. It has at most so many entries, and an inventory at most so many places.
abbrev pub enough_bytes : ℕ
enough_bytes = 2048

abbrev pub most_entries : ℕ
most_entries = 21

abbrev pub most_places : ℕ
most_places = 256

-- The number of each kind.
abbrev pub kind_number : ResponseKind → ℕ
kind_number Acknowledge = 1
kind_number Final = 3

-- A response with its entries and its inventory as lists.
pub record Told : Type 0 where
  pub number : Option ℕ
  pub command : Option ℕ
  pub kind : ResponseKind
  pub status : Status
  pub detail : Option ℕ
  pub entries : Option (List Entry)
  pub inventory : Option (List ℕ)

abbrev pub held : Option ℕ → Option ℕ → ResponseKind → Status → Option ℕ → Option (List Entry) → Option (List ℕ) → Told
held n c k s d e i = record { number = n; command = c; kind = k; status = s; detail = d; entries = e; inventory = i }

-- A final with entries or an inventory.
abbrev pub final_with : Option ℕ → Option ℕ → Status → Option ℕ → Option (List Entry) → Option (List ℕ) → Told
final_with n c s d e i = held n c Final s d e i

-- A final that refuses has the detail d where its status has one.
abbrev pub refused_by : Option ℕ → Option ℕ → Status → ℕ → Told
refused_by n c s d = held n c Final s (cond (row s).detail (Some d) None) None None

-- The list that an optional slice holds.
abbrev pub listed : {X : Type 0} → Option (Bor (List X)) → Option (List X)
listed None = None
listed (Some r) = Some r.now

-- How many there are.
abbrev pub count_of : {X : Type 0} → Option (List X) → ℕ
count_of None = 0
count_of (Some xs) = length xs

-- What a response tells.
abbrev pub told : Response → Told
told r = held r.head.number r.head.command r.head.kind r.head.status r.head.detail (listed r.entries) (listed r.inventory)
