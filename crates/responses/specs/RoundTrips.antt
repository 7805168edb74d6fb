-- Reading and writing go back and forth.
use Rattle.std.specs.Prelude.{◌≡◌, ℕ, zero, suc, ◌≤◌, List, [], ◌∷◌, ◌++◌, length, drop, Some, None, Ok, Option, slice_index}
use Rattle.labels.specs.Numbers.{unreadable_number}
use Rattle.responses.specs.declared.Entry.{Entry}
use Rattle.responses.specs.declared.Response.{Response}
use Rattle.responses.specs.Responses.{enough_bytes, most_places, Told, held, told}
use Rattle.responses.specs.Writing.{answer, left}
use Rattle.responses.specs.Reading.{response_in}

-- n places: those of xs, and then empty ones.
unfoldable pub padded : ℕ → List ℕ → List ℕ
padded zero xs = []
padded (suc n) [] = 0 ∷ padded n []
padded (suc n) (x ∷ xs) = x ∷ padded n xs

abbrev pub all_places : Option (List ℕ) → Option (List ℕ)
all_places None = None
all_places (Some xs) = Some (padded most_places xs)

-- A response, its inventory with every place that there can be.
abbrev pub filled : Told → Told
filled t = held t.number t.command t.kind t.status t.detail t.entries (all_places t.inventory)

-- Every entry has a cartridge.
abbrev pub Entered : List Entry → Type 0
Entered [] = Unit {0}
Entered (e ∷ es) = (1 ≤ e.cartridge) × (e.cartridge ≤ unreadable_number) × Entered es

-- Every place holds a cartridge or nothing.
abbrev pub Placed : List ℕ → Type 0
Placed xs = (i : ℕ) → slice_index xs i ≤ unreadable_number

abbrev pub Where : {X : Type 0} → (X → Type 0) → Option X → Type 0
Where P None = Unit {0}
Where P (Some x) = P x

-- A response whose numbers are those of cartridges.
pub record Sound (t : Told) : Type 0 where
  pub entries : Where Entered t.entries
  pub inventory : Where Placed t.inventory

-- A packet p reads as what was told.
abbrev pub ReadsBack : Told → List ℕ → Type 0
ReadsBack t p = Sound t → response_in p ≡ Some (filled t)

-- A packet p is what the writer makes of what was read: into any buffer with room it writes just p, and tells p's length.
pub record WritesBack (t : Told) (p : List ℕ) : Type 0 where
  pub length_told : (n : ℕ) → enough_bytes ≤ n → answer n t ≡ Ok (length p)
  pub buffer : (xs : List ℕ) → enough_bytes ≤ length xs → left t xs ≡ p ++ drop (length p) xs

abbrev pub WrittenBack : Option Response → List ℕ → Type 0
WrittenBack None p = Unit {0}
WrittenBack (Some r) p = WritesBack (told r) p
