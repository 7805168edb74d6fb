-- The bytes of entries.
use Rattle.std.specs.Prelude.{ℕ, List, [], ◌∷◌, ◌++◌, length, Some, None, Option}
use Rattle.labels.specs.Labels.{six_for}
use Rattle.statuses.specs.Statuses.{status_number}
use Rattle.responses.specs.declared.Entry.{Entry}

-- From-place, to-place and status.
abbrev pub behind_label : Entry → List ℕ
behind_label e = e.from ∷ e.to ∷ status_number e.status ∷ []

-- The cartridge's label or question marks come before them: nine bytes.
abbrev pub entry_bytes : Entry → List ℕ
entry_bytes e = six_for e.cartridge ++ behind_label e

abbrev pub each_bytes : List Entry → List ℕ
each_bytes [] = []
each_bytes (e ∷ es) = entry_bytes e ++ each_bytes es

-- Their count comes first.
abbrev pub entries_bytes : Option (List Entry) → List ℕ
entries_bytes None = []
entries_bytes (Some es) = length es ∷ each_bytes es
