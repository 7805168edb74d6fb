-- How a request ends.
use Rattle.std.specs.Prelude.{ℕ, List, [], ◌∷◌, Some, None, Ok, Err, Option, Result}
use Rattle.statuses.specs.declared.Status.{Status}
use Rattle.statuses.specs.declared.Status.TheVariants.{Success}
use Rattle.responses.specs.declared.Entry.{Entry}
use Rattle.stock.specs.declared.refusal.Refusal.{Refusal}
use Rattle.stock.specs.Refusals.{status_of, detail_of}
use Rattle.library.specs.declared.verdict.Verdict.{Verdict}
use Rattle.library.specs.declared.verdict.Tail.{Tail}
use Rattle.library.specs.declared.verdict.Tail.TheVariants.{Nothing, One, Many, Inventory}

-- What stands behind the status: nothing, entries, or the inventory.
pub data Shown : Type 0 where
  nothing : Shown
  listed : List Entry → Shown
  inventory : Shown

pub record Ending : Type 0 where
  pub status : Status
  pub detail : Option ℕ
  pub shown : Shown

abbrev pub shown_by : Tail → Shown
shown_by Nothing = nothing
shown_by (One e) = listed (e ∷ [])
shown_by (Many es) = listed es
shown_by Inventory = inventory

abbrev pub verdict_of : Verdict → Ending
verdict_of v = record { status = v.status; detail = v.detail; shown = shown_by v.tail }

-- Success.
abbrev pub done_with : Shown → Ending
done_with t = record { status = Success; detail = None; shown = t }

-- Success, telling the server's state.
abbrev pub told_state : ℕ → Ending
told_state n = record { status = Success; detail = Some n; shown = nothing }

-- A refusal.
abbrev pub refused_by : Status → Option ℕ → Shown → Ending
refused_by st d t = record { status = st; detail = d; shown = t }

-- The end of a request that moved one cartridge, or did not.
abbrev pub moved_verdict : Result Entry Refusal → Ending
moved_verdict (Ok e) = done_with (listed (e ∷ []))
moved_verdict (Err why) = refused_by (status_of why) (detail_of why) nothing
