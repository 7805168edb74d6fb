-- A catalogue that is true: the readable labels of cells and drives, each with its place.
use Rattle.std.specs.Prelude.{◌≡◌, ℕ, ◌+◌, Bool, true, false, cond, ◌&&◌, List, [], ◌∷◌, ◌==◌}
use Rattle.robots.specs.Meaning.{Meaning}
use Rattle.stock.specs.declared.catalogue.Filed.{Filed}
use Rattle.stock.specs.Holding.{readable, shown_at}
use Rattle.library.specs.declared.state.State.{State}
use Rattle.library.specs.declared.state.State.TheVariants as state

-- How often the label k is filed at the place p.
abbrev pub filings : ℕ → ℕ → List Filed → ℕ
filings k p [] = 0
filings k p (row ∷ rows) = cond (row.number == k && row.place == p) 1 0 + filings k p rows

-- Once where the cell or drive p holds a cartridge with the readable label k, and else not at all.
abbrev pub due : Meaning → ℕ → ℕ → ℕ
due m k p = cond (readable k && shown_at m p == k) 1 0

abbrev pub CatalogueTrue : List Filed → Meaning → Type 0
CatalogueTrue filed m = (k p : ℕ) → filings k p filed ≡ due m k p

-- The states in which the catalogue is used.
abbrev pub filing : State → Bool
filing state.Run = true
filing state.IdlePending = true
filing state.Idle = false
filing state.Recovery = false
