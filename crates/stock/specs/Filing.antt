-- A list of cartridges with the places where they are filed.
use Rattle.std.specs.Prelude.{ℕ, ◌+◌, cond, List, [], ◌∷◌, ◌++◌, length, take, drop, Some, None, Option, ◌==◌, nat_lt, slice_index_or, slice_set}
use Rattle.std.specs.List.{position_from}
use Rattle.stock.specs.declared.catalogue.Filed.{Filed}
use Rattle.stock.specs.declared.catalogue.Row.{Row}
use Rattle.stock.specs.declared.catalogue.Volume.{Volume}
use Rattle.stock.specs.declared.catalogue.Volume.TheVariants.{One, Several}

-- One more row of a label.
abbrev pub one_more : Option Volume → Row → Option Volume
one_more None r = Some (One r)
one_more (Some v) r = Some Several

-- What is known of the label k once the row at i is seen.
abbrev pub seen : ℕ → Option Volume → ℕ → Filed → Option Volume
seen k known i row = cond (row.number == k) (one_more known (record { index = i; place = row.place })) known

-- What is known of it once all rows are seen, the first of them standing at i.
abbrev pub volume_from : ℕ → List Filed → ℕ → Option Volume → Option Volume
volume_from i [] k known = known
volume_from i (row ∷ rows) k known = volume_from (i + 1) rows k (seen k known i row)

-- Where the label k is filed: nowhere, in one row, or in several.
abbrev pub volume_of : List Filed → ℕ → Option Volume
volume_of xs k = volume_from 0 xs k None

-- Which row names the place p, the first row being i.
abbrev pub index_from : ℕ → List Filed → ℕ → Option ℕ
index_from i xs p = position_from (λ row. row.place == p) i xs

abbrev pub index_of : List Filed → ℕ → Option ℕ
index_of xs p = index_from 0 xs p

-- Stands where no row does.
abbrev pub no_row : Filed
no_row = record { number = 0; place = 0 }

-- What row i has is now at q.
abbrev pub refiled : ℕ → ℕ → List Filed → List Filed
refiled i q xs = cond (nat_lt i (length xs)) (slice_set xs i (record { number = (slice_index_or xs i no_row).number; place = q })) xs

-- What row i has is filed no more.
abbrev pub unfiled : ℕ → List Filed → List Filed
unfiled i xs = cond (nat_lt i (length xs)) (take i xs ++ drop (i + 1) xs) xs

-- One more is filed, where there is room.
abbrev pub filed_more : Filed → List Filed → List Filed
filed_more row xs = cond (nat_lt (length xs) 256) (xs ++ row ∷ []) xs
