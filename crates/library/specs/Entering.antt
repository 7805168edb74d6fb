-- The entries of an enter.
use Rattle.std.specs.Prelude.{◌≡◌, ◌<◌, ◌≤◌, ◌+◌, ◌-◌, ℕ, cond, List, [], ◌∷◌, ◌++◌, drop, length, nat_lt, replicate, slice_set, take}
use Rattle.std.proofs.Common.{ap, arith, sym, ◌∙◌}
use Rattle.std.proofs.lemmas.List.{drop-drop, drop-replicate, drop-set-lt, length-set, length-take-le, take-append-drop}
use Rattle.responses.specs.declared.Entry.{Entry}
use Rattle.statuses.specs.declared.Status.TheVariants.{Success}

-- What a row has that no entry is in.
abbrev pub blank : Entry
blank = record { cartridge = 0; from = 0; to = 0; status = Success }

-- The rows behind these entries.
abbrev pub blank_after : List Entry → List Entry
blank_after es = replicate (21 - length es) blank

-- 21 rows, and behind so many that have an entry all are blank.
pub record Rows (rows : List Entry) (count : ℕ) : Type 0 where
  pub few : count ≤ 21
  pub size : length rows ≡ 21
  pub rest : drop count rows ≡ replicate (21 - count) blank

-- The list of entries tells how many there are, and all rows.
pub count_back : (rows : List Entry) (count : ℕ) → Rows rows count → length (take count rows) ≡ count
count_back rows count r = length-take-le count rows (omega (arith, r.few, r.size))

pub rows_back : (rows : List Entry) (count : ℕ) → Rows rows count → take count rows ++ blank_after (take count rows) ≡ rows
rows_back rows count r =
    let a = ap (λ (k : ℕ). replicate (21 - k) blank) (count_back rows count r) ∙ sym r.rest in
    ap (λ (z : List Entry). take count rows ++ z) a ∙ take-append-drop count rows

-- With one more entry the rows behind are still blank.
pub rows_more : (rows : List Entry) (count : ℕ) (e : Entry) → Rows rows count → count < 21 → Rows (slice_set rows count e) (count + 1)
rows_more rows count e r h =
    let a = sym (drop-drop 1 count rows) ∙ ap (drop 1) r.rest ∙ drop-replicate 1 (21 - count) blank in
    let b : 21 - count - 1 ≡ 21 - (count + 1) = omega arith in
    record {
      few = omega arith;
      size = length-set rows count e ∙ r.size;
      rest = drop-set-lt (count + 1) rows count e (omega arith) ∙ a ∙ ap (λ (k : ℕ). replicate k blank) b;
    }

-- One more, where there is room.
abbrev pub entries_more : Entry → List Entry → List Entry
entries_more e xs = cond (nat_lt (length xs) 21) (xs ++ e ∷ []) xs
