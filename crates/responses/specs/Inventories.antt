-- The bytes of an inventory.
use Rattle.std.specs.Prelude.{ℕ, zero, suc, ◌+◌, ◌*◌, cond, List, [], ◌∷◌, ◌++◌, drop, Some, None, Option, ◌==◌, slice_index}
use Rattle.labels.specs.Labels.{six_for}

-- 1 where a place holds a cartridge.
abbrev pub bit : ℕ → ℕ
bit n = cond (n == 0) 0 1

-- The map byte of the first eight places, the first of them the lowest bit.
abbrev pub byte_of : List ℕ → ℕ
byte_of xs =
    bit (slice_index xs 0) + 2 * bit (slice_index xs 1) + 4 * bit (slice_index xs 2) + 8 * bit (slice_index xs 3)
    + 16 * bit (slice_index xs 4) + 32 * bit (slice_index xs 5) + 64 * bit (slice_index xs 6) + 128 * bit (slice_index xs 7)

-- k map bytes, for the first eight places, the next eight and so on.
unfoldable pub map_bytes : ℕ → List ℕ → List ℕ
map_bytes zero xs = []
map_bytes (suc k) xs = byte_of xs ∷ map_bytes k (drop 8 xs)

-- What a place adds behind the map: six bytes where it holds a cartridge.
abbrev pub label_bytes : ℕ → List ℕ
label_bytes n = cond (n == 0) [] (six_for n)

abbrev pub labels_bytes : List ℕ → List ℕ
labels_bytes [] = []
labels_bytes (n ∷ ns) = label_bytes n ++ labels_bytes ns

-- A map of 32 bytes, and then the labels.
abbrev pub inventory_bytes : Option (List ℕ) → List ℕ
inventory_bytes None = []
inventory_bytes (Some xs) = map_bytes 32 xs ++ labels_bytes xs
