-- A list of cartridges, each with its place.
use Rattle.std.specs.Prelude.{ℕ, suc, Bool, true, cond, not, ◌&&◌, List, [], ◌∷◌, ◌++◌, map, filter, ◌==◌, nat_lt}
use Rattle.labels.specs.Labels.{is_cartridge_number}
use Rattle.std.specs.List.{range_with_len}
use Rattle.tag_frame.specs.declared.tag.Tag.{Tag}

-- The number of the cartridge at p, or 0.
abbrev pub lookup : List Tag → ℕ → ℕ
lookup [] p = 0
lookup (t ∷ ts) p = cond (t.place == p) t.number (lookup ts p)

-- Where in the list p stands; the list's length if it does not.
abbrev pub index_of : List Tag → ℕ → ℕ
index_of [] p = 0
index_of (t ∷ ts) p = cond (t.place == p) 0 (suc (index_of ts p))

-- No cartridge is at p.
abbrev pub absent : ℕ → List Tag → Bool
absent p [] = true
absent p (t ∷ ts) = not (t.place == p) && absent p ts

-- Each place is below n and stands once, and each number is a cartridge's.
abbrev pub tidy : ℕ → List Tag → Bool
tidy n [] = true
tidy n (t ∷ ts) = nat_lt t.place n && (is_cartridge_number t.number && (absent t.place ts && tidy n ts))

-- What n places hold.
abbrev pub held_of : ℕ → List Tag → List ℕ
held_of n ts = map (lookup ts) (range_with_len 0 n)

-- The list without what is at p. Below, a number of 0 is no cartridge.
abbrev pub all_but : ℕ → List Tag → List Tag
all_but p ts = filter (λ t. not (t.place == p)) ts

-- The list with this cartridge there instead.
abbrev pub retagged : List Tag → ℕ → ℕ → List Tag
retagged ts p number = cond (number == 0) (all_but p ts) (all_but p ts ++ (record { number = number; place = p }) ∷ [])
