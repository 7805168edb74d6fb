-- An inventory with all its places.
use Rattle.std.proofs.Common.{◌≡◌, ℕ, zero, suc, ◌*◌, ◌<◌, ◌≤◌, Bool, true, false, cond, eqb, List, [], ◌∷◌, ◌++◌, map, length, get_or, drop, sym, refl, ap, ◌∙◌, arith}
use Rattle.std.proofs.lemmas.Bool.Decides.{nat_tests}
use Rattle.labels.specs.Numbers.{unreadable_number}
use Rattle.responses.specs.Inventories.{bit, map_bytes, label_bytes, labels_bytes}
use Rattle.responses.specs.Reading.{bits_of}
use Rattle.responses.specs.RoundTrips.{padded, Placed}
use Rattle.responses.proofs.Bits.{place_bits}

-- As many as there are places add nothing.
pub padded_whole : (n : ℕ) (xs : List ℕ) → length xs ≡ n → padded n xs ≡ xs
unfolding padded
padded_whole zero [] h = refl
padded_whole zero (x ∷ xs) h = absurd (omega arith)
padded_whole (suc n) [] h = absurd (omega arith)
padded_whole (suc n) (x ∷ xs) h = ap (λ (l : List ℕ). x ∷ l) (padded_whole n xs (omega arith))

-- Each place holds what was told of it, and nothing past that.
pub padded_at : (n : ℕ) (xs : List ℕ) (p : ℕ) → p < n → get_or (padded n xs) p 0 ≡ get_or xs p 0
unfolding padded
padded_at zero xs p h = absurd (omega arith)
padded_at (suc n) [] zero h = refl
padded_at (suc n) (x ∷ xs) zero h = refl
padded_at (suc n) [] (suc p) h = padded_at n [] p (omega arith)
padded_at (suc n) (x ∷ xs) (suc p) h = padded_at n xs p (omega arith)

-- Empty places add no labels.
pub labels_padded : (n : ℕ) (xs : List ℕ) → length xs ≤ n → labels_bytes (padded n xs) ≡ labels_bytes xs
unfolding padded
labels_padded zero [] h = refl
labels_padded zero (x ∷ xs) h = absurd (omega arith)
labels_padded (suc n) [] h = labels_padded n [] (omega arith)
labels_padded (suc n) (x ∷ xs) h = ap (λ (l : List ℕ). label_bytes x ++ l) (labels_padded n xs (omega arith))

-- Each holds a cartridge or nothing.
abbrev pub AllPlaced : List ℕ → Type 0
AllPlaced [] = Unit {0}
AllPlaced (n ∷ ns) = (n ≤ unreadable_number) × AllPlaced ns

pub all_placed : (n : ℕ) (xs : List ℕ) → Placed xs → AllPlaced (padded n xs)
unfolding padded
all_placed zero xs h = tt
all_placed (suc n) [] h = (h 0, all_placed n [] h)
all_placed (suc n) (x ∷ xs) h = (h 0, all_placed n xs (λ i. h (suc i)))

-- Whether a place holds a cartridge.
abbrev pub full : ℕ → Bool
full n = cond (eqb n 0) false true

pub bit_full : (n : ℕ) → eqb (bit n) 1 ≡ full n
bit_full n = grind (arith, nat_tests)

-- The next eight places.
next_eight : (n : ℕ) (xs : List ℕ)
    → padded (suc (suc (suc (suc (suc (suc (suc (suc n)))))))) xs
    ≡ get_or xs 0 0 ∷ get_or xs 1 0 ∷ get_or xs 2 0 ∷ get_or xs 3 0 ∷ get_or xs 4 0 ∷ get_or xs 5 0 ∷ get_or xs 6 0 ∷ get_or xs 7 0 ∷ padded n (drop 8 xs)
unfolding padded
next_eight n [] = refl
next_eight n (a ∷ []) = refl
next_eight n (a ∷ b ∷ []) = refl
next_eight n (a ∷ b ∷ c ∷ []) = refl
next_eight n (a ∷ b ∷ c ∷ d ∷ []) = refl
next_eight n (a ∷ b ∷ c ∷ d ∷ e ∷ []) = refl
next_eight n (a ∷ b ∷ c ∷ d ∷ e ∷ f ∷ []) = refl
next_eight n (a ∷ b ∷ c ∷ d ∷ e ∷ f ∷ g ∷ []) = refl
next_eight n (a ∷ b ∷ c ∷ d ∷ e ∷ f ∷ g ∷ h ∷ xs) = refl

same_eight : {a b c d e f g h a' b' c' d' e' f' g' h' : Bool} {l l' : List Bool} → a ≡ a' → b ≡ b' → c ≡ c' → d ≡ d' → e ≡ e' → f ≡ f' → g ≡ g' → h ≡ h' → l ≡ l'
    → ◌≡◌ {A = List Bool} (a ∷ b ∷ c ∷ d ∷ e ∷ f ∷ g ∷ h ∷ l) (a' ∷ b' ∷ c' ∷ d' ∷ e' ∷ f' ∷ g' ∷ h' ∷ l')
same_eight p0 p1 p2 p3 p4 p5 p6 p7 q = cc

at : (x n : ℕ) → x ≡ bit n → eqb x 1 ≡ full n
at x n e = ap (λ (y : ℕ). eqb y 1) e ∙ bit_full n

-- The bits of the map are those of all places.
pub bits_back : (k : ℕ) (xs : List ℕ) → bits_of (map_bytes k xs) ≡ map full (padded (8 * k) xs)
unfolding bits_of map_bytes padded
bits_back zero xs = refl
bits_back (suc k) xs =
    let b = place_bits xs in
    let n : 8 * suc k ≡ suc (suc (suc (suc (suc (suc (suc (suc (8 * k)))))))) = omega arith in
    same_eight (at _ (get_or xs 0 0) b.b0) (at _ (get_or xs 1 0) b.b1) (at _ (get_or xs 2 0) b.b2) (at _ (get_or xs 3 0) b.b3) (at _ (get_or xs 4 0) b.b4) (at _ (get_or xs 5 0) b.b5) (at _ (get_or xs 6 0) b.b6) (at _ (get_or xs 7 0) b.b7) (bits_back k (drop 8 xs))
    ∙ ap (λ (l : List ℕ). map full l) (sym (next_eight (8 * k) xs)) ∙ ap (λ (j : ℕ). map full (padded j xs)) (sym n)
