-- The map of an inventory, made by one pass over the places.
use Rattle.std.proofs.Common.{◌≡◌, ℕ, zero, suc, ◌+◌, ◌*◌, ◌/◌, ◌%◌, ◌^◌, ◌<◌, ◌≤◌, false, eqb, List, [], ◌∷◌, ◌++◌, length, get_or, take, drop, set, sym, refl, ap, ◌∙◌, subst, arith, length-take-le, ne_eqb}
use lib.Bits.{bit_or}
use Rattle.std.proofs.lemmas.Bool.Decides.{nat_tests}
use Rattle.std.proofs.lemmas.Nat.{or_comm, or_shifted}
use Rattle.std.proofs.lemmas.List.{take_more}
use Rattle.responses.specs.Inventories.{bit, byte_of, map_bytes}

bit_le : (n : ℕ) → bit n ≤ 1
bit_le n = grind (arith, nat_tests)

bit_one : (n : ℕ) → (n ≡ 0 → ⊥) → bit n ≡ 1
bit_one n h = let e : eqb n 0 ≡ false = ne_eqb n 0 h in rw e

quotient : (m : ℕ) → suc (suc (suc (suc (suc (suc (suc (suc m))))))) / 8 ≡ suc (m / 8)
quotient m = omega arith

remainder : (m : ℕ) → suc (suc (suc (suc (suc (suc (suc (suc m))))))) % 8 ≡ m % 8
remainder m = omega arith

-- The byte of the next place has no bit from that place on.
low : (k : ℕ) (ys : List ℕ) → length ys < 8 * k → get_or (map_bytes k ys) (length ys / 8) 0 < 2 ^ (length ys % 8)
unfolding map_bytes
low zero ys h = absurd (omega arith)
low (suc k) ([]) h = omega arith
low (suc k) (a ∷ []) h = let la = bit_le a in omega arith
low (suc k) (a ∷ b ∷ []) h = let la = bit_le a in let lb = bit_le b in omega arith
low (suc k) (a ∷ b ∷ c ∷ []) h = let la = bit_le a in let lb = bit_le b in let lc = bit_le c in omega arith
low (suc k) (a ∷ b ∷ c ∷ d ∷ []) h = let la = bit_le a in let lb = bit_le b in let lc = bit_le c in let ld = bit_le d in omega arith
low (suc k) (a ∷ b ∷ c ∷ d ∷ e ∷ []) h = let la = bit_le a in let lb = bit_le b in let lc = bit_le c in let ld = bit_le d in let le = bit_le e in omega arith
low (suc k) (a ∷ b ∷ c ∷ d ∷ e ∷ f ∷ []) h = let la = bit_le a in let lb = bit_le b in let lc = bit_le c in let ld = bit_le d in let le = bit_le e in let lf = bit_le f in omega arith
low (suc k) (a ∷ b ∷ c ∷ d ∷ e ∷ f ∷ g ∷ []) h = let la = bit_le a in let lb = bit_le b in let lc = bit_le c in let ld = bit_le d in let le = bit_le e in let lf = bit_le f in let lg = bit_le g in omega arith
low (suc k) (a ∷ b ∷ c ∷ d ∷ e ∷ f ∷ g ∷ o ∷ ys) h =
    rw (quotient (length ys), remainder (length ys)) (low k ys (omega arith))

-- One more place, with a cartridge.
pushed : (k : ℕ) (ys : List ℕ) (n : ℕ) → length ys < 8 * k → bit n ≡ 1
    → map_bytes k (ys ++ (n ∷ [])) ≡ set (map_bytes k ys) (length ys / 8) (get_or (map_bytes k ys) (length ys / 8) 0 + 2 ^ (length ys % 8))
unfolding map_bytes
pushed zero ys n h q = absurd (omega arith)
pushed (suc k) ([]) n h q = ap (λ (x : ℕ). x ∷ map_bytes k []) (omega arith)
pushed (suc k) (a ∷ []) n h q = ap (λ (x : ℕ). x ∷ map_bytes k []) (omega arith)
pushed (suc k) (a ∷ b ∷ []) n h q = ap (λ (x : ℕ). x ∷ map_bytes k []) (omega arith)
pushed (suc k) (a ∷ b ∷ c ∷ []) n h q = ap (λ (x : ℕ). x ∷ map_bytes k []) (omega arith)
pushed (suc k) (a ∷ b ∷ c ∷ d ∷ []) n h q = ap (λ (x : ℕ). x ∷ map_bytes k []) (omega arith)
pushed (suc k) (a ∷ b ∷ c ∷ d ∷ e ∷ []) n h q = ap (λ (x : ℕ). x ∷ map_bytes k []) (omega arith)
pushed (suc k) (a ∷ b ∷ c ∷ d ∷ e ∷ f ∷ []) n h q = ap (λ (x : ℕ). x ∷ map_bytes k []) (omega arith)
pushed (suc k) (a ∷ b ∷ c ∷ d ∷ e ∷ f ∷ g ∷ []) n h q = ap (λ (x : ℕ). x ∷ map_bytes k []) (omega arith)
pushed (suc k) (a ∷ b ∷ c ∷ d ∷ e ∷ f ∷ g ∷ o ∷ ys) n h q =
    rw (quotient (length ys), remainder (length ys)) (ap (λ (l : List ℕ). byte_of (a ∷ b ∷ c ∷ d ∷ e ∷ f ∷ g ∷ o ∷ ys) ∷ l) (pushed k ys n (omega arith) q))

-- One more place, empty.
skipped : (k : ℕ) (ys : List ℕ) → map_bytes k (ys ++ (0 ∷ [])) ≡ map_bytes k ys
unfolding map_bytes
skipped zero ys = refl
skipped (suc k) ([]) = refl
skipped (suc k) (a ∷ []) = refl
skipped (suc k) (a ∷ b ∷ []) = refl
skipped (suc k) (a ∷ b ∷ c ∷ []) = refl
skipped (suc k) (a ∷ b ∷ c ∷ d ∷ []) = refl
skipped (suc k) (a ∷ b ∷ c ∷ d ∷ e ∷ []) = refl
skipped (suc k) (a ∷ b ∷ c ∷ d ∷ e ∷ f ∷ []) = refl
skipped (suc k) (a ∷ b ∷ c ∷ d ∷ e ∷ f ∷ g ∷ []) = refl
skipped (suc k) (a ∷ b ∷ c ∷ d ∷ e ∷ f ∷ g ∷ o ∷ ys) = ap (λ (l : List ℕ). byte_of (a ∷ b ∷ c ∷ d ∷ e ∷ f ∷ g ∷ o ∷ ys) ∷ l) (skipped k ys)

-- The bit of a place that holds a cartridge, set by `|=`.
pub one_more : (xs : List ℕ) (i : ℕ) (d : ℕ) → i < length xs → length xs ≤ 256 → (get_or xs i d ≡ 0 → ⊥)
    → set (map_bytes 32 (take i xs)) (i / 8) (bit_or (get_or (map_bytes 32 (take i xs)) (i / 8) 0) (2 ^ (i % 8))) ≡ map_bytes 32 (take (i + 1) xs)
one_more xs i d h m z =
    let n : length (take i xs) ≡ i = length-take-le i xs (omega arith) in
    let l : length (take i xs) < 8 * 32 = omega arith in
    let w = subst (λ (j : ℕ). get_or (map_bytes 32 (take i xs)) (j / 8) 0 < 2 ^ (j % 8)) n (low 32 (take i xs) l) in
    let o : bit_or (get_or (map_bytes 32 (take i xs)) (i / 8) 0) (2 ^ (i % 8)) ≡ get_or (map_bytes 32 (take i xs)) (i / 8) 0 + 2 ^ (i % 8) = or-in (get_or (map_bytes 32 (take i xs)) (i / 8) 0) (i % 8) w in
    ap (λ (x : ℕ). set (map_bytes 32 (take i xs)) (i / 8) x) o
    ∙ sym (subst (λ (j : ℕ). map_bytes 32 (take i xs ++ (get_or xs i d ∷ [])) ≡ set (map_bytes 32 (take i xs)) (j / 8) (get_or (map_bytes 32 (take i xs)) (j / 8) 0 + 2 ^ (j % 8))) n (pushed 32 (take i xs) (get_or xs i d) l (bit_one (get_or xs i d) z)))
    ∙ ap (λ (ys : List ℕ). map_bytes 32 ys) (sym (take_more xs i d h))
  where
    or-in : (x k : ℕ) → x < 2 ^ k → bit_or x (2 ^ k) ≡ x + 2 ^ k
    or-in x k l =
        let e : 1 * 2 ^ k ≡ 2 ^ k = omega arith in
        or_comm x (2 ^ k) ∙ ap (λ (y : ℕ). bit_or y x) (sym e) ∙ or_shifted 1 k x l ∙ omega arith

-- An empty place leaves the map.
pub one_less : (xs : List ℕ) (i : ℕ) (d : ℕ) → i < length xs → get_or xs i d ≡ 0 → map_bytes 32 (take i xs) ≡ map_bytes 32 (take (i + 1) xs)
one_less xs i d h z =
    sym (ap (λ (ys : List ℕ). map_bytes 32 ys) (take_more xs i d h ∙ ap (λ (x : ℕ). take i xs ++ (x ∷ [])) z) ∙ skipped 32 (take i xs))

pub marked : (xs map : List ℕ) (i d b : ℕ) → i < length xs → length xs ≤ 256 → (get_or xs i d ≡ 0 → ⊥) → map ≡ map_bytes 32 (take i xs) → b ≡ 2 ^ (i % 8)
    → set map (i / 8) (bit_or (get_or map (i / 8) 0) b) ≡ map_bytes 32 (take (i + 1) xs)
marked xs map i d b h m z e f = rw (f, e) (one_more xs i d h m z)

pub length_map_bytes : (k : ℕ) (xs : List ℕ) → length (map_bytes k xs) ≡ k
unfolding map_bytes
length_map_bytes zero xs = refl
length_map_bytes (suc k) xs = ap suc (length_map_bytes k (drop 8 xs))
