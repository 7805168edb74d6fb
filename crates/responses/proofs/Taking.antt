-- The reader's loops, turn by turn, and what a slice pattern's names are.
use Rattle.std.proofs.Common.{◌≡◌, ℕ, zero, suc, ◌+◌, ◌-◌, ◌*◌, ◌/◌, ◌%◌, ◌^◌, ◌<◌, ◌≤◌, Bool, true, false, eqb, leb, List, [], ◌∷◌, ◌++◌, length, get_or, take, drop, set, Some, None, Option, sym, refl, ap, ◌∙◌, append_assoc, append-nil, add-one, arith, get_or-drop, take_all, drop-cons, le-leb}
use lib.Bits.{bit_and, and_mask}
use Rattle.std.proofs.lemmas.List.{take_more_set, drop_all}
use Rattle.responses.specs.declared.Entry.{Entry}
use Rattle.responses.specs.Reading.{after, entry_off, consed, each_off, bits_of, place_off, places_off, inventory_off, prefixed}

pub prefixed_none : {X : Type 0} (o : Option (List X × List ℕ)) → o ≡ prefixed [] o
prefixed_none None = refl
prefixed_none (Some p) = refl

pub prefixed_push : {X : Type 0} (xs : List X) (x : X) (o : Option (List X × List ℕ)) → prefixed xs (consed x o) ≡ prefixed (xs ++ (x ∷ [])) o
prefixed_push xs x None = refl
prefixed_push xs x (Some p) = ap (λ (l : List _). Some (l, p.1)) (sym (append_assoc xs (x ∷ []) p.0))

-- The turns of the entries' loop.
pub each_turn : (n i : ℕ) (rest behind : List ℕ) (es : List Entry) (e : Entry) → i < n → n ≤ length es → Some (e, behind) ≡ entry_off rest
    → prefixed (take i es) (each_off (n - i) rest) ≡ prefixed (take (i + 1) (set es i e)) (each_off (n - (i + 1)) behind)
each_turn n i rest behind es e l m h =
    let k : ℕ = n - (i + 1) in
    let q : n - i ≡ suc (n - (i + 1)) = omega arith in
    ap (λ (j : ℕ). prefixed (take i es) (each_off j rest)) q
    ∙ ap (λ (o : Option (Entry × List ℕ)). prefixed (take i es) (after o (λ x r. consed x (each_off k r)))) (sym h)
    ∙ prefixed_push (take i es) e (each_off k behind)
    ∙ ap (λ (xs : List Entry). prefixed xs (each_off k behind)) (sym (take_more_set es i e (omega arith)))

pub each_end : (n i : ℕ) (rest : List ℕ) (es : List Entry) → n ≤ i → length es ≡ n → prefixed (take i es) (each_off (n - i) rest) ≡ Some (es, rest)
each_end n i rest es l m =
    let q : n - i ≡ 0 = omega arith in
    ap (λ (j : ℕ). prefixed (take i es) (each_off j rest)) q ∙ ap (λ (xs : List Entry). Some (xs, rest)) (append-nil (take i es) ∙ take_all i es (omega arith))

-- The bit of a place.
core : (m : List ℕ) (j r : ℕ) → r < 8 → j < length m → get_or (bits_of m) (8 * j + r) false ≡ eqb (get_or m j 0 / 2 ^ r % 2) 1
unfolding bits_of
core [] j r h l = absurd (omega arith)
core (b ∷ bs) zero zero h l = refl
core (b ∷ bs) zero (suc zero) h l = refl
core (b ∷ bs) zero (suc (suc zero)) h l = refl
core (b ∷ bs) zero (suc (suc (suc zero))) h l = refl
core (b ∷ bs) zero (suc (suc (suc (suc zero)))) h l = refl
core (b ∷ bs) zero (suc (suc (suc (suc (suc zero))))) h l = refl
core (b ∷ bs) zero (suc (suc (suc (suc (suc (suc zero)))))) h l = refl
core (b ∷ bs) zero (suc (suc (suc (suc (suc (suc (suc zero))))))) h l = refl
core (b ∷ bs) zero (suc (suc (suc (suc (suc (suc (suc (suc r)))))))) h l = absurd (omega arith)
core (b ∷ bs) (suc j) r h l =
    ap (λ (n : ℕ). get_or (bits_of (b ∷ bs)) n false) (let e : 8 * suc j + r ≡ 8 + (8 * j + r) = omega arith in e)
    ∙ sym (get_or-drop 8 (bits_of (b ∷ bs)) (8 * j + r) false) ∙ core bs j r h (omega arith)

pub bit_place : (m : List ℕ) (p : ℕ) → p < 8 * length m → eqb (bit_and (get_or m (p / 8) 0 / 2 ^ (p % 8)) 1) 1 ≡ get_or (bits_of m) p false
bit_place m p h =
    let e : 8 * (p / 8) + p % 8 ≡ p = omega arith in
    ap (λ (n : ℕ). eqb n 1) (and_mask (get_or m (p / 8) 0 / 2 ^ (p % 8)) 1)
    ∙ sym (core m (p / 8) (p % 8) (omega arith) (omega arith)) ∙ ap (λ (n : ℕ). get_or (bits_of m) n false) e

pub length_bits : (m : List ℕ) → length (bits_of m) ≡ 8 * length m
unfolding bits_of
length_bits [] = refl
length_bits (b ∷ bs) = let h = length_bits bs in omega arith

-- The turns of the inventory's loop.
pub place_turn : (bits : List Bool) (i : ℕ) (rest behind : List ℕ) (ns : List ℕ) (n : ℕ) (t : Bool) → i < length bits → i < length ns → t ≡ get_or bits i false → Some (n, behind) ≡ place_off t rest
    → prefixed (take i ns) (places_off (drop i bits) rest) ≡ prefixed (take (i + 1) (set ns i n)) (places_off (drop (i + 1) bits) behind)
place_turn bits i rest behind ns n t l m e h =
    ap (λ (bs : List Bool). prefixed (take i ns) (places_off bs rest)) (drop-cons bits i false l)
    ∙ ap (λ (b : Bool). prefixed (take i ns) (after (place_off b rest) (λ x r. consed x (places_off (drop (suc i) bits) r)))) (sym e)
    ∙ ap (λ (o : Option (ℕ × List ℕ)). prefixed (take i ns) (after o (λ x r. consed x (places_off (drop (suc i) bits) r)))) (sym h)
    ∙ prefixed_push (take i ns) n (places_off (drop (suc i) bits) behind)
    ∙ ap (λ (xs : List ℕ). prefixed xs (places_off (drop (suc i) bits) behind)) (sym (take_more_set ns i n m))
    ∙ ap (λ (k : ℕ). prefixed (take (i + 1) (set ns i n)) (places_off (drop k bits) behind)) (sym (add-one i))

pub place_end : (bits : List Bool) (i : ℕ) (rest : List ℕ) (ns : List ℕ) → length bits ≤ i → length ns ≤ i → prefixed (take i ns) (places_off (drop i bits) rest) ≡ Some (ns, rest)
place_end bits i rest ns l m =
    ap (λ (bs : List Bool). prefixed (take i ns) (places_off bs rest)) (drop_all i bits l)
    ∙ ap (λ (xs : List ℕ). Some (xs, rest)) (append-nil (take i ns) ∙ take_all i ns m)

pub inventory_at : (bs map rest : List ℕ) → 32 ≤ length bs → map ≡ take 32 bs → rest ≡ drop 32 bs → inventory_off bs ≡ places_off (bits_of map) rest
inventory_at bs map rest h e f = let l : leb 32 (length bs) ≡ true = le-leb 32 (length bs) h in rw (l, e, f)
