-- An inventory that was read is the one written.
use Rattle.std.proofs.Common.{◌≡◌, ℕ, suc, ◌/◌, ◌%◌, ◌<◌, ◌≤◌, Bool, true, false, eqb, leb, List, [], ◌∷◌, ◌++◌, map, length, take, drop, Some, Option, sym, refl, ap, ◌∙◌, append_assoc, arith, take-append-drop, length-take-le, ne_eqb, leb-true}
use Rattle.std.proofs.lemmas.Bool.Decides.{nat_tests}
use Rattle.byte_fields.specs.Taking.{has_bit, Bytes}
use Rattle.byte_fields.proofs.Forth.{pair_eq}
use Rattle.responses.specs.Inventories.{bit, byte_of, map_bytes, label_bytes, labels_bytes, inventory_bytes}
use Rattle.responses.specs.Reading.{consed, bits_of, place_off, places_off, inventory_off, maybe}
use Rattle.responses.proofs.Taking.{length_bits}
use Rattle.responses.proofs.Bits.{byte_sum}
use Rattle.responses.proofs.Padding.{full}
use Rattle.responses.proofs.Handed.{Listed, after_inv, bytes_take, cond_inv, consed_inv, maybe_forth}
use Rattle.responses.proofs.ReadCartridge.{cartridge_forth}

pub place_forth : (t : Bool) (bs : List ℕ) (n : ℕ) (rest : List ℕ) → place_off t bs ≡ Some (n, rest) → (label_bytes n ++ rest ≡ bs) × (full n ≡ t)
place_forth false bs n rest h = let f = pair_eq _ _ _ _ h in let p : n ≡ 0 = sym f.0 in (rw p (sym f.1), rw p)
place_forth true bs n rest h =
    let c = cartridge_forth bs n rest h in
    let z : eqb n 0 ≡ false = ne_eqb n 0 (λ q. let k = c.1 in omega arith) in
    (rw z c.0, rw z)

pub places_forth : (bits : List Bool) (bs : List ℕ) (ns : List ℕ) (rest : List ℕ) → places_off bits bs ≡ Some (ns, rest) → (labels_bytes ns ++ rest ≡ bs) × (bits ≡ map full ns) × (length ns ≡ length bits)
places_forth [] bs ns rest h = let f = pair_eq _ _ _ _ h in let p : ns ≡ [] = sym f.0 in (rw p (sym f.1), rw p, rw p)
places_forth (t ∷ bits) bs ns rest h =
    let a = after_inv (place_off t bs) (λ n r. consed n (places_off bits r)) (ns, rest) h in
    let n = a.0.0 in
    let behind = a.0.1 in
    let c = consed_inv n (places_off bits behind) (ns, rest) a.2 in
    let i = places_forth bits behind c.0.0 c.0.1 c.1 in
    let x = place_forth t bs n behind a.1 in
    let q : ns ≡ n ∷ c.0.0 = ap (λ (p : List ℕ × List ℕ). p.0) c.2 in
    let r : rest ≡ c.0.1 = ap (λ (p : List ℕ × List ℕ). p.1) c.2 in (
      ap (λ (l : List ℕ). labels_bytes l ++ rest) q ∙ ap (λ (l : List ℕ). labels_bytes (n ∷ c.0.0) ++ l) r
          ∙ append_assoc (label_bytes n) (labels_bytes c.0.0) c.0.1 ∙ ap (λ (l : List ℕ). label_bytes n ++ l) i.0 ∙ x.0,
      ap (λ (b : Bool). b ∷ bits) (sym x.1) ∙ ap (λ (l : List Bool). full n ∷ l) i.1 ∙ ap (λ (l : List ℕ). map full l) (sym q),
      ap (λ (l : List ℕ). length l) q ∙ ap suc i.2,
    )

pub bit_of : (m w n : ℕ) → has_bit m w ≡ full n → m / w % 2 ≡ bit n
bit_of m w n h = let l : m / w % 2 < 2 = omega arith in grind (arith, nat_tests)

pub head_eq : (a b : Bool) (l m : List Bool) → a ∷ l ≡ b ∷ m → (a ≡ b) × (l ≡ m)
head_eq a b l m h = (cc, cc)

pub cons_nil : (a : Bool) (l : List Bool) → a ∷ l ≡ [] → ⊥
cons_nil a l h = let z : ◌≡◌ {A = ℕ} 0 1 = cc in omega arith

pub map_forth : (ms ns : List ℕ) → Bytes ms → bits_of ms ≡ map full ns → map_bytes (length ms) ns ≡ ms
unfolding bits_of map_bytes
map_forth [] ns y h = refl
map_forth (b ∷ ms) [] y h = absurd (cons_nil _ _ h)
map_forth (b ∷ ms) (n0 ∷ []) y h = let h0 = head_eq _ _ _ _ h in absurd (cons_nil _ _ h0.1)
map_forth (b ∷ ms) (n0 ∷ n1 ∷ []) y h = let h0 = head_eq _ _ _ _ h in let h1 = head_eq _ _ _ _ h0.1 in absurd (cons_nil _ _ h1.1)
map_forth (b ∷ ms) (n0 ∷ n1 ∷ n2 ∷ []) y h = let h0 = head_eq _ _ _ _ h in let h1 = head_eq _ _ _ _ h0.1 in let h2 = head_eq _ _ _ _ h1.1 in absurd (cons_nil _ _ h2.1)
map_forth (b ∷ ms) (n0 ∷ n1 ∷ n2 ∷ n3 ∷ []) y h = let h0 = head_eq _ _ _ _ h in let h1 = head_eq _ _ _ _ h0.1 in let h2 = head_eq _ _ _ _ h1.1 in let h3 = head_eq _ _ _ _ h2.1 in absurd (cons_nil _ _ h3.1)
map_forth (b ∷ ms) (n0 ∷ n1 ∷ n2 ∷ n3 ∷ n4 ∷ []) y h = let h0 = head_eq _ _ _ _ h in let h1 = head_eq _ _ _ _ h0.1 in let h2 = head_eq _ _ _ _ h1.1 in let h3 = head_eq _ _ _ _ h2.1 in let h4 = head_eq _ _ _ _ h3.1 in absurd (cons_nil _ _ h4.1)
map_forth (b ∷ ms) (n0 ∷ n1 ∷ n2 ∷ n3 ∷ n4 ∷ n5 ∷ []) y h = let h0 = head_eq _ _ _ _ h in let h1 = head_eq _ _ _ _ h0.1 in let h2 = head_eq _ _ _ _ h1.1 in let h3 = head_eq _ _ _ _ h2.1 in let h4 = head_eq _ _ _ _ h3.1 in let h5 = head_eq _ _ _ _ h4.1 in absurd (cons_nil _ _ h5.1)
map_forth (b ∷ ms) (n0 ∷ n1 ∷ n2 ∷ n3 ∷ n4 ∷ n5 ∷ n6 ∷ []) y h = let h0 = head_eq _ _ _ _ h in let h1 = head_eq _ _ _ _ h0.1 in let h2 = head_eq _ _ _ _ h1.1 in let h3 = head_eq _ _ _ _ h2.1 in let h4 = head_eq _ _ _ _ h3.1 in let h5 = head_eq _ _ _ _ h4.1 in let h6 = head_eq _ _ _ _ h5.1 in absurd (cons_nil _ _ h6.1)
map_forth (b ∷ ms) (n0 ∷ n1 ∷ n2 ∷ n3 ∷ n4 ∷ n5 ∷ n6 ∷ n7 ∷ ns) y h =
    let h0 = head_eq _ _ _ _ h in
    let h1 = head_eq _ _ _ _ h0.1 in
    let h2 = head_eq _ _ _ _ h1.1 in
    let h3 = head_eq _ _ _ _ h2.1 in
    let h4 = head_eq _ _ _ _ h3.1 in
    let h5 = head_eq _ _ _ _ h4.1 in
    let h6 = head_eq _ _ _ _ h5.1 in
    let h7 = head_eq _ _ _ _ h6.1 in
    let q : byte_of (n0 ∷ n1 ∷ n2 ∷ n3 ∷ n4 ∷ n5 ∷ n6 ∷ n7 ∷ ns) ≡ b = byte_sum b (bit n0) (bit n1) (bit n2) (bit n3) (bit n4) (bit n5) (bit n6) (bit n7) y.0 (record {
      b0 = bit_of b 1 n0 h0.0;
      b1 = bit_of b 2 n1 h1.0;
      b2 = bit_of b 4 n2 h2.0;
      b3 = bit_of b 8 n3 h3.0;
      b4 = bit_of b 16 n4 h4.0;
      b5 = bit_of b 32 n5 h5.0;
      b6 = bit_of b 64 n6 h6.0;
      b7 = bit_of b 128 n7 h7.0;
    }) in
    ap (λ (x : ℕ). x ∷ map_bytes (length ms) ns) q ∙ ap (λ (l : List ℕ). b ∷ l) (map_forth ms ns y.1 h7.1)

pub inventory_some : (bs ns rest : List ℕ) → Bytes bs → inventory_off bs ≡ Some (ns, rest) → (inventory_bytes (Some ns) ++ rest ≡ bs) × (length ns ≤ 256)
inventory_some bs ns rest y h =
    let c = cond_inv (leb 32 (length bs)) _ (ns, rest) h in
    let l : length (take 32 bs) ≡ 32 = length-take-le 32 bs (leb-true 32 (length bs) c.0) in
    let p = places_forth (bits_of (take 32 bs)) (drop 32 bs) ns rest c.1 in
    let m : map_bytes 32 ns ≡ take 32 bs = ap (λ (k : ℕ). map_bytes k ns) (sym l) ∙ map_forth (take 32 bs) ns (bytes_take 32 bs y) p.1 in
    let k = length_bits (take 32 bs) in
    let j = p.2 in
    (append_assoc (map_bytes 32 ns) (labels_bytes ns) rest ∙ ap (λ (x : List ℕ). map_bytes 32 ns ++ x) p.0 ∙ ap (λ (x : List ℕ). x ++ drop 32 bs) m ∙ take-append-drop 32 bs, omega arith)

pub inventory_forth : (t : Bool) (bs : List ℕ) (o : Option (List ℕ)) (rest : List ℕ) → Bytes bs → maybe t inventory_off bs ≡ Some (o, rest) → Listed inventory_bytes 256 t bs o rest
inventory_forth t bs o rest y h = maybe_forth inventory_off inventory_bytes 256 refl (λ cs ns r z e. inventory_some cs ns r z e) t bs o rest y h
