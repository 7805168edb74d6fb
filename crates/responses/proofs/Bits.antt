-- A byte and its eight bits.
use Rattle.std.proofs.Common.{◌≡◌, ℕ, ◌+◌, ◌*◌, ◌/◌, ◌%◌, ◌<◌, ◌≤◌, Bool, true, false, cond, eqb, List, get_or, is_some, sym, refl, ap, ◌∙◌, mul-zero, mul-one, arith, eqb-true}
use borrow.Author.Tests.{eqb-false}
use Rattle.std.proofs.lemmas.Bool.Decides.{nat_tests}
use Rattle.byte_fields.specs.Taking.{has_bit}
use Rattle.responses.specs.Responses.{Told}
use Rattle.responses.specs.Inventories.{bit, byte_of}
use Rattle.responses.specs.Writing.{flag, layer_byte, map_of}

-- The bits of a sum of powers of two.
pub record Eight (b x0 x1 x2 x3 x4 x5 x6 x7 : ℕ) : Type 0 where
  pub b0 : b / 1 % 2 ≡ x0
  pub b1 : b / 2 % 2 ≡ x1
  pub b2 : b / 4 % 2 ≡ x2
  pub b3 : b / 8 % 2 ≡ x3
  pub b4 : b / 16 % 2 ≡ x4
  pub b5 : b / 32 % 2 ≡ x5
  pub b6 : b / 64 % 2 ≡ x6
  pub b7 : b / 128 % 2 ≡ x7

eight : (x0 x1 x2 x3 x4 x5 x6 x7 : ℕ) → x0 ≤ 1 → x1 ≤ 1 → x2 ≤ 1 → x3 ≤ 1 → x4 ≤ 1 → x5 ≤ 1 → x6 ≤ 1 → x7 ≤ 1
    → Eight (x0 + 2 * x1 + 4 * x2 + 8 * x3 + 16 * x4 + 32 * x5 + 64 * x6 + 128 * x7) x0 x1 x2 x3 x4 x5 x6 x7
eight x0 x1 x2 x3 x4 x5 x6 x7 h0 h1 h2 h3 h4 h5 h6 h7 = record {
  b0 = omega arith;
  b1 = omega arith;
  b2 = omega arith;
  b3 = omega arith;
  b4 = omega arith;
  b5 = omega arith;
  b6 = omega arith;
  b7 = omega arith;
}

-- A byte is the sum of its bits.
pub byte_sum : (b x0 x1 x2 x3 x4 x5 x6 x7 : ℕ) → b < 256 → Eight b x0 x1 x2 x3 x4 x5 x6 x7 → x0 + 2 * x1 + 4 * x2 + 8 * x3 + 16 * x4 + 32 * x5 + 64 * x6 + 128 * x7 ≡ b
byte_sum b x0 x1 x2 x3 x4 x5 x6 x7 h e = omega arith

bit_le : (n : ℕ) → bit n ≤ 1
bit_le n = grind (arith, nat_tests)

-- The map byte of eight places has the bits of these places.
pub place_bits : (xs : List ℕ) → Eight (byte_of xs) (bit (get_or xs 0 0)) (bit (get_or xs 1 0)) (bit (get_or xs 2 0)) (bit (get_or xs 3 0)) (bit (get_or xs 4 0)) (bit (get_or xs 5 0)) (bit (get_or xs 6 0)) (bit (get_or xs 7 0))
place_bits xs =
    eight (bit (get_or xs 0 0)) (bit (get_or xs 1 0)) (bit (get_or xs 2 0)) (bit (get_or xs 3 0)) (bit (get_or xs 4 0)) (bit (get_or xs 5 0)) (bit (get_or xs 6 0)) (bit (get_or xs 7 0))
    (bit_le (get_or xs 0 0)) (bit_le (get_or xs 1 0)) (bit_le (get_or xs 2 0)) (bit_le (get_or xs 3 0)) (bit_le (get_or xs 4 0)) (bit_le (get_or xs 5 0)) (bit_le (get_or xs 6 0)) (bit_le (get_or xs 7 0))

-- 1 where a field is there.
abbrev val : Bool → ℕ
val b = cond b 1 0

val_le : (b : Bool) → val b ≤ 1
val_le true = omega arith
val_le false = omega arith

val_back : (b : Bool) → eqb (val b) 1 ≡ b
val_back true = refl
val_back false = refl

flag_val : (b : Bool) (w : ℕ) → flag b w ≡ w * val b
flag_val true w = sym (mul-one w)
flag_val false w = sym (mul-zero w)

-- The bits of a response's map say which fields are there.
pub record MapBits (t : Told) (m : ℕ) : Type 0 where
  pub number : has_bit m 1 ≡ is_some t.number
  pub command : has_bit m 2 ≡ is_some t.command
  pub kind : has_bit m 4 ≡ true
  pub status : has_bit m 8 ≡ true
  pub layer : has_bit m 16 ≡ is_some (layer_byte t.status)
  pub detail : has_bit m 32 ≡ is_some t.detail
  pub entries : has_bit m 64 ≡ is_some t.entries
  pub inventory : has_bit m 128 ≡ is_some t.inventory

bits_by_holds : (n c l d e i : Bool) (m : ℕ) → m ≡ flag n 1 + flag c 2 + 4 + 8 + flag l 16 + flag d 32 + flag e 64 + flag i 128 → Eight m (val n) (val c) 1 1 (val l) (val d) (val e) (val i)
bits_by_holds n c l d e i m h =
    let f1 = flag_val n 1 in
    let f2 = flag_val c 2 in
    let f3 = flag_val l 16 in
    let f4 = flag_val d 32 in
    let f5 = flag_val e 64 in
    let f6 = flag_val i 128 in
    let q : val n + 2 * val c + 4 * 1 + 8 * 1 + 16 * val l + 32 * val d + 64 * val e + 128 * val i ≡ m = omega arith in
    rw (← q) (eight (val n) (val c) 1 1 (val l) (val d) (val e) (val i) (val_le n) (val_le c) (omega arith) (omega arith) (val_le l) (val_le d) (val_le e) (val_le i))

pub map_bits : (t : Told) → MapBits t (map_of t)
map_bits t =
    let n = is_some t.number in
    let c = is_some t.command in
    let l = is_some (layer_byte t.status) in
    let d = is_some t.detail in
    let e = is_some t.entries in
    let i = is_some t.inventory in
    let b = bits_by_holds n c l d e i (map_of t) refl in
    record {
      number = ap (λ (x : ℕ). eqb x 1) b.b0 ∙ val_back n;
      command = ap (λ (x : ℕ). eqb x 1) b.b1 ∙ val_back c;
      kind = ap (λ (x : ℕ). eqb x 1) b.b2;
      status = ap (λ (x : ℕ). eqb x 1) b.b3;
      layer = ap (λ (x : ℕ). eqb x 1) b.b4 ∙ val_back l;
      detail = ap (λ (x : ℕ). eqb x 1) b.b5 ∙ val_back d;
      entries = ap (λ (x : ℕ). eqb x 1) b.b6 ∙ val_back e;
      inventory = ap (λ (x : ℕ). eqb x 1) b.b7 ∙ val_back i;
    }

flag_is : (b : Bool) (x w : ℕ) → eqb x 1 ≡ b → x < 2 → flag b w ≡ w * x
flag_is true x w e h = let p : x ≡ 1 = eqb-true x 1 e in rw p (sym (mul-one w))
flag_is false x w e h = let n = eqb-false x 1 e in let p : x ≡ 0 = omega arith in rw p (sym (mul-zero w))

-- A byte whose bits say which fields are there is the response's map.
pub map_is : (t : Told) (m : ℕ) → m < 256 → MapBits t m → map_of t ≡ m
map_is t m h b =
    let l : (w : ℕ) → m / w % 2 < 2 = λ w. omega arith in
    let f0 = flag_is (is_some t.number) (m / 1 % 2) 1 b.number (l 1) in
    let f1 = flag_is (is_some t.command) (m / 2 % 2) 2 b.command (l 2) in
    let f2 = eqb-true (m / 4 % 2) 1 b.kind in
    let f3 = eqb-true (m / 8 % 2) 1 b.status in
    let f4 = flag_is (is_some (layer_byte t.status)) (m / 16 % 2) 16 b.layer (l 16) in
    let f5 = flag_is (is_some t.detail) (m / 32 % 2) 32 b.detail (l 32) in
    let f6 = flag_is (is_some t.entries) (m / 64 % 2) 64 b.entries (l 64) in
    let f7 = flag_is (is_some t.inventory) (m / 128 % 2) 128 b.inventory (l 128) in
    let s = byte_sum m (m / 1 % 2) (m / 2 % 2) (m / 4 % 2) (m / 8 % 2) (m / 16 % 2) (m / 32 % 2) (m / 64 % 2) (m / 128 % 2) h
    (record { b0 = refl; b1 = refl; b2 = refl; b3 = refl; b4 = refl; b5 = refl; b6 = refl; b7 = refl }) in
    omega arith
