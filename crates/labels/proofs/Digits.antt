-- Six characters and their value in base 36 go back and forth.
use Rattle.std.proofs.Common.{◌≡◌, ℕ, ◌+◌, ◌-◌, ◌*◌, ◌/◌, ◌%◌, ◌<◌, ◌≤◌, true, List, [], ◌∷◌, length, get_or, None, ap, ◌∙◌, arith}
use Rattle.std.proofs.lemmas.Bool.Decides.{nat_tests}
use Rattle.labels.specs.Characters.{right, first_wrong}
use Rattle.labels.specs.Numbers.{digit_of, character_of, number_of, characters_of, label_of, highest_number}
use Rattle.labels.proofs.Wrongs.{right_at_holds}

digit_character : (d : ℕ) → d < 36 → digit_of (character_of d) ≡ d
digit_character d h = grind (arith, nat_tests)

character_digit : (b : ℕ) → right b ≡ true → character_of (digit_of b) ≡ b
character_digit b h = grind (arith, nat_tests)

digit_bound : (b : ℕ) → right b ≡ true → digit_of b < 36
digit_bound b h = grind (arith, nat_tests)

character_right : (d : ℕ) → d < 36 → right (character_of d) ≡ true
character_right d h = grind (arith, nat_tests)

-- What six digits count is the label's number.
pub six_value : (l : List ℕ) (a b c d e f : ℕ) → length l ≡ 6
    → a ≡ digit_of (get_or l 0 0) → b ≡ digit_of (get_or l 1 0) → c ≡ digit_of (get_or l 2 0) → d ≡ digit_of (get_or l 3 0) → e ≡ digit_of (get_or l 4 0) → f ≡ digit_of (get_or l 5 0)
    → 1 + (((((a * 36 + b) * 36 + c) * 36 + d) * 36 + e) * 36 + f) ≡ number_of l
six_value [] a b c d e f h ea eb ec ed ee ef = absurd (omega arith)
six_value (u ∷ []) a b c d e f h ea eb ec ed ee ef = absurd (omega arith)
six_value (u ∷ v ∷ []) a b c d e f h ea eb ec ed ee ef = absurd (omega arith)
six_value (u ∷ v ∷ w ∷ []) a b c d e f h ea eb ec ed ee ef = absurd (omega arith)
six_value (u ∷ v ∷ w ∷ x ∷ []) a b c d e f h ea eb ec ed ee ef = absurd (omega arith)
six_value (u ∷ v ∷ w ∷ x ∷ y ∷ []) a b c d e f h ea eb ec ed ee ef = absurd (omega arith)
six_value (u ∷ v ∷ w ∷ x ∷ y ∷ z ∷ []) a b c d e f h ea eb ec ed ee ef = omega arith
six_value (u ∷ v ∷ w ∷ x ∷ y ∷ z ∷ q ∷ r) a b c d e f h ea eb ec ed ee ef = absurd (omega arith)

-- The characters made of a value count that value.
pub number_back : (k : ℕ) → k < highest_number → number_of (characters_of k) ≡ 1 + k
number_back k h =
    let e1 : k ≡ k / 36 * 36 + k % 36 = omega arith in
    let e2 : k / 36 ≡ k / 1296 * 36 + k / 36 % 36 = omega arith in
    let e3 : k / 1296 ≡ k / 46656 * 36 + k / 1296 % 36 = omega arith in
    let e4 : k / 46656 ≡ k / 1679616 * 36 + k / 46656 % 36 = omega arith in
    let e5 : k / 1679616 ≡ k / 60466176 * 36 + k / 1679616 % 36 = omega arith in
    rw (
      digit_character (k / 60466176) (omega arith),
      digit_character (k / 1679616 % 36) (omega arith),
      digit_character (k / 46656 % 36) (omega arith),
      digit_character (k / 1296 % 36) (omega arith),
      digit_character (k / 36 % 36) (omega arith),
      digit_character (k % 36) (omega arith),
    )
    (sums (k / 60466176) (k / 1679616 % 36) (k / 46656 % 36) (k / 1296 % 36) (k / 36 % 36) (k % 36) k (k / 36) (k / 1296) (k / 46656) (k / 1679616) e1 e2 e3 e4 e5)
  where
    sums : (a b c d e f k q r s t : ℕ) → k ≡ q * 36 + f → q ≡ r * 36 + e → r ≡ s * 36 + d → s ≡ t * 36 + c → t ≡ a * 36 + b
        → 1 + ((((((0 * 36 + a) * 36 + b) * 36 + c) * 36 + d) * 36 + e) * 36 + f) ≡ 1 + k
    sums a b c d e f k q r s t e1 e2 e3 e4 e5 = omega arith

-- They are right.
pub characters_right : (k : ℕ) → k < highest_number → first_wrong 0 (characters_of k) ≡ None
characters_right k h =
    rw (
      character_right (k / 60466176) (omega arith),
      character_right (k / 1679616 % 36) (omega arith),
      character_right (k / 46656 % 36) (omega arith),
      character_right (k / 1296 % 36) (omega arith),
      character_right (k / 36 % 36) (omega arith),
      character_right (k % 36) (omega arith),
    )

six_digits : (a b c d e f : ℕ) → b < 36 → c < 36 → d < 36 → e < 36 → f < 36
    → characters_of (((((a * 36 + b) * 36 + c) * 36 + d) * 36 + e) * 36 + f) ≡ character_of a ∷ character_of b ∷ character_of c ∷ character_of d ∷ character_of e ∷ character_of f ∷ []
six_digits a b c d e f hb hc hd he hf =
    let k : ℕ = ((((a * 36 + b) * 36 + c) * 36 + d) * 36 + e) * 36 + f in
    let ka : k / 60466176 ≡ a = omega arith in
    let kb : k / 1679616 % 36 ≡ b = omega arith in
    let kc : k / 46656 % 36 ≡ c = omega arith in
    let kd : k / 1296 % 36 ≡ d = omega arith in
    let ke : k / 36 % 36 ≡ e = omega arith in
    let kf : k % 36 ≡ f = omega arith in
    rw (ka, kb, kc, kd, ke, kf)

-- Six right characters: their number is at most the highest, and they are the characters of it.
pub record Counted (l : List ℕ) : Type 0 where
  pub back : label_of (number_of l) ≡ l
  pub low : 1 ≤ number_of l
  pub high : number_of l ≤ highest_number

pub counted : (l : List ℕ) → length l ≡ 6 → first_wrong 0 l ≡ None → Counted l
counted [] h r = absurd (omega arith)
counted (u ∷ []) h r = absurd (omega arith)
counted (u ∷ v ∷ []) h r = absurd (omega arith)
counted (u ∷ v ∷ w ∷ []) h r = absurd (omega arith)
counted (u ∷ v ∷ w ∷ x ∷ []) h r = absurd (omega arith)
counted (u ∷ v ∷ w ∷ x ∷ y ∷ []) h r = absurd (omega arith)
counted (u ∷ v ∷ w ∷ x ∷ y ∷ z ∷ q ∷ p) h r = absurd (omega arith)
counted (u ∷ v ∷ w ∷ x ∷ y ∷ z ∷ []) h r =
    let l : List ℕ = u ∷ v ∷ w ∷ x ∷ y ∷ z ∷ [] in
    let ru : right u ≡ true = right_at_holds 0 l 0 r (omega arith) in
    let rv : right v ≡ true = right_at_holds 0 l 1 r (omega arith) in
    let rw' : right w ≡ true = right_at_holds 0 l 2 r (omega arith) in
    let rx : right x ≡ true = right_at_holds 0 l 3 r (omega arith) in
    let ry : right y ≡ true = right_at_holds 0 l 4 r (omega arith) in
    let rz : right z ≡ true = right_at_holds 0 l 5 r (omega arith) in
    let n : number_of l - 1 ≡ ((((digit_of u * 36 + digit_of v) * 36 + digit_of w) * 36 + digit_of x) * 36 + digit_of y) * 36 + digit_of z = omega arith in
    record {
      back = ap characters_of n
          ∙ six_digits (digit_of u) (digit_of v) (digit_of w) (digit_of x) (digit_of y) (digit_of z) (digit_bound v rv) (digit_bound w rw') (digit_bound x rx) (digit_bound y ry) (digit_bound z rz)
          ∙ rw (character_digit u ru, character_digit v rv, character_digit w rw', character_digit x rx, character_digit y ry, character_digit z rz);
      low = omega arith;
      high = sums (digit_of u) (digit_of v) (digit_of w) (digit_of x) (digit_of y) (digit_of z)
          (digit_bound u ru) (digit_bound v rv) (digit_bound w rw') (digit_bound x rx) (digit_bound y ry) (digit_bound z rz);
    }
  where
    sums : (a b c d e f : ℕ) → a < 36 → b < 36 → c < 36 → d < 36 → e < 36 → f < 36
        → 1 + ((((((0 * 36 + a) * 36 + b) * 36 + c) * 36 + d) * 36 + e) * 36 + f) ≤ 2176782336
    sums a b c d e f ha hb hc hd he hf = omega arith
