-- Six bytes that stand for a cartridge, and its number.
use Rattle.std.proofs.Common.{◌≡◌, ℕ, ◌+◌, ◌-◌, ◌<◌, ◌≤◌, Bool, true, false, cond, leb, List, length, Some, None, Decides, Option, sym, refl, ap, ◌∙◌, inr, arith, leb-false, leb-true}
use Rattle.std.proofs.lemmas.Bool.Decides.{nat_tests}
use Rattle.std.proofs.lemmas.Slice.Eq.{bytes_eq-Decides}
use Rattle.std.specs.Str.{bytes_eq}
use Rattle.labels.specs.declared.Label.{Label}
use Rattle.labels.specs.Characters.{first_wrong}
use Rattle.labels.specs.Numbers.{number_of, label_of, highest_number, unreadable_number}
use Rattle.labels.specs.Labels.{is_label_number, is_cartridge_number, question_marks, characters_or_marks, six_for, number_by, number_of_six}
use Rattle.labels.proofs.Wrongs.{some_none, all_right_holds}
use Rattle.labels.proofs.Same.{in_range, label_range, out_of_range, numbered_is, numbered_none}
use Rattle.labels.proofs.Digits.{number_back, characters_right, counted}

-- A label's number gives its characters, every other number question marks.
pub six_in : (n : ℕ) → is_label_number n ≡ true → label_of n ≡ six_for n
unfolding six_for
six_in n b =
    let r = label_range n b in
    let s : n - 1 < highest_number = omega (arith, r.0, r.1) in
    let l : Label = record { chars = label_of n; right = all_right_holds (label_of n) (characters_right (n - 1) s) } in
    ap characters_or_marks (numbered_is l n b refl)

pub six_out : (n : ℕ) → is_label_number n ≡ false → question_marks ≡ six_for n
unfolding six_for
six_out n b = ap characters_or_marks (numbered_none n b)

-- They are six.
pub length_six : (n : ℕ) → length (six_for n) ≡ 6
length_six n = go (is_label_number n) refl
  where
    go : (b : Bool) → is_label_number n ≡ b → length (six_for n) ≡ 6
    go true e = ap (λ (l : List ℕ). length l) (sym (six_in n e))
    go false e = ap (λ (l : List ℕ). length l) (sym (six_out n e))

-- Right characters stand for the label's number.
pub right_number : (l : List ℕ) (n : ℕ) → first_wrong 0 l ≡ None → n ≡ number_of l → Some n ≡ number_of_six l
unfolding number_of_six
right_number l n r e = rw (r, e)

same_from_decides : {P : Type 0} (r s : Bool) → Decides r P → Decides s P → r ≡ s
same_from_decides true s h k = sym (k.1 (h.0 refl))
same_from_decides false true h k = h.1 (k.0 refl)
same_from_decides false false h k = refl

-- Other characters stand for an unreadable cartridge if they are question marks.
pub other_number : (l : List ℕ) (i : ℕ) (r : Bool) → Some i ≡ first_wrong 0 l → Decides r (l ≡ question_marks) → cond r (Some unreadable_number) None ≡ number_of_six l
unfolding number_of_six
other_number l i r a d =
    let e : r ≡ bytes_eq l question_marks = same_from_decides r (bytes_eq l question_marks) d (bytes_eq-Decides l question_marks) in
    let s = sym a in
    rw (s, e)

marks_number : number_of_six question_marks ≡ Some unreadable_number
unfolding number_of_six
marks_number = refl

-- A cartridge's number is in its range.
pub cartridge_range : (n : ℕ) → is_cartridge_number n ≡ true → (1 ≤ n) × (n ≤ unreadable_number)
cartridge_range n h = (grind (arith, nat_tests), grind (arith, nat_tests))

-- The number that the bytes of a cartridge's number stand for is that number.
pub six_back : (n : ℕ) → 1 ≤ n → n ≤ unreadable_number → number_of_six (six_for n) ≡ Some n
six_back n h k = go (leb n highest_number) refl
  where
    go : (b : Bool) → leb n highest_number ≡ b → number_of_six (six_for n) ≡ Some n
    go true e =
        let l : n ≤ highest_number = leb-true n highest_number e in
        let s : n - 1 < highest_number = omega arith in
        let one : 1 + (n - 1) ≡ n = omega arith in
        ap number_of_six (sym (six_in n (in_range n h l))) ∙ sym (right_number (label_of n) n (characters_right (n - 1) s) (sym (number_back (n - 1) s ∙ one)))
    go false e =
        let l : highest_number < n = leb-false n highest_number e in
        let m : unreadable_number ≡ n = omega arith in
        ap number_of_six (sym (six_out n (out_of_range n (inr (h, l))))) ∙ marks_number ∙ ap (λ (j : ℕ). Some j) m

by_six : (l : List ℕ) (n : ℕ) (o : Option ℕ) (c : Bool) → length l ≡ 6 → first_wrong 0 l ≡ o → bytes_eq l question_marks ≡ c
    → number_by o l ≡ Some n → (six_for n ≡ l) × (1 ≤ n) × (n ≤ unreadable_number)
by_six l n None c h r m e =
    let p : n ≡ number_of l = cc in
    let k = counted l h r in
    let low : 1 ≤ n = omega arith in
    let high : n ≤ highest_number = omega arith in
    (sym (six_in n (in_range n low high)) ∙ ap label_of p ∙ k.back, low, omega arith)
by_six l n (Some i) true h r m e =
    let f : cond true (Some unreadable_number) None ≡ Some n = ap (λ (b : Bool). cond b (Some unreadable_number) None) (sym m) ∙ e in
    let p : n ≡ unreadable_number = cc in
    (sym (six_out n (out_of_range n (inr (omega arith, omega arith)))) ∙ sym ((bytes_eq-Decides l question_marks).0 m), omega arith, omega arith)
by_six l n (Some i) false h r m e =
    let f : cond false (Some unreadable_number) None ≡ Some n = ap (λ (b : Bool). cond b (Some unreadable_number) None) (sym m) ∙ e in
    absurd (some_none n (sym f))

-- Six bytes that stand for a cartridge are those of its number.
pub six_forth : (l : List ℕ) (n : ℕ) → length l ≡ 6 → number_of_six l ≡ Some n → (six_for n ≡ l) × (1 ≤ n) × (n ≤ unreadable_number)
unfolding number_of_six
six_forth l n h e = by_six l n (first_wrong 0 l) (bytes_eq l question_marks) h refl refl e
