-- Labels, their cartridge numbers, and the six bytes that stand for a cartridge.
use Rattle.std.specs.Prelude.{◌≡◌, ℕ, Bool, false, cond, not, List, [], ◌∷◌, is_some, Some, None, Ok, Err, Option, Result, nat_le, refl, MatchResult, ok_or}
use Rattle.std.proofs.Common.{ap}
use Rattle.std.specs.Str.{bytes_eq}
use Rattle.labels.specs.declared.Label.{Label}
use Rattle.labels.specs.declared.WrongCharacter.{WrongCharacter}
use Rattle.labels.specs.declared.NoLabel.{NoLabel}
use Rattle.labels.specs.Characters.{first_wrong}
use Rattle.labels.specs.Numbers.{number_of, label_of, highest_number, unreadable_number}

-- The label of the characters, or where the first wrong one stands.
abbrev pub labelled_by : (wrong : Option ℕ) (l : List ℕ) → first_wrong 0 l ≡ wrong → Result Label WrongCharacter
labelled_by None l e = Ok (record { chars = l; right = ap (λ (o : Option ℕ). not (is_some o)) e })
labelled_by (Some i) l e = Err (record { index = i })

abbrev pub labelled : List ℕ → Result Label WrongCharacter
labelled l = labelled_by (first_wrong 0 l) l refl

-- The label, where there is one.
abbrev pub label_in : Result Label WrongCharacter → Option Label
label_in (Ok l) = Some l
label_in (Err e) = None

-- Whether a label has the number n.
abbrev pub is_label_number : ℕ → Bool
is_label_number n = cond (nat_le 1 n) (nat_le n highest_number) false

-- The label with the number n, if one has it.
unfoldable pub numbered : ℕ → Option Label
numbered n = cond (is_label_number n) (label_in (labelled (label_of n))) None

-- The same, with the number where no label has it.
abbrev pub label_named : ℕ → Result Label NoLabel
label_named n = ok_or (numbered n) (record { number = n })

-- A read label has the number; a number that is not read is no label's.
pub record LabelRead (n : ℕ) (read : Result Label NoLabel) : Type 0 where
  pub is : read ≡ label_named n
  pub back : MatchResult read (λ l. number_of l.chars ≡ n) (λ _. is_label_number n ≡ false)

-- Six question marks.
abbrev pub question_marks : List ℕ
question_marks = 63 ∷ 63 ∷ 63 ∷ 63 ∷ 63 ∷ 63 ∷ []

-- The characters of a label, question marks where there is none.
abbrev pub characters_or_marks : Option Label → List ℕ
characters_or_marks None = question_marks
characters_or_marks (Some l) = l.chars

-- The six bytes that stand for the cartridge with the number n.
unfoldable pub six_for : ℕ → List ℕ
six_for n = characters_or_marks (numbered n)

-- The number of the cartridge that six bytes stand for: a label's own, or that of an unreadable one for question marks.
abbrev pub number_by : Option ℕ → List ℕ → Option ℕ
number_by None l = Some (number_of l)
number_by (Some i) l = cond (bytes_eq l question_marks) (Some unreadable_number) None

unfoldable pub number_of_six : List ℕ → Option ℕ
number_of_six l = number_by (first_wrong 0 l) l

-- Whether n is a cartridge's number.
abbrev pub is_cartridge_number : ℕ → Bool
is_cartridge_number n = cond (nat_le 1 n) (nat_le n unreadable_number) false
