-- A label is its characters.
use Rattle.std.proofs.Common.{◌≡◌, ℕ, ◌<◌, ◌≤◌, true, false, not, ◌⊎◌, List, is_some, Some, None, Ok, Err, Option, sym, refl, ap, ◌∙◌, inl, inr, arith}
use mathlib.Core.HLevel.{is_prop→PathP}
use base.Stored.{coded_bool}
use denote.Struct.Props.{≡_prop}
use Rattle.std.proofs.lemmas.Bool.Decides.{nat_tests}
use Rattle.labels.specs.declared.Label.{Label}
use Rattle.labels.specs.declared.WrongCharacter.{WrongCharacter}
use Rattle.labels.specs.Characters.{first_wrong, all_right}
use Rattle.labels.specs.Numbers.{label_of, highest_number}
use Rattle.std.specs.Prelude.{ok_or}
use Rattle.std.specs.Result.{result_ok}
use Rattle.labels.specs.declared.NoLabel.{NoLabel}
use Rattle.labels.specs.Labels.{labelled_by, labelled, is_label_number, numbered}
use Rattle.labels.proofs.Wrongs.{some_none, none_wrong}

-- Two labels with the same characters are the same.
pub same_label : (k l : Label) → k.chars ≡ l.chars → k ≡ l
same_label k l p = λ i. record { chars = p i; right = is_prop→PathP (λ j. all_right (p j) ≡ true) (λ j. ≡_prop coded_bool (all_right (p j)) true) k.right l.right i }

by_none : (l : Label) (cs : List ℕ) (o : Option ℕ) (e : first_wrong 0 cs ≡ o) → l.chars ≡ cs → Ok l ≡ labelled_by o cs e
by_none l cs None e p = ap (λ (x : Label). Ok x) (same_label l (record { chars = cs; right = _ }) p)
by_none l cs (Some i) e p = absurd (some_none i (sym e ∙ ap (first_wrong 0) (sym p) ∙ none_wrong l.chars l.right))

-- A label is what its characters make.
pub labelled_is : (l : Label) (cs : List ℕ) → l.chars ≡ cs → Ok l ≡ labelled cs
labelled_is l cs p = by_none l cs (first_wrong 0 cs) refl p

-- Whether a number is a label's.
pub in_range : (n : ℕ) → 1 ≤ n → n ≤ highest_number → is_label_number n ≡ true
in_range n h k = grind (arith, nat_tests)

pub label_range : (n : ℕ) → is_label_number n ≡ true → (1 ≤ n) × (n ≤ highest_number)
label_range n h = (grind (arith, nat_tests), grind (arith, nat_tests))

pub out_of_range : (n : ℕ) → (n < 1) ⊎ ((1 ≤ n) × (highest_number < n)) → is_label_number n ≡ false
out_of_range n (inl h) = grind (arith, nat_tests)
out_of_range n (inr h) = grind (arith, nat_tests)

-- A label whose characters are those of the number n is the label with the number n.
pub numbered_is : (l : Label) (n : ℕ) → is_label_number n ≡ true → l.chars ≡ label_of n → Some l ≡ numbered n
unfolding numbered
numbered_is l n b p = let e = labelled_is l (label_of n) p in rw (b, ← e)

-- A number out of range has none.
pub numbered_none : (n : ℕ) → is_label_number n ≡ false → None ≡ numbered n
unfolding numbered
numbered_none n b = rw b

made_by : (cs : List ℕ) (k : Label) (o : Option ℕ) (e : first_wrong 0 cs ≡ o) → Ok k ≡ labelled_by o cs e → (k.chars ≡ cs) × (first_wrong 0 cs ≡ None)
made_by cs k None e h = let p : k ≡ record { chars = cs; right = ap (λ (o : Option ℕ). not (is_some o)) e } = cc in (ap (λ (x : Label). x.chars) p, e)
made_by cs k (Some i) e h = let z : ◌≡◌ {A = ℕ} 0 1 = cc in absurd (omega arith)

-- The label that characters make has these characters, and none of them is wrong.
pub made_of_holds : (cs : List ℕ) (k : Label) → Ok k ≡ labelled cs → (k.chars ≡ cs) × (first_wrong 0 cs ≡ None)
made_of_holds cs k h = made_by cs k (first_wrong 0 cs) refl h

wrong_by : (cs : List ℕ) (w : WrongCharacter) (o : Option ℕ) (e : first_wrong 0 cs ≡ o) → Err w ≡ labelled_by o cs e → Some w.index ≡ first_wrong 0 cs
wrong_by cs w None e h = let z : ◌≡◌ {A = ℕ} 0 1 = cc in absurd (omega arith)
wrong_by cs w (Some i) e h = let p : w ≡ record { index = i } = cc in ap (λ (x : WrongCharacter). Some x.index) p ∙ sym e

-- The index told is that of the first wrong character.
pub wrong_of : (cs : List ℕ) (w : WrongCharacter) → Err w ≡ labelled cs → Some w.index ≡ first_wrong 0 cs
wrong_of cs w h = wrong_by cs w (first_wrong 0 cs) refl h

-- What a number is read as tells its label, if it has one.
pub label_told : (e : NoLabel) (o : Option Label) → result_ok (ok_or o e) ≡ o
label_told e None = refl
label_told e (Some l) = refl
