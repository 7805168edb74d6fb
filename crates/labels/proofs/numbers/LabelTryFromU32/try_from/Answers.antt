use Rattle.std.proofs.Common.{◌≡◌, ◌+◌, ◌-◌, true, false, [], ◌∷◌, Option, sym, ap, ◌∙◌, arith, rules}
use Rattle.std.specs.Prelude.{ok_or}
use Rattle.labels.specs.declared.Label.{Label}
use Rattle.labels.specs.Numbers.{number_of, label_of}
use Rattle.labels.specs.Labels.{is_label_number}
use Rattle.labels.proofs.Digits.{number_back}
use Rattle.labels.proofs.Same.{label_range, numbered_is, numbered_none}
use Rattle.labels.proofs.numbers.LabelTryFromU32.try_from.Goals as goal

pub returns-then-not-is_label_number : goal.returns-then-not-is_label_number
returns-then-not-is_label_number c =
    let n = c.args.number in
    let b : is_label_number n ≡ false = sym c.is_label_number.ensures ∙ c.if-not-is_label_number.true in
    record { is = ap (λ (o : Option Label). ok_or o (record { number = n })) (numbered_none n b); back = b }

pub returns : goal.returns
returns c =
    let n = c.args.number in
    let b : is_label_number n ≡ true = sym c.is_label_number.ensures ∙ c.if-not-is_label_number.false in
    let h = label_range n b in
    let k : 1 + (n - 1) ≡ n = omega (arith, h.0) in
    let i : c.character.result ∷ c.character-2.result ∷ c.character-3.result ∷ c.character-4.result ∷ c.character-5.result ∷ c.character-6.result ∷ [] ≡ label_of n = search rules in
    record { is = ap (λ (o : Option Label). ok_or o (record { number = n })) (numbered_is (record { chars = _; right = _ }) n b i); back = ap number_of i ∙ number_back (n - 1) (omega (arith, h.0, h.1)) ∙ k }
