use Rattle.std.proofs.Common.{◌≡◌, ap, ◌∙◌}
use Rattle.std.specs.Result.{result_ok}
use Rattle.labels.specs.Labels.{characters_or_marks, numbered, six_for, number_of_six}
use Rattle.labels.proofs.Same.{label_told}
use Rattle.labels.proofs.Sixes.{six_back, cartridge_range}
use Rattle.labels.proofs.six.six_for.Goals as goal

pub returns : goal.returns
unfolding six_for
returns c =
    let n = c.args.number in
    let l : c.ok.result ≡ numbered n = c.ok.ensures.value ∙ ap result_ok c.try_from.ensures.is ∙ label_told (record { number = n }) (numbered n) in
    let i : c.characters_of.result ≡ six_for n = c.characters_of.ensures ∙ ap characters_or_marks l in
    record { is = i; back = λ h. ap number_of_six i ∙ six_back n (cartridge_range n h).0 (cartridge_range n h).1 }
