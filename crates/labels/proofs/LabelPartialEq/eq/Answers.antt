use Rattle.std.proofs.Common.{ap}
use Rattle.std.proofs.lemmas.Slice.Eq.{slice_eq-Decides}
use Rattle.labels.specs.declared.Label.{Label}
use Rattle.labels.proofs.Same.{same_label}
use Rattle.labels.proofs.LabelPartialEq.eq.Goals as goal
use Rattle.std.proofs.lemmas.Bool.Decides.{Decides-eqb}

pub returns-clause-decides : goal.returns-clause-decides
returns-clause-decides c =
    let d = slice_eq-Decides Decides-eqb c.args.self.now.chars c.args.other.now.chars c.eq.result c.eq.ensures in
    (λ e. same_label c.args.self.now c.args.other.now (d.0 e), λ e. d.1 (ap (λ (l : Label). l.chars) e))
