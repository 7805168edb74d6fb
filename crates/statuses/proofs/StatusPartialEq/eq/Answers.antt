use Rattle.std.proofs.Common.{sym, ap, ◌∙◌, eq-eqb, eqb-true}
use Rattle.statuses.specs.Statuses.{status_number}
use Rattle.statuses.proofs.Numbers.{same_status}
use Rattle.statuses.proofs.StatusPartialEq.eq.Goals as goal

pub returns-clause-decides : goal.returns-clause-decides
returns-clause-decides c = (
  λ e. same_status c.args.self.now c.args.other.now (sym c.from.ensures ∙ eqb-true c.from.result c.from-2.result e ∙ c.from-2.ensures),
  λ e. eq-eqb c.from.result c.from-2.result (c.from.ensures ∙ ap status_number e ∙ sym c.from-2.ensures),
)
