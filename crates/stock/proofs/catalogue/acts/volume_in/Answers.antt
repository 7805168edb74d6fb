use Rattle.std.proofs.Common.{sym, ◌∙◌}
use Rattle.stock.specs.Filing.{no_row}
use Rattle.stock.proofs.Rows.{none_found, first_found}
use Rattle.stock.proofs.catalogue.acts.volume_in.Goals as goal

pub returns-in_err-index : goal.returns-in_err-index
returns-in_err-index c = c.from_residual.ensures ∙ sym (none_found c.args.rows.now c.args.number (sym c.first_row.ensures.value ∙ c.in_err-index.was))

pub returns-then-any_from : goal.returns-then-any_from
returns-then-any_from c =
    let e = first_found c.args.rows.now c.args.number c.in_ok-index.index no_row _ (sym c.first_row.ensures.value ∙ c.in_ok-index.was) c.any_from.ensures in
    sym (rw c.if-any_from.true at e)

pub returns : goal.returns
returns c =
    let e = first_found c.args.rows.now c.args.number c.in_ok-index.index no_row _ (sym c.first_row.ensures.value ∙ c.in_ok-index.was) c.any_from.ensures in
    sym (rw c.if-any_from.false at e)
