use Rattle.std.proofs.Common.{sym, ap, ◌∙◌}
use Rattle.tag_frame.specs.declared.table.Table.{Table}
use Rattle.tag_frame.specs.Tables.{table_held}
use Rattle.tag_frame.proofs.Filling.{filled_none, filled_with, filled_without, filled_empty, filled_all}
use Rattle.tag_frame.proofs.table.Table.of_places.Goals as goal
use Rattle.tag_frame.proofs.table.Table.of_places.Goals.{then-number-ne0, else-number-ne0}

pub loop-p-init : goal.loop-p-init
loop-p-init c =
    let w = c.in_ok-table.ensures in
    (w.0, w.1 ∙ sym (filled_none c.args.places.now))

pub add-table-requires-clause-empty : goal.add-table-requires-clause-empty
add-table-requires-clause-empty c = filled_empty c.args.places.now c.loop-p.p (table_held c.loop-p.table) c.loop-p.invariant.1

pub loop-p-preserved : goal.loop-p-preserved
loop-p-preserved c =
    let xs = c.args.places.now in
    elim c.if-number-ne0.branch [
      | then-number-ne0 w ↦ (
        ap (λ (t : Table). t.count) w.table-is ∙ w.add-table.ensures.count ∙ c.loop-p.invariant.0,
        ap (λ (t : Table). table_held t) w.table-is ∙ filled_with xs c.loop-p.p _ (table_held c.loop-p.table) (table_held w.add-table.result) c.loop-p.invariant.1 w.add-table.ensures.held,
      )
      | else-number-ne0 w ↦ (
        ap (λ (t : Table). t.count) w.table-is ∙ c.loop-p.invariant.0,
        ap (λ (t : Table). table_held t) w.table-is ∙ filled_without xs c.loop-p.p _ (table_held c.loop-p.table) c.loop-p.invariant.1 w.if-number-ne0.false,
      )
    ]

pub returns : goal.returns
returns c = (c.loop-p.invariant.0, c.loop-p.invariant.1 ∙ filled_all c.args.places.now c.loop-p.p c.loop-p-test.false)
