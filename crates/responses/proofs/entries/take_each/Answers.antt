use Rattle.std.proofs.Common.{rules, ◌≡◌, ◌-◌, ◌<◌, ◌≤◌, length, Some, sym, ◌∙◌, arith}
use Rattle.responses.specs.Reading.{entry_off}
use Rattle.responses.proofs.Taking.{prefixed_none, each_turn, each_end}
use Rattle.responses.proofs.entries.take_each.Goals as goal

pub loop-slot-init : goal.loop-slot-init
loop-slot-init c = let z : length c.args.entries.now - 0 ≡ length c.args.entries.now = omega arith in rw z (prefixed_none _)

pub loop-slot-preserved : goal.loop-slot-preserved
loop-slot-preserved c =
    let e : Some (c.in_ok-slot.field-0-0, c.in_ok-slot.field-0-1.now) ≡ entry_off c.loop-slot.rest.now = search rules in
    let l : c.loop-slot.slot-index < length c.args.entries.now = search rules in
    let k : length c.loop-slot.entries ≡ length c.args.entries.now = search rules in
    c.loop-slot.invariant ∙ each_turn (length c.args.entries.now) c.loop-slot.slot-index _ _ c.loop-slot.entries _ l (omega arith) e

pub returns : goal.returns
returns c =
    let l : length c.args.entries.now ≤ c.loop-slot.slot-index = search rules in
    let k : length c.loop-slot.entries ≡ length c.args.entries.now = search rules in
    sym (c.loop-slot.invariant ∙ each_end (length c.args.entries.now) c.loop-slot.slot-index _ c.loop-slot.entries l k)
