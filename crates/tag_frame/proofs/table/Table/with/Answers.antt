use Rattle.std.proofs.Common.{ap, ◌∙◌, arith}
use Rattle.tag_frame.specs.Tags.{tidy, held_of}
use Rattle.tag_frame.specs.Tagged.{room_left, retagged_held, retagged_tidy}
use Rattle.tag_frame.proofs.table.Table.with.Goals as goal

pub retag-requires : goal.retag-requires
retag-requires c =
    let t = c.args.self in
    omega (arith, t.room, room_left t.count c.args.p t.tags.items t.distinct c.requires.within)

pub invariant_of-result-clause-distinct : goal.invariant_of-result-clause-distinct
invariant_of-result-clause-distinct c =
    let t = c.args.self in
    ap (tidy t.count) c.retag.ensures.items ∙ retagged_tidy t.count c.args.p c.args.number t.tags.items t.distinct c.requires.within c.requires.numbered

pub returns-clause-held : goal.returns-clause-held
returns-clause-held c =
    let t = c.args.self in
    ap (held_of t.count) c.retag.ensures.items ∙ retagged_held t.count c.args.p c.args.number t.tags.items
