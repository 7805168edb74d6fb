use Rattle.std.proofs.Common.{refl}
use Rattle.tag_frame.specs.Tagged.{none_held}
use Rattle.tag_frame.proofs.table.Table.empty.Goals as goal

pub returns : goal.returns
returns c = (refl, none_held c.args.count c.in_ok-tags.tags.items c.in_ok-tags.ensures.items)
