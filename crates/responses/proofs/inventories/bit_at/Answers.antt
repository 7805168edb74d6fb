use Rattle.responses.proofs.Taking.{bit_place}
use Rattle.responses.proofs.inventories.bit_at.Goals as goal

pub returns : goal.returns
returns c = bit_place c.args.map.now c.args.place c.requires
