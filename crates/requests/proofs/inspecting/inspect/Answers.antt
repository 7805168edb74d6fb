use Rattle.byte_fields.proofs.Forth.{bytes_all}
use Rattle.requests.proofs.Outlines.{stands_exact, told_alike}
use Rattle.requests.proofs.inspecting.inspect.Goals as goal

pub pass-requires : goal.pass-requires
pass-requires c = stands_exact c.args.packet.now c.take_fields-taken.result (bytes_all c.args.packet.now (λ i. (c.type_inv.packet i).fits)) c.take_fields-taken.ensures

pub returns : goal.returns
returns c = told_alike c.args.packet.now c.take_fields-taken.result c.pass.result c.take_fields-taken.ensures c.pass.ensures
