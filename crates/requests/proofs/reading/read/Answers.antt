use Rattle.std.proofs.Common.{◌≡◌, rules}
use Rattle.byte_fields.proofs.Forth.{bytes_all}
use Rattle.requests.specs.Reading.{request_in}
use Rattle.requests.proofs.Forth.{reads_forth}
use Rattle.requests.proofs.Lengths.{length_told}
use Rattle.requests.proofs.reading.read.Goals as goal

pub returns : goal.returns
returns c =
    let a : c.answer.result ≡ request_in c.args.packet.now = search rules in
    record {
      answer = a;
      writes = reads_forth c.args.packet.now c.answer.result (bytes_all c.args.packet.now (λ i. (c.type_inv.packet i).fits)) a;
      lengths = length_told c.args.packet.now c.answer.result a;
    }
