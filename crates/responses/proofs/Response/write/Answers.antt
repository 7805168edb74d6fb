use Rattle.std.proofs.Common.{length, sym}
use Rattle.responses.specs.Responses.{told}
use Rattle.responses.proofs.Joining.{writable}
use Rattle.responses.proofs.Back.{reads_back}
use Rattle.responses.proofs.Response.write.Goals as goal

pub returns-clause-reads : goal.returns-clause-reads
returns-clause-reads c =
    let t = told c.args.self.now in
    let w = writable (length c.args.buffer.now) t (sym c.in_ok-check.ensures) in
    reads_back t c.args.buffer.now c.put.new.buffer c.put.result w.entries w.places c.put.ensures.after c.put.ensures.end
