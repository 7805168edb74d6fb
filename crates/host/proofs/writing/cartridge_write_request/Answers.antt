use Rattle.std.proofs.Common.{ap, ◌∙◌}
use Rattle.host.specs.Writing.{told_of, values_of}
use Rattle.host.proofs.Passing.{passes}
use Rattle.host.proofs.writing.cartridge_write_request.Goals as goal

pub returns : goal.returns
returns c =
    let v = values_of c.args.number c.args.command c.args.option c.args.label.now c.args.place c.args.target c.args.drive_state in
    record {
      answer = c.tell.ensures ∙ ap told_of c.write.ensures.answer;
      after = c.write.ensures.after;
      passes = passes c.write.result c.tell.result c.write.new.buffer c.args.map v c.tell.ensures c.write.ensures.reads;
    }
