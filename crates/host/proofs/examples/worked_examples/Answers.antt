use Rattle.std.proofs.Common.{refl}
use Rattle.responses.specs.Writing.{bytes_of}
use Rattle.host.proofs.examples.worked_examples.Goals as goal

pub returns : goal.returns
unfolding bytes_of
returns c =
    record {
      numbers = c.worked_numbers.ensures;
      packets = c.worked_packets.ensures;
      less = refl;
      more = refl;
      empty = refl;
      unnumbered = refl;
    }
