use Rattle.std.proofs.Common.{refl}
use Rattle.labels.specs.Labels.{numbered, six_for, number_of_six}
use Rattle.responses.specs.Inventories.{map_bytes}
use Rattle.responses.specs.Writing.{bytes_of}
use Rattle.responses.specs.Reading.{response_in, bits_of}
use Rattle.responses.proofs.examples.worked_responses.Goals as goal

pub returns : goal.returns
unfolding numbered six_for number_of_six map_bytes bytes_of response_in bits_of
returns c = record { empty = refl; taken = refl; started = refl; entered = refl; read = refl; cut = refl; long = refl }
