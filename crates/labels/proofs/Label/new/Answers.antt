use Rattle.std.proofs.Common.{refl}
use Rattle.labels.proofs.Same.{labelled_is}
use Rattle.labels.proofs.Label.new.Goals as goal

pub returns-in-None : goal.returns-in-None
returns-in-None c = labelled_is (record { chars = c.args.chars; right = _ }) c.args.chars refl
