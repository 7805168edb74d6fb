use Rattle.std.proofs.Common.{◌≡◌, drop}
use Rattle.labels.specs.Characters.{first_wrong}
use Rattle.labels.proofs.characters.first_wrong.Given as goal

abbrev pub invariant-loop-i : goal.invariant-loop-i
invariant-loop-i l = first_wrong 0 l.chars ≡ first_wrong l.i (drop l.i l.chars)
