use Rattle.std.proofs.Common.{arith}
use Rattle.library.specs.Entering.{rows_more}
use Rattle.library.proofs.entries.Entries.with.Goals as goal

pub invariant_of-result-2 : goal.invariant_of-result-2
invariant_of-result-2 c = rows_more c.self.inside.rows c.self.inside.count c.args.entry c.self.invariant (omega (arith, c.if-count-ge-MOST_ENTRIES.false))
