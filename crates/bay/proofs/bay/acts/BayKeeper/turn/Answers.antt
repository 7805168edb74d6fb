use Rattle.bay.specs.Stored.{turned, turned_numbered}
use Rattle.bay.proofs.bay.acts.BayKeeper.turn.Goals as goal

pub invariant_of-self-clause-numbered : goal.invariant_of-self-clause-numbered
invariant_of-self-clause-numbered c = turned_numbered c.args.self.now.places.items c.args.p c.index_mut.result.now c.args.on c.index_mut.ensures.value c.args.self.now.numbered

pub returns : goal.returns
returns c = turned c.args.self.now.places.items c.args.p c.index_mut.result.now c.args.on c.args.self.now.hand c.index_mut.ensures.value
