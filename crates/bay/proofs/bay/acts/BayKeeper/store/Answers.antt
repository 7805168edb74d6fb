use Rattle.bay.specs.Stored.{stored, still_numbered}
use Rattle.bay.proofs.bay.acts.BayKeeper.store.Goals as goal

pub invariant_of-self-clause-numbered : goal.invariant_of-self-clause-numbered
invariant_of-self-clause-numbered c = still_numbered c.args.self.now.places.items c.args.p _ c.args.self.now.numbered c.requires.numbered

pub returns : goal.returns
returns c = stored c.args.self.now.places.items c.args.p c.index_mut.result.now c.args.number c.args.self.now.hand c.args.hand c.index_mut.ensures.value
