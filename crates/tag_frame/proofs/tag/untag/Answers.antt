use Rattle.std.proofs.Common.{rules, not, eqb}
use Rattle.std.proofs.lemmas.Fn.{filter_same}
use Rattle.tag_frame.proofs.tag.untag.Goals as goal

pub returns-clause-items : goal.returns-clause-items
returns-clause-items c = filter_same _ (λ t. not (eqb t.place c.args.p)) _ (λ t b f' k. search rules) _ _ c.retain.ensures.filtered
