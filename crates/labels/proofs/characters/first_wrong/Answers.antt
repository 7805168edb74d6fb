use Rattle.std.proofs.Common.{sym, ◌∙◌, rules}
use Rattle.labels.proofs.Wrongs.{past, here, none_left}
use Rattle.labels.proofs.characters.first_wrong.Goals as goal

pub returns-then-not-is_right : goal.returns-then-not-is_right
returns-then-not-is_right c =
    sym (c.loop-i.invariant ∙ here c.args.chars.now c.loop-i.i (search rules) (sym c.is_right.ensures ∙ c.if-not-is_right.true))

pub loop-i-preserved : goal.loop-i-preserved
loop-i-preserved c = c.loop-i.invariant ∙ past c.args.chars.now c.loop-i.i (search rules) (sym c.is_right.ensures ∙ c.if-not-is_right.false)

pub returns : goal.returns
returns c = sym (c.loop-i.invariant ∙ none_left c.args.chars.now c.loop-i.i (search rules))
