use Rattle.std.proofs.Common.{sym, ap, ◌∙◌, rules}
use Rattle.labels.specs.Labels.{numbered}
use Rattle.labels.proofs.Wrongs.{none_wrong, right_at_holds}
use Rattle.labels.proofs.Digits.{six_value, counted}
use Rattle.labels.proofs.Same.{in_range, numbered_is}
use Rattle.labels.proofs.Label.number.Goals as goal

pub digit-k-requires : goal.digit-k-requires
digit-k-requires c = right_at_holds 0 c.args.self.now.chars 0 (none_wrong c.args.self.now.chars c.args.self.now.right) (search rules)

pub digit-requires : goal.digit-requires
digit-requires c = right_at_holds 0 c.args.self.now.chars 1 (none_wrong c.args.self.now.chars c.args.self.now.right) (search rules)

pub digit-requires-2 : goal.digit-requires-2
digit-requires-2 c = right_at_holds 0 c.args.self.now.chars 2 (none_wrong c.args.self.now.chars c.args.self.now.right) (search rules)

pub digit-requires-3 : goal.digit-requires-3
digit-requires-3 c = right_at_holds 0 c.args.self.now.chars 3 (none_wrong c.args.self.now.chars c.args.self.now.right) (search rules)

pub digit-requires-4 : goal.digit-requires-4
digit-requires-4 c = right_at_holds 0 c.args.self.now.chars 4 (none_wrong c.args.self.now.chars c.args.self.now.right) (search rules)

pub digit-requires-5 : goal.digit-requires-5
digit-requires-5 c = right_at_holds 0 c.args.self.now.chars 5 (none_wrong c.args.self.now.chars c.args.self.now.right) (search rules)

pub returns : goal.returns
returns c =
    let l = c.args.self.now in
    let n = six_value l.chars _ _ _ _ _ _ (search rules) c.digit-k.ensures.is c.digit.ensures.is c.digit-2.ensures.is
    c.digit-3.ensures.is c.digit-4.ensures.is c.digit-5.ensures.is in
    let k = counted l.chars (search rules) (none_wrong l.chars l.right) in
    record { is = n; back = ap numbered n ∙ sym (numbered_is l _ (in_range _ k.low k.high) (sym k.back)) }
