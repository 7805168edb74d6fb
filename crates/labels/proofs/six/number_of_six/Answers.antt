use Rattle.std.proofs.Common.{◌≡◌, Bool, cond, length, Some, None, sym, ap, ◌∙◌, rules}
use Rattle.std.proofs.lemmas.Slice.Eq.{slice_eq-Decides}
use Rattle.labels.specs.Numbers.{number_of, unreadable_number}
use Rattle.labels.specs.Labels.{question_marks, number_of_six}
use Rattle.labels.proofs.Same.{made_of_holds, wrong_of}
use Rattle.labels.proofs.Sixes.{right_number, other_number, six_forth}
use Rattle.labels.proofs.six.number_of_six.Goals as goal
use Rattle.std.proofs.lemmas.Bool.Decides.{Decides-eqb}

pub returns-in-Ok : goal.returns-in-Ok
returns-in-Ok c =
    let m = made_of_holds c.args.six c.in-Ok.label c.in-Ok.ensures in
    let i : Some c.number.result ≡ number_of_six c.args.six = right_number c.args.six c.number.result m.1 (c.number.ensures.is ∙ ap number_of m.0) in
    let six : length c.args.six ≡ 6 = search rules in
    record { is = i; back = (six_forth c.args.six c.number.result six (sym i)).0 }

pub returns-then-eq : goal.returns-then-eq
returns-then-eq c =
    let w = wrong_of c.args.six c.in-Err.field-0 c.in-Err.ensures in
    let o = other_number c.args.six c.in-Err.field-0.index c.eq.result w (slice_eq-Decides Decides-eqb c.args.six question_marks c.eq.result c.eq.ensures) in
    let i : Some unreadable_number ≡ number_of_six c.args.six = ap (λ (b : Bool). cond b (Some unreadable_number) None) (sym c.if-eq.true) ∙ o in
    let six : length c.args.six ≡ 6 = search rules in
    record { is = i; back = (six_forth c.args.six unreadable_number six (sym i)).0 }

pub returns-else-eq : goal.returns-else-eq
returns-else-eq c =
    let w = wrong_of c.args.six c.in-Err.field-0 c.in-Err.ensures in
    let o = other_number c.args.six c.in-Err.field-0.index c.eq.result w (slice_eq-Decides Decides-eqb c.args.six question_marks c.eq.result c.eq.ensures) in
    record { is = ap (λ (b : Bool). cond b (Some unreadable_number) None) (sym c.if-eq.false) ∙ o; back = tt }
