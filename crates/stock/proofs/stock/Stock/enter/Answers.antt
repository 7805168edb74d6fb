use Rattle.std.proofs.Common.{◌≡◌, sym, ap, ◌∙◌, subst}
use Rattle.stock.specs.Holding.{held_in}
use Rattle.stock.specs.Models.{Stocked}
use Rattle.stock.specs.Moves.{Entered}
use Rattle.stock.proofs.Enters.{readable_entered}
use Rattle.stock.proofs.stock.Stock.enter.Goals as goal

pub returns : goal.returns
returns g c =
    let h = c.held-number.ensures ∙ ap (λ (s : Stocked). held_in s.robot c.args.p) c.self.view_is in
    let e = readable_entered c.args.self.now c.args.p c.held-number.result h c.if-number.false in
    record {
      answer = subst (λ (z : Entered). c.enter_readable.result ≡ z.entry) (sym e) c.enter_readable.ensures.answer;
      after = subst (λ (z : Entered). c.enter_readable.new.self ≡ z.stock) (sym e) c.enter_readable.ensures.after;
    }
