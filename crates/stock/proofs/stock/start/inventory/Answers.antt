use Rattle.std.proofs.Common.{rules}
use Rattle.stock.proofs.Inventories.{all_shown}
use Rattle.stock.proofs.stock.start.inventory.Goals as goal

pub returns : goal.returns
returns g c = all_shown _ (g.Q.Questions.meaning c.args.robot.now) _ (λ i y q k. search rules) c.from_fn.result c.from_fn.ensures.items
