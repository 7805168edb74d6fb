-- What a stock is: what its robot means, and what is filed.
use Rattle.std.specs.Prelude.{List}
use Rattle.robots.specs.Meaning.{Meaning}
use Rattle.stock.specs.declared.catalogue.Filed.{Filed}

pub record Stocked : Type 0 where
  pub robot : Meaning
  pub filed : List Filed
