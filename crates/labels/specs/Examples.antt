-- Worked label numbers.
use Rattle.std.specs.Prelude.{◌≡◌, codes}
use Rattle.labels.specs.Numbers.{number_of}

pub record WorkedNumbers : Type 0 where
  pub first : number_of (codes "000000") ≡ 1
  pub ten : number_of (codes "000010") ≡ 37
  pub last : number_of (codes "ZZZZZZ") ≡ 2176782336
