-- What places a robot can be made from.
use Rattle.std.proofs.Common.{◌≡◌, ℕ, zero, suc, ◌≤◌, true, List, [], ◌∷◌, map, length, get_or, Some, None, Ok, Option, refl, arith}
use Rattle.labels.specs.Numbers.{unreadable_number}
use Rattle.std.proofs.lemmas.Bool.Decides.{nat_tests}
use Rattle.robots.specs.declared.place.Place.{Place}
use Rattle.robots.specs.declared.making.Unmade.{Unmade}
use Rattle.robots.specs.Making.{numbers_fit, making_refusal, or_unmade, place_cartridge}

-- What is known where nothing stands against making a robot.
pub numbers_within : (xs : List Place) → numbers_fit xs ≡ true → (p : ℕ) → get_or (map place_cartridge xs) p 0 ≤ unreadable_number
numbers_within [] e p = omega arith
numbers_within (x ∷ xs) e zero = grind (arith, nat_tests)
numbers_within (x ∷ xs) e (suc p) = numbers_within xs (grind (arith, nat_tests)) p

pub record Allows (xs : List Place) (hand : ℕ) : Type 0 where
  pub few : length xs ≤ 256
  pub hand_number : hand ≤ unreadable_number
  pub numbers : numbers_fit xs ≡ true

allows : (xs : List Place) (hand : ℕ) → making_refusal xs hand ≡ None → Allows xs hand
allows xs hand e = record { few = grind (arith, nat_tests); hand_number = grind (arith, nat_tests); numbers = grind (arith, nat_tests) }

none_left : (o : Option Unmade) (u : Unit {0}) → Ok u ≡ or_unmade o → o ≡ None
none_left None u e = refl
none_left (Some why) u e = cc

pub passed : (xs : List Place) (hand : ℕ) (u : Unit {0}) → Ok u ≡ or_unmade (making_refusal xs hand) → Allows xs hand
passed xs hand u e = allows xs hand (none_left (making_refusal xs hand) u e)
