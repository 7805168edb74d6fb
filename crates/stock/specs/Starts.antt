-- What a start does to the robot and the catalogue.
use Rattle.std.specs.Prelude.{ℕ, ◌-◌, Bool, true, false, not, ◌&&◌, List, [], Ok, Err, Result, ◌==◌, nat_le}
use Rattle.robots.specs.Meaning.{Meaning, count}
use Rattle.robot_moves.specs.declared.movement.Stopped.{Stopped}
use Rattle.robot_moves.specs.declared.movement.Target.TheVariants.{NextCell}
use Rattle.robot_moves.specs.Movement.{Emptying, hand_emptied}
use Rattle.robot_moves.specs.Search.{port_count}
use Rattle.stock.specs.declared.catalogue.Filed.{Filed}
use Rattle.stock.specs.declared.refusal.Refusal.{Refusal}
use Rattle.stock.specs.declared.refusal.Refusal.TheVariants.{BadMakeUp}
use Rattle.stock.specs.Filing.{filed_more}
use Rattle.stock.specs.Holding.{readable, shown_at}
use Rattle.stock.specs.Models.{Stocked}
use Rattle.stock.specs.Moves.{why_stopped}

-- A make-up that a start accepts: 1 to 256 places, at most 21 of them port places.
abbrev pub fit : Meaning → Bool
fit m = not (count m == 0) && (nat_le (count m) 256 && nat_le (port_count m) 21)

-- What the taking step answers, and what it leaves.
pub record Begun : Type 0 where
  pub answer : Result (Unit {0}) Refusal
  pub stock : Stocked

-- What emptying the hand comes to.
abbrev pub cleared_as : Result (Unit {0}) Stopped → Meaning → Stocked → Begun
cleared_as (Ok x) m s = record { answer = Ok x; stock = record { robot = m; filed = s.filed } }
cleared_as (Err why) m s = record { answer = Err (why_stopped NextCell why); stock = record { robot = m; filed = s.filed } }

abbrev pub cleared_by : Emptying → Stocked → Begun
cleared_by e s = cleared_as e.answer e.robot s

-- A cartridge in the hand goes to the next free cell from the last place.
abbrev pub hand_cleared : Stocked → Begun
hand_cleared s = cleared_by (hand_emptied s.robot (count s.robot - 1)) s

-- A bad make-up is refused before the catalogue is emptied.
abbrev pub begun_if : Bool → Stocked → Begun
begun_if false s = record { answer = Err BadMakeUp; stock = s }
begun_if true s = hand_cleared (record { robot = s.robot; filed = [] })

abbrev pub begun : Stocked → Begun
begun s = begun_if (fit s.robot) s

-- A start reads a place: a label in a cell or drive is filed.
abbrev pub read_if : Bool → ℕ → ℕ → List Filed → List Filed
read_if false k p xs = xs
read_if true k p xs = filed_more (record { number = k; place = p }) xs

abbrev pub read_at : Stocked → ℕ → Stocked
read_at s p = record { robot = s.robot; filed = read_if (readable (shown_at s.robot p)) (shown_at s.robot p) p s.filed }
