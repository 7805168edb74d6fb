-- Every movement of a cartridge: lift it, then set it down at its target, or put it back.
use Rattle.std.specs.Prelude.{ℕ, cond, Some, None, Ok, Err, Option, Result, ◌==◌}
use Rattle.robots.specs.declared.fault.Fault.{Fault}
use Rattle.robots.specs.Meaning.{Meaning, held_at}
use Rattle.robots.specs.Acts.{lift_refusal, lifted, set_refusal, set_down}
use Rattle.robot_moves.specs.declared.movement.Target.{Target}
use Rattle.robot_moves.specs.declared.movement.Target.TheVariants.{At, NextCell, LowestPort}
use Rattle.robot_moves.specs.declared.movement.Moved.{Moved}
use Rattle.robot_moves.specs.declared.movement.Stopped.{Stopped}
use Rattle.robot_moves.specs.declared.movement.Stopped.TheVariants.{NoTarget, Refused}
use Rattle.robot_moves.specs.Search.{next_free_cell, lowest_free_port}

-- What a movement answers, and the robot after it.
pub record Movement : Type 0 where
  pub answer : Result Moved Stopped
  pub robot : Meaning

-- Where a cartridge from p goes, sought once it is lifted.
abbrev pub sought : Target → Meaning → ℕ → Option ℕ
sought (At q) m p = Some q
sought NextCell m p = next_free_cell m p
sought LowestPort m p = lowest_free_port m

-- It came to nothing, and all is as it was.
abbrev pub stopped : Stopped → Meaning → Movement
stopped why m = record { answer = Err why; robot = m }

-- The set at q is refused, or ends the movement.
abbrev pub set_at : Option Fault → Meaning → ℕ → ℕ → Movement
set_at (Some fault) m p q = stopped (Refused fault) m
set_at None m p q = record { answer = Ok (record { cartridge = held_at m p; to = q }); robot = set_down (lifted m p) q }

-- There is no target, or it is q.
abbrev pub brought_to : Option ℕ → Meaning → ℕ → Movement
brought_to None m p = stopped NoTarget m
brought_to (Some q) m p = set_at (set_refusal (lifted m p) q) m p q

-- The lift is refused, or the target is sought.
abbrev pub lifted_for : Option Fault → Target → Meaning → ℕ → Movement
lifted_for (Some fault) target m p = stopped (Refused fault) m
lifted_for None target m p = brought_to (sought target (lifted m p) p) m p

-- The movement of the cartridge at p to its target.
abbrev pub movement : Meaning → ℕ → Target → Movement
movement m p target = lifted_for (lift_refusal m p) target m p

-- What emptying the hand answers, and the robot after it.
pub record Emptying : Type 0 where
  pub answer : Result (Unit {0}) Stopped
  pub robot : Meaning

-- No cell is free and the cartridge stays in the hand, or it is set down at q.
abbrev pub cleared : Option ℕ → Meaning → Emptying
cleared None m = record { answer = Err NoTarget; robot = m }
cleared (Some q) m = record { answer = Ok tt; robot = set_down m q }

-- A cartridge in the hand goes to the next free cell from p.
abbrev pub hand_emptied : Meaning → ℕ → Emptying
hand_emptied m p = cond (m.hand == 0) (record { answer = Ok tt; robot = m }) (cleared (next_free_cell m p) m)
