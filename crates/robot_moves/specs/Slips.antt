-- The slip that is held for a cartridge in the hand.
use Rattle.std.specs.Prelude.{ℕ, cond, Some, None, Ok, Err, Option, Result, ◌==◌}
use Rattle.robots.specs.declared.fault.Fault.{Fault}
use Rattle.robots.specs.Meaning.{Meaning}
use Rattle.robots.specs.Acts.{answered, lift_refusal, set_answer}
use Rattle.robot_moves.specs.declared.slip.token.Token.{Token}
use Rattle.robot_moves.specs.declared.slip.token.Lifted.{Lifted}
use Rattle.robot_moves.specs.declared.slip.token.InHand.{InHand}

-- What is held for a cartridge in the hand: a slip has the place that it was lifted from, and a token for one that was found there has its number.
abbrev pub token_of : {T : Type 0} → T → Token T
token_of x = record { of = x }

-- A slip is the one, and the other a token for what was found in the hand.
abbrev pub Slip : Type 0
Slip = Token Lifted

abbrev pub Found : Type 0
Found = Token InHand

-- The slip for a cartridge that was lifted from p.
abbrev pub slip_from : ℕ → Slip
slip_from p = token_of (record { from = p })

-- A lift gives the slip.
abbrev pub slip_answer : Meaning → ℕ → Result Slip Fault
slip_answer m p = answered (lift_refusal m p) (slip_from p)

-- A set spends it; where the set is refused the slip comes back with the fault.
abbrev pub or_slip : Slip → Result (Unit {0}) Fault → Result (Unit {0}) (Slip × Fault)
or_slip slip (Ok x) = Ok x
or_slip slip (Err fault) = Err (slip, fault)

abbrev pub set_by_slip : Slip → Meaning → ℕ → Result (Unit {0}) (Slip × Fault)
set_by_slip slip m p = or_slip slip (set_answer m p)

-- The token for a cartridge that is found in the hand, if there is one.
abbrev pub found_in_hand : ℕ → Found
found_in_hand number = token_of (record { cartridge = number })

abbrev pub found : Meaning → Option Found
found m = cond (m.hand == 0) None (Some (found_in_hand m.hand))
