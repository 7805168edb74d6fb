-- What is told of a packet without its request.
use Rattle.std.specs.Prelude.{ℕ, ◌-◌, Bool, true, cond, List, [], ◌∷◌, Some, Ok, Err, Option, Result, bit_and, bit_or, bit_xor}
use Rattle.byte_fields.specs.Taking.{has_bit}
use Rattle.requests.specs.declared.commands.Command.{Command}
use Rattle.requests.specs.declared.bodies.Request.{Request}
use Rattle.requests.specs.declared.refusals.BadPacket.{BadPacket}
use Rattle.requests.specs.declared.refusals.Cause.{Cause}
use Rattle.requests.specs.declared.inspecting.Outline.{Outline}
use Rattle.requests.specs.Bodies.{command_in}
use Rattle.requests.specs.Commands.{row, command_number}
use Rattle.requests.specs.Checking.{wrong_at, first_true}

-- That there is a request, or why not.
abbrev pub passed : Result Request Cause → Result (Unit {0}) Cause
passed (Ok r) = Ok tt
passed (Err e) = Err e

-- Of a request, its number and the number of its command; of a refusal, what it tells.
abbrev pub outlined : Result Request BadPacket → Outline
outlined (Ok r) = record { fault = Ok tt; number = Some r.number; command = Some (command_number (command_in r.body)) }
outlined (Err e) = record { fault = Err e.cause; number = e.number; command = e.command }

-- The lowest wrong bit by the map m alone, where it is said whether the option is wrong.
abbrev pub wrongs_in : Command → ℕ → Bool → List Bool
wrongs_in c m bad =
    wrong_at c 1 (has_bit m 1) ∷ wrong_at c 2 (has_bit m 2) ∷ cond (wrong_at c 4 (has_bit m 4)) true bad ∷ wrong_at c 8 (has_bit m 8)
    ∷ wrong_at c 16 (has_bit m 16) ∷ wrong_at c 32 (has_bit m 32) ∷ wrong_at c 64 (has_bit m 64) ∷ has_bit m 128 ∷ []

abbrev pub lowest_in : Command → ℕ → Bool → Option ℕ
lowest_in c m bad = first_true 0 (wrongs_in c m bad)

-- The bits in which a map differs from what the command needs, without those that it may have.
abbrev pub other_bits : Command → ℕ → ℕ
other_bits c m = bit_and (bit_xor m (row c).needed) (255 - (row c).permitted)

-- The wrong bits as a mask.
abbrev pub wrong_mask : Command → ℕ → Bool → ℕ
wrong_mask c m bad = cond bad (bit_or (other_bits c m) 4) (other_bits c m)
