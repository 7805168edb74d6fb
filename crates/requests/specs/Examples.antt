-- Worked packets.
use Rattle.std.specs.Prelude.{◌≡◌, [], ◌∷◌, ◌++◌, Some, None, Ok, Err, codes, refl}
use Rattle.statuses.specs.Statuses.{status_number}
use Rattle.requests.specs.declared.bodies.Body.TheVariants as body
use Rattle.requests.specs.declared.bodies.Mark.TheVariants.{Unmarked}
use Rattle.requests.specs.declared.refusals.Cause.TheVariants as cause
use Rattle.requests.specs.Refusals.{cause_status}
use Rattle.requests.specs.Reading.{request_in}

-- Mount 258 of ABC123 on place 5, with one byte less and one more; no byte; and map 02 with command 05, which lacks the request number.
pub record WorkedPackets : Type 0 where
  pub mount : request_in (0x1B ∷ 1 ∷ 2 ∷ 7 ∷ codes "ABC123" ++ 5 ∷ []) ≡ Ok (record { number = 258; mark = Unmarked; body = body.Mount (record { chars = codes "ABC123"; right = refl }) 5 })
  pub less : request_in (0x1B ∷ 1 ∷ 2 ∷ 7 ∷ codes "ABC123") ≡ Err (record { cause = cause.Short; number = Some 258; command = Some 7 })
  pub more : request_in (0x1B ∷ 1 ∷ 2 ∷ 7 ∷ codes "ABC123" ++ 5 ∷ 0 ∷ []) ≡ Err (record { cause = cause.Long; number = Some 258; command = Some 7 })
  pub empty : request_in [] ≡ Err (record { cause = cause.Short; number = None; command = None })
  pub unnumbered : request_in (0x02 ∷ 0x05 ∷ []) ≡ Err (record { cause = cause.WrongBit 0; number = None; command = Some 5 })
  pub short : status_number (cause_status cause.Short) ≡ 1
  pub long : status_number (cause_status cause.Long) ≡ 2
  pub wrong : status_number (cause_status (cause.WrongBit 0)) ≡ 4
