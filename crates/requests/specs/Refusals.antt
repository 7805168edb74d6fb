-- Why a packet is refused.
use Rattle.std.specs.Prelude.{ℕ, Some, None, Option}
use Rattle.statuses.specs.declared.Status.{Status}
use Rattle.statuses.specs.declared.Status.TheVariants as status
use Rattle.requests.specs.declared.refusals.Cause.{Cause}
use Rattle.requests.specs.declared.refusals.Cause.TheVariants as cause

-- The status of a cause.
abbrev pub cause_status : Cause → Status
cause_status cause.Short = status.Short
cause_status cause.Long = status.Long
cause_status cause.UnknownCommand = status.UnknownCommand
cause_status (cause.WrongBit b) = status.WrongBit
cause_status (cause.WrongCharacter i) = status.WrongCharacter
cause_status cause.WrongDriveState = status.WrongDriveState

-- Its detail: the lowest wrong bit, or where the first wrong character stands.
abbrev pub cause_detail : Cause → Option ℕ
cause_detail cause.Short = None
cause_detail cause.Long = None
cause_detail cause.UnknownCommand = None
cause_detail (cause.WrongBit b) = Some b
cause_detail (cause.WrongCharacter i) = Some i
cause_detail cause.WrongDriveState = None
