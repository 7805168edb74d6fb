-- The status and the detail that tell why a step ended a request without success.
use Rattle.std.specs.Prelude.{ℕ, ◌%◌, Some, None, Option}
use Rattle.robots.specs.Acts.{place_of}
use Rattle.statuses.specs.declared.Status.{Status}
use Rattle.statuses.specs.declared.Status.TheVariants as status
use Rattle.stock.specs.declared.refusal.Refusal.{Refusal}
use Rattle.stock.specs.declared.refusal.Refusal.TheVariants as refusal

-- A place as it is written into a byte; a start that succeeded has at most 256 places.
abbrev pub in_byte : ℕ → ℕ
in_byte p = p % 256

abbrev pub status_of : Refusal → Status
status_of refusal.BadMakeUp = status.BadMakeUp
status_of refusal.NoFreeCell = status.NoFreeCell
status_of refusal.NoVolume = status.NoVolume
status_of refusal.SeveralVolumes = status.SeveralVolumes
status_of (refusal.InDrive p) = status.InDrive
status_of (refusal.DriveInUse p) = status.DriveInUse
status_of (refusal.DriveEmpty p) = status.DriveEmpty
status_of (refusal.OtherVolume p) = status.OtherVolume
status_of refusal.NoPortPlace = status.NoPortPlace
status_of refusal.UnreadableLabel = status.UnreadableLabel
status_of (refusal.LibraryFailure fault) = status.LibraryFailure

abbrev pub detail_of : Refusal → Option ℕ
detail_of refusal.BadMakeUp = None
detail_of refusal.NoFreeCell = None
detail_of refusal.NoVolume = None
detail_of refusal.SeveralVolumes = None
detail_of (refusal.InDrive p) = Some (in_byte p)
detail_of (refusal.DriveInUse p) = Some (in_byte p)
detail_of (refusal.DriveEmpty p) = Some (in_byte p)
detail_of (refusal.OtherVolume p) = Some (in_byte p)
detail_of refusal.NoPortPlace = None
detail_of refusal.UnreadableLabel = None
detail_of (refusal.LibraryFailure fault) = Some (in_byte (place_of fault))
