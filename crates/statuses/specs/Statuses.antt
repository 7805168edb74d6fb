-- The statuses: one row for each.
use Rattle.std.specs.Prelude.{ℕ, Bool, true, false, cond, Some, None, Option, Result, ◌==◌, ok_or}
use Rattle.statuses.specs.declared.Layer.{Layer}
use Rattle.statuses.specs.declared.Layer.TheVariants as layer
use Rattle.statuses.specs.declared.Status.{Status}
use Rattle.statuses.specs.declared.Status.TheVariants as status
use Rattle.statuses.specs.declared.UnknownStatus.{UnknownStatus}

-- The number of each layer.
abbrev pub layer_number : Layer → ℕ
layer_number layer.Packet = 1
layer_number layer.Server = 2
layer_number layer.Robot = 3

-- A status has a number, the layer that refuses by it, and it is said whether a refusal tells a detail.
pub record Row : Type 0 where
  pub number : ℕ
  pub layer : Option Layer
  pub detail : Bool

-- The row of a status that is no refusal, and of one that a layer refuses by.
abbrev pub granted : ℕ → Row
granted n = record { number = n; layer = None; detail = false }

abbrev pub packet : ℕ → Bool → Row
packet n d = record { number = n; layer = Some layer.Packet; detail = d }

abbrev pub server : ℕ → Bool → Row
server n d = record { number = n; layer = Some layer.Server; detail = d }

abbrev pub robot : ℕ → Bool → Row
robot n d = record { number = n; layer = Some layer.Robot; detail = d }

-- The table.
abbrev pub row : Status → Row
row status.Success = granted 0
row status.Short = packet 1 false
row status.Long = packet 2 false
row status.UnknownCommand = packet 3 false
row status.WrongBit = packet 4 true
row status.WrongCharacter = packet 5 true
row status.WrongDriveState = packet 6 false
row status.NotServed = server 7 true
row status.IdlePending = server 8 false
row status.NoDrive = server 9 true
row status.NotOnline = server 10 true
row status.AlreadySo = server 11 false
row status.NothingToCancel = server 12 false
row status.LibraryBusy = server 13 false
row status.Cancelled = server 14 false
row status.BadMakeUp = server 15 false
row status.NoFreeCell = server 16 false
row status.NoVolume = server 17 false
row status.SeveralVolumes = server 18 false
row status.InDrive = server 19 true
row status.DriveInUse = server 20 true
row status.DriveEmpty = server 21 true
row status.OtherVolume = server 22 true
row status.NoPortPlace = server 23 false
row status.UnreadableLabel = server 24 false
row status.LibraryFailure = robot 25 true

-- The number of a status.
abbrev pub status_number : Status → ℕ
status_number s = (row s).number

-- The status s where n is its number, else what the other says.
abbrev pub or_else : ℕ → Status → Option Status → Option Status
or_else n s other = cond (n == status_number s) (Some s) other

-- The status with the number n, if there is one.
abbrev pub status_of : ℕ → Option Status
status_of n =
    (or_else n status.Success
    (or_else n status.Short
    (or_else n status.Long
    (or_else n status.UnknownCommand
    (or_else n status.WrongBit
    (or_else n status.WrongCharacter
    (or_else n status.WrongDriveState
    (or_else n status.NotServed
    (or_else n status.IdlePending
    (or_else n status.NoDrive
    (or_else n status.NotOnline
    (or_else n status.AlreadySo
    (or_else n status.NothingToCancel
    (or_else n status.LibraryBusy
    (or_else n status.Cancelled
    (or_else n status.BadMakeUp
    (or_else n status.NoFreeCell
    (or_else n status.NoVolume
    (or_else n status.SeveralVolumes
    (or_else n status.InDrive
    (or_else n status.DriveInUse
    (or_else n status.DriveEmpty
    (or_else n status.OtherVolume
    (or_else n status.NoPortPlace
    (or_else n status.UnreadableLabel
    (or_else n status.LibraryFailure None))))))))))))))))))))))))))

-- The same, with the number where it stands for none.
abbrev pub status_named : ℕ → Result Status UnknownStatus
status_named n = ok_or (status_of n) (record { code = n })
