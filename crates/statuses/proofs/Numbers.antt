-- Number and status go back and forth.
use Rattle.std.proofs.Common.{◌≡◌, ℕ, Bool, true, false, cond, eqb, Some, None, Option, sym, refl, ap, ◌∙◌, arith, eqb-true}
use Rattle.statuses.specs.declared.Status.{Status}
use Rattle.statuses.specs.declared.Status.TheVariants as status
use Rattle.statuses.specs.Statuses.{status_number, or_else, status_of}

-- The number of a status stands for that status.
pub status_of_number : (s : Status) → status_of (status_number s) ≡ Some s
status_of_number status.Success = refl
status_of_number status.Short = refl
status_of_number status.Long = refl
status_of_number status.UnknownCommand = refl
status_of_number status.WrongBit = refl
status_of_number status.WrongCharacter = refl
status_of_number status.WrongDriveState = refl
status_of_number status.NotServed = refl
status_of_number status.IdlePending = refl
status_of_number status.NoDrive = refl
status_of_number status.NotOnline = refl
status_of_number status.AlreadySo = refl
status_of_number status.NothingToCancel = refl
status_of_number status.LibraryBusy = refl
status_of_number status.Cancelled = refl
status_of_number status.BadMakeUp = refl
status_of_number status.NoFreeCell = refl
status_of_number status.NoVolume = refl
status_of_number status.SeveralVolumes = refl
status_of_number status.InDrive = refl
status_of_number status.DriveInUse = refl
status_of_number status.DriveEmpty = refl
status_of_number status.OtherVolume = refl
status_of_number status.NoPortPlace = refl
status_of_number status.UnreadableLabel = refl
status_of_number status.LibraryFailure = refl

-- Two statuses with one number are the same.
pub same_status : (a b : Status) → status_number a ≡ status_number b → a ≡ b
same_status a b e = let f : Some a ≡ Some b = sym (status_of_number a) ∙ ap status_of e ∙ status_of_number b in cc

none_some : (s : Status) → None ≡ Some s → ⊥
none_some s h = let z : ◌≡◌ {A = ℕ} 0 1 = cc in omega arith

tried : (n : ℕ) (a : Status) (other : Option Status) (s : Status) → (other ≡ Some s → status_number s ≡ n) → or_else n a other ≡ Some s → status_number s ≡ n
tried n a other s k e = go (eqb n (status_number a)) refl e
  where
    go : (b : Bool) → eqb n (status_number a) ≡ b → cond b (Some a) other ≡ Some s → status_number s ≡ n
    go true t e = let p : a ≡ s = cc in ap status_number (sym p) ∙ sym (eqb-true n (status_number a) t)
    go false t e = k e

-- A number that stands for a status is that status's number.
pub number_of_status : (n : ℕ) (s : Status) → status_of n ≡ Some s → status_number s ≡ n
number_of_status n s =
    (tried n status.Success _ s
    (tried n status.Short _ s
    (tried n status.Long _ s
    (tried n status.UnknownCommand _ s
    (tried n status.WrongBit _ s
    (tried n status.WrongCharacter _ s
    (tried n status.WrongDriveState _ s
    (tried n status.NotServed _ s
    (tried n status.IdlePending _ s
    (tried n status.NoDrive _ s
    (tried n status.NotOnline _ s
    (tried n status.AlreadySo _ s
    (tried n status.NothingToCancel _ s
    (tried n status.LibraryBusy _ s
    (tried n status.Cancelled _ s
    (tried n status.BadMakeUp _ s
    (tried n status.NoFreeCell _ s
    (tried n status.NoVolume _ s
    (tried n status.SeveralVolumes _ s
    (tried n status.InDrive _ s
    (tried n status.DriveInUse _ s
    (tried n status.DriveEmpty _ s
    (tried n status.OtherVolume _ s
    (tried n status.NoPortPlace _ s
    (tried n status.UnreadableLabel _ s
    (tried n status.LibraryFailure _ s
    (λ h. absurd (none_some s h))))))))))))))))))))))))))))
