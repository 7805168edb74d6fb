-- What mount, dismount, eject and enter do to the robot and the catalogue.
use Rattle.std.specs.Prelude.{ℕ, Bool, true, false, ◌||◌, List, Some, None, Ok, Err, Option, Result, ◌==◌}
use Rattle.labels.specs.Numbers.{unreadable_number}
use Rattle.statuses.specs.declared.Status.{Status}
use Rattle.statuses.specs.declared.Status.TheVariants as status
use Rattle.responses.specs.declared.Entry.{Entry}
use Rattle.robots.specs.Meaning.{Meaning}
use Rattle.robots.specs.Acts.{put_in, switched, taken}
use Rattle.robot_moves.specs.declared.movement.Target.{Target}
use Rattle.robot_moves.specs.declared.movement.Target.TheVariants.{At, NextCell, LowestPort}
use Rattle.robot_moves.specs.declared.movement.Moved.{Moved}
use Rattle.robot_moves.specs.declared.movement.Stopped.{Stopped}
use Rattle.robot_moves.specs.declared.movement.Stopped.TheVariants.{NoTarget, Refused}
use Rattle.robot_moves.specs.Search.{is_drive, of_kind}
use Rattle.robot_moves.specs.Movement.{Movement, movement}
use Rattle.stock.specs.declared.catalogue.Filed.{Filed}
use Rattle.stock.specs.declared.catalogue.Row.{Row}
use Rattle.stock.specs.declared.catalogue.Volume.{Volume}
use Rattle.stock.specs.declared.catalogue.Volume.TheVariants.{One, Several}
use Rattle.stock.specs.declared.refusal.Refusal.{Refusal}
use Rattle.stock.specs.declared.refusal.Refusal.TheVariants as refusal
use Rattle.stock.specs.Refusals.{in_byte, status_of}
use Rattle.stock.specs.Filing.{volume_of, index_of, refiled, unfiled, filed_more}
use Rattle.stock.specs.Holding.{held_in}
use Rattle.stock.specs.Models.{Stocked}

-- What people do: a cartridge put in, one taken out, a place switched.
abbrev pub with_put : Stocked → ℕ → ℕ → Stocked
with_put s p number = record { robot = put_in s.robot p number; filed = s.filed }

abbrev pub with_taken : Stocked → ℕ → Stocked
with_taken s p = record { robot = taken s.robot p; filed = s.filed }

abbrev pub with_switched : Stocked → ℕ → Bool → Stocked
with_switched s p on = record { robot = switched s.robot p on; filed = s.filed }

-- The entry for a cartridge that went from p to q, or stayed.
abbrev pub entry_for : ℕ → ℕ → ℕ → Status → Entry
entry_for k p q st = record { cartridge = k; from = in_byte p; to = in_byte q; status = st }

-- Why a movement to a target came to nothing.
abbrev pub no_target : Target → Refusal
no_target (At q) = refusal.NoFreeCell
no_target NextCell = refusal.NoFreeCell
no_target LowestPort = refusal.NoPortPlace

abbrev pub why_stopped : Target → Stopped → Refusal
why_stopped target (Refused fault) = refusal.LibraryFailure fault
why_stopped target NoTarget = no_target target

-- What a request that moves one cartridge answers, and what it leaves.
pub record Done : Type 0 where
  pub answer : Result Entry Refusal
  pub stock : Stocked

-- Nothing moved.
abbrev pub refused : Refusal → Stocked → Done
refused why s = record { answer = Err why; stock = s }

-- What was filed in a row follows the cartridge; what went to the port is filed no more.
abbrev pub row_follows : Option ℕ → Target → ℕ → List Filed → List Filed
row_follows None target q xs = xs
row_follows (Some i) (At d) q xs = refiled i q xs
row_follows (Some i) NextCell q xs = refiled i q xs
row_follows (Some i) LowestPort q xs = unfiled i xs

abbrev pub followed : Option ℕ → Target → ℕ → Stocked → Stocked
followed index target q s = record { robot = s.robot; filed = row_follows index target q s.filed }

-- The catalogue follows what the robot has granted.
abbrev pub moved_as : Result Moved Stopped → Meaning → Stocked → Option ℕ → ℕ → Target → Done
moved_as (Ok gone) m s index p target = record {
  answer = Ok (entry_for gone.cartridge p gone.to status.Success);
  stock = followed index target gone.to (record { robot = m; filed = s.filed });
}
moved_as (Err why) m s index p target = record { answer = Err (why_stopped target why); stock = record { robot = m; filed = s.filed } }

abbrev pub moved_by : Movement → Stocked → Option ℕ → ℕ → Target → Done
moved_by x s index p target = moved_as x.answer x.robot s index p target

-- The cartridge at p, filed in this row if it is filed, goes to its target.
abbrev pub moved : Stocked → Option ℕ → ℕ → Target → Done
moved s index p target = moved_by (movement s.robot p target) s index p target

-- The one row that a label is in: first no volume, then several.
abbrev pub located_by : Option Volume → Result Row Refusal
located_by None = Err refusal.NoVolume
located_by (Some Several) = Err refusal.SeveralVolumes
located_by (Some (One r)) = Ok r

-- The row of a label in a cell: a drive is refused.
abbrev pub not_in_drive : Bool → Row → Result Row Refusal
not_in_drive true r = Err (refusal.InDrive r.place)
not_in_drive false r = Ok r

abbrev pub cell_by : Result Row Refusal → Meaning → Result Row Refusal
cell_by (Err why) m = Err why
cell_by (Ok r) m = not_in_drive (of_kind is_drive m r.place) r

abbrev pub cell_of : Stocked → ℕ → Result Row Refusal
cell_of s k = cell_by (located_by (volume_of s.filed k)) s.robot

-- Mount: the label's cell, then an empty drive, then the movement.
abbrev pub mounted_from : Bool → Stocked → Row → ℕ → Done
mounted_from true s r d = moved s (Some r.index) r.place (At d)
mounted_from false s r d = refused (refusal.DriveInUse d) s

abbrev pub mounted_by : Result Row Refusal → Stocked → ℕ → Done
mounted_by (Err why) s d = refused why s
mounted_by (Ok r) s d = mounted_from (held_in s.robot d == 0) s r d

abbrev pub mounted : Stocked → ℕ → ℕ → Done
mounted s k d = mounted_by (cell_of s k) s d

-- Dismount: a full drive, then its label unless forced, then the movement to the next free cell.
abbrev pub dismounted_if : Bool → Bool → Stocked → ℕ → Done
dismounted_if true may s d = refused (refusal.DriveEmpty d) s
dismounted_if false false s d = refused (refusal.OtherVolume d) s
dismounted_if false true s d = moved s (index_of s.filed d) d NextCell

abbrev pub dismounted : Stocked → ℕ → Bool → ℕ → Done
dismounted s k force d = dismounted_if (held_in s.robot d == 0) (force || held_in s.robot d == k) s d

-- Eject: the label's cell, then the movement to the lowest free port place.
abbrev pub ejected_by : Result Row Refusal → Stocked → Done
ejected_by (Err why) s = refused why s
ejected_by (Ok r) s = moved s (Some r.index) r.place LowestPort

abbrev pub ejected : Stocked → ℕ → Done
ejected s k = ejected_by (cell_of s k) s

-- One port place of an enter: its entry, and what it leaves.
pub record Entered : Type 0 where
  pub entry : Entry
  pub stock : Stocked

-- A cartridge that is not entered stays, and its entry has equal places.
abbrev pub stays : Status → Stocked → ℕ → ℕ → Entered
stays st s k p = record { entry = entry_for k p p st; stock = s }

abbrev pub entered_as : Result Moved Stopped → Meaning → Stocked → ℕ → ℕ → Entered
entered_as (Ok gone) m s k p = record {
  entry = entry_for gone.cartridge p gone.to status.Success;
  stock = record { robot = m; filed = filed_more (record { number = gone.cartridge; place = gone.to }) s.filed };
}
entered_as (Err why) m s k p = stays (status_of (why_stopped NextCell why)) (record { robot = m; filed = s.filed }) k p

abbrev pub entered_by : Movement → Stocked → ℕ → ℕ → Entered
entered_by x s k p = entered_as x.answer x.robot s k p

-- A label that is filed already stays; a new one goes to the next free cell.
abbrev pub entered_new : Option Volume → Stocked → ℕ → ℕ → Entered
entered_new (Some v) s k p = stays status.SeveralVolumes s k p
entered_new None s k p = entered_by (movement s.robot p NextCell) s k p

-- A label that cannot be read stays.
abbrev pub entered_if : Bool → Stocked → ℕ → ℕ → Entered
entered_if true s k p = stays status.UnreadableLabel s k p
entered_if false s k p = entered_new (volume_of s.filed k) s k p

abbrev pub entered : Stocked → ℕ → Entered
entered s p = entered_if (held_in s.robot p == unreadable_number) s (held_in s.robot p) p
