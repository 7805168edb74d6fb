-- What a request that moves cartridges does to the robot, and what its entries tell of that.
use Rattle.std.proofs.Common.{◌≡◌, ℕ, ◌<◌, ◌≤◌, Bool, true, false, cond, ◌||◌, eqb, ◌≢◌, List, length, get_or, set, Some, None, Ok, Err, Option, Result, sym, refl, ap, ◌∙◌, ⊎_elim, arith, length-set}
use mathlib.Core.Path.{subst⁻¹, fun_ext}
use Rattle.std.proofs.lemmas.List.{get_or-set_other}
use Rattle.std.proofs.lemmas.Bool.{cases_eq, eq-eqb, ne_eqb, cond-true}
use Rattle.std.proofs.lemmas.Bool.Decides.{nat_tests}
use Rattle.labels.specs.Numbers.{unreadable_number}
use Rattle.statuses.specs.declared.Status.{Status}
use Rattle.statuses.specs.declared.Status.TheVariants as status
use Rattle.robots.specs.declared.kind.Kind.{Kind}
use Rattle.robot_moves.specs.declared.movement.Target.{Target}
use Rattle.robot_moves.specs.declared.movement.Target.TheVariants.{At, NextCell, LowestPort}
use Rattle.robot_moves.specs.declared.movement.Moved.{Moved as Gone}
use Rattle.robot_moves.specs.declared.movement.Stopped.{Stopped}
use Rattle.robots.specs.Meaning.{Meaning, Sound, count, held_at}
use Rattle.robot_moves.specs.Movement.{Movement, movement}
use Rattle.robots.specs.Cartridges.{cartridges_of}
use Rattle.robots.proofs.Acts.{tally_set}
use Rattle.stock.specs.declared.catalogue.Row.{Row}
use Rattle.stock.specs.declared.catalogue.Volume.{Volume}
use Rattle.stock.specs.declared.refusal.Refusal.{Refusal}
use Rattle.stock.specs.declared.refusal.Refusal.TheVariants as refusal
use Rattle.stock.specs.Refusals.{in_byte, status_of}
use Rattle.stock.specs.Filing.{volume_of, index_of}
use Rattle.stock.specs.Holding.{held_in}
use Rattle.stock.specs.Models.{Stocked}
use Rattle.stock.specs.Moves.{Done, Entered, entry_for, moved, moved_as, moved_by, cell_of, mounted, mounted_by, mounted_from, dismounted, dismounted_if, ejected, ejected_by, entered, entered_as, entered_by, entered_if, entered_new, why_stopped}
use Rattle.site.specs.Inventories.{Inventory, changed, port_at}
use Rattle.site.proofs.Ways.{Moved, Way, way, cells, holding, at_set}
use Rattle.site.proofs.Ways.Way.{stayed, went}

-- An entry with equal places changes nothing.
pub unchanged : (ks : List Kind) (told : Inventory) (k p : ℕ) (st : Status) → changed ks told (entry_for k p p st) ≡ told
unchanged ks told k p st = fun_ext (λ q. cond-true (eqb (in_byte p) (in_byte p)) _ _ (eq-eqb (in_byte p) (in_byte p) refl))

pub in_byte_holds : (p : ℕ) → p < 256 → in_byte p ≡ p
in_byte_holds p h = omega arith

moved_at : (port : Bool) (hs : List ℕ) (a b p : ℕ) → a < length hs → b < length hs → cond (eqb a b) (cond port 0 (get_or hs p 0)) (cond port (cond port 0 (get_or hs p 0)) (cond (eqb p b) (get_or hs a 0) (cond (eqb p a) 0 (cond port 0 (get_or hs p 0))))) ≡ cond port 0 (get_or (set (set hs a 0) b (get_or hs a 0)) p 0)
moved_at true hs a b p ha hb = grind (arith, nat_tests)
moved_at false hs a b p ha hb =
    let hb' : b < length (set hs a 0) = simp length-set hb in
    let e = at_set (set hs a 0) b (get_or hs a 0) p hb' in
    let f = at_set hs a 0 p ha in
    ⊎_elim
    (λ (same : p ≡ a). let g = ap (λ n. get_or hs n 0) same in grind (arith, nat_tests, e, f, g))
    (λ (other : p ≢ a). grind (arith, nat_tests, e, f))
    (cases_eq p a)

-- The entry of a cartridge that moved tells what cells and drives hold then.
pub told_moved : (m m' : Meaning) (a b : ℕ) (st : Status) → Sound m → count m ≤ 256 → Moved m a b m' → changed m.kinds (cells m) (entry_for (held_at m a) a b st) ≡ cells m'
told_moved m m' a b st s few v =
    fun_ext (λ p.
    let x = in_byte_holds a (omega (arith, v.from_in)) in
    let y = in_byte_holds b (omega (arith, v.to_in)) in
    (λ i. changed m.kinds (cells m) (record { cartridge = held_at m a; from = x i; to = y i; status = st }) p)
    ∙ moved_at (port_at m.kinds p) m.held a b p (omega (arith, v.from_in, s.held_length)) (omega (arith, v.to_in, s.held_length))
    ∙ sym (ap (λ n. cells n p) v.is))

-- A port place is none of the cells.
pub at_port : (m : Meaning) (p x h : ℕ) → port_at m.kinds p ≡ true → cells m ≡ cells (holding m (set m.held p x) h)
at_port m p x h port =
    fun_ext (λ q. ⊎_elim
    (λ (e : q ≡ p). let here : port_at m.kinds q ≡ true = ap (port_at m.kinds) e ∙ port in cond-true _ 0 (held_at m q) here ∙ sym (cond-true _ 0 (get_or (set m.held p x) q 0) here))
    (λ (n : q ≢ p). ap (λ v. cond (port_at m.kinds q) 0 v) (sym (get_or-set_other m.held p q x 0 n)))
    (cases_eq q p))

-- No cartridge is lost or made by it.
pub counts_moved : (k : ℕ) → 0 < k → (m m' : Meaning) (a b : ℕ) → Sound m → Moved m a b m' → cartridges_of k m' ≡ cartridges_of k m
counts_moved k pos m m' a b s v =
    let none = ne_eqb 0 k (omega arith) in
    let one = tally_set k m.held a 0 (omega (arith, v.from_in, s.held_length)) in
    let two = tally_set k (set m.held a 0) b (held_at m a) (omega (arith, v.to_in, s.held_length, length-set m.held a 0)) in
    let e = rw v.vacant at two in
    ap (cartridges_of k) v.is ∙ rw v.free (omega arith)

-- The robot stays as it was, or one cartridge moves and the entry tells it.
pub data Carried (s : Stocked) (d : Done) : Type 0 where
  still : (why : Refusal) → d.answer ≡ Err why → d.stock.robot ≡ s.robot → Carried s d
  carried : (a b : ℕ) → d.answer ≡ Ok (entry_for (held_at s.robot a) a b status.Success) → Moved s.robot a b d.stock.robot → Carried s d

module _ (s : Stocked) where
  by_way : (index : Option ℕ) (p : ℕ) (t : Target) (x : Movement) → Way s.robot p t x → Carried s (moved_by x s index p t)
  by_way index p t x (stayed why e r) = still (why_stopped t why) (ap (λ (y : Result Gone Stopped). (moved_as y x.robot s index p t).answer) e) (ap (λ (y : Result Gone Stopped). (moved_as y x.robot s index p t).stock.robot) e ∙ r)
  by_way index p t x (went b e q v) = carried p b (ap (λ (y : Result Gone Stopped). (moved_as y x.robot s index p t).answer) e) (subst⁻¹ (Moved s.robot p b) (ap (λ (y : Result Gone Stopped). (moved_as y x.robot s index p t).stock.robot) e) v)

  carried-moved : (index : Option ℕ) (p : ℕ) (t : Target) → Carried s (moved s index p t)
  carried-moved index p t = by_way index p t (movement s.robot p t) (way s.robot p t)

  mounted-from : (b : Bool) (r : Row) (d : ℕ) → Carried s (mounted_from b s r d)
  mounted-from true r d = carried-moved (Some r.index) r.place (At d)
  mounted-from false r d = still (refusal.DriveInUse d) refl refl

  mounted-by : (o : Result Row Refusal) (d : ℕ) → Carried s (mounted_by o s d)
  mounted-by (Err why) d = still why refl refl
  mounted-by (Ok r) d = mounted-from (eqb (held_in s.robot d) 0) r d

  pub carried-mounted : (k d : ℕ) → Carried s (mounted s k d)
  carried-mounted k d = mounted-by (cell_of s k) d

  dismounted-if : (b may : Bool) (d : ℕ) → Carried s (dismounted_if b may s d)
  dismounted-if true may d = still (refusal.DriveEmpty d) refl refl
  dismounted-if false false d = still (refusal.OtherVolume d) refl refl
  dismounted-if false true d = carried-moved (index_of s.filed d) d NextCell

  pub carried-dismounted : (k : ℕ) (force : Bool) (d : ℕ) → Carried s (dismounted s k force d)
  carried-dismounted k force d = dismounted-if (eqb (held_in s.robot d) 0) (force || eqb (held_in s.robot d) k) d

  ejected-by : (o : Result Row Refusal) → Carried s (ejected_by o s)
  ejected-by (Err why) = still why refl refl
  ejected-by (Ok r) = carried-moved (Some r.index) r.place LowestPort

  pub carried-ejected : (k : ℕ) → Carried s (ejected s k)
  carried-ejected k = ejected-by (cell_of s k)

-- One port place of an enter: the cartridge stays, or it moves.
pub data Treated (s : Stocked) (p : ℕ) (e : Entered) : Type 0 where
  kept : (st : Status) → e.entry ≡ entry_for (held_in s.robot p) p p st → e.stock.robot ≡ s.robot → Treated s p e
  treated : (b : ℕ) → e.entry ≡ entry_for (held_at s.robot p) p b status.Success → Moved s.robot p b e.stock.robot → Treated s p e

module _ (s : Stocked) (p : ℕ) where
  abbrev here : ℕ
  here = held_in s.robot p

  entered-way : (x : Movement) → Way s.robot p NextCell x → Treated s p (entered_by x s here p)
  entered-way x (stayed why e r) = kept (status_of (why_stopped NextCell why)) (ap (λ (y : Result Gone Stopped). (entered_as y x.robot s here p).entry) e) (ap (λ (y : Result Gone Stopped). (entered_as y x.robot s here p).stock.robot) e ∙ r)
  entered-way x (went b e q v) = treated b (ap (λ (y : Result Gone Stopped). (entered_as y x.robot s here p).entry) e) (subst⁻¹ (Moved s.robot p b) (ap (λ (y : Result Gone Stopped). (entered_as y x.robot s here p).stock.robot) e) v)

  entered-new : (o : Option Volume) → Treated s p (entered_new o s here p)
  entered-new (Some v) = kept status.SeveralVolumes refl refl
  entered-new None = entered-way (movement s.robot p NextCell) (way s.robot p NextCell)

  entered-if : (b : Bool) → Treated s p (entered_if b s here p)
  entered-if true = kept status.UnreadableLabel refl refl
  entered-if false = entered-new (volume_of s.filed here)

  pub treated-entered : Treated s p (entered s p)
  treated-entered = entered-if (eqb here unreadable_number)
