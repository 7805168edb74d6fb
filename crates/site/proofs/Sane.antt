-- What is true of a library beside what was heard of it; and what one turn keeps.
use Rattle.std.proofs.Common.{◌≡◌, ℕ, ◌<◌, ◌≤◌, Bool, true, false, cond, ◌&&◌, List, [], map, Some, None, Option}
use Rattle.requests.specs.declared.bodies.Body.{Body}
use Rattle.requests.specs.declared.bodies.Request.{Request}
use Rattle.responses.specs.declared.Entry.{Entry}
use Rattle.responses.specs.Responses.{Told}
use Rattle.responses.specs.RoundTrips.{filled}
use Rattle.robots.specs.declared.kind.Kind.{Kind}
use Rattle.robots.specs.Meaning.{Meaning, Sound, count}
use Rattle.robots.specs.Cartridges.{cartridges_of}
use Rattle.stock.specs.Models.{Stocked}
use Rattle.library.specs.Library.{Job}
use Rattle.library.specs.Turns.{Turned, Going}
use Rattle.library.specs.Turns.Going.{stays, ends}
use Rattle.library.specs.Verdicts.{Ending}
use Rattle.steps.specs.Stepping.{work_after}
use Rattle.server.specs.Answers.{final_told}
use Rattle.server.specs.Hands.{is_enter}
use Rattle.site.specs.Hearing.{succeeds_in}
use Rattle.site.specs.Inventories.{Inventory, changed_by, entries_in, told, told_more}
use Rattle.site.specs.Law.{Each}
use Rattle.site.proofs.Ways.{cells}
use Rattle.site.proofs.Written.{ShownGood}

-- The entries of an enter at work, which no final has told yet.
abbrev pub so_far : Body → List Entry → List Entry
so_far b es = cond (is_enter b) es []

abbrev pub entries_so_far : Option Job → List Entry
entries_so_far None = []
entries_so_far (Some j) = so_far j.request.body j.entries

-- An inventory, changed by the entries not yet told, is what cells and drives hold; the door is shut and the hand empty.
abbrev pub Booked : Bool → List Entry → Meaning → Inventory → Type 0
Booked d es m i = (d ≡ false) × (m.hand ≡ 0) × (count m ≤ 256) × (changed_by m.kinds i es ≡ cells m)

-- With the inventories heard, and whether a start has succeeded.
pub record Sane (is : List Inventory) (st : Bool) (w : Option Job) (d : Bool) (m : Meaning) : Type 0 where
  pub hand : st ≡ true → m.hand ≡ 0
  pub books : Each (Booked d (entries_so_far w) m) is

-- The inventories once a response was heard; a start succeeds only by a step.
abbrev pub hearing : List Kind → Bool → Option Told → List Inventory → List Inventory
hearing kinds is_step h is = told_more (is_step && succeeds_in h) (told h) (map (λ i. changed_by kinds i (entries_in h)) is)

abbrev pub now_started : Bool → Bool → Option Told → Bool
now_started is_step st h = cond (is_step && succeeds_in h) true st

-- What a step is heard to say.
abbrev pub final_heard : Request → Ending → Meaning → Told
final_heard q v m = filled (final_told (record { request = q; ending = v }) m)

abbrev pub heard_end : Going → Request → Meaning → Option Told
heard_end (stays p es) q m = None
heard_end (ends v) q m = Some (final_heard q v m)

abbrev pub GoingGood : Going → Type 0
GoingGood (stays p es) = Unit {0}
GoingGood (ends v) = ShownGood v.shown

-- What one turn keeps: the request q was at work as w says.
pub record Proper (s : Stocked) (w : Option Job) (q : Request) (t : Turned) : Type 0 where
  pub counts : (k : ℕ) → 0 < k → cartridges_of k t.stock.robot ≡ cartridges_of k s.robot
  pub kinds : t.stock.robot.kinds ≡ s.robot.kinds
  pub sound : Sound t.stock.robot
  pub shown : GoingGood t.course.goes
  pub sane : (is : List Inventory) (st : Bool) (d : Bool) → d ≡ false → Sane is st w d s.robot
      → Sane (hearing s.robot.kinds true (heard_end t.course.goes q t.stock.robot) is) (now_started true st (heard_end t.course.goes q t.stock.robot)) (work_after t.course.goes q) d t.stock.robot
