-- What holds after each call of every run.
use Rattle.std.specs.Prelude.{◌≡◌, ℕ, ◌+◌, ◌<◌, ◌≤◌, Bool, true, false, ◌||◌, List, [], ◌∷◌, ◌++◌, length, take, Some, sum_by, nat_eq}
use Rattle.ring.specs.Order.{any_of}
use Rattle.requests.specs.declared.bodies.Body.{Body}
use Rattle.requests.specs.declared.bodies.Body.TheVariants as body
use Rattle.robots.specs.Meaning.{Meaning, count}
use Rattle.robots.specs.Cartridges.{cartridges_of}
use Rattle.robot_moves.specs.declared.search.Wanted.TheVariants.{FreeCell}
use Rattle.robot_moves.specs.Search.{next_full_port, passes}
use Rattle.stock.specs.Holding.{shown_at}
use Rattle.library.specs.Library.{Job, Library, unanswered}
use Rattle.library.specs.Making.{fresh}
use Rattle.library.specs.Marks.{is_unmarked}
use Rattle.server.specs.Hands.{is_enter}
use Rattle.server.specs.declared.refusal.CallRefusal.{CallRefusal}
use Rattle.server.specs.Machine.{Call, Event, Reply, after, stands}
use Rattle.server.specs.Machine.Reply.{refused}
use Rattle.site.specs.Hearing.{acknowledged, answered, started}
use Rattle.site.specs.Cartridges.{puts, takes}
use Rattle.site.specs.Inventories.{Inventory, inventories}
use Rattle.site.specs.Turns.{left, own_left}
use Rattle.site.specs.Catalogues.{CatalogueTrue, filing}

abbrev pub Each : {A : Type 0} → (A → Type 0) → List A → Type 0
Each P [] = Unit {0}
Each P (x ∷ xs) = P x × Each P xs

-- An inventory says just what cells and drives hold.
abbrev pub Agrees : Meaning → Inventory → Type 0
Agrees m told = (p : ℕ) → told p ≡ shown_at m p

-- No number stands twice.
abbrev pub has : ℕ → List ℕ → Bool
has n ns = any_of (λ x. nat_eq x n) ns

abbrev pub Distinct : List ℕ → Type 0
Distinct [] = Unit {0}
Distinct (n ∷ ns) = (has n ns ≡ false) × Distinct ns

-- Where an enter at work has a full port place still to treat, there is room for its entry.
abbrev pub EntryRoom : Library → Type 0
EntryRoom l = (j : Job) → l.work ≡ Some j → is_enter j.request.body ≡ true → (p : ℕ) → next_full_port l.stock.robot j.next ≡ Some p → length j.entries < 21

-- Where a cell is free, the catalogue has room for what comes there.
abbrev pub RowRoom : Library → Type 0
RowRoom l = filing l.state ≡ true → (p : ℕ) → passes FreeCell l.stock.robot p ≡ true → length l.stock.filed < 256

-- A start.
abbrev pub is_start : Body → Bool
is_start (body.Cancel target) = false
is_start (body.Dismount label drive force) = false
is_start (body.Eject label) = false
is_start body.Enter = false
is_start (body.Idle force) = false
is_start (body.Mount label drive) = false
is_start (body.Query label) = false
is_start body.Start = true
is_start (body.Vary drive setting) = false

-- While an unmarked start is at work, there is room for what it reads next.
abbrev pub StartRoom : Library → Type 0
StartRoom l = (j : Job) → l.work ≡ Some j → is_start j.request.body ≡ true → is_unmarked j.request.mark ≡ true → length l.stock.filed < 256

-- A mount, dismount, eject or enter: what moves cartridges.
abbrev pub moves : Body → Bool
moves (body.Cancel target) = false
moves (body.Dismount label drive force) = true
moves (body.Eject label) = true
moves body.Enter = true
moves (body.Idle force) = false
moves (body.Mount label drive) = true
moves (body.Query label) = false
moves body.Start = false
moves (body.Vary drive setting) = false

-- The catalogue is in use, or what moves cartridges waits or is at work.
abbrev pub in_use : Library → Bool
in_use l = filing l.state || any_of (λ q. moves q.body) (unanswered l)

-- A robot that meant `start`, the events since, and the library as it stands.
pub record Upheld (start : Meaning) (es : List Event) (l : Library) : Type 0 where
  -- Number by number, what hand and places hold and what was taken is what they held at first and what was put.
  pub nothing_lost : (k : ℕ) → 0 < k → cartridges_of k l.stock.robot + sum_by (takes k) es ≡ cartridges_of k start + sum_by (puts k) es
  -- Once a start has succeeded the hand is empty.
  pub hand_empty : started es ≡ true → l.stock.robot.hand ≡ 0
  -- While no request is at work, the inventory of every start since the door was last opened, changed by the entries of all
  -- later finals, is what cells and drives hold.
  pub inventory_true : (left es).working ≡ false → Each (Agrees l.stock.robot) (inventories start.kinds es)
  -- The requests acknowledged are those answered by steps, in that order, then those left.
  pub in_order : acknowledged es ≡ answered es ++ (left es).numbers
  -- The library's own request at work and those that wait in it are those left.
  pub own_queue : own_left l ≡ left es
  -- While the state is run or idle pending the catalogue is true.
  pub catalogue_true : filing l.state ≡ true → CatalogueTrue l.stock.filed l.stock.robot
  -- No two requests left have the same number.
  pub numbers_distinct : Distinct (left es).numbers
  -- The bounds of catalogue and entries are never met.
  pub room_left : EntryRoom l × RowRoom l × StartRoom l
  -- Where cartridges can move, each place's number fits a byte.
  pub places_fit : in_use l ≡ true → count l.stock.robot ≤ 256

-- A refused call leaves everything as it was.
abbrev pub RefusedUnchanged : Type 0
RefusedUnchanged = (l : Library) (c : Call) (why : CallRefusal) → (after l c).reply ≡ refused why → (after l c).library ≡ l

-- The events of a run: its calls, each with its reply.
abbrev pub events_of : List Call → List Reply → List Event
events_of [] rs = []
events_of (c ∷ cs) [] = []
events_of (c ∷ cs) (r ∷ rs) = record { call = c; reply = r } ∷ events_of cs rs

-- After each call of a run on a new library over a robot that means `start`: the calls made, and the replies that they got.
abbrev pub Law : Meaning → ℕ → ℕ → List Call → List Reply → Type 0
Law start slots message_slots calls replies =
    (n : ℕ) → Upheld start (take n (events_of calls replies)) (stands (fresh (record { robot = start; filed = [] }) slots message_slots) (take n calls))
