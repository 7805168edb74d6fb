-- The inventories told by starts, changed by the entries of later finals.
use Rattle.std.specs.Prelude.{ℕ, Bool, true, false, cond, List, [], ◌∷◌, map, Some, None, fold, Option, ◌==◌, slice_index, slice_index_or}
use Rattle.robots.specs.declared.kind.Kind.{Kind}
use Rattle.robots.specs.declared.kind.Kind.TheVariants.{Cell}
use Rattle.robot_moves.specs.Search.{is_port}
use Rattle.responses.specs.declared.Entry.{Entry}
use Rattle.responses.specs.Responses.{Told}
use Rattle.server.specs.Machine.{Call, Reply, Event}
use Rattle.server.specs.Machine.Call.{receive, step, put, take_out, service, open-door, shut-door, message}
use Rattle.server.specs.Machine.Reply.{response, granted, took, messaged, refused, barred}
use Rattle.site.specs.Hearing.{heard, starts_by}

-- What cells and drives are told to hold, place by place: a cartridge's number, which stands for its label or six question marks, or 0.
abbrev pub Inventory : Type 0
Inventory = ℕ → ℕ

-- A make-up's place p is a port place.
abbrev pub port_at : List Kind → ℕ → Bool
port_at kinds p = is_port (slice_index_or kinds p Cell)

-- An entry whose places are equal changes nothing; else the from-place is emptied and the to-place gets the cartridge, port
-- places aside.
abbrev pub changed : List Kind → Inventory → Entry → Inventory
changed kinds told e p =
    cond (e.from == e.to) (told p)
    (cond (port_at kinds p) (told p)
    (cond (p == e.to) e.cartridge
    (cond (p == e.from) 0 (told p))))

-- Changed by entries in the order in which they were written.
abbrev pub changed_by : List Kind → Inventory → List Entry → Inventory
changed_by kinds told es = fold (changed kinds) told es

abbrev pub all : {A : Type 0} → Option (List A) → List A
all None = []
all (Some xs) = xs

abbrev pub entries_in : Option Told → List Entry
entries_in None = []
entries_in (Some t) = all t.entries

abbrev pub inventory_in : Option Told → List ℕ
inventory_in None = []
inventory_in (Some t) = all t.inventory

-- The inventory that a response tells.
abbrev pub told : Option Told → Inventory
told h p = slice_index (inventory_in h) p

-- A start that succeeds tells one more, at the front.
abbrev pub told_more : Bool → Inventory → List Inventory → List Inventory
told_more true i is = i ∷ is
told_more false i is = is

-- The door's opening ends them all.
abbrev pub ended_by : Call → List Inventory → List Inventory
ended_by (receive packet n) is = is
ended_by (step n) is = is
ended_by (put p number) is = is
ended_by (take_out p) is = is
ended_by (service p on) is = is
ended_by open-door is = []
ended_by shut-door is = is
ended_by message is = is

abbrev pub ended_if : Reply → Call → List Inventory → List Inventory
ended_if (response bytes) c is = is
ended_if granted c is = ended_by c is
ended_if (took number) c is = is
ended_if (messaged m dropped) c is = is
ended_if (refused why) c is = is
ended_if barred c is = is

-- What a call does to them: its response's entries change each, and its inventory, if it ends a start well, is one more.
abbrev pub inventories_after : List Kind → List Inventory → Event → List Inventory
inventories_after kinds is e =
    told_more (starts_by e) (told (heard e.reply))
    (map (λ i. changed_by kinds i (entries_in (heard e.reply))) (ended_if e.reply e.call is))

-- The inventories of all starts that have succeeded since the door was last opened, each changed by the entries of all later
-- finals; the latest is the first.
abbrev pub inventories : List Kind → List Event → List Inventory
inventories kinds es = fold (inventories_after kinds) [] es
