-- The law holds of every run.
use Rattle.std.proofs.Common.{◌≡◌, ℕ, zero, suc, ◌<◌, ◌≤◌, Bool, true, false, cond, ◌||◌, ◌≢◌, List, [], ◌∷◌, ◌++◌, map, length, take, drop, set, Some, None, Option, sym, refl, ap, ◌∙◌, subst, append_assoc, append-nil, arith, length-append, length-set}
use mathlib.Core.Path.{subst⁻¹}
use Rattle.std.proofs.lemmas.List.{drop_at, get_or-set_same, get_or-set_other}
use Rattle.std.proofs.lemmas.Bool.{cond-false, false≢true, true≢false}
use Rattle.std.proofs.lemmas.Bool.Decides.{nat_tests}
use Rattle.labels.specs.declared.Label.{Label}
use Rattle.labels.specs.Numbers.{number_of, unreadable_number}
use Rattle.requests.specs.declared.bodies.Body.{Body}
use Rattle.requests.specs.declared.bodies.Body.TheVariants as body
use Rattle.requests.specs.declared.bodies.Request.{Request}
use Rattle.responses.specs.declared.Entry.{Entry}
use Rattle.ring.specs.Order.{any_of}
use Rattle.robots.specs.Meaning.{Meaning, Sound, count, held_at}
use Rattle.robots.specs.Acts.{with_held, with_service}
use Rattle.stock.specs.declared.catalogue.Filed.{Filed}
use Rattle.stock.specs.Filing.{volume_of}
use Rattle.stock.specs.Starts.{fit}
use Rattle.library.specs.declared.state.State.{State}
use Rattle.library.specs.declared.state.State.TheVariants as state
use Rattle.library.specs.Finals.{FinalFor}
use Rattle.library.specs.Library.{Job, Library, unanswered, working}
use Rattle.library.specs.Making.{fresh}
use Rattle.receipt.specs.Checking.{served}
use Rattle.steps.specs.Stepping.{stepped}
use Rattle.server.specs.Calls.{step_writes}
use Rattle.server.specs.Hands.{is_enter}
use Rattle.server.specs.Machine.{After, Call, Event, Reply, after, blank, history, replied, stands}
use Rattle.server.specs.Machine.Call.{receive, step, put, take_out, service, open-door, shut-door, message}
use Rattle.site.specs.Hearing.{answered}
use Rattle.site.specs.Inventories.{Inventory, changed_by, inventories, port_at}
use Rattle.site.specs.Turns.{is_working, left, numbers_of}
use Rattle.site.specs.Catalogues.{filing}
use Rattle.site.specs.Law.{Agrees, Distinct, Each, EntryRoom, Law, RowRoom, StartRoom, Upheld, events_of, in_use, moves}
use Rattle.site.proofs.Ways.{cells, holding, shown_cells, sound_set}
use Rattle.site.proofs.Carried.{at_port}
use Rattle.site.proofs.Cases.{if_shut, if_open, receive-cases, step-cases, put-cases, take_cases, switch-cases}
use Rattle.site.proofs.Good.{Good, JobGood, Suited, WorkGood}
use Rattle.site.proofs.Rows.{filings-more, true_few}
use Rattle.site.proofs.Filing.{Rows, free_cell, located-row, not_none, row_comes, rows_of, true_row}
use Rattle.site.proofs.Ports.{full_at, ports_few}
use Rattle.site.proofs.Sane.{Booked, entries_so_far}
use Rattle.site.proofs.Turns.{each_to, fit_few}
use Rattle.site.proofs.Fair.{QueryGood, at-the-port, fair}
use Rattle.site.proofs.GoodCalls.{good_forced, good_received, good_stepped, good_touched, served_parts}
use Rattle.site.proofs.Kept.{Kept, next}

-- An enter moves cartridges.
enter_moves : (b : Body) → is_enter b ≡ true → moves b ≡ true
enter_moves (body.Cancel target) e = absurd (false≢true e)
enter_moves (body.Dismount label drive force) e = absurd (false≢true e)
enter_moves (body.Eject label) e = absurd (false≢true e)
enter_moves body.Enter e = refl
enter_moves (body.Idle force) e = absurd (false≢true e)
enter_moves (body.Mount label drive) e = absurd (false≢true e)
enter_moves (body.Query label) e = absurd (false≢true e)
enter_moves body.Start e = absurd (false≢true e)
enter_moves (body.Vary drive setting) e = absurd (false≢true e)

-- There is room for every entry, and for every row.
entry_room : (l : Library) → Good l → EntryRoom l
entry_room l good j ew e p f =
    let jg : JobGood l.stock j = subst (WorkGood l.stock) ew good.job in
    let su : Each (Suited l.stock.robot) (j.request ∷ l.waiting) = subst (λ (w : Option Job). Each (Suited l.stock.robot) (working w ++ l.waiting)) ew good.suited in
    let fits = su.0.0 (enter_moves j.request.body e) in
    omega (arith, jg.entering e, ports_few l.stock.robot j.next p fits (full_at l.stock.robot j.next p f))

row_room : (l : Library) → Good l → RowRoom l
row_room l good h p e =
    let m = l.stock.robot in
    let xs = l.stock.filed in
    let free : (p < count m) × (held_at m p ≡ 0) = grind (arith, nat_tests) in
    let cell = free_cell m p e in
    let m' : Meaning = holding m (set m.held p 1) m.hand in
    let s = good.sound in
    let inside : p < length m.held = omega (arith, free.0, s.held_length) in
    let s' : Sound m' = sound_set m p 1 m.hand s free.0 (omega arith) s.hand_number in
    let t = rows_of xs m s (good.truth h) in
    let row : Filed = record { number = 1; place = p } in
    let whole : Rows (xs ++ row ∷ []) m' = λ k q.
    let w = row_comes 1 k q p (cells m q) (cells m' q) refl
    (λ (x : q ≡ p). ap (cells m) x ∙ cond-false (port_at m.kinds p) _ _ cell ∙ free.1)
    (λ (x : q ≡ p). ap (cells m') x ∙ cond-false (port_at m.kinds p) _ _ cell ∙ get_or-set_same m.held p 1 0 inside)
    (λ (x : q ≢ p). ap (λ (v : ℕ). cond (port_at m.kinds q) 0 v) (get_or-set_other m.held p q 1 0 x)) in
    omega (arith, filings-more k q xs row, t k q, w) in
    let most = true_few m' (xs ++ row ∷ []) s' whole in
    let few = fit_few m (good.fitting h) in
    omega (arith, most, few, length-append xs (row ∷ []))

start_room : (l : Library) → Good l → StartRoom l
start_room l good j ew e u =
    let jg : JobGood l.stock j = subst (WorkGood l.stock) ew good.job in
    let part = jg.partly e u in
    let few = fit_few l.stock.robot (jg.reading e).1 in
    omega (arith, part.0, part.1, few)

-- A query with a label is served where the catalogue is true, so it finds readable labels only.
query_files : (st : State) (label : Label) → served st (body.Query (Some label)) ≡ true → filing st ≡ true
query_files state.Run label e = refl
query_files state.IdlePending label e = refl
query_files state.Idle label e = e
query_files state.Recovery label e = e

query_good : (l : Library) → Good l → QueryGood l
query_good l good q may label eb x found =
    let s = served_parts (served l.state q.body) q.body l may in
    let h = query_files l.state label (ap (served l.state) (sym eb) ∙ s.0) in
    let k = number_of label.chars in
    let row = located-row l.stock good.sound (volume_of l.stock.filed k) k x refl found in
    let t = true_row l.stock.robot l.stock.filed x.index k x.place (rows_of l.stock.filed l.stock.robot good.sound (good.truth h)) row in
    (some k (λ (z : k ≡ 0). not_none k z t.reads), subst (λ (v : ℕ). v ≤ unreadable_number) t.held (good.sound.held_numbers x.place))
  where
    some : (n : ℕ) → n ≢ 0 → 1 ≤ n
    some n h = omega arith

-- Every call leaves a good library.
step_good : (o : Option FinalFor) (n : ℕ) (l : Library) → Good l → Good (replied (step_writes o (blank n) l)).library
step_good None n l good = good
step_good (Some f) n l good = good

sound_switched : (m : Meaning) (p : ℕ) (on : Bool) → Sound m → Sound (with_service m p on)
sound_switched m p on s = record { few = s.few; held_length = s.held_length; service_length = length-set m.service p on ∙ s.service_length; held_numbers = s.held_numbers; hand_number = s.hand_number }

abbrev Goodly : After → Type 0
Goodly a = Good a.library

good_after : (l : Library) → Good l → (c : Call) → Good (after l c).library
good_after l good (receive packet n) =
    if_shut Goodly l.door l _ good (λ shut. receive-cases Goodly l n (λ why. good) packet (λ long bad e. good) (λ long q e free. good_received l q shut good))
good_after l good (step n) =
    if_shut Goodly l.door l _ good (λ shut. step-cases Goodly l n (λ why. good) (λ long. step_good (stepped l).final n (stepped l).library (good_stepped l shut good (entry_room l good) l.work refl l.waiting refl)))
good_after l good (put p number) =
    put-cases Goodly l p (λ why. good) number
    (λ may e.
    let m = l.stock.robot in
    let t : (p < count m) × (number ≤ unreadable_number) = grind (arith, nat_tests) in
    good_touched l (with_held m p number m.hand) good (sound_set m p number m.hand good.sound t.0 t.1 good.sound.hand_number) refl refl (λ shut. at_port m p number m.hand (at-the-port l p may number shut)))
good_after l good (take_out p) =
    take_cases Goodly l p (λ why. good)
    (λ may e.
    let m = l.stock.robot in
    let t : p < count m = grind (arith, nat_tests) in
    good_touched l (with_held m p 0 m.hand) good (sound_set m p 0 m.hand good.sound t (omega arith) good.sound.hand_number) refl refl (λ shut. at_port m p 0 m.hand (at-the-port l p may 0 shut)))
good_after l good (service p on) =
    switch-cases Goodly l p (λ why. good) on
    (λ e. good_touched l (with_service l.stock.robot p on) good (sound_switched l.stock.robot p on good.sound) refl refl (λ shut. refl))
good_after l good open-door = if_shut Goodly l.door l _ good (λ shut. good_forced l 0 true good)
good_after l good shut-door =
    if_open Goodly l.door l _ good
    (λ isOpen. record { sound = good.sound; open_idle = λ h. absurd (false≢true h); starts = good.starts; idles = good.idles; suited = good.suited; fitting = good.fitting; truth = good.truth; job = good.job })
good_after l good message =
    if_shut Goodly l.door l _ good
    (λ shut. record { sound = good.sound; open_idle = good.open_idle; starts = good.starts; idles = good.idles; suited = good.suited; fitting = good.fitting; truth = good.truth; job = good.job })

module _ (start : Meaning) (sound : Sound start) (i j : ℕ) where
  abbrev new : Library
  new = fresh (record { robot = start; filed = [] }) i j

  begins : Kept start [] new
  begins = record {
    conserved = λ k h. refl;
    in_order = refl;
    rightly = record { heard_all = refl; counted = refl; at_work_holds = refl };
    kinds = refl;
    sane = record { hand = λ h. absurd (false≢true h); books = tt };
    distinct = tt;
    good = record {
      sound = sound;
      open_idle = λ h. absurd (false≢true h);
      starts = omega arith;
      idles = omega arith;
      suited = tt;
      fitting = λ h. absurd (false≢true h);
      truth = λ h. absurd (false≢true h);
      job = tt;
    };
  }

  all-kept : (cs : List Call) (es : List Event) (l : Library) → Kept start es l → Kept start (es ++ history l cs) (stands l cs)
  all-kept [] es l kept = subst⁻¹ (λ (xs : List Event). Kept start xs l) (append-nil es) kept
  all-kept (c ∷ cs) es l kept =
      let e : Event = record { call = c; reply = (after l c).reply } in
      let f = fair l kept.good (entry_room l kept.good) (query_good l kept.good) c in
      subst (λ (xs : List Event). Kept start xs (stands (after l c).library cs)) (append_assoc es (e ∷ []) (history (after l c).library cs))
      (all-kept cs (es ++ e ∷ []) (after l c).library (next start es l c (after l c) kept f (good_after l kept.good c)))

-- From what was kept to what was promised.
none_so_far : (w : Option Job) → is_working w ≡ false → entries_so_far w ≡ []
none_so_far None e = refl
none_so_far (Some j) e = absurd (true≢false e)

any_fit : (m : Meaning) (qs : List Request) → Each (Suited m) qs → any_of (λ q. moves q.body) qs ≡ true → fit m ≡ true
any_fit m [] h e = absurd (false≢true e)
any_fit m (q ∷ qs) h e = go (any_fit m qs h.1) (moves q.body) refl e
  where
    go : (any_of (λ q. moves q.body) qs ≡ true → fit m ≡ true) → (b : Bool) → moves q.body ≡ b → (b || any_of (λ q. moves q.body) qs) ≡ true → fit m ≡ true
    go ih true x y = h.0.0 x
    go ih false x y = ih y

places_fit : (l : Library) → Good l → in_use l ≡ true → count l.stock.robot ≤ 256
places_fit l good e = fit_few l.stock.robot (go (filing l.state) refl e)
  where
    go : (b : Bool) → filing l.state ≡ b → (b || any_of (λ q. moves q.body) (unanswered l)) ≡ true → fit l.stock.robot ≡ true
    go true x y = good.fitting x
    go false x y = any_fit l.stock.robot (unanswered l) good.suited y

upheld : (start : Meaning) (es : List Event) (l : Library) → Kept start es l → Upheld start es l
upheld start es l kept =
    let numbers : (left es).numbers ≡ numbers_of (unanswered l) =
    (λ k. drop (kept.rightly.counted k) (kept.rightly.heard_all k)) ∙ ap (drop (length (answered es))) kept.in_order ∙ drop_at (answered es) (numbers_of (unanswered l)) (length (answered es)) refl in
    record {
      nothing_lost = kept.conserved;
      hand_empty = kept.sane.hand;
      inventory_true = λ free.
          let none = none_so_far l.work (sym kept.rightly.at_work_holds ∙ free) in
          each_to (Booked l.door (entries_so_far l.work) l.stock.robot) (Agrees l.stock.robot)
          (λ i b p. ap (λ (f : Inventory). f p) (subst (λ (es : List Entry). changed_by l.stock.robot.kinds i es ≡ cells l.stock.robot) none b.3) ∙ sym (shown_cells l.stock.robot p kept.good.sound))
          (inventories start.kinds es) kept.sane.books;
      in_order = kept.in_order ∙ ap (λ (xs : List ℕ). answered es ++ xs) (sym numbers);
      own_queue = λ k. record { numbers = sym numbers k; working = sym kept.rightly.at_work_holds k };
      catalogue_true = kept.good.truth;
      numbers_distinct = subst⁻¹ Distinct numbers kept.distinct;
      room_left = (entry_room l kept.good, row_room l kept.good, start_room l kept.good);
      places_fit = places_fit l kept.good;
    }

-- The events of the machine's own replies are its history, and part of a run is a run.
events_are : (l : Library) (cs : List Call) → events_of cs (map (λ (e : Event). e.reply) (history l cs)) ≡ history l cs
events_are l [] = refl
events_are l (c ∷ cs) = ap (λ (es : List Event). record { call = c; reply = (after l c).reply } ∷ es) (events_are (after l c).library cs)

take_history : (n : ℕ) (l : Library) (cs : List Call) → take n (history l cs) ≡ history l (take n cs)
take_history zero l cs = refl
take_history (suc n) l [] = refl
take_history (suc n) l (c ∷ cs) = ap (λ (es : List Event). record { call = c; reply = (after l c).reply } ∷ es) (take_history n (after l c).library cs)

pub lawful : (start : Meaning) → Sound start → (i j : ℕ) (cs : List Call) (rs : List Reply) → rs ≡ map (λ (e : Event). e.reply) (history (fresh (record { robot = start; filed = [] }) i j) cs) → Law start i j cs rs
lawful start sound i j cs rs e n =
    let l = new start sound i j in
    let same : take n (events_of cs rs) ≡ history l (take n cs) = ap (λ (xs : List Reply). take n (events_of cs xs)) e ∙ ap (take n) (events_are l cs) ∙ take_history n l cs in
    subst⁻¹ (λ (es : List Event). Upheld start es (stands l (take n cs))) same (upheld start _ _ (all-kept start sound i j (take n cs) [] l (begins start sound i j)))
