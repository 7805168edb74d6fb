-- What each turn keeps.
use Rattle.std.proofs.Common.{◌≡◌, ℕ, ◌+◌, ◌-◌, ◌<◌, ◌≤◌, Bool, true, false, cond, eqb, ltb, ◌≢◌, List, [], ◌∷◌, ◌++◌, map, length, set, Some, None, Ok, Err, Option, Result, sym, refl, ap, ◌∙◌, arith}
use mathlib.Core.Path.{subst⁻¹}
use Rattle.std.proofs.lemmas.List.Sums.{fold_push}
use Rattle.std.proofs.lemmas.Bool.{and_right, eqb-false, eqb-true, cond-true, lt-ltb}
use Rattle.std.proofs.lemmas.Bool.Decides.{nat_tests}
use Rattle.labels.specs.Numbers.{number_of}
use Rattle.statuses.specs.declared.Status.TheVariants as status
use Rattle.requests.specs.declared.bodies.Body.{Body}
use Rattle.requests.specs.declared.bodies.Body.TheVariants as body
use Rattle.requests.specs.declared.bodies.Mark.{Mark}
use Rattle.requests.specs.declared.bodies.Mark.TheVariants.{Unmarked, Cancelled, Aborted}
use Rattle.requests.specs.declared.bodies.Request.{Request}
use Rattle.responses.specs.declared.Entry.{Entry}
use Rattle.responses.specs.RoundTrips.{Entered}
use Rattle.robots.specs.declared.kind.Kind.{Kind}
use Rattle.robots.specs.declared.fault.Fault.{Fault}
use Rattle.robot_moves.specs.declared.movement.Stopped.{Stopped}
use Rattle.robot_moves.specs.declared.movement.Stopped.TheVariants.{NoTarget}
use Rattle.robot_moves.specs.declared.search.Wanted.TheVariants.{FreeCell}
use Rattle.robots.specs.Meaning.{Meaning, Sound, count, held_at}
use Rattle.robots.specs.Acts.{left, set_refusal, set_down, with_held}
use Rattle.robots.specs.Cartridges.{cartridges_of}
use Rattle.robot_moves.specs.Movement.{Emptying, cleared, hand_emptied}
use Rattle.robot_moves.specs.Search.{next_free_cell, next_full_port, up_to}
use Rattle.robots.proofs.Acts.{set_keeps, set_tells}
use Rattle.robot_moves.proofs.Places.{first_passes}
use Rattle.stock.specs.declared.refusal.Refusal.{Refusal}
use Rattle.stock.specs.Refusals.{status_of, detail_of}
use Rattle.stock.specs.Holding.{held_in}
use Rattle.stock.specs.Models.{Stocked}
use Rattle.stock.specs.Moves.{Done, Entered as EnteredOne, entry_for, entered}
use Rattle.stock.specs.Starts.{fit, begun_if, cleared_as, cleared_by, read_at}
use Rattle.library.specs.declared.state.State.{State}
use Rattle.library.specs.Library.{Job}
use Rattle.library.specs.Entering.{entries_more}
use Rattle.library.specs.Turns.{Turned, Going}
use Rattle.library.specs.Turns.Going.{stays, ends}
use Rattle.library.specs.Verdicts.{Ending, done_with, moved_verdict, refused_by}
use Rattle.library.specs.Verdicts.Shown.{nothing, listed}
use Rattle.steps.specs.Turning.{begun, continued, enter_on, enter_taken, entered_turn, gone_on, moved_turn, shown_marked, start_on_if, start_taken, taken}
use Rattle.server.specs.Answers.{shown_entries}
use Rattle.server.specs.Hands.{is_enter}
use Rattle.site.specs.Hearing.{succeeds_in}
use Rattle.site.specs.Inventories.{Inventory, all, changed, changed_by, told, told_more}
use Rattle.site.specs.Law.{Each}
use Rattle.site.proofs.Ways.{cells, holding, sound_set, sound_moved}
use Rattle.site.proofs.Carried.{Carried, Treated, carried-mounted, carried-dismounted, carried-ejected, treated-entered, told_moved, counts_moved, unchanged}
use Rattle.site.proofs.Carried.Carried.{still, carried}
use Rattle.site.proofs.Carried.Treated.{kept, treated}
use Rattle.site.proofs.Good.{JobGood}
use Rattle.steps.specs.Stepping.{work_after}
use Rattle.site.proofs.Sane.{Booked, GoingGood, heard_end, now_started, Proper, Sane, entries_so_far, final_heard, hearing, so_far}
use Rattle.site.proofs.Written.{ShownGood, inventory_told}

-- A fact of each inventory, and of each once it is changed.
pub each_map : {A B : Type 0} (P : A → Type 0) (Q : B → Type 0) (f : A → B) → ((x : A) → P x → Q (f x)) → (xs : List A) → Each P xs → Each Q (map f xs)
each_map P Q f g [] h = tt
each_map P Q f g (x ∷ xs) h = (g x h.0, each_map P Q f g xs h.1)

pub each_to : {A : Type 0} (P Q : A → Type 0) → ((x : A) → P x → Q x) → (xs : List A) → Each P xs → Each Q xs
each_to P Q g [] h = tt
each_to P Q g (x ∷ xs) h = (g x h.0, each_to P Q g xs h.1)

module _ (s : Stocked) (w : Option Job) (q : Request) where
  abbrev before : Meaning
  before = s.robot

  -- What a turn's entries tell, given those so far.
  abbrev pub Tells : List Entry → Meaning → Type 0
  Tells es m = (i : Inventory) → before.hand ≡ 0 → count before ≤ 256 → changed_by before.kinds i (entries_so_far w) ≡ cells before → changed_by before.kinds i es ≡ cells m

  module _ (t : Turned)
      (counts : (k : ℕ) → 0 < k → cartridges_of k t.stock.robot ≡ cartridges_of k before)
      (kinds : t.stock.robot.kinds ≡ before.kinds)
      (sound : Sound t.stock.robot)
      (hand : before.hand ≡ 0 → t.stock.robot.hand ≡ 0) where
    abbrev behind : Meaning
    behind = t.stock.robot

    few : count before ≤ 256 → count behind ≤ 256
    few h = subst⁻¹ (λ (ks : List Kind). length ks ≤ 256) kinds h

    pub proper-ends : (v : Ending) → t.course.goes ≡ ends v → ShownGood v.shown → succeeds_in (Some (final_heard q v behind)) ≡ false → Tells (all (shown_entries v.shown)) behind → Proper s w q t
    proper-ends v e good lost tell = record {
      counts = counts;
      kinds = kinds;
      sound = sound;
      shown = subst⁻¹ GoingGood e good;
      sane = λ is st d shut h.
          subst⁻¹ (λ (g : Going). Sane (hearing before.kinds true (heard_end g q behind) is) (now_started true st (heard_end g q behind)) (work_after g q) d behind) e
          (record {
            hand = subst⁻¹ (λ (x : Bool). cond x true st ≡ true → behind.hand ≡ 0) lost (λ y. hand (h.hand y));
            books = subst⁻¹ (λ (x : Bool). Each (Booked d [] behind) (told_more x (told (Some (final_heard q v behind))) (map (λ i. changed_by before.kinds i (all (shown_entries v.shown))) is))) lost
                (each_map (Booked d (entries_so_far w) before) (Booked d [] behind) (λ i. changed_by before.kinds i (all (shown_entries v.shown)))
                (λ i b. (b.0, hand b.1, few b.2, tell i b.1 b.2 b.3)) is h.books);
          });
    }

    pub proper-stays : (p : ℕ) (es : List Entry) → t.course.goes ≡ stays p es → Tells (so_far q.body es) behind → Proper s w q t
    proper-stays p es e tell = record {
      counts = counts;
      kinds = kinds;
      sound = sound;
      shown = subst⁻¹ GoingGood e tt;
      sane = λ is st d shut h.
          subst⁻¹ (λ (g : Going). Sane (hearing before.kinds true (heard_end g q behind) is) (now_started true st (heard_end g q behind)) (work_after g q) d behind) e
          (record {
            hand = λ y. hand (h.hand y);
            books = each_map (Booked d (entries_so_far w) before) (Booked d (so_far q.body es) behind) (λ i. changed_by before.kinds i [])
                (λ i b. (b.0, hand b.1, few b.2, ap (λ (ks : List Kind). changed_by ks i (so_far q.body es)) kinds ∙ tell i b.1 b.2 b.3)) is h.books;
          });
    }

  -- Nothing moves.
  pub proper-same : (t : Turned) (v : Ending) → Sound before → t.stock.robot ≡ before → t.course.goes ≡ ends v → ShownGood v.shown → succeeds_in (Some (final_heard q v t.stock.robot)) ≡ false → all (shown_entries v.shown) ≡ entries_so_far w → Proper s w q t
  proper-same t v sound r e good lost same =
      proper-ends t (λ k h. ap (cartridges_of k) r) (ap (λ (m : Meaning). m.kinds) r) (subst⁻¹ Sound r sound) (λ h. ap (λ (m : Meaning). m.hand) r ∙ h) v e good lost
      (λ i h f x. ap (changed_by before.kinds i) same ∙ x ∙ sym (ap cells r))

  -- One cartridge is moved, or none.
  pub proper-carried : (d : Done) (st : State) → Sound before → Carried s d → ((v : Ending) (m : Meaning) → succeeds_in (Some (final_heard q v m)) ≡ false) → entries_so_far w ≡ [] → Proper s w q (moved_turn d st)
  proper-carried d st sound (still why e r) lost none =
      proper-same (moved_turn d st) (refused_by (status_of why) (detail_of why) nothing) sound r (ap (λ (x : Result Entry Refusal). ends (moved_verdict x)) e) tt (lost (refused_by (status_of why) (detail_of why) nothing) d.stock.robot) (sym none)
  proper-carried d st sound (carried a b e v) lost none =
      let entry : Entry = entry_for (held_at before a) a b status.Success in
      let some : 1 ≤ held_at before a = go (held_at before a) v.full in
      proper-ends (moved_turn d st) (λ k h. counts_moved k h before d.stock.robot a b sound v) (ap (λ (m : Meaning). m.kinds) v.is) (sound_moved before d.stock.robot a b sound v) (λ h. ap (λ (m : Meaning). m.hand) v.is)
      (done_with (listed (entry ∷ []))) (ap (λ (x : Result Entry Refusal). ends (moved_verdict x)) e) (omega arith, (some, sound.held_numbers a, tt)) (lost (done_with (listed (entry ∷ []))) d.stock.robot)
      (λ i h few x. ap (λ (j : Inventory). changed before.kinds j entry) (ap (changed_by before.kinds i) (sym none) ∙ x) ∙ told_moved before d.stock.robot a b status.Success sound few v)
    where
      go : (n : ℕ) → n ≢ 0 → 1 ≤ n
      go n h = omega arith

-- A cartridge in the hand when a start is taken.
pub data Clears (m : Meaning) (e : Emptying) : Type 0 where
  empty-already : m.hand ≡ 0 → e.answer ≡ Ok tt → e.robot ≡ m → Clears m e
  no_cell : e.answer ≡ Err NoTarget → e.robot ≡ m → Clears m e
  set-down : (q : ℕ) → m.hand ≢ 0 → set_refusal m q ≡ None → e.answer ≡ Ok tt → e.robot ≡ set_down m q → Clears m e

module _ (m : Meaning) (p : ℕ) where
  clears-to : m.hand ≢ 0 → (o : Option ℕ) → next_free_cell m p ≡ o → Clears m (cleared o m)
  clears-to full None e = no_cell refl refl
  clears-to full (Some q) e =
      let t = first_passes FreeCell m (up_to (p + 1) (count m) ++ up_to 0 (p + 1)) q e in
      set-down q full (grind (arith, nat_tests)) refl refl

  clears-if : (b : Bool) → eqb m.hand 0 ≡ b → Clears m (cond b (record { answer = Ok tt; robot = m }) (cleared (next_free_cell m p) m))
  clears-if true e = empty-already (eqb-true _ _ e) refl refl
  clears-if false e = clears-to (eqb-false _ _ e) (next_free_cell m p) refl

  pub clears : Clears m (hand_emptied m p)
  clears = clears-if (eqb m.hand 0) refl

pub fit_few : (m : Meaning) → fit m ≡ true → count m ≤ 256
fit_few m e = grind (arith, nat_tests)

-- The taking step.
module _ (k : ℕ) (mk : Mark) (s : Stocked) (st : State) (sound : Sound s.robot) where
  abbrev asked : Body → Request
  asked b = record { number = k; mark = mk; body = b }

  abbrev Taken : Body → Turned → Type 0
  Taken b t = Proper s None (asked b) t

  abbrev emptied : Stocked
  emptied = record { robot = s.robot; filed = [] }

  cleared-proper : (e : Emptying) → Clears s.robot e → Taken body.Start (start_taken (cleared_by e emptied) st)
  cleared-proper e (empty-already h a r) =
      proper-stays s None (asked body.Start) (start_taken (cleared_by e emptied) st)
      (λ j h'. ap (cartridges_of j) (robot-is ∙ r)) (ap (λ (m : Meaning). m.kinds) (robot-is ∙ r)) (subst⁻¹ Sound (robot-is ∙ r) sound) (λ h'. ap (λ (m : Meaning). m.hand) (robot-is ∙ r) ∙ h')
      0 [] (ap (λ (x : Result (Unit {0}) Stopped). (start_taken (cleared_as x e.robot emptied) st).course.goes) a) (λ i h' f x. x ∙ sym (ap cells (robot-is ∙ r)))
    where
      robot-is : (start_taken (cleared_by e emptied) st).stock.robot ≡ e.robot
      robot-is = ap (λ (x : Result (Unit {0}) Stopped). (start_taken (cleared_as x e.robot emptied) st).stock.robot) a
  cleared-proper e (no_cell a r) =
      proper-same s None (asked body.Start) (start_taken (cleared_by e emptied) st) _ sound
      (ap (λ (x : Result (Unit {0}) Stopped). (start_taken (cleared_as x e.robot emptied) st).stock.robot) a ∙ r)
      (ap (λ (x : Result (Unit {0}) Stopped). (start_taken (cleared_as x e.robot emptied) st).course.goes) a) tt refl refl
  cleared-proper e (set-down q full may a r) =
      proper-stays s None (asked body.Start) (start_taken (cleared_by e emptied) st)
      (λ j h. ap (cartridges_of j) (robot-is ∙ r) ∙ set_keeps s.robot q j sound.held_length) (ap (λ (m : Meaning). m.kinds) whole) (subst⁻¹ Sound whole (sound_set s.robot q s.robot.hand 0 sound (set_tells s.robot q may).0 sound.hand_number (omega arith)))
      (λ h. absurd (full h)) 0 [] (ap (λ (x : Result (Unit {0}) Stopped). (start_taken (cleared_as x e.robot emptied) st).course.goes) a) (λ i h f x. absurd (full h))
    where
      robot-is : (start_taken (cleared_by e emptied) st).stock.robot ≡ e.robot
      robot-is = ap (λ (x : Result (Unit {0}) Stopped). (start_taken (cleared_as x e.robot emptied) st).stock.robot) a

      whole : (start_taken (cleared_by e emptied) st).stock.robot ≡ holding s.robot (set s.robot.held q s.robot.hand) 0
      whole = robot-is ∙ r ∙ ap (λ (o : Option Fault). left o s.robot (with_held s.robot q s.robot.hand 0)) may

  start-proper : (b : Bool) → Taken body.Start (start_taken (begun_if b s) st)
  start-proper false = proper-same s None (asked body.Start) _ _ sound refl refl tt refl refl
  start-proper true = cleared-proper _ (clears s.robot (count s.robot - 1))

  begun-proper : (b : Body) → Taken b (begun b s st)
  begun-proper (body.Cancel target) = proper-same s None (asked (body.Cancel target)) _ _ sound refl refl tt refl refl
  begun-proper (body.Dismount label drive force) = proper-carried s None (asked (body.Dismount label drive force)) _ st sound (carried-dismounted s (number_of label.chars) force drive) (λ v m. refl) refl
  begun-proper (body.Eject label) = proper-carried s None (asked (body.Eject label)) _ st sound (carried-ejected s (number_of label.chars)) (λ v m. refl) refl
  begun-proper body.Enter = proper-stays s None (asked body.Enter) (enter_taken s st) (λ j h. refl) refl sound (λ h. h) 0 [] refl (λ i h f x. x)
  begun-proper (body.Idle force) = proper-same s None (asked (body.Idle force)) _ _ sound refl refl tt refl refl
  begun-proper (body.Mount label drive) = proper-carried s None (asked (body.Mount label drive)) _ st sound (carried-mounted s (number_of label.chars) drive) (λ v m. refl) refl
  begun-proper (body.Query label) = proper-same s None (asked (body.Query label)) _ _ sound refl refl tt refl refl
  begun-proper body.Start = start-proper (fit s.robot)
  begun-proper (body.Vary drive setting) = proper-same s None (asked (body.Vary drive setting)) _ _ sound refl refl tt refl refl

-- A marked enter shows its entries, and no other request has any.
shown_marked_holds : (b : Body) (es : List Entry) → all (shown_entries (shown_marked b es)) ≡ so_far b es
shown_marked_holds (body.Cancel target) es = refl
shown_marked_holds (body.Dismount label drive force) es = refl
shown_marked_holds (body.Eject label) es = refl
shown_marked_holds body.Enter es = refl
shown_marked_holds (body.Idle force) es = refl
shown_marked_holds (body.Mount label drive) es = refl
shown_marked_holds (body.Query label) es = refl
shown_marked_holds body.Start es = refl
shown_marked_holds (body.Vary drive setting) es = refl

good_marked : (b : Body) (es : List Entry) → length es ≤ 21 → Entered es → ShownGood (shown_marked b es)
good_marked (body.Cancel target) es few numbers = tt
good_marked (body.Dismount label drive force) es few numbers = tt
good_marked (body.Eject label) es few numbers = tt
good_marked body.Enter es few numbers = (few, numbers)
good_marked (body.Idle force) es few numbers = tt
good_marked (body.Mount label drive) es few numbers = tt
good_marked (body.Query label) es few numbers = tt
good_marked body.Start es few numbers = tt
good_marked (body.Vary drive setting) es few numbers = tt

none_so_far : (b : Body) → so_far b [] ≡ []
none_so_far b = go (is_enter b)
  where
    go : (x : Bool) → ◌≡◌ {A = List Entry} (cond x [] []) []
    go true = refl
    go false = refl

pub taken_proper : (k : ℕ) (mk : Mark) (b : Body) (s : Stocked) (st : State) → Sound s.robot → Proper s None (record { number = k; mark = mk; body = b }) (taken mk b s st)
taken_proper k Unmarked b s st sound = begun-proper k Unmarked s st sound b
taken_proper k Cancelled b s st sound = proper-same s None (record { number = k; mark = Cancelled; body = b }) _ _ sound refl refl (good_marked b [] (omega arith) tt) (and_right _ _ refl) (shown_marked_holds b [] ∙ none_so_far b)
taken_proper k Aborted b s st sound = proper-same s None (record { number = k; mark = Aborted; body = b }) _ _ sound refl refl (good_marked b [] (omega arith) tt) (and_right _ _ refl) (shown_marked_holds b [] ∙ none_so_far b)

-- A later step.
module _ (k : ℕ) (mk : Mark) (s : Stocked) (st : State) (next : ℕ) (es : List Entry) (sound : Sound s.robot) where
  abbrev again : Body → Request
  again b = record { number = k; mark = mk; body = b }

  abbrev job : Body → Job
  job b = record { request = again b; next = next; entries = es }

  abbrev Later : Body → Turned → Type 0
  Later b t = Proper s (Some (job b)) (again b) t

  -- One more entry, with room for it.
  more : (e : Entry) → length es < 21 → (i : Inventory) → changed_by s.robot.kinds i (entries_more e es) ≡ changed s.robot.kinds (changed_by s.robot.kinds i es) e
  more e room i = ap (changed_by s.robot.kinds i) (cond-true (ltb (length es) 21) _ _ (lt-ltb (length es) 21 room)) ∙ fold_push (changed s.robot.kinds) i es e

  treated-proper : (p : ℕ) (e : EnteredOne) → length es < 21 → Treated s p e → Later body.Enter (entered_turn e st p es)
  treated-proper p e room (kept x y r) =
      proper-stays s (Some (job body.Enter)) (again body.Enter) (entered_turn e st p es) (λ j h. ap (cartridges_of j) r) (ap (λ (m : Meaning). m.kinds) r) (subst⁻¹ Sound r sound) (λ h. ap (λ (m : Meaning). m.hand) r ∙ h)
      (p + 1) (entries_more e.entry es) refl
      (λ i h f t. more e.entry room i ∙ ap (changed s.robot.kinds (changed_by s.robot.kinds i es)) y ∙ unchanged s.robot.kinds (changed_by s.robot.kinds i es) (held_in s.robot p) p x ∙ t ∙ sym (ap cells r))
  treated-proper p e room (treated b y v) =
      proper-stays s (Some (job body.Enter)) (again body.Enter) (entered_turn e st p es) (λ j h. counts_moved j h s.robot e.stock.robot p b sound v) (ap (λ (m : Meaning). m.kinds) v.is) (sound_moved s.robot e.stock.robot p b sound v) (λ h. ap (λ (m : Meaning). m.hand) v.is)
      (p + 1) (entries_more e.entry es) refl
      (λ i h f t. more e.entry room i ∙ ap (changed s.robot.kinds (changed_by s.robot.kinds i es)) y ∙ ap (λ (g : Inventory). changed s.robot.kinds g (entry_for (held_at s.robot p) p b status.Success)) t ∙ told_moved s.robot e.stock.robot p b status.Success sound f v)

  enter-proper : JobGood s (job body.Enter) → ((p : ℕ) → next_full_port s.robot next ≡ Some p → length es < 21) → (o : Option ℕ) → next_full_port s.robot next ≡ o → Later body.Enter (enter_on o s st es)
  enter-proper good room None e = proper-same s (Some (job body.Enter)) (again body.Enter) _ _ sound refl refl (good.few, good.numbers) refl refl
  enter-proper good room (Some p) e = treated-proper p (entered s p) (room p e) (treated-entered s p)

  -- The last step of a start tells what cells and drives hold.
  started-proper : JobGood s (job body.Start) → (more : Bool) → Later body.Start (start_on_if more (read_at s next) st next es)
  started-proper good true = proper-stays s (Some (job body.Start)) (again body.Start) _ (λ j h. refl) refl sound (λ h. h) (next + 1) es refl (λ i h f t. t)
  started-proper good false =
      let hand = (good.reading refl).0 in
      let few = fit_few s.robot (good.reading refl).1 in
      record {
        counts = λ j h. refl;
        kinds = refl;
        sound = sound;
        shown = tt;
        sane = λ is b d shut h. record {
          hand = λ _. hand;
          books = ((shut, hand, few, inventory_told s.robot sound few), each_map (Booked d [] s.robot) (Booked d [] s.robot) (λ i. changed_by s.robot.kinds i []) (λ i x. x) is h.books);
        };
      }

  gone-on-proper : (b : Body) → JobGood s (job b) → ((p : ℕ) → is_enter b ≡ true → next_full_port s.robot next ≡ Some p → length es < 21) → Later b (gone_on b s st next es)
  gone-on-proper (body.Cancel target) good room = proper-same s (Some (job (body.Cancel target))) (again (body.Cancel target)) _ _ sound refl refl tt refl refl
  gone-on-proper (body.Dismount label drive force) good room = proper-same s (Some (job (body.Dismount label drive force))) (again (body.Dismount label drive force)) _ _ sound refl refl tt refl refl
  gone-on-proper (body.Eject label) good room = proper-same s (Some (job (body.Eject label))) (again (body.Eject label)) _ _ sound refl refl tt refl refl
  gone-on-proper body.Enter good room = enter-proper good (λ p e. room p refl e) (next_full_port s.robot next) refl
  gone-on-proper (body.Idle force) good room = proper-same s (Some (job (body.Idle force))) (again (body.Idle force)) _ _ sound refl refl tt refl refl
  gone-on-proper (body.Mount label drive) good room = proper-same s (Some (job (body.Mount label drive))) (again (body.Mount label drive)) _ _ sound refl refl tt refl refl
  gone-on-proper (body.Query label) good room = proper-same s (Some (job (body.Query label))) (again (body.Query label)) _ _ sound refl refl tt refl refl
  gone-on-proper body.Start good room = started-proper good (ltb (next + 1) (count s.robot))
  gone-on-proper (body.Vary drive setting) good room = proper-same s (Some (job (body.Vary drive setting))) (again (body.Vary drive setting)) _ _ sound refl refl tt refl refl

pub later_proper : (k : ℕ) (mk : Mark) (b : Body) (s : Stocked) (st : State) (next : ℕ) (es : List Entry) → Sound s.robot
    → JobGood s (record { request = record { number = k; mark = mk; body = b }; next = next; entries = es })
    → ((p : ℕ) → is_enter b ≡ true → next_full_port s.robot next ≡ Some p → length es < 21)
    → Proper s (Some (record { request = record { number = k; mark = mk; body = b }; next = next; entries = es })) (record { number = k; mark = mk; body = b }) (continued mk b s st next es)
later_proper k Unmarked b s st next es sound good room = gone-on-proper k Unmarked s st next es sound b good room
later_proper k Cancelled b s st next es sound good room = proper-same s (Some (record { request = record { number = k; mark = Cancelled; body = b }; next = next; entries = es })) (record { number = k; mark = Cancelled; body = b }) _ _ sound refl refl (good_marked b es good.few good.numbers) (and_right _ _ refl) (shown_marked_holds b es)
later_proper k Aborted b s st next es sound good room = proper-same s (Some (record { request = record { number = k; mark = Aborted; body = b }; next = next; entries = es })) (record { number = k; mark = Aborted; body = b }) _ _ sound refl refl (good_marked b es good.few good.numbers) (and_right _ _ refl) (shown_marked_holds b es)
