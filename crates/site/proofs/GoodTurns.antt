-- What each turn leaves true of the library.
use Rattle.std.proofs.Common.{◌≡◌, ℕ, ◌+◌, ◌-◌, ◌<◌, ◌≤◌, Bool, true, false, cond, ltb, ◌≢◌, List, [], ◌∷◌, ◌++◌, length, set, Some, None, Option, Result, sym, refl, ap, ◌∙◌, arith, length-append}
use mathlib.Core.Path.{subst⁻¹}
use Rattle.std.proofs.lemmas.Bool.{cond-false, le-ltb, eq-eqb, false≢true, ltb-true, ltb-false}
use Rattle.labels.specs.Numbers.{number_of, unreadable_number}
use Rattle.requests.specs.declared.bodies.Body.{Body}
use Rattle.requests.specs.declared.bodies.Body.TheVariants as body
use Rattle.requests.specs.declared.bodies.Mark.{Mark}
use Rattle.requests.specs.declared.bodies.Mark.TheVariants.{Unmarked, Cancelled, Aborted}
use Rattle.requests.specs.declared.bodies.Request.{Request}
use Rattle.responses.specs.declared.Entry.{Entry}
use Rattle.responses.specs.RoundTrips.{Entered}
use Rattle.robots.specs.declared.fault.Fault.{Fault}
use Rattle.robot_moves.specs.declared.movement.Stopped.{Stopped}
use Rattle.robots.specs.Meaning.{Meaning, Sound, count, held_at}
use Rattle.robots.specs.Acts.{left, with_held}
use Rattle.robot_moves.specs.Movement.{Emptying}
use Rattle.robot_moves.specs.Search.{next_full_port, up_to}
use Rattle.stock.specs.declared.catalogue.Filed.{Filed}
use Rattle.stock.specs.Models.{Stocked}
use Rattle.stock.specs.Moves.{Done, Entered as EnteredOne, dismounted, ejected, entered, mounted}
use Rattle.stock.specs.Starts.{begun_if, cleared_as, cleared_by, fit, read_at}
use Rattle.library.specs.declared.state.State.{State}
use Rattle.library.specs.declared.state.State.TheVariants as state
use Rattle.library.specs.Library.{Job, working}
use Rattle.library.specs.Entering.{entries_more}
use Rattle.library.specs.Marks.{is_unmarked}
use Rattle.library.specs.Turns.{Turned, Going}
use Rattle.library.specs.Turns.Going.{stays, ends}
use Rattle.library.specs.Verdicts.{Ending}
use Rattle.steps.specs.Stepping.{work_after}
use Rattle.steps.specs.Turning.{begun, continued, enter_on, gone_on, moved_turn, start_on_if, start_taken, taken}
use Rattle.site.specs.Catalogues.{filing}
use Rattle.site.specs.Law.{is_start}
use Rattle.site.proofs.Ways.{holding, held_is}
use Rattle.site.proofs.Carried.{Treated, treated-entered}
use Rattle.site.proofs.Carried.Treated.{kept, treated}
use Rattle.site.proofs.Filing.{Rows, RowsBelow, TrueAfter, read_length, rows_read, rows_whole, true-dismounted, true-ejected, true-entered, true-mounted}
use Rattle.site.proofs.Rows.{due_is}
use Rattle.site.proofs.Ports.{fit-kinds, fit_some, full_at, port_there, ports-kinds, ports_passed}
use Rattle.site.proofs.Good.{JobGood, Suited, WorkGood, in_idle_pending, in_recovery, is_idle, unmarked_of, Partial}
use Rattle.site.proofs.Turns.{Clears, clears, fit_few, taken_proper}
use Rattle.site.proofs.Turns.Clears.{empty-already, no_cell, set-down}

-- A start that has read nothing, and what it has read by what places hold.
partial_none : (m : Meaning) → Partial 0 [] m
partial_none m k p = sym (cond-false (ltb p 0) _ _ (le-ltb p 0 (omega arith)))

pub below_of : (m : Meaning) (n : ℕ) (xs : List Filed) → Sound m → Partial n xs m → RowsBelow n xs m
below_of m n xs s t k p = t k p ∙ ap (λ (v : ℕ). cond (ltb p n) v 0) (due_is m k p s)

pub partial_of : (m : Meaning) (n : ℕ) (xs : List Filed) → Sound m → RowsBelow n xs m → Partial n xs m
partial_of m n xs s t k p = t k p ∙ sym (ap (λ (v : ℕ). cond (ltb p n) v 0) (due_is m k p s))

-- Before the turn of a request q.
pub record Ready (s : Stocked) (st : State) (q : Request) : Type 0 where
  pub sound : Sound s.robot
  pub fitting : filing st ≡ true → fit s.robot ≡ true
  pub truth : filing st ≡ true → Rows s.filed s.robot
  pub suited : Suited s.robot q
  pub start_so : is_unmarked q.mark ≡ true → is_start q.body ≡ true → in_recovery st ≡ 1
  pub idle_so : is_unmarked q.mark ≡ true → is_idle q.body ≡ true → in_idle_pending st ≡ 1

-- How many are left unmarked of a list that began with q, where the turn left the state st.
abbrev pub Fewer : (Body → Bool) → (State → ℕ) → State → Request → Turned → Type 0
Fewer f room st q t = (x : ℕ) → unmarked_of f (q ∷ []) + x ≤ room st → unmarked_of f (working (work_after t.course.goes q)) + x ≤ room t.course.state

-- After it.
pub record Left (s : Stocked) (st : State) (q : Request) (t : Turned) : Type 0 where
  pub starts : Fewer is_start in_recovery st q t
  pub idles : Fewer is_idle in_idle_pending st q t
  pub fitting : filing t.course.state ≡ true → fit t.stock.robot ≡ true
  pub truth : filing t.course.state ≡ true → Rows t.stock.filed t.stock.robot
  pub job : WorkGood t.stock (work_after t.course.goes q)

-- The state stays, and so the counts.
going_few : (f : Body → Bool) (q : Request) (g : Going) (x r : ℕ) → unmarked_of f (q ∷ []) + x ≤ r → unmarked_of f (working (work_after g q)) + x ≤ r
going_few f q (stays p es) x r h = h
going_few f q (ends v) x r h = omega arith

-- No state files while it is in recovery.
not_filing : (st : State) → in_recovery st ≡ 1 → filing st ≡ true → ⊥
not_filing state.Run e h = let z : ◌≡◌ {A = ℕ} 0 1 = e in omega arith
not_filing state.IdlePending e h = let z : ◌≡◌ {A = ℕ} 0 1 = e in omega arith
not_filing state.Idle e h = let z : ◌≡◌ {A = ℕ} 0 1 = e in omega arith
not_filing state.Recovery e h = false≢true h

recovery_only : (st : State) → in_recovery st ≡ 1 → in_idle_pending st ≡ 0
recovery_only state.Run e = refl
recovery_only state.IdlePending e = let z : ◌≡◌ {A = ℕ} 0 1 = e in absurd (omega arith)
recovery_only state.Idle e = refl
recovery_only state.Recovery e = refl

pending_only : (st : State) → in_idle_pending st ≡ 1 → in_recovery st ≡ 0
pending_only state.Run e = refl
pending_only state.IdlePending e = refl
pending_only state.Idle e = refl
pending_only state.Recovery e = let z : ◌≡◌ {A = ℕ} 0 1 = e in absurd (omega arith)

module _ (s : Stocked) (st : State) (q : Request) (ready : Ready s st q) where
  -- A turn that leaves the state, and ends the request or has a good job.
  left_as : (t : Turned) → t.course.state ≡ st → t.stock.robot.kinds ≡ s.robot.kinds → (filing st ≡ true → Rows t.stock.filed t.stock.robot) → WorkGood t.stock (work_after t.course.goes q) → Left s st q t
  left_as t e kinds truth job = record {
    starts = λ x h. subst⁻¹ (λ (y : State). unmarked_of is_start (working (work_after t.course.goes q)) + x ≤ in_recovery y) e (going_few is_start q t.course.goes x (in_recovery st) h);
    idles = λ x h. subst⁻¹ (λ (y : State). unmarked_of is_idle (working (work_after t.course.goes q)) + x ≤ in_idle_pending y) e (going_few is_idle q t.course.goes x (in_idle_pending st) h);
    fitting = λ h. fit-kinds t.stock.robot s.robot kinds ∙ ready.fitting (sym (ap filing e) ∙ h);
    truth = λ h. truth (sym (ap filing e) ∙ h);
    job = job;
  }

  -- A turn that changes nothing and ends the request.
  left-same : (t : Turned) → t.course.state ≡ st → t.stock ≡ s → (v : Ending) → t.course.goes ≡ ends v → Left s st q t
  left-same t e same v goes =
      left_as t e (ap (λ (y : Stocked). y.robot.kinds) same) (λ h. subst⁻¹ (λ (y : Stocked). Rows y.filed y.robot) same (ready.truth h))
      (subst⁻¹ (λ (g : Going). WorkGood t.stock (work_after g q)) goes tt)

  -- A mount, dismount or eject.
  left-moved : (d : Done) → d.stock.robot.kinds ≡ s.robot.kinds → TrueAfter s d.stock → Left s st q (moved_turn d st)
  left-moved d kinds after = left_as (moved_turn d st) refl kinds (λ h. after (ready.truth h)) tt

-- The taking step of an unmarked request.
module _ (n : ℕ) (s : Stocked) (st : State) where
  abbrev asked : Body → Request
  asked b = record { number = n; mark = Unmarked; body = b }

  abbrev emptied : Stocked
  emptied = record { robot = s.robot; filed = [] }

  -- A start that is taken has an empty hand and has read nothing.
  start-job : (m : Meaning) → m.hand ≡ 0 → fit m ≡ true → JobGood (record { robot = m; filed = [] }) (record { request = asked body.Start; next = 0; entries = [] })
  start-job m hand fits = record {
    few = omega arith;
    numbers = tt;
    entering = λ e. absurd (false≢true e);
    reading = λ e. (hand, fits);
    partly = λ e u. (fit_some m fits, (omega arith), partial_none m);
  }

  start-stays : Ready s st (asked body.Start) → (m : Meaning) → m.hand ≡ 0 → m.kinds ≡ s.robot.kinds → fit s.robot ≡ true → Left s st (asked body.Start) (record { stock = record { robot = m; filed = [] }; course = record { state = st; notice = None; goes = stays 0 [] } })
  start-stays ready m hand kinds fits =
      left_as s st (asked body.Start) ready _ refl kinds (λ h. absurd (not_filing st (ready.start_so refl refl) h)) (start-job m hand (fit-kinds m s.robot kinds ∙ fits))

  -- A start that is refused leaves idle.
  start-fails : Ready s st (asked body.Start) → (s' : Stocked) (v : Ending) → Left s st (asked body.Start) (record { stock = s'; course = record { state = state.Idle; notice = None; goes = ends v } })
  start-fails ready s' v =
      let r = ready.start_so refl refl in
      record {
        starts = λ x h. omega (arith, r, h);
        idles = λ x h. omega (arith, recovery_only st r, h);
        fitting = λ h. absurd (false≢true h);
        truth = λ h. absurd (false≢true h);
        job = tt;
      }

  cleared-left : Ready s st (asked body.Start) → fit s.robot ≡ true → (e : Emptying) → Clears s.robot e → Left s st (asked body.Start) (start_taken (cleared_by e emptied) st)
  cleared-left ready fits e (empty-already h a r) =
      subst⁻¹ (λ (x : Result (Unit {0}) Stopped). Left s st (asked body.Start) (start_taken (cleared_as x e.robot emptied) st)) a
      (start-stays ready e.robot (ap (λ (m : Meaning). m.hand) r ∙ h) (ap (λ (m : Meaning). m.kinds) r) fits)
  cleared-left ready fits e (no_cell a r) =
      subst⁻¹ (λ (x : Result (Unit {0}) Stopped). Left s st (asked body.Start) (start_taken (cleared_as x e.robot emptied) st)) a (start-fails ready _ _)
  cleared-left ready fits e (set-down p full may a r) =
      let whole : e.robot ≡ holding s.robot (set s.robot.held p s.robot.hand) 0 = r ∙ ap (λ (o : Option Fault). left o s.robot (with_held s.robot p s.robot.hand 0)) may in
      subst⁻¹ (λ (x : Result (Unit {0}) Stopped). Left s st (asked body.Start) (start_taken (cleared_as x e.robot emptied) st)) a
      (start-stays ready e.robot (ap (λ (m : Meaning). m.hand) whole) (ap (λ (m : Meaning). m.kinds) whole) fits)

  start_left : Ready s st (asked body.Start) → (b : Bool) → fit s.robot ≡ b → Left s st (asked body.Start) (start_taken (begun_if b s) st)
  start_left ready false e = start-fails ready s _
  start_left ready true e = cleared-left ready e _ (clears s.robot (count s.robot - 1))

  kinds_kept : (b : Body) → Ready s st (asked b) → (begun b s st).stock.robot.kinds ≡ s.robot.kinds
  kinds_kept b ready = (taken_proper n Unmarked b s st ready.sound).kinds

  pub begun-left : (b : Body) → Ready s st (asked b) → Left s st (asked b) (begun b s st)
  begun-left (body.Cancel target) ready = left-same s st (asked (body.Cancel target)) ready _ refl refl _ refl
  begun-left (body.Dismount label drive force) ready =
      left-moved s st (asked (body.Dismount label drive force)) ready (dismounted s (number_of label.chars) force drive) (kinds_kept (body.Dismount label drive force) ready)
      (true-dismounted s ready.sound (number_of label.chars) force drive (ready.suited.1 drive (eq-eqb drive drive refl)))
  begun-left (body.Eject label) ready =
      left-moved s st (asked (body.Eject label)) ready (ejected s (number_of label.chars)) (kinds_kept (body.Eject label) ready) (true-ejected s ready.sound (number_of label.chars))
  begun-left body.Enter ready =
      left_as s st (asked body.Enter) ready _ refl refl ready.truth
      (record { few = omega arith; numbers = tt; entering = λ e. omega arith; reading = λ e. absurd (false≢true e); partly = λ e. absurd (false≢true e) })
  begun-left (body.Idle force) ready =
      let r = ready.idle_so refl refl in
      record {
        starts = λ x h. omega (arith, pending_only st r, h);
        idles = λ x h. omega (arith, r, h);
        fitting = λ h. absurd (false≢true h);
        truth = λ h. absurd (false≢true h);
        job = tt;
      }
  begun-left (body.Mount label drive) ready =
      left-moved s st (asked (body.Mount label drive)) ready (mounted s (number_of label.chars) drive) (kinds_kept (body.Mount label drive) ready)
      (true-mounted s ready.sound (number_of label.chars) drive (ready.suited.1 drive (eq-eqb drive drive refl)))
  begun-left (body.Query label) ready = left-same s st (asked (body.Query label)) ready _ refl refl _ refl
  begun-left body.Start ready = start_left ready (fit s.robot) refl
  begun-left (body.Vary drive setting) ready = left-same s st (asked (body.Vary drive setting)) ready _ refl refl _ refl

pub taken_left : (n : ℕ) (mk : Mark) (b : Body) (s : Stocked) (st : State) → Ready s st (record { number = n; mark = mk; body = b }) → Left s st (record { number = n; mark = mk; body = b }) (taken mk b s st)
taken_left n Unmarked b s st ready = begun-left n s st b ready
taken_left n Cancelled b s st ready = left-same s st (record { number = n; mark = Cancelled; body = b }) ready _ refl refl _ refl
taken_left n Aborted b s st ready = left-same s st (record { number = n; mark = Aborted; body = b }) ready _ refl refl _ refl

-- One more entry.
more_few : (e : Entry) (es : List Entry) → length es ≤ 21 → length (entries_more e es) ≤ 21
more_few e es h = go (ltb (length es) 21) refl
  where
    go : (b : Bool) → ltb (length es) 21 ≡ b → length (cond b (es ++ e ∷ []) es) ≤ 21
    go true x = let y = ltb-true (length es) 21 x in omega (arith, y, length-append es (e ∷ []))
    go false x = h

more_most : (e : Entry) (es : List Entry) → length (entries_more e es) ≤ length es + 1
more_most e es = go (ltb (length es) 21)
  where
    go : (b : Bool) → length (cond b (es ++ e ∷ []) es) ≤ length es + 1
    go true = omega (arith, length-append es (e ∷ []))
    go false = omega arith

entered_push : (e : Entry) (es : List Entry) → 1 ≤ e.cartridge → e.cartridge ≤ unreadable_number → Entered es → Entered (es ++ e ∷ [])
entered_push e [] a b h = (a, b, tt)
entered_push e (x ∷ es) a b h = (h.0, h.1, entered_push e es a b h.2)

more_numbers : (e : Entry) (es : List Entry) → 1 ≤ e.cartridge → e.cartridge ≤ unreadable_number → Entered es → Entered (entries_more e es)
more_numbers e es a b h = go (ltb (length es) 21)
  where
    go : (x : Bool) → Entered (cond x (es ++ e ∷ []) es)
    go true = entered_push e es a b h
    go false = h

some : (n : ℕ) → n ≢ 0 → 1 ≤ n
some n h = omega arith

treated_number : (s : Stocked) (p : ℕ) (e : EnteredOne) → Sound s.robot → held_at s.robot p ≢ 0 → Treated s p e → (1 ≤ e.entry.cartridge) × (e.entry.cartridge ≤ unreadable_number)
treated_number s p e sound full (kept st x r) =
    let y : e.entry.cartridge ≡ held_at s.robot p = ap (λ (z : Entry). z.cartridge) x ∙ held_is s.robot p sound in
    (subst⁻¹ (λ (n : ℕ). 1 ≤ n) y (some (held_at s.robot p) full), subst⁻¹ (λ (n : ℕ). n ≤ unreadable_number) y (sound.held_numbers p))
treated_number s p e sound full (treated b x v) =
    let y : e.entry.cartridge ≡ held_at s.robot p = ap (λ (z : Entry). z.cartridge) x in
    (subst⁻¹ (λ (n : ℕ). 1 ≤ n) y (some (held_at s.robot p) full), subst⁻¹ (λ (n : ℕ). n ≤ unreadable_number) y (sound.held_numbers p))

-- A later step of an unmarked request.
module _ (n : ℕ) (s : Stocked) (st : State) (next : ℕ) (es : List Entry) where
  abbrev again : Body → Request
  again b = record { number = n; mark = Unmarked; body = b }

  abbrev job : Body → Job
  job b = record { request = again b; next = next; entries = es }

  enter-left : Ready s st (again body.Enter) → JobGood s (job body.Enter) → (o : Option ℕ) → next_full_port s.robot next ≡ o → (enter_on o s st es).stock.robot.kinds ≡ s.robot.kinds → Left s st (again body.Enter) (enter_on o s st es)
  enter-left ready good None e kinds = left-same s st (again body.Enter) ready _ refl refl _ refl
  enter-left ready good (Some p) e kinds =
      let f = full_at s.robot next p e in
      let fits = ready.suited.0 refl in
      let one = entered s p in
      let number = treated_number s p one ready.sound f.full (treated-entered s p) in
      left_as s st (again body.Enter) ready _ refl kinds
      (λ h. true-entered s ready.sound (fit_few s.robot fits) p (port_there s.robot next p f) f.full (ready.truth h))
      (record {
        few = more_few one.entry es good.few;
        numbers = more_numbers one.entry es number.0 number.1 good.numbers;
        entering = λ x. omega (arith, more_most one.entry es, good.entering refl, ports_passed s.robot next p f, ports-kinds one.stock.robot s.robot kinds (up_to 0 (p + 1)));
        reading = λ x. absurd (false≢true x);
        partly = λ x. absurd (false≢true x);
      })

  -- A start at work, its mark aside.
  start-more : Ready s st (again body.Start) → JobGood s (job body.Start) → (b : Bool) → ltb (next + 1) (count s.robot) ≡ b → Left s st (again body.Start) (start_on_if b (read_at s next) st next es)
  start-more ready good true e =
      let part = good.partly refl refl in
      let fits = (good.reading refl).1 in
      let few = fit_few s.robot fits in
      let inside = part.0 in
      let short = part.1 in
      let room : length s.filed < 256 = omega (arith, few, inside, short) in
      left_as s st (again body.Start) ready _ refl refl (λ h. absurd (not_filing st (ready.start_so refl refl) h))
      (record {
        few = good.few;
        numbers = good.numbers;
        entering = λ x. absurd (false≢true x);
        reading = λ x. good.reading refl;
        partly = λ x u. (ltb-true (next + 1) (count s.robot) e, omega (arith, short, read_length s next), partial_of s.robot (next + 1) (read_at s next).filed ready.sound (rows_read s next ready.sound room (below_of s.robot next s.filed ready.sound part.2)));
      })
  start-more ready good false e =
      let part = good.partly refl refl in
      let fits = (good.reading refl).1 in
      let few = fit_few s.robot fits in
      let inside = part.0 in
      let short = part.1 in
      let room : length s.filed < 256 = omega (arith, few, inside, short) in
      let r = ready.start_so refl refl in
      record {
        starts = λ x h. omega (arith, r, h);
        idles = λ x h. omega (arith, recovery_only st r, h);
        fitting = λ h. fits;
        truth = λ h. rows_whole s.robot (next + 1) (read_at s next).filed ready.sound (ltb-false (next + 1) (count s.robot) e) (rows_read s next ready.sound room (below_of s.robot next s.filed ready.sound part.2));
        job = tt;
      }

  gone-on-left : (b : Body) → Ready s st (again b) → JobGood s (job b) → (gone_on b s st next es).stock.robot.kinds ≡ s.robot.kinds → Left s st (again b) (gone_on b s st next es)
  gone-on-left (body.Cancel target) ready good kinds = left-same s st (again (body.Cancel target)) ready _ refl refl _ refl
  gone-on-left (body.Dismount label drive force) ready good kinds = left-same s st (again (body.Dismount label drive force)) ready _ refl refl _ refl
  gone-on-left (body.Eject label) ready good kinds = left-same s st (again (body.Eject label)) ready _ refl refl _ refl
  gone-on-left body.Enter ready good kinds = enter-left ready good (next_full_port s.robot next) refl kinds
  gone-on-left (body.Idle force) ready good kinds = left-same s st (again (body.Idle force)) ready _ refl refl _ refl
  gone-on-left (body.Mount label drive) ready good kinds = left-same s st (again (body.Mount label drive)) ready _ refl refl _ refl
  gone-on-left (body.Query label) ready good kinds = left-same s st (again (body.Query label)) ready _ refl refl _ refl
  gone-on-left body.Start ready good kinds = start-more ready good (ltb (next + 1) (count s.robot)) refl
  gone-on-left (body.Vary drive setting) ready good kinds = left-same s st (again (body.Vary drive setting)) ready _ refl refl _ refl

pub later_left : (n : ℕ) (mk : Mark) (b : Body) (s : Stocked) (st : State) (next : ℕ) (es : List Entry) → Ready s st (record { number = n; mark = mk; body = b })
    → JobGood s (record { request = record { number = n; mark = mk; body = b }; next = next; entries = es })
    → (continued mk b s st next es).stock.robot.kinds ≡ s.robot.kinds
    → Left s st (record { number = n; mark = mk; body = b }) (continued mk b s st next es)
later_left n Unmarked b s st next es ready good kinds = gone-on-left n s st next es b ready good kinds
later_left n Cancelled b s st next es ready good kinds = left-same s st (record { number = n; mark = Cancelled; body = b }) ready _ refl refl _ refl
later_left n Aborted b s st next es ready good kinds = left-same s st (record { number = n; mark = Aborted; body = b }) ready _ refl refl _ refl
