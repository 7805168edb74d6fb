-- What is true of a library stays true by every call.
use Rattle.std.proofs.Common.{◌≡◌, ℕ, ◌+◌, ◌≤◌, Bool, true, false, cond, ◌&&◌, eqb, ltb, List, [], ◌∷◌, ◌++◌, map, length, set, Some, None, Option, sym, refl, ap, ◌∙◌, subst, append_assoc, arith}
use mathlib.Core.Path.{subst⁻¹}
use Rattle.std.proofs.lemmas.Bool.{and_parts, eqb-true, false≢true, true≢false}
use Rattle.requests.specs.declared.bodies.Body.{Body}
use Rattle.requests.specs.declared.bodies.Body.TheVariants as body
use Rattle.requests.specs.declared.bodies.Mark.{Mark}
use Rattle.requests.specs.declared.bodies.Mark.TheVariants.{Unmarked, Cancelled, Aborted}
use Rattle.requests.specs.declared.bodies.Request.{Request}
use Rattle.robots.specs.Meaning.{Meaning, Sound}
use Rattle.robot_moves.specs.Search.{is_drive, of_kind, up_to}
use Rattle.stock.specs.Models.{Stocked}
use Rattle.stock.specs.Starts.{fit}
use Rattle.library.specs.declared.state.State.{State}
use Rattle.library.specs.declared.state.State.TheVariants as state
use Rattle.library.specs.Library.{Job, Library, unanswered, working}
use Rattle.library.specs.Marks.{aborted, aborted_mark, at_work, cancelled, cancelled_if, cancels, is_unmarked, names_drive}
use Rattle.library.specs.Turns.{Turned, Going}
use Rattle.library.specs.Turns.Going.{stays, ends}
use Rattle.receipt.specs.declared.refusal.NotReceived.TheVariants as unreceived
use Rattle.receipt.specs.Accepting.{Received, accepted, queued, queued_state, received, with_cancelled, with_forced, with_queued}
use Rattle.receipt.specs.Checking.{body_refusal, drive_online, drive_refusal, drive_there, idle_refusal, refusal_if, served, start_refusal}
use Rattle.steps.specs.Stepping.{library_after, stepped_by, work_after}
use Rattle.server.specs.Door.{with_door}
use Rattle.server.specs.Hands.{is_enter}
use Rattle.site.specs.Catalogues.{CatalogueTrue, filing, filings}
use Rattle.site.specs.Law.{Each, EntryRoom, is_start, moves}
use Rattle.site.proofs.Ways.{cells}
use Rattle.site.proofs.Cases.{received_cases, queued_cases, with_robot}
use Rattle.site.proofs.Good.{Good, JobGood, Suited, WorkGood, in_idle, in_idle_pending, in_recovery, is_idle, unmarked_of}
use Rattle.site.proofs.Filing.{rows_of, true_of}
use Rattle.site.proofs.Ports.{fit-kinds, of-kinds, ports-kinds}
use Rattle.site.proofs.Sane.{Proper}
use Rattle.site.proofs.Turns.{taken_proper, later_proper, each_to}
use Rattle.site.proofs.GoodTurns.{Left, Ready, below_of, partial_of, taken_left, later_left}
use Rattle.site.proofs.Rows.{owed}

-- Requests marked anew: none is unmarked that was not, and bodies stay.
pub record Marks (g : Request → Request) : Type 0 where
  pub body : (q : Request) → (g q).body ≡ q.body
  pub mark : (q : Request) → is_unmarked (g q).mark ≡ true → is_unmarked q.mark ≡ true

unmarked_aborted : (k : Mark) → is_unmarked (aborted_mark k) ≡ false
unmarked_aborted Unmarked = refl
unmarked_aborted Cancelled = refl
unmarked_aborted Aborted = refl

aborting : Marks aborted
aborting = record { body = λ q. refl; mark = λ q h. absurd (false≢true (sym (unmarked_aborted q.mark) ∙ h)) }

cancelling : (t : ℕ) → Marks (cancelled t)
cancelling t = record { body = λ q. bodies q (cancels t q); mark = λ q. marks q (cancels t q) }
  where
    bodies : (q : Request) (b : Bool) → (cancelled_if b q).body ≡ q.body
    bodies q true = refl
    bodies q false = refl

    marks : (q : Request) (b : Bool) → is_unmarked (cancelled_if b q).mark ≡ true → is_unmarked q.mark ≡ true
    marks q true h = absurd (false≢true h)
    marks q false h = h

one_if_most : (x y : Bool) → (x ≡ true → y ≡ true) → ◌≤◌ (cond x 1 0) (cond y 1 0)
one_if_most true true h = omega arith
one_if_most true false h = absurd (false≢true (h refl))
one_if_most false y h = omega arith

module _ (g : Request → Request) (marks : Marks g) where
  one_fewer : (f : Body → Bool) (q : Request) → cond (is_unmarked (g q).mark && f (g q).body) 1 0 ≤ cond (is_unmarked q.mark && f q.body) 1 0
  one_fewer f q =
      one_if_most (is_unmarked (g q).mark && f (g q).body) (is_unmarked q.mark && f q.body)
      (λ h.
      let a = and_parts (is_unmarked (g q).mark) (f (g q).body) h in
      let b = marks.mark q a.0 in
      let c : f q.body ≡ true = ap f (sym (marks.body q)) ∙ a.1 in
      λ i. (b ∙ refl) i && c i)

  marked-fewer : (f : Body → Bool) (qs : List Request) → unmarked_of f (map g qs) ≤ unmarked_of f qs
  marked-fewer f [] = omega arith
  marked-fewer f (q ∷ qs) = omega (arith, one_fewer f q, marked-fewer f qs)

  marked_all : (f : Body → Bool) (w : Option Job) (qs : List Request) → unmarked_of f (working (at_work g w) ++ map g qs) ≤ unmarked_of f (working w ++ qs)
  marked_all f None qs = marked-fewer f qs
  marked_all f (Some j) qs = omega (arith, one_fewer f j.request, marked-fewer f qs)

  marked-suit : (m : Meaning) (q : Request) → Suited m q → Suited m (g q)
  marked-suit m q h = subst⁻¹ (λ (b : Body). (moves b ≡ true → fit m ≡ true) × ((d : ℕ) → names_drive d b ≡ true → of_kind is_drive m d ≡ true)) (marks.body q) h

  marked-suited : (m : Meaning) (qs : List Request) → Each (Suited m) qs → Each (Suited m) (map g qs)
  marked-suited m [] h = tt
  marked-suited m (q ∷ qs) h = (marked-suit m q h.0, marked-suited m qs h.1)

  all-suited : (m : Meaning) (w : Option Job) (qs : List Request) → Each (Suited m) (working w ++ qs) → Each (Suited m) (working (at_work g w) ++ map g qs)
  all-suited m None qs h = marked-suited m qs h
  all-suited m (Some j) qs h = (marked-suit m j.request h.0, marked-suited m qs h.1)

  marked-job : (s : Stocked) (w : Option Job) → WorkGood s w → WorkGood s (at_work g w)
  marked-job s None h = tt
  marked-job s (Some j) h = record {
    few = h.few;
    numbers = h.numbers;
    entering = λ e. h.entering (ap is_enter (sym (marks.body j.request)) ∙ e);
    reading = λ e. h.reading (ap is_start (sym (marks.body j.request)) ∙ e);
    partly = λ e u. h.partly (ap is_start (sym (marks.body j.request)) ∙ e) (marks.mark j.request u);
  }

  -- A library with other marks and its state kept.
  pub good_marked : (l l' : Library) → Good l → l'.work ≡ at_work g l.work → l'.waiting ≡ map g l.waiting → l'.door ≡ l.door → l'.stock ≡ l.stock → l'.state ≡ l.state → Good l'
  good_marked l l' good ew eq ed es et =
      let names : unanswered l' ≡ working (at_work g l.work) ++ map g l.waiting = λ i. working (ew i) ++ eq i in
      record {
        sound = subst⁻¹ (λ (s : Stocked). Sound s.robot) es good.sound;
        open_idle = λ h. ap in_idle et ∙ good.open_idle (sym ed ∙ h);
        starts = subst⁻¹ (λ (st : State). unmarked_of is_start (unanswered l') ≤ in_recovery st) et (subst⁻¹ (λ (qs : List Request). unmarked_of is_start qs ≤ in_recovery l.state) names (omega (arith, marked_all is_start l.work l.waiting, good.starts)));
        idles = subst⁻¹ (λ (st : State). unmarked_of is_idle (unanswered l') ≤ in_idle_pending st) et (subst⁻¹ (λ (qs : List Request). unmarked_of is_idle qs ≤ in_idle_pending l.state) names (omega (arith, marked_all is_idle l.work l.waiting, good.idles)));
        suited = subst⁻¹ (λ (s : Stocked). Each (Suited s.robot) (unanswered l')) es (subst⁻¹ (λ (qs : List Request). Each (Suited l.stock.robot) qs) names (all-suited l.stock.robot l.work l.waiting good.suited));
        fitting = λ h. subst⁻¹ (λ (s : Stocked). fit s.robot ≡ true) es (good.fitting (sym (ap filing et) ∙ h));
        truth = λ h. subst⁻¹ (λ (s : Stocked). CatalogueTrue s.filed s.robot) es (good.truth (sym (ap filing et) ∙ h));
        job = subst⁻¹ (λ (s : Stocked). WorkGood s l'.work) es (subst⁻¹ (WorkGood l.stock) ew (marked-job l.stock l.work good.job));
      }

-- Forced idle: nothing is left unmarked.
none_unmarked : (f : Body → Bool) (q : Request) → ◌≡◌ {A = ℕ} (cond (is_unmarked (aborted_mark q.mark) && f q.body) 1 0) 0
none_unmarked f q = ap (λ (b : Bool). cond (b && f q.body) 1 0) (unmarked_aborted q.mark)

none_waiting : (f : Body → Bool) (qs : List Request) → unmarked_of f (map aborted qs) ≡ 0
none_waiting f [] = refl
none_waiting f (q ∷ qs) = omega (arith, none_unmarked f q, none_waiting f qs)

none_left : (f : Body → Bool) (w : Option Job) (qs : List Request) → unmarked_of f (working (at_work aborted w) ++ map aborted qs) ≡ 0
none_left f None qs = none_waiting f qs
none_left f (Some j) qs = omega (arith, none_unmarked f j.request, none_waiting f qs)

pub good_forced : (l : Library) (n : ℕ) (d : Bool) → Good l → Good (with_door d (with_forced n l))
good_forced l n d good = record {
  sound = good.sound;
  open_idle = λ h. refl;
  starts = omega (arith, none_left is_start l.work l.waiting);
  idles = omega (arith, none_left is_idle l.work l.waiting);
  suited = all-suited aborted aborting l.stock.robot l.work l.waiting good.suited;
  fitting = λ h. absurd (false≢true h);
  truth = λ h. absurd (false≢true h);
  job = marked-job aborted aborting l.stock l.work good.job;
}

-- One more request.
unmarked_append : (f : Body → Bool) (xs ys : List Request) → unmarked_of f (xs ++ ys) ≡ unmarked_of f xs + unmarked_of f ys
unmarked_append f [] ys = omega arith
unmarked_append f (x ∷ xs) ys = omega (arith, unmarked_append f xs ys)

each_append : {A : Type 0} (P : A → Type 0) (xs ys : List A) → Each P xs → Each P ys → Each P (xs ++ ys)
each_append P [] ys h k = k
each_append P (x ∷ xs) ys h k = (h.0, each_append P xs ys h.1 k)

-- What a request that is queued asks of the state that it finds.
pub record Queueable (l : Library) (q : Request) : Type 0 where
  pub starts : unmarked_of is_start (q ∷ []) + in_recovery l.state ≤ in_recovery (queued_state q.body l.state)
  pub idles : unmarked_of is_idle (q ∷ []) + in_idle_pending l.state ≤ in_idle_pending (queued_state q.body l.state)
  pub files : filing (queued_state q.body l.state) ≡ true → filing l.state ≡ true
  pub suits : Suited l.stock.robot q

good_queued : (l : Library) (q : Request) → l.door ≡ false → Good l → Queueable l q → Good (with_queued q l)
good_queued l q shut good may =
    let names : unanswered (with_queued q l) ≡ unanswered l ++ q ∷ [] = sym (append_assoc (working l.work) l.waiting (q ∷ [])) in
    record {
      sound = good.sound;
      open_idle = λ h. absurd (true≢false (sym h ∙ shut));
      starts = subst⁻¹ (λ (qs : List Request). unmarked_of is_start qs ≤ in_recovery (queued_state q.body l.state)) names (omega (arith, unmarked_append is_start (unanswered l) (q ∷ []), good.starts, may.starts));
      idles = subst⁻¹ (λ (qs : List Request). unmarked_of is_idle qs ≤ in_idle_pending (queued_state q.body l.state)) names (omega (arith, unmarked_append is_idle (unanswered l) (q ∷ []), good.idles, may.idles));
      suited = subst⁻¹ (λ (qs : List Request). Each (Suited l.stock.robot) qs) names (each_append (Suited l.stock.robot) (unanswered l) (q ∷ []) good.suited (may.suits, tt));
      fitting = λ h. good.fitting (may.files h);
      truth = λ h. good.truth (may.files h);
      job = good.job;
    }

-- A request that is served, and what is checked of it then.
pub served_parts : (b : Bool) (x : Body) (l : Library) → refusal_if b x l ≡ None → (b ≡ true) × (body_refusal x l ≡ None)
served_parts true x l e = (refl, e)
served_parts false x l e = let z : ◌≡◌ {A = ℕ} 0 1 = cc in absurd (omega arith)

some_not_none : {A : Type 0} {X : Type 0} (x : X) → Some x ≡ None → A
some_not_none x e = let z : ◌≡◌ {A = ℕ} 0 1 = cc in absurd (omega arith)

one_most : (b : Bool) → ◌≤◌ (cond b 1 0) 1
one_most true = omega arith
one_most false = omega arith

none_of : (x : Mark) → ◌≡◌ {A = ℕ} (cond (is_unmarked x && false) 1 0) 0
none_of Unmarked = refl
none_of Cancelled = refl
none_of Aborted = refl

-- Nothing is named by a request that names no drive.
unnamed : {A : Type 0} → false ≡ true → A
unnamed e = absurd (false≢true e)

-- A start is queued in idle alone, an idle in run alone, and what moves cartridges in run alone.
start_queueable : (l : Library) (n : ℕ) (k : Mark) (st : State) → l.state ≡ st → served st body.Start ≡ true → start_refusal st ≡ None → Queueable l (record { number = n; mark = k; body = body.Start })
start_queueable l n k state.Run e s r = some_not_none unreceived.AlreadySo r
start_queueable l n k state.IdlePending e s r = unnamed s
start_queueable l n k state.Recovery e s r = unnamed s
start_queueable l n k state.Idle e s r = record {
  starts = let a = ap in_recovery e in omega (arith, a, one_most (is_unmarked k && true));
  idles = let a = ap in_idle_pending e in omega (arith, a, none_of k);
  files = λ h. unnamed h;
  suits = ((λ h. unnamed h), (λ d h. unnamed h));
}

idle_queueable : (l : Library) (n : ℕ) (k : Mark) (st : State) → l.state ≡ st → served st (body.Idle false) ≡ true → idle_refusal st false ≡ None → Queueable l (record { number = n; mark = k; body = body.Idle false })
idle_queueable l n k state.Idle e s r = some_not_none unreceived.AlreadySo r
idle_queueable l n k state.IdlePending e s r = some_not_none unreceived.IdlePending r
idle_queueable l n k state.Recovery e s r = unnamed s
idle_queueable l n k state.Run e s r = record {
  starts = let a = ap in_recovery e in omega (arith, a, none_of k);
  idles = let a = ap in_idle_pending e in omega (arith, a, one_most (is_unmarked k && true));
  files = λ h. ap filing e;
  suits = ((λ h. unnamed h), (λ d h. unnamed h));
}

-- What moves cartridges is served in run alone.
in_run : (st : State) (b : Body) → moves b ≡ true → served st b ≡ true → st ≡ state.Run
in_run state.Run b m s = refl
in_run state.IdlePending (body.Cancel target) m s = unnamed m
in_run state.IdlePending (body.Dismount label drive force) m s = unnamed s
in_run state.IdlePending (body.Eject label) m s = unnamed s
in_run state.IdlePending body.Enter m s = unnamed s
in_run state.IdlePending (body.Idle force) m s = unnamed m
in_run state.IdlePending (body.Mount label drive) m s = unnamed s
in_run state.IdlePending (body.Query label) m s = unnamed m
in_run state.IdlePending body.Start m s = unnamed m
in_run state.IdlePending (body.Vary drive setting) m s = unnamed m
in_run state.Idle (body.Cancel target) m s = unnamed m
in_run state.Idle (body.Dismount label drive force) m s = unnamed s
in_run state.Idle (body.Eject label) m s = unnamed s
in_run state.Idle body.Enter m s = unnamed s
in_run state.Idle (body.Idle force) m s = unnamed m
in_run state.Idle (body.Mount label drive) m s = unnamed s
in_run state.Idle (body.Query label) m s = unnamed m
in_run state.Idle body.Start m s = unnamed m
in_run state.Idle (body.Vary drive setting) m s = unnamed m
in_run state.Recovery (body.Cancel target) m s = unnamed m
in_run state.Recovery (body.Dismount label drive force) m s = unnamed s
in_run state.Recovery (body.Eject label) m s = unnamed s
in_run state.Recovery body.Enter m s = unnamed s
in_run state.Recovery (body.Idle force) m s = unnamed m
in_run state.Recovery (body.Mount label drive) m s = unnamed s
in_run state.Recovery (body.Query label) m s = unnamed m
in_run state.Recovery body.Start m s = unnamed m
in_run state.Recovery (body.Vary drive setting) m s = unnamed m

-- A drive that is named is there.
drive_there_holds : (x y : Bool) (d : ℕ) → drive_refusal x y d ≡ None → x ≡ true
drive_there_holds true y d e = refl
drive_there_holds false y d e = some_not_none (unreceived.NoDrive d) e

module _ (l : Library) (n : ℕ) (k : Mark) (shut : l.door ≡ false) (good : Good l) where
  abbrev asked : Body → Request
  asked b = record { number = n; mark = k; body = b }

  -- A mount, dismount, eject or enter.
  mover-queueable : (b : Body) → moves b ≡ true → is_start b ≡ false → is_idle b ≡ false → queued_state b l.state ≡ l.state → served l.state b ≡ true → ((d : ℕ) → names_drive d b ≡ true → of_kind is_drive l.stock.robot d ≡ true) → Queueable l (asked b)
  mover-queueable b m ns ni e s names =
      let x : unmarked_of is_start (asked b ∷ []) ≡ 0 = ap (λ (y : Bool). cond (is_unmarked k && y) 1 0 + 0) ns ∙ ap (λ (y : ℕ). y + 0) (none_of k) in
      let z : unmarked_of is_idle (asked b ∷ []) ≡ 0 = ap (λ (y : Bool). cond (is_unmarked k && y) 1 0 + 0) ni ∙ ap (λ (y : ℕ). y + 0) (none_of k) in
      record {
        starts = subst⁻¹ (λ (st : State). unmarked_of is_start (asked b ∷ []) + in_recovery l.state ≤ in_recovery st) e (omega (arith, x));
        idles = subst⁻¹ (λ (st : State). unmarked_of is_idle (asked b ∷ []) + in_idle_pending l.state ≤ in_idle_pending st) e (omega (arith, z));
        files = λ h. ap filing (sym e) ∙ h;
        suits = ((λ h. good.fitting (ap filing (in_run l.state b m s))), names);
      }

  abbrev GoodAfter : Received → Type 0
  GoodAfter r = Good r.library

  good-queue : (b : Body) → Queueable l (asked b) → Good (queued (asked b) l).library
  good-queue b may = queued_cases GoodAfter (asked b) l good (good_queued l (asked b) shut good may)

  drive-named : (drive d : ℕ) → of_kind is_drive l.stock.robot drive ≡ true → eqb drive d ≡ true → of_kind is_drive l.stock.robot d ≡ true
  drive-named drive d there e = ap (of_kind is_drive l.stock.robot) (sym (eqb-true drive d e)) ∙ there

  good-accepted : (b : Body) → served l.state b ≡ true → body_refusal b l ≡ None → Good (accepted b (asked b) l).library
  good-accepted (body.Cancel target) s r = good_marked (cancelled target) (cancelling target) l (with_cancelled target l) good refl refl refl refl refl
  good-accepted (body.Dismount label drive force) s r =
      good-queue (body.Dismount label drive force) (mover-queueable (body.Dismount label drive force) refl refl refl refl s (λ d e. drive-named drive d (drive_there_holds (drive_there l drive) (drive_online l drive) drive r) e))
  good-accepted (body.Eject label) s r = good-queue (body.Eject label) (mover-queueable (body.Eject label) refl refl refl refl s (λ d e. unnamed e))
  good-accepted body.Enter s r = good-queue body.Enter (mover-queueable body.Enter refl refl refl refl s (λ d e. unnamed e))
  good-accepted (body.Idle true) s r = subst (λ (d : Bool). Good (with_door d (with_forced n l))) refl (good_forced l n l.door good)
  good-accepted (body.Idle false) s r = good-queue (body.Idle false) (idle_queueable l n k l.state refl s r)
  good-accepted (body.Mount label drive) s r =
      good-queue (body.Mount label drive) (mover-queueable (body.Mount label drive) refl refl refl refl s (λ d e. drive-named drive d (drive_there_holds (drive_there l drive) (drive_online l drive) drive r) e))
  good-accepted (body.Query label) s r = good
  good-accepted body.Start s r = good-queue body.Start (start_queueable l n k l.state refl s r)
  good-accepted (body.Vary drive set) s r = record { sound = good.sound; open_idle = good.open_idle; starts = good.starts; idles = good.idles; suited = good.suited; fitting = good.fitting; truth = good.truth; job = good.job }

pub good_received : (l : Library) (q : Request) → l.door ≡ false → Good l → Good (received q l).library
good_received l q shut good =
    received_cases (λ r. Good r.library) q l (λ why. good)
    (λ may. let p = served_parts (served l.state q.body) q.body l may in good-accepted l q.number q.mark shut good q.body p.0 p.1)

-- A step.
ready_of : (l : Library) (q : Request) (rest : List Request) → Good l → unanswered l ≡ q ∷ rest → Ready l.stock l.state q
ready_of l q rest good e =
    let su : Each (Suited l.stock.robot) (q ∷ rest) = subst (λ (qs : List Request). Each (Suited l.stock.robot) qs) e good.suited in
    let a = ap (unmarked_of is_start) e in
    let b = ap (unmarked_of is_idle) e in
    record {
      sound = good.sound;
      fitting = good.fitting;
      truth = λ h. rows_of l.stock.filed l.stock.robot good.sound (good.truth h);
      suited = su.0;
      start_so = λ u s. let x : ◌≡◌ {A = ℕ} (cond (is_unmarked q.mark && is_start q.body) 1 0) 1 = λ i. cond (u i && s i) 1 0 in omega (arith, a, x, good.starts, most-recovery l.state);
      idle_so = λ u s. let x : ◌≡◌ {A = ℕ} (cond (is_unmarked q.mark && is_idle q.body) 1 0) 1 = λ i. cond (u i && s i) 1 0 in omega (arith, b, x, good.idles, most-pending l.state);
    }
  where
    most-recovery : (st : State) → in_recovery st ≤ 1
    most-recovery state.Run = omega arith
    most-recovery state.IdlePending = omega arith
    most-recovery state.Idle = omega arith
    most-recovery state.Recovery = omega arith

    most-pending : (st : State) → in_idle_pending st ≤ 1
    most-pending state.Run = omega arith
    most-pending state.IdlePending = omega arith
    most-pending state.Idle = omega arith
    most-pending state.Recovery = omega arith

-- Requests suit every robot of the same make-up.
suit_kinds : (m n : Meaning) → n.kinds ≡ m.kinds → (q : Request) → Suited m q → Suited n q
suit_kinds m n e q h = ((λ x. fit-kinds n m e ∙ h.0 x), (λ d x. of-kinds n m e is_drive d ∙ h.1 d x))

going_suited : (m : Meaning) (q : Request) (qs : List Request) (g : Going) → Each (Suited m) (q ∷ qs) → Each (Suited m) (working (work_after g q) ++ qs)
going_suited m q qs (stays p es) h = h
going_suited m q qs (ends v) h = h.1

good_finished : (l : Library) (q : Request) (qs : List Request) (t : Turned) (w : Option Job) → l.door ≡ false → Good l → unanswered l ≡ q ∷ qs → Proper l.stock w q t → Left l.stock l.state q t → Good (library_after l qs q t)
good_finished l q qs t w shut good e proper left =
    let a = ap (unmarked_of is_start) e in
    let b = ap (unmarked_of is_idle) e in
    let g = t.course.goes in
    record {
      sound = proper.sound;
      open_idle = λ h. absurd (true≢false (sym h ∙ shut));
      starts = let x = left.starts (unmarked_of is_start qs) (omega (arith, a, good.starts)) in omega (arith, x, unmarked_append is_start (working (work_after g q)) qs);
      idles = let x = left.idles (unmarked_of is_idle qs) (omega (arith, b, good.idles)) in omega (arith, x, unmarked_append is_idle (working (work_after g q)) qs);
      suited = each_to (Suited l.stock.robot) (Suited t.stock.robot) (suit_kinds l.stock.robot t.stock.robot proper.kinds) (working (work_after g q) ++ qs)
          (going_suited l.stock.robot q qs g (subst (λ (xs : List Request). Each (Suited l.stock.robot) xs) e good.suited));
      fitting = left.fitting;
      truth = λ h. true_of t.stock.filed t.stock.robot proper.sound (left.truth h);
      job = left.job;
    }

pub good_stepped : (l : Library) → l.door ≡ false → Good l → EntryRoom l → (w : Option Job) → l.work ≡ w → (old : List Request) → l.waiting ≡ old → Good (stepped_by w old l).library
good_stepped l shut good room (Some j) ew old eq =
    let q = j.request in
    let e : unanswered l ≡ q ∷ old = λ i. working (ew i) ++ eq i in
    let jg : JobGood l.stock j = subst (WorkGood l.stock) ew good.job in
    let proper = later_proper q.number q.mark q.body l.stock l.state j.next j.entries good.sound jg (λ p x f. room j ew x p f) in
    good_finished l q old _ (Some j) shut good e proper
    (later_left q.number q.mark q.body l.stock l.state j.next j.entries (ready_of l q old good e) jg proper.kinds)
good_stepped l shut good room None ew (q ∷ qs) eq =
    let e : unanswered l ≡ q ∷ qs = λ i. working (ew i) ++ eq i in
    good_finished l q qs _ None shut good e (taken_proper q.number q.mark q.body l.stock l.state good.sound)
    (taken_left q.number q.mark q.body l.stock l.state (ready_of l q qs good e))
good_stepped l shut good room None ew [] eq = good

-- Another robot of the same make-up, sound, with the same hand, and with the same cells where the door is shut.
pub good_touched : (l : Library) (m : Meaning) → Good l → Sound m → m.kinds ≡ l.stock.robot.kinds → m.hand ≡ l.stock.robot.hand → (l.door ≡ false → cells l.stock.robot ≡ cells m) → Good (with_robot m l)
good_touched l m good sound kinds hand same = record {
  sound = sound;
  open_idle = good.open_idle;
  starts = good.starts;
  idles = good.idles;
  suited = each_to (Suited l.stock.robot) (Suited m) (suit_kinds l.stock.robot m kinds) (unanswered l) good.suited;
  fitting = λ h. fit-kinds m l.stock.robot kinds ∙ good.fitting h;
  truth = λ h. true_of l.stock.filed m sound (subst (λ (c : ℕ → ℕ). (k p : ℕ) → filings k p l.stock.filed ≡ owed k (c p)) (same (shut-filing h)) (rows_of l.stock.filed l.stock.robot good.sound (good.truth h)));
  job = touched-job l.work refl good.job;
}
  where
    shut-if : (d : Bool) → l.door ≡ d → (l.door ≡ true → ⊥) → l.door ≡ false
    shut-if true e no-door = absurd (no-door e)
    shut-if false e no-door = e

    idle-files : (st : State) → in_idle st ≡ true → filing st ≡ true → ⊥
    idle-files state.Run e h = false≢true e
    idle-files state.IdlePending e h = false≢true e
    idle-files state.Idle e h = false≢true h
    idle-files state.Recovery e h = false≢true e

    shut-filing : filing l.state ≡ true → l.door ≡ false
    shut-filing h = shut-if l.door refl (λ d. idle-files l.state (good.open_idle d) h)

    idle-none : (st : State) → in_idle st ≡ true → in_recovery st ≡ 0
    idle-none state.Run e = refl
    idle-none state.IdlePending e = refl
    idle-none state.Idle e = refl
    idle-none state.Recovery e = absurd (false≢true e)

    shut-start : (j : Job) → l.work ≡ Some j → is_start j.request.body ≡ true → is_unmarked j.request.mark ≡ true → l.door ≡ false
    shut-start j ew s u =
        shut-if l.door refl (λ d.
        let x : ◌≡◌ {A = ℕ} (cond (is_unmarked j.request.mark && is_start j.request.body) 1 0) 1 = λ i. cond (u i && s i) 1 0 in
        let a : unmarked_of is_start (unanswered l) ≡ unmarked_of is_start (j.request ∷ l.waiting) = ap (λ (w : Option Job). unmarked_of is_start (working w ++ l.waiting)) ew in
        omega (arith, x, a, good.starts, idle-none l.state (good.open_idle d)))

    touched-job : (w : Option Job) → l.work ≡ w → WorkGood l.stock w → WorkGood (record { robot = m; filed = l.stock.filed }) w
    touched-job None ew h = tt
    touched-job (Some j) ew h = record {
      few = h.few;
      numbers = h.numbers;
      entering = λ e. omega (arith, h.entering e, ports-kinds m l.stock.robot kinds (up_to 0 j.next));
      reading = λ e. (hand ∙ (h.reading e).0, fit-kinds m l.stock.robot kinds ∙ (h.reading e).1);
      partly = λ e u.
          let p = h.partly e u in
          let inside = p.0 in (
            omega (arith, inside, ap (λ ks. length ks) kinds),
            p.1,
            partial_of m j.next l.stock.filed sound (subst (λ (c : ℕ → ℕ). (k q : ℕ) → filings k q l.stock.filed ≡ cond (ltb q j.next) (owed k (c q)) 0) (same (shut-start j ew e u)) (below_of l.stock.robot j.next l.stock.filed good.sound p.2)),
          );
    }
