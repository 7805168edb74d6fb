-- What each call keeps.
use Rattle.std.proofs.Common.{◌≡◌, ℕ, ◌+◌, ◌<◌, ◌≤◌, Bool, true, false, cond, ◌&&◌, ◌||◌, eqb, ltb, List, [], ◌∷◌, ◌++◌, map, set, Some, None, Ok, Err, Option, Result, sym, refl, ap, ◌∙◌, subst, append_assoc, append-nil, arith}
use mathlib.Core.Path.{subst⁻¹}
use Rattle.std.proofs.lemmas.List.{map-append}
use Rattle.std.proofs.lemmas.Bool.{and_right, or_parts, true≢false, eq-eqb, ne_eqb}
use Rattle.std.proofs.lemmas.Bool.Decides.{nat_tests}
use Rattle.labels.specs.Numbers.{number_of, unreadable_number}
use Rattle.labels.specs.declared.Label.{Label}
use Rattle.statuses.specs.declared.Status.TheVariants.{Success}
use Rattle.requests.specs.declared.bodies.Body.{Body}
use Rattle.requests.specs.declared.bodies.Body.TheVariants as body
use Rattle.requests.specs.declared.bodies.Request.{Request}
use Rattle.requests.specs.declared.refusals.BadPacket.{BadPacket}
use Rattle.responses.specs.declared.Entry.{Entry}
use Rattle.responses.specs.Responses.{Told}
use Rattle.responses.specs.RoundTrips.{filled}
use Rattle.robots.specs.declared.kind.Kind.{Kind}
use Rattle.robots.specs.Meaning.{Meaning, Sound, count, held_at}
use Rattle.robots.specs.Acts.{put_refusal, take_refusal, with_held, with_service}
use Rattle.robots.specs.Cartridges.{cartridges_of}
use Rattle.robot_moves.specs.Search.{is_port, of_kind}
use Rattle.robots.proofs.Acts.{tally_set}
use Rattle.stock.specs.declared.catalogue.Row.{Row}
use Rattle.stock.specs.declared.refusal.Refusal.{Refusal}
use Rattle.stock.specs.Moves.{entry_for, located_by}
use Rattle.stock.specs.Filing.{volume_of}
use Rattle.library.specs.Library.{Job, Library, unanswered, working}
use Rattle.library.specs.Finals.{FinalFor}
use Rattle.library.specs.Marks.{aborted, at_work, cancelled, cancelled_if, cancels}
use Rattle.library.specs.Turns.{Turned, Going}
use Rattle.library.specs.Turns.Going.{stays, ends}
use Rattle.receipt.specs.declared.refusal.NotReceived.{NotReceived}
use Rattle.receipt.specs.declared.refusal.NotReceived.TheVariants.{LibraryBusy}
use Rattle.library.specs.Verdicts.{Ending, Shown, done_with, moved_verdict}
use Rattle.library.specs.Verdicts.Shown.{nothing, listed}
use Rattle.receipt.specs.Accepting.{accepted, answering, found_as, idle_accepted, not_received, queried, queued, with_cancelled, with_forced, with_queued, with_varied}
use Rattle.receipt.specs.Accepting.Said.{acknowledged as said-taken}
use Rattle.receipt.specs.Checking.{refusal_of}
use Rattle.steps.specs.Stepping.{final_after, finished, stepped_by, work_after}
use Rattle.server.specs.declared.refusal.CallRefusal.{CallRefusal}
use Rattle.server.specs.declared.refusal.CallRefusal.TheVariants.{EnterAtWork, NotPort, NoPlace}
use Rattle.server.specs.Answers.{acknowledge_told, bad_told, final_told, shown_entries}
use Rattle.server.specs.Calls.{in_use, work_has, said_outcome, step_outcome, step_writes, wrote}
use Rattle.server.specs.Door.{message_call, open_call, shut_call, within_reach}
use Rattle.server.specs.Hands.{entering}
use Rattle.server.specs.Machine.{After, Call, after, barred_call, blank, message_after, replied}
use Rattle.server.specs.Machine.Call.{receive, step, put, take_out, service, open-door, shut-door, message}
use Rattle.server.specs.Machine.Reply.{granted, took, refused, barred}
use Rattle.site.specs.Hearing.{acknowledged_in, finished_in, heard, is_step}
use Rattle.site.specs.Cartridges.{brings, if_granted, removes}
use Rattle.site.specs.Inventories.{Inventory, all, changed_by, ended_if, entries_in, port_at, told, told_more}
use Rattle.responses.specs.Reading.{response_in}
use Rattle.site.specs.Turns.{is_working, nothing_in, numbers_of, was_made, wrote_nothing}
use Rattle.ring.specs.Order.{any_of}
use Rattle.site.specs.Law.{Distinct, Each, EntryRoom, has}
use Rattle.site.proofs.Ways.{port_of}
use Rattle.site.proofs.Carried.{at_port, unchanged}
use Rattle.site.proofs.Cases.{if_shut, if_open, unmade, blank-length, receive-cases, step-cases, received_cases, queued_cases, put-cases, take_cases, switch-cases, with_robot}
use Rattle.site.proofs.Good.{Good, WorkGood}
use Rattle.site.proofs.Sane.{Booked, GoingGood, Proper, Sane, entries_so_far, heard_end, hearing, now_started, so_far}
use Rattle.site.proofs.Turns.{each_map, each_to, taken_proper, later_proper}
use Rattle.site.proofs.Written.{Writable, heard-wrote, writable_final}

abbrev pub some_left : List ℕ → Bool
some_left [] = false
some_left (n ∷ ns) = true

-- What one call keeps; h is what was heard.
pub record Fair (l : Library) (c : Call) (a : After) : Type 0 where
  pub h : Option Told
  pub hears : heard a.reply ≡ h
  pub counts : (k : ℕ) → 0 < k → cartridges_of k a.library.stock.robot + removes k a.reply ≡ cartridges_of k l.stock.robot + if_granted a.reply (brings k c)
  pub kinds : a.library.stock.robot.kinds ≡ l.stock.robot.kinds
  pub order : numbers_of (unanswered l) ++ acknowledged_in h ≡ cond (is_step c) (finished_in h) [] ++ numbers_of (unanswered a.library)
  pub new : Distinct (numbers_of (unanswered l)) → Distinct (numbers_of (unanswered l) ++ acknowledged_in h)
  pub turns : is_working a.library.work ≡ cond (is_step c && was_made a.reply) (wrote_nothing a.reply && some_left (numbers_of (unanswered l))) (is_working l.work)
  pub sane : (is : List Inventory) (st : Bool) → Sane is st l.work l.door l.stock.robot
      → Sane (hearing l.stock.robot.kinds (is_step c) h (ended_if a.reply c is)) (now_started (is_step c) st h) a.library.work a.library.door a.library.stock.robot

-- Numbers in use: one more that is not among them keeps them distinct.
has_append : (n : ℕ) (xs : List ℕ) (m : ℕ) → has n xs ≡ false → eqb m n ≡ false → has n (xs ++ m ∷ []) ≡ false
has_append n [] m e f = ap (λ (b : Bool). b || false) f
has_append n (x ∷ xs) m e f =
    let a = or_parts (eqb x n) (has n xs) e in
    rw a.0 (has_append n xs m a.1 f)

pub distinct_push : (m : ℕ) (ns : List ℕ) → Distinct ns → has m ns ≡ false → Distinct (ns ++ m ∷ [])
distinct_push m [] d e = (refl, tt)
distinct_push m (n ∷ ns) d e =
    let a = or_parts (eqb n m) (has m ns) e in
    let f : eqb m n ≡ false = ne_eqb m n (λ (x : m ≡ n). true≢false (sym (eq-eqb n m (sym x)) ∙ a.0)) in
    (has_append n ns m d.0 f, distinct_push m ns d.1 a.1)

none_new : (l : Library) → Distinct (numbers_of (unanswered l)) → Distinct (numbers_of (unanswered l) ++ [])
none_new l d = subst⁻¹ Distinct (append-nil _) d

has_numbers : (n : ℕ) (qs : List Request) → any_of (λ q. eqb q.number n) qs ≡ false → has n (numbers_of qs) ≡ false
has_numbers n [] e = refl
has_numbers n (q ∷ qs) e =
    let a = or_parts (eqb q.number n) (any_of (λ q. eqb q.number n) qs) e in
    rw a.0 (has_numbers n qs a.1)

not_named_by : (n : ℕ) (w : Option Job) (qs : List Request) → (work_has w n || any_of (λ q. eqb q.number n) qs) ≡ false → has n (numbers_of (working w ++ qs)) ≡ false
not_named_by n None qs e = has_numbers n qs e
not_named_by n (Some j) qs e = has_numbers n (j.request ∷ qs) e

not_named : (l : Library) (n : ℕ) → in_use l n ≡ false → has n (numbers_of (unanswered l)) ≡ false
not_named l n e = not_named_by n l.work l.waiting e

-- Nothing was written, and the inventories stay.
still_heard : (kinds : List Kind) (b : Bool) (is : List Inventory) (st : Bool) (w : Option Job) (d : Bool) (m : Meaning) → Sane is st w d m → Sane (hearing kinds b None is) (now_started b st None) w d m
still_heard kinds b is st w d m x = record {
  hand = subst⁻¹ (λ (y : Bool). cond y true st ≡ true → m.hand ≡ 0) (and_right b false refl) x.hand;
  books = subst⁻¹ (λ (y : Bool). Each (Booked d (entries_so_far w) m) (told_more y (told None) (map (λ i. changed_by kinds i []) is))) (and_right b false refl)
      (each_map (Booked d (entries_so_far w) m) (Booked d (entries_so_far w) m) (λ i. changed_by kinds i []) (λ i y. y) is x.books);
}

-- A call that was not made.
pub same : (l : Library) (c : Call) (why : CallRefusal) → Fair l c (unmade why l)
same l c why = record {
  h = None;
  hears = refl;
  counts = λ k x. refl;
  kinds = refl;
  order = append-nil _ ∙ go (is_step c);
  new = none_new l;
  turns = sym (ap (λ (b : Bool). cond b (wrote_nothing (refused why) && some_left (numbers_of (unanswered l))) (is_working l.work)) (and_right (is_step c) false refl));
  sane = λ is st x. still_heard l.stock.robot.kinds (is_step c) is st l.work l.door l.stock.robot x;
}
  where
    go : (b : Bool) → numbers_of (unanswered l) ≡ cond b [] [] ++ numbers_of (unanswered l)
    go true = refl
    go false = refl

pub kept_out : (l : Library) (c : Call) → Fair l c (barred_call l)
kept_out l c = record {
  h = None;
  hears = refl;
  counts = λ k x. refl;
  kinds = refl;
  order = append-nil _ ∙ go (is_step c);
  new = none_new l;
  turns = sym (ap (λ (b : Bool). cond b (wrote_nothing barred && some_left (numbers_of (unanswered l))) (is_working l.work)) (and_right (is_step c) false refl));
  sane = λ is st x. still_heard l.stock.robot.kinds (is_step c) is st l.work l.door l.stock.robot x;
}
  where
    go : (b : Bool) → numbers_of (unanswered l) ≡ cond b [] [] ++ numbers_of (unanswered l)
    go true = refl
    go false = refl

-- A change of marks changes neither number nor body.
pub record Marking (g : Request → Request) : Type 0 where
  pub number : (q : Request) → (g q).number ≡ q.number
  pub body : (q : Request) → (g q).body ≡ q.body

pub aborting : Marking aborted
aborting = record { number = λ q. refl; body = λ q. refl }

pub cancelling : (t : ℕ) → Marking (cancelled t)
cancelling t = record { number = λ q. numbers q (cancels t q); body = λ q. bodies q (cancels t q) }
  where
    numbers : (q : Request) (b : Bool) → (cancelled_if b q).number ≡ q.number
    numbers q true = refl
    numbers q false = refl

    bodies : (q : Request) (b : Bool) → (cancelled_if b q).body ≡ q.body
    bodies q true = refl
    bodies q false = refl

module _ (g : Request → Request) (mark : Marking g) where
  marked-waiting : (qs : List Request) → numbers_of qs ≡ numbers_of (map g qs)
  marked-waiting [] = refl
  marked-waiting (q ∷ qs) = λ i. sym (mark.number q) i ∷ marked-waiting qs i

  pub marked-names : (w : Option Job) (qs : List Request) → numbers_of (working w ++ qs) ≡ numbers_of (working (at_work g w) ++ map g qs)
  marked-names None qs = marked-waiting qs
  marked-names (Some j) qs = λ i. sym (mark.number j.request) i ∷ marked-waiting qs i

  marked-working : (w : Option Job) → is_working (at_work g w) ≡ is_working w
  marked-working None = refl
  marked-working (Some j) = refl

  marked-entries : (w : Option Job) → entries_so_far (at_work g w) ≡ entries_so_far w
  marked-entries None = refl
  marked-entries (Some j) = ap (λ (b : Body). so_far b j.entries) (mark.body j.request)

-- A final of receive.
abbrev Neutral : Ending → Type 0
Neutral e = (ks : List Kind) (i : Inventory) → changed_by ks i (all (shown_entries e.shown)) ≡ i

module _ (l : Library) (packet : List ℕ) (n : ℕ) (long : 2048 ≤ n) where
  abbrev c : Call
  c = receive packet n

  -- The inventories once neutral entries were heard.
  neutral-books : (es : List Entry) → ((ks : List Kind) (i : Inventory) → changed_by ks i es ≡ i) → (d : Bool) (xs : List Entry) (m : Meaning) (is : List Inventory) → Each (Booked d xs m) is → Each (Booked d xs m) (map (λ i. changed_by l.stock.robot.kinds i es) is)
  neutral-books es e d xs m is x = each_map (Booked d xs m) (Booked d xs m) (λ i. changed_by l.stock.robot.kinds i es) (λ i y. subst⁻¹ (Booked d xs m) (e l.stock.robot.kinds i) y) is x

  -- A response with neutral entries, and a library with other marks and the same robot.
  pub fair-marked : (g : Request → Request) → Marking g → (t : Told) → Writable t → acknowledged_in (Some (filled t)) ≡ [] → ((ks : List Kind) (i : Inventory) → changed_by ks i (entries_in (Some (filled t))) ≡ i)
      → (l' : Library) → l'.work ≡ at_work g l.work → l'.waiting ≡ map g l.waiting → l'.door ≡ l.door → l'.stock ≡ l.stock
      → Fair l c (replied (wrote t (blank n) l'))
  fair-marked g mark t w ack e l' ew eq ed es =
      let er : l'.stock.robot ≡ l.stock.robot = ap (λ s. s.robot) es in
      record {
        h = Some (filled t);
        hears = heard-wrote t (blank n) (blank-length (λ a. Unit {0}) l n (λ why. tt) long) w l';
        counts = λ k x. ap (λ (m : Meaning). cartridges_of k m + 0) er;
        kinds = ap (λ (m : Meaning). m.kinds) er;
        order = ap (λ (xs : List ℕ). numbers_of (unanswered l) ++ xs) ack ∙ append-nil _ ∙ marked-names g mark l.work l.waiting ∙ (λ i. numbers_of (working (sym ew i) ++ sym eq i));
        new = λ d. subst⁻¹ (λ (xs : List ℕ). Distinct (numbers_of (unanswered l) ++ xs)) ack (none_new l d);
        turns = ap is_working ew ∙ marked-working g mark l.work;
        sane = λ is st x. record {
          hand = λ y. ap (λ (m : Meaning). m.hand) er ∙ x.hand y;
          books = subst⁻¹ (λ (d : Bool). Each (Booked d (entries_so_far l'.work) l'.stock.robot) (map (λ i. changed_by l.stock.robot.kinds i (entries_in (Some (filled t)))) is)) ed
              (subst⁻¹ (λ (m : Meaning). Each (Booked l.door (entries_so_far l'.work) m) (map (λ i. changed_by l.stock.robot.kinds i (entries_in (Some (filled t)))) is)) er
              (subst⁻¹ (λ (xs : List Entry). Each (Booked l.door xs l.stock.robot) (map (λ i. changed_by l.stock.robot.kinds i (entries_in (Some (filled t)))) is)) (ap entries_so_far ew ∙ marked-entries g mark l.work)
              (neutral-books (entries_in (Some (filled t))) e l.door (entries_so_far l.work) l.stock.robot is x.books)));
        };
      }

  -- Nothing is marked.
  at_same : (w : Option Job) → w ≡ at_work (λ q. q) w
  at_same None = refl
  at_same (Some j) = refl

  map_same : (qs : List Request) → qs ≡ map (λ q. q) qs
  map_same [] = refl
  map_same (q ∷ qs) = ap (λ (xs : List Request). q ∷ xs) (map_same qs)

  fair-told : (t : Told) → Writable t → acknowledged_in (Some (filled t)) ≡ [] → ((ks : List Kind) (i : Inventory) → changed_by ks i (entries_in (Some (filled t))) ≡ i)
      → (l' : Library) → l'.work ≡ l.work → l'.waiting ≡ l.waiting → l'.door ≡ l.door → l'.stock ≡ l.stock → Fair l c (replied (wrote t (blank n) l'))
  fair-told t w ack e l' ew eq ed es = fair-marked (λ q. q) (record { number = λ q. refl; body = λ q. refl }) t w ack e l' (ew ∙ at_same l.work) (eq ∙ map_same l.waiting) ed es

  -- A request that is acknowledged.
  fair-queued : (q : Request) → in_use l q.number ≡ false → Fair l c (replied (said_outcome (record { said = said-taken q; library = with_queued q l }) (blank n)))
  fair-queued q free =
      let w : Writable (acknowledge_told q) = record { few = omega arith; places = omega arith; sound = record { entries = tt; inventory = tt } } in
      record {
        h = Some (filled (acknowledge_told q));
        hears = heard-wrote (acknowledge_told q) (blank n) (blank-length (λ a. Unit {0}) l n (λ why. tt) long) w (with_queued q l);
        counts = λ k x. refl;
        kinds = refl;
        order = sym (map-append (λ (y : Request). y.number) (unanswered l) (q ∷ [])) ∙ ap numbers_of (append_assoc (working l.work) l.waiting (q ∷ []));
        new = λ d. distinct_push q.number (numbers_of (unanswered l)) d (not_named l q.number free);
        turns = refl;
        sane = λ is st x. record {
          hand = x.hand;
          books = neutral-books [] (λ ks i. refl) l.door (entries_so_far l.work) l.stock.robot is x.books;
        };
      }

  -- A final without entries.
  fair-plain : (q : Request) (e : Ending) → e.shown ≡ nothing → (g : Request → Request) → Marking g
      → (l' : Library) → l'.work ≡ at_work g l.work → l'.waiting ≡ map g l.waiting → l'.door ≡ l.door → l'.stock ≡ l.stock → Fair l c (replied (said_outcome (answering q e l') (blank n)))
  fair-plain q e none g mark l' ew eq ed es =
      subst⁻¹ (λ (x : Shown). Fair l c (replied (said_outcome (answering q (record { status = e.status; detail = e.detail; shown = x }) l') (blank n)))) none
      (fair-marked g mark (final_told (record { request = q; ending = record { status = e.status; detail = e.detail; shown = nothing } }) l'.stock.robot) (record { few = omega arith; places = omega arith; sound = record { entries = tt; inventory = tt } }) refl (λ ks i. refl) l' ew eq ed es)

  fair-refused : (q : Request) (why : NotReceived) → Fair l c (replied (said_outcome (not_received q why l) (blank n)))
  fair-refused q why = fair-plain q _ refl (λ x. x) (record { number = λ x. refl; body = λ x. refl }) l (at_same l.work) (map_same l.waiting) refl refl

  fair-queue : (q : Request) → in_use l q.number ≡ false → Fair l c (replied (said_outcome (queued q l) (blank n)))
  fair-queue q free = queued_cases (λ r. Fair l c (replied (said_outcome r (blank n)))) q l (fair-refused q LibraryBusy) (fair-queued q free)

  -- A query of a label that is in one place tells it, and moves nothing.
  fair-found : (q : Request) (k : ℕ) (r : Result Row Refusal) → ((x : Row) → r ≡ Ok x → (1 ≤ k) × (k ≤ unreadable_number)) → Fair l c (replied (said_outcome (answering q (moved_verdict (found_as k r)) l) (blank n)))
  fair-found q k (Err why) good = fair-plain q _ refl (λ x. x) (record { number = λ x. refl; body = λ x. refl }) l (at_same l.work) (map_same l.waiting) refl refl
  fair-found q k (Ok x) good =
      let g = good x refl in
      let e : Entry = entry_for k x.place x.place Success in
      fair-told (final_told (record { request = q; ending = done_with (listed (e ∷ [])) }) l.stock.robot) (record { few = omega arith; places = omega arith; sound = record { entries = (g.0, g.1, tt); inventory = tt } }) refl
      (λ ks i. unchanged ks i k x.place Success) l refl refl refl refl

  fair-queried : (q : Request) (label : Option Label) → ((known : Label) → label ≡ Some known → (x : Row) → located_by (volume_of l.stock.filed (number_of known.chars)) ≡ Ok x → (1 ≤ number_of known.chars) × (number_of known.chars ≤ unreadable_number)) → Fair l c (replied (said_outcome (answering q (queried label l) l) (blank n)))
  fair-queried q None good = fair-plain q _ refl (λ x. x) (record { number = λ x. refl; body = λ x. refl }) l (at_same l.work) (map_same l.waiting) refl refl
  fair-queried q (Some label) good = fair-found q (number_of label.chars) (located_by (volume_of l.stock.filed (number_of label.chars))) (λ x e. good label refl x e)

  fair-idle : (q : Request) (force : Bool) → in_use l q.number ≡ false → Fair l c (replied (said_outcome (idle_accepted force q l) (blank n)))
  fair-idle q true free = fair-plain q _ refl aborted aborting (with_forced q.number l) refl refl refl refl
  fair-idle q false free = fair-queue q free

  pub fair-accepted : (b : Body) (q : Request) → in_use l q.number ≡ false → ((label : Label) → b ≡ body.Query (Some label) → (x : Row) → located_by (volume_of l.stock.filed (number_of label.chars)) ≡ Ok x → (1 ≤ number_of label.chars) × (number_of label.chars ≤ unreadable_number)) → Fair l c (replied (said_outcome (accepted b q l) (blank n)))
  fair-accepted (body.Cancel target) q free good = fair-plain q _ refl (cancelled target) (cancelling target) (with_cancelled target l) refl refl refl refl
  fair-accepted (body.Dismount label drive force) q free good = fair-queue q free
  fair-accepted (body.Eject label) q free good = fair-queue q free
  fair-accepted body.Enter q free good = fair-queue q free
  fair-accepted (body.Idle force) q free good = fair-idle q force free
  fair-accepted (body.Mount label drive) q free good = fair-queue q free
  fair-accepted (body.Query label) q free good = fair-queried q label (λ known e x y. good known (ap body.Query e) x y)
  fair-accepted body.Start q free good = fair-queue q free
  fair-accepted (body.Vary drive set) q free good = fair-plain q _ refl (λ x. x) (record { number = λ x. refl; body = λ x. refl }) (with_varied drive set l) (at_same l.work) (map_same l.waiting) refl refl

  pub fair-bad : (bad : BadPacket) → Fair l c (replied (wrote (bad_told bad) (blank n) l))
  fair-bad bad = fair-told (bad_told bad) (record { few = omega arith; places = omega arith; sound = record { entries = tt; inventory = tt } }) refl (λ ks i. refl) l refl refl refl refl

-- Nothing reads as nothing, and what reads was written.
pub reads_none : response_in [] ≡ None
unfolding response_in
reads_none = refl

wrote_some : (bytes : List ℕ) (t : Told) → response_in bytes ≡ Some t → nothing_in bytes ≡ false
wrote_some [] t e = let z : ◌≡◌ {A = Option Told} None (Some t) = sym reads_none ∙ e in let y : ◌≡◌ {A = ℕ} 0 1 = cc in absurd (omega arith)
wrote_some (b ∷ bytes) t e = refl

-- A step: the request q was at work as w says, or the oldest of those waiting.
module _ (l : Library) (n : ℕ) (long : 2048 ≤ n) (old qs : List Request) (w : Option Job) (q : Request) (ew : l.work ≡ w) (eq : l.waiting ≡ old) (names : numbers_of (working w ++ old) ≡ q.number ∷ numbers_of qs) where
  all-names : numbers_of (unanswered l) ≡ q.number ∷ numbers_of qs
  all-names = (λ i. numbers_of (working (ew i) ++ eq i)) ∙ names

  fair-going : (t : Turned) (g : Going) → t.course.goes ≡ g → l.door ≡ false → Proper l.stock w q t → Fair l (step n) (replied (step_writes (final_after g q) (blank n) (finished l qs q t).library))
  fair-going t (stays p es) e shut proper = record {
    h = None;
    hears = reads_none;
    counts = λ k x. ap (λ y. y + 0) (proper.counts k x);
    kinds = proper.kinds;
    order = append-nil _ ∙ all-names ∙ ap (λ (x : Going). numbers_of (working (work_after x q) ++ qs)) (sym e);
    new = none_new l;
    turns = ap (λ (x : Going). is_working (work_after x q)) e ∙ sym (ap some_left all-names);
    sane = λ is st x. subst (λ (y : Going). Sane (hearing l.stock.robot.kinds true (heard_end y q t.stock.robot) is) (now_started true st (heard_end y q t.stock.robot)) (work_after t.course.goes q) l.door t.stock.robot) e
        (proper.sane is st l.door shut (subst (λ (y : Option Job). Sane is st y l.door l.stock.robot) ew x));
  }
  fair-going t (ends v) e shut proper =
      let f : FinalFor = record { request = q; ending = v } in
      let told-now = final_told f t.stock.robot in
      let w = writable_final f t.stock.robot proper.sound (subst GoingGood e proper.shown) in
      let heard-now = heard-wrote told-now (blank n) (blank-length (λ a. Unit {0}) l n (λ why. tt) long) w (finished l qs q t).library in
      record {
        h = Some (filled told-now);
        hears = heard-now;
        counts = λ k x. ap (λ y. y + 0) (proper.counts k x);
        kinds = proper.kinds;
        order = append-nil _ ∙ all-names ∙ ap (λ (x : Going). q.number ∷ numbers_of (working (work_after x q) ++ qs)) (sym e);
        new = none_new l;
        turns = ap (λ (x : Going). is_working (work_after x q)) e ∙ sym (ap (λ (b : Bool). b && some_left (numbers_of (unanswered l))) (wrote_some _ (filled told-now) heard-now));
        sane = λ is st x. subst (λ (y : Going). Sane (hearing l.stock.robot.kinds true (heard_end y q t.stock.robot) is) (now_started true st (heard_end y q t.stock.robot)) (work_after t.course.goes q) l.door t.stock.robot) e
            (proper.sane is st l.door shut (subst (λ (y : Option Job). Sane is st y l.door l.stock.robot) ew x));
      }

  pub fair-finished : (t : Turned) → l.door ≡ false → Proper l.stock w q t → Fair l (step n) (replied (step_outcome (finished l qs q t) (blank n)))
  fair-finished t shut proper = fair-going t t.course.goes refl shut proper

fair_stepped : (l : Library) (n : ℕ) → 2048 ≤ n → Good l → EntryRoom l → l.door ≡ false → (w : Option Job) → l.work ≡ w → (old : List Request) → l.waiting ≡ old → Fair l (step n) (replied (step_outcome (stepped_by w old l) (blank n)))
fair_stepped l n long good room shut (Some j) ew old eq =
    fair-finished l n long old old (Some j) j.request ew eq refl _ shut
    (later_proper j.request.number j.request.mark j.request.body l.stock l.state j.next j.entries good.sound (subst (WorkGood l.stock) ew good.job) (λ p e f. room j ew e p f))
fair_stepped l n long good room shut None ew (q ∷ qs) eq =
    fair-finished l n long (q ∷ qs) qs None q ew eq refl _ shut (taken_proper q.number q.mark q.body l.stock l.state good.sound)
fair_stepped l n long good room shut None ew [] eq = record {
  h = None;
  hears = reads_none;
  counts = λ k x. refl;
  kinds = refl;
  order = append-nil _;
  new = none_new l;
  turns = ap is_working ew ∙ sym (ap (λ (xs : List ℕ). some_left xs) ((λ i. numbers_of (working (ew i) ++ eq i))));
  sane = λ is st x. still_heard l.stock.robot.kinds true is st l.work l.door l.stock.robot x;
}

-- A hand at a place that it reaches: with the door open nothing is told of the cells, and a port place is none of them.
reaches : (b d port busy : Bool) → cond d (cond b None (Some NoPlace)) (cond b (cond port (cond busy (Some EnterAtWork) None) (Some NotPort)) (Some NoPlace)) ≡ None → d ≡ false → port ≡ true
reaches b true port busy e shut = absurd (true≢false shut)
reaches true false true busy e shut = refl
reaches true false false busy e shut = let z : ◌≡◌ {A = ℕ} 0 1 = cc in absurd (omega arith)
reaches false false port busy e shut = let z : ◌≡◌ {A = ℕ} 0 1 = cc in absurd (omega arith)

module _ (l : Library) (p : ℕ) (may : within_reach l p ≡ None) (x : ℕ) where
  abbrev touched : Meaning
  touched = with_held l.stock.robot p x l.stock.robot.hand

  pub at-the-port : l.door ≡ false → port_at l.stock.robot.kinds p ≡ true
  at-the-port shut = sym (port_of l.stock.robot p) ∙ reaches (ltb p (count l.stock.robot)) l.door (of_kind is_port l.stock.robot p) (entering l.work) may shut

  touched-sane : (is : List Inventory) (st : Bool) → Sane is st l.work l.door l.stock.robot → Sane is st l.work l.door touched
  touched-sane is st s = record {
    hand = s.hand;
    books = each_to (Booked l.door (entries_so_far l.work) l.stock.robot) (Booked l.door (entries_so_far l.work) touched)
        (λ i b. (b.0, b.1, b.2, b.3 ∙ at_port l.stock.robot p x l.stock.robot.hand (at-the-port b.0))) is s.books;
  }

fair_put : (l : Library) (p number : ℕ) → Sound l.stock.robot → within_reach l p ≡ None → put_refusal l.stock.robot p number ≡ None → Fair l (put p number) (record { reply = granted; library = with_robot (with_held l.stock.robot p number l.stock.robot.hand) l })
fair_put l p number sound may e = record {
  h = None;
  hears = refl;
  counts = λ k x.
      let t : (p < count l.stock.robot) × (held_at l.stock.robot p ≡ 0) = grind (arith, nat_tests) in
      let a = rw (t.1, ne_eqb 0 k (omega arith)) at (tally_set k l.stock.robot.held p number (omega (arith, t.0, sound.held_length))) in
      omega arith;
  kinds = refl;
  order = append-nil _;
  new = none_new l;
  turns = refl;
  sane = λ is st s. still_heard l.stock.robot.kinds false is st l.work l.door (touched l p may number) (touched-sane l p may number is st s);
}

fair_take : (l : Library) (p : ℕ) → Sound l.stock.robot → within_reach l p ≡ None → take_refusal l.stock.robot p ≡ None → Fair l (take_out p) (record { reply = took (held_at l.stock.robot p); library = with_robot (with_held l.stock.robot p 0 l.stock.robot.hand) l })
fair_take l p sound may e = record {
  h = None;
  hears = refl;
  counts = λ k x.
      let t : p < count l.stock.robot = grind (arith, nat_tests) in
      let a = rw (ne_eqb 0 k (omega arith)) at (tally_set k l.stock.robot.held p 0 (omega (arith, t, sound.held_length))) in
      omega arith;
  kinds = refl;
  order = append-nil _;
  new = none_new l;
  turns = refl;
  sane = λ is st s. still_heard l.stock.robot.kinds false is st l.work l.door (touched l p may 0) (touched-sane l p may 0 is st s);
}

-- A switch of service moves nothing.
fair_switch : (l : Library) (p : ℕ) (on : Bool) → Fair l (service p on) (record { reply = granted; library = with_robot (with_service l.stock.robot p on) l })
fair_switch l p on = record {
  h = None;
  hears = refl;
  counts = λ k x. refl;
  kinds = refl;
  order = append-nil _;
  new = none_new l;
  turns = refl;
  sane = λ is st s. still_heard l.stock.robot.kinds false is st l.work l.door (with_service l.stock.robot p on) (record { hand = s.hand; books = s.books });
}

-- Opening the door marks, and ends all inventories.
fair_open : (l : Library) → Fair l open-door (record { reply = granted; library = open_call l })
fair_open l = record {
  h = None;
  hears = refl;
  counts = λ k x. refl;
  kinds = refl;
  order = append-nil _ ∙ marked-names aborted aborting l.work l.waiting;
  new = none_new l;
  turns = marked-working aborted aborting l.work;
  sane = λ is st s. record { hand = s.hand; books = tt };
}

fair_shut : (l : Library) → l.door ≡ true → Fair l shut-door (record { reply = granted; library = shut_call l })
fair_shut l isOpen = record {
  h = None;
  hears = refl;
  counts = λ k x. refl;
  kinds = refl;
  order = append-nil _;
  new = none_new l;
  turns = refl;
  sane = λ is st s. still_heard l.stock.robot.kinds false is st l.work false l.stock.robot
      (record { hand = s.hand; books = each_to (Booked l.door (entries_so_far l.work) l.stock.robot) (Booked false (entries_so_far l.work) l.stock.robot) (λ i b. absurd (true≢false (sym isOpen ∙ b.0))) is s.books });
}

fair_message : (l : Library) → Fair l message (message_after (message_call l))
fair_message l = record {
  h = None;
  hears = refl;
  counts = λ k x. refl;
  kinds = refl;
  order = append-nil _;
  new = none_new l;
  turns = refl;
  sane = λ is st s. still_heard l.stock.robot.kinds false is st l.work l.door l.stock.robot s;
}

-- A query finds a cartridge's label only.
abbrev pub QueryGood : Library → Type 0
QueryGood l = (q : Request) → refusal_of q.body l ≡ None → (label : Label) → q.body ≡ body.Query (Some label) → (x : Row) → located_by (volume_of l.stock.filed (number_of label.chars)) ≡ Ok x → (1 ≤ number_of label.chars) × (number_of label.chars ≤ unreadable_number)

pub fair : (l : Library) → Good l → EntryRoom l → QueryGood l → (c : Call) → Fair l c (after l c)
fair l good room queries (receive packet n) =
    if_shut (Fair l (receive packet n)) l.door l _ (kept_out l (receive packet n))
    (λ shut. receive-cases (Fair l (receive packet n)) l n (same l (receive packet n)) packet
    (λ long bad e. fair-bad l packet n long bad)
    (λ long q e free. received_cases (λ r. Fair l (receive packet n) (replied (said_outcome r (blank n)))) q l (λ why. fair-refused l packet n long q why) (λ may. fair-accepted l packet n long q.body q free (λ label b x y. queries q may label b x y))))
fair l good room queries (step n) =
    if_shut (Fair l (step n)) l.door l _ (kept_out l (step n))
    (λ shut. step-cases (Fair l (step n)) l n (same l (step n)) (λ long. fair_stepped l n long good room shut l.work refl l.waiting refl))
fair l good room queries (put p number) = put-cases (Fair l (put p number)) l p (same l (put p number)) number (λ may e. fair_put l p number good.sound may e)
fair l good room queries (take_out p) = take_cases (Fair l (take_out p)) l p (same l (take_out p)) (λ may e. fair_take l p good.sound may e)
fair l good room queries (service p on) = switch-cases (Fair l (service p on)) l p (same l (service p on)) on (λ e. fair_switch l p on)
fair l good room queries open-door = if_shut (Fair l open-door) l.door l _ (kept_out l open-door) (λ shut. fair_open l)
fair l good room queries shut-door = if_open (Fair l shut-door) l.door l _ (kept_out l shut-door) (λ isOpen. fair_shut l isOpen)
fair l good room queries message = if_shut (Fair l message) l.door l _ (kept_out l message) (λ shut. fair_message l)
