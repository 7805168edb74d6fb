-- The law, from what each call keeps.
use Rattle.std.proofs.Common.{◌≡◌, ℕ, ◌+◌, ◌<◌, Bool, true, false, cond, ◌&&◌, ltb, List, [], ◌∷◌, ◌++◌, length, None, sum_by, Option, sym, refl, ap, ◌∙◌, subst, append_assoc, add-zero, arith, length-append}
use mathlib.Core.Path.{subst⁻¹}
use Rattle.std.proofs.lemmas.List.Sums.{fold_push, sum_by_push}
use Rattle.std.proofs.lemmas.Bool.{lt-ltb, le-ltb}
use Rattle.responses.specs.Responses.{Told}
use Rattle.robots.specs.declared.kind.Kind.{Kind}
use Rattle.robots.specs.Meaning.{Meaning}
use Rattle.robots.specs.Cartridges.{cartridges_of}
use Rattle.library.specs.Library.{Library, unanswered}
use Rattle.server.specs.Machine.{After, Call, Event, Reply}
use Rattle.server.specs.Machine.Reply.{response, granted, took, messaged, refused, barred}
use Rattle.site.specs.Hearing.{acknowledged, acknowledged_by, acknowledged_in, answered, answered_by, finished_in, gathered, heard, is_step, started, started_by}
use Rattle.site.specs.Cartridges.{puts, takes}
use Rattle.site.specs.Inventories.{Inventory, ended_if, inventories, inventories_after}
use Rattle.site.specs.Turns.{Judged, is_working, judge, judged, numbers_of, was_made, wrote_nothing}
use Rattle.site.specs.Law.{Distinct}
use Rattle.site.proofs.Good.{Good}
use Rattle.site.proofs.Sane.{Sane, hearing, now_started}
use Rattle.site.proofs.Fair.{Fair, reads_none, some_left}

-- Of the judgement from outside: what it has counted, and that it judges rightly whether a request is at work.
pub record Rightly (es : List Event) (l : Library) : Type 0 where
  pub heard_all : (judged es).acknowledged ≡ acknowledged es
  pub counted : (judged es).answered ≡ length (answered es)
  pub at_work_holds : ((judged es).quiet && ltb (judged es).answered (judged es).seen) ≡ is_working l.work

pub record Kept (start : Meaning) (es : List Event) (l : Library) : Type 0 where
  pub conserved : (k : ℕ) → 0 < k → cartridges_of k l.stock.robot + sum_by (takes k) es ≡ cartridges_of k start + sum_by (puts k) es
  pub in_order : acknowledged es ≡ answered es ++ numbers_of (unanswered l)
  pub rightly : Rightly es l
  pub kinds : l.stock.robot.kinds ≡ start.kinds
  pub sane : Sane (inventories start.kinds es) (started es) l.work l.door l.stock.robot
  pub distinct : Distinct (numbers_of (unanswered l))
  pub good : Good l

gathered_push : {A B : Type 0} (f : A → List B) (es : List A) (e : A) → gathered f (es ++ e ∷ []) ≡ gathered f es ++ f e
gathered_push f es e = fold_push (λ xs x. xs ++ f x) [] es e

-- A step that wrote nothing answered none, and so did every call that is no step made.
quiet_none : (r : Reply) → wrote_nothing r ≡ true → heard r ≡ None
quiet_none (response []) e = reads_none
quiet_none (response (b ∷ bytes)) e = let z : ◌≡◌ {A = ℕ} 0 1 = cc in absurd (omega arith)
quiet_none granted e = refl
quiet_none (took k) e = refl
quiet_none (messaged m k) e = refl
quiet_none (refused why) e = refl
quiet_none barred e = refl

unmade_none : (b : Bool) (r : Reply) → (b && was_made r) ≡ false → cond b (finished_in (heard r)) [] ≡ []
unmade_none false r e = refl
unmade_none true (response bytes) e = let z : ◌≡◌ {A = ℕ} 0 1 = cc in absurd (omega arith)
unmade_none true granted e = refl
unmade_none true (took k) e = refl
unmade_none true (messaged m k) e = refl
unmade_none true (refused why) e = refl
unmade_none true barred e = refl

quiet_answers : (b : Bool) (r : Reply) → wrote_nothing r ≡ true → cond b (finished_in (heard r)) [] ≡ []
quiet_answers true r e = ap finished_in (quiet_none r e)
quiet_answers false r e = refl

some_behind : (a : ℕ) (xs : List ℕ) → some_left xs ≡ ltb a (a + length xs)
some_behind a [] = sym (le-ltb a (a + 0) (omega arith))
some_behind a (x ∷ xs) = sym (lt-ltb a (a + length (x ∷ xs)) (omega arith))

distinct_rest : (xs ys : List ℕ) → Distinct (xs ++ ys) → Distinct ys
distinct_rest [] ys d = d
distinct_rest (x ∷ xs) ys d = distinct_rest xs ys d.1

module _ (start : Meaning) (es : List Event) (l : Library) (c : Call) (a : After) (kept : Kept start es l) (f : Fair l c a) where
  abbrev e : Event
  e = record { call = c; reply = a.reply }

  abbrev es' : List Event
  es' = es ++ e ∷ []

  judged-on : judged es' ≡ judge (judged es) e
  judged-on = fold_push judge (record { acknowledged = []; answered = 0; seen = 0; quiet = false }) es e

  acknowledged-length : length (judged es).acknowledged ≡ (judged es).answered + length (numbers_of (unanswered l))
  acknowledged-length = ap length (kept.rightly.heard_all ∙ kept.in_order) ∙ length-append (answered es) (numbers_of (unanswered l)) ∙ ap (λ (n : ℕ). n + length (numbers_of (unanswered l))) (sym kept.rightly.counted)

  -- Whether a request is at work, once the call is judged: a step made, that wrote nothing or something; or no step made.
  at-work-by : (made : Bool) → (is_step c && was_made a.reply) ≡ made → (nothing : Bool) → wrote_nothing a.reply ≡ nothing
      → (cond made nothing (judged es).quiet && ltb ((judged es).answered + length (answered_by e)) (cond made (length (judged es).acknowledged) (judged es).seen)) ≡ cond made (nothing && some_left (numbers_of (unanswered l))) (is_working l.work)
  at-work-by true m true w =
      let none : length (answered_by e) ≡ 0 = ap length (quiet_answers (is_step c) a.reply w) in
      (λ i. ltb ((judged es).answered + none i) (acknowledged-length i)) ∙ ap (λ (n : ℕ). ltb n ((judged es).answered + length (numbers_of (unanswered l)))) (add-zero (judged es).answered) ∙ sym (some_behind (judged es).answered (numbers_of (unanswered l)))
  at-work-by true m false w = refl
  at-work-by false m n w =
      let none : length (answered_by e) ≡ 0 = ap length (unmade_none (is_step c) a.reply m) in
      ap (λ (x : ℕ). (judged es).quiet && ltb x (judged es).seen) (ap (λ (y : ℕ). (judged es).answered + y) none ∙ add-zero (judged es).answered) ∙ kept.rightly.at_work_holds

  rightly-on : Rightly es' a.library
  rightly-on = record {
    heard_all = ap (λ (j : Judged). j.acknowledged) judged-on ∙ ap (λ (xs : List ℕ). xs ++ acknowledged_by e) kept.rightly.heard_all ∙ sym (gathered_push acknowledged_by es e);
    counted = ap (λ (j : Judged). j.answered) judged-on ∙ ap (λ (n : ℕ). n + length (answered_by e)) kept.rightly.counted ∙ sym (length-append (answered es) (answered_by e)) ∙ ap length (sym (gathered_push answered_by es e));
    at_work_holds = ap (λ (j : Judged). j.quiet && ltb j.answered j.seen) judged-on ∙ at-work-by (is_step c && was_made a.reply) refl (wrote_nothing a.reply) refl ∙ sym f.turns;
  }

  order-on : numbers_of (unanswered l) ++ acknowledged_by e ≡ answered_by e ++ numbers_of (unanswered a.library)
  order-on = ap (λ (h : Option Told). numbers_of (unanswered l) ++ acknowledged_in h) f.hears ∙ f.order ∙ ap (λ (h : Option Told). cond (is_step c) (finished_in h) [] ++ numbers_of (unanswered a.library)) (sym f.hears)

  pub next : Good a.library → Kept start es' a.library
  next good = record {
    conserved = λ k h. omega (arith, kept.conserved k h, f.counts k h, sum_by_push (takes k) es e, sum_by_push (puts k) es e);
    in_order =
        gathered_push acknowledged_by es e
        ∙ ap (λ (xs : List ℕ). xs ++ acknowledged_by e) kept.in_order
        ∙ append_assoc (answered es) (numbers_of (unanswered l)) (acknowledged_by e)
        ∙ ap (λ (xs : List ℕ). answered es ++ xs) order-on
        ∙ sym (append_assoc (answered es) (answered_by e) (numbers_of (unanswered a.library)))
        ∙ ap (λ (xs : List ℕ). xs ++ numbers_of (unanswered a.library)) (sym (gathered_push answered_by es e));
    rightly = rightly-on;
    kinds = f.kinds ∙ kept.kinds;
    sane =
        subst⁻¹ (λ (is : List Inventory). Sane is (started es') a.library.work a.library.door a.library.stock.robot) (fold_push (inventories_after start.kinds) [] es e)
        (subst⁻¹ (λ (b : Bool). Sane (inventories_after start.kinds (inventories start.kinds es) e) b a.library.work a.library.door a.library.stock.robot) (fold_push started_by false es e)
        (subst (λ (ks : List Kind). Sane (inventories_after ks (inventories start.kinds es) e) (started_by (started es) e) a.library.work a.library.door a.library.stock.robot) kept.kinds
        (subst⁻¹ (λ (h : Option Told). Sane (hearing l.stock.robot.kinds (is_step c) h (ended_if a.reply c (inventories start.kinds es))) (now_started (is_step c) (started es) h) a.library.work a.library.door a.library.stock.robot) f.hears
        (f.sane (inventories start.kinds es) (started es) kept.sane))));
    distinct = distinct_rest (cond (is_step c) (finished_in f.h) []) (numbers_of (unanswered a.library)) (subst Distinct f.order (f.new kept.distinct));
    good = good;
  }
