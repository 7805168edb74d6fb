-- Which request is at work and which wait, judged from calls and replies alone.
use Rattle.std.specs.Prelude.{ℕ, ◌+◌, Bool, true, false, cond, ◌&&◌, List, [], ◌∷◌, ◌++◌, map, length, drop, Some, None, fold, Option, nat_lt}
use Rattle.requests.specs.declared.bodies.Request.{Request}
use Rattle.library.specs.Library.{Job, Library, unanswered}
use Rattle.server.specs.Machine.{Reply, Event}
use Rattle.server.specs.Machine.Reply.{response, granted, took, messaged, refused, barred}
use Rattle.site.specs.Hearing.{is_step, acknowledged_by, answered_by}

-- The numbers acknowledged so far; how many finals steps have written; how many were acknowledged when the last step came that
-- was neither refused nor barred; and whether that step wrote nothing.
pub record Judged : Type 0 where
  pub acknowledged : List ℕ
  pub answered : ℕ
  pub seen : ℕ
  pub quiet : Bool

-- Whether a step was made, neither refused nor barred; and whether it wrote nothing.
abbrev pub was_made : Reply → Bool
was_made (response bytes) = true
was_made granted = false
was_made (took number) = false
was_made (messaged m dropped) = false
was_made (refused why) = false
was_made barred = false

abbrev pub nothing_in : List ℕ → Bool
nothing_in [] = true
nothing_in (b ∷ bytes) = false

abbrev pub wrote_nothing : Reply → Bool
wrote_nothing (response bytes) = nothing_in bytes
wrote_nothing granted = false
wrote_nothing (took number) = false
wrote_nothing (messaged m dropped) = false
wrote_nothing (refused why) = false
wrote_nothing barred = false

abbrev pub step_made : Event → Bool
step_made e = is_step e.call && was_made e.reply

abbrev pub judge : Judged → Event → Judged
judge j e = record {
  acknowledged = j.acknowledged ++ acknowledged_by e;
  answered = j.answered + length (answered_by e);
  seen = cond (step_made e) (length j.acknowledged) j.seen;
  quiet = cond (step_made e) (wrote_nothing e.reply) j.quiet;
}

abbrev pub judged : List Event → Judged
judged es = fold judge (record { acknowledged = []; answered = 0; seen = 0; quiet = false }) es

-- The numbers of the requests left, and whether the first of them is at work.
pub record Left : Type 0 where
  pub numbers : List ℕ
  pub working : Bool

-- The oldest are counted off, one for each final of a step. The next is at work if the last step made came after its
-- acknowledge and wrote nothing.
abbrev pub left_by : Judged → Left
left_by j = record { numbers = drop j.answered j.acknowledged; working = j.quiet && nat_lt j.answered j.seen }

abbrev pub left : List Event → Left
left es = left_by (judged es)

-- The library's own: the request at work, then those waiting.
abbrev pub is_working : Option Job → Bool
is_working None = false
is_working (Some j) = true

abbrev pub numbers_of : List Request → List ℕ
numbers_of qs = map (λ q. q.number) qs

abbrev pub own_left : Library → Left
own_left l = record { numbers = numbers_of (unanswered l); working = is_working l.work }
