-- What is told of a packet without its request is what its request would tell.
use Rattle.std.proofs.Common.{◌≡◌, ℕ, false, List, is_some, Some, None, Ok, Err, Option, Result, unwrap_or, sym, refl, ap, ◌∙◌, subst}
use Rattle.byte_fields.specs.Taking.{Bytes}
use Rattle.labels.specs.declared.Label.{Label}
use Rattle.requests.specs.declared.commands.Command.{Command}
use Rattle.requests.specs.declared.commands.Command.TheVariants as command
use Rattle.requests.specs.declared.bodies.DriveSetting.{DriveSetting}
use Rattle.requests.specs.declared.bodies.Request.{Request}
use Rattle.requests.specs.declared.inspecting.Outline.{Outline}
use Rattle.requests.specs.declared.refusals.Cause.{Cause}
use Rattle.requests.specs.declared.taking.Ending.{Ending}
use Rattle.requests.specs.declared.taking.Ending.TheVariants.{Short, Exact, Long}
use Rattle.requests.specs.declared.taking.Fields.{Fields}
use Rattle.requests.specs.declared.taking.Taken.{Taken}
use Rattle.requests.specs.Bodies.{command_in}
use Rattle.requests.specs.Commands.{command_number}
use Rattle.requests.specs.Checking.{wrong_at, body_of, checked}
use Rattle.requests.specs.Inspecting.{passed, outlined}
use Rattle.requests.specs.Reading.{judged_by, judged, answered_by, answered, request_in}
use Rattle.requests.specs.Taking.{taken, Stands}
use Rattle.requests.proofs.Forth.{taken_makes}
use Rattle.requests.proofs.Passed as pass

-- The body of a command is of that command.
of_command : (c : Command) (f : Fields) (l : Option Label) (s : Option DriveSetting) → command_in (body_of c f l s) ≡ c
of_command command.Cancel f l s = refl
of_command command.Dismount f l s = refl
of_command command.Eject f l s = refl
of_command command.Enter f l s = refl
of_command command.Idle f l s = refl
of_command command.Mount f l s = refl
of_command command.Query f l s = refl
of_command command.Start f l s = refl
of_command command.Vary f l s = refl

-- Every command needs the request number.
numbered : (c : Command) (o : Option ℕ) → wrong_at c 1 (is_some o) ≡ false → o ≡ Some (unwrap_or o 0)
numbered c (Some n) h = refl
numbered command.Cancel None h = absurd (pass.true_false h)
numbered command.Dismount None h = absurd (pass.true_false h)
numbered command.Eject None h = absurd (pass.true_false h)
numbered command.Enter None h = absurd (pass.true_false h)
numbered command.Idle None h = absurd (pass.true_false h)
numbered command.Mount None h = absurd (pass.true_false h)
numbered command.Query None h = absurd (pass.true_false h)
numbered command.Start None h = absurd (pass.true_false h)
numbered command.Vary None h = absurd (pass.true_false h)

same_ok : (x y : Request) → ◌≡◌ {A = Result Request Cause} (Ok x) (Ok y) → x ≡ y
same_ok x y h = cc

-- The outline of fields, with the fault u.
abbrev outline : Fields → Result (Unit {0}) Cause → Outline
outline f u = record { fault = u; number = f.number; command = f.command }

request_told : (f : Fields) (r : Request) → checked f ≡ Ok r → outlined (Ok r) ≡ outline f (Ok tt)
request_told f r h =
    let p = pass.passed f r h in
    let a = pass.all_right_holds p.command f p.bits in
    let q = same_ok _ r p.made in
    let n : Some r.number ≡ f.number = ap (λ (x : Request). Some x.number) (sym q) ∙ sym (numbered p.command f.number a.number) in
    let c : Some (command_number (command_in r.body)) ≡ f.command =
    ap (λ (x : Request). Some (command_number (command_in x.body))) (sym q) ∙ ap (λ (k : Command). Some (command_number k)) (of_command p.command f p.label p.setting) ∙ sym p.named in
    λ i. record { fault = Ok tt; number = n i; command = c i }

by_ending : (e : Ending) (f : Fields) → outlined (answered_by f (judged_by e f)) ≡ outline f (passed (judged_by e f))
by_ending Short f = refl
by_ending Long f = refl
by_ending Exact f = go (checked f) refl
  where
    go : (x : Result Request Cause) → checked f ≡ x → outlined (answered_by f x) ≡ outline f (passed x)
    go (Ok r) h = request_told f r h
    go (Err e) h = refl

pub told_alike : (p : List ℕ) (t : Taken) (u : Result (Unit {0}) Cause) → t ≡ taken p → u ≡ passed (judged t) → outline t.fields u ≡ outlined (request_in p)
told_alike p t u a b = ap (outline t.fields) b ∙ sym (by_ending t.ending t.fields) ∙ ap (λ (x : Taken). outlined (answered x)) a

-- A packet of the right length has each field exactly where its bit stands.
pub stands_exact : (p : List ℕ) (t : Taken) → Bytes p → t ≡ taken p → t.ending ≡ Exact → Stands t.fields
stands_exact p t b a e = subst (λ (x : Taken). Stands x.fields) (sym a) (taken_makes p b (ap (λ (x : Taken). x.ending) (sym a) ∙ e)).stands
