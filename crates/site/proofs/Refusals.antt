-- A refused call changes nothing.
use Rattle.std.proofs.Common.{◌≡◌, ℕ, List, Some, None, Option, refl, arith}
use Rattle.library.specs.declared.message.Message.{Message}
use Rattle.library.specs.Library.{Library}
use Rattle.library.specs.Finals.{FinalFor}
use Rattle.steps.specs.Stepping.{stepped}
use Rattle.server.specs.declared.refusal.CallRefusal.{CallRefusal}
use Rattle.server.specs.Calls.{step_writes}
use Rattle.server.specs.Machine.{After, blank, replied}
use Rattle.server.specs.Machine.Call.{receive, step, put, take_out, service, open-door, shut-door, message}
use Rattle.server.specs.Machine.Reply.{response, granted, took, messaged, refused}
use Rattle.site.specs.Law.{RefusedUnchanged}
use Rattle.site.proofs.Cases.{if_shut, if_open, receive-cases, step-cases, put-cases, take_cases, switch-cases}

abbrev Same : Library → After → Type 0
Same l a = (why : CallRefusal) → a.reply ≡ refused why → a.library ≡ l

wrote_some : (bytes : List ℕ) (why : CallRefusal) → response bytes ≡ refused why → ⊥
wrote_some bytes why e = let z : ◌≡◌ {A = ℕ} 0 1 = cc in omega arith

made : (why : CallRefusal) → granted ≡ refused why → ⊥
made why e = let z : ◌≡◌ {A = ℕ} 0 1 = cc in omega arith

gave : (k : ℕ) (why : CallRefusal) → took k ≡ refused why → ⊥
gave k why e = let z : ◌≡◌ {A = ℕ} 0 1 = cc in omega arith

said : (m : Option Message) (k : ℕ) (why : CallRefusal) → messaged m k ≡ refused why → ⊥
said m k why e = let z : ◌≡◌ {A = ℕ} 0 1 = cc in omega arith

step_same : (l : Library) (o : Option FinalFor) (n : ℕ) (l' : Library) → Same l (replied (step_writes o (blank n) l'))
step_same l None n l' why e = absurd (wrote_some _ why e)
step_same l (Some f) n l' why e = absurd (wrote_some _ why e)

pub refused_unchanged : RefusedUnchanged
refused_unchanged l (receive packet n) =
    if_shut (Same l) l.door l _ (λ why e. refl)
    (λ d. receive-cases (Same l) l n (λ w why e. refl) packet (λ h bad r why e. refl) (λ h q r u why e. absurd (wrote_some _ why e)))
refused_unchanged l (step n) =
    if_shut (Same l) l.door l _ (λ why e. refl)
    (λ d. step-cases (Same l) l n (λ w why e. refl) (λ h. step_same l (stepped l).final n (stepped l).library))
refused_unchanged l (put p number) = put-cases (Same l) l p (λ w why e. refl) number (λ r f why e. absurd (made why e))
refused_unchanged l (take_out p) = take_cases (Same l) l p (λ w why e. refl) (λ r f why e. absurd (gave _ why e))
refused_unchanged l (service p on) = switch-cases (Same l) l p (λ w why e. refl) on (λ f why e. absurd (made why e))
refused_unchanged l open-door = if_shut (Same l) l.door l _ (λ why e. refl) (λ d why e. absurd (made why e))
refused_unchanged l shut-door = if_open (Same l) l.door l _ (λ why e. refl) (λ d why e. absurd (made why e))
refused_unchanged l message = if_shut (Same l) l.door l _ (λ why e. refl) (λ d why e. absurd (said _ _ why e))
