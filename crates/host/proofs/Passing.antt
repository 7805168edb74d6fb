-- A packet that was written is checked as the request that was given.
use Rattle.std.proofs.Common.{◌≡◌, ℕ, Bool, true, false, List, take, IfOk, Some, None, Ok, Err, Option, Result, sym, refl, ap, ◌∙◌, arith}
use Rattle.statuses.specs.declared.Status.TheVariants as status
use Rattle.statuses.specs.Statuses.{status_number}
use Rattle.requests.specs.declared.bodies.Body.{Body}
use Rattle.requests.specs.declared.bodies.Body.TheVariants as body
use Rattle.requests.specs.declared.bodies.Mark.{Mark}
use Rattle.requests.specs.declared.bodies.Request.{Request}
use Rattle.requests.specs.declared.refusals.Cause.{Cause}
use Rattle.requests.specs.declared.refusals.Cause.TheVariants as cause
use Rattle.requests.specs.declared.taking.Fields.{Fields}
use Rattle.requests.specs.declared.values.Values.{Values}
use Rattle.requests.specs.declared.writing.Unwritable.{Unwritable}
use Rattle.requests.specs.declared.writing.Unwritable.TheVariants.{SmallBuffer, BadFields}
use Rattle.byte_fields.specs.Taking.{has_bit}
use Rattle.requests.specs.Bodies.{command_in}
use Rattle.requests.specs.Commands.{command_number}
use Rattle.requests.specs.Reading.{request_in}
use Rattle.requests.specs.RoundTrips.{ReadsBack}
use Rattle.requests.specs.Values.{when, fields_of, fields_for}
use Rattle.requests.specs.Writing.{unwritable_status}
use Rattle.host.specs.declared.writing.Written.{Written}
use Rattle.host.specs.Checking as checking
use Rattle.host.specs.Checking.{telling}
use Rattle.host.specs.Writing.{told_of, Passes}

-- Every request is sent with its number and its command.
pub record Sent (r : Request) : Type 0 where
  pub number : (fields_for r).number ≡ Some r.number
  pub command : (fields_for r).command ≡ Some (command_number (command_in r.body))

sent : (n : ℕ) (m : Mark) (b : Body) → Sent (record { number = n; mark = m; body = b })
sent n m (body.Cancel t) = record { number = refl; command = refl }
sent n m (body.Dismount l p true) = record { number = refl; command = refl }
sent n m (body.Dismount l p false) = record { number = refl; command = refl }
sent n m (body.Eject l) = record { number = refl; command = refl }
sent n m body.Enter = record { number = refl; command = refl }
sent n m (body.Idle true) = record { number = refl; command = refl }
sent n m (body.Idle false) = record { number = refl; command = refl }
sent n m (body.Mount l p) = record { number = refl; command = refl }
sent n m (body.Query None) = record { number = refl; command = refl }
sent n m (body.Query (Some l)) = record { number = refl; command = refl }
sent n m body.Start = record { number = refl; command = refl }
sent n m (body.Vary p s) = record { number = refl; command = refl }

-- The value is there, so it is the one given.
given : (b : Bool) (x y : ℕ) → when b x ≡ Some y → Some y ≡ Some x
given true x y h = sym h
given false x y h = let z : ◌≡◌ {A = ℕ} 0 1 = cc in absurd (omega arith)

reads_told : (p : List ℕ) (m : ℕ) (v : Values) → ReadsBack p (fields_of m v) → checking.told_of (request_in p) ≡ telling status.Success None (Some v.number) (Some v.command)
reads_told p m v b =
    let r = b.request in
    let s = sent r.number r.mark r.body in
    let n = given (has_bit m 1) v.number r.number (ap (λ (f : Fields). f.number) (sym b.given) ∙ s.number) in
    let c = given (has_bit m 2) v.command _ (ap (λ (f : Fields). f.command) (sym b.given) ∙ s.command) in
    ap checking.told_of b.reads ∙ ap (λ (o : Option ℕ). telling status.Success None o (Some (command_number (command_in r.body)))) n ∙ ap (telling status.Success None (Some v.number)) c

-- No refusal is told by 0.
cause_told : (e : Cause) → status_number (unwritable_status (BadFields e)) ≡ 0 → ⊥
cause_told cause.Short h = omega (arith, h)
cause_told cause.Long h = omega (arith, h)
cause_told cause.UnknownCommand h = omega (arith, h)
cause_told (cause.WrongBit b) h = omega (arith, h)
cause_told (cause.WrongCharacter i) h = omega (arith, h)
cause_told cause.WrongDriveState h = omega (arith, h)

refusal_told : (e : Unwritable) → status_number (unwritable_status e) ≡ 0 → ⊥
refusal_told SmallBuffer h = omega (arith, h)
refusal_told (BadFields e) h = cause_told e h

pub passes : (x : Result ℕ Unwritable) (w : Written) (xs : List ℕ) (m : ℕ) (v : Values) → w ≡ told_of x → IfOk x (λ n. ReadsBack (take n xs) (fields_of m v)) → Passes w xs v.number v.command
passes (Ok k) w xs m v e b h = ap (λ (y : Written). checking.told_of (request_in (take y.length xs))) e ∙ reads_told (take k xs) m v b
passes (Err e) w xs m v t b h = absurd (refusal_told e (ap (λ (y : Written). y.status) (sym t) ∙ h))
