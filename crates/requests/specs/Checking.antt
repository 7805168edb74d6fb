-- Fields checked by the table of commands. The causes are tried in the order of their statuses.
use Rattle.std.specs.Prelude.{ℕ, suc, Bool, true, false, cond, not, List, [], ◌∷◌, is_some, Some, None, Ok, Err, Option, Result, ◌==◌, refl}
use Rattle.std.specs.Option.{unwrap_or}
use Rattle.byte_fields.specs.Taking.{has_bit}
use Rattle.labels.specs.declared.Label.{Label}
use Rattle.labels.specs.declared.WrongCharacter.{WrongCharacter}
use Rattle.labels.specs.Labels.{labelled}
use Rattle.requests.specs.declared.commands.Command.{Command}
use Rattle.requests.specs.declared.commands.Command.TheVariants as command
use Rattle.requests.specs.declared.bodies.Body.{Body}
use Rattle.requests.specs.declared.bodies.Body.TheVariants as body
use Rattle.requests.specs.declared.bodies.DriveSetting.{DriveSetting}
use Rattle.requests.specs.declared.bodies.DriveSetting.TheVariants.{Online}
use Rattle.requests.specs.declared.bodies.Mark.TheVariants.{Unmarked}
use Rattle.requests.specs.declared.bodies.Request.{Request}
use Rattle.requests.specs.declared.refusals.Cause.{Cause}
use Rattle.requests.specs.declared.refusals.Cause.TheVariants as cause
use Rattle.requests.specs.declared.taking.Fields.{Fields}
use Rattle.requests.specs.Commands.{row, command_of}
use Rattle.requests.specs.Bodies.{setting_of}

-- The command: it is there, and known.
abbrev pub found : {X : Type 0} → Option X → Cause → Result X Cause
found None e = Err e
found (Some x) e = Ok x

abbrev pub command_field : Option ℕ → Result Command Cause
command_field None = Err cause.UnknownCommand
command_field (Some n) = found (command_of n) cause.UnknownCommand

-- A bit that stands is wrong unless the command needs or permits it; one that does not stand is wrong if the command needs it.
abbrev pub wrong_at : Command → ℕ → Bool → Bool
wrong_at c w true = cond (not (has_bit (row c).needed w)) (not (has_bit (row c).permitted w)) false
wrong_at c w false = has_bit (row c).needed w

-- The only option is 1.
abbrev pub wrong_option : Option ℕ → Bool
wrong_option None = false
wrong_option (Some v) = not (v == 1)

-- Of each bit, from 0 on, whether it is wrong. No command takes bit 7.
abbrev pub wrongs : Command → Fields → List Bool
wrongs c f =
    wrong_at c 1 (is_some f.number) ∷ wrong_at c 2 (is_some f.command)
    ∷ cond (wrong_at c 4 (is_some f.option)) true (wrong_option f.option) ∷ wrong_at c 8 (is_some f.label)
    ∷ wrong_at c 16 (is_some f.place) ∷ wrong_at c 32 (is_some f.target) ∷ wrong_at c 64 (is_some f.drive_state)
    ∷ has_bit f.map 128 ∷ []

-- Whether a bit, counted from 0, is wrong.
abbrev pub wrong_bit : Command → Fields → ℕ → Bool
wrong_bit c f b =
    cond (b == 0) (wrong_at c 1 (is_some f.number))
    (cond (b == 1) (wrong_at c 2 (is_some f.command))
    (cond (b == 2) (cond (wrong_at c 4 (is_some f.option)) true (wrong_option f.option))
    (cond (b == 3) (wrong_at c 8 (is_some f.label))
    (cond (b == 4) (wrong_at c 16 (is_some f.place))
    (cond (b == 5) (wrong_at c 32 (is_some f.target))
    (cond (b == 6) (wrong_at c 64 (is_some f.drive_state)) (has_bit f.map 128)))))))

-- The place of the first that is true, where the first of the list stands at i.
abbrev pub first_true : ℕ → List Bool → Option ℕ
first_true i [] = None
first_true i (b ∷ bs) = cond b (Some i) (first_true (suc i) bs)

-- The lowest wrong bit.
abbrev pub lowest_wrong : Command → Fields → Option ℕ
lowest_wrong c f = first_true 0 (wrongs c f)

abbrev pub bits_by : Option ℕ → Result (Unit {0}) Cause
bits_by None = Ok tt
bits_by (Some b) = Err (cause.WrongBit b)

abbrev pub bits_right : Command → Fields → Result (Unit {0}) Cause
bits_right c f = bits_by (lowest_wrong c f)

-- The label, where its field is there: right characters.
abbrev pub label_by : Result Label WrongCharacter → Result (Option Label) Cause
label_by (Ok l) = Ok (Some l)
label_by (Err w) = Err (cause.WrongCharacter w.index)

abbrev pub label_field : Option (List ℕ) → Result (Option Label) Cause
label_field None = Ok None
label_field (Some l) = label_by (labelled l)

-- The drive setting, where its field is there: a number that stands for one.
abbrev pub setting_by : Option DriveSetting → Result (Option DriveSetting) Cause
setting_by None = Err cause.WrongDriveState
setting_by (Some s) = Ok (Some s)

abbrev pub setting_field : Option ℕ → Result (Option DriveSetting) Cause
setting_field None = Ok None
setting_field (Some n) = setting_by (setting_of n)

-- It stands where a body has no label; a command that needs one has it.
abbrev pub no_label : Label
no_label = record { chars = 48 ∷ 48 ∷ 48 ∷ 48 ∷ 48 ∷ 48 ∷ []; right = refl }

-- The body of a command.
abbrev pub body_of : Command → Fields → Option Label → Option DriveSetting → Body
body_of command.Cancel f l s = body.Cancel (unwrap_or f.target 0)
body_of command.Dismount f l s = body.Dismount (unwrap_or l no_label) (unwrap_or f.place 0) (is_some f.option)
body_of command.Eject f l s = body.Eject (unwrap_or l no_label)
body_of command.Enter f l s = body.Enter
body_of command.Idle f l s = body.Idle (is_some f.option)
body_of command.Mount f l s = body.Mount (unwrap_or l no_label) (unwrap_or f.place 0)
body_of command.Query f l s = body.Query l
body_of command.Start f l s = body.Start
body_of command.Vary f l s = body.Vary (unwrap_or f.place 0) (unwrap_or s Online)

-- What is right is handed on; the first cause ends it.
abbrev pub and_then : {X Y : Type 0} → Result X Cause → (X → Result Y Cause) → Result Y Cause
and_then (Ok x) on = on x
and_then (Err e) on = Err e

-- The request that the fields make, or the cause for which they make none. It is read unmarked.
abbrev pub made_of : Command → Fields → Option Label → Option DriveSetting → Result Request Cause
made_of c f l s = Ok (record { number = unwrap_or f.number 0; mark = Unmarked; body = body_of c f l s })

abbrev pub checked_setting : Command → Fields → Option Label → Result Request Cause
checked_setting c f l = and_then (setting_field f.drive_state) (made_of c f l)

abbrev pub checked_label : Command → Fields → Result Request Cause
checked_label c f = and_then (label_field f.label) (checked_setting c f)

abbrev pub checked_bits : Fields → Command → Result Request Cause
checked_bits f c = and_then (bits_right c f) (λ _. checked_label c f)

abbrev pub checked : Fields → Result Request Cause
checked f = and_then (command_field f.command) (checked_bits f)
