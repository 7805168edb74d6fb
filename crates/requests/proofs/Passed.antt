-- What fields that make a request have passed.
use Rattle.std.proofs.Common.{◌≡◌, ℕ, suc, Bool, true, false, cond, eqb, List, [], ◌∷◌, is_some, Some, None, Ok, Err, Option, Result, sym, refl, ap, ◌∙◌, arith, eqb-true}
use Rattle.std.specs.Option.{option_map}
use Rattle.byte_fields.specs.Taking.{has_bit}
use Rattle.labels.specs.declared.Label.{Label}
use Rattle.labels.specs.declared.WrongCharacter.{WrongCharacter}
use Rattle.labels.specs.Labels.{labelled}
use Rattle.labels.proofs.Same.{made_of_holds}
use Rattle.requests.specs.declared.commands.Command.{Command}
use Rattle.requests.specs.declared.commands.Command.TheVariants as command
use Rattle.requests.specs.declared.bodies.DriveSetting.{DriveSetting}
use Rattle.requests.specs.declared.bodies.DriveSetting.TheVariants.{Online, Offline}
use Rattle.requests.specs.declared.bodies.Request.{Request}
use Rattle.requests.specs.declared.refusals.Cause.{Cause}
use Rattle.requests.specs.declared.refusals.Cause.TheVariants as cause
use Rattle.requests.specs.declared.taking.Fields.{Fields}
use Rattle.requests.specs.Commands.{command_number, command_of, or_else}
use Rattle.requests.specs.Bodies.{setting_number, setting_of}
use Rattle.requests.specs.Checking.{found, command_field, wrong_at, wrong_option, wrongs, first_true, lowest_wrong, bits_by, bits_right, label_by, label_field, setting_by, setting_field, and_then, made_of, checked_setting, checked_label, checked_bits, checked}

pub err_ok : {X : Type 0} (e : Cause) (x : X) → ◌≡◌ {A = Result X Cause} (Err e) (Ok x) → ⊥
err_ok e x h = let z : ◌≡◌ {A = ℕ} 0 1 = cc in omega arith

none_some : {X : Type 0} (x : X) → None ≡ Some x → ⊥
none_some x h = let z : ◌≡◌ {A = ℕ} 0 1 = cc in omega arith

pub true_false : true ≡ false → ⊥
true_false h = let z : ◌≡◌ {A = ℕ} 0 1 = cc in omega arith

-- No bit is wrong.
pub bits_passed : (o : Option ℕ) (u : Unit {0}) → bits_by o ≡ Ok u → o ≡ None
bits_passed None u h = refl
bits_passed (Some b) u h = absurd (err_ok _ u h)

-- The field of a label is its characters.
label_by_holds : (cs : List ℕ) (r : Result Label WrongCharacter) (l : Option Label) → r ≡ labelled cs → label_by r ≡ Ok l → Some cs ≡ option_map (λ (x : Label). x.chars) l
label_by_holds cs (Ok k) l e h = let p : l ≡ Some k = cc in ap (λ (xs : List ℕ). Some xs) (sym (made_of_holds cs k e).0) ∙ ap (λ (o : Option Label). option_map (λ (x : Label). x.chars) o) (sym p)
label_by_holds cs (Err w) l e h = absurd (err_ok _ l h)

pub label_passed : (field : Option (List ℕ)) (l : Option Label) → label_field field ≡ Ok l → field ≡ option_map (λ (x : Label). x.chars) l
label_passed None l h = let p : l ≡ None = cc in rw p
label_passed (Some cs) l h = label_by_holds cs (labelled cs) l refl h

-- The field of a setting is its number.
setting_tried : (n : ℕ) (b c : Bool) (s : DriveSetting) → eqb n 1 ≡ b → eqb n 2 ≡ c → cond b (Some Online) (cond c (Some Offline) None) ≡ Some s → n ≡ setting_number s
setting_tried n true c s e f h = let p : Online ≡ s = cc in eqb-true n 1 e ∙ ap setting_number p
setting_tried n false true s e f h = let p : Offline ≡ s = cc in eqb-true n 2 f ∙ ap setting_number p
setting_tried n false false s e f h = absurd (none_some s h)

setting_by_holds : (n : ℕ) (o : Option DriveSetting) (s : Option DriveSetting) → o ≡ setting_of n → setting_by o ≡ Ok s → Some n ≡ option_map setting_number s
setting_by_holds n None s e h = absurd (err_ok _ s h)
setting_by_holds n (Some d) s e h =
    let p : s ≡ Some d = cc in
    let q : n ≡ setting_number d = setting_tried n (eqb n 1) (eqb n 2) d refl refl (sym e) in
    ap (λ (k : ℕ). Some k) q ∙ ap (λ (o : Option DriveSetting). option_map setting_number o) (sym p)

pub setting_passed : (field : Option ℕ) (s : Option DriveSetting) → setting_field field ≡ Ok s → field ≡ option_map setting_number s
setting_passed None s h = let p : s ≡ None = cc in rw p
setting_passed (Some n) s h = setting_by_holds n (setting_of n) s refl h

-- The field of a command is its number.
tried : (n : ℕ) (a : Command) (other : Option Command) (c : Command) → (other ≡ Some c → n ≡ command_number c) → or_else n a other ≡ Some c → n ≡ command_number c
tried n a other c k e = go (eqb n (command_number a)) refl e
  where
    go : (b : Bool) → eqb n (command_number a) ≡ b → cond b (Some a) other ≡ Some c → n ≡ command_number c
    go true t e = let p : a ≡ c = cc in eqb-true n (command_number a) t ∙ ap command_number p
    go false t e = k e

number_of_command : (n : ℕ) (c : Command) → command_of n ≡ Some c → n ≡ command_number c
number_of_command n c =
    (tried n command.Cancel _ c
    (tried n command.Dismount _ c
    (tried n command.Eject _ c
    (tried n command.Enter _ c
    (tried n command.Idle _ c
    (tried n command.Mount _ c
    (tried n command.Query _ c
    (tried n command.Start _ c
    (tried n command.Vary _ c
    (λ h. absurd (none_some c h)))))))))))

command_by : (n : ℕ) (o : Option Command) (c : Command) → o ≡ command_of n → found o cause.UnknownCommand ≡ Ok c → n ≡ command_number c
command_by n None c e h = absurd (err_ok _ c h)
command_by n (Some a) c e h = let p : a ≡ c = cc in number_of_command n a (sym e) ∙ ap command_number p

pub command_passed : (field : Option ℕ) (c : Command) → command_field field ≡ Ok c → field ≡ Some (command_number c)
command_passed None c h = absurd (err_ok _ c h)
command_passed (Some n) c h = ap (λ (k : ℕ). Some k) (command_by n (command_of n) c refl h)

-- What was handed on was right.
on_ok : {X Y : Type 0} (r : Result X Cause) (k : X → Result Y Cause) (y : Y) → and_then r k ≡ Ok y → (x : X) × (r ≡ Ok x) × (k x ≡ Ok y)
on_ok (Ok x) k y h = (x, refl, h)
on_ok (Err e) k y h = absurd (err_ok e y h)

-- A request that was made: its command, label and setting, and no wrong bit.
pub record Passed (f : Fields) (r : Request) : Type 0 where
  pub command : Command
  pub label : Option Label
  pub setting : Option DriveSetting
  pub named : f.command ≡ Some (command_number command)
  pub bits : lowest_wrong command f ≡ None
  pub labelled : f.label ≡ option_map (λ (x : Label). x.chars) label
  pub set : f.drive_state ≡ option_map setting_number setting
  pub made : made_of command f label setting ≡ Ok r

pub passed : (f : Fields) (r : Request) → checked f ≡ Ok r → Passed f r
passed f r h =
    let a = on_ok (command_field f.command) (checked_bits f) r h in
    let b = on_ok (bits_right a.0 f) (λ _. checked_label a.0 f) r a.2 in
    let c = on_ok (label_field f.label) (checked_setting a.0 f) r b.2 in
    let d = on_ok (setting_field f.drive_state) (made_of a.0 f c.0) r c.2 in
    record {
      command = a.0;
      label = c.0;
      setting = d.0;
      named = command_passed f.command a.0 a.1;
      bits = bits_passed (lowest_wrong a.0 f) b.0 b.1;
      labelled = label_passed f.label c.0 c.1;
      set = setting_passed f.drive_state d.0 d.1;
      made = d.2;
    }

-- Of each bit, that it is not wrong.
pub record AllRight (c : Command) (f : Fields) : Type 0 where
  pub number : wrong_at c 1 (is_some f.number) ≡ false
  pub option : wrong_at c 4 (is_some f.option) ≡ false
  pub force : wrong_option f.option ≡ false
  pub label : wrong_at c 8 (is_some f.label) ≡ false
  pub place : wrong_at c 16 (is_some f.place) ≡ false
  pub target : wrong_at c 32 (is_some f.target) ≡ false
  pub state : wrong_at c 64 (is_some f.drive_state) ≡ false
  pub highest : has_bit f.map 128 ≡ false

abbrev AllFalse : List Bool → Type 0
AllFalse [] = Unit {0}
AllFalse (b ∷ bs) = (b ≡ false) × AllFalse bs

all_false : (i : ℕ) (bs : List Bool) → first_true i bs ≡ None → AllFalse bs
all_false i [] h = tt
all_false i (true ∷ bs) h = absurd (none_some i (sym h))
all_false i (false ∷ bs) h = (refl, all_false (suc i) bs h)

neither : (a b : Bool) → cond a true b ≡ false → (a ≡ false) × (b ≡ false)
neither true b e = absurd (true_false e)
neither false b e = (refl, e)

pub all_right_holds : (c : Command) (f : Fields) → lowest_wrong c f ≡ None → AllRight c f
all_right_holds c f h =
    let a = all_false 0 (wrongs c f) h in
    let o = neither (wrong_at c 4 (is_some f.option)) (wrong_option f.option) a.1.1.0 in
    record {
      number = a.0;
      option = o.0;
      force = o.1;
      label = a.1.1.1.0;
      place = a.1.1.1.1.0;
      target = a.1.1.1.1.1.0;
      state = a.1.1.1.1.1.1.0;
      highest = a.1.1.1.1.1.1.1.0;
    }
