-- Fields that make a request are those that the request is sent in.
use Rattle.std.proofs.Common.{◌≡◌, ℕ, ◌+◌, ◌*◌, ◌/◌, ◌%◌, ◌<◌, Bool, true, false, cond, not, eqb, List, is_some, Some, None, Ok, Option, Result, unwrap_or, sym, refl, ap, ◌∙◌, arith, eqb-true}
use borrow.Author.Tests.{eqb-false}
use Rattle.std.specs.Option.{option_map}
use Rattle.byte_fields.specs.Taking.{has_bit}
use Rattle.labels.specs.declared.Label.{Label}
use Rattle.requests.specs.declared.commands.Command.{Command}
use Rattle.requests.specs.declared.commands.Command.TheVariants as command
use Rattle.requests.specs.declared.bodies.Body.TheVariants as body
use Rattle.requests.specs.declared.bodies.DriveSetting.{DriveSetting}
use Rattle.requests.specs.declared.bodies.DriveSetting.TheVariants.{Online}
use Rattle.requests.specs.declared.bodies.Mark.TheVariants.{Unmarked}
use Rattle.requests.specs.declared.bodies.Request.{Request}
use Rattle.requests.specs.declared.refusals.Cause.{Cause}
use Rattle.requests.specs.declared.taking.Fields.{Fields}
use Rattle.requests.specs.Commands.{row, command_number}
use Rattle.requests.specs.Bodies.{setting_number}
use Rattle.requests.specs.Taking.{held, Stands}
use Rattle.requests.specs.Checking.{wrong_at, wrong_option, no_label, body_of, checked}
use Rattle.requests.specs.Values.{when, fields_for}
use Rattle.requests.proofs.Passed.{true_false, passed, all_right_holds}

-- A field as a command takes it: there if it is needed, as it is if it is permitted, else not there.
abbrev kept : {X : Type 0} → Command → ℕ → Option X → X → Option X
kept c w o d = cond (has_bit (row c).needed w) (Some (unwrap_or o d)) (cond (has_bit (row c).permitted w) o None)

kept_by : {X : Type 0} (n p : Bool) (o : Option X) (d : X) → cond (is_some o) (cond (not n) (not p) false) n ≡ false → o ≡ cond n (Some (unwrap_or o d)) (cond p o None)
kept_by true p None d h = absurd (true_false h)
kept_by true p (Some x) d h = refl
kept_by false true o d h = refl
kept_by false false None d h = refl
kept_by false false (Some x) d h = absurd (true_false h)

wrong_as : (c : Command) (w : ℕ) (b : Bool) → wrong_at c w b ≡ cond b (cond (not (has_bit (row c).needed w)) (not (has_bit (row c).permitted w)) false) (has_bit (row c).needed w)
wrong_as c w true = refl
wrong_as c w false = refl

kept_is : {X : Type 0} (c : Command) (w : ℕ) (o : Option X) (d : X) → wrong_at c w (is_some o) ≡ false → o ≡ kept c w o d
kept_is c w o d h = kept_by (has_bit (row c).needed w) (has_bit (row c).permitted w) o d (sym (wrong_as c w (is_some o)) ∙ h)

mapped_there : {X Y : Type 0} (g : X → Y) (o : Option X) → is_some (option_map g o) ≡ is_some o
mapped_there g None = refl
mapped_there g (Some x) = refl

-- What a field was made into is as the command takes it too.
through : {X Y : Type 0} (g : X → Y) (c : Command) (w : ℕ) (field : Option Y) (o : Option X) (d : X) → field ≡ option_map g o → wrong_at c w (is_some field) ≡ false → field ≡ option_map g (kept c w o d)
through {X} {Y} g c w field o d e h =
    e ∙ ap (λ (x : Option X). option_map g x) (kept_is c w o d (ap (λ (b : Bool). wrong_at c w b) (sym (mapped_there g o) ∙ ap (λ (x : Option Y). is_some x) (sym e)) ∙ h))

-- The option is force, where it is there.
forced_by : (v : ℕ) (b : Bool) → eqb v 1 ≡ b → not b ≡ false → Some v ≡ Some 1
forced_by v true t e = ap (λ (n : ℕ). Some n) (eqb-true v 1 t)
forced_by v false t e = absurd (true_false e)

forced : (o : Option ℕ) → wrong_option o ≡ false → o ≡ when (is_some o) 1
forced None e = refl
forced (Some v) e = forced_by v (eqb v 1) refl e

-- A byte is the sum of what its bits are worth.
abbrev sum : Bool → Bool → Bool → Bool → Bool → Bool → Bool → Bool → ℕ
sum a b c d e f g h = cond a 1 0 + cond b 2 0 + cond c 4 0 + cond d 8 0 + cond e 16 0 + cond f 32 0 + cond g 64 0 + cond h 128 0

bit_worth : (x w : ℕ) → x < 2 → cond (eqb x 1) w 0 ≡ x * w
bit_worth x w h = by (eqb x 1) refl
  where
    by : (b : Bool) → eqb x 1 ≡ b → cond b w 0 ≡ x * w
    by true t = let e : x ≡ 1 = eqb-true x 1 t in rw e (omega arith)
    by false t = let n : x ≡ 1 → ⊥ = eqb-false x 1 t in let e : x ≡ 0 = omega arith in rw e (omega arith)

byte_sum : (m : ℕ) → m < 256 → m ≡ sum (has_bit m 1) (has_bit m 2) (has_bit m 4) (has_bit m 8) (has_bit m 16) (has_bit m 32) (has_bit m 64) (has_bit m 128)
byte_sum m h =
    rw (
      bit_worth (m / 1 % 2) 1 (omega arith),
      bit_worth (m / 2 % 2) 2 (omega arith),
      bit_worth (m / 4 % 2) 4 (omega arith),
      bit_worth (m / 8 % 2) 8 (omega arith),
      bit_worth (m / 16 % 2) 16 (omega arith),
      bit_worth (m / 32 % 2) 32 (omega arith),
      bit_worth (m / 64 % 2) 64 (omega arith),
      bit_worth (m / 128 % 2) 128 (omega arith),
    ) (omega arith)

-- Fields with the map of just those that are there.
abbrev fitted : Option ℕ → Option ℕ → Option ℕ → Option (List ℕ) → Option ℕ → Option ℕ → Option ℕ → Fields
fitted n c o l p t d = held (sum (is_some n) (is_some c) (is_some o) (is_some l) (is_some p) (is_some t) (is_some d) false) n c o l p t d

sum_same : (a a' b b' c c' d d' e e' f f' g g' h h' : Bool) → a ≡ a' → b ≡ b' → c ≡ c' → d ≡ d' → e ≡ e' → f ≡ f' → g ≡ g' → h ≡ h' → sum a b c d e f g h ≡ sum a' b' c' d' e' f' g' h'
sum_same a a' b b' c c' d d' e e' f f' g g' h h' ea eb ec ed ee ef eg eh = cc

fitted_is : (f : Fields) → Stands f → has_bit f.map 128 ≡ false → f ≡ fitted f.number f.command f.option f.label f.place f.target f.drive_state
fitted_is f s z =
    ap (λ (m : ℕ). held m f.number f.command f.option f.label f.place f.target f.drive_state)
    (byte_sum f.map s.byte ∙ sum_same _ _ _ _ _ _ _ _ _ _ _ _ _ _ _ false (sym s.number) (sym s.command) (sym s.option) (sym s.label) (sym s.place) (sym s.target) (sym s.state) z)

fitted_same : (n n' c c' o o' : Option ℕ) (l l' : Option (List ℕ)) (p p' t t' d d' : Option ℕ) → n ≡ n' → c ≡ c' → o ≡ o' → l ≡ l' → p ≡ p' → t ≡ t' → d ≡ d'
    → fitted n c o l p t d ≡ fitted n' c' o' l' p' t' d'
fitted_same n n' c c' o o' l l' p p' t t' d d' en ec eo el ep et ed = cc

-- The fields that a command takes of these.
abbrev shaped : Command → Option ℕ → Bool → Option Label → Option ℕ → Option ℕ → Option DriveSetting → Fields
shaped c n b l p t s =
    fitted (kept c 1 n 0) (Some (command_number c)) (kept c 4 (when b 1) 1) (option_map (λ (x : Label). x.chars) (kept c 8 l no_label)) (kept c 16 p 0) (kept c 32 t 0)
    (option_map setting_number (kept c 64 s Online))

-- They are those that its request is sent in.
sent_in : (c : Command) (f : Fields) (l : Option Label) (s : Option DriveSetting)
    → shaped c f.number (is_some f.option) l f.place f.target s ≡ fields_for (record { number = unwrap_or f.number 0; mark = Unmarked; body = body_of c f l s })
sent_in command.Cancel f l s = refl
sent_in command.Dismount f l s = force (is_some f.option)
  where
    force : (b : Bool) → shaped command.Dismount f.number b l f.place f.target s ≡ fields_for (record { number = unwrap_or f.number 0; mark = Unmarked; body = body.Dismount (unwrap_or l no_label) (unwrap_or f.place 0) b })
    force true = refl
    force false = refl
sent_in command.Eject f l s = refl
sent_in command.Enter f l s = refl
sent_in command.Idle f l s = force (is_some f.option)
  where
    force : (b : Bool) → shaped command.Idle f.number b l f.place f.target s ≡ fields_for (record { number = unwrap_or f.number 0; mark = Unmarked; body = body.Idle b })
    force true = refl
    force false = refl
sent_in command.Mount f l s = refl
sent_in command.Query f None s = refl
sent_in command.Query f (Some l) s = refl
sent_in command.Start f l s = refl
sent_in command.Vary f l s = refl

same_ok : (x y : Request) → ◌≡◌ {A = Result Request Cause} (Ok x) (Ok y) → x ≡ y
same_ok x y h = cc

pub when_there : {X : Type 0} (b : Bool) (x : X) → is_some (when b x) ≡ b
when_there true x = refl
when_there false x = refl

pub fields_sent : (f : Fields) (r : Request) → Stands f → checked f ≡ Ok r → f ≡ fields_for r
fields_sent f r s h =
    let p = passed f r h in
    let c = p.command in
    let a = all_right_holds c f p.bits in
    let q : record { number = unwrap_or f.number 0; mark = Unmarked; body = body_of c f p.label p.setting } ≡ r = same_ok _ r p.made in
    fitted_is f s a.highest
    ∙ fitted_same _ _ _ _ _ _ _ _ _ _ _ _ _ _ (kept_is c 1 f.number 0 a.number) p.named
    (forced f.option a.force ∙ kept_is c 4 (when (is_some f.option) 1) 1 (ap (λ (b : Bool). wrong_at c 4 b) (when_there (is_some f.option) 1) ∙ a.option))
    (through (λ (x : Label). x.chars) c 8 f.label p.label no_label p.labelled a.label) (kept_is c 16 f.place 0 a.place) (kept_is c 32 f.target 0 a.target)
    (through setting_number c 64 f.drive_state p.setting Online p.set a.state)
    ∙ sent_in c f p.label p.setting ∙ ap fields_for q
