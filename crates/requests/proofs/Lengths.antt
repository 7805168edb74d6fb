-- Status 1 and 2 by the packet's length alone.
use Rattle.std.proofs.Common.{◌≡◌, ℕ, ◌+◌, ◌<◌, ◌≤◌, Bool, true, false, cond, ltb, List, [], ◌∷◌, length, Some, None, Ok, Err, Option, Result, sym, refl, ap, ◌∙◌, subst, add-zero, arith, ltb-false, ltb-true, le-ltb, lt-ltb}
use Rattle.byte_fields.specs.Taking.{has_bit, one_off, two_off, six_off}
use Rattle.statuses.specs.Statuses.{status_number}
use Rattle.labels.specs.declared.Label.{Label}
use Rattle.labels.specs.declared.WrongCharacter.{WrongCharacter}
use Rattle.labels.specs.Labels.{labelled}
use Rattle.requests.specs.declared.bodies.DriveSetting.{DriveSetting}
use Rattle.requests.specs.declared.bodies.Request.{Request}
use Rattle.requests.specs.declared.refusals.BadPacket.{BadPacket}
use Rattle.requests.specs.declared.refusals.Cause.{Cause}
use Rattle.requests.specs.declared.refusals.Cause.TheVariants as cause
use Rattle.requests.specs.declared.taking.Ending.{Ending}
use Rattle.requests.specs.declared.taking.Ending.TheVariants.{Short, Exact, Long}
use Rattle.requests.specs.declared.taking.Fields.{Fields}
use Rattle.requests.specs.declared.taking.Taken.{Taken}
use Rattle.requests.specs.Commands.{command_of}
use Rattle.requests.specs.Bodies.{setting_of}
use Rattle.requests.specs.Refusals.{cause_status}
use Rattle.requests.specs.Taking.{map_alone, with_number, with_command, with_option, with_label, with_place, with_target, with_state, next, ending_of, from_state, from_target, from_place, from_label, from_option, from_command, from_number}
use Rattle.requests.specs.Checking.{found, command_field, bits_by, bits_right, lowest_wrong, label_by, label_field, setting_by, setting_field, and_then, made_of, checked_setting, checked_label, checked_bits, checked}
use Rattle.requests.specs.Reading.{judged_by, answered_by, request_in}
use Rattle.requests.specs.Lengths.{width_if, width_of, answered_with, Exactly, LengthTold}

-- The ending of n bytes where the map says w.
abbrev by_length : ℕ → ℕ → Ending
by_length n w = cond (ltb n w) Short (cond (ltb w n) Long Exact)

shifted : (k a b : ℕ) → ltb (k + a) (k + b) ≡ ltb a b
shifted k a b = go (ltb a b) refl
  where
    go : (t : Bool) → ltb a b ≡ t → ltb (k + a) (k + b) ≡ t
    go true e = lt-ltb (k + a) (k + b) (omega (arith, ltb-true a b e))
    go false e = le-ltb (k + a) (k + b) (omega (arith, ltb-false a b e))

behind : (k a w : ℕ) → by_length a w ≡ by_length (k + a) (k + w)
behind k a w = rw (shifted k a w, shifted k w a)

-- A cut of k bytes off n bytes.
abbrev Sized : {X : Type 0} → Option (X × List ℕ) → ℕ → ℕ → Type 0
Sized None n k = n < k
Sized (Some p) n k = n ≡ k + length p.1

one_sized : (h : Bool) (bs : List ℕ) → Sized (one_off h bs) (length bs) (width_if h 1)
one_sized false bs = omega arith
one_sized true [] = omega arith
one_sized true (a ∷ bs) = omega arith

two_sized : (h : Bool) (bs : List ℕ) → Sized (two_off h bs) (length bs) (width_if h 2)
two_sized false bs = omega arith
two_sized true [] = omega arith
two_sized true (a ∷ []) = omega arith
two_sized true (a ∷ b ∷ bs) = omega arith

six_sized : (h : Bool) (bs : List ℕ) → Sized (six_off h bs) (length bs) (width_if h 6)
six_sized false bs = omega arith
six_sized true [] = omega arith
six_sized true (a ∷ []) = omega arith
six_sized true (a ∷ b ∷ []) = omega arith
six_sized true (a ∷ b ∷ c ∷ []) = omega arith
six_sized true (a ∷ b ∷ c ∷ d ∷ []) = omega arith
six_sized true (a ∷ b ∷ c ∷ d ∷ e ∷ []) = omega arith
six_sized true (a ∷ b ∷ c ∷ d ∷ e ∷ f ∷ bs) = omega arith

-- The ending from a field on.
from_next : {X : Type 0} (o : Option (X × List ℕ)) (f : Fields) (on : X → List ℕ → Taken) (n k w : ℕ) → Sized o n k
    → ((x : X) (cs : List ℕ) → (on x cs).ending ≡ by_length (length cs) w) → (next o f on).ending ≡ by_length n (k + w)
from_next None f on n k w s h = let t : ltb n (k + w) ≡ true = lt-ltb n (k + w) (omega arith) in rw t
from_next (Some p) f on n k w s h = h p.0 p.1 ∙ behind k (length p.1) w ∙ ap (λ (a : ℕ). by_length a (k + w)) (sym s)

end : (bs : List ℕ) → ending_of bs ≡ by_length (length bs) 0
end [] = refl
end (b ∷ bs) = let t : ltb 0 (length (b ∷ bs)) ≡ true = lt-ltb 0 (length (b ∷ bs)) (omega arith) in let u : ltb (length (b ∷ bs)) 0 ≡ false = le-ltb (length (b ∷ bs)) 0 (omega arith) in rw (u, t)

state : (f : Fields) (bs : List ℕ) → (from_state f bs).ending ≡ by_length (length bs) (width_if (has_bit f.map 64) 1)
state f bs =
    from_next (one_off (has_bit f.map 64) bs) f (λ d rest. record { fields = with_state f d; ending = ending_of rest }) (length bs) (width_if (has_bit f.map 64) 1) 0
    (one_sized (has_bit f.map 64) bs) (λ x cs. end cs) ∙ ap (λ (w : ℕ). by_length (length bs) w) (add-zero (width_if (has_bit f.map 64) 1))

-- The ending of a packet with the map m.
ending_is : (m : ℕ) (bs : List ℕ) → (from_number (map_alone m) bs).ending ≡ by_length (length bs) (width_of m)
ending_is m bs =
    let f0 : Fields = map_alone m in
    from_next (two_off (has_bit m 1) bs) f0 (λ n. from_command (with_number f0 n)) (length bs) (width_if (has_bit m 1) 2) _ (two_sized (has_bit m 1) bs) (λ n b1.
    let f1 : Fields = with_number f0 n in
    from_next (one_off (has_bit m 2) b1) f1 (λ c. from_option (with_command f1 c)) (length b1) (width_if (has_bit m 2) 1) _ (one_sized (has_bit m 2) b1) (λ c b2.
    let f2 : Fields = with_command f1 c in
    from_next (one_off (has_bit m 4) b2) f2 (λ o. from_label (with_option f2 o)) (length b2) (width_if (has_bit m 4) 1) _ (one_sized (has_bit m 4) b2) (λ o b3.
    let f3 : Fields = with_option f2 o in
    from_next (six_off (has_bit m 8) b3) f3 (λ l. from_place (with_label f3 l)) (length b3) (width_if (has_bit m 8) 6) _ (six_sized (has_bit m 8) b3) (λ l b4.
    let f4 : Fields = with_label f3 l in
    from_next (one_off (has_bit m 16) b4) f4 (λ p. from_target (with_place f4 p)) (length b4) (width_if (has_bit m 16) 1) _ (one_sized (has_bit m 16) b4) (λ p b5.
    let f5 : Fields = with_place f4 p in
    from_next (two_off (has_bit m 32) b5) f5 (λ t. from_state (with_target f5 t)) (length b5) (width_if (has_bit m 32) 2) (width_if (has_bit m 64) 1) (two_sized (has_bit m 32) b5) (λ t b6.
    state (with_target f5 t) b6))))))

-- A cause that comes after the length's.
abbrev Later : {X : Type 0} → Result X Cause → Type 0
Later (Ok x) = Unit {0}
Later (Err e) = 3 ≤ status_number (cause_status e)

later_then : {X Y : Type 0} (r : Result X Cause) (k : X → Result Y Cause) → Later r → ((x : X) → Later (k x)) → Later (and_then r k)
later_then (Ok x) k h g = g x
later_then (Err e) k h g = h

later_found : {X : Type 0} (o : Option X) → Later (found o cause.UnknownCommand)
later_found None = omega arith
later_found (Some x) = tt

later_command : (field : Option ℕ) → Later (command_field field)
later_command None = omega arith
later_command (Some n) = later_found (command_of n)

later_bits : (o : Option ℕ) → Later (bits_by o)
later_bits None = tt
later_bits (Some b) = omega arith

later_label_by : (r : Result Label WrongCharacter) → Later (label_by r)
later_label_by (Ok l) = tt
later_label_by (Err w) = omega arith

later_label : (field : Option (List ℕ)) → Later (label_field field)
later_label None = tt
later_label (Some l) = later_label_by (labelled l)

later_setting_by : (o : Option DriveSetting) → Later (setting_by o)
later_setting_by None = omega arith
later_setting_by (Some s) = tt

later_setting : (field : Option ℕ) → Later (setting_field field)
later_setting None = tt
later_setting (Some n) = later_setting_by (setting_of n)

later_checked : (f : Fields) → Later (checked f)
later_checked f =
    later_then (command_field f.command) (checked_bits f) (later_command f.command) (λ c.
    later_then (bits_right c f) (λ _. checked_label c f) (later_bits (lowest_wrong c f)) (λ _.
    later_then (label_field f.label) (checked_setting c f) (later_label f.label) (λ l.
    later_then (setting_field f.drive_state) (made_of c f l) (later_setting f.drive_state) (λ s. tt))))

-- The status by the ending.
told_by_holds : (r : Result Request Cause) (f : Fields) → Later r → (answered_with (answered_by f r) ≡ 1 → ⊥) × (answered_with (answered_by f r) ≡ 2 → ⊥)
told_by_holds (Ok q) f h = (λ e. omega arith, λ e. omega arith)
told_by_holds (Err c) f h = (λ e. omega arith, λ e. omega arith)

pub record Told (e : Ending) (n : ℕ) : Type 0 where
  short : Exactly (n ≡ 1) (e ≡ Short)
  long : Exactly (n ≡ 2) (e ≡ Long)

short_long : Short ≡ Long → ⊥
short_long h = let z : ◌≡◌ {A = ℕ} 0 1 = cc in omega arith

long_short : Long ≡ Short → ⊥
long_short h = let z : ◌≡◌ {A = ℕ} 0 1 = cc in omega arith

exact_short : Exact ≡ Short → ⊥
exact_short h = let z : ◌≡◌ {A = ℕ} 0 1 = cc in omega arith

exact_long : Exact ≡ Long → ⊥
exact_long h = let z : ◌≡◌ {A = ℕ} 0 1 = cc in omega arith

told : (e : Ending) (f : Fields) → Told e (answered_with (answered_by f (judged_by e f)))
told Short f = record { short = (λ h. refl, λ h. refl); long = (λ h. absurd (omega arith), λ h. absurd (short_long h)) }
told Long f = record { short = (λ h. absurd (omega arith), λ h. absurd (long_short h)); long = (λ h. refl, λ h. refl) }
told Exact f =
    let t = told_by_holds (checked f) f (later_checked f) in
    record { short = (λ h. absurd (t.0 h), λ h. absurd (exact_short h)); long = (λ h. absurd (t.1 h), λ h. absurd (exact_long h)) }

-- The ending by the length.
is_short : (n w : ℕ) → Exactly (by_length n w ≡ Short) (n < w)
is_short n w = (go (ltb n w) (ltb w n) refl refl, λ h. let t : ltb n w ≡ true = lt-ltb n w h in rw t)
  where
    go : (a b : Bool) → ltb n w ≡ a → ltb w n ≡ b → cond a Short (cond b Long Exact) ≡ Short → n < w
    go true b ea eb h = ltb-true n w ea
    go false true ea eb h = absurd (long_short h)
    go false false ea eb h = absurd (exact_short h)

is_long : (n w : ℕ) → Exactly (by_length n w ≡ Long) (w < n)
is_long n w = (go (ltb n w) (ltb w n) refl refl, λ h. let t : ltb n w ≡ false = le-ltb n w (omega arith) in let u : ltb w n ≡ true = lt-ltb w n h in rw (t, u))
  where
    go : (a b : Bool) → ltb n w ≡ a → ltb w n ≡ b → cond a Short (cond b Long Exact) ≡ Long → w < n
    go true b ea eb h = absurd (short_long h)
    go false true ea eb h = ltb-true w n eb
    go false false ea eb h = absurd (exact_long h)

-- Status 1 exactly of the shorter, 2 exactly of the longer.
told_of : (p : List ℕ) → LengthTold p (request_in p)
told_of [] = record { short = (λ h. tt, λ h. refl); long = (λ h. omega arith, λ h. absurd h) }
told_of (m ∷ bs) =
    let t = told (from_number (map_alone m) bs).ending (from_number (map_alone m) bs).fields in
    let e = ending_is m bs in
    let s = is_short (length bs) (width_of m) in
    let l = is_long (length bs) (width_of m) in
    record {
      short = (λ h. let k = s.0 (sym e ∙ t.short.0 h) in omega arith, λ h. t.short.1 (e ∙ s.1 (omega arith)));
      long = (λ h. let k = l.0 (sym e ∙ t.long.0 h) in omega arith, λ h. t.long.1 (e ∙ l.1 (omega arith)));
    }

pub length_told : (p : List ℕ) (r : Result Request BadPacket) → r ≡ request_in p → LengthTold p r
length_told p r e = subst (λ (x : Result Request BadPacket). LengthTold p x) (sym e) (told_of p)
