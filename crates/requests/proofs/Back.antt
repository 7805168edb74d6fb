-- A packet of fields is taken apart into these fields again, and so what is written reads back.
use Rattle.std.proofs.Common.{◌≡◌, ℕ, ◌<◌, Bool, true, false, List, [], ◌++◌, length, take, drop, is_some, Some, Ok, Err, Option, Result, sym, refl, ap, ◌∙◌, append-nil}
use Rattle.std.proofs.lemmas.List.{take_at}
use Rattle.byte_fields.specs.Taking.{has_bit, one_off, two_off, six_off}
use Rattle.byte_fields.specs.Putting.{one_bytes, two_bytes, six_bytes}
use Rattle.byte_fields.proofs.Back.{Six, one_back, two_back, six_back}
use Rattle.requests.specs.declared.bodies.Request.{Request}
use Rattle.requests.specs.declared.refusals.Cause.{Cause}
use Rattle.requests.specs.declared.taking.Ending.TheVariants.{Exact}
use Rattle.requests.specs.declared.taking.Fields.{Fields}
use Rattle.requests.specs.declared.taking.Taken.{Taken}
use Rattle.requests.specs.declared.values.Values.{Values}
use Rattle.requests.specs.Taking.{map_alone, with_number, with_command, with_option, with_label, with_place, with_target, with_state, next, ending_of, from_state, from_target, from_place, from_label, from_option, from_command, taken, Stands}
use Rattle.requests.specs.Checking.{checked}
use Rattle.requests.specs.Inspecting.{passed}
use Rattle.requests.specs.Reading.{answered_by, answered, request_in}
use Rattle.requests.specs.Values.{when, fields_of}
use Rattle.requests.specs.Writing.{packet_of}
use Rattle.requests.specs.RoundTrips.{ReadsBack}
use Rattle.requests.proofs.Sent.{when_there, fields_sent}

-- A field whose bit stands is cut off as it was put.
on : {X : Type 0} (cut : Bool → List ℕ → Option (Option X × List ℕ)) (o : Option X) (b : Bool) (bs cs : List ℕ) (f : Fields) (k : Option X → List ℕ → Taken)
    → is_some o ≡ b → Some (o, cs) ≡ cut (is_some o) bs → next (cut b bs) f k ≡ k o cs
on cut o b bs cs f k e g = rw (← e, ← g)

pub taken_back : (f : Fields) → Stands f → Six f.label → taken (packet_of f) ≡ record { fields = f; ending = Exact }
unfolding packet_of
taken_back f s six =
    let m = f.map in
    let f1 : Fields = map_alone m in
    let f2 : Fields = with_number f1 f.number in
    let f3 : Fields = with_command f2 f.command in
    let f4 : Fields = with_option f3 f.option in
    let f5 : Fields = with_label f4 f.label in
    let f6 : Fields = with_place f5 f.place in
    let f7 : Fields = with_target f6 f.target in
    let r7 : List ℕ = one_bytes f.drive_state in
    let r6 : List ℕ = two_bytes f.target ++ r7 in
    let r5 : List ℕ = one_bytes f.place ++ r6 in
    let r4 : List ℕ = six_bytes f.label ++ r5 in
    let r3 : List ℕ = one_bytes f.option ++ r4 in
    let r2 : List ℕ = one_bytes f.command ++ r3 in
    on two_off f.number (has_bit m 1) (two_bytes f.number ++ r2) r2 f1 (λ n. from_command (with_number f1 n)) s.number (two_back f.number r2)
    ∙ on one_off f.command (has_bit m 2) r2 r3 f2 (λ c. from_option (with_command f2 c)) s.command (one_back f.command r3)
    ∙ on one_off f.option (has_bit m 4) r3 r4 f3 (λ o. from_label (with_option f3 o)) s.option (one_back f.option r4)
    ∙ on six_off f.label (has_bit m 8) r4 r5 f4 (λ l. from_place (with_label f4 l)) s.label (six_back f.label r5 six)
    ∙ on one_off f.place (has_bit m 16) r5 r6 f5 (λ p. from_target (with_place f5 p)) s.place (one_back f.place r6)
    ∙ on two_off f.target (has_bit m 32) r6 r7 f6 (λ t. from_state (with_target f6 t)) s.target (two_back f.target r7)
    ∙ ap (λ (bs : List ℕ). from_state f7 bs) (sym (append-nil r7))
    ∙ on one_off f.drive_state (has_bit m 64) (r7 ++ []) [] f7 (λ d rest. record { fields = with_state f7 d; ending = ending_of rest }) s.state (one_back f.drive_state [])

-- The fields of a map and values are there where their bits stand.
pub given_stands : (m : ℕ) (v : Values) → m < 256 → Stands (fields_of m v)
given_stands m v h = record {
  number = when_there (has_bit m 1) v.number;
  command = when_there (has_bit m 2) v.command;
  option = when_there (has_bit m 4) v.option;
  label = when_there (has_bit m 8) v.label;
  place = when_there (has_bit m 16) v.place;
  target = when_there (has_bit m 32) v.target;
  state = when_there (has_bit m 64) v.drive_state;
  byte = h;
}

pub given_six : (b : Bool) (l : List ℕ) → length l ≡ 6 → Six (when b l)
given_six true l h = h
given_six false l h = tt

-- Fields that are passed make a request.
passed_ok : (r : Result Request Cause) (u : Unit {0}) → Ok u ≡ passed r → (q : Request) × (r ≡ Ok q)
passed_ok (Ok q) u h = (q, refl)
passed_ok (Err e) u h = cc

-- The packet of fields that make a request reads as that request, which is sent in these fields.
pub reads_back : (f : Fields) (q : Request) (p : List ℕ) → Stands f → Six f.label → checked f ≡ Ok q → p ≡ packet_of f → ReadsBack p f
reads_back f q p s six h e = record {
  request = q;
  reads = ap request_in e ∙ ap answered (taken_back f s six) ∙ ap (answered_by f) h;
  given = sym (fields_sent f q s h);
}

-- What stands at the front of a buffer.
pub at_front : (p xs ys : List ℕ) (n : ℕ) → ys ≡ p ++ drop (length p) xs → n ≡ length p → take n ys ≡ p
at_front p xs ys n e k = ap (λ (zs : List ℕ). take n zs) e ∙ take_at p (drop (length p) xs) n (sym k)

-- Fields that are passed and then written read back.
pub written_back : (g f : Fields) (xs ys : List ℕ) (n : ℕ) (u : Unit {0}) → g ≡ f → Ok u ≡ passed (checked g) → ys ≡ packet_of g ++ drop (length (packet_of g)) xs → n ≡ length (packet_of g)
    → Stands f → Six f.label → ReadsBack (take n ys) f
written_back g f xs ys n u e h y k s six =
    let q = passed_ok (checked f) u (h ∙ ap (λ (x : Fields). passed (checked x)) e) in
    reads_back f q.0 (take n ys) s six q.1 (at_front (packet_of g) xs ys n y k ∙ ap packet_of e)
