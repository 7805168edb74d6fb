-- The fields that a packet of the right length is taken apart into make that packet again, and so what reads is what is written.
use Rattle.std.proofs.Common.{◌≡◌, ℕ, ◌<◌, ◌≤◌, Bool, false, cond, ltb, List, [], ◌∷◌, ◌++◌, length, drop, IfOk, Some, None, Ok, Err, Option, Result, sym, refl, ap, ◌∙◌, append-nil, arith, le-ltb}
use Rattle.byte_fields.specs.Taking.{has_bit, Bytes}
use Rattle.byte_fields.specs.Putting.{one_bytes, two_bytes, six_bytes}
use Rattle.byte_fields.proofs.Forth.{Cut, one_forth, two_forth, six_forth}
use Rattle.requests.specs.declared.bodies.Request.{Request}
use Rattle.requests.specs.declared.refusals.BadPacket.{BadPacket}
use Rattle.requests.specs.declared.refusals.Cause.{Cause}
use Rattle.requests.specs.declared.taking.Ending.{Ending}
use Rattle.requests.specs.declared.taking.Ending.TheVariants.{Short, Exact, Long}
use Rattle.requests.specs.declared.taking.Fields.{Fields}
use Rattle.requests.specs.declared.taking.Taken.{Taken}
use Rattle.requests.specs.declared.writing.Unwritable.{Unwritable}
use Rattle.requests.specs.declared.writing.Unwritable.TheVariants.{SmallBuffer}
use Rattle.requests.specs.Taking.{held, map_alone, with_number, with_command, with_option, with_label, with_place, with_target, with_state, next, ending_of, from_state, from_target, from_place, from_label, from_option, from_command, from_number, taken, Stands}
use Rattle.requests.specs.Checking.{checked}
use Rattle.requests.specs.Reading.{judged_by, answered_by, request_in}
use Rattle.requests.specs.Values.{fields_for}
use Rattle.requests.specs.Writing.{packet_of, bad_fields, unwritable, answer_by, answer, left_by, left}
use Rattle.requests.specs.RoundTrips.{WritesBack}
use Rattle.requests.proofs.Sent.{fields_sent}

short_exact : Short ≡ Exact → ⊥
short_exact e = let z : ◌≡◌ {A = ℕ} 0 1 = cc in omega arith

long_exact : Long ≡ Exact → ⊥
long_exact e = let z : ◌≡◌ {A = ℕ} 0 1 = cc in omega arith

ended : (bs : List ℕ) → ending_of bs ≡ Exact → bs ≡ []
ended [] e = refl
ended (b ∷ bs) e = absurd (long_exact e)

-- What holds of the fields taken from the next one on, if it was cut.
step : {X : Type 0} (bytes : Option X → List ℕ) (h : Bool) (bs : List ℕ) (o : Option (Option X × List ℕ)) (f : Fields) (on : Option X → List ℕ → Taken) (Q : Fields → Type 0)
    → ((x : Option X) (cs : List ℕ) → o ≡ Some (x, cs) → Cut bytes h bs x cs)
    → ((x : Option X) (cs : List ℕ) → Cut bytes h bs x cs → (on x cs).ending ≡ Exact → Q (on x cs).fields)
    → (next o f on).ending ≡ Exact → Q (next o f on).fields
step bytes h bs None f on Q cut k e = absurd (short_exact e)
step bytes h bs (Some p) f on Q cut k e = k p.0 p.1 (cut p.0 p.1 refl) e

-- Fields that make the packet p.
pub record Makes (p : List ℕ) (f : Fields) : Type 0 where
  pub bytes : packet_of f ≡ p
  pub stands : Stands f

whole : (m : ℕ) (n c o : Option ℕ) (l : Option (List ℕ)) (p t d : Option ℕ) (bs b1 b2 b3 b4 b5 b6 b7 : List ℕ)
    → two_bytes n ++ b1 ≡ bs → one_bytes c ++ b2 ≡ b1 → one_bytes o ++ b3 ≡ b2 → six_bytes l ++ b4 ≡ b3 → one_bytes p ++ b5 ≡ b4 → two_bytes t ++ b6 ≡ b5 → one_bytes d ++ b7 ≡ b6
    → b7 ≡ [] → packet_of (held m n c o l p t d) ≡ m ∷ bs
unfolding packet_of
whole m n c o l p t d bs b1 b2 b3 b4 b5 b6 b7 e1 e2 e3 e4 e5 e6 e7 e8 =
    let z : one_bytes d ≡ b6 = sym (append-nil (one_bytes d)) ∙ ap (λ (x : List ℕ). one_bytes d ++ x) (sym e8) ∙ e7 in cc

from_makes : (m : ℕ) (bs : List ℕ) → m < 256 → Bytes bs → (from_number (map_alone m) bs).ending ≡ Exact → Makes (m ∷ bs) (from_number (map_alone m) bs).fields
from_makes m bs lt y =
    let f0 : Fields = map_alone m in
    step two_bytes (has_bit m 1) bs _ f0 (λ n. from_command (with_number f0 n)) (Makes (m ∷ bs)) (λ x cs. two_forth (has_bit m 1) bs x cs y) (λ n b1 c1.
    let f1 : Fields = with_number f0 n in
    step one_bytes (has_bit m 2) b1 _ f1 (λ c. from_option (with_command f1 c)) (Makes (m ∷ bs)) (λ x cs. one_forth (has_bit m 2) b1 x cs c1.behind) (λ c b2 c2.
    let f2 : Fields = with_command f1 c in
    step one_bytes (has_bit m 4) b2 _ f2 (λ o. from_label (with_option f2 o)) (Makes (m ∷ bs)) (λ x cs. one_forth (has_bit m 4) b2 x cs c2.behind) (λ o b3 c3.
    let f3 : Fields = with_option f2 o in
    step six_bytes (has_bit m 8) b3 _ f3 (λ l. from_place (with_label f3 l)) (Makes (m ∷ bs)) (λ x cs. six_forth (has_bit m 8) b3 x cs c3.behind) (λ l b4 c4.
    let f4 : Fields = with_label f3 l in
    step one_bytes (has_bit m 16) b4 _ f4 (λ p. from_target (with_place f4 p)) (Makes (m ∷ bs)) (λ x cs. one_forth (has_bit m 16) b4 x cs c4.behind) (λ p b5 c5.
    let f5 : Fields = with_place f4 p in
    step two_bytes (has_bit m 32) b5 _ f5 (λ t. from_state (with_target f5 t)) (Makes (m ∷ bs)) (λ x cs. two_forth (has_bit m 32) b5 x cs c5.behind) (λ t b6 c6.
    let f6 : Fields = with_target f5 t in
    step one_bytes (has_bit m 64) b6 _ f6 (λ d rest. record { fields = with_state f6 d; ending = ending_of rest }) (Makes (m ∷ bs)) (λ x cs. one_forth (has_bit m 64) b6 x cs c6.behind) (λ d b7 c7 e.
    record {
      bytes = whole m n c o l p t d bs b1 b2 b3 b4 b5 b6 b7 c1.bytes c2.bytes c3.bytes c4.bytes c5.bytes c6.bytes c7.bytes (ended b7 e);
      stands = record { number = c1.stands; command = c2.stands; option = c3.stands; label = c4.stands; place = c5.stands; target = c6.stands; state = c7.stands; byte = lt };
    })))))))

pub taken_makes : (p : List ℕ) → Bytes p → (taken p).ending ≡ Exact → Makes p (taken p).fields
taken_makes [] b e = absurd (short_exact e)
taken_makes (m ∷ bs) b e = from_makes m bs b.0 b.1 e

-- A packet that reads well has the right length, and its fields make the request.
judged_ok : (e : Ending) (f : Fields) (r : Request) → answered_by f (judged_by e f) ≡ Ok r → (e ≡ Exact) × (checked f ≡ Ok r)
judged_ok Short f r h = let z : ◌≡◌ {A = ℕ} 0 1 = cc in absurd (omega arith)
judged_ok Long f r h = let z : ◌≡◌ {A = ℕ} 0 1 = cc in absurd (omega arith)
judged_ok Exact f r h = (refl, by (checked f) refl h)
  where
    by : (x : Result Request Cause) → checked f ≡ x → answered_by f x ≡ Ok r → checked f ≡ Ok r
    by (Ok q) e h = let p : q ≡ r = cc in e ∙ ap (λ (q : Request). Ok q) p
    by (Err c) e h = let z : ◌≡◌ {A = ℕ} 0 1 = cc in absurd (omega arith)

-- Fields that make a request are written into every buffer with room.
written : (n : ℕ) (f : Fields) (r : Request) → 15 ≤ n → checked f ≡ Ok r → unwritable n f ≡ None
written n f r h e =
    let l : ltb n 15 ≡ false = le-ltb n 15 h in
    ap (λ (b : Bool). cond b (Some SmallBuffer) (bad_fields (checked f))) l ∙ ap bad_fields e

writes_back : (f : Fields) (p : List ℕ) (r : Request) → Stands f → packet_of f ≡ p → checked f ≡ Ok r → f ≡ fields_for r → WritesBack r p
writes_back f p r s b h e = record {
  told = λ n k. ap (λ (g : Fields). answer n g) (sym e) ∙ ap (λ (o : Option Unwritable). answer_by o f) (written n f r k h) ∙ ap (λ (l : List ℕ). Ok (length l)) b;
  buffer = λ xs k. ap (λ (g : Fields). left g xs) (sym e) ∙ ap (λ (o : Option Unwritable). left_by o f xs) (written (length xs) f r k h) ∙ ap (λ (l : List ℕ). l ++ drop (length l) xs) b;
}

read_writes : (p : List ℕ) (r : Request) → Bytes p → request_in p ≡ Ok r → WritesBack r p
read_writes p r b h =
    let j = judged_ok (taken p).ending (taken p).fields r h in
    let k = taken_makes p b j.0 in
    writes_back (taken p).fields p r k.stands k.bytes j.1 (fields_sent (taken p).fields r k.stands j.1)

pub reads_forth : (p : List ℕ) (x : Result Request BadPacket) → Bytes p → x ≡ request_in p → IfOk x (λ r. WritesBack r p)
reads_forth p (Ok r) b e = read_writes p r b (sym e)
reads_forth p (Err e) b h = tt
