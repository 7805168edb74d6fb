-- What reads is what is written.
use Rattle.std.proofs.Common.{◌≡◌, ℕ, ◌<◌, ◌≤◌, false, ltb, List, [], ◌∷◌, ◌++◌, length, drop, Some, None, Ok, Option, sym, refl, ap, ◌∙◌, subst, append-nil, le-ltb}
use Rattle.byte_fields.specs.Taking.{has_bit, Bytes}
use Rattle.byte_fields.specs.Putting.{one_bytes, two_bytes}
use Rattle.byte_fields.proofs.Forth.{none_some}
use Rattle.statuses.specs.Statuses.{status_number}
use Rattle.responses.specs.declared.Entry.{Entry}
use Rattle.responses.specs.declared.Response.{Response}
use Rattle.responses.specs.declared.Head.{Head}
use Rattle.responses.specs.declared.writing.Unwritable.{Unwritable}
use Rattle.responses.specs.Responses.{Told, kind_number, count_of, told}
use Rattle.responses.specs.Entries.{entries_bytes}
use Rattle.responses.specs.Inventories.{inventory_bytes}
use Rattle.responses.specs.Writing.{layer_byte, map_of, bytes_of, unwritable, answer_by, left_by}
use Rattle.responses.specs.Reading.{head_off, entries_off, inventory_off, maybe, ended, told_in, inventory_on, entries_on, response_in, seen_response}
use Rattle.responses.specs.RoundTrips.{WritesBack, WrittenBack}
use Rattle.responses.proofs.Bits.{map_is}
use Rattle.responses.proofs.Handed.{Listed, after_inv, bytes_behind}
use Rattle.responses.proofs.ReadEntries.{entries_forth}
use Rattle.responses.proofs.ReadInventory.{inventory_forth}
use Rattle.responses.proofs.ReadHead.{HeadCut, head_forth}

ended_inv : (t u : Told) (bs : List ℕ) → ended t bs ≡ Some u → (t ≡ u) × (bs ≡ [])
ended_inv t u [] h = (cc, refl)
ended_inv t u (b ∷ bs) h = absurd (none_some u h)

-- A response that was read: its bytes are the packet, and it can be written.
record Whole (t : Told) (bs : List ℕ) : Type 0 where
  pub bytes : bytes_of t ≡ bs
  pub entries : count_of t.entries ≤ 21
  pub places : count_of t.inventory ≤ 256

response_whole : (m : ℕ) (h : Head) (e : Option (List Entry)) (i : Option (List ℕ)) (bs r1 r2 r3 : List ℕ) → map_of (told_in h e i) ≡ m
    → two_bytes h.number ++ (one_bytes h.command ++ (kind_number h.kind ∷ status_number h.status ∷ (one_bytes (layer_byte h.status) ++ (one_bytes h.detail ++ r1)))) ≡ bs
    → entries_bytes e ++ r2 ≡ r1 → inventory_bytes i ++ r3 ≡ r2 → r3 ≡ [] → bytes_of (told_in h e i) ≡ m ∷ bs
unfolding bytes_of
response_whole m h e i bs r1 r2 r3 em eh ee ei ez =
    let z : inventory_bytes i ≡ r2 = sym (append-nil (inventory_bytes i)) ∙ ap (λ (l : List ℕ). inventory_bytes i ++ l) (sym ez) ∙ ei in cc

whole_of : (m : ℕ) (bs : List ℕ) (t : Told) (h : Head) (e : Option (List Entry)) (i : Option (List ℕ)) (r1 r2 r3 : List ℕ) → m < 256 → HeadCut m h r1 bs
    → Listed entries_bytes 21 (has_bit m 64) r1 e r2 → Listed inventory_bytes 256 (has_bit m 128) r2 i r3 → ended (told_in h e i) r3 ≡ Some t → Whole t (m ∷ bs)
whole_of m bs t h e i r1 r2 r3 b f1 f2 f3 x =
    let z = ended_inv (told_in h e i) t r3 x in
    let mm : map_of (told_in h e i) ≡ m = map_is (told_in h e i) m b (record {
      number = f1.number;
      command = f1.command;
      kind = f1.kind;
      status = f1.status;
      layer = f1.layer;
      detail = f1.detail;
      entries = sym f2.stands;
      inventory = sym f3.stands;
    }) in
    subst (λ (u : Told). Whole u (m ∷ bs)) {x = told_in h e i} {y = t} z.0
    (record { bytes = response_whole m h e i bs r1 r2 r3 mm f1.bytes f2.bytes f3.bytes z.1; entries = f2.count; places = f3.count })

inventory_whole : (m : ℕ) (bs : List ℕ) (t : Told) (h : Head) (e : Option (List Entry)) (r1 r2 : List ℕ) → m < 256 → HeadCut m h r1 bs
    → Listed entries_bytes 21 (has_bit m 64) r1 e r2 → inventory_on m h e r2 ≡ Some t → Whole t (m ∷ bs)
inventory_whole m bs t h e r1 r2 b f1 f2 x =
    let a = after_inv (maybe (has_bit m 128) inventory_off r2) (λ i. ended (told_in h e i)) t x in
    let y = bytes_behind (entries_bytes e) r2 r1 f2.bytes f1.behind in
    whole_of m bs t h e a.0.0 r1 r2 a.0.1 b f1 f2 (inventory_forth (has_bit m 128) r2 a.0.0 a.0.1 y a.1) a.2

entries_whole : (m : ℕ) (bs : List ℕ) (t : Told) (h : Head) (r1 : List ℕ) → m < 256 → HeadCut m h r1 bs → entries_on m h r1 ≡ Some t → Whole t (m ∷ bs)
entries_whole m bs t h r1 b f1 x =
    let a = after_inv (maybe (has_bit m 64) entries_off r1) (inventory_on m h) t x in
    inventory_whole m bs t h a.0.0 r1 a.0.1 b f1 (entries_forth (has_bit m 64) r1 a.0.0 a.0.1 f1.behind a.1) a.2

read_whole : (bs : List ℕ) (t : Told) → Bytes bs → response_in bs ≡ Some t → Whole t bs
unfolding response_in
read_whole [] t y x = absurd (none_some t x)
read_whole (m ∷ bs) t y x =
    let a = after_inv (head_off m bs) (entries_on m) t x in
    entries_whole m bs t a.0.0 a.0.1 y.0 (head_forth m bs a.0.0 a.0.1 y.1 a.1) a.2

written : (n : ℕ) (t : Told) → 2048 ≤ n → count_of t.entries ≤ 21 → count_of t.inventory ≤ 256 → unwritable n t ≡ None
written n t h ce ci =
    let a : ltb n 2048 ≡ false = le-ltb n 2048 h in
    let b : ltb 21 (count_of t.entries) ≡ false = le-ltb 21 (count_of t.entries) ce in
    let c : ltb 256 (count_of t.inventory) ≡ false = le-ltb 256 (count_of t.inventory) ci in
    rw (a, b, c)

writes_back : (t : Told) (p : List ℕ) → Whole t p → WritesBack t p
writes_back t p w = record {
  length_told = λ n k. ap (λ (o : Option Unwritable). answer_by o t) (written n t k w.entries w.places) ∙ ap (λ (l : List ℕ). Ok (length l)) w.bytes;
  buffer = λ xs k. ap (λ (o : Option Unwritable). left_by o t xs) (written (length xs) t k w.entries w.places) ∙ ap (λ (l : List ℕ). l ++ drop (length l) xs) w.bytes;
}

pub reads_forth : (p : List ℕ) (r : Option Response) → Bytes p → seen_response r ≡ response_in p → WrittenBack r p
reads_forth p None b e = tt
reads_forth p (Some r) b e = writes_back (told r) p (read_whole p (told r) b (sym e))
