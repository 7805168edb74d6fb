-- What is written reads as it was told.
use Rattle.std.proofs.Common.{◌≡◌, ℕ, zero, suc, ◌≤◌, Bool, true, false, cond, eqb, leb, List, [], ◌∷◌, ◌++◌, map, length, take, drop, is_some, Some, None, Option, sym, refl, ap, ◌∙◌, append_assoc, append-nil, arith, length-append, eq-eqb, ne_eqb, le-leb}
use Rattle.std.proofs.lemmas.List.{take_at, drop_at}
use Rattle.byte_fields.specs.Taking.{has_bit, one_off, two_off}
use Rattle.byte_fields.specs.Putting.{one_bytes, two_bytes}
use Rattle.byte_fields.proofs.Back as field
use Rattle.labels.specs.Numbers.{unreadable_number}
use Rattle.labels.specs.Labels.{six_for}
use Rattle.labels.proofs.Sixes.{length_six, six_back}
use Rattle.statuses.specs.declared.Status.{Status}
use Rattle.statuses.specs.Statuses.{status_number}
use Rattle.statuses.proofs.Numbers.{status_of_number}
use Rattle.responses.specs.declared.Entry.{Entry}
use Rattle.responses.specs.declared.ResponseKind.{ResponseKind}
use Rattle.responses.specs.declared.ResponseKind.TheVariants.{Acknowledge, Final}
use Rattle.responses.specs.declared.Head.{Head}
use Rattle.responses.specs.Responses.{Told, kind_number, count_of}
use Rattle.responses.specs.Entries.{behind_label, entry_bytes, each_bytes, entries_bytes}
use Rattle.responses.specs.Inventories.{map_bytes, label_bytes, labels_bytes, inventory_bytes}
use Rattle.responses.specs.Writing.{layer_byte, map_of, bytes_of}
use Rattle.responses.specs.Reading.{after, given, kind_in, status_in, same, detail_off, layer_off, status_off, kind_off, command_off, head_off, cartridge_from, cartridge_off, entry_from, entry_off, consed, each_off, entries_off, place_off, places_off, inventory_off, maybe, ended, told_in, inventory_on, entries_on, response_in}
use Rattle.responses.specs.RoundTrips.{padded, all_places, filled, Entered, Placed, Where, Sound, ReadsBack}
use Rattle.responses.proofs.Marking.{length_map_bytes}
use Rattle.responses.proofs.Bits.{MapBits, map_bits}
use Rattle.responses.proofs.Padding.{full, labels_padded, AllPlaced, all_placed, bits_back}

-- A cartridge.
cartridge_back : (n : ℕ) (rest : List ℕ) → 1 ≤ n → n ≤ unreadable_number → cartridge_off (six_for n ++ rest) ≡ Some (n, rest)
cartridge_back n rest h k =
    ap (λ (o : Option (Option (List ℕ) × List ℕ)). after o cartridge_from) (sym (field.six_back (Some (six_for n)) rest (length_six n)))
    ∙ ap (λ (o : Option ℕ). given o (λ (j : ℕ). Some (j, rest))) (six_back n h k)

-- Entries.
entry_back : (e : Entry) (rest : List ℕ) → 1 ≤ e.cartridge → e.cartridge ≤ unreadable_number → entry_off (entry_bytes e ++ rest) ≡ Some (e, rest)
entry_back e rest h k =
    let behind : List ℕ = e.from ∷ e.to ∷ status_number e.status ∷ rest in
    ap entry_off (append_assoc (six_for e.cartridge) (behind_label e) rest)
    ∙ ap (λ (o : Option (ℕ × List ℕ)). after o entry_from) (cartridge_back e.cartridge behind h k)
    ∙ ap (λ (o : Option Status). given o (λ (s : Status). Some (record { cartridge = e.cartridge; from = e.from; to = e.to; status = s }, rest))) (status_of_number e.status)

each_back : (es : List Entry) (rest : List ℕ) → Entered es → each_off (length es) (each_bytes es ++ rest) ≡ Some (es, rest)
each_back [] rest h = refl
each_back (e ∷ es) rest h =
    ap (λ (bs : List ℕ). each_off (suc (length es)) bs) (append_assoc (entry_bytes e) (each_bytes es) rest)
    ∙ ap (λ (o : Option (Entry × List ℕ)). after o (λ x r. consed x (each_off (length es) r))) (entry_back e (each_bytes es ++ rest) h.0 h.1)
    ∙ ap (λ (o : Option (List Entry × List ℕ)). consed e o) (each_back es rest h.2)

entries_back : (o : Option (List Entry)) (rest : List ℕ) → count_of o ≤ 21 → Where Entered o → maybe (is_some o) entries_off (entries_bytes o ++ rest) ≡ Some (o, rest)
entries_back None rest k h = refl
entries_back (Some es) rest k h =
    let l : leb (length es) 21 ≡ true = le-leb (length es) 21 k in
    ap (λ (b : Bool). after (cond b (each_off (length es) (each_bytes es ++ rest)) None) (λ x r. Some (Some x, r))) l
    ∙ ap (λ (o : Option (List Entry × List ℕ)). after o (λ x r. Some (Some x, r))) (each_back es rest h)

-- The inventory.
place_back : (n : ℕ) (rest : List ℕ) → n ≤ unreadable_number → place_off (full n) (label_bytes n ++ rest) ≡ Some (n, rest)
place_back zero rest h = refl
place_back (suc n) rest h = let z : eqb (suc n) 0 ≡ false = ne_eqb (suc n) 0 (λ q. omega arith) in rw z (cartridge_back (suc n) rest (omega arith) h)

places_back : (ns : List ℕ) (rest : List ℕ) → AllPlaced ns → places_off (map full ns) (labels_bytes ns ++ rest) ≡ Some (ns, rest)
places_back [] rest h = refl
places_back (n ∷ ns) rest h =
    ap (λ (bs : List ℕ). places_off (full n ∷ map full ns) bs) (append_assoc (label_bytes n) (labels_bytes ns) rest)
    ∙ ap (λ (o : Option (ℕ × List ℕ)). after o (λ k r. consed k (places_off (map full ns) r))) (place_back n (labels_bytes ns ++ rest) h.0)
    ∙ ap (λ (o : Option (List ℕ × List ℕ)). consed n o) (places_back ns rest h.1)

inventory_some : (xs : List ℕ) → length xs ≤ 256 → Placed xs → inventory_off (map_bytes 32 xs ++ labels_bytes xs) ≡ Some (padded 256 xs, [])
inventory_some xs h n =
    let m = length_map_bytes 32 xs in
    let l : leb 32 (length (map_bytes 32 xs ++ labels_bytes xs)) ≡ true = le-leb 32 _ (let a = length-append (map_bytes 32 xs) (labels_bytes xs) in omega arith) in
    let t : take 32 (map_bytes 32 xs ++ labels_bytes xs) ≡ map_bytes 32 xs = take_at (map_bytes 32 xs) (labels_bytes xs) 32 m in
    let d : drop 32 (map_bytes 32 xs ++ labels_bytes xs) ≡ labels_bytes xs = drop_at (map_bytes 32 xs) (labels_bytes xs) 32 m in
    let e : labels_bytes xs ≡ labels_bytes (padded 256 xs) ++ [] = sym (append-nil (labels_bytes (padded 256 xs)) ∙ labels_padded 256 xs h) in
    rw (l, t, d, bits_back 32 xs, e) (places_back (padded 256 xs) [] (all_placed 256 xs n))

inventory_back : (o : Option (List ℕ)) → count_of o ≤ 256 → Where Placed o → maybe (is_some o) inventory_off (inventory_bytes o) ≡ Some (all_places o, [])
inventory_back None h n = refl
inventory_back (Some xs) h n = ap (λ (o : Option (List ℕ × List ℕ)). after o (λ x r. Some (Some x, r))) (inventory_some xs h n)

-- A field whose bit stands as it should is cut off.
on : {X Y : Type 0} (cut : Bool → List ℕ → Option (X × List ℕ)) (h b : Bool) (bs : List ℕ) (x : X) (cs : List ℕ) (k : X → List ℕ → Option Y)
    → h ≡ b → Some (x, cs) ≡ cut b bs → after (cut h bs) k ≡ k x cs
on cut h b bs x cs k e f = rw (e, ← f)

kind_back : (k : ResponseKind) → kind_in (Some (kind_number k)) ≡ Some k
kind_back Acknowledge = refl
kind_back Final = refl

same_self : (o : Option ℕ) → same o o ≡ true
same_self None = refl
same_self (Some b) = eq-eqb b b refl

head_back : (t : Told) (m : ℕ) (rest : List ℕ) → MapBits t m
    → head_off m (two_bytes t.number ++ (one_bytes t.command ++ (kind_number t.kind ∷ status_number t.status ∷ (one_bytes (layer_byte t.status) ++ (one_bytes t.detail ++ rest)))))
    ≡ Some (record { number = t.number; command = t.command; kind = t.kind; status = t.status; detail = t.detail }, rest)
head_back t m rest b =
    let n = t.number in
    let c = t.command in
    let k = t.kind in
    let s = t.status in
    let d = t.detail in
    let r6 : List ℕ = one_bytes d ++ rest in
    let r5 : List ℕ = one_bytes (layer_byte s) ++ r6 in
    let r4 : List ℕ = status_number s ∷ r5 in
    let r3 : List ℕ = kind_number k ∷ r4 in
    let r2 : List ℕ = one_bytes c ++ r3 in
    on two_off (has_bit m 1) (is_some n) (two_bytes n ++ r2) n r2 (λ x. command_off m x) b.number (field.two_back n r2)
    ∙ on one_off (has_bit m 2) (is_some c) r2 c r3 (λ x. kind_off m n x) b.command (field.one_back c r3)
    ∙ on one_off (has_bit m 4) true r3 (Some (kind_number k)) r4 (λ x r. given (kind_in x) (λ y. status_off m n c y r)) b.kind refl
    ∙ ap (λ (o : Option ResponseKind). given o (λ y. status_off m n c y r4)) (kind_back k)
    ∙ on one_off (has_bit m 8) true r4 (Some (status_number s)) r5 (λ x r. given (status_in x) (λ y. layer_off m n c k y r)) b.status refl
    ∙ ap (λ (o : Option Status). given o (λ y. layer_off m n c k y r5)) (status_of_number s)
    ∙ on one_off (has_bit m 16) (is_some (layer_byte s)) r5 (layer_byte s) r6 (λ l r. cond (same l (layer_byte s)) (detail_off m n c k s r) None) b.layer (field.one_back (layer_byte s) r6)
    ∙ ap (λ (x : Bool). cond x (detail_off m n c k s r6) None) (same_self (layer_byte s))
    ∙ on one_off (has_bit m 32) (is_some d) r6 d rest (λ x r. Some (record { number = n; command = c; kind = k; status = s; detail = x }, r)) b.detail (field.one_back d rest)

read_back : (t : Told) → count_of t.entries ≤ 21 → count_of t.inventory ≤ 256 → Sound t → response_in (bytes_of t) ≡ Some (filled t)
unfolding response_in bytes_of
read_back t ce ci s =
    let m = map_of t in
    let b = map_bits t in
    let h : Head = record { number = t.number; command = t.command; kind = t.kind; status = t.status; detail = t.detail } in
    let r8 : List ℕ = inventory_bytes t.inventory in
    let r7 : List ℕ = entries_bytes t.entries ++ r8 in
    ap (λ (o : Option (Head × List ℕ)). after o (entries_on m)) (head_back t m r7 b)
    ∙ on (λ x bs. maybe x entries_off bs) (has_bit m 64) (is_some t.entries) r7 t.entries r8 (inventory_on m h) b.entries (sym (entries_back t.entries r8 ce s.entries))
    ∙ on (λ x bs. maybe x inventory_off bs) (has_bit m 128) (is_some t.inventory) r8 (all_places t.inventory) [] (λ i. ended (told_in h t.entries i)) b.inventory (sym (inventory_back t.inventory ci s.inventory))

-- What stands at the front of a buffer.
pub reads_back : (t : Told) (xs ys : List ℕ) (n : ℕ) → count_of t.entries ≤ 21 → count_of t.inventory ≤ 256 → ys ≡ bytes_of t ++ drop (length (bytes_of t)) xs → n ≡ length (bytes_of t) → ReadsBack t (take n ys)
reads_back t xs ys n ce ci e k s =
    let f : take n ys ≡ bytes_of t = ap (λ (zs : List ℕ). take n zs) e ∙ take_at (bytes_of t) _ n (sym k) in
    ap response_in f ∙ read_back t ce ci s
