-- A list of places, read by a part, and changed at one place.
use Rattle.std.specs.Prelude.{◌≡◌, ℕ, zero, suc, ◌<◌, ◌≤◌, Bool, true, false, List, [], ◌∷◌, map, length, Some, None, nat_lt, slice_index, slice_index_or, slice_set}
use Rattle.std.proofs.Common.{sym, ap, ◌∙◌, arith}
use Rattle.std.proofs.lemmas.Bool.{lt-ltb, le-ltb}
use Rattle.std.proofs.lemmas.List.{get_or-map, length-map, map-set}
use Rattle.std.proofs.Math.Seq.{map-set_same}
use Rattle.labels.specs.Numbers.{unreadable_number}
use Rattle.robots.specs.declared.kind.Kind.TheVariants.{Cell}
use Rattle.robots.specs.declared.place.Place.{Place}
use Rattle.robots.specs.Meaning.{Sound}
use Rattle.robots.specs.Acts.{with_held, with_service}
use Rattle.robots.specs.Making.{place_kind, place_cartridge, place_service, meaning_of, place_asked}
use Rattle.bay.specs.Numbered.{Numbered}

-- Here x is what stands at i.
part : {Y : Type 0} (f : Place → Y) (xs : List Place) (i : ℕ) (x : Place) (e : Y) → i < length xs → x ≡ slice_index_or xs i x → slice_index_or (map f xs) i e ≡ f x
part f xs i x e h q = get_or-map f xs i x e h ∙ ap f (sym q)

pub place_is : (xs : List Place) (h p : ℕ) (x : Place) → p < length xs → x ≡ slice_index_or xs p x → Some x ≡ place_asked (meaning_of xs h) p
place_is xs h p x l q =
    let a = part place_kind xs p x Cell l q in
    let b = part place_cartridge xs p x 0 l q in
    let d = part place_service xs p x false l q in
    let t : nat_lt p (length (map place_kind xs)) ≡ true = lt-ltb p (length (map place_kind xs)) (simp length-map l) in
    simp (t, a, b, d)

pub no_place : (xs : List Place) (h p : ℕ) → length xs ≤ p → None ≡ place_asked (meaning_of xs h) p
no_place xs h p l =
    let t : nat_lt p (length (map place_kind xs)) ≡ false = le-ltb p (length (map place_kind xs)) (simp length-map l) in
    simp t

pub number_within : (xs : List Place) (p : ℕ) (x : Place) → Numbered xs → p < length xs → x ≡ slice_index_or xs p x → x.cartridge ≤ unreadable_number
number_within xs p x n l q = omega (arith, n p, part place_cartridge xs p x 0 l q)

-- What is kept after a change; here x is what stands at p.
pub stored : (xs : List Place) (p : ℕ) (x : Place) (v h k : ℕ) → x ≡ slice_index_or xs p x → meaning_of (slice_set xs p (record { kind = x.kind; cartridge = v; in_service = x.in_service })) k ≡ with_held (meaning_of xs h) p v k
stored xs p x v h k q =
    let y : Place = record { kind = x.kind; cartridge = v; in_service = x.in_service } in
    simp (map-set_same place_kind xs p y x (ap place_kind q), map-set place_cartridge xs p y, map-set_same place_service xs p y x (ap place_service q))

pub turned : (xs : List Place) (p : ℕ) (x : Place) (o : Bool) (h : ℕ) → x ≡ slice_index_or xs p x → meaning_of (slice_set xs p (record { kind = x.kind; cartridge = x.cartridge; in_service = o })) h ≡ with_service (meaning_of xs h) p o
turned xs p x o h q =
    let y : Place = record { kind = x.kind; cartridge = x.cartridge; in_service = o } in
    simp (map-set_same place_kind xs p y x (ap place_kind q), map-set_same place_cartridge xs p y x (ap place_cartridge q), map-set place_service xs p y)

-- Numbers up to b stay so where one up to b is written.
within_set : (b : ℕ) (ns : List ℕ) (p v k : ℕ) → slice_index ns k ≤ b → v ≤ b → slice_index (slice_set ns p v) k ≤ b
within_set b [] p v k h l = h
within_set b (n ∷ ns) zero v zero h l = l
within_set b (n ∷ ns) zero v (suc k) h l = h
within_set b (n ∷ ns) (suc p) v zero h l = h
within_set b (n ∷ ns) (suc p) v (suc k) h l = within_set b ns p v k h l

pub still_numbered : (xs : List Place) (p : ℕ) (y : Place) → Numbered xs → y.cartridge ≤ unreadable_number → Numbered (slice_set xs p y)
still_numbered xs p y h l k = rw map-set (within_set unreadable_number (map place_cartridge xs) p y.cartridge k (h k) l)

pub turned_numbered : (xs : List Place) (p : ℕ) (x : Place) (o : Bool) → x ≡ slice_index_or xs p x → Numbered xs → Numbered (slice_set xs p (record { kind = x.kind; cartridge = x.cartridge; in_service = o }))
turned_numbered xs p x o q h = rw (map-set_same place_cartridge xs p (record { kind = x.kind; cartridge = x.cartridge; in_service = o }) x (ap place_cartridge q)) h

pub sound : (xs : List Place) (h : ℕ) → length xs ≤ 256 → Numbered xs → h ≤ unreadable_number → Sound (meaning_of xs h)
sound xs h l n k =
    record {
      few = simp length-map (omega arith);
      held_length = simp length-map;
      service_length = simp length-map;
      held_numbers = n;
      hand_number = k;
    }
