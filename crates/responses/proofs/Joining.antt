-- The fields of a response, written one behind another, are its bytes.
use Rattle.std.proofs.Common.{◌≡◌, ℕ, ◌≤◌, Bool, true, false, cond, ltb, List, [], ◌∷◌, ◌++◌, Some, None, Option, refl, append_assoc, arith, ltb-false}
use Rattle.byte_fields.specs.Putting.{one_bytes, two_bytes}
use Rattle.statuses.specs.Statuses.{status_number}
use Rattle.responses.specs.declared.writing.Unwritable.{Unwritable}
use Rattle.responses.specs.Responses.{Told, kind_number, count_of}
use Rattle.responses.specs.Entries.{entries_bytes}
use Rattle.responses.specs.Inventories.{inventory_bytes}
use Rattle.responses.specs.Writing.{layer_byte, map_of, bytes_of, unwritable}

regroup : (a b c d e f g h : List ℕ) → ((((((a ++ b) ++ c) ++ d) ++ e) ++ f) ++ g) ++ h ≡ a ++ (b ++ (c ++ (d ++ (e ++ (f ++ (g ++ h))))))
regroup a b c d e f g h = simp append_assoc

pub joined : (t : Told) (m k s : ℕ) (l : Option ℕ) → m ≡ map_of t → k ≡ kind_number t.kind → s ≡ status_number t.status → l ≡ layer_byte t.status
    → (((((((m ∷ []) ++ two_bytes t.number) ++ one_bytes t.command) ++ (k ∷ s ∷ [])) ++ one_bytes l) ++ one_bytes t.detail) ++ entries_bytes t.entries) ++ inventory_bytes t.inventory ≡ bytes_of t
unfolding bytes_of
joined t m k s l em ek es el =
    rw (em, ek, es, el)
    (regroup (map_of t ∷ []) (two_bytes t.number) (one_bytes t.command) (kind_number t.kind ∷ status_number t.status ∷ []) (one_bytes (layer_byte t.status)) (one_bytes t.detail) (entries_bytes t.entries) (inventory_bytes t.inventory))

some_none : {X : Type 0} (x : X) → Some x ≡ None → ⊥
some_none x h = let z : ◌≡◌ {A = ℕ} 0 1 = cc in omega arith

-- A test that is passed.
passed : (b : Bool) (e : Unwritable) (rest : Option Unwritable) → cond b (Some e) rest ≡ None → (b ≡ false) × (rest ≡ None)
passed true e rest h = absurd (some_none e h)
passed false e rest h = (refl, h)

-- What a response that is written has passed.
pub record Writable (n : ℕ) (t : Told) : Type 0 where
  pub room : 2048 ≤ n
  pub entries : count_of t.entries ≤ 21
  pub places : count_of t.inventory ≤ 256

pub writable : (n : ℕ) (t : Told) → unwritable n t ≡ None → Writable n t
writable n t h =
    let a = passed (ltb n 2048) _ _ h in
    let b = passed (ltb 21 (count_of t.entries)) _ _ a.1 in
    let c = passed (ltb 256 (count_of t.inventory)) _ _ b.1 in
    record { room = ltb-false n 2048 a.0; entries = ltb-false 21 (count_of t.entries) b.0; places = ltb-false 256 (count_of t.inventory) c.0 }
