-- Entries that were read are those written.
use Rattle.std.proofs.Common.{◌≡◌, ℕ, zero, suc, ◌≤◌, Bool, leb, List, [], ◌∷◌, ◌++◌, length, Some, Option, sym, refl, ap, ◌∙◌, append_assoc, arith, leb-true}
use Rattle.byte_fields.specs.Taking.{Bytes}
use Rattle.byte_fields.proofs.Forth.{none_some, pair_eq}
use Rattle.labels.specs.Labels.{six_for}
use Rattle.statuses.specs.Statuses.{status_number, status_of}
use Rattle.statuses.proofs.Numbers.{number_of_status}
use Rattle.responses.specs.declared.Entry.{Entry}
use Rattle.responses.specs.Entries.{behind_label, entry_bytes, each_bytes, entries_bytes}
use Rattle.responses.specs.Reading.{cartridge_off, entry_from, entry_off, consed, each_off, entries_off, maybe}
use Rattle.responses.proofs.Handed.{Listed, after_inv, cond_inv, consed_inv, given_inv, maybe_forth}
use Rattle.responses.proofs.ReadCartridge.{cartridge_forth}

pub entry_from_holds : (n : ℕ) (xs : List ℕ) (e : Entry) (rest : List ℕ) → entry_from n xs ≡ Some (e, rest) → (behind_label e ++ rest ≡ xs) × (e.cartridge ≡ n)
entry_from_holds n [] e rest h = absurd (none_some _ h)
entry_from_holds n (a ∷ []) e rest h = absurd (none_some _ h)
entry_from_holds n (a ∷ b ∷ []) e rest h = absurd (none_some _ h)
entry_from_holds n (a ∷ b ∷ c ∷ xs) e rest h =
    let g = given_inv (status_of c) (λ s. Some (record { cartridge = n; from = a; to = b; status = s }, xs)) (e, rest) h in
    let f = pair_eq _ _ _ _ g.2 in
    let k = f.0 in
    let q : status_number g.0 ≡ c = number_of_status c g.0 g.1 in
    (ap (λ (x : Entry). x.from ∷ x.to ∷ status_number x.status ∷ rest) (sym k) ∙ (rw (q, ← f.1)), ap (λ (x : Entry). x.cartridge) (sym k))

pub entry_forth : (bs : List ℕ) (e : Entry) (rest : List ℕ) → entry_off bs ≡ Some (e, rest) → entry_bytes e ++ rest ≡ bs
entry_forth bs e rest h =
    let a = after_inv (cartridge_off bs) entry_from (e, rest) h in
    let p = a.0 in
    let f = entry_from_holds p.0 p.1 e rest a.2 in
    let c = cartridge_forth bs p.0 p.1 a.1 in
    append_assoc (six_for e.cartridge) (behind_label e) rest
    ∙ ap (λ (l : List ℕ). six_for e.cartridge ++ l) f.0 ∙ ap (λ (n : ℕ). six_for n ++ p.1) f.1 ∙ c.0

pub each_forth : (n : ℕ) (bs : List ℕ) (es : List Entry) (rest : List ℕ) → each_off n bs ≡ Some (es, rest) → (each_bytes es ++ rest ≡ bs) × (length es ≡ n)
each_forth zero bs es rest h = let f = pair_eq _ _ _ _ h in let p : es ≡ [] = sym f.0 in (rw p (sym f.1), rw p)
each_forth (suc n) bs es rest h =
    let a = after_inv (entry_off bs) (λ e r. consed e (each_off n r)) (es, rest) h in
    let e = a.0.0 in
    let behind = a.0.1 in
    let c = consed_inv e (each_off n behind) (es, rest) a.2 in
    let i = each_forth n behind c.0.0 c.0.1 c.1 in
    let x = entry_forth bs e behind a.1 in
    let q : es ≡ e ∷ c.0.0 = ap (λ (p : List Entry × List ℕ). p.0) c.2 in
    let r : rest ≡ c.0.1 = ap (λ (p : List Entry × List ℕ). p.1) c.2 in (
      ap (λ (l : List Entry). each_bytes l ++ rest) q ∙ ap (λ (l : List ℕ). each_bytes (e ∷ c.0.0) ++ l) r
          ∙ append_assoc (entry_bytes e) (each_bytes c.0.0) c.0.1 ∙ ap (λ (l : List ℕ). entry_bytes e ++ l) i.0 ∙ x,
      ap (λ (l : List Entry). length l) q ∙ ap suc i.1,
    )

pub entries_some : (bs : List ℕ) (es : List Entry) (rest : List ℕ) → Bytes bs → entries_off bs ≡ Some (es, rest) → (entries_bytes (Some es) ++ rest ≡ bs) × (length es ≤ 21)
entries_some [] es rest y h = absurd (none_some _ h)
entries_some (n ∷ bs) es rest y h =
    let c = cond_inv (leb n 21) (each_off n bs) (es, rest) h in
    let f = each_forth n bs es rest c.1 in
    let l = leb-true n 21 c.0 in
    let q = f.1 in
    (ap (λ (k : ℕ). k ∷ (each_bytes es ++ rest)) q ∙ ap (λ (l : List ℕ). n ∷ l) f.0, omega arith)

pub entries_forth : (t : Bool) (bs : List ℕ) (o : Option (List Entry)) (rest : List ℕ) → Bytes bs → maybe t entries_off bs ≡ Some (o, rest) → Listed entries_bytes 21 t bs o rest
entries_forth t bs o rest y h = maybe_forth entries_off entries_bytes 21 refl (λ cs es r z e. entries_some cs es r z e) t bs o rest y h
