-- Six bytes read as a cartridge are those written for it.
use Rattle.std.proofs.Common.{◌≡◌, ℕ, ◌≤◌, true, List, [], ◌∷◌, ◌++◌, length, Some, None, Option, sym, ap, ◌∙◌, subst}
use Rattle.byte_fields.specs.Taking.{six_off}
use Rattle.byte_fields.proofs.Forth.{none_some, pair_eq}
use Rattle.labels.specs.Labels.{six_for, number_of_six}
use Rattle.labels.proofs.Sixes.{six_forth}
use Rattle.responses.specs.Reading.{cartridge_from, cartridge_off}
use Rattle.responses.proofs.Handed.{after_inv, given_inv}

-- Six bytes that were cut off are the first six.
pub six_cut : (bs l rest : List ℕ) → six_off true bs ≡ Some (Some l, rest) → (l ++ rest ≡ bs) × (length l ≡ 6)
six_cut [] l rest h = absurd (none_some _ h)
six_cut (a ∷ []) l rest h = absurd (none_some _ h)
six_cut (a ∷ b ∷ []) l rest h = absurd (none_some _ h)
six_cut (a ∷ b ∷ c ∷ []) l rest h = absurd (none_some _ h)
six_cut (a ∷ b ∷ c ∷ d ∷ []) l rest h = absurd (none_some _ h)
six_cut (a ∷ b ∷ c ∷ d ∷ e ∷ []) l rest h = absurd (none_some _ h)
six_cut (a ∷ b ∷ c ∷ d ∷ e ∷ f ∷ bs) l rest h =
    let p = pair_eq _ _ _ _ h in
    let q : a ∷ b ∷ c ∷ d ∷ e ∷ f ∷ [] ≡ l = cc p.0 in
    let r : bs ≡ rest = p.1 in
    (ap (λ (x : List ℕ). x ++ rest) (sym q) ∙ ap (λ (x : List ℕ). a ∷ b ∷ c ∷ d ∷ e ∷ f ∷ x) (sym r), ap (λ (x : List ℕ). length x) (sym q))

pub cartridge_by : (o : Option (List ℕ)) (bs mid : List ℕ) (n : ℕ) (rest : List ℕ) → six_off true bs ≡ Some (o, mid) → cartridge_from o mid ≡ Some (n, rest) → (six_for n ++ rest ≡ bs) × (1 ≤ n)
cartridge_by None bs mid n rest e h = absurd (none_some _ h)
cartridge_by (Some l) bs mid n rest e h =
    let g = given_inv (number_of_six l) (λ k. Some (k, mid)) (n, rest) h in
    let f = pair_eq _ _ _ _ g.2 in
    let c = six_cut bs l mid e in
    let s = six_forth l g.0 c.1 g.1 in
    (ap (λ (k : ℕ). six_for k ++ rest) (sym f.0) ∙ ap (λ (x : List ℕ). x ++ rest) s.0 ∙ ap (λ (x : List ℕ). l ++ x) (sym f.1) ∙ c.0, subst (λ (k : ℕ). 1 ≤ k) f.0 s.1)

pub cartridge_forth : (bs : List ℕ) (n : ℕ) (rest : List ℕ) → cartridge_off bs ≡ Some (n, rest) → (six_for n ++ rest ≡ bs) × (1 ≤ n)
cartridge_forth bs n rest h =
    let a = after_inv (six_off true bs) cartridge_from (n, rest) h in
    cartridge_by a.0.0 bs a.0.1 n rest a.1 a.2
