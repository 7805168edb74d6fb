-- The fields before the entries that were read are those written.
use Rattle.std.proofs.Common.{◌≡◌, ℕ, Bool, true, false, cond, eqb, List, ◌∷◌, ◌++◌, is_some, Some, None, Option, sym, refl, ap, ◌∙◌, subst, arith, eqb-true}
use Rattle.byte_fields.specs.Taking.{has_bit, one_off, two_off, Bytes}
use Rattle.byte_fields.specs.Putting.{one_bytes, two_bytes}
use Rattle.byte_fields.proofs.Forth.{none_some, pair_eq, Cut, one_forth, two_forth}
use Rattle.statuses.specs.declared.Status.{Status}
use Rattle.statuses.specs.Statuses.{status_number}
use Rattle.statuses.proofs.Numbers.{number_of_status}
use Rattle.responses.specs.declared.ResponseKind.{ResponseKind}
use Rattle.responses.specs.declared.ResponseKind.TheVariants.{Acknowledge, Final}
use Rattle.responses.specs.declared.Head.{Head}
use Rattle.responses.specs.Responses.{kind_number}
use Rattle.responses.specs.Writing.{layer_byte}
use Rattle.responses.specs.Reading.{given, kind_in, status_in, same, detail_off, layer_off, status_off, kind_off, command_off, head_off}
use Rattle.responses.proofs.Handed.{after_inv, cond_inv, given_inv}

pub kind_tried : (n : ℕ) (k : ResponseKind) (a b : Bool) → eqb n 1 ≡ a → eqb n 3 ≡ b → cond a (Some Acknowledge) (cond b (Some Final) None) ≡ Some k → n ≡ kind_number k
kind_tried n k true b p q e = let r : Acknowledge ≡ k = cc in eqb-true n 1 p ∙ ap kind_number r
kind_tried n k false true p q e = let r : Final ≡ k = cc in eqb-true n 3 q ∙ ap kind_number r
kind_tried n k false false p q e = absurd (none_some k e)

pub kind_forth : (o : Option ℕ) (k : ResponseKind) → kind_in o ≡ Some k → o ≡ Some (kind_number k)
kind_forth None k e = absurd (none_some k e)
kind_forth (Some n) k e = ap (λ (x : ℕ). Some x) (kind_tried n k (eqb n 1) (eqb n 3) refl refl e)

pub status_forth : (o : Option ℕ) (s : Status) → status_in o ≡ Some s → o ≡ Some (status_number s)
status_forth None s e = absurd (none_some s e)
status_forth (Some n) s e = ap (λ (x : ℕ). Some x) (sym (number_of_status n s e))

pub same_forth : (a b : Option ℕ) → same a b ≡ true → a ≡ b
same_forth None None h = refl
same_forth None (Some y) h = absurd (let z : ◌≡◌ {A = ℕ} 0 1 = cc in omega arith)
same_forth (Some x) None h = absurd (let z : ◌≡◌ {A = ℕ} 0 1 = cc in omega arith)
same_forth (Some x) (Some y) h = ap (λ (n : ℕ). Some n) (eqb-true x y h)

pub record HeadCut (m : ℕ) (h : Head) (rest bs : List ℕ) : Type 0 where
  pub bytes : two_bytes h.number ++ (one_bytes h.command ++ (kind_number h.kind ∷ status_number h.status ∷ (one_bytes (layer_byte h.status) ++ (one_bytes h.detail ++ rest)))) ≡ bs
  pub number : has_bit m 1 ≡ is_some h.number
  pub command : has_bit m 2 ≡ is_some h.command
  pub kind : has_bit m 4 ≡ true
  pub status : has_bit m 8 ≡ true
  pub layer : has_bit m 16 ≡ is_some (layer_byte h.status)
  pub detail : has_bit m 32 ≡ is_some h.detail
  pub behind : Bytes rest

-- Field by field, from the last one on: what is known of the head h so far.
pub record Kept (n c : Option ℕ) (k : ResponseKind) (s : Status) (h : Head) : Type 0 where
  pub number : h.number ≡ n
  pub command : h.command ≡ c
  pub kind : h.kind ≡ k
  pub status : h.status ≡ s

pub record DetailCut (m : ℕ) (n c : Option ℕ) (k : ResponseKind) (s : Status) (h : Head) (rest bs : List ℕ) : Type 0 where
  pub kept : Kept n c k s h
  pub bytes : one_bytes h.detail ++ rest ≡ bs
  pub detail : has_bit m 32 ≡ is_some h.detail
  pub behind : Bytes rest

pub detail_forth : (m : ℕ) (n c : Option ℕ) (k : ResponseKind) (s : Status) (bs : List ℕ) (h : Head) (rest : List ℕ) → Bytes bs → detail_off m n c k s bs ≡ Some (h, rest) → DetailCut m n c k s h rest bs
detail_forth m n c k s bs h rest y e =
    let a = after_inv (one_off (has_bit m 32) bs) (λ d r. Some (record { number = n; command = c; kind = k; status = s; detail = d }, r)) (h, rest) e in
    by a.0.0 a.0.1 (one_forth (has_bit m 32) bs a.0.0 a.0.1 y a.1) a.2
  where
    by : (d : Option ℕ) (r : List ℕ) → Cut one_bytes (has_bit m 32) bs d r → ◌≡◌ {A = Option (Head × List ℕ)} (Some (record { number = n; command = c; kind = k; status = s; detail = d }, r)) (Some (h, rest))
        → DetailCut m n c k s h rest bs
    by d r z x =
        let f = pair_eq {X = Head} {Y = List ℕ} (record { number = n; command = c; kind = k; status = s; detail = d }) h r rest x in
        let q : d ≡ h.detail = ap (λ (w : Head). w.detail) f.0 in
        record {
          kept = record {
            number = sym (ap (λ (w : Head). w.number) f.0);
            command = sym (ap (λ (w : Head). w.command) f.0);
            kind = sym (ap (λ (w : Head). w.kind) f.0);
            status = sym (ap (λ (w : Head). w.status) f.0);
          };
          bytes = ap (λ (o : Option ℕ). one_bytes o ++ rest) (sym q) ∙ ap (λ (l : List ℕ). one_bytes d ++ l) (sym f.1) ∙ z.bytes;
          detail = sym z.stands ∙ ap (λ (o : Option ℕ). is_some o) q;
          behind = subst Bytes f.1 z.behind;
        }

pub record LayerCut (m : ℕ) (n c : Option ℕ) (k : ResponseKind) (s : Status) (h : Head) (rest bs : List ℕ) : Type 0 where
  pub kept : Kept n c k s h
  pub bytes : one_bytes (layer_byte s) ++ (one_bytes h.detail ++ rest) ≡ bs
  pub layer : has_bit m 16 ≡ is_some (layer_byte s)
  pub detail : has_bit m 32 ≡ is_some h.detail
  pub behind : Bytes rest

pub layer_forth : (m : ℕ) (n c : Option ℕ) (k : ResponseKind) (s : Status) (bs : List ℕ) (h : Head) (rest : List ℕ) → Bytes bs → layer_off m n c k s bs ≡ Some (h, rest) → LayerCut m n c k s h rest bs
layer_forth m n c k s bs h rest y e =
    let a = after_inv (one_off (has_bit m 16) bs) (λ l r. cond (same l (layer_byte s)) (detail_off m n c k s r) None) (h, rest) e in
    by a.0.0 a.0.1 (one_forth (has_bit m 16) bs a.0.0 a.0.1 y a.1) a.2
  where
    by : (l : Option ℕ) (r : List ℕ) → Cut one_bytes (has_bit m 16) bs l r → cond (same l (layer_byte s)) (detail_off m n c k s r) None ≡ Some (h, rest) → LayerCut m n c k s h rest bs
    by l r z x =
        let g = cond_inv (same l (layer_byte s)) (detail_off m n c k s r) (h, rest) x in
        let d = detail_forth m n c k s r h rest z.behind g.1 in
        let q : l ≡ layer_byte s = same_forth l (layer_byte s) g.0 in
        record {
          kept = d.kept;
          bytes = ap (λ (o : Option ℕ). one_bytes o ++ (one_bytes h.detail ++ rest)) (sym q) ∙ ap (λ (x : List ℕ). one_bytes l ++ x) d.bytes ∙ z.bytes;
          layer = sym z.stands ∙ ap (λ (o : Option ℕ). is_some o) q;
          detail = d.detail;
          behind = d.behind;
        }

pub record StatusCut (m : ℕ) (n c : Option ℕ) (k : ResponseKind) (h : Head) (rest bs : List ℕ) : Type 0 where
  pub kept : Kept n c k h.status h
  pub bytes : status_number h.status ∷ (one_bytes (layer_byte h.status) ++ (one_bytes h.detail ++ rest)) ≡ bs
  pub status : has_bit m 8 ≡ true
  pub layer : has_bit m 16 ≡ is_some (layer_byte h.status)
  pub detail : has_bit m 32 ≡ is_some h.detail
  pub behind : Bytes rest

pub status_cut : (m : ℕ) (n c : Option ℕ) (k : ResponseKind) (bs : List ℕ) (h : Head) (rest : List ℕ) → Bytes bs → status_off m n c k bs ≡ Some (h, rest) → StatusCut m n c k h rest bs
status_cut m n c k bs h rest y e =
    let a = after_inv (one_off (has_bit m 8) bs) (λ x r. given (status_in x) (λ s. layer_off m n c k s r)) (h, rest) e in
    by a.0.0 a.0.1 (one_forth (has_bit m 8) bs a.0.0 a.0.1 y a.1) a.2
  where
    at : (o : Option ℕ) (r : List ℕ) (s : Status) → Cut one_bytes (has_bit m 8) bs o r → o ≡ Some (status_number s) → LayerCut m n c k s h rest r → StatusCut m n c k h rest bs
    at o r s z q d =
        let t : s ≡ h.status = sym d.kept.status in
        record {
          kept = record { number = d.kept.number; command = d.kept.command; kind = d.kept.kind; status = refl };
          bytes = ap (λ (s : Status). status_number s ∷ (one_bytes (layer_byte s) ++ (one_bytes h.detail ++ rest))) (sym t) ∙ ap (λ (l : List ℕ). status_number s ∷ l) d.bytes
              ∙ ap (λ (o : Option ℕ). one_bytes o ++ r) (sym q) ∙ z.bytes;
          status = sym z.stands ∙ ap (λ (o : Option ℕ). is_some o) q;
          layer = d.layer ∙ ap (λ (s : Status). is_some (layer_byte s)) t;
          detail = d.detail;
          behind = d.behind;
        }

    by : (o : Option ℕ) (r : List ℕ) → Cut one_bytes (has_bit m 8) bs o r → given (status_in o) (λ s. layer_off m n c k s r) ≡ Some (h, rest) → StatusCut m n c k h rest bs
    by o r z x =
        let g = given_inv (status_in o) (λ s. layer_off m n c k s r) (h, rest) x in
        at o r g.0 z (status_forth o g.0 g.1) (layer_forth m n c k g.0 r h rest z.behind g.2)

pub record KindCut (m : ℕ) (n c : Option ℕ) (h : Head) (rest bs : List ℕ) : Type 0 where
  pub number : h.number ≡ n
  pub command : h.command ≡ c
  pub bytes : kind_number h.kind ∷ status_number h.status ∷ (one_bytes (layer_byte h.status) ++ (one_bytes h.detail ++ rest)) ≡ bs
  pub kind : has_bit m 4 ≡ true
  pub status : has_bit m 8 ≡ true
  pub layer : has_bit m 16 ≡ is_some (layer_byte h.status)
  pub detail : has_bit m 32 ≡ is_some h.detail
  pub behind : Bytes rest

pub kind_cut : (m : ℕ) (n c : Option ℕ) (bs : List ℕ) (h : Head) (rest : List ℕ) → Bytes bs → kind_off m n c bs ≡ Some (h, rest) → KindCut m n c h rest bs
kind_cut m n c bs h rest y e =
    let a = after_inv (one_off (has_bit m 4) bs) (λ x r. given (kind_in x) (λ k. status_off m n c k r)) (h, rest) e in
    by a.0.0 a.0.1 (one_forth (has_bit m 4) bs a.0.0 a.0.1 y a.1) a.2
  where
    at : (o : Option ℕ) (r : List ℕ) (k : ResponseKind) → Cut one_bytes (has_bit m 4) bs o r → o ≡ Some (kind_number k) → StatusCut m n c k h rest r → KindCut m n c h rest bs
    at o r k z q d = record {
      number = d.kept.number;
      command = d.kept.command;
      bytes = ap (λ (k : ResponseKind). kind_number k ∷ status_number h.status ∷ (one_bytes (layer_byte h.status) ++ (one_bytes h.detail ++ rest))) d.kept.kind
          ∙ ap (λ (l : List ℕ). kind_number k ∷ l) d.bytes ∙ ap (λ (o : Option ℕ). one_bytes o ++ r) (sym q) ∙ z.bytes;
      kind = sym z.stands ∙ ap (λ (o : Option ℕ). is_some o) q;
      status = d.status;
      layer = d.layer;
      detail = d.detail;
      behind = d.behind;
    }

    by : (o : Option ℕ) (r : List ℕ) → Cut one_bytes (has_bit m 4) bs o r → given (kind_in o) (λ k. status_off m n c k r) ≡ Some (h, rest) → KindCut m n c h rest bs
    by o r z x =
        let g = given_inv (kind_in o) (λ k. status_off m n c k r) (h, rest) x in
        at o r g.0 z (kind_forth o g.0 g.1) (status_cut m n c g.0 r h rest z.behind g.2)

pub head_forth : (m : ℕ) (bs : List ℕ) (h : Head) (rest : List ℕ) → Bytes bs → head_off m bs ≡ Some (h, rest) → HeadCut m h rest bs
head_forth m bs h rest y e =
    let a = after_inv (two_off (has_bit m 1) bs) (λ n. command_off m n) (h, rest) e in
    by a.0.0 a.0.1 (two_forth (has_bit m 1) bs a.0.0 a.0.1 y a.1) a.2
  where
    at : (n c : Option ℕ) (r q : List ℕ) → Cut two_bytes (has_bit m 1) bs n r → Cut one_bytes (has_bit m 2) r c q → KindCut m n c h rest q → HeadCut m h rest bs
    at n c r q z w d = record {
      bytes = ap (λ (o : Option ℕ). two_bytes o ++ (one_bytes h.command ++ (kind_number h.kind ∷ status_number h.status ∷ (one_bytes (layer_byte h.status) ++ (one_bytes h.detail ++ rest))))) d.number ∙ ap (λ (o : Option ℕ). two_bytes n ++ (one_bytes o ++ (kind_number h.kind ∷ status_number h.status ∷ (one_bytes (layer_byte h.status) ++ (one_bytes h.detail ++ rest))))) d.command
          ∙ ap (λ (l : List ℕ). two_bytes n ++ (one_bytes c ++ l)) d.bytes ∙ ap (λ (l : List ℕ). two_bytes n ++ l) w.bytes ∙ z.bytes;
      number = sym z.stands ∙ ap (λ (o : Option ℕ). is_some o) (sym d.number);
      command = sym w.stands ∙ ap (λ (o : Option ℕ). is_some o) (sym d.command);
      kind = d.kind;
      status = d.status;
      layer = d.layer;
      detail = d.detail;
      behind = d.behind;
    }

    by : (n : Option ℕ) (r : List ℕ) → Cut two_bytes (has_bit m 1) bs n r → command_off m n r ≡ Some (h, rest) → HeadCut m h rest bs
    by n r z x =
        let b = after_inv (one_off (has_bit m 2) r) (λ c. kind_off m n c) (h, rest) x in
        let w = one_forth (has_bit m 2) r b.0.0 b.0.1 z.behind b.1 in
        at n b.0.0 r b.0.1 z w (kind_cut m n b.0.0 b.0.1 h rest w.behind b.2)
