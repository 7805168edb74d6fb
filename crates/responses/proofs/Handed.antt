-- What was handed on, from what came of it.
use Rattle.std.proofs.Common.{◌≡◌, ℕ, zero, suc, ◌≤◌, Bool, true, false, cond, List, [], ◌∷◌, ◌++◌, length, take, is_some, Some, None, Option, sym, refl, ap, ◌∙◌, subst, arith}
use Rattle.byte_fields.specs.Taking.{Bytes}
use Rattle.byte_fields.proofs.Forth.{none_some, pair_eq}
use Rattle.responses.specs.Responses.{count_of}
use Rattle.responses.specs.Reading.{after, given, consed, maybe}

-- What was handed on.
pub after_inv : {X Y : Type 0} (o : Option (X × List ℕ)) (k : X → List ℕ → Option Y) (y : Y) → after o k ≡ Some y → (p : X × List ℕ) × (o ≡ Some p) × (k p.0 p.1 ≡ Some y)
after_inv None k y h = absurd (none_some y h)
after_inv (Some p) k y h = (p, refl, h)

pub given_inv : {X Y : Type 0} (o : Option X) (k : X → Option Y) (y : Y) → given o k ≡ Some y → (x : X) × (o ≡ Some x) × (k x ≡ Some y)
given_inv None k y h = absurd (none_some y h)
given_inv (Some x) k y h = (x, refl, h)

pub cond_inv : {Y : Type 0} (b : Bool) (x : Option Y) (y : Y) → cond b x None ≡ Some y → (b ≡ true) × (x ≡ Some y)
cond_inv true x y h = (refl, h)
cond_inv false x y h = absurd (none_some y h)

pub consed_inv : {X : Type 0} (x : X) (o : Option (List X × List ℕ)) (y : List X × List ℕ) → consed x o ≡ Some y → (p : List X × List ℕ) × (o ≡ Some p) × (y ≡ (x ∷ p.0, p.1))
consed_inv x None y h = absurd (none_some y h)
consed_inv x (Some p) y h = (p, refl, let k : (x ∷ p.0, p.1) ≡ y = cc in sym k)

-- The bytes behind others are bytes.
pub bytes_rest : (xs ys : List ℕ) → Bytes (xs ++ ys) → Bytes ys
bytes_rest [] ys y = y
bytes_rest (x ∷ xs) ys y = bytes_rest xs ys y.1

pub bytes_behind : (xs ys zs : List ℕ) → xs ++ ys ≡ zs → Bytes zs → Bytes ys
bytes_behind xs ys zs e y = bytes_rest xs ys (subst Bytes (sym e) y)

pub bytes_take : (n : ℕ) (bs : List ℕ) → Bytes bs → Bytes (take n bs)
bytes_take zero bs y = tt
bytes_take (suc n) [] y = tt
bytes_take (suc n) (b ∷ bs) y = (y.0, bytes_take n bs y.1)

-- A list that was read where its bit stands, of at most w.
pub record Listed {Y : Type 0} (bytes_of : Option (List Y) → List ℕ) (w : ℕ) (there : Bool) (bs : List ℕ) (o : Option (List Y)) (rest : List ℕ) : Type 0 where
  pub bytes : bytes_of o ++ rest ≡ bs
  pub stands : is_some o ≡ there
  pub count : count_of o ≤ w

pub maybe_forth : {Y : Type 0} (f : List ℕ → Option (List Y × List ℕ)) (bytes : Option (List Y) → List ℕ) (w : ℕ) → bytes None ≡ []
    → ((bs : List ℕ) (x : List Y) (rest : List ℕ) → Bytes bs → f bs ≡ Some (x, rest) → (bytes (Some x) ++ rest ≡ bs) × (length x ≤ w))
    → (t : Bool) (bs : List ℕ) (o : Option (List Y)) (rest : List ℕ) → Bytes bs → maybe t f bs ≡ Some (o, rest) → Listed bytes w t bs o rest
maybe_forth {Y} f bytes w z g false bs o rest y h =
    let e = pair_eq _ _ _ _ h in let p : o ≡ None = sym e.0 in
    record { bytes = rw (p, z) (sym e.1); stands = rw p; count = rw p (omega arith) }
maybe_forth {Y} f bytes w z g true bs o rest y h =
    let a = after_inv (f bs) (λ x r. Some (Some x, r)) (o, rest) h in
    let e = pair_eq _ _ _ _ a.2 in
    let p : o ≡ Some a.0.0 = sym e.0 in
    let q : rest ≡ a.0.1 = sym e.1 in
    let k = g bs a.0.0 a.0.1 y a.1 in
    record {
      bytes = ap (λ (x : Option (List Y)). bytes x ++ rest) p ∙ ap (λ (l : List ℕ). bytes (Some a.0.0) ++ l) q ∙ k.0;
      stands = ap (λ (x : Option (List Y)). is_some x) p;
      count = rw p k.1;
    }
