-- A field that was taken off has the bytes that it was cut from.
use Rattle.std.proofs.Common.{◌≡◌, ℕ, suc, ◌+◌, ◌*◌, ◌/◌, ◌%◌, ◌<◌, Bool, true, false, List, [], ◌∷◌, ◌++◌, get_or, is_some, Some, None, Option, ap, arith}
use Rattle.byte_fields.specs.Taking.{one_off, two_off, six_off, Bytes}
use Rattle.byte_fields.specs.Putting.{one_bytes, two_bytes, six_bytes}

pub none_some : {X : Type 0} (x : X) → None ≡ Some x → ⊥
none_some x h = let z : ◌≡◌ {A = ℕ} 0 1 = cc in omega arith

pub pair_eq : {X Y : Type 0} (a c : X) (b d : Y) → ◌≡◌ {A = Option (X × Y)} (Some (a, b)) (Some (c, d)) → (a ≡ c) × (b ≡ d)
pair_eq {X} {Y} a c b d h = let k : ◌≡◌ {A = X × Y} (a, b) (c, d) = cc in (ap (λ (p : X × Y). p.0) k, ap (λ (p : X × Y). p.1) k)

-- Every list of bytes that a slice holds is one.
pub bytes_all : (xs : List ℕ) → ((i : ℕ) → get_or xs i 0 < 256) → Bytes xs
bytes_all [] h = tt
bytes_all (x ∷ xs) h = (h 0, bytes_all xs (λ i. h (suc i)))

-- A field off the front: it is there where it should be, its bytes and those behind it are the whole, and those behind it are bytes.
pub record Cut {X : Type 0} (bytes_of : Option X → List ℕ) (there : Bool) (bs : List ℕ) (o : Option X) (rest : List ℕ) : Type 0 where
  pub bytes : bytes_of o ++ rest ≡ bs
  pub stands : is_some o ≡ there
  pub behind : Bytes rest

pub one_forth : (h : Bool) (bs : List ℕ) (o : Option ℕ) (rest : List ℕ) → Bytes bs → one_off h bs ≡ Some (o, rest) → Cut one_bytes h bs o rest
one_forth false bs o rest y e = let f = pair_eq _ _ _ _ e in let p : None ≡ o = f.0 in let q : bs ≡ rest = f.1 in record { bytes = rw (← p, ← q); stands = rw (← p); behind = rw (← q) y }
one_forth true [] o rest y e = absurd (none_some _ e)
one_forth true (b ∷ bs) o rest y e = let f = pair_eq _ _ _ _ e in let p : Some b ≡ o = f.0 in let q : bs ≡ rest = f.1 in record { bytes = rw (← p, ← q); stands = rw (← p); behind = rw (← q) y.1 }

pub two_forth : (h : Bool) (bs : List ℕ) (o : Option ℕ) (rest : List ℕ) → Bytes bs → two_off h bs ≡ Some (o, rest) → Cut two_bytes h bs o rest
two_forth false bs o rest y e = let f = pair_eq _ _ _ _ e in let p : None ≡ o = f.0 in let q : bs ≡ rest = f.1 in record { bytes = rw (← p, ← q); stands = rw (← p); behind = rw (← q) y }
two_forth true [] o rest y e = absurd (none_some _ e)
two_forth true (a ∷ []) o rest y e = absurd (none_some _ e)
two_forth true (a ∷ b ∷ bs) o rest y e =
    let f = pair_eq _ _ _ _ e in
    let p : Some (a * 256 + b) ≡ o = f.0 in
    let q : bs ≡ rest = f.1 in
    let u : (a * 256 + b) / 256 ≡ a = omega (arith, y.0, y.1.0) in
    let v : (a * 256 + b) % 256 ≡ b = omega (arith, y.0, y.1.0) in
    record { bytes = rw (← p, ← q, u, v); stands = rw (← p); behind = rw (← q) y.1.1 }

pub six_forth : (h : Bool) (bs : List ℕ) (o : Option (List ℕ)) (rest : List ℕ) → Bytes bs → six_off h bs ≡ Some (o, rest) → Cut six_bytes h bs o rest
six_forth false bs o rest y e = let f = pair_eq _ _ _ _ e in let p : None ≡ o = f.0 in let q : bs ≡ rest = f.1 in record { bytes = rw (← p, ← q); stands = rw (← p); behind = rw (← q) y }
six_forth true [] o rest y e = absurd (none_some _ e)
six_forth true (a ∷ []) o rest y e = absurd (none_some _ e)
six_forth true (a ∷ b ∷ []) o rest y e = absurd (none_some _ e)
six_forth true (a ∷ b ∷ c ∷ []) o rest y e = absurd (none_some _ e)
six_forth true (a ∷ b ∷ c ∷ d ∷ []) o rest y e = absurd (none_some _ e)
six_forth true (a ∷ b ∷ c ∷ d ∷ g ∷ []) o rest y e = absurd (none_some _ e)
six_forth true (a ∷ b ∷ c ∷ d ∷ g ∷ i ∷ bs) o rest y e =
    let f = pair_eq _ _ _ _ e in
    let p : Some (a ∷ b ∷ c ∷ d ∷ g ∷ i ∷ []) ≡ o = f.0 in
    let q : bs ≡ rest = f.1 in
    record { bytes = rw (← p, ← q); stands = rw (← p); behind = rw (← q) y.1.1.1.1.1.1 }
