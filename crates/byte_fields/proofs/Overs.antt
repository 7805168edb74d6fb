-- What one write after another leaves in a buffer.
use Rattle.std.proofs.Common.{◌≡◌, ℕ, ◌+◌, ◌≤◌, List, [], ◌++◌, length, take, drop, sym, ap, ◌∙◌, subst, append_assoc, zero-add, arith, length-append, length-take-le, length-drop, drop-drop}
use Rattle.std.proofs.lemmas.List.{take_at, drop_at}
use Rattle.byte_fields.specs.declared.putting.Writer.{Writer}
use Rattle.byte_fields.specs.Putting.{over, Wrote}
use Rattle.byte_fields.specs.Writers.{Put, Added}

length_over : (at : ℕ) (a xs : List ℕ) → at ≤ length xs → length (take at xs ++ a) ≡ at + length a
length_over at a xs h = rw (length-append (take at xs) a, length-take-le at xs h)

pub over_join : (at : ℕ) (a b xs : List ℕ) → at ≤ length xs → over (at + length a) b (over at a xs) ≡ over at (a ++ b) xs
over_join at a b xs h =
    let n : length (take at xs ++ a) ≡ at + length a = length_over at a xs h in
    let e : over at a xs ≡ (take at xs ++ a) ++ drop (at + length a) xs = rw append_assoc in
    let t : take (at + length a) (over at a xs) ≡ take at xs ++ a = ap (λ (l : List ℕ). take (at + length a) l) e ∙ take_at (take at xs ++ a) (drop (at + length a) xs) (at + length a) n in
    let d : drop (at + length a) (over at a xs) ≡ drop (at + length a) xs = ap (λ (l : List ℕ). drop (at + length a) l) e ∙ drop_at (take at xs ++ a) (drop (at + length a) xs) (at + length a) n in
    let f : drop (at + length a + length b) (over at a xs) ≡ drop (at + length (a ++ b)) xs =
    sym (drop-drop (length b) (at + length a) (over at a xs)) ∙ ap (λ (l : List ℕ). drop (length b) l) d ∙ drop-drop (length b) (at + length a) xs
    ∙ ap (λ (k : ℕ). drop k xs) (let l = length-append a b in omega arith) in
    rw (t, f) (simp append_assoc)

-- One write, and then another behind it.
pub wrote_then : {at m r : ℕ} {a b xs ys zs : List ℕ} → at ≤ length xs → Wrote at a xs ys m → Wrote m b ys zs r → Wrote at (a ++ b) xs zs r
wrote_then {at} {m} {r} {a} {b} {xs} {ys} {zs} h v w = record {
  bytes = w.bytes ∙ ap (λ (l : List ℕ). over m b l) v.bytes ∙ ap (λ (k : ℕ). over k b (over at a xs)) v.end ∙ over_join at a b xs h;
  end = let l = length-append a b in omega (arith, v.end, w.end);
}

pub wrote_same : {at r : ℕ} {xs ys : List ℕ} (a b : List ℕ) → a ≡ b → Wrote at a xs ys r → Wrote at b xs ys r
wrote_same {at} {r} {xs} {ys} a b e w = subst (λ (l : List ℕ). Wrote at l xs ys r) e w

-- What was written from the front on.
pub wrote_front : (bs xs ys : List ℕ) (r : ℕ) → Wrote 0 bs xs ys r → (ys ≡ bs ++ drop (length bs) xs) × (r ≡ length bs)
wrote_front bs xs ys r w = (w.bytes ∙ ap (λ (n : ℕ). bs ++ drop n xs) (zero-add (length bs)), w.end ∙ zero-add (length bs))

same_length : (at : ℕ) (a xs : List ℕ) → at + length a ≤ length xs → length (over at a xs) ≡ length xs
same_length at a xs h =
    let t = length-take-le at xs (omega arith) in
    let d = length-drop (at + length a) xs in
    simp length-append (omega arith)

-- A writer that has written nothing yet.
pub wrote_new : {xs ys : List ℕ} {n : ℕ} → ys ≡ xs → n ≡ 0 → Wrote 0 [] xs ys n
wrote_new {xs} {ys} {n} e z = record { bytes = e; end = z }

-- What a writer has written from the place at on, and then more behind it.
pub put_behind : {at : ℕ} {a b xs : List ℕ} {v w : Writer} → Wrote at a xs v.buffer.now v.at → v.at + length b ≤ length xs → Put b v w → Wrote at (a ++ b) xs w.buffer.now w.at
put_behind {at} {a} {b} {xs} {v} {w} e h p =
    let n = e.end in
    let l : length v.buffer.now ≡ length xs = ap (λ (l : List ℕ). length l) e.bytes ∙ same_length at a xs (omega arith) in
    wrote_then (omega arith) e (p.wrote (omega arith))

-- The same of writers.
pub put_added : {b : List ℕ} {v w : Writer} → v.at + length b ≤ length v.buffer.now → Put b v w → Added b v w
put_added {b} {v} {w} h p = record { same = p.same; wrote = p.wrote h }

pub added_then : {a b : List ℕ} {u v w : Writer} → Added a u v → Added b v w → Added (a ++ b) u w
added_then {a} {b} {u} {v} {w} p q = record { same = q.same ∙ p.same; wrote = wrote_then u.within p.wrote q.wrote }

pub added_same : {v w : Writer} (a b : List ℕ) → a ≡ b → Added a v w → Added b v w
added_same {v} {w} a b e p = subst (λ (l : List ℕ). Added l v w) e p

-- The buffer keeps its length.
pub added_length : {a : List ℕ} {v w : Writer} → Added a v w → v.at + length a ≤ length v.buffer.now → length w.buffer.now ≡ length v.buffer.now
added_length {a} {v} {w} p h = ap (λ (l : List ℕ). length l) p.wrote.bytes ∙ same_length v.at a v.buffer.now h

pub added_behind : {at : ℕ} {a b xs : List ℕ} {v w : Writer} → at ≤ length xs → Wrote at a xs v.buffer.now v.at → Added b v w → Wrote at (a ++ b) xs w.buffer.now w.at
added_behind h e p = wrote_then h e p.wrote
