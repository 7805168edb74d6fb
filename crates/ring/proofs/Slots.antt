use Rattle.std.proofs.Common.{◌≡◌, ℕ, zero, suc, ◌+◌, ◌-◌, ◌<◌, ◌≤◌, ltb, ◌≢◌, List, [], ◌∷◌, ◌++◌, length, get_or, take, drop, set, Some, None, sym, refl, ap, ◌∙◌, ⊎_elim, add-one, arith}
use Rattle.std.proofs.lemmas.List.{length-take-le, length-drop, length-append, get_or-take, get_or-drop, get_or_append_left, get_or-append_right, get_or-set_same, get_or-set_other, same_lists, length-set, length_push, get_or_push, drop-set-lt, get_or_default}
use Rattle.std.proofs.lemmas.Bool.{lt-ltb, le-ltb, cases_lt, cases_eq, cond-true, cond-false}
use Rattle.std.proofs.lemmas.Bool.Decides.{nat_tests}
use Rattle.ring.specs.declared.queue.Ring.{Ring}
use Rattle.ring.specs.Queue.{Kept, records}
use Rattle.std.proofs.lemmas.Option.{slice_get-get_or, slice_get_past}
use Rattle.std.specs.List.{slice_get}
use Rattle.ring.specs.Order.{in_order, slot_of, rest}

pub slot_low : (capacity head i : ℕ) → i < capacity - head → slot_of capacity head i ≡ head + i
slot_low capacity head i h = cond-true (ltb i (capacity - head)) (head + i) (i - (capacity - head)) (lt-ltb i (capacity - head) h)

pub slot_high : (capacity head i : ℕ) → capacity - head ≤ i → slot_of capacity head i ≡ i - (capacity - head)
slot_high capacity head i h = cond-false (ltb i (capacity - head)) (head + i) (i - (capacity - head)) (le-ltb i (capacity - head) h)

pub length_in_order : {X : Type 0} (capacity head count : ℕ) (slots : List X) → capacity ≤ length slots → head ≤ capacity → count ≤ capacity → length (in_order capacity head count slots) ≡ count
unfolding in_order
length_in_order capacity head count slots a b c =
    let u : length (take capacity slots) ≡ capacity = length-take-le capacity slots a in
    let w : length (drop head (take capacity slots) ++ take capacity slots) ≡ capacity - head + capacity =
    length-append (drop head (take capacity slots)) (take capacity slots) ∙ rw (length-drop, u) refl in
    length-take-le count (drop head (take capacity slots) ++ take capacity slots) (omega arith)

pub get_d_in_order : {X : Type 0} (capacity head count : ℕ) (slots : List X) → capacity ≤ length slots → head ≤ capacity → count ≤ capacity → (i : ℕ) (d : X) → i < count → get_or (in_order capacity head count slots) i d ≡ get_or slots (slot_of capacity head i) d
unfolding in_order
get_d_in_order capacity head count slots a b c i d h =
    let u : length (take capacity slots) ≡ capacity = length-take-le capacity slots a in
    let v : length (drop head (take capacity slots)) ≡ capacity - head = length-drop head (take capacity slots) ∙ rw u refl in
    let front : List _ = drop head (take capacity slots) in
    get_or-take count (front ++ take capacity slots) i d h ∙
    ⊎_elim
    (λ (l : i < capacity - head).
    let l' : i < length front = omega arith in
    let m : head + i < capacity = omega arith in
    get_or_append_left front (take capacity slots) d i l'
    ∙ get_or-drop head (take capacity slots) i d
    ∙ get_or-take capacity slots (head + i) d m
    ∙ ap (λ (n : ℕ). get_or slots n d) (sym (slot_low capacity head i l)))
    (λ (l : capacity - head ≤ i).
    let m : i - (capacity - head) < capacity = omega arith in
    get_or-append_right front (take capacity slots) (capacity - head) i d v l
    ∙ get_or-take capacity slots (i - (capacity - head)) d m
    ∙ ap (λ (n : ℕ). get_or slots n d) (sym (slot_high capacity head i l)))
    (cases_lt i (capacity - head))

pub slot_lt : (capacity head i : ℕ) → head ≤ capacity → i < capacity → slot_of capacity head i < capacity
slot_lt capacity head i b h = grind (arith, nat_tests)

pub slot_le : (capacity head i : ℕ) → head ≤ capacity → i ≤ capacity → slot_of capacity head i ≤ capacity
slot_le capacity head i b h = grind (arith, nat_tests)

pub slot_apart : (capacity head i j : ℕ) → head ≤ capacity → i < capacity → j < capacity → i ≢ j → slot_of capacity head i ≢ slot_of capacity head j
slot_apart capacity head i j b h k n e = grind (arith, nat_tests)

-- the i-th oldest, after the oldest has left
pub slot_next : (capacity head i : ℕ) → head ≤ capacity → i + 1 < capacity → slot_of capacity (slot_of capacity head 1) i ≡ slot_of capacity head (i + 1)
slot_next capacity head i b h = grind (arith, nat_tests)

-- one more record, at the end
pub in_order_push : {X : Type 0} (capacity head count : ℕ) (slots : List X) (x : X) → capacity ≤ length slots → head ≤ capacity → count < capacity → in_order capacity head (count + 1) (set slots (slot_of capacity head count) x) ≡ in_order capacity head count slots ++ x ∷ []
in_order_push {X} capacity head count slots x a b c =
    let p : ℕ = slot_of capacity head count in
    let new : List X = set slots p x in
    let a' : capacity ≤ length new = simp length-set a in
    let c₁ : count + 1 ≤ capacity = omega arith in
    let c₀ : count ≤ capacity = omega arith in
    let n₀ : length (in_order capacity head count slots) ≡ count = length_in_order capacity head count slots a b c₀ in
    let n₁ : length (in_order capacity head (count + 1) new) ≡ count + 1 = length_in_order capacity head (count + 1) new a' b c₁ in
    let pl : p < length slots = omega (arith, slot_lt capacity head count b c) in
    same_lists (in_order capacity head (count + 1) new) (in_order capacity head count slots ++ x ∷ [])
    (n₁ ∙ sym (length_push (in_order capacity head count slots) x ∙ ap (λ (n : ℕ). n + 1) n₀))
    (λ k d h.
    let k₁ : k < count + 1 = omega arith in
    get_d_in_order capacity head (count + 1) new a' b c₁ k d k₁ ∙
    ⊎_elim
    (λ (l : k < count).
    let k₂ : k < length (in_order capacity head count slots) = omega arith in
    let k₃ : k < capacity = omega arith in
    let ne : k ≢ count = omega arith in
    get_or-set_other slots p (slot_of capacity head k) x d (slot_apart capacity head k count b k₃ c ne)
    ∙ sym (get_d_in_order capacity head count slots a b c₀ k d l)
    ∙ sym (get_or_append_left (in_order capacity head count slots) (x ∷ []) d k k₂))
    (λ (l : count ≤ k).
    let e : k ≡ count = omega arith in
    ap (λ (n : ℕ). get_or new (slot_of capacity head n) d) e
    ∙ get_or-set_same slots p x d pl
    ∙ sym (get_or_push (in_order capacity head count slots) x d k (n₀ ∙ sym e))
    )
    (cases_lt k count))

-- by its place: the first, and a later one
in_order_pop_at : {X : Type 0} (capacity head count : ℕ) (slots : List X) (z d : X) → capacity ≤ length slots → head ≤ capacity → count ≤ capacity → 0 < count → (k : ℕ) → k < count → get_or slots (slot_of capacity head k) d ≡ get_or (get_or slots (slot_of capacity head 0) z ∷ in_order capacity (slot_of capacity head 1) (count - 1) slots) k d
in_order_pop_at capacity head count slots z d a b c f zero h =
    let l : slot_of capacity head 0 < length slots = omega (arith, slot_lt capacity head 0 b (omega arith)) in
    get_or_default slots (slot_of capacity head 0) d z l
in_order_pop_at capacity head count slots z d a b c f (suc k) h =
    let one : 1 ≤ capacity = omega arith in
    let b₁ : slot_of capacity head 1 ≤ capacity = slot_le capacity head 1 b one in
    let c₁ : count - 1 ≤ capacity = omega arith in
    let k₁ : k < count - 1 = omega arith in
    let k₂ : k + 1 < capacity = omega arith in
    let e : suc k ≡ k + 1 = sym (add-one k) in
    ap (λ (n : ℕ). get_or slots (slot_of capacity head n) d) e
    ∙ ap (λ (n : ℕ). get_or slots n d) (sym (slot_next capacity head k b k₂))
    ∙ sym (get_d_in_order capacity (slot_of capacity head 1) (count - 1) slots a b₁ c₁ k d k₁)

-- the oldest leaves
pub in_order_pop : {X : Type 0} (capacity head count : ℕ) (slots : List X) (d : X) → capacity ≤ length slots → head ≤ capacity → count ≤ capacity → 0 < count → in_order capacity head count slots ≡ get_or slots (slot_of capacity head 0) d ∷ in_order capacity (slot_of capacity head 1) (count - 1) slots
in_order_pop {X} capacity head count slots z a b c f =
    let y : X = get_or slots (slot_of capacity head 0) z in
    let one : 1 ≤ capacity = omega arith in
    let b₁ : slot_of capacity head 1 ≤ capacity = slot_le capacity head 1 b one in
    let c₁ : count - 1 ≤ capacity = omega arith in
    let n₀ : length (in_order capacity head count slots) ≡ count = length_in_order capacity head count slots a b c in
    let n₁ : length (in_order capacity (slot_of capacity head 1) (count - 1) slots) ≡ count - 1 = length_in_order capacity (slot_of capacity head 1) (count - 1) slots a b₁ c₁ in
    same_lists (in_order capacity head count slots) (y ∷ in_order capacity (slot_of capacity head 1) (count - 1) slots)
    (omega arith)
    (λ k d h.
    let k₁ : k < count = omega arith in
    get_d_in_order capacity head count slots a b c k d k₁ ∙
    in_order_pop_at capacity head count slots z d a b c f k k₁)

-- the i-th oldest is changed in its place
pub in_order_set : {X : Type 0} (capacity head count : ℕ) (slots : List X) (i : ℕ) (x : X) → capacity ≤ length slots → head ≤ capacity → count ≤ capacity → i < count → in_order capacity head count (set slots (slot_of capacity head i) x) ≡ set (in_order capacity head count slots) i x
in_order_set {X} capacity head count slots i x a b c f =
    let p : ℕ = slot_of capacity head i in
    let new : List X = set slots p x in
    let old : List X = in_order capacity head count slots in
    let a' : capacity ≤ length new = simp length-set a in
    let n₀ : length old ≡ count = length_in_order capacity head count slots a b c in
    let n₁ : length (in_order capacity head count new) ≡ count = length_in_order capacity head count new a' b c in
    let f' : i < capacity = omega arith in
    let pl : p < length slots = omega (arith, slot_lt capacity head i b f') in
    let il : i < length old = omega arith in
    same_lists (in_order capacity head count new) (set old i x)
    (n₁ ∙ sym (length-set old i x ∙ n₀))
    (λ k d h.
    let k₁ : k < count = omega arith in
    let k₂ : k < capacity = omega arith in
    get_d_in_order capacity head count new a' b c k d k₁ ∙
    ⊎_elim
    (λ (e : k ≡ i).
    ap (λ (n : ℕ). get_or new (slot_of capacity head n) d) e
    ∙ get_or-set_same slots p x d pl
    ∙ sym (ap (λ (n : ℕ). get_or (set old i x) n d) e ∙ get_or-set_same old i x d il))
    (λ (ne : k ≢ i).
    get_or-set_other slots p (slot_of capacity head k) x d (slot_apart capacity head k i b k₂ f' ne)
    ∙ sym (get_d_in_order capacity head count slots a b c k d k₁)
    ∙ sym (get_or-set_other old i k x d ne))
    (cases_eq k i))

-- The records are as many as counted.
pub length_records : {X : Type 0} (q : Ring X) → length (records q) ≡ q.count
length_records q = length_in_order q.capacity q.head q.count q.slots.now q.lent q.headed q.counted

-- Over a ring, at a slot `p` that is said to be the i-th oldest's.

pub pushed : {X : Type 0} (q : Ring X) (p : ℕ) (x : X) → p ≡ slot_of q.capacity q.head q.count → q.count < q.capacity → in_order q.capacity q.head (q.count + 1) (set q.slots.now p x) ≡ records q ++ x ∷ []
pushed q p x e h =
    ap (λ (n : ℕ). in_order q.capacity q.head (q.count + 1) (set q.slots.now n x)) e
    ∙ in_order_push q.capacity q.head q.count q.slots.now x q.lent q.headed h

pub replaced : {X : Type 0} (q : Ring X) (p i : ℕ) (x : X) → p ≡ slot_of q.capacity q.head i → i < q.count → in_order q.capacity q.head q.count (set q.slots.now p x) ≡ set (records q) i x
replaced q p i x e h =
    ap (λ (n : ℕ). in_order q.capacity q.head q.count (set q.slots.now n x)) e
    ∙ in_order_set q.capacity q.head q.count q.slots.now i x q.lent q.headed q.counted h

pub unused : {X : Type 0} (q : Ring X) (p : ℕ) (x : X) → p < q.capacity → drop q.capacity (set q.slots.now p x) ≡ drop q.capacity q.slots.now
unused q p x h = drop-set-lt q.capacity q.slots.now p x h

some_one : {X : Type 0} (xs : List X) → 0 < length xs → X
some_one [] h = absurd (omega arith)
some_one (x ∷ xs) h = x

pub advanced : {X : Type 0} (q : Ring X) (s : ℕ) → s ≡ slot_of q.capacity q.head 1 → 0 < length (records q) → in_order q.capacity s (q.count - 1) q.slots.now ≡ rest (records q)
advanced q s f h =
    ap (λ (n : ℕ). in_order q.capacity n (q.count - 1) q.slots.now) f
    ∙ sym (ap rest (in_order_pop q.capacity q.head q.count q.slots.now (some_one (records q) h) q.lent q.headed q.counted (omega (arith, length_records q))))

pub got : {X : Type 0} (q : Ring X) (p i : ℕ) (d : X) → p ≡ slot_of q.capacity q.head i → i < q.count → Some (get_or q.slots.now p d) ≡ slice_get (records q) i
got q p i d e h =
    let l : i < length (records q) = omega (arith, length_records q) in
    ap (λ (n : ℕ). Some (get_or q.slots.now n d)) e
    ∙ ap (λ y. Some y) (sym (get_d_in_order q.capacity q.head q.count q.slots.now q.lent q.headed q.counted i d h))
    ∙ sym (slice_get-get_or (records q) i d l)

pub past : {X : Type 0} (q : Ring X) (i : ℕ) → q.count ≤ i → None ≡ slice_get (records q) i
past q i h = sym (slice_get_past (records q) i (omega (arith, length_records q)))

pub none_in_order : {X : Type 0} (capacity : ℕ) (slots : List X) → in_order capacity 0 0 slots ≡ []
unfolding in_order
none_in_order capacity slots = refl

-- what two calls in turn keep
pub kept_then : {X : Type 0} (p q r : Ring X) → Kept p q → Kept q r → Kept p r
kept_then p q r h k =
    record {
      capacity = k.capacity ∙ h.capacity;
      unused = ap (λ (n : ℕ). drop n r.slots.now) (sym h.capacity) ∙ k.unused ∙ ap (λ (n : ℕ). drop n q.slots.now) h.capacity ∙ h.unused;
    }
