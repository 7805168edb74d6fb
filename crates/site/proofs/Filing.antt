-- The catalogue stays true while cartridges move.
use Rattle.std.proofs.Common.{◌≡◌, ℕ, ◌+◌, ◌<◌, ◌≤◌, Bool, true, false, cond, not, ◌&&◌, ◌||◌, eqb, ltb, ◌≢◌, List, [], ◌∷◌, ◌++◌, length, get_or, set, Some, None, Ok, Err, Option, Result, sym, refl, ap, ◌∙◌, ⊎_elim, arith, length-append, length-set}
use mathlib.Core.Path.{subst⁻¹}
use Rattle.std.proofs.lemmas.List.{get_or-set_same, get_or-set_other}
use Rattle.std.proofs.lemmas.Bool.{and_parts, cases_eq, eq-eqb, ne_eqb, cond-true, cond-false, le-ltb, lt-ltb, cases_lt, true≢false}
use Rattle.std.proofs.lemmas.Bool.Decides.{nat_tests}
use Rattle.labels.specs.Numbers.{unreadable_number}
use Rattle.robots.specs.declared.kind.Kind.{Kind}
use Rattle.robots.specs.declared.kind.Kind.TheVariants.{Cell, Drive, Port}
use Rattle.robot_moves.specs.declared.movement.Target.{Target}
use Rattle.robot_moves.specs.declared.movement.Target.TheVariants.{At, NextCell, LowestPort}
use Rattle.robot_moves.specs.declared.movement.Moved.{Moved as Gone}
use Rattle.robot_moves.specs.declared.movement.Stopped.{Stopped}
use Rattle.robot_moves.specs.declared.search.Wanted.TheVariants.{FreeCell, FreePort}
use Rattle.robots.specs.Meaning.{Meaning, Sound, count, held_at, kind_of}
use Rattle.robot_moves.specs.Movement.{Movement, sought}
use Rattle.robot_moves.specs.Search.{is_cell, is_drive, is_port, of_kind, passes, next_free_cell, up_to}
use Rattle.robot_moves.proofs.Places.{first_passes}
use Rattle.stock.specs.declared.catalogue.Filed.{Filed}
use Rattle.stock.specs.declared.catalogue.Row.{Row}
use Rattle.stock.specs.declared.catalogue.Volume.{Volume}
use Rattle.stock.specs.declared.catalogue.Volume.TheVariants.{One, Several}
use Rattle.stock.specs.declared.refusal.Refusal.{Refusal}
use Rattle.stock.specs.Filing.{index_of, no_row, refiled, unfiled, volume_of}
use Rattle.stock.specs.Holding.{held_in, readable, shown_at}
use Rattle.stock.specs.Models.{Stocked}
use Rattle.stock.specs.Moves.{cell_by, cell_of, dismounted, dismounted_if, ejected, ejected_by, entered, entered_as, entered_by, entered_if, entered_new, located_by, mounted, mounted_by, mounted_from, moved_as, moved_by, not_in_drive, row_follows}
use Rattle.stock.specs.Starts.{read_at, read_if}
use Rattle.site.specs.Catalogues.{CatalogueTrue, filings}
use Rattle.site.specs.Inventories.{port_at}
use Rattle.site.proofs.Ways.{Moved, Way, way, cells, holding, held_is, shown_cells, sound_moved}
use Rattle.site.proofs.Ways.Way.{stayed, went}
use Rattle.site.proofs.Lookups.{RowAt, one_row, row_filed, index_row, no_index}
use Rattle.site.proofs.Rows.{due_is, none_past, filings-more, filings-set, filings-without, matches, none_owed, one_if, owed, owed_held, true_few}

-- The rows of a catalogue, by what each place holds.
abbrev pub Rows : List Filed → Meaning → Type 0
Rows xs m = (k p : ℕ) → filings k p xs ≡ owed k (cells m p)

pub rows_of : (xs : List Filed) (m : Meaning) → Sound m → CatalogueTrue xs m → Rows xs m
rows_of xs m s t k p = t k p ∙ due_is m k p s

pub true_of : (xs : List Filed) (m : Meaning) → Sound m → Rows xs m → CatalogueTrue xs m
true_of xs m s t k p = t k p ∙ sym (due_is m k p s)

-- What places hold once a cartridge went from a to b.
pub record Shifted (m m' : Meaning) (a b : ℕ) : Type 0 where
  pub at_to : port_at m.kinds b ≡ false → cells m' b ≡ held_at m a
  pub at_from : a ≢ b → cells m' a ≡ 0
  pub elsewhere : (p : ℕ) → p ≢ a → p ≢ b → cells m' p ≡ cells m p
  pub vacant : a ≢ b → cells m b ≡ 0
  pub from_port : port_at m.kinds a ≡ true → cells m a ≡ 0
  pub to_port : port_at m.kinds b ≡ true → (cells m b ≡ 0) × (cells m' b ≡ 0)
  pub from_cell : port_at m.kinds a ≡ false → cells m a ≡ held_at m a

both_none : (b : Bool) → ◌≡◌ {A = ℕ} (cond b 0 0) 0
both_none true = refl
both_none false = refl

pub shifted : (m m' : Meaning) (a b : ℕ) → Sound m → Moved m a b m' → Shifted m m' a b
shifted m m' a b s v =
    let la : a < length m.held = omega (arith, v.from_in, s.held_length) in
    let lb : b < length (set m.held a 0) = omega (arith, v.to_in, s.held_length, length-set m.held a 0) in
    let now : (p : ℕ) → cells m' p ≡ cond (port_at m.kinds p) 0 (get_or (set (set m.held a 0) b (held_at m a)) p 0) = λ p. ap (λ n. cells n p) v.is in
    record {
      at_to = λ h. now b ∙ cond-false _ _ _ h ∙ get_or-set_same (set m.held a 0) b (held_at m a) 0 lb;
      at_from = λ other. now a ∙ ap (cond (port_at m.kinds a) 0) (get_or-set_other (set m.held a 0) b a (held_at m a) 0 other ∙ get_or-set_same m.held a 0 0 la) ∙ both_none (port_at m.kinds a);
      elsewhere = λ p na nb. now p ∙ ap (cond (port_at m.kinds p) 0) (get_or-set_other (set m.held a 0) b p (held_at m a) 0 nb ∙ get_or-set_other m.held a p 0 0 na);
      vacant = λ other. ap (cond (port_at m.kinds b) 0) (sym (get_or-set_other m.held a b 0 0 (λ (e : b ≡ a). other (sym e))) ∙ v.vacant) ∙ both_none (port_at m.kinds b);
      from_port = λ h. cond-true _ _ _ h;
      to_port = λ h. (cond-true _ _ _ h, now b ∙ cond-true _ _ _ h);
      from_cell = λ h. cond-false _ _ _ h;
    }

-- What is owed of a readable number.
owed_same : (kk k : ℕ) → readable kk ≡ true → owed k kk ≡ one_if (eqb kk k)
owed_same kk k r =
    ⊎_elim
    (λ (e : kk ≡ k). let a : readable k ≡ true = ap readable (sym e) ∙ r in let b = eq-eqb kk k e in rw (a, b) refl)
    (λ (n : kk ≢ k). let b = ne_eqb kk k n in rw b (none (readable k)))
    (cases_eq kk k)
  where
    none : (b : Bool) → one_if (b && false) ≡ 0
    none true = refl
    none false = refl

none_both : (b : Bool) → one_if (b && false) ≡ 0
none_both true = refl
none_both false = refl

all_both : (b : Bool) → (b && true) ≡ b
all_both true = refl
all_both false = refl

-- A readable cartridge kk went from a to b; old and new are what p held and holds.
pub row_moved : (kk k p a b old new : ℕ) → readable kk ≡ true → (p ≡ a → old ≡ kk) → (a ≢ b → p ≡ b → old ≡ 0) → (p ≡ b → new ≡ kk) → (a ≢ b → p ≡ a → new ≡ 0) → (p ≢ a → p ≢ b → new ≡ old)
    → owed k new + one_if (eqb kk k && eqb a p) ≡ owed k old + one_if (eqb kk k && eqb b p)
row_moved kk k p a b old new r oa ob nb na n =
    ⊎_elim
    (λ (pb : p ≡ b). ⊎_elim
    (λ (pa : p ≡ a). λ i. owed k ((nb pb ∙ sym (oa pa)) i) + one_if (eqb kk k && eqb ((sym pa ∙ pb) i) p))
    (λ (other : p ≢ a).
    let ab : a ≢ b = λ (e : a ≡ b). other (pb ∙ sym e) in
    let x = ap (owed k) (ob ab pb) ∙ none_owed k in
    let y = ap (owed k) (nb pb) ∙ owed_same kk k r in
    let f = ap (λ (t : Bool). one_if (eqb kk k && t)) (ne_eqb a p (λ (e : a ≡ p). other (sym e))) ∙ none_both (eqb kk k) in
    let g = ap (λ (t : Bool). one_if (eqb kk k && t)) (eq-eqb b p (sym pb)) ∙ ap one_if (all_both (eqb kk k)) in
    omega (arith, x, y, f, g))
    (cases_eq p a))
    (λ (other : p ≢ b). ⊎_elim
    (λ (pa : p ≡ a).
    let ab : a ≢ b = λ (e : a ≡ b). other (pa ∙ e) in
    let x = ap (owed k) (oa pa) ∙ owed_same kk k r in
    let y = ap (owed k) (na ab pa) ∙ none_owed k in
    let f = ap (λ (t : Bool). one_if (eqb kk k && t)) (eq-eqb a p (sym pa)) ∙ ap one_if (all_both (eqb kk k)) in
    let g = ap (λ (t : Bool). one_if (eqb kk k && t)) (ne_eqb b p (λ (e : b ≡ p). other (sym e))) ∙ none_both (eqb kk k) in
    omega (arith, x, y, f, g))
    (λ (pa : p ≢ a).
    let x = ap (owed k) (n pa other) in
    let f = ap (λ (t : Bool). one_if (eqb kk k && t)) (ne_eqb a p (λ (e : a ≡ p). pa (sym e))) ∙ none_both (eqb kk k) in
    let g = ap (λ (t : Bool). one_if (eqb kk k && t)) (ne_eqb b p (λ (e : b ≡ p). other (sym e))) ∙ none_both (eqb kk k) in
    omega (arith, x, f, g))
    (cases_eq p a))
    (cases_eq p b)

-- One comes to b, where nothing was.
pub row_comes : (kk k p b old new : ℕ) → readable kk ≡ true → (p ≡ b → old ≡ 0) → (p ≡ b → new ≡ kk) → (p ≢ b → new ≡ old) → owed k new ≡ owed k old + one_if (eqb kk k && eqb b p)
row_comes kk k p b old new r ob nb n =
    ⊎_elim
    (λ (pb : p ≡ b).
    let x = ap (owed k) (ob pb) ∙ none_owed k in
    let y = ap (owed k) (nb pb) ∙ owed_same kk k r in
    let g = ap (λ (t : Bool). one_if (eqb kk k && t)) (eq-eqb b p (sym pb)) ∙ ap one_if (all_both (eqb kk k)) in
    omega (arith, x, y, g))
    (λ (other : p ≢ b).
    let x = ap (owed k) (n other) in
    let g = ap (λ (t : Bool). one_if (eqb kk k && t)) (ne_eqb b p (λ (e : b ≡ p). other (sym e))) ∙ none_both (eqb kk k) in
    omega (arith, x, g))
    (cases_eq p b)

-- One leaves a, and nothing is there then.
pub row_leaves : (kk k p a old new : ℕ) → readable kk ≡ true → (p ≡ a → old ≡ kk) → (p ≡ a → new ≡ 0) → (p ≢ a → new ≡ old) → owed k new + one_if (eqb kk k && eqb a p) ≡ owed k old
row_leaves kk k p a old new r oa na n = let e = row_comes kk k p a new old r na oa (λ (x : p ≢ a). sym (n x)) in omega (arith, e)

-- One that cannot be read is owed nowhere.
owed_unread : (kk k : ℕ) → readable kk ≡ false → owed k kk ≡ 0
owed_unread kk k r =
    ⊎_elim
    (λ (e : kk ≡ k). ap (λ (b : Bool). one_if (b && eqb kk k)) (ap readable (sym e) ∙ r))
    (λ (n : kk ≢ k). ap (λ (b : Bool). one_if (readable k && b)) (ne_eqb kk k n) ∙ none_both (readable k))
    (cases_eq kk k)

pub row_unread : (kk k p a b old new : ℕ) → readable kk ≡ false → (p ≡ a → old ≡ kk) → (a ≢ b → p ≡ b → old ≡ 0) → (p ≡ b → new ≡ kk) → (a ≢ b → p ≡ a → new ≡ 0) → (p ≢ a → p ≢ b → new ≡ old) → owed k new ≡ owed k old
row_unread kk k p a b old new r oa ob nb na n =
    ⊎_elim
    (λ (pb : p ≡ b). ⊎_elim
    (λ (pa : p ≡ a). ap (owed k) (nb pb ∙ sym (oa pa)))
    (λ (other : p ≢ a). ap (owed k) (nb pb) ∙ owed_unread kk k r ∙ sym (ap (owed k) (ob (λ (e : a ≡ b). other (pb ∙ sym e)) pb) ∙ none_owed k))
    (cases_eq p a))
    (λ (other : p ≢ b). ⊎_elim
    (λ (pa : p ≡ a). ap (owed k) (na (λ (e : a ≡ b). other (pa ∙ e)) pa) ∙ none_owed k ∙ sym (ap (owed k) (oa pa) ∙ owed_unread kk k r))
    (λ (pa : p ≢ a). ap (owed k) (n pa other))
    (cases_eq p a))
    (cases_eq p b)

-- A kind that is a cell or a drive is no port place.
cell_no_port : (k : Kind) → is_cell k ≡ true → is_port k ≡ false
cell_no_port Cell e = refl
cell_no_port Drive e = refl
cell_no_port Port e = absurd (true≢false (sym e))

drive_no_port : (k : Kind) → is_drive k ≡ true → is_port k ≡ false
drive_no_port Cell e = refl
drive_no_port Drive e = refl
drive_no_port Port e = absurd (true≢false (sym e))

of_kind_holds : (test : Kind → Bool) (m : Meaning) (p : ℕ) → of_kind test m p ≡ true → test (kind_of m p) ≡ true
of_kind_holds test m p e = (and_parts (ltb p (count m)) (test (kind_of m p)) e).1

pub drive_at_holds : (m : Meaning) (p : ℕ) → of_kind is_drive m p ≡ true → port_at m.kinds p ≡ false
drive_at_holds m p e = drive_no_port (kind_of m p) (of_kind_holds is_drive m p e)

pub free_cell : (m : Meaning) (p : ℕ) → passes FreeCell m p ≡ true → port_at m.kinds p ≡ false
free_cell m p e = cell_no_port (kind_of m p) (of_kind_holds is_cell m p (and_parts (of_kind is_cell m p) _ e).0)

pub next_cell : (m : Meaning) (p b : ℕ) → next_free_cell m p ≡ Some b → port_at m.kinds b ≡ false
next_cell m p b e = free_cell m b (first_passes FreeCell m (up_to (p + 1) (count m) ++ up_to 0 (p + 1)) b e)

free_port : (m : Meaning) (b : ℕ) → sought LowestPort m 0 ≡ Some b → port_at m.kinds b ≡ true
free_port m b e = let t = first_passes FreePort m (up_to 0 (count m)) b e in of_kind_holds is_port m b (and_parts (of_kind is_port m b) _ t).0

-- A row of a true catalogue.
pub record TrueRow (m : Meaning) (a kk : ℕ) : Type 0 where
  pub label : cells m a ≡ kk
  pub reads : readable kk ≡ true
  pub inside : port_at m.kinds a ≡ false
  pub held : held_at m a ≡ kk

pub not_none : (kk : ℕ) → kk ≡ 0 → readable kk ≡ true → ⊥
not_none kk e r = true≢false (sym r ∙ ap readable e)

pub true_row : (m : Meaning) (xs : List Filed) (i kk a : ℕ) → Rows xs m → RowAt xs i kk a → TrueRow m a kk
true_row m xs i kk a t r =
    let some = row_filed xs i kk a r in
    let e = t kk a in
    let h = owed_held kk (cells m a) (omega (arith, some, e)) in
    let cell = inside h (port_at m.kinds a) refl in
    record { label = h.0; reads = h.1; inside = cell; held = sym (cond-false _ _ _ cell) ∙ h.0 }
  where
    inside : (cells m a ≡ kk) × (readable kk ≡ true) → (b : Bool) → port_at m.kinds a ≡ b → b ≡ false
    inside h true e = absurd (not_none kk (sym h.0 ∙ cond-true _ _ _ e) h.1)
    inside h false e = refl

module _ (m m' : Meaning) (a b : ℕ) (s : Sound m) (v : Moved m a b m') (xs : List Filed) (t : Rows xs m) where
  abbrev sh : Shifted m m' a b
  sh = shifted m m' a b s v

  -- Its row follows it to a cell or drive.
  pub rows-refiled : (i kk : ℕ) → RowAt xs i kk a → port_at m.kinds b ≡ false → Rows (refiled i b xs) m'
  rows-refiled i kk r cell k p =
      let tr = true_row m xs i kk a t r in
      let row : Filed = record { number = (get_or xs i no_row).number; place = b } in
      let is_row : row ≡ record { number = kk; place = b } = ap (λ (x : Filed). record { number = x.number; place = b }) r.is in
      let d = filings-set k p xs i row r.within in
      let x = ap (matches k p) is_row in
      let y = ap (matches k p) r.is in
      let z = t k p in
      let w = row_moved kk k p a b (cells m p) (cells m' p) tr.reads
      (λ (e : p ≡ a). ap (cells m) e ∙ tr.label)
      (λ ab (e : p ≡ b). ap (cells m) e ∙ sh.vacant ab)
      (λ (e : p ≡ b). ap (cells m') e ∙ sh.at_to cell ∙ tr.held)
      (λ ab (e : p ≡ a). ap (cells m') e ∙ sh.at_from ab)
      (λ na nb. sh.elsewhere p na nb) in
      ap (filings k p) (cond-true (ltb i (length xs)) _ _ (lt-ltb i (length xs) r.within)) ∙ omega (arith, d, x, y, z, w)

  -- What went to the port is filed no more.
  pub rows-unfiled : (i kk : ℕ) → RowAt xs i kk a → port_at m.kinds b ≡ true → Rows (unfiled i xs) m'
  rows-unfiled i kk r port k p =
      let tr = true_row m xs i kk a t r in
      let ab : a ≢ b = λ (e : a ≡ b). true≢false (sym (ap (port_at m.kinds) e ∙ port) ∙ tr.inside) in
      let d = filings-without k p xs i r.within in
      let y = ap (matches k p) r.is in
      let z = t k p in
      let same : p ≢ a → cells m' p ≡ cells m p = λ na. ⊎_elim (λ (e : p ≡ b). ap (cells m') e ∙ (sh.to_port port).1 ∙ sym (ap (cells m) e ∙ (sh.to_port port).0)) (λ nb. sh.elsewhere p na nb) (cases_eq p b) in
      let w = row_leaves kk k p a (cells m p) (cells m' p) tr.reads
      (λ (e : p ≡ a). ap (cells m) e ∙ tr.label)
      (λ (e : p ≡ a). ap (cells m') e ∙ sh.at_from ab)
      same in
      ap (filings k p) (cond-true (ltb i (length xs)) _ _ (lt-ltb i (length xs) r.within)) ∙ omega (arith, d, y, z, w)

  -- One that is in no row cannot be read, and stays in none.
  pub rows-unread : port_at m.kinds a ≡ false → ((k : ℕ) → filings k a xs ≡ 0) → port_at m.kinds b ≡ false → Rows xs m'
  rows-unread inside none cell k p =
      let kk = held_at m a in
      let x : owed kk (cells m a) ≡ 0 = sym (t kk a) ∙ none kk in
      let y : owed kk kk ≡ 0 = ap (owed kk) (sym (sh.from_cell inside)) ∙ x in
      t k p ∙ sym (row_unread kk k p a b (cells m p) (cells m' p) (unread kk y)
      (λ (e : p ≡ a). ap (cells m) e ∙ sh.from_cell inside)
      (λ ab (e : p ≡ b). ap (cells m) e ∙ sh.vacant ab)
      (λ (e : p ≡ b). ap (cells m') e ∙ sh.at_to cell)
      (λ ab (e : p ≡ a). ap (cells m') e ∙ sh.at_from ab)
      (λ na nb. sh.elsewhere p na nb))
    where
      unread : (kk : ℕ) → owed kk kk ≡ 0 → readable kk ≡ false
      unread kk e = go (readable kk) refl
        where
          go : (b : Bool) → readable kk ≡ b → b ≡ false
          go true r = let x = owed_same kk kk r ∙ ap one_if (eq-eqb kk kk refl) in absurd (omega (arith, e, x))
          go false r = refl

  -- One comes in by the port and is filed.
  pub rows-filed : readable (held_at m a) ≡ true → port_at m.kinds a ≡ true → port_at m.kinds b ≡ false → Rows (xs ++ record { number = held_at m a; place = b } ∷ []) m'
  rows-filed reads port cell k p =
      let kk = held_at m a in
      let ab : a ≢ b = λ (e : a ≡ b). true≢false (sym port ∙ ap (port_at m.kinds) e ∙ cell) in
      let d = filings-more k p xs (record { number = kk; place = b }) in
      let z = t k p in
      let same : p ≢ b → cells m' p ≡ cells m p = λ nb. ⊎_elim (λ (e : p ≡ a). ap (cells m') e ∙ sh.at_from ab ∙ sym (ap (cells m) e ∙ sh.from_port port)) (λ na. sh.elsewhere p na nb) (cases_eq p a) in
      let w = row_comes kk k p b (cells m p) (cells m' p) reads
      (λ (e : p ≡ b). ap (cells m) e ∙ sh.vacant ab)
      (λ (e : p ≡ b). ap (cells m') e ∙ sh.at_to cell)
      same in
      omega (arith, d, z, w)

-- What a request that moves a cartridge leaves.
abbrev pub TrueAfter : Stocked → Stocked → Type 0
TrueAfter s s' = Rows s.filed s.robot → Rows s'.filed s'.robot

module _ (s : Stocked) (sound : Sound s.robot) where
  abbrev up : ℕ → Meaning
  up a = holding s.robot (set s.robot.held a 0) (held_at s.robot a)

  -- The row of a label, to a cell or drive.
  true-way : (index : Option ℕ) (a : ℕ) (target : Target) (x : Movement) → Way s.robot a target x
      → ((b : ℕ) → sought target (up a) a ≡ Some b → (m' : Meaning) → Moved s.robot a b m' → Rows s.filed s.robot → Rows (row_follows index target b s.filed) m')
      → TrueAfter s (moved_by x s index a target).stock
  true-way index a target x (stayed why e r) follow t =
      subst⁻¹ (λ (y : Result Gone Stopped). Rows (moved_as y x.robot s index a target).stock.filed (moved_as y x.robot s index a target).stock.robot) e (subst⁻¹ (Rows s.filed) r t)
  true-way index a target x (went b e q v) follow t =
      subst⁻¹ (λ (y : Result Gone Stopped). Rows (moved_as y x.robot s index a target).stock.filed (moved_as y x.robot s index a target).stock.robot) e (follow b q x.robot v t)

  some_is : (x y : ℕ) → Some x ≡ Some y → x ≡ y
  some_is x y e = cc

  -- Mount.
  mounted-from : (b : Bool) (r : Row) (k d : ℕ) → RowAt s.filed r.index k r.place → of_kind is_drive s.robot d ≡ true → TrueAfter s (mounted_from b s r d).stock
  mounted-from true r k d row drive =
      true-way (Some r.index) r.place (At d) _ (way s.robot r.place (At d))
      (λ b q m' v t. rows-refiled s.robot m' r.place b sound v s.filed t r.index k row (ap (port_at s.robot.kinds) (sym (some_is d b q)) ∙ drive_at_holds s.robot d drive))
  mounted-from false r k d row drive = λ t. t

  pub located-row : (o : Option Volume) (k : ℕ) (r : Row) → volume_of s.filed k ≡ o → located_by o ≡ Ok r → RowAt s.filed r.index k r.place
  located-row None k r e l = let z : ◌≡◌ {A = ℕ} 0 1 = cc in absurd (omega arith)
  located-row (Some Several) k r e l = let z : ◌≡◌ {A = ℕ} 0 1 = cc in absurd (omega arith)
  located-row (Some (One x)) k r e l =
      let same : x ≡ r = cc in
      one_row s.filed k r (e ∙ ap (λ (y : Row). Some (One y)) same)

  cell_row : (o : Result Row Refusal) (r : Row) → cell_by o s.robot ≡ Ok r → o ≡ Ok r
  cell_row (Err why) r e = e
  cell_row (Ok x) r e = go (of_kind is_drive s.robot x.place) e
    where
      go : (b : Bool) → not_in_drive b x ≡ Ok r → ◌≡◌ {A = Result Row Refusal} (Ok x) (Ok r)
      go true h = let z : ◌≡◌ {A = ℕ} 0 1 = cc in absurd (omega arith)
      go false h = h

  cell-of : (k : ℕ) (r : Row) → cell_of s k ≡ Ok r → RowAt s.filed r.index k r.place
  cell-of k r e = located-row (volume_of s.filed k) k r refl (cell_row (located_by (volume_of s.filed k)) r e)

  mounted-by : (o : Result Row Refusal) (k d : ℕ) → cell_of s k ≡ o → of_kind is_drive s.robot d ≡ true → TrueAfter s (mounted_by o s d).stock
  mounted-by (Err why) k d e drive = λ t. t
  mounted-by (Ok r) k d e drive = mounted-from (eqb (held_in s.robot d) 0) r k d (cell-of k r e) drive

  pub true-mounted : (k d : ℕ) → of_kind is_drive s.robot d ≡ true → TrueAfter s (mounted s k d).stock
  true-mounted k d drive = mounted-by (cell_of s k) k d refl drive

  -- Dismount.
  dismounted-row : (o : Option ℕ) (d b : ℕ) → index_of s.filed d ≡ o → of_kind is_drive s.robot d ≡ true → port_at s.robot.kinds b ≡ false → (m' : Meaning) → Moved s.robot d b m' → Rows s.filed s.robot → Rows (row_follows o NextCell b s.filed) m'
  dismounted-row None d b e drive cell m' v t = rows-unread s.robot m' d b sound v s.filed t (drive_at_holds s.robot d drive) (λ k. no_index s.filed k d e) cell
  dismounted-row (Some i) d b e drive cell m' v t = rows-refiled s.robot m' d b sound v s.filed t i (get_or s.filed i no_row).number (index_row s.filed d i e) cell

  dismounted-if : (b may : Bool) (d : ℕ) → of_kind is_drive s.robot d ≡ true → TrueAfter s (dismounted_if b may s d).stock
  dismounted-if true may d drive = λ t. t
  dismounted-if false false d drive = λ t. t
  dismounted-if false true d drive =
      true-way (index_of s.filed d) d NextCell _ (way s.robot d NextCell)
      (λ b q m' v t. dismounted-row (index_of s.filed d) d b refl drive (next_cell (up d) d b q) m' v t)

  pub true-dismounted : (k : ℕ) (force : Bool) (d : ℕ) → of_kind is_drive s.robot d ≡ true → TrueAfter s (dismounted s k force d).stock
  true-dismounted k force d drive = dismounted-if (eqb (held_in s.robot d) 0) (force || eqb (held_in s.robot d) k) d drive

  -- Eject.
  ejected-by : (o : Result Row Refusal) (k : ℕ) → cell_of s k ≡ o → TrueAfter s (ejected_by o s).stock
  ejected-by (Err why) k e = λ t. t
  ejected-by (Ok r) k e =
      true-way (Some r.index) r.place LowestPort _ (way s.robot r.place LowestPort)
      (λ b q m' v t. rows-unfiled s.robot m' r.place b sound v s.filed t r.index k (cell-of k r e) (free_port (up r.place) b q))

  pub true-ejected : (k : ℕ) → TrueAfter s (ejected s k).stock
  true-ejected k = ejected-by (cell_of s k) k refl

-- Enter: a port place is treated.
module _ (s : Stocked) (sound : Sound s.robot) (few : count s.robot ≤ 256) (p : ℕ) (port : port_at s.robot.kinds p ≡ true) (full : held_at s.robot p ≢ 0) where
  entered-way : (x : Movement) → Way s.robot p NextCell x → readable (held_at s.robot p) ≡ true → TrueAfter s (entered_by x s (held_in s.robot p) p).stock
  entered-way x (stayed why e r) reads t =
      subst⁻¹ (λ (y : Result Gone Stopped). Rows (entered_as y x.robot s (held_in s.robot p) p).stock.filed (entered_as y x.robot s (held_in s.robot p) p).stock.robot) e (subst⁻¹ (Rows s.filed) r t)
  entered-way x (went b e q v) reads t =
      let row : Filed = record { number = held_at s.robot p; place = b } in
      let cell = next_cell (holding s.robot (set s.robot.held p 0) (held_at s.robot p)) p b q in
      let whole = rows-filed s.robot x.robot p b sound v s.filed t reads port cell in
      let most = true_few x.robot (s.filed ++ row ∷ []) (sound_moved s.robot x.robot p b sound v) whole in
      let same : count x.robot ≡ count s.robot = ap (λ (m : Meaning). count m) v.is in
      let room : length s.filed < 256 = omega (arith, most, few, same, length-append s.filed (row ∷ [])) in
      subst⁻¹ (λ (y : Result Gone Stopped). Rows (entered_as y x.robot s (held_in s.robot p) p).stock.filed (entered_as y x.robot s (held_in s.robot p) p).stock.robot) e
      (subst⁻¹ (λ (ys : List Filed). Rows ys x.robot) (cond-true (ltb (length s.filed) 256) _ _ (lt-ltb (length s.filed) 256 room)) whole)

  reads_so : eqb (held_in s.robot p) unreadable_number ≡ false → readable (held_at s.robot p) ≡ true
  reads_so e =
      let a : eqb (held_at s.robot p) 0 ≡ false = ne_eqb _ _ full in
      let b : eqb (held_at s.robot p) unreadable_number ≡ false = ap (λ (v : ℕ). eqb v unreadable_number) (sym (held_is s.robot p sound)) ∙ e in
      λ i. not (a i) && not (b i)

  entered-new : (o : Option Volume) → readable (held_at s.robot p) ≡ true → TrueAfter s (entered_new o s (held_in s.robot p) p).stock
  entered-new (Some v) reads = λ t. t
  entered-new None reads = entered-way _ (way s.robot p NextCell) reads

  entered-if : (b : Bool) → eqb (held_in s.robot p) unreadable_number ≡ b → TrueAfter s (entered_if b s (held_in s.robot p) p).stock
  entered-if true e = λ t. t
  entered-if false e = entered-new (volume_of s.filed (held_in s.robot p)) (reads_so e)

  pub true-entered : TrueAfter s (entered s p).stock
  true-entered = entered-if (eqb (held_in s.robot p) unreadable_number) refl

-- A start reads place after place.
abbrev pub RowsBelow : ℕ → List Filed → Meaning → Type 0
RowsBelow next xs m = (k p : ℕ) → filings k p xs ≡ cond (ltb p next) (owed k (cells m p)) 0

pub none_read : (m : Meaning) → RowsBelow 0 [] m
none_read m k p = sym (cond-false (ltb p 0) _ _ (le-ltb p 0 (omega arith)))

below_next : (p n x : ℕ) → cond (ltb p (n + 1)) x 0 ≡ cond (ltb p n) x 0 + cond (eqb p n) x 0
below_next p n x = grind (arith, nat_tests)

-- The row of a readable one, or none.
read_rows : (m : Meaning) (n : ℕ) (xs : List Filed) (b : Bool) → readable (cells m n) ≡ b → length xs < 256 → (k p : ℕ) → filings k p (read_if b (cells m n) n xs) ≡ filings k p xs + cond (eqb p n) (owed k (cells m p)) 0
read_rows m n xs true e room k p =
    ap (filings k p) (cond-true (ltb (length xs) 256) _ _ (lt-ltb (length xs) 256 room)) ∙ filings-more k p xs (record { number = cells m n; place = n })
    ∙ ap (λ (y : ℕ). filings k p xs + y)
    (⊎_elim
    (λ (same : p ≡ n).
    ap (λ (t : Bool). one_if (eqb (cells m n) k && t)) (eq-eqb n p (sym same)) ∙ ap one_if (all_both (eqb (cells m n) k)) ∙ sym (owed_same (cells m n) k e)
    ∙ ap (λ (y : ℕ). owed k (cells m y)) (sym same) ∙ sym (cond-true (eqb p n) _ _ (eq-eqb p n same)))
    (λ (other : p ≢ n).
    ap (λ (t : Bool). one_if (eqb (cells m n) k && t)) (ne_eqb n p (λ (z : n ≡ p). other (sym z))) ∙ none_both (eqb (cells m n) k) ∙ sym (cond-false (eqb p n) _ _ (ne_eqb p n other)))
    (cases_eq p n))
read_rows m n xs false e room k p =
    let none : cond (eqb p n) (owed k (cells m p)) 0 ≡ 0 =
    ⊎_elim
    (λ (same : p ≡ n). cond-true (eqb p n) _ _ (eq-eqb p n same) ∙ ap (λ (y : ℕ). owed k (cells m y)) same ∙ owed_unread (cells m n) k e)
    (λ (other : p ≢ n). cond-false (eqb p n) _ _ (ne_eqb p n other))
    (cases_eq p n) in
    omega (arith, none)

pub rows_read : (s : Stocked) (n : ℕ) → Sound s.robot → length s.filed < 256 → RowsBelow n s.filed s.robot → RowsBelow (n + 1) (read_at s n).filed s.robot
rows_read s n sound room t k p =
    ap (λ (v : ℕ). filings k p (read_if (readable v) v n s.filed)) (shown_cells s.robot n sound)
    ∙ read_rows s.robot n s.filed (readable (cells s.robot n)) refl room k p
    ∙ ap (λ (y : ℕ). y + cond (eqb p n) (owed k (cells s.robot p)) 0) (t k p) ∙ sym (below_next p n (owed k (cells s.robot p)))

pub rows_whole : (m : Meaning) (n : ℕ) (xs : List Filed) → Sound m → count m ≤ n → RowsBelow n xs m → Rows xs m
rows_whole m n xs s far t k p =
    t k p ∙ ⊎_elim
    (λ (lt : p < n). cond-true (ltb p n) _ _ (lt-ltb p n lt))
    (λ (ge : n ≤ p). cond-false (ltb p n) _ _ (le-ltb p n ge) ∙ sym (ap (owed k) (none_past m p s (omega arith)) ∙ none_owed k))
    (cases_lt p n)

-- Reading one place adds one row at most.
pub read_length : (s : Stocked) (n : ℕ) → length (read_at s n).filed ≤ length s.filed + 1
read_length s n = go (readable (shown_at s.robot n))
  where
    go2 : (b : Bool) (row : Filed) → length (cond b (s.filed ++ row ∷ []) s.filed) ≤ length s.filed + 1
    go2 true row = omega (arith, length-append s.filed (row ∷ []))
    go2 false row = omega arith

    go : (b : Bool) → length (read_if b (shown_at s.robot n) n s.filed) ≤ length s.filed + 1
    go true = go2 (ltb (length s.filed) 256) (record { number = shown_at s.robot n; place = n })
    go false = omega arith
