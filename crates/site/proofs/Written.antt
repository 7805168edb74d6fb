-- What is written reads back as it was told.
use Rattle.std.proofs.Common.{◌≡◌, ℕ, zero, suc, ◌+◌, ◌<◌, ◌≤◌, Bool, true, false, cond, ltb, List, map, length, get_or, Some, None, Option, sym, refl, ap, ◌∙◌, ⊎_elim, arith}
use mathlib.Core.Path.{subst⁻¹, fun_ext}
use Rattle.std.specs.List.{range_with_len}
use Rattle.std.proofs.lemmas.List.{get_or_past}
use Rattle.std.proofs.lemmas.Bool.{cases_lt, le-ltb}
use Rattle.labels.specs.Numbers.{unreadable_number}
use Rattle.responses.specs.declared.writing.Unwritable.{Unwritable}
use Rattle.responses.specs.Responses.{Told, count_of}
use Rattle.responses.specs.Writing.{answer_by, left, left_by, unwritable}
use Rattle.responses.specs.RoundTrips.{Sound as SoundTold, Entered, Placed, filled, padded}
use Rattle.responses.proofs.Back.{reads_back}
use Rattle.responses.proofs.Padding.{padded_whole}
use Rattle.robots.specs.Meaning.{Meaning, Sound, count, held_at}
use Rattle.stock.specs.Holding.{inventory_of, shown_at}
use Rattle.library.specs.Finals.{FinalFor}
use Rattle.library.specs.Verdicts.{Shown}
use Rattle.library.specs.Verdicts.Shown.{nothing, listed, inventory}
use Rattle.server.specs.Answers.{final_told, length_by, length_in}
use Rattle.server.specs.Calls.{wrote}
use Rattle.server.specs.Machine.{replied}
use Rattle.library.specs.Library.{Library}
use Rattle.site.specs.Hearing.{heard}
use Rattle.site.specs.Inventories.{port_at}
use Rattle.site.proofs.Ways.{cells, shown_cells}

-- A response that can be written, and reads back.
pub record Writable (t : Told) : Type 0 where
  pub few : count_of t.entries ≤ 21
  pub places : count_of t.inventory ≤ 256
  pub sound : SoundTold t

module _ (t : Told) (xs : List ℕ) (long : 2048 ≤ length xs) (w : Writable t) where
  no-hindrance : unwritable (length xs) t ≡ None
  no-hindrance =
      let a : ltb (length xs) 2048 ≡ false = le-ltb (length xs) 2048 long in
      let b : ltb 21 (count_of t.entries) ≡ false = le-ltb 21 (count_of t.entries) w.few in
      let c : ltb 256 (count_of t.inventory) ≡ false = le-ltb 256 (count_of t.inventory) w.places in
      rw (a, b, c)

  pub heard-wrote : (l : Library) → heard (replied (wrote t xs l)).reply ≡ Some (filled t)
  heard-wrote l =
      reads_back t xs (left t xs) (length_in xs t) w.few w.places
      (ap (λ (o : Option Unwritable). left_by o t xs) no-hindrance)
      (ap (λ (o : Option Unwritable). length_by (answer_by o t)) no-hindrance)
      w.sound

-- An inventory tells 256 places, each with a cartridge's number or nothing.
map_at : (f : ℕ → ℕ) (a n p : ℕ) → p < n → get_or (map f (range_with_len a n)) p 0 ≡ f (a + p)
map_at f a zero p h = absurd (omega arith)
map_at f a (suc n) zero h = let e : a ≡ a + 0 = omega arith in ap f e
map_at f a (suc n) (suc p) h =
    let e : (a + 1) + p ≡ a + (suc p) = omega arith in
    map_at f (a + 1) n p (omega arith) ∙ ap f e

map_length : (f : ℕ → ℕ) (a n : ℕ) → length (map f (range_with_len a n)) ≡ n
map_length f a zero = refl
map_length f a (suc n) = ap suc (map_length f (a + 1) n)

pub inventory_length : (m : Meaning) → length (inventory_of m) ≡ 256
unfolding inventory_of
inventory_length m = map_length (shown_at m) 0 256

inventory_at : (m : Meaning) (p : ℕ) → p < 256 → get_or (inventory_of m) p 0 ≡ shown_at m p
unfolding inventory_of
inventory_at m p h = let e : 0 + p ≡ p = omega arith in map_at (shown_at m) 0 256 p h ∙ ap (shown_at m) e

none_past : (m : Meaning) (p : ℕ) → Sound m → count m ≤ p → cells m p ≡ 0
none_past m p s h = ap (λ v. cond (port_at m.kinds p) 0 v) (get_or_past m.held p 0 (omega (arith, s.held_length))) ∙ both (port_at m.kinds p)
  where
    both : (b : Bool) → ◌≡◌ {A = ℕ} (cond b 0 0) 0
    both true = refl
    both false = refl

-- It tells what cells and drives hold.
pub inventory_told : (m : Meaning) → Sound m → count m ≤ 256 → (λ p. get_or (padded 256 (inventory_of m)) p 0) ≡ cells m
inventory_told m s few =
    fun_ext (λ p. ap (λ (xs : List ℕ). get_or xs p 0) (padded_whole 256 (inventory_of m) (inventory_length m))
    ∙ ⊎_elim
    (λ (h : p < 256). inventory_at m p h ∙ shown_cells m p s)
    (λ (h : 256 ≤ p). get_or_past (inventory_of m) p 0 (omega (arith, inventory_length m)) ∙ sym (none_past m p s (omega arith)))
    (cases_lt p 256))

bound : (m : Meaning) (p : ℕ) → Sound m → shown_at m p ≤ unreadable_number
bound m p s = subst⁻¹ (λ v. v ≤ unreadable_number) (shown_cells m p s) (go (port_at m.kinds p))
  where
    go : (b : Bool) → cond b 0 (held_at m p) ≤ unreadable_number
    go true = omega arith
    go false = s.held_numbers p

inventory_placed : (m : Meaning) → Sound m → Placed (inventory_of m)
inventory_placed m s p =
    ⊎_elim
    (λ (h : p < 256). subst⁻¹ (λ v. v ≤ unreadable_number) (inventory_at m p h) (bound m p s))
    (λ (h : 256 ≤ p). subst⁻¹ (λ v. v ≤ unreadable_number) (get_or_past (inventory_of m) p 0 (omega (arith, inventory_length m))) (omega arith))
    (cases_lt p 256)

-- What a final shows can be written.
abbrev pub ShownGood : Shown → Type 0
ShownGood nothing = Unit {0}
ShownGood (listed es) = (length es ≤ 21) × Entered es
ShownGood inventory = Unit {0}

abbrev told_by_holds : FinalFor → Meaning → Shown → Told
told_by_holds f m y = final_told (record { request = f.request; ending = record { status = f.ending.status; detail = f.ending.detail; shown = y } }) m

writable_shown : (f : FinalFor) (m : Meaning) → Sound m → (x : Shown) → ShownGood x → Writable (told_by_holds f m x)
writable_shown f m s nothing g = record { few = omega arith; places = omega arith; sound = record { entries = tt; inventory = tt } }
writable_shown f m s (listed es) g = record { few = g.0; places = omega arith; sound = record { entries = g.1; inventory = tt } }
writable_shown f m s inventory g = record { few = omega arith; places = omega (arith, inventory_length m); sound = record { entries = tt; inventory = inventory_placed m s } }

pub writable_final : (f : FinalFor) (m : Meaning) → Sound m → ShownGood f.ending.shown → Writable (final_told f m)
writable_final f m s g = writable_shown f m s f.ending.shown g
