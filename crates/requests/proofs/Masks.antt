-- The wrong bits of a map by masks: every byte, for every command, by computing.
use Rattle.std.proofs.Common.{◌≡◌, ℕ, zero, suc, ◌<◌, Bool, true, false, cond, eqb, Some, None, Option, sym, refl, ap, ◌∙◌, arith, eqb-true}
use lib.Count.{count_trailing_zeros}
use borrow.Author.Tests.{eqb-false}
use Rattle.requests.specs.declared.commands.Command.{Command}
use Rattle.requests.specs.declared.commands.Command.TheVariants as command
use Rattle.requests.specs.Inspecting.{lowest_in, wrong_mask}
use Rattle.requests.proofs.Passed.{true_false}

-- The lowest bit of a mask.
abbrev lowest_of : ℕ → Option ℕ
lowest_of w = cond (eqb w 0) None (Some (count_trailing_zeros 8 w))

abbrev same : Option ℕ → Option ℕ → Bool
same None None = true
same None (Some b) = false
same (Some a) None = false
same (Some a) (Some b) = eqb a b

alike : (x y : Option ℕ) → same x y ≡ true → x ≡ y
alike None None h = refl
alike None (Some b) h = absurd (true_false (sym h))
alike (Some a) None h = absurd (true_false (sym h))
alike (Some a) (Some b) h = ap (λ (k : ℕ). Some k) (eqb-true a b h)

-- It holds of each number below n.
abbrev all_below : ℕ → (ℕ → Bool) → Bool
all_below zero p = true
all_below (suc n) p = cond (p n) (all_below n p) false

both : (a b : Bool) → cond a b false ≡ true → (a ≡ true) × (b ≡ true)
both true b h = (refl, h)
both false b h = absurd (true_false (sym h))

below : (n : ℕ) (p : ℕ → Bool) → all_below n p ≡ true → (m : ℕ) → m < n → p m ≡ true
below zero p h m l = absurd (omega (arith, l))
below (suc n) p h m l = go (eqb m n) refl (below n p (both (p n) (all_below n p) h).1 m)
  where
    go : (b : Bool) → eqb m n ≡ b → (m < n → p m ≡ true) → p m ≡ true
    go true e k = ap p (eqb-true m n e) ∙ (both (p n) (all_below n p) h).0
    go false e k = let d = eqb-false m n e in k (omega (arith, l, d))

abbrev right_at : Command → Bool → ℕ → Bool
right_at c bad m = same (lowest_of (wrong_mask c m bad)) (lowest_in c m bad)

computed : (c : Command) (bad : Bool) → all_below 256 (right_at c bad) ≡ true
unfolding count_trailing_zeros
computed command.Cancel true = refl
computed command.Cancel false = refl
computed command.Dismount true = refl
computed command.Dismount false = refl
computed command.Eject true = refl
computed command.Eject false = refl
computed command.Enter true = refl
computed command.Enter false = refl
computed command.Idle true = refl
computed command.Idle false = refl
computed command.Mount true = refl
computed command.Mount false = refl
computed command.Query true = refl
computed command.Query false = refl
computed command.Start true = refl
computed command.Start false = refl
computed command.Vary true = refl
computed command.Vary false = refl

pub mask_lowest : (c : Command) (m : ℕ) (bad : Bool) → m < 256 → lowest_of (wrong_mask c m bad) ≡ lowest_in c m bad
mask_lowest c m bad l = alike _ _ (below 256 (right_at c bad) (computed c bad) m l)

pub none_wrong : (c : Command) (m : ℕ) (bad : Bool) (w : ℕ) → m < 256 → w ≡ wrong_mask c m bad → w ≡ 0 → None ≡ lowest_in c m bad
none_wrong c m bad w l e z = ap lowest_of (sym z ∙ e) ∙ mask_lowest c m bad l

pub some_wrong : (c : Command) (m : ℕ) (bad : Bool) (w k : ℕ) → m < 256 → w ≡ wrong_mask c m bad → eqb w 0 ≡ false → k ≡ count_trailing_zeros 8 w → Some k ≡ lowest_in c m bad
some_wrong c m bad w k l e z t = ap (λ (x : ℕ). Some x) t ∙ ap (λ (b : Bool). cond b None (Some (count_trailing_zeros 8 w))) (sym z) ∙ ap lowest_of e ∙ mask_lowest c m bad l
