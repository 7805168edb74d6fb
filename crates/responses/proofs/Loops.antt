-- The turns of the loops that write the items of a list.
use Rattle.std.proofs.Common.{◌≡◌, ℕ, ◌+◌, ◌<◌, List, [], ◌∷◌, ◌++◌, length, get_or, take, sym, ap, ◌∙◌, append_assoc, append-nil}
use Rattle.std.proofs.lemmas.List.{take_more}

-- One item more of a list whose bytes are those of its items, one behind the other.
pub all_more : {X : Type 0} (all : List X → List ℕ) (bytes : X → List ℕ) → all [] ≡ [] → ((x : X) (xs : List X) → all (x ∷ xs) ≡ bytes x ++ all xs)
    → (xs : List X) (i : ℕ) (x : X) → x ≡ get_or xs i x → i < length xs → all (take (i + 1) xs) ≡ all (take i xs) ++ bytes x
all_more {X} all bytes none more xs i x e h = ap all (take_more xs i x h) ∙ ap (λ (y : X). all (take i xs ++ (y ∷ []))) (sym e) ∙ push (take i xs)
  where
    push : (ys : List X) → all (ys ++ (x ∷ [])) ≡ all ys ++ bytes x
    push [] = more x [] ∙ ap (λ (l : List ℕ). bytes x ++ l) none ∙ append-nil (bytes x) ∙ ap (λ (l : List ℕ). l ++ bytes x) (sym none)
    push (y ∷ ys) = more y (ys ++ (x ∷ [])) ∙ ap (λ (l : List ℕ). bytes y ++ l) (push ys) ∙ sym (append_assoc (bytes y) (all ys) (bytes x)) ∙ ap (λ (l : List ℕ). l ++ bytes x) (sym (more y ys))
