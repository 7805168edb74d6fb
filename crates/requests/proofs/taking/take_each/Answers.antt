use Rattle.std.proofs.Common.{◌≡◌, ℕ, true, List, [], ◌∷◌, Some, Option, rules}
use Rattle.byte_fields.specs.Taking.{has_bit, one_off, two_off, six_off}
use Rattle.byte_fields.proofs.Forth.{pair_eq}
use Rattle.requests.specs.declared.taking.Taken.{Taken}
use Rattle.requests.specs.Taking.{held, ending_of, taken}
use Rattle.requests.proofs.taking.take_each.Goals as goal

-- Every field is cut off, each behind the one before.
all_taken : (ps : List ℕ) (m : ℕ) (n c o : Option ℕ) (l : Option (List ℕ)) (p t d : Option ℕ) (b0 b1 b2 b3 b4 b5 b6 b7 : List ℕ) → one_off true ps ≡ Some (Some m, b0)
    → two_off (has_bit m 1) b0 ≡ Some (n, b1) → one_off (has_bit m 2) b1 ≡ Some (c, b2) → one_off (has_bit m 4) b2 ≡ Some (o, b3)
    → six_off (has_bit m 8) b3 ≡ Some (l, b4) → one_off (has_bit m 16) b4 ≡ Some (p, b5) → two_off (has_bit m 32) b5 ≡ Some (t, b6)
    → one_off (has_bit m 64) b6 ≡ Some (d, b7) → ◌≡◌ {A = Taken} (record { fields = held m n c o l p t d; ending = ending_of b7 }) (taken ps)
all_taken [] m n c o l p t d b0 b1 b2 b3 b4 b5 b6 b7 e0 e1 e2 e3 e4 e5 e6 e7 = cc
all_taken (a ∷ bs) m n c o l p t d b0 b1 b2 b3 b4 b5 b6 b7 e0 e1 e2 e3 e4 e5 e6 e7 =
    let f = pair_eq _ _ _ _ e0 in
    let x : a ≡ m = cc in
    rw (x, f.1, e1, e2, e3, e4, e5, e6, e7)

pub returns : goal.returns
returns c =
    all_taken c.args.packet.now c.in_ok-map.map c.in_ok-number.number c.in_ok-command.command c.in_ok-option.option c.in_ok-label.label c.in_ok-place.place c.in_ok-target.target c.in_ok-drive_state.drive_state
    c.in_ok-map.rest.now c.in_ok-number.rest.now c.in_ok-command.rest.now c.in_ok-option.rest.now c.in_ok-label.rest.now c.in_ok-place.rest.now c.in_ok-target.rest.now c.in_ok-drive_state.rest.now
    (search rules) (search rules) (search rules) (search rules) (search rules) (search rules) (search rules) (search rules)
