use Rattle.std.proofs.Common.{◌≡◌, ℕ, ◌<◌, ◌≤◌, true, List, [], ◌∷◌, length, Some, None, Option, refl, ap, ◌∙◌, arith, rules}
use Rattle.byte_fields.specs.Taking.{has_bit, one_off}
use Rattle.byte_fields.proofs.Forth.{bytes_all, pair_eq}
use Rattle.responses.specs.declared.Entry.{Entry}
use Rattle.responses.specs.declared.Head.{Head}
use Rattle.responses.specs.declared.Response.{Response}
use Rattle.responses.specs.Responses.{Told, listed}
use Rattle.responses.specs.Reading.{after, head_off, entries_off, inventory_off, maybe, ended, told_in, entries_on, inventory_on, response_in}
use Rattle.responses.proofs.Forth.{reads_forth}
use Rattle.responses.proofs.reading.read.Goals as goal

-- What is left to read of a packet, cut by cut.
no_map : (xs : List ℕ) → None ≡ one_off true xs → None ≡ response_in xs
unfolding response_in
no_map [] h = refl
no_map (a ∷ xs) h = cc

began : (xs : List ℕ) (m : ℕ) (rest : List ℕ) → Some (Some m, rest) ≡ one_off true xs → after (head_off m rest) (entries_on m) ≡ response_in xs
unfolding response_in
began [] m rest e = cc
began (a ∷ xs) m rest e =
    let f = pair_eq _ _ _ _ e in
    let p : m ≡ a = cc in
    rw (p, f.1)

headed : (xs : List ℕ) (m : ℕ) (o : Option (Head × List ℕ)) (r0 : List ℕ) → Some (Some m, r0) ≡ one_off true xs → o ≡ head_off m r0 → after o (entries_on m) ≡ response_in xs
headed xs m o r0 e h = ap (λ (o : Option (Head × List ℕ)). after o (entries_on m)) h ∙ began xs m r0 e

entered : (xs : List ℕ) (m : ℕ) (h : Head) (o : Option (Option (List Entry) × List ℕ)) (r0 r1 : List ℕ) → Some (Some m, r0) ≡ one_off true xs → Some (h, r1) ≡ head_off m r0
    → o ≡ maybe (has_bit m 64) entries_off r1 → after o (inventory_on m h) ≡ response_in xs
entered xs m h o r0 r1 e f g = ap (λ (o : Option (Option (List Entry) × List ℕ)). after o (inventory_on m h)) g ∙ headed xs m (Some (h, r1)) r0 e f

placed : (xs : List ℕ) (m : ℕ) (h : Head) (es : Option (List Entry)) (o : Option (Option (List ℕ) × List ℕ)) (r0 r1 r2 : List ℕ) → Some (Some m, r0) ≡ one_off true xs → Some (h, r1) ≡ head_off m r0
    → Some (es, r2) ≡ maybe (has_bit m 64) entries_off r1 → o ≡ maybe (has_bit m 128) inventory_off r2 → after o (λ i. ended (told_in h es i)) ≡ response_in xs
placed xs m h es o r0 r1 r2 e f g k = ap (λ (o : Option (Option (List ℕ) × List ℕ)). after o (λ i. ended (told_in h es i))) k ∙ entered xs m h (Some (es, r2)) r0 r1 e f g

longer : (t : Told) (bs : List ℕ) → 1 ≤ length bs → None ≡ ended t bs
longer t [] h = absurd (omega arith)
longer t (b ∷ bs) h = refl

no_longer : (t : Told) (bs : List ℕ) → length bs < 1 → Some t ≡ ended t bs
no_longer t [] h = refl
no_longer t (b ∷ bs) h = absurd (omega arith)

pub returns-in_err-map-clause-answer : goal.returns-in_err-map-clause-answer
returns-in_err-map-clause-answer c =
    let e : None ≡ one_off true c.args.packet.now = search rules in
    rw (← no_map c.args.packet.now e) (search rules)

pub returns-in_err-head-clause-answer : goal.returns-in_err-head-clause-answer
returns-in_err-head-clause-answer c =
    rw (← headed c.args.packet.now c.in_ok-map.map None c.in_ok-map.rest.now (search rules) (search rules)) (search rules)

pub returns-in_err-entries-clause-answer : goal.returns-in_err-entries-clause-answer
returns-in_err-entries-clause-answer c =
    rw (← entered c.args.packet.now c.in_ok-map.map c.in_ok-head.head None c.in_ok-map.rest.now c.in_ok-head.rest.now (search rules) (search rules) (search rules)) (search rules)

pub returns-in_err-inventory-clause-answer : goal.returns-in_err-inventory-clause-answer
returns-in_err-inventory-clause-answer c =
    rw (← placed c.args.packet.now c.in_ok-map.map c.in_ok-head.head (listed c.in_ok-entries.entries) None c.in_ok-map.rest.now c.in_ok-head.rest.now c.in_ok-entries.rest.now (search rules) (search rules) (search rules) (search rules)) (search rules)

pub returns-in_default-clause-answer : goal.returns-in_default-clause-answer
returns-in_default-clause-answer c =
    let es = listed c.in_ok-entries.entries in
    let is = listed c.in_ok-inventory.inventory in
    let rest = c.in_ok-inventory.rest.now in
    longer (told_in c.in_ok-head.head es is) rest c.in_default.len_at_least
    ∙ placed c.args.packet.now c.in_ok-map.map c.in_ok-head.head es (Some (is, rest)) c.in_ok-map.rest.now c.in_ok-head.rest.now c.in_ok-entries.rest.now (search rules) (search rules) (search rules) (search rules)

pub returns : goal.returns
returns c =
    let p = c.args.packet.now in
    let es = listed c.in_ok-entries.entries in
    let is = listed c.in_ok-inventory.inventory in
    let rest = c.in_ok-inventory.rest.now in
    let t = told_in c.in_ok-head.head es is in
    let a : Some t ≡ response_in p =
    no_longer t rest c.in-empty.len_below
    ∙ placed p c.in_ok-map.map c.in_ok-head.head es (Some (is, rest)) c.in_ok-map.rest.now c.in_ok-head.rest.now c.in_ok-entries.rest.now (search rules) (search rules) (search rules) (search rules) in
    let r : Response = record { head = c.in_ok-head.head; entries = c.in_ok-entries.entries; inventory = c.in_ok-inventory.inventory } in
    record { answer = a; writes = reads_forth p (Some r) (bytes_all p (λ i. (c.type_inv.packet i).fits)) a }
