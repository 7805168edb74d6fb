-- What a response packet reads as. Anything that no response has (a cut or a longer packet, an unknown kind or status, a layer
-- that is not the status's, six bytes that stand for no cartridge, more than 21 entries) makes it read as nothing.
use Rattle.std.specs.Prelude.{ℕ, zero, suc, Bool, true, false, cond, List, [], ◌∷◌, ◌++◌, length, take, drop, Some, None, Option, Result, ◌==◌, nat_le, ok_or}
use Rattle.std.specs.Borrow.{Bor}
use Rattle.byte_fields.specs.Taking.{has_bit, one_off, two_off, six_off}
use Rattle.labels.specs.Labels.{number_of_six}
use Rattle.statuses.specs.declared.Status.{Status}
use Rattle.statuses.specs.Statuses.{status_of}
use Rattle.responses.specs.declared.Entry.{Entry}
use Rattle.responses.specs.declared.Response.{Response}
use Rattle.responses.specs.declared.ResponseKind.{ResponseKind}
use Rattle.responses.specs.declared.ResponseKind.TheVariants.{Acknowledge, Final}
use Rattle.responses.specs.declared.Head.{Head}
use Rattle.responses.specs.declared.UnknownKind.{UnknownKind}
use Rattle.responses.specs.Responses.{most_entries, Told, held, kind_number, listed, told}
use Rattle.responses.specs.Writing.{layer_byte}

-- What was cut off the front, handed on with the bytes behind it.
abbrev pub after : {X Y : Type 0} → Option (X × List ℕ) → (X → List ℕ → Option Y) → Option Y
after None k = None
after (Some p) k = k p.0 p.1

-- What was found, handed on.
abbrev pub given : {X Y : Type 0} → Option X → (X → Option Y) → Option Y
given None k = None
given (Some x) k = k x

-- Kind and status have to be there, and known.
abbrev pub kind_of : ℕ → Option ResponseKind
kind_of n = cond (n == kind_number Acknowledge) (Some Acknowledge) (cond (n == kind_number Final) (Some Final) None)

-- The same, with the number where it stands for none.
abbrev pub kind_named : ℕ → Result ResponseKind UnknownKind
kind_named n = ok_or (kind_of n) (record { code = n })

abbrev pub kind_in : Option ℕ → Option ResponseKind
kind_in None = None
kind_in (Some n) = kind_of n

abbrev pub status_in : Option ℕ → Option Status
status_in None = None
status_in (Some n) = status_of n

-- Whether two optional bytes are the same.
abbrev pub same : Option ℕ → Option ℕ → Bool
same None None = true
same None (Some b) = false
same (Some a) None = false
same (Some a) (Some b) = a == b

-- The fields before the entries, one after another. Bit 5, the detail.
abbrev pub detail_off : ℕ → Option ℕ → Option ℕ → ResponseKind → Status → List ℕ → Option (Head × List ℕ)
detail_off m n c k s bs = after (one_off (has_bit m 32) bs) (λ d rest. Some (record { number = n; command = c; kind = k; status = s; detail = d }, rest))

-- Bit 4, the layer: the one of the status.
abbrev pub layer_off : ℕ → Option ℕ → Option ℕ → ResponseKind → Status → List ℕ → Option (Head × List ℕ)
layer_off m n c k s bs = after (one_off (has_bit m 16) bs) (λ l rest. cond (same l (layer_byte s)) (detail_off m n c k s rest) None)

-- Bit 3, the status.
abbrev pub status_off : ℕ → Option ℕ → Option ℕ → ResponseKind → List ℕ → Option (Head × List ℕ)
status_off m n c k bs = after (one_off (has_bit m 8) bs) (λ x rest. given (status_in x) (λ s. layer_off m n c k s rest))

-- Bit 2, the kind.
abbrev pub kind_off : ℕ → Option ℕ → Option ℕ → List ℕ → Option (Head × List ℕ)
kind_off m n c bs = after (one_off (has_bit m 4) bs) (λ x rest. given (kind_in x) (λ k. status_off m n c k rest))

-- Bit 1, the command.
abbrev pub command_off : ℕ → Option ℕ → List ℕ → Option (Head × List ℕ)
command_off m n bs = after (one_off (has_bit m 2) bs) (λ c. kind_off m n c)

-- Bit 0, the request number.
abbrev pub head_off : ℕ → List ℕ → Option (Head × List ℕ)
head_off m bs = after (two_off (has_bit m 1) bs) (λ n. command_off m n)

-- The cartridge that six bytes stand for.
abbrev pub cartridge_from : Option (List ℕ) → List ℕ → Option (ℕ × List ℕ)
cartridge_from None rest = None
cartridge_from (Some six) rest = given (number_of_six six) (λ n. Some (n, rest))

abbrev pub cartridge_off : List ℕ → Option (ℕ × List ℕ)
cartridge_off bs = after (six_off true bs) cartridge_from

-- An entry: the cartridge, then from-place, to-place and status.
abbrev pub entry_from : ℕ → List ℕ → Option (Entry × List ℕ)
entry_from n [] = None
entry_from n (f ∷ []) = None
entry_from n (f ∷ t ∷ []) = None
entry_from n (f ∷ t ∷ c ∷ bs) = given (status_of c) (λ s. Some (record { cartridge = n; from = f; to = t; status = s }, bs))

abbrev pub entry_off : List ℕ → Option (Entry × List ℕ)
entry_off bs = after (cartridge_off bs) entry_from

-- With one more in front.
abbrev pub consed : {X : Type 0} → X → Option (List X × List ℕ) → Option (List X × List ℕ)
consed x None = None
consed x (Some p) = Some (x ∷ p.0, p.1)

-- As many entries as the count says.
abbrev pub each_off : ℕ → List ℕ → Option (List Entry × List ℕ)
each_off zero bs = Some ([], bs)
each_off (suc n) bs = after (entry_off bs) (λ e rest. consed e (each_off n rest))

-- No response has more than the most.
abbrev pub entries_off : List ℕ → Option (List Entry × List ℕ)
entries_off [] = None
entries_off (n ∷ bs) = cond (nat_le n most_entries) (each_off n bs) None

-- The bits of map bytes, the lowest of each first.
unfoldable pub bits_of : List ℕ → List Bool
bits_of [] = []
bits_of (b ∷ bs) = has_bit b 1 ∷ has_bit b 2 ∷ has_bit b 4 ∷ has_bit b 8 ∷ has_bit b 16 ∷ has_bit b 32 ∷ has_bit b 64 ∷ has_bit b 128 ∷ bits_of bs

-- A place: the cartridge if its bit stands, else nothing.
abbrev pub place_off : Bool → List ℕ → Option (ℕ × List ℕ)
place_off false bs = Some (0, bs)
place_off true bs = cartridge_off bs

abbrev pub places_off : List Bool → List ℕ → Option (List ℕ × List ℕ)
places_off [] bs = Some ([], bs)
places_off (b ∷ bits) bs = after (place_off b bs) (λ n rest. consed n (places_off bits rest))

-- An inventory: 32 map bytes, then the 256 places.
abbrev pub inventory_off : List ℕ → Option (List ℕ × List ℕ)
inventory_off bs = cond (nat_le 32 (length bs)) (places_off (bits_of (take 32 bs)) (drop 32 bs)) None

-- What there is, where its bit stands.
abbrev pub maybe : {X : Type 0} → Bool → (List ℕ → Option (X × List ℕ)) → List ℕ → Option (Option X × List ℕ)
maybe false f bs = Some (None, bs)
maybe true f bs = after (f bs) (λ x rest. Some (Some x, rest))

-- No byte may be left.
abbrev pub ended : Told → List ℕ → Option Told
ended t [] = Some t
ended t (b ∷ bs) = None

-- The response of the fields.
abbrev pub told_in : Head → Option (List Entry) → Option (List ℕ) → Told
told_in h e i = held h.number h.command h.kind h.status h.detail e i

-- Bit 7, the inventory, and the end.
abbrev pub inventory_on : ℕ → Head → Option (List Entry) → List ℕ → Option Told
inventory_on m h e bs = after (maybe (has_bit m 128) inventory_off bs) (λ i. ended (told_in h e i))

-- Bit 6, the entries, and the rest.
abbrev pub entries_on : ℕ → Head → List ℕ → Option Told
entries_on m h bs = after (maybe (has_bit m 64) entries_off bs) (inventory_on m h)

-- The response in a packet.
unfoldable pub response_in : List ℕ → Option Told
response_in [] = None
response_in (m ∷ bs) = after (head_off m bs) (entries_on m)

-- What a function returned, with the list that its slice holds.
abbrev pub gathered : {X : Type 0} → Option (Bor (List ℕ)) → List X → Option (List X × List ℕ)
gathered None xs = None
gathered (Some r) xs = Some (xs, r.now)

abbrev pub seen_list : {X : Type 0} → Option (Option (Bor (List X)) × Bor (List ℕ)) → Option (Option (List X) × List ℕ)
seen_list None = None
seen_list (Some p) = Some (listed p.0, p.1.now)

abbrev pub seen_response : Option Response → Option Told
seen_response None = None
seen_response (Some r) = Some (told r)

-- With xs in front.
abbrev pub prefixed : {X : Type 0} → List X → Option (List X × List ℕ) → Option (List X × List ℕ)
prefixed xs None = None
prefixed xs (Some p) = Some (xs ++ p.0, p.1)
