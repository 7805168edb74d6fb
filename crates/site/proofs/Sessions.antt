-- The worked runs, computed.
use Rattle.std.proofs.Common.{◌≡◌, ℕ, Bool, true, false, List, [], ◌∷◌, ◌++◌, map, replicate, codes, refl, ap}
use Rattle.labels.specs.Labels.{six_for, numbered, number_of_six}
use Rattle.labels.specs.Numbers.{number_of}
use Rattle.responses.specs.Writing.{bytes_of}
use Rattle.responses.specs.Inventories.{map_bytes}
use Rattle.responses.specs.Reading.{bits_of, response_in}
use Rattle.stock.specs.Holding.{inventory_of}
use Rattle.library.specs.Library.{Library}
use Rattle.server.specs.declared.refusal.CallRefusal.TheVariants.{ShortBuffer}
use Rattle.server.specs.Calls.{receive_call, step_call}
use Rattle.server.specs.Machine.{after, blank, replied, when_shut}
use Rattle.server.specs.Machine.Call.{receive, step}
use Rattle.server.specs.Machine.Reply.{response, refused}
use Rattle.site.specs.Hearing.{acknowledged, answered, started}
use Rattle.site.specs.Inventories.{inventories}
use Rattle.site.specs.Examples.{bench_calls, bench_events, bench_kinds, bench_replies, new_over, ports, quietly, replies_over, start_calls}

pub received_short : (l : Library) (packet : List ℕ) → l.door ≡ false → (after l (receive packet 2047)).reply ≡ refused ShortBuffer
received_short l packet e = ap (λ (d : Bool). (when_shut d l (replied (receive_call packet (blank 2047) l))).reply) e

pub received_enough : (after (new_over bench_kinds) (receive [] 2048)).reply ≡ response (0x1C ∷ 3 ∷ 1 ∷ 1 ∷ [])
unfolding bytes_of
received_enough = refl

pub stepped_short : (l : Library) → l.door ≡ false → (after l (step 2047)).reply ≡ refused ShortBuffer
stepped_short l e = ap (λ (d : Bool). (when_shut d l (replied (step_call (blank 2047) l))).reply) e

pub stepped_enough : (after (new_over bench_kinds) (step 2048)).reply ≡ quietly
stepped_enough = refl

pub frame_starts : replies_over (ports 21) (start_calls 23) ≡ response (0x0F ∷ 0 ∷ 1 ∷ 9 ∷ 1 ∷ 0 ∷ []) ∷ replicate 22 quietly ++ response (0x8F ∷ 0 ∷ 1 ∷ 9 ∷ 3 ∷ 0 ∷ replicate 32 0) ∷ []
unfolding bytes_of map_bytes inventory_of
frame_starts = refl

pub frame_refused : replies_over (ports 22) (start_calls 1) ≡ response (0x0F ∷ 0 ∷ 1 ∷ 9 ∷ 1 ∷ 0 ∷ []) ∷ response (0x1F ∷ 0 ∷ 1 ∷ 9 ∷ 3 ∷ 15 ∷ 2 ∷ []) ∷ []
unfolding bytes_of
frame_refused = refl

pub bench_session : replies_over bench_kinds bench_calls ≡ bench_replies
unfolding bytes_of map_bytes inventory_of six_for numbered
bench_session = refl

pub bench_acknowledged : acknowledged bench_events ≡ 1 ∷ 2 ∷ 3 ∷ []
unfolding response_in bits_of numbered number_of_six
bench_acknowledged = refl

pub bench_answered : answered bench_events ≡ 1 ∷ 2 ∷ 3 ∷ []
unfolding response_in bits_of numbered number_of_six
bench_answered = refl

pub bench_started : started bench_events ≡ true
unfolding response_in bits_of numbered number_of_six
bench_started = refl

pub bench_told : map (λ i. i 2) (inventories bench_kinds bench_events) ≡ number_of (codes "ABC123") ∷ []
unfolding response_in bits_of numbered number_of_six
bench_told = refl
