-- Worked examples of calls and runs, beside those of labels and packets.
use Rattle.std.specs.Prelude.{◌≡◌, ℕ, true, false, List, [], ◌∷◌, ◌++◌, map, length, replicate, codes}
use Rattle.labels.specs.Numbers.{number_of}
use Rattle.host.specs.Examples.{WorkedExamples}
use Rattle.robots.specs.declared.kind.Kind.{Kind}
use Rattle.robots.specs.declared.kind.Kind.TheVariants.{Cell, Drive, Port}
use Rattle.robots.specs.Meaning.{Meaning}
use Rattle.library.specs.Library.{Library}
use Rattle.library.specs.Making.{fresh}
use Rattle.server.specs.declared.refusal.CallRefusal.TheVariants.{ShortBuffer}
use Rattle.server.specs.Machine.{Call, Event, Reply, after, history}
use Rattle.server.specs.Machine.Call.{receive, step, put}
use Rattle.server.specs.Machine.Reply.{response, granted, refused}
use Rattle.site.specs.Hearing.{acknowledged, answered, started}
use Rattle.site.specs.Inventories.{inventories}
use Rattle.site.specs.Law.{events_of}

-- A robot whose places are empty and in service, and a new library over it.
abbrev pub empties : List Kind → Meaning
empties kinds = record { kinds = kinds; held = replicate (length kinds) 0; service = replicate (length kinds) true; hand = 0 }

abbrev pub new_over : List Kind → Library
new_over kinds = fresh (record { robot = empties kinds; filed = [] }) 64 32

abbrev pub replies_over : List Kind → List Call → List Reply
replies_over kinds calls = map (λ e. e.reply) (history (new_over kinds) calls)

-- The bench: two port places, a drive and three cells.
abbrev pub bench_kinds : List Kind
bench_kinds = Port ∷ Port ∷ Drive ∷ Cell ∷ Cell ∷ Cell ∷ []

-- ABC123 is put at 0; start 1, enter 2 and mount 3 of it on 2 are received, each followed by steps until its final.
abbrev pub bench_calls : List Call
bench_calls =
    put 0 (number_of (codes "ABC123"))
    ∷ receive (0x03 ∷ 0 ∷ 1 ∷ 9 ∷ []) 2048 ∷ replicate 7 (step 2048)
    ++ receive (0x03 ∷ 0 ∷ 2 ∷ 5 ∷ []) 2048 ∷ replicate 3 (step 2048)
    ++ receive (0x1B ∷ 0 ∷ 3 ∷ 7 ∷ codes "ABC123" ++ 2 ∷ []) 2048 ∷ step 2048 ∷ []

-- A step that wrote nothing.
abbrev pub quietly : Reply
quietly = response []

abbrev pub bench_replies : List Reply
bench_replies =
    granted
    ∷ response (0x0F ∷ 0 ∷ 1 ∷ 9 ∷ 1 ∷ 0 ∷ []) ∷ replicate 6 quietly ++ response (0x8F ∷ 0 ∷ 1 ∷ 9 ∷ 3 ∷ 0 ∷ replicate 32 0)
    ∷ response (0x0F ∷ 0 ∷ 2 ∷ 5 ∷ 1 ∷ 0 ∷ []) ∷ replicate 2 quietly ++ response (0x4F ∷ 0 ∷ 2 ∷ 5 ∷ 3 ∷ 0 ∷ 1 ∷ codes "ABC123" ++ 0 ∷ 3 ∷ 0 ∷ [])
    ∷ response (0x0F ∷ 0 ∷ 3 ∷ 7 ∷ 1 ∷ 0 ∷ []) ∷ response (0x4F ∷ 0 ∷ 3 ∷ 7 ∷ 3 ∷ 0 ∷ 1 ∷ codes "ABC123" ++ 3 ∷ 2 ∷ 0 ∷ []) ∷ []

abbrev pub bench_events : List Event
bench_events = events_of bench_calls bench_replies

-- So many port places and a cell.
abbrev pub ports : ℕ → List Kind
ports n = replicate n Port ++ Cell ∷ []

-- A start, and so many steps.
abbrev pub start_calls : ℕ → List Call
start_calls n = receive (0x03 ∷ 0 ∷ 1 ∷ 9 ∷ []) 2048 ∷ replicate n (step 2048)

-- Labels and packets; buffers of 2,047 and 2,048 bytes; a frame of 21 port places that starts and one of 22 that is refused
-- by 15; and the bench session, with what is heard of it.
pub record WorkedRules : Type 0 where
  pub examples : WorkedExamples
  pub receive_short : (l : Library) (packet : List ℕ) → l.door ≡ false → (after l (receive packet 2047)).reply ≡ refused ShortBuffer
  pub receive_enough : (after (new_over bench_kinds) (receive [] 2048)).reply ≡ response (0x1C ∷ 3 ∷ 1 ∷ 1 ∷ [])
  pub step_short : (l : Library) → l.door ≡ false → (after l (step 2047)).reply ≡ refused ShortBuffer
  pub step_enough : (after (new_over bench_kinds) (step 2048)).reply ≡ quietly
  pub starts : replies_over (ports 21) (start_calls 23) ≡ response (0x0F ∷ 0 ∷ 1 ∷ 9 ∷ 1 ∷ 0 ∷ []) ∷ replicate 22 quietly ++ response (0x8F ∷ 0 ∷ 1 ∷ 9 ∷ 3 ∷ 0 ∷ replicate 32 0) ∷ []
  pub refuses : replies_over (ports 22) (start_calls 1) ≡ response (0x0F ∷ 0 ∷ 1 ∷ 9 ∷ 1 ∷ 0 ∷ []) ∷ response (0x1F ∷ 0 ∷ 1 ∷ 9 ∷ 3 ∷ 15 ∷ 2 ∷ []) ∷ []
  pub session : replies_over bench_kinds bench_calls ≡ bench_replies
  pub all_acknowledged : acknowledged bench_events ≡ 1 ∷ 2 ∷ 3 ∷ []
  pub all_answered : answered bench_events ≡ 1 ∷ 2 ∷ 3 ∷ []
  pub has_started : started bench_events ≡ true
  pub told_drive : map (λ i. i 2) (inventories bench_kinds bench_events) ≡ number_of (codes "ABC123") ∷ []
