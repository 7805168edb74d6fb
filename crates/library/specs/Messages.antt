-- Messages to the operator: a full queue drops the new one and counts it, up to 65,535.
use Rattle.std.specs.Prelude.{ℕ, ◌+◌, min, cond, List, [], ◌∷◌, ◌++◌, length, Some, None, Option, nat_lt}
use Rattle.library.specs.declared.message.Message.{Message}
use Rattle.library.specs.declared.message.Notice.{Notice}
use Rattle.library.specs.States.{notice_number}

-- The message that a notice about a request makes.
abbrev pub message_for : Notice → ℕ → Message
message_for notice n = record { kind = notice_number notice; number = n }

-- The queue once a message is posted, where it takes `slots` of them.
abbrev pub posted_to : ℕ → List Message → Message → List Message
posted_to slots ms m = cond (nat_lt (length ms) slots) (ms ++ m ∷ []) ms

abbrev pub dropped_by : ℕ → List Message → ℕ → ℕ
dropped_by slots ms n = cond (nat_lt (length ms) slots) n (min (n + 1) 65535)

-- The same where there may be nothing to post.
abbrev pub posted : ℕ → List Message → Option Notice → ℕ → List Message
posted slots ms None n = ms
posted slots ms (Some notice) n = posted_to slots ms (message_for notice n)

abbrev pub dropped : ℕ → List Message → Option Notice → ℕ → ℕ
dropped slots ms None n = n
dropped slots ms (Some notice) n = dropped_by slots ms n
