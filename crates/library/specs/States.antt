-- Numbers of states and messages.
use Rattle.std.specs.Prelude.{ℕ}
use Rattle.library.specs.declared.state.State.{State}
use Rattle.library.specs.declared.state.State.TheVariants as state
use Rattle.library.specs.declared.message.Notice.{Notice}
use Rattle.library.specs.declared.message.Notice.TheVariants as notice

-- The number that tells a state.
abbrev pub state_number : State → ℕ
state_number state.Run = 1
state_number state.IdlePending = 2
state_number state.Idle = 3
state_number state.Recovery = 4

-- The number that tells the kind of a message.
abbrev pub notice_number : Notice → ℕ
notice_number notice.Input = 1
notice_number notice.Remove = 2
notice_number notice.IdlePending = 3
notice_number notice.Idle = 4
