-- Robots that mean the same cannot be told apart.
use Rattle.std.specs.Prelude.{◌≡◌}
use Rattle.robots.specs.declared.act.Reply.{Reply}
use Rattle.robots.specs.declared.act.Answer.{Answer}
use Rattle.robots.specs.Meaning.{Meaning}

-- Two robots that mean the same tell the same.
abbrev pub EqualReplies : Meaning → Meaning → Reply × Reply → Type 0
EqualReplies m n r = m ≡ n → r.0 ≡ r.1

-- Two robots that mean the same answer alike, and mean the same again afterwards.
abbrev pub EqualAnswers : Meaning → Meaning → Answer × Answer → Meaning → Meaning → Type 0
EqualAnswers m n r m-after n-after = m ≡ n → (r.0 ≡ r.1) × (m-after ≡ n-after)
