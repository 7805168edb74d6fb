-- Bytes put behind what a writer has written.
use Rattle.std.specs.Prelude.{◌≡◌, ℕ, ◌+◌, ◌<◌, ◌≤◌, List, length}
use Rattle.byte_fields.specs.declared.putting.Writer.{Writer}
use Rattle.byte_fields.specs.Putting.{Wrote}

-- A writer that was v is w, over the same buffer: the bytes bs stand behind what v had written, or all is as it was where they do not fit.
pub record Put (bs : List ℕ) (v w : Writer) : Type 0 where
  pub same : w.buffer.ghost_name ≡ v.buffer.ghost_name
  pub wrote : v.at + length bs ≤ length v.buffer.now → Wrote v.at bs v.buffer.now w.buffer.now w.at
  pub full : length v.buffer.now < v.at + length bs → (w.buffer.now ≡ v.buffer.now) × (w.at ≡ v.at)

-- The same where there is room for the bytes.
pub record Added (bs : List ℕ) (v w : Writer) : Type 0 where
  pub same : w.buffer.ghost_name ≡ v.buffer.ghost_name
  pub wrote : Wrote v.at bs v.buffer.now w.buffer.now w.at
