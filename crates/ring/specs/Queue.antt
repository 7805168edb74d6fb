-- What a ring stands for, and what its calls keep.
use Rattle.std.specs.Prelude.{◌≡◌, List, drop}
use Rattle.ring.specs.declared.queue.Ring.{Ring}
use Rattle.ring.specs.Order.{in_order}

-- The records in a ring, the oldest first.
abbrev pub records : {X : Type 0} → Ring X → List X
records q = in_order q.capacity q.head q.count q.slots.now

-- As many slots are in use as before, and those out of use are as they were.
pub record Kept {X : Type 0} (before after : Ring X) : Type 0 where
  pub capacity : after.capacity ≡ before.capacity
  pub unused : drop before.capacity after.slots.now ≡ drop before.capacity before.slots.now

-- A closure answers as f says, if no call of it can answer anything else.
abbrev pub Answers : {X Y : Type 0} → (X → Y → Type 0) → (X → Y) → Type 0
Answers {X} {Y} post f = (x : X) (y : Y) → post x y → y ≡ f x
