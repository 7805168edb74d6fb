use Rattle.std.proofs.Common.{◌≡◌, ◌-◌, length, take}
use Rattle.responses.specs.Reading.{each_off, prefixed}
use Rattle.responses.proofs.entries.take_each.Given as goal

abbrev pub invariant-loop-slot : goal.invariant-loop-slot
invariant-loop-slot l = each_off (length l.fn.entries) l.bytes ≡ prefixed (take l.slot-index l.entries) (each_off (length l.fn.entries - l.slot-index) l.rest)
