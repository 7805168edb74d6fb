-- Worked responses.
use Rattle.std.specs.Prelude.{◌≡◌, [], ◌∷◌, ◌++◌, replicate, Some, None, codes}
use Rattle.labels.specs.Numbers.{number_of}
use Rattle.statuses.specs.declared.Status.TheVariants as status
use Rattle.responses.specs.declared.Entry.{Entry}
use Rattle.responses.specs.declared.ResponseKind.TheVariants.{Acknowledge, Final}
use Rattle.responses.specs.Responses.{held, refused_by}
use Rattle.responses.specs.Writing.{bytes_of}
use Rattle.responses.specs.Reading.{response_in}

-- ABC123 went from port place 0 to cell 3.
abbrev pub moved_in : Entry
moved_in = record { cartridge = number_of (codes "ABC123"); from = 0; to = 3; status = status.Success }

-- The answer to the empty packet; a start that was taken and one that found a library of six empty places; an enter of one cartridge, which reads back; and
-- the same one byte shorter, and a response one byte longer, which do not.
pub record WorkedResponses : Type 0 where
  pub empty : bytes_of (refused_by None None status.Short 0) ≡ 0x1C ∷ 0x03 ∷ 0x01 ∷ 0x01 ∷ []
  pub taken : bytes_of (held (Some 1) (Some 9) Acknowledge status.Success None None None) ≡ 0x0F ∷ 0 ∷ 1 ∷ 9 ∷ 1 ∷ 0 ∷ []
  pub started : bytes_of (held (Some 1) (Some 9) Final status.Success None None (Some (replicate 6 0))) ≡ 0x8F ∷ 0 ∷ 1 ∷ 9 ∷ 3 ∷ 0 ∷ replicate 32 0
  pub entered : bytes_of (held (Some 2) (Some 5) Final status.Success None (Some (moved_in ∷ [])) None) ≡ 0x4F ∷ 0 ∷ 2 ∷ 5 ∷ 3 ∷ 0 ∷ 1 ∷ codes "ABC123" ++ 0 ∷ 3 ∷ 0 ∷ []
  pub read : response_in (0x4F ∷ 0 ∷ 2 ∷ 5 ∷ 3 ∷ 0 ∷ 1 ∷ codes "ABC123" ++ 0 ∷ 3 ∷ 0 ∷ []) ≡ Some (held (Some 2) (Some 5) Final status.Success None (Some (moved_in ∷ [])) None)
  pub cut : response_in (0x4F ∷ 0 ∷ 2 ∷ 5 ∷ 3 ∷ 0 ∷ 1 ∷ codes "ABC123" ++ 0 ∷ 3 ∷ []) ≡ None
  pub long : response_in (0x0F ∷ 0 ∷ 1 ∷ 9 ∷ 1 ∷ 0 ∷ 0 ∷ []) ≡ None
