-- The worked examples of labels and packets, with the responses to the refused ones.
use Rattle.std.specs.Prelude.{◌≡◌, ℕ, List, [], ◌∷◌, ◌++◌, Some, None, Ok, Err, codes, Option, Result}
use Rattle.std.specs.Option.{unwrap_or}
use Rattle.labels.specs.Examples.{WorkedNumbers}
use Rattle.requests.specs.declared.bodies.Request.{Request}
use Rattle.requests.specs.declared.refusals.BadPacket.{BadPacket}
use Rattle.requests.specs.Examples.{WorkedPackets}
use Rattle.requests.specs.Reading.{request_in}
use Rattle.requests.specs.Refusals.{cause_status, cause_detail}
use Rattle.responses.specs.Responses.{refused_by}
use Rattle.responses.specs.Writing.{bytes_of}

-- The response to a packet that is refused; a request gets its own from the server.
abbrev pub refusal : BadPacket → List ℕ
refusal e = bytes_of (refused_by e.number e.command (cause_status e.cause) (unwrap_or (cause_detail e.cause) 0))

abbrev pub refusal_to : Result Request BadPacket → Option (List ℕ)
refusal_to (Ok r) = None
refusal_to (Err e) = Some (refusal e)

-- The packets as read, and the responses to those refused: mount 258 with one byte less and one more, no byte, and map 02 with command 05.
pub record WorkedExamples : Type 0 where
  pub numbers : WorkedNumbers
  pub packets : WorkedPackets
  pub less : refusal_to (request_in (0x1B ∷ 1 ∷ 2 ∷ 7 ∷ codes "ABC123")) ≡ Some (0x1F ∷ 1 ∷ 2 ∷ 7 ∷ 3 ∷ 1 ∷ 1 ∷ [])
  pub more : refusal_to (request_in (0x1B ∷ 1 ∷ 2 ∷ 7 ∷ codes "ABC123" ++ 5 ∷ 0 ∷ [])) ≡ Some (0x1F ∷ 1 ∷ 2 ∷ 7 ∷ 3 ∷ 2 ∷ 1 ∷ [])
  pub empty : refusal_to (request_in []) ≡ Some (0x1C ∷ 3 ∷ 1 ∷ 1 ∷ [])
  pub unnumbered : refusal_to (request_in (0x02 ∷ 0x05 ∷ [])) ≡ Some (0x3E ∷ 5 ∷ 3 ∷ 4 ∷ 1 ∷ 0 ∷ [])
