-- A final: the request that it ends, and how.
use Rattle.std.specs.Prelude.{Some, None, Option}
use Rattle.requests.specs.declared.bodies.Request.{Request}
use Rattle.library.specs.declared.verdict.Final.{Final}
use Rattle.library.specs.Verdicts.{Ending, verdict_of}

pub record FinalFor : Type 0 where
  pub request : Request
  pub ending : Ending

abbrev pub final_of : Final → FinalFor
final_of f = record { request = f.request; ending = verdict_of f.verdict }

abbrev pub final_in : Option Final → Option FinalFor
final_in None = None
final_in (Some f) = Some (final_of f)
