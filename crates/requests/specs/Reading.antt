-- What a packet reads as.
use Rattle.std.specs.Prelude.{ℕ, List, Ok, Err, Result}
use Rattle.requests.specs.declared.bodies.Request.{Request}
use Rattle.requests.specs.declared.refusals.BadPacket.{BadPacket}
use Rattle.requests.specs.declared.refusals.Cause.{Cause}
use Rattle.requests.specs.declared.refusals.Cause.TheVariants as cause
use Rattle.requests.specs.declared.taking.Ending.{Ending}
use Rattle.requests.specs.declared.taking.Ending.TheVariants.{Short, Exact, Long}
use Rattle.requests.specs.declared.taking.Fields.{Fields}
use Rattle.requests.specs.declared.taking.Taken.{Taken}
use Rattle.requests.specs.Taking.{taken}
use Rattle.requests.specs.Checking.{checked}

-- The fields of a packet of the right length.
abbrev pub whole_by : Ending → Fields → Result Fields Cause
whole_by Short f = Err cause.Short
whole_by Long f = Err cause.Long
whole_by Exact f = Ok f

-- The same of a packet taken apart.
abbrev pub whole : Taken → Result Fields Cause
whole t = whole_by t.ending t.fields

-- The packet's length comes before all else.
abbrev pub judged_by : Ending → Fields → Result Request Cause
judged_by Short f = Err cause.Short
judged_by Long f = Err cause.Long
judged_by Exact f = checked f

abbrev pub judged : Taken → Result Request Cause
judged t = judged_by t.ending t.fields

-- A refusal tells the number and the command where they could be read.
abbrev pub refused : Fields → Cause → BadPacket
refused f e = record { cause = e; number = f.number; command = f.command }

abbrev pub answered_by : Fields → Result Request Cause → Result Request BadPacket
answered_by f (Ok r) = Ok r
answered_by f (Err e) = Err (refused f e)

abbrev pub answered : Taken → Result Request BadPacket
answered t = answered_by t.fields (judged t)

-- The request in a packet, or its refusal.
abbrev pub request_in : List ℕ → Result Request BadPacket
request_in p = answered (taken p)
