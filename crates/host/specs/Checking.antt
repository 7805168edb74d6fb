-- What C is told of a packet.
use Rattle.std.specs.Prelude.{ℕ, is_some, None, Ok, Err, Option, Result}
use Rattle.std.specs.Option.{unwrap_or}
use Rattle.statuses.specs.declared.Status.{Status}
use Rattle.statuses.specs.declared.Status.TheVariants as status
use Rattle.statuses.specs.Statuses.{status_number}
use Rattle.requests.specs.declared.bodies.Request.{Request}
use Rattle.requests.specs.declared.inspecting.Outline.{Outline}
use Rattle.requests.specs.declared.refusals.BadPacket.{BadPacket}
use Rattle.requests.specs.declared.refusals.Cause.{Cause}
use Rattle.requests.specs.Inspecting.{outlined}
use Rattle.requests.specs.Refusals.{cause_status, cause_detail}
use Rattle.host.specs.declared.checking.Checked.{Checked}

-- A status with a detail, a number and a command, each with whether it is there; what is not there is told as 0.
abbrev pub telling : Status → Option ℕ → Option ℕ → Option ℕ → Checked
telling s d n c =
    record {
      status = status_number s;
      has_detail = is_some d;
      detail = unwrap_or d 0;
      has_number = is_some n;
      number = unwrap_or n 0;
      has_command = is_some c;
      command = unwrap_or c 0;
    }

-- By the fault: 0 where there is none, else the status of the cause, with the detail where there is one.
abbrev pub told_by : Result (Unit {0}) Cause → Option ℕ → Option ℕ → Checked
told_by (Ok u) n c = telling status.Success None n c
told_by (Err e) n c = telling (cause_status e) (cause_detail e) n c

abbrev pub told : Outline → Checked
told o = told_by o.fault o.number o.command

-- Of a request, its number and the number of its command; of a refused packet, both where they could be read.
abbrev pub told_of : Result Request BadPacket → Checked
told_of r = told (outlined r)
