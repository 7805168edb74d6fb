-- What C is told of a packet that was to be written.
use Rattle.std.specs.Prelude.{◌≡◌, ℕ, List, take, Some, None, Ok, Err, Result}
use Rattle.statuses.specs.declared.Status.TheVariants as status
use Rattle.statuses.specs.Statuses.{status_number}
use Rattle.requests.specs.declared.values.Values.{Values}
use Rattle.requests.specs.declared.writing.Unwritable.{Unwritable}
use Rattle.requests.specs.Reading.{request_in}
use Rattle.requests.specs.Writing.{unwritable_status}
use Rattle.host.specs.declared.writing.Written.{Written}
use Rattle.host.specs.Checking as checking
use Rattle.host.specs.Checking.{telling}

-- Written, the length; not written, the status that says why.
abbrev pub told_of : Result ℕ Unwritable → Written
told_of (Ok n) = record { status = status_number status.Success; length = n }
told_of (Err e) = record { status = status_number (unwritable_status e); length = 0 }

-- The values given: number, command, option, label, place, target and drive state.
abbrev pub values_of : ℕ → ℕ → ℕ → List ℕ → ℕ → ℕ → ℕ → Values
values_of n c o l p t d = record { number = n; command = c; option = o; label = l; place = p; target = t; drive_state = d }

-- What was written is checked as a request with the number n and the command c.
abbrev pub Passes : Written → List ℕ → ℕ → ℕ → Type 0
Passes w xs n c = w.status ≡ status_number status.Success → checking.told_of (request_in (take w.length xs)) ≡ telling status.Success None (Some n) (Some c)
