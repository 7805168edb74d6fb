-- Bodies of requests.
use Rattle.std.specs.Prelude.{ℕ, cond, Some, None, Option, Result, ◌==◌, ok_or}
use Rattle.requests.specs.declared.commands.Command.{Command}
use Rattle.requests.specs.declared.commands.Command.TheVariants as command
use Rattle.requests.specs.declared.bodies.Body.{Body}
use Rattle.requests.specs.declared.bodies.Body.TheVariants as body
use Rattle.requests.specs.declared.bodies.DriveSetting.{DriveSetting}
use Rattle.requests.specs.declared.bodies.DriveSetting.TheVariants.{Online, Offline}
use Rattle.requests.specs.declared.bodies.UnknownSetting.{UnknownSetting}

-- The number of a drive setting.
abbrev pub setting_number : DriveSetting → ℕ
setting_number Online = 1
setting_number Offline = 2

-- The setting with the number n, if there is one.
abbrev pub setting_of : ℕ → Option DriveSetting
setting_of n = cond (n == setting_number Online) (Some Online) (cond (n == setting_number Offline) (Some Offline) None)

-- The same, with the number where it stands for none.
abbrev pub setting_named : ℕ → Result DriveSetting UnknownSetting
setting_named n = ok_or (setting_of n) (record { code = n })

-- The command that a body is of.
abbrev pub command_in : Body → Command
command_in (body.Cancel target) = command.Cancel
command_in (body.Dismount label drive force) = command.Dismount
command_in (body.Eject label) = command.Eject
command_in body.Enter = command.Enter
command_in (body.Idle force) = command.Idle
command_in (body.Mount label drive) = command.Mount
command_in (body.Query label) = command.Query
command_in body.Start = command.Start
command_in (body.Vary drive setting) = command.Vary
