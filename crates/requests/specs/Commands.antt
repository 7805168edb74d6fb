-- The commands: one row for each.
use Rattle.std.specs.Prelude.{ℕ, ◌+◌, ◌^◌, cond, List, [], ◌∷◌, Some, None, Option, Result, ◌==◌, ok_or}
use Rattle.requests.specs.declared.commands.Command.{Command}
use Rattle.requests.specs.declared.commands.Command.TheVariants as command
use Rattle.requests.specs.declared.commands.UnknownCommand.{UnknownCommand}

-- The map in which just these bits stand; bit 0 is worth 1.
abbrev pub map_of : List ℕ → ℕ
map_of [] = 0
map_of (i ∷ is) = 2 ^ i + map_of is

-- A command has a number, the bits that it needs, and those that it may have besides.
pub record Row : Type 0 where
  pub number : ℕ
  pub needed : ℕ
  pub permitted : ℕ

-- Every command needs bits 0 and 1, the request number and the command.
abbrev pub takes : ℕ → List ℕ → List ℕ → Row
takes n needs may = record { number = n; needed = map_of (0 ∷ 1 ∷ needs); permitted = map_of may }

-- The table. Bit 2 is the option, 3 the label, 4 the place, 5 the target request number, 6 the drive state.
abbrev pub row : Command → Row
row command.Cancel = takes 2 (5 ∷ []) []
row command.Dismount = takes 3 (3 ∷ 4 ∷ []) (2 ∷ [])
row command.Eject = takes 4 (3 ∷ []) []
row command.Enter = takes 5 [] []
row command.Idle = takes 6 [] (2 ∷ [])
row command.Mount = takes 7 (3 ∷ 4 ∷ []) []
row command.Query = takes 8 [] (3 ∷ [])
row command.Start = takes 9 [] []
row command.Vary = takes 10 (4 ∷ 6 ∷ []) []

-- The number of a command.
abbrev pub command_number : Command → ℕ
command_number c = (row c).number

-- The command c where n is its number, else what the other says.
abbrev pub or_else : ℕ → Command → Option Command → Option Command
or_else n c other = cond (n == command_number c) (Some c) other

-- The command with the number n, if there is one.
abbrev pub command_of : ℕ → Option Command
command_of n =
    (or_else n command.Cancel
    (or_else n command.Dismount
    (or_else n command.Eject
    (or_else n command.Enter
    (or_else n command.Idle
    (or_else n command.Mount
    (or_else n command.Query
    (or_else n command.Start
    (or_else n command.Vary None)))))))))

-- The same, with the number where it stands for none.
abbrev pub command_named : ℕ → Result Command UnknownCommand
command_named n = ok_or (command_of n) (record { code = n })
