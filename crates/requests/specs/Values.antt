-- What a packet is written from.
use Rattle.std.specs.Prelude.{ℕ, ◌+◌, Bool, true, false, cond, is_some, Some, None, Option}
use Rattle.std.specs.Option.{unwrap_or}
use Rattle.byte_fields.specs.Taking.{has_bit}
use Rattle.labels.specs.declared.Label.{Label}
use Rattle.requests.specs.declared.bodies.Body.{Body}
use Rattle.requests.specs.declared.bodies.Body.TheVariants as body
use Rattle.requests.specs.declared.bodies.Request.{Request}
use Rattle.requests.specs.declared.taking.Fields.{Fields}
use Rattle.requests.specs.declared.values.Values.{Values}
use Rattle.requests.specs.Commands.{row, command_number}
use Rattle.requests.specs.Bodies.{command_in, setting_number}
use Rattle.requests.specs.Taking.{held}
use Rattle.requests.specs.Checking.{no_label}

-- The value, if its bit stands.
abbrev pub when : {X : Type 0} → Bool → X → Option X
when true x = Some x
when false x = None

-- The fields of a packet with the map m: of the values, those whose bits stand.
abbrev pub fields_of : ℕ → Values → Fields
fields_of m v =
    held m (when (has_bit m 1) v.number) (when (has_bit m 2) v.command) (when (has_bit m 4) v.option) (when (has_bit m 8) v.label)
    (when (has_bit m 16) v.place) (when (has_bit m 32) v.target) (when (has_bit m 64) v.drive_state)

-- The map that a request is sent with: the bits that its command needs, that of the option if it forces, and that of the label of a query.
abbrev pub map_in : Body → ℕ
map_in (body.Cancel t) = (row (command_in (body.Cancel t))).needed
map_in (body.Dismount l p force) = (row (command_in (body.Dismount l p force))).needed + cond force 4 0
map_in (body.Eject l) = (row (command_in (body.Eject l))).needed
map_in body.Enter = (row (command_in body.Enter)).needed
map_in (body.Idle force) = (row (command_in (body.Idle force))).needed + cond force 4 0
map_in (body.Mount l p) = (row (command_in (body.Mount l p))).needed
map_in (body.Query l) = (row (command_in (body.Query l))).needed + cond (is_some l) 8 0
map_in body.Start = (row (command_in body.Start)).needed
map_in (body.Vary p s) = (row (command_in (body.Vary p s))).needed

-- The values of a request with the number n and the command c: a label, a place, a target and a drive state. Its option is force.
abbrev pub valued : ℕ → ℕ → Label → ℕ → ℕ → ℕ → Values
valued n c l p t d = record { number = n; command = c; option = 1; label = l.chars; place = p; target = t; drive_state = d }

-- The values that a request with the number n is sent with; 0 and no label where its body has none.
abbrev pub values_in : ℕ → ℕ → Body → Values
values_in n c (body.Cancel t) = valued n c no_label 0 t 0
values_in n c (body.Dismount l p force) = valued n c l p 0 0
values_in n c (body.Eject l) = valued n c l 0 0 0
values_in n c body.Enter = valued n c no_label 0 0 0
values_in n c (body.Idle force) = valued n c no_label 0 0 0
values_in n c (body.Mount l p) = valued n c l p 0 0
values_in n c (body.Query l) = valued n c (unwrap_or l no_label) 0 0 0
values_in n c body.Start = valued n c no_label 0 0 0
values_in n c (body.Vary p s) = valued n c no_label p 0 (setting_number s)

abbrev pub map_for : Request → ℕ
map_for r = map_in r.body

abbrev pub values_for : Request → Values
values_for r = values_in r.number (command_number (command_in r.body)) r.body

-- The fields that a request is sent in.
abbrev pub fields_for : Request → Fields
fields_for r = fields_of (map_for r) (values_for r)
