-- What the places of a table hold.
use Rattle.std.specs.Prelude.{ℕ, List, vec_items}
use Rattle.tag_frame.specs.declared.table.Table.{Table}
use Rattle.tag_frame.specs.Tags.{held_of}

abbrev pub table_held : Table → List ℕ
table_held t = held_of t.count (vec_items t.tags)
