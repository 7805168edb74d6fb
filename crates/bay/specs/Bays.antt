-- What a bay means: its places and its hand, as they stand.
use Rattle.std.specs.Prelude.{vec_items}
use Rattle.bay.specs.declared.bay.Bay.{Bay}
use Rattle.robots.specs.Meaning.{Meaning}
use Rattle.robots.specs.Making.{meaning_of}

abbrev pub bay_meaning : Bay → Meaning
bay_meaning b = meaning_of (vec_items b.places) b.hand
