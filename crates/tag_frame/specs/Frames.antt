-- What a tag frame means: its sites, what its table holds, and its hand.
use Rattle.std.specs.Prelude.{ℕ, List, map, vec_items}
use Rattle.robots.specs.Meaning.{Meaning}
use Rattle.tag_frame.specs.declared.frame.TagFrame.{TagFrame}
use Rattle.tag_frame.specs.declared.site.Site.{Site}
use Rattle.tag_frame.specs.Sites.{site_kind, site_service}
use Rattle.tag_frame.specs.Tables.{table_held}

-- What these sites mean, where the places hold this.
abbrev pub meant : List Site → List ℕ → ℕ → Meaning
meant ss held hand = record { kinds = map site_kind ss; held = held; service = map site_service ss; hand = hand }

abbrev pub frame_meaning : TagFrame → Meaning
frame_meaning f = meant (vec_items f.sites) (table_held f.table) f.hand
