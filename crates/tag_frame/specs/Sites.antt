-- A place without what it holds.
use Rattle.std.specs.Prelude.{Bool}
use Rattle.robots.specs.declared.kind.Kind.{Kind}
use Rattle.robots.specs.declared.place.Place.{Place}
use Rattle.tag_frame.specs.declared.site.Site.{Site}

-- The site of a place.
abbrev pub site_of : Place → Site
site_of x = record { kind = x.kind; in_service = x.in_service }

-- The parts of a site.
abbrev pub site_kind : Site → Kind
site_kind s = s.kind

abbrev pub site_service : Site → Bool
site_service s = s.in_service
