-- A frame's sites, changed at one place, and those of places.
use Rattle.std.proofs.Common.{◌≡◌, ℕ, Bool, List, [], ◌∷◌, map, get_or, set, refl, ap, ◌∙◌}
use Rattle.std.proofs.lemmas.List.{map-set}
use Rattle.std.proofs.Math.Seq.{map-set_same}
use Rattle.robots.specs.declared.place.Place.{Place}
use Rattle.robots.specs.Acts.{with_service}
use Rattle.robots.specs.Making.{place_kind, place_service, place_cartridge, meaning_of}
use Rattle.tag_frame.specs.declared.site.Site.{Site}
use Rattle.tag_frame.specs.Frames.{meant}
use Rattle.tag_frame.specs.Sites.{site_of, site_kind, site_service}

-- Here s is what stands at p.
pub turned : (ss : List Site) (held : List ℕ) (hand p : ℕ) (s : Site) (o : Bool) → s ≡ get_or ss p s → meant (set ss p (record { kind = s.kind; in_service = o })) held hand ≡ with_service (meant ss held hand) p o
turned ss held hand p s o q =
    let y : Site = record { kind = s.kind; in_service = o } in
    simp (map-set_same site_kind ss p y s (ap site_kind q), map-set site_service ss p y)

-- What a frame means that is made from places.
kinds_of : (xs : List Place) → map site_kind (map site_of xs) ≡ map place_kind xs
kinds_of [] = refl
kinds_of (x ∷ xs) = ap (λ z. x.kind ∷ z) (kinds_of xs)

service_of : (xs : List Place) → map site_service (map site_of xs) ≡ map place_service xs
service_of [] = refl
service_of (x ∷ xs) = ap (λ z. x.in_service ∷ z) (service_of xs)

pub meant_of : (ss : List Site) (held : List ℕ) (hand : ℕ) (xs : List Place) → ss ≡ map site_of xs → held ≡ map place_cartridge xs → meant ss held hand ≡ meaning_of xs hand
meant_of ss held hand xs e h =
    let a = ap (map site_kind) e ∙ kinds_of xs in
    let b = ap (map site_service) e ∙ service_of xs in
    simp (a, b, h)
