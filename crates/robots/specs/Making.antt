-- What a robot of up to 256 places is made from: a list of its places, and what its hand holds.
use Rattle.std.specs.Prelude.{◌≡◌, ℕ, Bool, true, cond, not, ◌||◌, List, map, length, Some, None, Ok, Err, Option, Result, nat_le, nat_lt}
use Rattle.std.specs.List.{list_all}
use Rattle.labels.specs.Numbers.{unreadable_number}
use Rattle.robots.specs.declared.kind.Kind.{Kind}
use Rattle.robots.specs.declared.place.Place.{Place}
use Rattle.robots.specs.declared.making.Unmade.{Unmade}
use Rattle.robots.specs.declared.making.Unmade.TheVariants.{TooManyPlaces, BadNumber, NoMemory}
use Rattle.robots.specs.Meaning.{Meaning, asked, kind_of, held_at, serving}

-- An empty place in service.
abbrev pub empty_place : Kind → Place
empty_place k = record { kind = k; cartridge = 0; in_service = true }

-- The parts of a place.
abbrev pub place_kind : Place → Kind
place_kind x = x.kind

abbrev pub place_cartridge : Place → ℕ
place_cartridge x = x.cartridge

abbrev pub place_service : Place → Bool
place_service x = x.in_service

-- What a robot with these places and this hand means.
abbrev pub meaning_of : List Place → ℕ → Meaning
meaning_of xs hand = record { kinds = map place_kind xs; held = map place_cartridge xs; service = map place_service xs; hand = hand }

-- All that is known of the place p, if there is one.
abbrev pub place_asked : Meaning → ℕ → Option Place
place_asked m p = asked m p (record { kind = kind_of m p; cartridge = held_at m p; in_service = serving m p })

-- Each place holds a cartridge's number or 0.
abbrev pub numbers_fit : List Place → Bool
numbers_fit xs = list_all (λ x. nat_le x.cartridge unreadable_number) xs

-- Why no robot can be made, in the order in which it is tested.
abbrev pub making_refusal : List Place → ℕ → Option Unmade
making_refusal xs hand =
    cond (nat_lt 256 (length xs)) (Some TooManyPlaces)
    (cond (not (nat_le hand unreadable_number) || not (numbers_fit xs)) (Some BadNumber) None)

abbrev pub or_unmade : Option Unmade → Result (Unit {0}) Unmade
or_unmade None = Ok tt
or_unmade (Some why) = Err why

-- What making one answers: a robot that means just this, or why there is none; memory is asked for last.
abbrev pub Made : {R : Type 0} → (R → Meaning) → List Place → ℕ → Result R Unmade → Type 0
Made mean xs hand (Ok robot) = (making_refusal xs hand ≡ None) × (mean robot ≡ meaning_of xs hand)
Made mean xs hand (Err TooManyPlaces) = making_refusal xs hand ≡ Some TooManyPlaces
Made mean xs hand (Err BadNumber) = making_refusal xs hand ≡ Some BadNumber
Made mean xs hand (Err NoMemory) = making_refusal xs hand ≡ None
