use Rattle.std.proofs.Common.{◌≡◌, ◌≤◌, true, vec_items, vec_capacity, refl, ap, ◌∙◌, arith}
use Rattle.tag_frame.specs.Tags.{tidy, held_of}
use Rattle.tag_frame.specs.declared.tag.Tag.{Tag}
use Rattle.tag_frame.specs.Listed.{more_held, more_tidy, room_left}
use Rattle.tag_frame.proofs.table.Table.add.Goals as goal

pub push_reserved-requires : goal.push_reserved-requires
push_reserved-requires c =
    let s = c.args.self in
    omega (arith, s.room, s.tags.ok.0, room_left s.count s.tags.items c.args.p s.distinct c.requires.within c.requires.empty)

pub invariant_of-result : goal.invariant_of-result
invariant_of-result c =
    let s = c.args.self in
    let t : Tag = record { number = c.args.number; place = c.args.p } in
    let v = c.push_reserved.new.self in
    let a : tidy s.count (vec_items v) ≡ true = ap (tidy s.count) c.push_reserved.ensures.items ∙ more_tidy s.count s.tags.items t s.distinct c.requires.within c.requires.empty c.requires.some c.requires.numbered in
    let b : s.count ≤ vec_capacity v = omega (arith, s.room, c.push_reserved.ensures.capacity) in
    record { distinct = a; room = b }

pub returns : goal.returns
returns c =
    let s = c.args.self in
    let t : Tag = record { number = c.args.number; place = c.args.p } in
    record { held = ap (held_of s.count) c.push_reserved.ensures.items ∙ more_held s.count s.tags.items t s.distinct c.requires.empty; count = refl }
