use Rattle.std.proofs.Common.{arith, rules}
use Rattle.byte_fields.proofs.Overs.{put_behind, added_behind, wrote_new, wrote_same, wrote_front}
use Rattle.responses.specs.Responses.{told}
use Rattle.responses.proofs.Joining.{joined}
use Rattle.responses.proofs.Response.put.Goals as goal

pub returns : goal.returns
returns c =
    let r = c.requires in
    let z = c.new-writer.ensures.at in
    let b1 = c.put.ensures.bound in
    let b2 = c.put_field.ensures in
    let b3 = c.put_field-2.ensures in
    let b4 = c.put-2.ensures.bound in
    let b5 = c.put_field-3.ensures in
    let b6 = c.put_field-4.ensures in
    let w0 = wrote_new c.new-writer.ensures.holds c.new-writer.ensures.at in
    let w1 = put_behind w0 (omega arith) c.put.ensures.put in
    let w2 = put_behind w1 (omega arith) b2.put in
    let w3 = put_behind w2 (omega arith) b3.put in
    let w4 = put_behind w3 (omega arith) c.put-2.ensures.put in
    let w5 = put_behind w4 (omega arith) b5.put in
    let w6 = put_behind w5 (omega arith) b6.put in
    let w7 = added_behind (omega arith) w6 c.put_entries.ensures.added in
    let w8 = added_behind (omega arith) w7 c.put_inventory.ensures.added in
    let j = joined (told c.args.self.now) c.map.result c.from.result c.from-2.result c.layer_code.result c.map.ensures c.from.ensures c.from-2.ensures c.layer_code.ensures in
    let w = wrote_front _ _ _ _ (wrote_same _ _ j w8) in
    let a = w.0 in
    let n = w.1 in
    record { after = search rules; end = search rules; bound = search rules }
