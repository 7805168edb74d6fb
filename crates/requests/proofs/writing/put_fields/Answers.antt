use Rattle.std.proofs.Common.{◌≡◌, [], ◌∷◌, ◌++◌, append_assoc, arith, rules}
use Rattle.byte_fields.specs.Putting.{one_bytes, two_bytes, six_bytes}
use Rattle.byte_fields.proofs.Overs.{put_behind, wrote_new, wrote_same, wrote_front}
use Rattle.requests.specs.declared.taking.Fields.{Fields}
use Rattle.requests.specs.Writing.{packet_of}
use Rattle.requests.proofs.writing.put_fields.Goals as goal

-- The fields, written one behind another, are the packet.
joined : (f : Fields)
    → (((((((f.map ∷ []) ++ two_bytes f.number) ++ one_bytes f.command) ++ one_bytes f.option) ++ six_bytes f.label)
    ++ one_bytes f.place) ++ two_bytes f.target) ++ one_bytes f.drive_state ≡ packet_of f
unfolding packet_of
joined f = simp append_assoc

pub returns : goal.returns
returns c =
    let f = c.args.f in
    let r = c.requires in
    let z = c.new-writer.ensures.at in
    let b1 = c.put.ensures.bound in
    let b2 = c.put_field.ensures in
    let b3 = c.put_field-2.ensures in
    let b4 = c.put_field-3.ensures in
    let b5 = c.put_field-4.ensures in
    let b6 = c.put_field-5.ensures in
    let b7 = c.put_field-6.ensures in
    let b8 = c.put_field-7.ensures in
    let w0 = wrote_new c.new-writer.ensures.holds c.new-writer.ensures.at in
    let w1 = put_behind w0 (omega arith) c.put.ensures.put in
    let w2 = put_behind w1 (omega arith) b2.put in
    let w3 = put_behind w2 (omega arith) b3.put in
    let w4 = put_behind w3 (omega arith) b4.put in
    let w5 = put_behind w4 (omega arith) b5.put in
    let w6 = put_behind w5 (omega arith) b6.put in
    let w7 = put_behind w6 (omega arith) b7.put in
    let w8 = put_behind w7 (omega arith) b8.put in
    let w = wrote_front _ _ _ _ (wrote_same _ _ (joined f) w8) in
    let a = w.0 in
    let n = w.1 in
    record { after = search rules; end = search rules }
