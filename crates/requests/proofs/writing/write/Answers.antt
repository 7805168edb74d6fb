use Rattle.std.proofs.Common.{◌≡◌, length, rules}
use Rattle.byte_fields.specs.Taking.{has_bit}
use Rattle.requests.specs.Values.{fields_of}
use Rattle.requests.proofs.Back.{given_stands, given_six, written_back}
use Rattle.requests.proofs.writing.write.Goals as goal

pub returns-clause-reads : goal.returns-clause-reads
returns-clause-reads c =
    let m = c.args.map in
    let v = c.args.values in
    let six : length v.label ≡ 6 = search rules in
    written_back c.fields_of-fields.result (fields_of m v) c.args.buffer.now c.put_fields.new.buffer c.put_fields.result c.in_ok-pass_fields.field-0 c.fields_of-fields.ensures
    c.in_ok-pass_fields.ensures c.put_fields.ensures.after c.put_fields.ensures.end (given_stands m v c.ranges.map.fits) (given_six (has_bit m 8) v.label six)
