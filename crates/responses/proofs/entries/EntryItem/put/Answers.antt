use Rattle.std.proofs.Common.{◌≡◌, ◌++◌, length, arith, rules}
use Rattle.byte_fields.proofs.Overs.{put_added, added_then, added_same, added_length}
use Rattle.responses.specs.Entries.{entry_bytes}
use Rattle.responses.proofs.entries.EntryItem.put.Goals as goal

pub returns-clause-added : goal.returns-clause-added
returns-clause-added c =
    let r = c.requires in
    let s = c.six_for.ensures.is in
    let t = c.behind_label.ensures in
    let b : c.six_for.result ++ c.behind_label.result ≡ entry_bytes c.args.self = cc in
    let n : length c.six_for.result ≡ 6 = search rules in
    let m : length c.behind_label.result ≡ 3 = search rules in
    let v = put_added (omega arith) c.put.ensures.put in
    let k = added_length v (omega arith) in
    let e = v.wrote.end in
    added_same _ _ b (added_then v (put_added (omega arith) c.put-2.ensures.put))
