use Rattle.std.proofs.Common.{List, Option, sym, ap, arith, Bor}
use Rattle.byte_fields.proofs.Overs.{put_added, added_then, added_same}
use Rattle.responses.specs.declared.Entry.{Entry}
use Rattle.responses.specs.Responses.{listed}
use Rattle.responses.specs.Entries.{entries_bytes}
use Rattle.responses.proofs.entries.put_entries.Goals as goal

pub returns-in-Some-clause-added : goal.returns-in-Some-clause-added
returns-in-Some-clause-added c =
    let room = c.requires.room in
    added_same _ _ (ap (λ (o : Option (Bor (List Entry))). entries_bytes (listed o)) (sym c.in-Some.is)) (added_then (put_added (omega arith) c.put.ensures.put) c.put_all.ensures.added)
