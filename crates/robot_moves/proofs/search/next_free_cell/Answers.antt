use Rattle.std.proofs.Common.{◌+◌, rules}
use Rattle.std.proofs.lemmas.List.Folds.{find-append}
use Rattle.robots.specs.Meaning.{count}
use Rattle.robot_moves.specs.declared.search.Wanted.TheVariants.{FreeCell}
use Rattle.robot_moves.specs.Search.{passes, up_to}
use Rattle.robot_moves.proofs.Places.{from_past}
use Rattle.robot_moves.proofs.search.next_free_cell.Goals as goal

pub returns-then-p-n : goal.returns-then-p-n
returns-then-p-n g c =
    let k = from_past (g.Q.Questions.meaning c.args.robot.now) c.args.p in search rules

pub returns : goal.returns
returns g c =
    let m = g.Q.Questions.meaning c.args.robot.now in
    rw (find-append (passes FreeCell m) (up_to (c.args.p + 1) (count m)) (up_to 0 (c.args.p + 1))) (search rules)
