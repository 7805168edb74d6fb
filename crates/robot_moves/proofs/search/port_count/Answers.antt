use Rattle.std.proofs.Common.{◌∙◌}
use Rattle.robots.specs.Meaning.{count}
use Rattle.robot_moves.specs.Search.{up_to}
use Rattle.robot_moves.proofs.Places.{ports_counted}
use Rattle.robot_moves.proofs.search.port_count.Goals as goal

pub returns : goal.returns
returns g c =
    let m = g.Q.Questions.meaning c.args.robot.now in
    c.count_of.ensures ∙ ports_counted m (up_to 0 (count m))
