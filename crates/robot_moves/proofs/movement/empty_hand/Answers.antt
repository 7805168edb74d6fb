use Rattle.robot_moves.proofs.Moving.{free_fits, hand_emptied_holds}
use Rattle.robot_moves.proofs.movement.empty_hand.Goals as goal

pub set_found-requires : goal.set_found-requires
set_found-requires g c =
    free_fits (g.R.Questions.meaning c.args.robot.now) c.args.p c.in-Some-next_free_cell.to c.in-Some.token c.in-Some.ensures c.in-Some-next_free_cell.ensures

pub returns : goal.returns
returns g c =
    let w = hand_emptied_holds (g.R.Questions.meaning c.args.robot.now) (g.R.Questions.meaning c.set_found.new.robot) c.args.p c.in-Some-next_free_cell.to c.in-Some.token
    (g.met.R.Questions.sound c.args.robot.now) c.in-Some.ensures c.in-Some-next_free_cell.ensures c.set_found.ensures in
    record { answer = w.0; after = w.1; kept = w.2 }
