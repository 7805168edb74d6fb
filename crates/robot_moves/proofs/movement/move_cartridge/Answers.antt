use Rattle.std.proofs.Common.{rules}
use Rattle.robot_moves.proofs.Moving.{no_target_fits, no_target, refused_fits, set_refused, movement_keeps}
use Rattle.robot_moves.proofs.movement.move_cartridge.Goals as goal

pub put_back-requires : goal.put_back-requires
put_back-requires g c =
    no_target_fits (g.R.Questions.meaning c.args.robot.now) (g.R.Questions.meaning c.lift.new.robot) c.args.from
    c.in_ok-slip.slip (g.met.R.Questions.sound c.args.robot.now) c.in_ok-slip.ensures.answer c.lift.ensures.after

pub returns-in_default : goal.returns-in_default
returns-in_default g c =
    let m = g.R.Questions.meaning c.args.robot.now in
    let n = g.R.Questions.meaning c.put_back.new.robot in
    let w = no_target m (g.R.Questions.meaning c.lift.new.robot) n c.args.from c.args.target c.in_ok-slip.slip
    c.in_ok-slip.ensures.answer c.lift.ensures.after c.in_default.ensures c.put_back.ensures in
    record { answer = w.0; after = w.1; kept = movement_keeps m n c.args.from c.args.target (g.met.R.Questions.sound c.args.robot.now) w.1 }

pub put_back-requires-in-Err : goal.put_back-requires-in-Err
put_back-requires-in-Err g c =
    refused_fits (g.R.Questions.meaning c.args.robot.now) (g.R.Questions.meaning c.lift.new.robot) (g.R.Questions.meaning c.set.new.robot)
    c.args.from c.in-Some.to c.in_ok-slip.slip c.in-Err.slip c.in-Err.fault (g.met.R.Questions.sound c.args.robot.now)
    c.in_ok-slip.ensures.answer c.lift.ensures.after c.in-Err.ensures.answer c.set.ensures.after

pub returns-in-Err : goal.returns-in-Err
returns-in-Err g c =
    let m = g.R.Questions.meaning c.args.robot.now in
    let n = g.R.Questions.meaning c.put_back-in-Err.new.robot in
    let w = set_refused m (g.R.Questions.meaning c.lift.new.robot) (g.R.Questions.meaning c.set.new.robot) n
    c.args.from c.in-Some.to c.args.target c.in_ok-slip.slip c.in-Err.slip c.in-Err.fault
    c.in_ok-slip.ensures.answer c.lift.ensures.after c.in-Some.ensures c.in-Err.ensures.answer c.set.ensures.after c.put_back-in-Err.ensures in
    record { answer = w.0; after = w.1; kept = movement_keeps m n c.args.from c.args.target (g.met.R.Questions.sound c.args.robot.now) w.1 }

pub returns-in_err-slip-clause-kept : goal.returns-in_err-slip-clause-kept
returns-in_err-slip-clause-kept g c =
    movement_keeps (g.R.Questions.meaning c.args.robot.now) (g.R.Questions.meaning c.lift.new.robot) c.args.from c.args.target (g.met.R.Questions.sound c.args.robot.now) (search rules)

pub returns-in-Ok-clause-kept : goal.returns-in-Ok-clause-kept
returns-in-Ok-clause-kept g c =
    movement_keeps (g.R.Questions.meaning c.args.robot.now) (g.R.Questions.meaning c.set.new.robot) c.args.from c.args.target (g.met.R.Questions.sound c.args.robot.now) (search rules)
