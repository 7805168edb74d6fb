use Rattle.robots.proofs.Conserving.{conserves}
use Rattle.robots.proofs.act.perform.Goals as goal

pub returns-clause-kept : goal.returns-clause-kept
returns-clause-kept g c =
    let m = g.R.Questions.meaning c.args.robot.now in
    let n = g.R.Questions.meaning c.call.new.robot in
    conserves m n c.args.act c.call.result (g.met.R.Questions.sound c.args.robot.now) c.call.ensures.answer c.call.ensures.after
