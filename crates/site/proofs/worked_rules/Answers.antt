use Rattle.site.proofs.Sessions.{received_short, received_enough, stepped_short, stepped_enough, frame_starts, frame_refused, bench_session, bench_acknowledged, bench_answered, bench_started, bench_told}
use Rattle.site.proofs.worked_rules.Goals as goal

pub returns : goal.returns
returns c =
    record {
      examples = c.worked_examples.ensures;
      receive_short = received_short;
      receive_enough = received_enough;
      step_short = stepped_short;
      step_enough = stepped_enough;
      starts = frame_starts;
      refuses = frame_refused;
      session = bench_session;
      all_acknowledged = bench_acknowledged;
      all_answered = bench_answered;
      has_started = bench_started;
      told_drive = bench_told;
    }
