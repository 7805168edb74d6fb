use Rattle.tag_frame.specs.Tables.{table_held}
use Rattle.tag_frame.proofs.Fitted.{turned}
use Rattle.tag_frame.proofs.frame.acts.TagFrameKeeper.turn.Goals as goal

pub returns : goal.returns
returns c =
    let f = c.args.self.now in
    turned f.sites.items (table_held f.table) f.hand c.args.p c.index_mut.result.now c.args.on c.index_mut.ensures.value
