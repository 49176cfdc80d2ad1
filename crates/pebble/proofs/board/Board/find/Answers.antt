use Rattle.std.proofs.Common.{◌∙◌}
use Rattle.pebble.proofs.Tables.{found}
use Rattle.pebble.proofs.board.Board.find.Goals as goal

pub returns-clause-value : goal.returns-clause-value
returns-clause-value c =
    let b = c.args.self.now in
    c.first_with.ensures ∙ found b.joints c.args.bar.0 b.table.slots b.few b.table.whole b.table.ends b.apart
