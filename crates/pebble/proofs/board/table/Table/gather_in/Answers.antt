use Rattle.std.proofs.Common.{◌≡◌, Err, rules, arith}
use Rattle.sets.specs.Words.{members}
use Rattle.pebble.specs.Groups.{Reached}
use Rattle.pebble.specs.Moves.{Emptied}
use Rattle.pebble.proofs.Gathers.{same_then, fell_short}
use Rattle.pebble.proofs.board.table.Table.gather_in.Goals as goal

pub returns-in_err-map_err : goal.returns-in_err-map_err
returns-in_err-map_err c =
    let u = c.args.pair.u.0 in
    let v = c.args.pair.v.0 in
    let between = c.loop-empty.self.slots in
    let after = c.empty_one.new.self.slots in
    let short = c.in_err-map_err.field-0.0 in
    let is : c.from_residual.result ≡ Err short = search rules in
    let empty : short.empty ≡ c.loop-empty.empty-counter = search rules in
    let failed : (after ≡ between) × Reached 512 between u v (members short.reached) = search rules in
    rw is
    (fell_short c.args.self.now.slots between after u v c.args.wanted short.empty (members short.reached) c.loop-empty.invariant.0 failed.0 (omega arith) (omega arith) failed.1)

pub loop-empty-preserved : goal.loop-empty-preserved
loop-empty-preserved c =
    let done : Emptied c.loop-empty.self.slots c.args.pair.u.0 c.args.pair.v.0 c.empty_one.new.self.slots = search rules in
    (same_then _ c.loop-empty.self.slots _ c.loop-empty.invariant.0 done.same, omega (arith, done.more, c.loop-empty.invariant.1), omega arith, λ h. absurd (omega (arith, h)))
