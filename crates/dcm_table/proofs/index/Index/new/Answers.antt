use Rattle.std.proofs.Common.{arith}
use Rattle.dcm_table.proofs.Indexed.{indexed_more}
use Rattle.dcm_table.proofs.index.Index.new.Goals as goal

pub loop-column-preserved : goal.loop-column-preserved
loop-column-preserved c =
    indexed_more c.loop-column.index c.add.new.self c.args.slots.now c.loop-column.column c.index-slots-column.result (omega (arith, c.loop-column-test.true)) c.add.ensures c.loop-column.invariant
