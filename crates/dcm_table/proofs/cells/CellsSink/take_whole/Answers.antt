use Rattle.dcm_stream.specs.Tokens.{whole_atoms}
use Rattle.dcm_table.proofs.EachSlot.{kept_on}
use Rattle.dcm_table.proofs.cells.CellsSink.take_whole.Goals as goal

pub returns-clause-kept : goal.returns-clause-kept
returns-clause-kept c = kept_on (whole_atoms c.args.head c.args.syntax c.args.value.now) c.args.self.now c.go_on_whole.new.self c.go_on_whole.ensures
