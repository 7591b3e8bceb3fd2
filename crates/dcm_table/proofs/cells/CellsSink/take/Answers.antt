use Rattle.dcm_stream.specs.Tokens.{atoms_of}
use Rattle.dcm_table.proofs.EachSlot.{kept_on}
use Rattle.dcm_table.proofs.cells.CellsSink.take.Goals as goal

pub returns-clause-kept : goal.returns-clause-kept
returns-clause-kept c = kept_on (atoms_of c.args.token) c.args.self.now c.go_on.new.self c.go_on.ensures
