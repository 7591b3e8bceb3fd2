use Rattle.std.proofs.Common.{sym, subst}
use Rattle.dcm_stream.specs.Machine.{Stands}
use Rattle.dcm_stream.proofs.Runs.StaysSmall.{start_stands}
use Rattle.dcm_stream.proofs.machine.Machine.new.Goals as goal

pub invariant_of-result : goal.invariant_of-result
invariant_of-result c = λ none. subst Stands (sym c.new.ensures) (start_stands c.args.coding.syntax c.args.start c.requires)
