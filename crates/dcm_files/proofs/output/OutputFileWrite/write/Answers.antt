use Rattle.std.proofs.Common.{rules, subst}
use Rattle.dcm_files.specs.Output.{Begins, not_begun, begun}
use Rattle.dcm_files.proofs.output.OutputFileWrite.write.Goals as goal

pub returns-in_err-begin-clause-written : goal.returns-in_err-begin-clause-written
returns-in_err-begin-clause-written g c =
    not_begun c.in_err-begin.field-0.0
    (subst (λ r. Begins g.F.Target.may_do c.args.self.now c.begin.new.self r) (search rules) c.begin.ensures.begins) (search rules)

pub returns-clause-written : goal.returns-clause-written
returns-clause-written g c = begun c.begin.new.self (search rules) (search rules) (search rules)
