use Rattle.std.proofs.Common.{rules, refl}
use Rattle.dcm_files.specs.Output.{unknown, not_emptied}
use Rattle.dcm_files.proofs.output.OutputFile.begin.Goals as goal

pub returns-in_err-holds_bytes-clause-begins : goal.returns-in_err-holds_bytes-clause-begins
returns-in_err-holds_bytes-clause-begins g c = unknown c.in_err-holds_bytes.field-0.0 (search rules) (search rules) refl (search rules)

pub returns-in_err-empty-clause-begins : goal.returns-in_err-empty-clause-begins
returns-in_err-empty-clause-begins g c = not_emptied c.in_err-empty.field-0.0 (search rules) (search rules) (search rules) (search rules) (search rules)
