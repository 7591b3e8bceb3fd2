use Rattle.std.proofs.Common.{◌∙◌, sym, rules}
use Rattle.dcm_build.proofs.Files.Checks.{none_written, in_set}
use Rattle.dcm_build.proofs.file.NewFile.add.Goals as goal

pub returns-then-is_meta-clause-wrote : goal.returns-then-is_meta-clause-wrote
returns-then-is_meta-clause-wrote g c = record { bytes = none_written _ _ _ (sym c.is_meta.ensures ∙ c.if-is_meta.true); failed = search rules }

pub returns-clause-state : goal.returns-clause-state
returns-clause-state g c = in_set c.add_to_set.result _ _ _ _ (sym c.is_meta.ensures ∙ c.if-is_meta.false) c.add_to_set.ensures.state
