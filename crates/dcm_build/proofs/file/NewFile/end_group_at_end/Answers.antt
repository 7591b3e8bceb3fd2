use Rattle.std.proofs.Common.{◌∙◌, sym, rules}
use Rattle.dcm_build.proofs.Files.Checks.{ends_in_group, group_put, none_put}
use Rattle.dcm_build.proofs.file.NewFile.end_group_at_end.Goals as goal

pub returns-then-ends_group_at_end-clause-state : goal.returns-then-ends_group_at_end-clause-state
returns-then-ends_group_at_end-clause-state g c = ends_in_group c.end_group.result _ _ _ _ (sym c.ends_group_at_end.ensures ∙ c.if-ends_group_at_end.true) c.end_group.ensures.state

pub returns-then-ends_group_at_end-clause-wrote : goal.returns-then-ends_group_at_end-clause-wrote
returns-then-ends_group_at_end-clause-wrote g c = record { bytes = group_put c.end_group.result _ _ _ _ (sym c.ends_group_at_end.ensures ∙ c.if-ends_group_at_end.true) c.end_group.ensures.wrote.bytes; failed = search rules }

pub returns-clause-wrote : goal.returns-clause-wrote
returns-clause-wrote g c = record { bytes = none_put _ _ _ (sym c.ends_group_at_end.ensures ∙ c.if-ends_group_at_end.false); failed = search rules }
