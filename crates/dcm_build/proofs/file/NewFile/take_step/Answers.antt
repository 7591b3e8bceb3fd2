use Rattle.std.proofs.Common.{sym, None, rules}
use Rattle.dcm_build.specs.LineShown.{step_of}
use Rattle.dcm_build.specs.NewFile.{state}
use Rattle.dcm_build.proofs.Files.Checks.{shown_after, failed_shown}
use Rattle.dcm_build.proofs.file.NewFile.take_step.Goals as goal

pub returns : goal.returns
returns g c = record {
  comes =
      λ at.
      shown_after (step_of c.args.step) _ _ _ _ _ _ _ _ _ _ c.check_and_add.result (sym c.in_default.ensures) (c.in_ok-end_group_before.ensures.state at) (c.in_ok-end_group_before.ensures.state at) c.in_ok-end_group_before.ensures.wrote.bytes (c.check_and_add.ensures.comes at);
  failed = search rules;
}

pub returns-in_err-end_group_before : goal.returns-in_err-end_group_before
returns-in_err-end_group_before g c = record {
  comes =
      λ at.
      failed_shown _ (state c.args.self.now at None) _ _ _ _ _ _ c.from_residual.result (sym c.in_default.ensures) c.from_residual.ensures.1 c.in_err-end_group_before.ensures.wrote.bytes;
  failed = search rules;
}
