use Rattle.std.proofs.Common.{◌∙◌, ap, rules}
use Rattle.dcm_base.specs.Lines.Line.{means}
use Rattle.dcm_build.specs.LineShown.{step_of}
use Rattle.dcm_build.proofs.Files.Checks.{means_step}
use Rattle.dcm_build.proofs.file.NewFile.take_line.Goals as goal

pub returns-in-Step : goal.returns-in-Step
returns-in-Step g c = record {
  comes =
      λ at.
      means_step _ (step_of c.in-Step.step) _ _ _ _ _ c.take_step.result (c.in-Step.ensures ∙ ap means c.without_return.ensures) (c.take_step.ensures.comes at);
  failed = search rules;
}
