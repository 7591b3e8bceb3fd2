use Rattle.std.proofs.Common.{◌∙◌, ap, sym}
use Rattle.dcm_base.specs.Lines.Build.{lacks_value}
use Rattle.dcm_build.specs.declared.line.Step.{Step}
use Rattle.dcm_build.specs.LineShown.{step_of}
use Rattle.dcm_build.proofs.Lines.Forms.{leaf_has_form}
use Rattle.dcm_build.proofs.file.NewFile.add_to_group.Goals as goal

pub push-requires-clause-form : goal.push-requires-clause-form
push-requires-clause-form c = leaf_has_form c.in-Leaf.tag c.in-Leaf.vr c.in-Leaf.field-2.now _ (ap (λ (s : Step). lacks_value (step_of s)) (sym c.in-Leaf.is) ∙ c.requires.valued)
