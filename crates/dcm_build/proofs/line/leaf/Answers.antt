use Rattle.dcm_base.specs.Lines.Line as spec
use Rattle.dcm_base.specs.Lines.ReadValue.{value_of_text}
use Rattle.dcm_build.proofs.Lines.Steps.{shows_value, shows_none}
use Rattle.dcm_build.proofs.line.leaf.Goals as goal

pub returns-in-Some : goal.returns-in-Some
returns-in-Some c = shows_value (λ v. spec.show_leaf c.args.tag c.args.vr (value_of_text c.args.vr v)) c.args.bytes.now c.in-Some.text.now c.in-Some.ensures

pub returns-in-None : goal.returns-in-None
returns-in-None c = shows_none (λ v. spec.show_leaf c.args.tag c.args.vr (value_of_text c.args.vr v)) c.args.bytes.now c.in-None.ensures
