use Rattle.dcm_named.proofs.NamedReads.{shown_named}
use Rattle.dcm_named.proofs.laws.named_steps.Goals as goal

pub returns : goal.returns
returns c = shown_named
