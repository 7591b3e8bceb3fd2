use Rattle.dcm_editor.proofs.Masks.Bits.{set_same, set_other}
use Rattle.dcm_editor.proofs.mask.with_bit.Goals as goal

pub returns-clause-same : goal.returns-clause-same
returns-clause-same c = set_same c.args.mask c.args.place c.requires

pub returns-clause-others : goal.returns-clause-others
returns-clause-others c = λ k other. set_other c.args.mask c.args.place k c.requires other
