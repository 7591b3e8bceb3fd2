use Rattle.dcm_editor.proofs.ReadBack.RecodeAnew.{recode_anew}
use Rattle.dcm_editor.proofs.laws.recode_anew.Goals as goal

pub returns : goal.returns
returns c = recode_anew
