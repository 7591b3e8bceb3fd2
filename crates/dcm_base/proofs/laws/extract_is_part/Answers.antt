use Rattle.dcm_base.proofs.Dictionaries.Parts.{extract_is_part}
use Rattle.dcm_base.proofs.laws.extract_is_part.Goals as goal

pub returns : goal.returns
returns c = extract_is_part
