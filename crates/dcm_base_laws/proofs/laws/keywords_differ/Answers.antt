use Rattle.dcm_base_laws.proofs.Dictionaries.Unique.{keywords_differ}
use Rattle.dcm_base_laws.proofs.laws.keywords_differ.Goals as goal

pub returns : goal.returns
returns c = keywords_differ
