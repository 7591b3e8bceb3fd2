use Rattle.dcm_base.proofs.Dictionaries.Entries.{elements_ascend}
use Rattle.dcm_base.proofs.Dictionaries.Parts.{groups_are_even}
use Rattle.dcm_base.proofs.laws.elements_ascend.Goals as goal

pub returns : goal.returns
returns c = record { ascend = elements_ascend; even = groups_are_even }
