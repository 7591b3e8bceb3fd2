use Rattle.std.proofs.Common.{refl}
use Rattle.dcm_text.specs.Sets.{sets_of, terms}
use Rattle.dcm_sinks.proofs.character_set.default_sets.Goals as goal

pub returns : goal.returns
unfolding sets_of terms
returns c = refl
