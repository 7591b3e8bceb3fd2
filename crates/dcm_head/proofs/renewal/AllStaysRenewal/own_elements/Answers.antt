use Rattle.std.proofs.Common.{refl, arith}
use Rattle.dcm_base.specs.Conversion.Recode.{recode_set}
use Rattle.dcm_head.proofs.renewal.AllStaysRenewal.own_elements.Goals as goal

pub returns : goal.returns
unfolding recode_set
returns c = record { bytes_are = refl; no_syntax = record { without = refl; with_it = λ uid. refl }; few = omega arith }
