use Rattle.std.proofs.Common.{◌%◌, ◌∙◌, ap, arith, ℕ, List, negsuc, take}
use Rattle.std.specs.Int.{w64, from_be_bytes}
use Rattle.dcm_uid.specs.Pseudonym.{days}
use Rattle.dcm_uid.proofs.Pseudonyms.{into_the_past}
use Rattle.dcm_uid.proofs.patients.days.Goals as goal

pub returns-clause-value : goal.returns-clause-value
unfolding days
returns-clause-value c k held =
    into_the_past (c.number_of.result % 3652) (omega arith)
    ∙ ap (λ (n : ℕ). negsuc (n % 3652)) (c.number_of.ensures ∙ ap (λ (l : List ℕ). from_be_bytes w64 (take 8 l)) (c.code.ensures k held))
