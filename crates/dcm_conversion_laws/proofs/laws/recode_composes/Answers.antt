use Rattle.dcm_conversion_laws.proofs.Detour as detour
use Rattle.dcm_conversion_laws.proofs.Fronts as fronts
use Rattle.dcm_conversion_laws.proofs.Files as files
use Rattle.dcm_conversion_laws.proofs.Kept as kept
use Rattle.dcm_conversion_laws.proofs.laws.recode_composes.Goals as goal

pub returns : goal.returns
returns c = record { sets = detour.sets_compose; read = fronts.recode_composes; files = files.files_compose; kept = kept.kept }
