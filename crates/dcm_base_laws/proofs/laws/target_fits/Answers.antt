use Rattle.dcm_base_laws.proofs.DataSets.ImplicitLengths.{extract_fits, explicit_fits, implicit_fits}
use Rattle.dcm_base_laws.proofs.laws.target_fits.Goals as goal

pub returns : goal.returns
returns c = record { extract = extract_fits; explicit = explicit_fits; implicit = implicit_fits }
