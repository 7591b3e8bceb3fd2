use Rattle.std.proofs.Common.{refl}
use Rattle.dcm_base.specs.declared.dictionary.Dictionary.TheVariants.{Standard}
use Rattle.dcm_run_laws.proofs.ReadBack.OtherReaders.{explicit_output_opens, own_output_opens, standard_output_opens}
use Rattle.dcm_run_laws.proofs.laws.output_opens_alike.Goals as goal

pub returns-clause-explicit : goal.returns-clause-explicit
returns-clause-explicit c = λ d edits input a m coding f h is. explicit_output_opens d edits input a m coding f h is

pub returns-clause-own : goal.returns-clause-own
returns-clause-own c = own_output_opens

pub returns-clause-standard : goal.returns-clause-standard
returns-clause-standard c = λ e edits input a m coding f h. standard_output_opens Standard edits input a m coding f h e refl
