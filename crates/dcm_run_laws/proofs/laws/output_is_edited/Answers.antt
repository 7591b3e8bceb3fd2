use Rattle.dcm_run_laws.proofs.ReadBack.OutputEdited.{output_without, output_public, output_modified}
use Rattle.dcm_run_laws.proofs.laws.output_is_edited.Goals as goal

pub returns-clause-erased_all : goal.returns-clause-erased_all
returns-clause-erased_all c = output_without

pub returns-clause-erased_private : goal.returns-clause-erased_private
returns-clause-erased_private c = output_public

pub returns-clause-modified_all : goal.returns-clause-modified_all
returns-clause-modified_all c = output_modified
