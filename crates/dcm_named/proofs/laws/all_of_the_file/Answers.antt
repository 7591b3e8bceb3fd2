use Rattle.dcm_named.proofs.Found.{file_all}
use Rattle.dcm_named.proofs.laws.all_of_the_file.Goals as goal

pub returns : goal.returns
returns c = λ q elements uid f w e g. file_all q elements uid f w e g
