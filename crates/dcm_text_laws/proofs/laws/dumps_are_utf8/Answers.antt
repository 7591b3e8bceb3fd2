use Rattle.dcm_cli.proofs.Passes.Readers.{members, writer}
use Rattle.dcm_text_laws.proofs.Dumps.{dumps_utf8}
use Rattle.dcm_text_laws.proofs.LeftUtf8.{all_dumps_grow, one_grows}
use Rattle.dcm_text_laws.proofs.Standing.{dumps_end, dumps_so_far}
use Rattle.dcm_text_laws.proofs.laws.dumps_are_utf8.Goals as goal

pub returns-clause-all : goal.returns-clause-all
returns-clause-all g c = dumps_utf8

pub returns-clause-so_far : goal.returns-clause-so_far
returns-clause-so_far g c = dumps_so_far

pub returns-clause-end : goal.returns-clause-end
returns-clause-end g c = dumps_end

pub returns-clause-left_of_one : goal.returns-clause-left_of_one
returns-clause-left_of_one g c = λ m d mode bare name errors from to before status after gives is_job named short does.
    one_grows (members g.S.Input.Device g.S.Input.DeviceIn) (writer g.W.Device g.W.DeviceOut) m d mode bare name errors from to before status after gives is_job named short does

pub returns-clause-left_of_all : goal.returns-clause-left_of_all
returns-clause-left_of_all g c = λ asked d mode bare output errors from to before status after gives is_job shows.
    all_dumps_grow g.S.System.may_do (members g.S.Input.Device g.S.Input.DeviceIn) (writer g.W.Device g.W.DeviceOut) asked d mode bare output errors from to before status after gives is_job shows
