use Rattle.dcm_editor_laws.proofs.Readers.Others.{all_are_modified, no_private_is_left, none_is_left, others_stay_by}
use Rattle.dcm_editor_laws.proofs.laws.edited_for_others.Goals as goal

pub returns-clause-erased_all : goal.returns-clause-erased_all
returns-clause-erased_all c = λ edits s at f again stop e tag h opens among reads. none_is_left edits s at f h e opens again stop tag among reads

pub returns-clause-erased_private : goal.returns-clause-erased_private
returns-clause-erased_private c = λ edits s at f again stop e h opens among reads. no_private_is_left edits s at f h e opens again stop among reads

pub returns-clause-modified_all : goal.returns-clause-modified_all
returns-clause-modified_all c = λ edits s at f again stop e tag vr value h opens among reads. all_are_modified edits s at f h e opens again stop tag vr value among reads

pub returns-clause-others_stay : goal.returns-clause-others_stay
returns-clause-others_stay c = λ edits s at f again stop e h keep opens reads. others_stay_by edits s at f h e opens keep again stop reads
