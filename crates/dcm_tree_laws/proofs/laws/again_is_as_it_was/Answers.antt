use Rattle.dcm_cli.proofs.Passes.Readers.{members, writer}
use Rattle.dcm_tree_laws.proofs.CopiedBy as twice
use Rattle.dcm_tree_laws.proofs.CopiesBy as runs
use Rattle.dcm_tree_laws.proofs.CopiesMade as made
use Rattle.dcm_tree_laws.proofs.CopyLeft as names
use Rattle.dcm_tree_laws.proofs.UnnamedLeft as unnamed
use Rattle.dcm_tree_laws.proofs.laws.again_is_as_it_was.Goals as goal

pub returns-clause-name : goal.returns-clause-name
returns-clause-name g c = λ h m n mode uids from before r to after tells by no_index text none follows fits copy does gone.
    names.copy_is_left (members g.I.Device g.I.DeviceIn) (writer g.O.Device g.O.DeviceOut) (writer g.E.Device g.E.DeviceOut) h m n mode uids from before r to after tells by no_index text none follows fits copy does gone

pub returns-clause-folder : goal.returns-clause-folder
returns-clause-folder g c = λ h run path begun opened headed from before status left to after tells by quiet part text none follows fits v stop gone.
    runs.again_as_it_was (members g.I.Device g.I.DeviceIn) (writer g.O.Device g.O.DeviceOut) (writer g.W.Device g.W.DeviceOut) (writer g.E.Device g.E.DeviceOut) h run path begun opened headed from before status left to after tells by quiet part text none follows fits v stop gone

pub returns-clause-list : goal.returns-clause-list
returns-clause-list g c = λ h run list begun input headed from before status left to after read tells by quiet part text none follows fits v stop gone.
    runs.again_by_list (members g.I.Device g.I.DeviceIn) (writer g.O.Device g.O.DeviceOut) (writer g.W.Device g.W.DeviceOut) (writer g.E.Device g.E.DeviceOut) h run list begun input headed from before status left to after read tells by quiet part text none follows fits v stop gone

pub returns-clause-made : goal.returns-clause-made
returns-clause-made g c = λ h run path begun opened headed from before status left to after tells by quiet part none follows v stop.
    made.copies_are_there (members g.I.Device g.I.DeviceIn) (writer g.O.Device g.O.DeviceOut) (writer g.W.Device g.W.DeviceOut) (writer g.E.Device g.E.DeviceOut) h run path begun opened headed from before status left to after tells by quiet part none follows v stop

pub returns-clause-made_by_list : goal.returns-clause-made_by_list
returns-clause-made_by_list g c = λ h run list begun input headed from before status left to after read tells by quiet part none follows v stop.
    made.copies_by_list (members g.I.Device g.I.DeviceIn) (writer g.O.Device g.O.DeviceOut) (writer g.W.Device g.W.DeviceOut) (writer g.E.Device g.E.DeviceOut) h run list begun input headed from before status left to after read tells by quiet part none follows v stop

pub returns-clause-twice : goal.returns-clause-twice
returns-clause-twice g c = λ h first second path begun again opened reopened headed reheaded from refrom before mid after status restatus left releft to reto tasks outputs shares v x settled files y names.
    twice.second_is_as_it_was (members g.I.Device g.I.DeviceIn) (writer g.O.Device g.O.DeviceOut) (writer g.W.Device g.W.DeviceOut) (writer g.E.Device g.E.DeviceOut) h first second path begun again opened reopened headed reheaded from refrom before mid after status restatus left releft to reto tasks outputs shares v x settled files y names

pub returns-clause-no_name : goal.returns-clause-no_name
returns-clause-no_name g c = λ h m n mode fate from before r to after tells by no_index text none follows path f ends does gone.
    unnamed.unnamed_is_left (members g.I.Device g.I.DeviceIn) (writer g.O.Device g.O.DeviceOut) (writer g.E.Device g.E.DeviceOut) h m n mode fate from before r to after tells by no_index text none follows path f ends does gone

pub returns-clause-twice_by_list : goal.returns-clause-twice_by_list
returns-clause-twice_by_list g c = λ h first second list begun again input reinput headed reheaded from refrom before mid after status restatus left releft to reto read reread tasks outputs shares v x settled files y names.
    twice.second_by_list (members g.I.Device g.I.DeviceIn) (writer g.O.Device g.O.DeviceOut) (writer g.W.Device g.W.DeviceOut) (writer g.E.Device g.E.DeviceOut) h first second list begun again input reinput headed reheaded from refrom before mid after status restatus left releft to reto read reread tasks outputs shares v x settled files y names
