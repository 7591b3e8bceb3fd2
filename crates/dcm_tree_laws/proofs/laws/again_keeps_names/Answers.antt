use Rattle.dcm_cli.proofs.Passes.Readers.{members, writer}
use Rattle.dcm_tree_laws.proofs.KeptBy as runs
use Rattle.dcm_tree_laws.proofs.KeptFound as made
use Rattle.dcm_tree_laws.proofs.KeptFree as free
use Rattle.dcm_tree_laws.proofs.KeptLeft as names
use Rattle.dcm_tree_laws.proofs.KeptTwice as twice
use Rattle.dcm_tree_laws.proofs.laws.again_keeps_names.Goals as goal

pub returns-clause-name : goal.returns-clause-name
returns-clause-name g c = λ h m n mode done from before r to after tells keeps no_index text none own f without free does gone.
    names.without_is_left (members g.I.Device g.I.DeviceIn) (writer g.O.Device g.O.DeviceOut) (writer g.E.Device g.E.DeviceOut) h m n mode done from before r to after tells keeps no_index text none own f without free does gone

pub returns-clause-folder : goal.returns-clause-folder
returns-clause-folder g c = λ h run path begun opened headed from before status left to after tells goes keeps quiet part text none v stop gone.
    runs.again_is_kept (members g.I.Device g.I.DeviceIn) (writer g.O.Device g.O.DeviceOut) (writer g.W.Device g.W.DeviceOut) (writer g.E.Device g.E.DeviceOut) h run path begun opened headed from before status left to after tells goes keeps quiet part text none v stop gone

pub returns-clause-list : goal.returns-clause-list
returns-clause-list g c = λ h run list begun input headed from before status left to after read tells goes keeps quiet part text none v stop gone.
    runs.again_by_list (members g.I.Device g.I.DeviceIn) (writer g.O.Device g.O.DeviceOut) (writer g.W.Device g.W.DeviceOut) (writer g.E.Device g.E.DeviceOut) h run list begun input headed from before status left to after read tells goes keeps quiet part text none v stop gone

pub returns-clause-made : goal.returns-clause-made
returns-clause-made g c = λ h run path begun opened headed from before status left to after tells keeps quiet part none v stop gone.
    made.kept_is_there (members g.I.Device g.I.DeviceIn) (writer g.O.Device g.O.DeviceOut) (writer g.W.Device g.W.DeviceOut) (writer g.E.Device g.E.DeviceOut) h run path begun opened headed from before status left to after tells keeps quiet part none v stop gone

pub returns-clause-made_by_list : goal.returns-clause-made_by_list
returns-clause-made_by_list g c = λ h run list begun input headed from before status left to after read tells keeps quiet part none v stop gone.
    made.kept_by_list (members g.I.Device g.I.DeviceIn) (writer g.O.Device g.O.DeviceOut) (writer g.W.Device g.W.DeviceOut) (writer g.E.Device g.E.DeviceOut) h run list begun input headed from before status left to after read tells keeps quiet part none v stop gone

pub returns-clause-twice : goal.returns-clause-twice
returns-clause-twice g c = λ h first second path begun again opened reopened headed reheaded from refrom before mid after status restatus left releft to reto tasks outputs shares v x settled files y names.
    twice.second_is_kept (members g.I.Device g.I.DeviceIn) (writer g.O.Device g.O.DeviceOut) (writer g.W.Device g.W.DeviceOut) (writer g.E.Device g.E.DeviceOut) h first second path begun again opened reopened headed reheaded from refrom before mid after status restatus left releft to reto tasks outputs shares v x settled files y names

pub returns-clause-twice_by_list : goal.returns-clause-twice_by_list
returns-clause-twice_by_list g c = λ h first second list begun again input reinput headed reheaded from refrom before mid after status restatus left releft to reto read reread tasks outputs shares v x settled files y names.
    twice.second_by_list (members g.I.Device g.I.DeviceIn) (writer g.O.Device g.O.DeviceOut) (writer g.W.Device g.W.DeviceOut) (writer g.E.Device g.E.DeviceOut) h first second list begun again input reinput headed reheaded from refrom before mid after status restatus left releft to reto read reread tasks outputs shares v x settled files y names

pub returns-clause-free : goal.returns-clause-free
returns-clause-free g c = λ h task folder first x mode bytes end number count after tells named ends not still_free run.
    free.stays_free (members g.I.Device g.I.DeviceIn) (writer g.O.Device g.O.DeviceOut) (writer g.W.Device g.W.DeviceOut) (writer g.E.Device g.E.DeviceOut) h task folder first x mode bytes end number count after tells named ends not still_free run
