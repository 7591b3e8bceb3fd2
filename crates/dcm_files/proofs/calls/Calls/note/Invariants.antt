use Rattle.dcm_files.proofs.calls.Calls.note.Given as goal

abbrev pub ghost-add : goal.ghost-add
ghost-add g a = g.call
