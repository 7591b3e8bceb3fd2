use Rattle.dcm_trees.proofs.lines.+put_edits.Given as goal

abbrev pub decreases-put_edits : goal.decreases-put_edits
decreases-put_edits g l = l.count
