use Rattle.std.proofs.Common.{◌≡◌, length, map}
use Rattle.dcm_edits.specs.EditWords.{leads}
use Rattle.dcm_edits.specs.Parts.{part_as}
use Rattle.dcm_edits.proofs.form.leads.Given as goal

-- the parts that are left lead where all of them do
abbrev pub invariant-loop-parts : goal.invariant-loop-parts
invariant-loop-parts l = leads (map part_as l.parts) ≡ leads (map part_as l.initial.parts)

abbrev pub decreases-loop-parts : goal.decreases-loop-parts
decreases-loop-parts l = length l.parts
