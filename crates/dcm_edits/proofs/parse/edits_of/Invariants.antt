use Rattle.std.proofs.Common.{◌≡◌, ◌≤◌, ◌+◌, ◌-◌, drop, length, map}
use Rattle.dcm_edits.specs.EditWords.{without_settings, meant_from, EDIT_LIMIT}
use Rattle.dcm_edits.specs.Making.{texts, after_edits}
use Rattle.dcm_edits.specs.Meaning.{edit_of}
use Rattle.dcm_edits.proofs.parse.edits_of.Given as goal

-- the edits so far, and those of the words that are left
abbrev pub invariant-loop-place : goal.invariant-loop-place
invariant-loop-place g l = record {
  same : meant_from l.dictionary 1 (without_settings (texts l.words)) ≡ after_edits (map edit_of l.edits.items) (meant_from l.dictionary (length l.edits.items + 1) (without_settings (texts (drop l.place l.words))));
  few : length l.edits.items ≤ EDIT_LIMIT;
  within : l.place ≤ length l.words;
}

abbrev pub decreases-loop-place : goal.decreases-loop-place
decreases-loop-place g l = length l.words - l.place
