use Rattle.std.proofs.Common.{◌≡◌, ◌≤◌, ◌+◌, ◌-◌, drop, length}
use Rattle.dcm_edits.specs.EditWords.{no_settings, settings_after}
use Rattle.dcm_edits.specs.Making.{texts}
use Rattle.dcm_edits.proofs.parse.settings_of.Given as goal

-- the words that are left, after what was said so far, say what all of them say
abbrev pub invariant-loop-place : goal.invariant-loop-place
invariant-loop-place l = record {
  same : settings_after no_settings (texts l.words) ≡ settings_after l.settings (texts (drop l.place l.words));
  within : l.place ≤ length l.words + 1;
}

abbrev pub decreases-loop-place : goal.decreases-loop-place
decreases-loop-place l = length l.words + 1 - l.place
