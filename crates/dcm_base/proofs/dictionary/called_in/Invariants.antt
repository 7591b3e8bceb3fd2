use Rattle.std.proofs.Common.{◌≡◌, length, map}
use Rattle.dcm_base.specs.Tables.Dictionary.{called, element_of, AllFit}
use Rattle.dcm_base.proofs.dictionary.called_in.Given as goal

-- the entries that are left give what all of them give
abbrev pub invariant-loop-entries : goal.invariant-loop-entries
invariant-loop-entries l = (called (map (element_of l.text) l.entries) l.keyword ≡ called (map (element_of l.text) l.initial.entries) l.keyword) × AllFit l.text l.entries

abbrev pub decreases-loop-entries : goal.decreases-loop-entries
decreases-loop-entries l = length l.entries
