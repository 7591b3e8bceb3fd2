use Rattle.std.proofs.Common.{◌≤◌, length}
use Rattle.dcm_base.specs.File.MetaReads.{syntax_value}
use Rattle.dcm_base.specs.Tree.Tree.{Trees}
use Rattle.dcm_head.specs.Rewriting.{OfElements}
use Rattle.dcm_build.proofs.Files.Meta.{Remain}
use Rattle.dcm_build.proofs.group.syntax_value.Given as goal

-- none of the elements before the rest names one
abbrev pub invariant-elements : goal.invariant-elements
invariant-elements l = record {
  short : length l.rest ≤ 16384;
  named : OfElements l.fn.group (λ (all : Trees). Remain l.rest (syntax_value all));
}

abbrev pub decreases-elements : goal.decreases-elements
decreases-elements l = length l.rest
