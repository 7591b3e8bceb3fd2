use Rattle.std.proofs.Common.{◌∙◌, ap, sym, subst, List, ℕ}
use Rattle.dcm_build.specs.NewGroup.{IsGroup, elements_of}
use Rattle.dcm_build.proofs.Files.Meta.{no_group, none_of}
use Rattle.dcm_build.proofs.group.NewGroup.new.Goals as goal

pub invariant_of-result : goal.invariant_of-result
invariant_of-result c = subst IsGroup (sym c.new.ensures) no_group

pub returns : goal.returns
returns c = ap (λ (bytes : List ℕ). elements_of bytes) c.new.ensures ∙ none_of
