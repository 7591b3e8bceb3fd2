-- What is put into a data set, as a sink takes it.
use Rattle.std.specs.Prelude.{List, [], Bool, Result}
use Rattle.dcm_base.specs.Steps.Atoms.{trees_then}
use Rattle.dcm_base.specs.Tree.Tree.{Trees, no_tree, leaf}
use Rattle.dcm_base.specs.Tables.Syntax.{Little}
use Rattle.dcm_base.specs.declared.tag.Tag.{Tag}
use Rattle.dcm_stream.specs.Sinks.{Took}
use Rattle.dcm_stream.specs.declared.sink.Sink.{Ghosts}
use Rattle.dcm_edits.specs.declared.edit.NewElement.{NewElement as Element}
use Rattle.dcm_edits.specs.Edit.{Edit, before}
use Rattle.dcm_edits.specs.NewOnes.{puts, first_new}

-- a new value with this tag
abbrev pub leaf_at : {A : Type 0} → Tag → Element A → Trees
leaf_at tag e = leaf tag e.vr e.value.items no_tree

-- it took these elements
abbrev pub TookTrees : {S T E : Type 0} → Ghosts S → (old new : S) → Trees → Result T E → Type 0
TookTrees sink old new trees r = Took sink old new (trees_then Little trees []) r

-- it took the first new element of a tag
abbrev pub TookFirst : {S T E : Type 0} → Ghosts S → (old new : S) → Tag → List Edit → Result T E → Type 0
TookFirst sink old new tag edits r = TookTrees sink old new (before (first_new tag edits) no_tree) r

-- it took the new elements whose tags pass, in the order of their tags
abbrev pub TookNew : {S T E : Type 0} → Ghosts S → (old new : S) → (Tag → Bool) → List Edit → Result T E → Type 0
TookNew sink old new passes edits r = TookTrees sink old new (puts passes edits no_tree) r
