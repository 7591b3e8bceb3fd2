-- Cells that are emptied and take the elements of a meta group.
use Rattle.std.proofs.Common.{◌≡◌, ◌∙◌, ap, subst, List, ℕ, fold}
use Rattle.dcm_base.specs.Tree.Tree.{Trees}
use Rattle.dcm_head.specs.MetaReading.{Reading, group_of}
use Rattle.dcm_head.specs.Rewriting.{OfElements}
use Rattle.dcm_table.specs.Meta.{meta_atoms}
use Rattle.dcm_table.specs.TableSink.{State, cleared, next}
use Rattle.dcm_table.proofs.EachSlot.{same_cleared}
use Rattle.dcm_tables.specs.Files.{TakesMeta}

pub takes_emptied : (old first new : State) (m : Reading) (group : List ℕ) → group ≡ group_of m → first ≡ cleared old → OfElements group (λ (elements : Trees). new ≡ fold next first (meta_atoms elements)) → TakesMeta m (cleared old) new
takes_emptied old first new m group is emptied takes =
    subst (λ (s : State). TakesMeta m s new) emptied (subst (λ (bytes : List ℕ). OfElements bytes (λ (elements : Trees). new ≡ fold next first (meta_atoms elements))) is takes)

pub kept_emptied : (old first new : State) → first ≡ cleared old → cleared new ≡ cleared first → cleared new ≡ cleared old
kept_emptied old first new emptied kept = kept ∙ ap cleared emptied ∙ same_cleared old
