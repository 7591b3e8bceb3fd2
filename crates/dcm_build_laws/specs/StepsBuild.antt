-- What steps build, one after another.
use Rattle.std.specs.Prelude.{◌≡◌, ◌≢◌, ◌<◌, ℕ, suc, List, [], ◌∷◌, Some, None, true, false, Ok}
use Rattle.dcm_base.specs.declared.syntax.Coding.{Coding}
use Rattle.dcm_base.specs.declared.tag.TheConstants.{META_GROUP}
use Rattle.dcm_base.specs.declared.level.TheConstants.{MOST_LISTS}
use Rattle.dcm_base.specs.Tree.Tree.{Trees, no_tree, leaf, sequence, fragments, Items, no_item, item}
use Rattle.dcm_base.specs.Tree.Front.{front, nothing_open}
use Rattle.dcm_base.specs.Bytes.Spelling.{last_tag}
use Rattle.dcm_base.specs.Lines.Line.{Step}
use Rattle.dcm_base.specs.Lines.Build.{Built, no_elements, named_coding, with_shown, rebuilt}
use Rattle.dcm_base.specs.Reading.Bars.{holds_fragments}
use Rattle.dcm_build_laws.specs.DumpLines.{set_steps}

-- none of the steps is refused
abbrev pub Leads : List Step → Built → Built → Type 0
Leads [] b c = b ≡ c
Leads (step ∷ steps) b c = (d : Built) × (with_shown step b ≡ Ok d) × Leads steps d c

-- where so many sequences and fragment lists are open: no element of the meta group, no more than 64 open lists, and
-- fragment lists in explicit little endian alone
unfoldable mutual
  pub MayStand : Coding → ℕ → Trees → Type 0
  MayStand coding n no_tree = Unit {0}
  MayStand coding n (leaf tag vr value rest) = (tag.group ≢ META_GROUP) × MayStand coding n rest
  MayStand coding n (sequence tag vr declared items rest) = (tag.group ≢ META_GROUP) × (n < MOST_LISTS)
      × ItemsMayStand coding (suc n) items × MayStand coding n rest
  MayStand coding n (fragments tag vr values rest) = (tag.group ≢ META_GROUP) × (n < MOST_LISTS)
      × (holds_fragments coding.syntax ≡ true) × MayStand coding n rest

  pub ItemsMayStand : Coding → ℕ → Items → Type 0
  ItemsMayStand coding n no_item = Unit {0}
  ItemsMayStand coding n (item declared set rest) = MayStand coding n set × ItemsMayStand coding n rest

-- from an empty data set on, after a meta group that names this coding, the steps of a data set build it as it is
-- shown
abbrev pub BuildAgain : Coding → Trees → Type 0
BuildAgain coding set =
    (b : Built) → named_coding b.meta ≡ Some coding → b.set ≡ no_elements
    → (c : Built) × Leads (set_steps set) b c × (c.meta ≡ b.meta)
    × (c.set ≡ front (rebuilt set) nothing_open (last_tag None set) false)
