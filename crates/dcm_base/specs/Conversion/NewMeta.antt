-- A meta group written anew, with a transfer syntax (PS3.10 7.1).
use Rattle.std.specs.Prelude.{◌≡◌, ℕ, if◌then◌else◌, List, ◌++◌, length, Option, None, Some}
use Rattle.std.specs.Int.{w32, to_le_bytes}
use Rattle.dcm_base.specs.declared.tag.Tag.{Tag}
use Rattle.dcm_base.specs.declared.vr.Vr.{Vr}
use Rattle.dcm_base.specs.declared.vr.Vr.TheVariants.{UL, UI}
use Rattle.dcm_base.specs.Tables.Syntax.{Little}
use Rattle.dcm_base.specs.Tables.Tag.{is_tag}
use Rattle.dcm_base.specs.Tree.Tree.{Trees, no_tree, leaf, sequence, fragments}
use Rattle.dcm_base.specs.Conversion.Recode.{recoded_leaf, recode_set}

-- without the elements that name a transfer syntax
abbrev pub without_syntax : Trees → Trees
without_syntax no_tree = no_tree
without_syntax (leaf tag vr value rest) = if is_tag 2 0x10 tag then without_syntax rest
    else leaf tag vr value (without_syntax rest)
without_syntax (sequence tag vr declared items rest) = sequence tag vr declared items (without_syntax rest)
without_syntax (fragments tag vr values rest) = fragments tag vr values (without_syntax rest)

-- the first element that names one names this
abbrev pub with_syntax : List ℕ → Trees → Trees
with_syntax uid no_tree = no_tree
with_syntax uid (leaf tag vr value rest) = if is_tag 2 0x10 tag then leaf tag UI uid (without_syntax rest)
    else leaf tag vr value (with_syntax uid rest)
with_syntax uid (sequence tag vr declared items rest) = sequence tag vr declared items (with_syntax uid rest)
with_syntax uid (fragments tag vr values rest) = fragments tag vr values (with_syntax uid rest)

-- the elements without the old length of the group, recoded with this transfer syntax
abbrev pub new_elements : Trees → List ℕ → List ℕ
new_elements elements uid = recode_set Little (with_syntax uid elements)

-- the element that tells how many bytes of the group follow
abbrev pub group_length : ℕ → List ℕ
group_length size = recoded_leaf Little (record { group = 2; element = 0 }) UL (to_le_bytes w32 size)

-- the group's length, and then its elements
abbrev pub new_meta : Trees → List ℕ → List ℕ
new_meta elements uid = group_length (length (new_elements elements uid)) ++ new_elements elements uid

-- ---- a group of which not all stays as it was

-- the value that an element is to have, or none where it goes
abbrev pub Renewing : Type 0
Renewing = Tag → Vr → List ℕ → Option (List ℕ)

abbrev pub leaf_if : Option (List ℕ) → Tag → Vr → Trees → Trees
leaf_if None tag vr rest = rest
leaf_if (Some value) tag vr rest = leaf tag vr value rest

-- the elements that stay, with their values, and behind them elements of its own
abbrev pub renewed : Renewing → (own : Trees) → Trees → Trees
renewed new own no_tree = own
renewed new own (leaf tag vr value rest) = leaf_if (new tag vr value) tag vr (renewed new own rest)
renewed new own (sequence tag vr declared items rest) = sequence tag vr declared items (renewed new own rest)
renewed new own (fragments tag vr values rest) = fragments tag vr values (renewed new own rest)

-- the elements name no transfer syntax
pub record NamesNoSyntax (elements : Trees) : Type 0 where
  pub without : without_syntax elements ≡ elements
  pub with_it : (uid : List ℕ) → with_syntax uid elements ≡ elements
