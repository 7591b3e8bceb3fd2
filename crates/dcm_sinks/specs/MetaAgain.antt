-- What a meta group that was written anew reads back as (PS3.10 7.1).
use Rattle.std.specs.Prelude.{◌≡◌, ◌≢◌, ◌≤◌, ℕ, List, [], ◌++◌, length, Ok}
use Rattle.std.specs.Int.{w32, to_le_bytes}
use Rattle.dcm_base.specs.declared.vr.Vr.TheVariants.{UL}
use Rattle.dcm_base.specs.Tables.Syntax.{Little}
use Rattle.dcm_base.specs.declared.syntax.Coding.{Coding}
use Rattle.dcm_base.specs.Tables.Number.{AreBytes}
use Rattle.dcm_base.specs.Tree.Tree.{Trees, leaf}
use Rattle.dcm_base.specs.Tables.Transfer.{without_pads, coding_of}
use Rattle.dcm_base.specs.File.MetaGroup.{META_LIMIT, group_place, the_end}
use Rattle.dcm_base.specs.File.MetaReads.{Meta, MetaReads, begins, PREFIX}
use Rattle.dcm_base.specs.Conversion.NewMeta.{with_syntax, new_elements, new_meta}
use Rattle.dcm_base.specs.Conversion.Normal.{normal}

-- the new length of the group, and then the normal form of the elements with this transfer syntax
abbrev pub elements_again : Trees → List ℕ → Trees
elements_again elements uid =
    leaf (record { group = 2; element = 0 }) UL (to_le_bytes w32 (length (new_elements elements uid)))
    (normal Little (with_syntax uid elements))

-- with the preamble as it was
abbrev pub meta_again : Meta → List ℕ → Meta
meta_again m uid = record { preamble = m.preamble; elements = elements_again m.elements uid; uid = uid }

-- a file that was read, whose group was written anew with a transfer syntax, and then bytes that do not go on the group
pub record Renews (file : List ℕ) (m : Meta) (coding : Coding) (uid set : List ℕ) : Type 0 where
  pub group : List ℕ
  pub are_bytes : AreBytes file
  pub reads : MetaReads file (begins m group coding)
  pub within : length (new_meta m.elements uid) ≤ META_LIMIT
  pub ends : group_place (length (new_meta m.elements uid)) set ≡ the_end

-- a transfer syntax with no pad at its end, which has this coding
pub record Names (uid : List ℕ) (coding : Coding) : Type 0 where
  pub some : uid ≢ []
  pub no_pad : without_pads uid ≡ uid
  pub coding_is : coding_of uid ≡ Ok coding

-- the file with its new group is read, with this coding
abbrev pub ReadsRenewed : Meta → (uid set : List ℕ) → Coding → Type 0
ReadsRenewed m uid set coding = MetaReads (m.preamble ++ (PREFIX ++ (new_meta m.elements uid ++ set)))
    (begins (meta_again m uid) (new_meta m.elements uid) coding)
