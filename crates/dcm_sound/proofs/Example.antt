-- A sound file, so that the premises can be met: a preamble of zeros, a meta group of one element, and one element.
use Rattle.std.proofs.Common.{ℕ, List, [], ◌∷◌, ◌++◌, arith, codes, lit≤, refl, replicate}
use Rattle.dcm_base.specs.declared.dictionary.Dictionary.TheVariants.{Extract}
use Rattle.dcm_base.specs.declared.vr.Vr.TheVariants.{PN, UI}
use Rattle.dcm_base.specs.Tables.Syntax.{Little}
use Rattle.dcm_base.specs.Tables.Transfer.{coding_of, native, without_pads}
use Rattle.dcm_base.specs.Tree.Tree.{Trees, no_tree, leaf}
use Rattle.dcm_base.specs.Bytes.Spelling.{Spells}
use Rattle.dcm_base.specs.File.MetaGroup.{AreMeta}
use Rattle.dcm_base.specs.File.MetaReads.{Meta, PREFIX}
use Rattle.dcm_base_laws.proofs.WorkedRows.Readings.{all, name_bytes, patient_name, tag}
use Rattle.dcm_sound.specs.Sound.{IsDataSet, IsSound}

abbrev uid : List ℕ
uid = codes "1.2.840.10008.1.2.1"

abbrev elements : Trees
elements = leaf (tag 0x0002 0x0010) UI (uid ++ 0x00 ∷ []) no_tree

abbrev group : List ℕ
group = 0x02 ∷ 0x00 ∷ 0x10 ∷ 0x00 ∷ 0x55 ∷ 0x49 ∷ 0x14 ∷ 0x00 ∷ (uid ++ 0x00 ∷ [])

abbrev set : Trees
set = leaf patient_name PN (0x41 ∷ 0x42 ∷ 0x5E ∷ 0x43 ∷ 0x44 ∷ 0x20 ∷ []) no_tree

abbrev meta : Meta
meta = record { preamble = replicate 128 0; elements = elements; uid = uid }

group_spelled : Spells Little elements group
unfolding all
group_spelled = ([], refl, record { no_item = λ e. omega (arith, e); head = record { tag_is = refl; vr_is = refl; whole = lit≤ tt; length_is = refl; after_is = refl } }, refl)

set_spelled : Spells Little set name_bytes
unfolding all
set_spelled = ([], refl, record { no_item = λ e. omega (arith, e); head = record { tag_is = refl; vr_is = refl; whole = lit≤ tt; length_is = refl; after_is = refl } }, refl)

pub is_sound : IsSound Extract (replicate 128 0 ++ PREFIX ++ group ++ name_bytes) meta (native Little) set
unfolding AreMeta IsDataSet coding_of without_pads
is_sound = record {
  group = group;
  contents = name_bytes;
  parts = refl;
  preamble_size = refl;
  within = lit≤ tt;
  group_spelled = group_spelled;
  are_meta = (refl, tt);
  group_within = lit≤ tt;
  group_ends = λ e. omega (arith, e);
  named = native Little;
  uid_is = refl;
  some_uid = λ e. cc;
  names = refl;
  coding_is = refl;
  set_spelled = set_spelled;
  is_set = (λ e. omega (arith, e), tt);
}
