-- Worked rows: data sets that are cut or refused, as far as they were read.
use Rattle.std.proofs.Common.{◌≡◌, [], ◌∷◌, ◌++◌, Some, refl, arith, lit≤}
use Rattle.dcm_base.specs.declared.vr.Vr.TheVariants.{PN, OW, LO}
use Rattle.dcm_base.specs.Tables.Syntax.{Little}
use Rattle.dcm_base.specs.declared.fault.Fault.TheVariants.{PassesEnd, EndsEarly, NotAscending}
use Rattle.dcm_base.specs.declared.length.Length.TheVariants.{Known, Undefined}
use Rattle.dcm_base.specs.Tree.Tree.{no_tree, leaf}
use Rattle.dcm_base.specs.Tree.Front.{Front, no_open_item, open_item}
use Rattle.dcm_base.specs.Bytes.Spelling.{SpellsFront}
use Rattle.dcm_base.specs.Reading.Stop.{refused, stop_at}
use Rattle.dcm_base.specs.Reading.Bars.{no_bar, ascending_bar}
use Rattle.dcm_base_laws.proofs.WorkedRows.Readings.{all, tag, whole_set, open_value, patient_name, instance, leaf_bytes, instance_leaf, leaf_spelled, open_front, opening, pixels}

-- ---- tags that do not ascend

same_tag_again : stop_at ascending_bar Little 172 (whole_set (leaf (tag 0x0010 0x0020) LO (0x37 ∷ 0x20 ∷ []) no_tree) (tag 0x0010 0x0020)) 182 (0x10 ∷ 0x00 ∷ 0x20 ∷ 0x00 ∷ 0x4C ∷ 0x4F ∷ 0x02 ∷ 0x00 ∷ 0x37 ∷ 0x20 ∷ []) ≡ Some (refused NotAscending 182)
unfolding all
same_tag_again = refl

-- ---- values that are cut

cut_spelled : SpellsFront Little (open_value patient_name PN 6 (0x41 ∷ 0x42 ∷ [])) (0x10 ∷ 0x00 ∷ 0x10 ∷ 0x00 ∷ 0x50 ∷ 0x4E ∷ 0x06 ∷ 0x00 ∷ 0x41 ∷ 0x42 ∷ [])
unfolding all
cut_spelled = (_, refl, (refl, lit≤ tt, record { no_item = λ e. omega (arith, e); head = record { tag_is = refl; vr_is = refl; whole = lit≤ tt; length_is = refl; after_is = refl } }), refl, refl)

cut_stop : stop_at no_bar Little 172 (open_value patient_name PN 6 (0x41 ∷ 0x42 ∷ [])) 182 [] ≡ Some (refused EndsEarly 182)
unfolding all
cut_stop = refl

-- the greatest length that is known
great_spelled : SpellsFront Little (open_value pixels OW 0xFFFFFFFE []) (0xE0 ∷ 0x7F ∷ 0x10 ∷ 0x00 ∷ 0x4F ∷ 0x57 ∷ 0x00 ∷ 0x00 ∷ 0xFE ∷ 0xFF ∷ 0xFF ∷ 0xFF ∷ [])
unfolding all
great_spelled = (_, refl, (refl, lit≤ tt, record { no_item = λ e. omega (arith, e); head = record { tag_is = refl; vr_is = refl; whole = lit≤ tt; length_is = refl; after_is = refl } }), refl, refl)

great_stop : stop_at no_bar Little 172 (open_value pixels OW 0xFFFFFFFE []) 184 [] ≡ Some (refused EndsEarly 184)
unfolding all
great_stop = refl

-- an item of that length passes its sequence
great_item_stop : stop_at no_bar Little 172 (open_front (Known 16) no_open_item) 184 (0xFE ∷ 0xFF ∷ 0x00 ∷ 0xE0 ∷ 0xFE ∷ 0xFF ∷ 0xFF ∷ 0xFF ∷ []) ≡ Some (refused PassesEnd 184)
unfolding all
great_item_stop = refl

-- an item that the input's end cuts, in a sequence of 100 bytes
cut_item : Front
cut_item = open_front (Known 100) (open_item Undefined (whole_set instance_leaf instance))

cut_item_spelled : SpellsFront Little cut_item ((0x08 ∷ 0x00 ∷ 0x40 ∷ 0x11 ∷ 0x53 ∷ 0x51 ∷ 0x00 ∷ 0x00 ∷ 0x64 ∷ 0x00 ∷ 0x00 ∷ 0x00 ∷ []) ++ opening ++ leaf_bytes)
unfolding all cut_item
cut_item_spelled = (
  _,
  refl,
  (
    opening ++ leaf_bytes,
    _,
    refl,
    record { no_item = λ e. omega (arith, e); head = record { tag_is = refl; vr_is = refl; whole = lit≤ tt; length_is = refl; after_is = refl } },
    lit≤ tt,
    refl,
    (leaf_bytes, record { tag_is = refl; whole = lit≤ tt; length_is = refl; after_is = refl }, tt, ([], leaf_spelled, refl, refl, refl)),
  ),
  refl,
  refl,
)

cut_item_stop : stop_at no_bar Little 172 cut_item 204 [] ≡ Some (refused EndsEarly 204)
unfolding all cut_item
cut_item_stop = refl
