-- What is written of an edited data set is read again under the bar on tags that do not ascend.
use Rattle.std.proofs.Common.{◌≡◌, ap, sym, subst, ℕ, ◌+◌, ◌≤◌, List, length, map, Option, Some, None, Bool, true, false, Ok, arith}
use Rattle.std.specs.Prelude.{◌==◌, if◌then◌else◌}
use Rattle.dcm_base.specs.declared.tag.Tag.{Tag}
use Rattle.dcm_base.specs.declared.syntax.Syntax.{Syntax}
use Rattle.dcm_base.specs.declared.length.Length.TheVariants.{Undefined}
use Rattle.dcm_base.specs.Tables.Tag.{is_above}
use Rattle.dcm_base.specs.Tables.Number.{AreBytes}
use Rattle.dcm_base.specs.Tree.Tree.{Trees, no_tree, leaf, sequence, fragments, Items, no_item, item}
use Rattle.dcm_base.specs.Tree.Front.{Front}
use Rattle.dcm_base.specs.Lines.Ascending.{Ascend, ItemsAscend, FrontAscends}
use Rattle.dcm_base.specs.Tree.Value.{evened}
use Rattle.dcm_base.specs.Bytes.Spelling.{last_tag, after}
use Rattle.dcm_base.specs.Reading.Stop.{complete}
use Rattle.dcm_base.specs.Reading.Bars.{ascending_bar, target_bar}
use Rattle.dcm_base.specs.Reading.Reads.{INPUT_LIMIT, Reads}
use Rattle.dcm_base.specs.Conversion.Recode.{recode}
use Rattle.dcm_base.specs.Conversion.Normal.{normal_vr, normal_sequence_vr, normal_value, normal, normal_items, whole_front, normal_front, FrontStays}
use Rattle.dcm_base.specs.Tables.Syntax.{dictionary_of}
use Rattle.dcm_edits.specs.Edit.{Edit, edited, edited_sets}
use Rattle.dcm_edits.specs.EditWords.{meant_edits_in}
use Rattle.dcm_edits.proofs.Trees.Laws.{Ascend-weaker}
use Rattle.dcm_edits.proofs.Trees.OneByOne.{Ascend-edited_sets}
use Rattle.dcm_editor.proofs.ReadBack.ReadsAscend.{reads_ascend}
use Rattle.dcm_editor_laws.proofs.ReadBack.EditedReads.{front_whole, edited_reads}
use Rattle.dcm_editor_laws.proofs.ReadBack.TwiceWritten.{edits_whole}
use Rattle.dcm_editor_laws.proofs.ReadBack.RisingReads.{ascending_reads}
use Rattle.dcm_base.specs.declared.vr.Vr.{Vr}

-- ---- the normal form ascends

if_ascends : (last : Option Tag) (t : Tag) (b : Bool) (x y : Trees) → is_above t last ≡ true → Ascend (Some t) x → Ascend last y → Ascend last (if b then x else y)
if_ascends last t true x y p h k = Ascend-weaker last t x p h
if_ascends last t false x y p h k = k

mutual
  unfolding normal

  normal_ascends : (s : Syntax) (last : Option Tag) (x : Trees) → Ascend last x → Ascend last (normal s x)
  normal_ascends s last no_tree a = tt
  normal_ascends s last (leaf t vr v rest) a =
      let w : Vr = normal_vr s t vr (length v) in
      let x : List ℕ = normal_value s t vr v in
      let more = normal_ascends (after s t w x) (Some t) rest a.1 in
      if_ascends last t (t.element == 0) (normal (after s t w x) rest) (leaf t w x (normal (after s t w x) rest)) a.0 more (a.0, more)
  normal_ascends s last (sequence t vr declared items rest) a =
      let more = normal_ascends s (Some t) rest a.2 in
      if_ascends last t (t.element == 0) (normal s rest) (sequence t (normal_sequence_vr s t) Undefined (normal_items s items) (normal s rest)) a.0 more (a.0, normal_items_ascend s items a.1, more)
  normal_ascends s last (fragments t vr values rest) a =
      let more = normal_ascends s (Some t) rest a.1 in
      if_ascends last t (t.element == 0) (normal s rest) (fragments t vr (map (evened 0) values) (normal s rest)) a.0 more (a.0, more)

  normal_items_ascend : (s : Syntax) (x : Items) → ItemsAscend x → ItemsAscend (normal_items s x)
  normal_items_ascend s no_item a = tt
  normal_items_ascend s (item declared set rest) a = (normal_ascends s None set a.0, normal_items_ascend s rest a.1)

-- ---- the law

-- the edited data set reads back, by its normal form
front_again : (s : Syntax) (at : ℕ) (bytes : List ℕ) (f : Front) (x : Trees) → at ≤ INPUT_LIMIT → f ≡ whole_front x → Ascend None x → Reads (target_bar s) s at bytes f complete → Reads ascending_bar s at bytes f complete
front_again s at bytes f x le is a reads =
    subst (λ (g : Front). Reads ascending_bar s at bytes g complete) (sym is)
    (ascending_reads s at bytes x le a (subst (λ (g : Front). Reads (target_bar s) s at bytes g complete) is reads))

whole_ascends : (f : Front) (x : Trees) → f ≡ whole_front x → FrontAscends f → Ascend None x
whole_ascends f x is a = let h : FrontAscends (whole_front x) = subst FrontAscends is a in h.0

edited_is : (s : Syntax) (es : List Edit) (f : Front) (x : Trees) → f ≡ whole_front x → normal_front s (edited es f) ≡ whole_front (normal s (edited_sets es x))
edited_is s es f x is =
    subst (λ (g : Front). normal_front s (edited es g) ≡ whole_front (normal s (edited_sets es x))) (sym is) (ap (normal_front s) (edits_whole es x (last_tag None x)))

pub edited_ascends : (s : Syntax) (words : List (List ℕ)) (edits : List Edit) → meant_edits_in (dictionary_of s) words ≡ Ok edits → (start : ℕ) (bytes : List ℕ) (f : Front) → start ≤ INPUT_LIMIT → AreBytes bytes → Reads ascending_bar s start bytes f complete
    → FrontStays s f → (at : ℕ) → at + length (recode s (edited edits f)) ≤ INPUT_LIMIT → Reads ascending_bar s at (recode s (edited edits f)) (normal_front s (edited edits f)) complete
edited_ascends s words edits mean start bytes f le are reads stay at limit =
    let w = front_whole s start bytes f le are reads in
    front_again s at (recode s (edited edits f)) (normal_front s (edited edits f)) (normal s (edited_sets edits w.trees)) (omega (arith, limit)) (edited_is s edits f w.trees w.is)
    (normal_ascends s None (edited_sets edits w.trees) (Ascend-edited_sets edits w.trees (whole_ascends f w.trees w.is (reads_ascend s start bytes f complete le reads))))
    (edited_reads s words edits mean start bytes f le are reads stay at limit)
