-- The heads of a data set without fragment lists may come where these are barred.
use Rattle.std.proofs.Common.{◌≡◌, ◌∙◌, ap, sym, refl, ℕ, suc, List, length, Some, None, Bool, false, cond}
use Rattle.dcm_base.specs.declared.dictionary.Dictionary.TheVariants.{Extract, Standard, Signed}
use Rattle.dcm_base.specs.declared.fault.Fault.TheVariants.{FragmentsBarred}
use Rattle.dcm_base.specs.declared.form.Form.TheVariants.{Sequence as a_sequence}
use Rattle.dcm_base.specs.declared.length.Length.{Length}
use Rattle.dcm_base.specs.declared.length.Length.TheVariants.{Known, Undefined}
use Rattle.dcm_base.specs.declared.syntax.Syntax.{Syntax}
use Rattle.dcm_base.specs.declared.syntax.Syntax.TheVariants.{Implicit as implicit_in, Little as little_in, Big as big_in}
use Rattle.dcm_base.specs.declared.tag.Tag.{Tag}
use Rattle.dcm_base.specs.declared.vr.Vr.{Vr}
use Rattle.dcm_base.specs.declared.vr.Vr.TheVariants.{SQ, UN, OB, OW}
use Rattle.dcm_base.specs.Tables.Syntax.{Little}
use Rattle.dcm_base.specs.Tables.Tag.{item_end_tag, sequence_end_tag}
use Rattle.dcm_base.specs.Tree.Tree.{Trees, no_tree, leaf, sequence, fragments, Items, no_item, item}
use Rattle.dcm_base.specs.Bytes.Spelling.{TreesAt, ItemsAt, inside, after, form, read_as}
use Rattle.dcm_base.specs.Reading.Bars.{is_fragment_form}
use Rattle.dcm_base.specs.Reading.Stop.{HeadBar}
use Rattle.dcm_sound.specs.Sound.{HasNoFragments, HaveNoFragments}
use Rattle.dcm_sound.proofs.Spelled.Free.{free, enclosed_at}
use Rattle.dcm_sound.proofs.Spelled.Left.{MayCome, ItemsMayCome}

-- fragment lists are barred
abbrev pub native : HeadBar
native tag vr declared = cond (is_fragment_form (form Little vr declared)) (Some FragmentsBarred) None

unbarred : (t : Bool) → t ≡ false → cond t (Some FragmentsBarred) None ≡ None
unbarred t e = ap (λ (x : Bool). cond x (Some FragmentsBarred) None) e

known_form : (vr : Vr) (n : ℕ) → is_fragment_form (form Little vr (Known n)) ≡ false
unfolding form
known_form SQ n = refl
known_form vr n = refl

read_ob : (s : Syntax) (tag : Tag) → read_as s tag OB ≡ OB
read_ob (implicit_in d) tag = refl
read_ob (little_in Extract) tag = refl
read_ob (little_in Standard) tag = refl
read_ob (little_in Signed) tag = refl
read_ob (big_in Extract) tag = refl
read_ob (big_in Standard) tag = refl
read_ob (big_in Signed) tag = refl

read_ow : (s : Syntax) (tag : Tag) → read_as s tag OW ≡ OW
read_ow (implicit_in d) tag = refl
read_ow (little_in Extract) tag = refl
read_ow (little_in Standard) tag = refl
read_ow (little_in Signed) tag = refl
read_ow (big_in Extract) tag = refl
read_ow (big_in Standard) tag = refl
read_ow (big_in Signed) tag = refl

no_sequence_ob : (s : Syntax) → form s OB Undefined ≡ a_sequence → ⊥
unfolding form
no_sequence_ob (implicit_in d) e = cc
no_sequence_ob (little_in d) e = cc
no_sequence_ob (big_in d) e = cc

no_sequence_ow : (s : Syntax) → form s OW Undefined ≡ a_sequence → ⊥
unfolding form
no_sequence_ow (implicit_in d) e = cc
no_sequence_ow (little_in d) e = cc
no_sequence_ow (big_in d) e = cc

-- what is a sequence is no fragment list
sequence_form : (s : Syntax) (tag : Tag) (vr : Vr) (declared : Length) → form s (read_as s tag vr) declared ≡ a_sequence → is_fragment_form (form Little vr declared) ≡ false
unfolding form
sequence_form s tag vr (Known n) e = known_form vr n
sequence_form s tag SQ Undefined e = refl
sequence_form s tag UN Undefined e = refl
sequence_form s tag OB Undefined e = absurd (no_sequence_ob s (sym (ap (λ (v : Vr). form s v Undefined) (read_ob s tag)) ∙ e))
sequence_form s tag OW Undefined e = absurd (no_sequence_ow s (sym (ap (λ (v : Vr). form s v Undefined) (read_ow s tag)) ∙ e))
sequence_form s tag vr Undefined e = refl

mutual
  unfolding TreesAt HasNoFragments MayCome

  pub may_come_native : (s : Syntax) (n : ℕ) (x : Trees) (b p : List ℕ) → TreesAt s x b p → HasNoFragments x → MayCome free n x → MayCome native n x
  may_come_native s n no_tree b p at h may = tt
  may_come_native s n (leaf tag vr value rest) b p (others, fo, head, more) h may =
      (may.0, unbarred _ (known_form vr (length value)), may_come_native (after s tag vr value) n rest others p more h may.2)
  may_come_native s n (sequence tag vr declared items rest) b p (contents, others, fo, head, inner, more) h may = (
    may.0,
    unbarred _ (sequence_form s tag vr declared fo),
    may.2,
    enclosed_at (inside s vr) sequence_end_tag declared (ItemsAt (inside s vr) items) (ItemsMayCome native (suc n) items) contents others (λ c q r. items_may_come_native (inside s vr) (suc n) items c q r h.0 may.3) inner,
    may_come_native s n rest others p more h.1 may.4,
  )
  may_come_native s n (fragments tag vr values rest) b p at h may = absurd h

  items_may_come_native : (s : Syntax) (n : ℕ) (x : Items) (b p : List ℕ) → ItemsAt s x b p → HaveNoFragments x → ItemsMayCome free n x → ItemsMayCome native n x
  items_may_come_native s n no_item b p at h may = tt
  items_may_come_native s n (item declared set rest) b p (contents, others, head, inner, more) h may =
      (enclosed_at s item_end_tag declared (TreesAt s set) (MayCome native n set) contents others (λ c q r. may_come_native s n set c q r h.0 may.0) inner, items_may_come_native s n rest others p more h.1 may.1)
