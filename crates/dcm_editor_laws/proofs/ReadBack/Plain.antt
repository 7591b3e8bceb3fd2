-- What is written has room where an explicit syntax is read by the extract, to which what is unknown is no sequence.
use Rattle.std.proofs.Common.{◌≡◌, ◌≢◌, ℕ, List, [], ◌∷◌, length, refl}
use Rattle.dcm_base.specs.declared.form.Form.TheVariants.{Value as a_value, Sequence as a_sequence}
use Rattle.dcm_base.specs.declared.length.Length.TheVariants.{Known, Undefined}
use Rattle.dcm_base.specs.declared.dictionary.Dictionary.{Dictionary}
use Rattle.dcm_base.specs.declared.dictionary.Dictionary.TheVariants.{Extract}
use Rattle.dcm_base.specs.declared.syntax.Syntax.{Syntax}
use Rattle.dcm_base.specs.declared.syntax.Syntax.TheVariants.{Implicit as implicit_in, Little as little_in, Big as big_in}
use Rattle.dcm_base.specs.declared.tag.Tag.{Tag}
use Rattle.dcm_base.specs.declared.vr.Vr.{Vr}
use Rattle.dcm_base.specs.declared.vr.Vr.TheVariants.{SQ}
use Rattle.dcm_base.specs.Bytes.Spelling.{form}
use Rattle.dcm_base.specs.Conversion.Normal.{normal_vr, normal_sequence_vr, FrontFits}
use Rattle.dcm_base.specs.Conversion.Recode.{even}
use Rattle.dcm_base.specs.Reading.Bars.{target_bar}
use Rattle.dcm_base.specs.Reading.Reads.{Reads}
use Rattle.dcm_base.specs.Reading.Stop.{Bar, Stop}
use Rattle.dcm_base.specs.Tree.Front.{Front}
use Rattle.dcm_base_laws.proofs.DataSets.ImplicitLengths.{extract_fits, implicit_fits}
use Rattle.dcm_sinks.proofs.ReadBack.Sources.{spelled_no_sequence}
use Rattle.dcm_edits.specs.Edit.{PathEdit, step, insert, modify, erase, erase_item, Edit, on_path, modify_all, erase_all, erase_private, elsewhere}
use Rattle.dcm_editor_laws.proofs.ReadBack.StaysReady.{LeafReady, StepReady, PathReady, EditReady, AreReady}

abbrev pub plain : Syntax → Syntax
plain (implicit_in d) = implicit_in d
plain (little_in d) = little_in Extract
plain (big_in d) = big_in Extract

-- what is read fits it
pub plain_fits : (s : Syntax) (bar : Bar) (start : ℕ) (bytes : List ℕ) (f : Front) (stop : Stop) → Reads bar s start bytes f stop → FrontFits (plain s) f
plain_fits (implicit_in d) bar start bytes f stop h = implicit_fits d (implicit_in d) bar start bytes f stop refl h
plain_fits (little_in d) bar start bytes f stop h = extract_fits (little_in Extract) f refl refl
plain_fits (big_in d) bar start bytes f stop h = extract_fits (big_in Extract) f refl refl

-- its bar is the same
pub plain_read : (s : Syntax) (start : ℕ) (bytes : List ℕ) (f : Front) (stop : Stop) → Reads (target_bar s) s start bytes f stop → Reads (target_bar (plain s)) s start bytes f stop
plain_read (implicit_in d) start bytes f stop h = h
plain_read (little_in d) start bytes f stop h = h
plain_read (big_in d) start bytes f stop h = h

-- ---- the elements that edits name

value_form : (s : Syntax) (vr : Vr) (n : ℕ) → vr ≢ SQ → form s vr (Known n) ≡ a_value
unfolding form
value_form s SQ n h = absurd (h refl)
value_form s _ n h = refl

sequence_form : (s : Syntax) → form s SQ Undefined ≡ a_sequence
unfolding form
sequence_form s = refl

leaf_plain : (s : Syntax) (t : Tag) (vr : Vr) (v : List ℕ) → LeafReady s t vr v → LeafReady (plain s) t vr v
leaf_plain (implicit_in d) t vr v h = h
leaf_plain (little_in d) t vr v h =
    let w : Vr = normal_vr (little_in d) t vr (length v) in
    let n : ℕ = even (length v) in
    (h.0, h.1, value_form (little_in Extract) w n (spelled_no_sequence (little_in d) t w n h.2))
leaf_plain (big_in d) t vr v h =
    let w : Vr = normal_vr (big_in d) t vr (length v) in
    let n : ℕ = even (length v) in
    (h.0, h.1, value_form (big_in Extract) w n (spelled_no_sequence (big_in d) t w n h.2))

step_plain : (s : Syntax) (t : Tag) → StepReady s t → StepReady (plain s) t
step_plain (implicit_in d) t h = h
step_plain (little_in d) t h = (h.0, sequence_form (little_in Extract))
step_plain (big_in d) t h = (h.0, sequence_form (big_in Extract))

path_plain : (s : Syntax) (e : PathEdit) → PathReady s e → PathReady (plain s) e
path_plain s (step tag index edit) h = (step_plain s tag h.0, path_plain s edit h.1)
path_plain s (insert tag vr value) h = leaf_plain s tag vr value h
path_plain s (modify tag vr value) h = leaf_plain s tag vr value h
path_plain s (erase tag) h = tt
path_plain s (erase_item tag index) h = tt

edit_plain : (s : Syntax) (e : Edit) → EditReady s e → EditReady (plain s) e
edit_plain s (on_path edit) h = path_plain s edit h
edit_plain s (modify_all tag vr value) h = (leaf_plain s tag vr value h.0, h.1)
edit_plain s (erase_all tag) h = tt
edit_plain s erase_private h = tt
edit_plain s elsewhere h = tt

pub edits_plain : (s : Syntax) (es : List Edit) → AreReady s es → AreReady (plain s) es
edits_plain s [] h = tt
edits_plain s (e ∷ es) h = (edit_plain s e h.0, edits_plain s es h.1)
