-- What was edited is so for every reader that opens it alike.
use Rattle.std.proofs.Common.{◌≡◌, ◌∙◌, ap, refl, sym, subst, ℕ, ◌+◌, ◌≤◌, List, length}
use Rattle.dcm_base.specs.declared.dictionary.Dictionary.{Dictionary}
use Rattle.dcm_base.specs.declared.dictionary.Dictionary.TheVariants.{Standard}
use Rattle.dcm_base.specs.declared.syntax.Syntax.{Syntax}
use Rattle.dcm_base.specs.declared.tag.Tag.{Tag}
use Rattle.dcm_base.specs.declared.vr.Vr.{Vr}
use Rattle.dcm_base.specs.Reading.Bars.{target_bar}
use Rattle.dcm_base.specs.Tree.Front.{Front}
use Rattle.dcm_base.specs.Conversion.Normal.{normal_front, FrontStays}
use Rattle.dcm_base.specs.Reading.Reads.{INPUT_LIMIT, Reads}
use Rattle.dcm_base.specs.Conversion.Recode.{recode}
use Rattle.dcm_base.specs.Reading.Stop.{Stop, complete}
use Rattle.dcm_base.specs.Tables.Syntax.{dictionary_of, read_by}
use Rattle.dcm_base.proofs.DataSets.OneAnswer.{reads_once}
use Rattle.dcm_edits.specs.Edit.{Edit, edited, erase_all, erase_private, modify_all}
use Rattle.dcm_edits.specs.Overlap.{AreApart, ArePublic}
use Rattle.dcm_edits.proofs.Words.EditWordLemmas.{edits_are_apart}
use Rattle.dcm_edits.proofs.Words.WordValues.{edits_fit}
use Rattle.dcm_editor_laws.specs.Everywhere.{Among, EverywhereIn, HasJust, IsOther, IsPublic, IsWrittenJust}
use Rattle.dcm_editor_laws.specs.Modification.{Modifies, ReadsAgain}
use Rattle.dcm_editor_laws.specs.Others.{any_changes, set_without, KeepsSign}
use Rattle.dcm_editor_laws.specs.Readers.{OpensAlike, ReadsBy}
use Rattle.dcm_editor_laws.proofs.ReadBack.EditedReads.{edited_reads, front_reads, front_ready, own_ready}
use Rattle.dcm_editor_laws.proofs.ReadBack.StaysReady.{FrontReady, edited_ready, AreReady}
use Rattle.dcm_editor_laws.proofs.Trees.Everywhere.{WholeWith}
use Rattle.dcm_editor_laws.proofs.Trees.Gone.{Anything, anything, erased_all, erased_private, front_has, modified_all, values_written, steady_edit}
use Rattle.dcm_editor_laws.proofs.Trees.Others.{others_stay}
use Rattle.dcm_editor_laws.proofs.Words.WordsReady.{edits_ready}
use Rattle.dcm_editor_laws.proofs.Readers.Bytes.{front_alike}
use Rattle.dcm_editor_laws.proofs.Readers.NormalForms.{normal_forms_without}
use Rattle.dcm_editor_laws.proofs.Readers.Renamed.{renamed}
use Rattle.dcm_editor_laws.proofs.Readers.Opened.{front_ready_by, own_opens, standard_opens}
use Rattle.dcm_editor_laws.proofs.ReadBack.Plain.{plain, edits_plain}
use Rattle.dcm_edits.specs.Bounds.{AreWithin}

module _ (edits : List Edit) (s : Syntax) (at : ℕ) (f : Front) (h : Modifies edits s at f) where
  was_ready : FrontReady (plain s) f
  was_ready = front_ready s h.start h.bytes f h.begins h.are_bytes h.reads

  are_ready : AreReady s edits
  are_ready = edits_ready s h.words edits h.mean

  are_within : AreWithin 64 edits
  are_within = (edits_fit (dictionary_of s) h.words edits h.mean).2

  pub is_ready : FrontReady (plain s) (edited edits f)
  is_ready = edited_ready (plain s) edits f are_within (edits_plain s edits are_ready) was_ready

  own_is_ready : FrontStays s f → FrontReady s (edited edits f)
  own_is_ready stay = edited_ready s edits f are_within are_ready (own_ready s h.start h.bytes f h.begins h.are_bytes h.reads stay)

  was_whole : WholeWith Anything f
  was_whole = anything (plain s) f was_ready

  apart : AreApart edits × ArePublic edits
  apart = edits_are_apart (dictionary_of s) h.words edits h.mean

  -- without what edits may change, in the normal form of a syntax
  pub stays_in : (to : Syntax) → KeepsSign to edits → set_without (any_changes edits) (normal_front to (edited edits f)) ≡ set_without (any_changes edits) (normal_front to f)
  stays_in to keep = normal_forms_without edits to keep (edited edits f) f (others_stay edits f was_whole)

  -- what reads back is the normal form
  own_read : FrontStays s f → (again : Front) (stop : Stop) → ReadsAgain edits s at f again stop → (stop ≡ complete) × (again ≡ normal_front s (edited edits f))
  own_read stay again stop reads =
      let own = edited_reads s h.words edits h.mean h.start h.bytes f h.begins h.are_bytes h.reads stay at h.within in
      let one = reads_once (target_bar s) s at (recode s (edited edits f)) again (normal_front s (edited edits f)) stop complete reads own in
      (one.1, one.0)

  pub others_stay_written : FrontStays s f → KeepsSign s edits → (again : Front) (stop : Stop) → ReadsAgain edits s at f again stop → (stop ≡ complete) × (set_without (any_changes edits) again ≡ set_without (any_changes edits) (normal_front s f))
  others_stay_written stay keep again stop reads = let own = own_read stay again stop reads in (own.0, ap (set_without (any_changes edits)) own.1 ∙ stays_in s keep)

  pub standard_opens_alike : FrontStays s f → (e : Dictionary) → dictionary_of s ≡ Standard → OpensAlike e s (edited edits f)
  standard_opens_alike stay e is = standard_opens e s (edited edits f) is (own_is_ready stay)

  pub own_opens_alike : FrontStays s f → OpensAlike (dictionary_of s) s (edited edits f)
  own_opens_alike stay = own_opens s (edited edits f) (own_is_ready stay)

  module _ (e : Dictionary) (opens : OpensAlike e s (edited edits f)) where
    abbrev by : Syntax
    by = read_by e s

    abbrev seen : Front
    seen = normal_front by (edited edits f)

    pub edited_reads_by : ReadsBy e edits s at f seen complete
    edited_reads_by =
        let same : recode by (edited edits f) ≡ recode s (edited edits f) = front_alike e s (plain s) (edited edits f) is_ready in
        subst (λ (bytes : List ℕ). Reads (target_bar by) by at bytes seen complete) same
        (front_reads by at (edited edits f) (front_ready_by e s (edited edits f) opens is_ready) (subst (λ (bytes : List ℕ). at + length bytes ≤ INPUT_LIMIT) (sym same) h.within))

    -- what is so of the normal form is so of what is read
    so_read : (P : Front → Type 0) (again : Front) (stop : Stop) → ReadsBy e edits s at f again stop → P seen → (stop ≡ complete) × P again
    so_read P again stop reads p =
        let one = reads_once (target_bar by) by at (recode s (edited edits f)) seen again complete stop edited_reads_by reads in
        (sym one.1, subst P one.0 p)

    pub without_it : (tag : Tag) → Among (erase_all tag) edits → EverywhereIn (IsOther tag) seen
    without_it tag among = front_has by (IsOther tag) (IsOther tag) (λ t vr w v x k. k) (λ t k. k) (edited edits f) (erased_all tag edits f among apart.0 apart.1 was_whole)

    pub without_private : Among erase_private edits → EverywhereIn IsPublic seen
    without_private among = front_has by IsPublic IsPublic (λ t vr w v x k. k) (λ t k. k) (edited edits f) (erased_private edits f among apart.0 apart.1 was_whole)

    pub with_value : (tag : Tag) (vr : Vr) (value : List ℕ) → Among (modify_all tag vr value) edits → EverywhereIn (IsWrittenJust by tag vr value) seen
    with_value tag vr value among =
        values_written by tag vr value (edited edits f) (steady_edit s tag vr value edits among are_ready) (modified_all tag vr value edits f among apart.0 apart.1 was_whole)

    -- ---- the laws

    pub reads_alike : FrontStays s f → (again other : Front) (stop end : Stop) → ReadsAgain edits s at f again stop → ReadsBy e edits s at f other end → other ≡ normal_front by again
    reads_alike stay again other stop end own reads =
        let two = so_read (λ (g : Front). g ≡ normal_front by (edited edits f)) other end reads refl in
        two.1 ∙ sym (ap (normal_front by) (own_read stay again stop own).1 ∙ renamed e s (edited edits f))

    pub none_is_left : (again : Front) (stop : Stop) (tag : Tag) → Among (erase_all tag) edits → ReadsBy e edits s at f again stop → (stop ≡ complete) × EverywhereIn (IsOther tag) again
    none_is_left again stop tag among reads = so_read (EverywhereIn (IsOther tag)) again stop reads (without_it tag among)

    pub no_private_is_left : (again : Front) (stop : Stop) → Among erase_private edits → ReadsBy e edits s at f again stop → (stop ≡ complete) × EverywhereIn IsPublic again
    no_private_is_left again stop among reads = so_read (EverywhereIn IsPublic) again stop reads (without_private among)

    pub all_are_modified : (again : Front) (stop : Stop) (tag : Tag) (vr : Vr) (value : List ℕ) → Among (modify_all tag vr value) edits → ReadsBy e edits s at f again stop → (stop ≡ complete) × EverywhereIn (IsWrittenJust by tag vr value) again
    all_are_modified again stop tag vr value among reads = so_read (EverywhereIn (IsWrittenJust by tag vr value)) again stop reads (with_value tag vr value among)

    pub others_stay_by : KeepsSign by edits → (again : Front) (stop : Stop) → ReadsBy e edits s at f again stop → (stop ≡ complete) × (set_without (any_changes edits) again ≡ set_without (any_changes edits) (normal_front by f))
    others_stay_by keep again stop reads = so_read (λ (g : Front). set_without (any_changes edits) g ≡ set_without (any_changes edits) (normal_front by f)) again stop reads (stays_in by keep)
