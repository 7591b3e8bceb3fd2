-- A second run with the same edits writes what the first one wrote.
use Rattle.std.proofs.Common.{◌≡◌, ◌∙◌, ap, sym, subst, ℕ, ◌+◌, ◌≤◌, List, length, arith}
use Rattle.dcm_base.specs.declared.syntax.Syntax.{Syntax}
use Rattle.dcm_base.specs.Tables.Number.{AreBytes}
use Rattle.dcm_base.specs.Tree.Front.{Front}
use Rattle.dcm_base.specs.Reading.Stop.{Stop, complete}
use Rattle.dcm_base.specs.Reading.Bars.{ascending_bar}
use Rattle.dcm_base.specs.Reading.Reads.{INPUT_LIMIT, Reads}
use Rattle.dcm_base.specs.Conversion.Recode.{recode}
use Rattle.dcm_base.specs.Conversion.Normal.{normal_front, FrontStays}
use Rattle.dcm_base.proofs.DataSets.OneAnswer.{reads_once}
use Rattle.dcm_edits.specs.Edit.{Edit, edited}
use Rattle.dcm_editor_laws.specs.Repeating.{EraseByNoNumber}
use Rattle.dcm_editor_laws.specs.Modification.{Modifies}
use Rattle.dcm_editor_laws.proofs.ReadBack.TwiceWritten.{edited_twice}
use Rattle.dcm_editor_laws.proofs.ReadBack.EditedAscends.{edited_ascends}

module _ (edits : List Edit) (s : Syntax) (at : ℕ) (f again : Front) (stop : Stop) (h : Modifies edits s at f) (stay : FrontStays s f) (r : EraseByNoNumber edits) (reads : Reads ascending_bar s at (recode s (edited edits f)) again stop) where
  -- what is read again is the normal form
  one : (again ≡ normal_front s (edited edits f)) × (stop ≡ complete)
  one =
      reads_once ascending_bar s at (recode s (edited edits f)) again (normal_front s (edited edits f)) stop complete reads
      (edited_ascends s h.words edits h.mean h.start h.bytes f h.begins h.are_bytes h.reads stay at h.within)

  same : recode s (edited edits again) ≡ recode s (edited edits f)
  same = ap (λ (g : Front). recode s (edited edits g)) one.0 ∙ edited_twice s h.words edits h.mean r h.start h.bytes f h.begins h.are_bytes h.reads

  pub writes_again : (stop ≡ complete) × (recode s (edited edits again) ≡ recode s (edited edits f))
  writes_again = (one.1, same)

  pub modifies_again : AreBytes (recode s (edited edits f)) → Modifies edits s at again
  modifies_again are = record {
    words = h.words;
    mean = h.mean;
    start = at;
    begins = let limit : at + length (recode s (edited edits f)) ≤ INPUT_LIMIT = h.within in omega (arith);
    bytes = recode s (edited edits f);
    are_bytes = are;
    reads = subst (λ (x : Stop). Reads ascending_bar s at (recode s (edited edits f)) again x) one.1 reads;
    within = subst (λ (x : List ℕ). at + length x ≤ INPUT_LIMIT) (sym same) h.within;
  }
