-- What is written of an edited data set is bytes.
use Rattle.std.proofs.Common.{◌≡◌, ◌∙◌, ap, sym, subst, ℕ, ◌≤◌, List, [], ◌∷◌, None, Ok}
use Rattle.dcm_base.specs.declared.syntax.Syntax.{Syntax}
use Rattle.dcm_base.specs.Tables.Number.{AreBytes}
use Rattle.dcm_base.specs.Tree.Tree.{Trees}
use Rattle.dcm_base.specs.Tree.Front.{Front}
use Rattle.dcm_base.specs.Bytes.Spelling.{last_tag, TreesAt}
use Rattle.dcm_base.specs.Reading.Stop.{complete}
use Rattle.dcm_base.specs.Reading.Bars.{ascending_bar, target_bar}
use Rattle.dcm_base.specs.Reading.Reads.{INPUT_LIMIT, Reads}
use Rattle.dcm_base.specs.Conversion.Recode.{recode, recode_set}
use Rattle.dcm_base.proofs.DataSets.OwnSyntax.{own_reads}
use Rattle.dcm_base_laws.proofs.DataSets.InOrder.{unbarred_reads}
use Rattle.dcm_base.proofs.DumpsBack.Texts.{Bytes, bytes_of}
use Rattle.dcm_base.specs.Tables.Syntax.{dictionary_of}
use Rattle.dcm_sinks.proofs.ReadBack.RecodeReads.{Whole, source_whole}
use Rattle.dcm_sinks.proofs.ReadBack.Sources.{a_byte}
use Rattle.dcm_edits.specs.Edit.{Edit, edited, edited_sets}
use Rattle.dcm_edits.specs.EditWords.{meant_edits_in}
use Rattle.dcm_editor_laws.specs.Modification.{OfBytes}
use Rattle.dcm_editor_laws.proofs.ReadBack.TwiceWritten.{front_recodes}
use Rattle.dcm_edits.proofs.Words.WordValues.{AllFine}
use Rattle.dcm_editor.proofs.ReadBack.BytesRead.{trees_read}
use Rattle.dcm_editor_laws.proofs.ReadBack.BytesKept.{AllEditBytes, edited_bytes, set_written}
use Rattle.dcm_editor_laws.proofs.Words.WordBytes.{words_bytes}

fine_words : (words : List (List ℕ)) → OfBytes words → AllFine Bytes words
fine_words [] h = tt
fine_words (w ∷ words) h = (bytes_of w h.0, fine_words words h.1)

set_bytes : (s : Syntax) (edits : List Edit) (x : Trees) (bytes : List ℕ) → AllEditBytes edits → TreesAt s x bytes [] → Bytes bytes → Bytes (recode_set s (edited_sets edits x))
set_bytes s edits x bytes fine spelled are = set_written s (edited_sets edits x) (edited_bytes edits x fine (trees_read s x bytes [] spelled are).0)

pub edited_is_bytes : (s : Syntax) (words : List (List ℕ)) (edits : List Edit) → OfBytes words → meant_edits_in (dictionary_of s) words ≡ Ok edits → (start : ℕ) (bytes : List ℕ) (f : Front) → start ≤ INPUT_LIMIT → AreBytes bytes
    → Reads ascending_bar s start bytes f complete → AreBytes (recode s (edited edits f))
edited_is_bytes s words edits fine mean start bytes f le are reads =
    let own : Reads (target_bar s) s start bytes f complete = own_reads s start bytes f complete (unbarred_reads s start bytes f complete (λ offset e. cc) reads) in
    let w : Whole s bytes f = source_whole s s start bytes f le are own in
    let is : recode s (edited edits f) ≡ recode_set s (edited_sets edits w.trees) = ap (λ (g : Front). recode s (edited edits g)) w.is ∙ front_recodes s edits w.trees (last_tag None w.trees) in
    let written : Bytes (recode s (edited edits f)) = subst Bytes (sym is) (set_bytes s edits w.trees bytes (words_bytes (dictionary_of s) words edits (fine_words words fine) mean) w.spelled (bytes_of bytes are)) in
    λ i. a_byte (recode s (edited edits f)) i written
