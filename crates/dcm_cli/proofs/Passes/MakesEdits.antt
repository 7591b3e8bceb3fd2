-- What dcmodify makes of a data set, by the edit sink before the encode sink.
use Rattle.std.proofs.Common.{◌≡◌, ◌∙◌, ap, ℕ, ◌≤◌, List, ◌++◌, length, refl}
use Rattle.std.specs.Prelude.{map}
use Rattle.dcm_base.specs.declared.syntax.Coding.{Coding}
use Rattle.dcm_base.specs.declared.syntax.Syntax.{Syntax}
use Rattle.dcm_base.specs.Steps.Atoms.{Atom, front_atoms}
use Rattle.dcm_base.specs.Reading.Bars.{ascending_bar}
use Rattle.dcm_base.specs.Tree.Front.{Front}
use Rattle.dcm_base.specs.File.MetaReads.{PREFIX}
use Rattle.dcm_base.specs.Conversion.NewMeta.{new_meta}
use Rattle.dcm_base.specs.Reading.Reads.{INPUT_LIMIT, Reads}
use Rattle.dcm_base.specs.Conversion.Recode.{recode}
use Rattle.dcm_base.specs.Reading.Stop.{Stop}
use Rattle.dcm_base.specs.declared.dictionary.Dictionary.{Dictionary}
use Rattle.dcm_stream.specs.Ascending.{ascending}
use Rattle.dcm_stream.specs.Judging.{bars_head}
use Rattle.dcm_sinks.specs.EncodeSink.{EncodeState, encode_start, encode_step, encode_writes}
use Rattle.dcm_edits.specs.Edit.{Edit, edited, found}
use Rattle.dcm_editor.specs.EditSink.{State as EditState, BarsShallow, begun}
use Rattle.dcm_edits.specs.Bounds.{AreWithin, HaveShortIndexes, HaveValues}
use Rattle.dcm_edits.specs.Meaning.{AreMeant}
use Rattle.dcm_edits.specs.Overlap.{AreApart, ArePublic}
use Rattle.dcm_editor.specs.Through.{through_bar, through_step, through_writes}
use Rattle.dcm_editor.proofs.EditSinks.DrivesEdits.{edit_bars}
use Rattle.dcm_edits.proofs.Words.EditCount.{few}
use Rattle.dcm_editor.proofs.ReadBack.Rises.{in_order}
use Rattle.dcm_editor.proofs.ReadBack.EditReads.{edit_reads_whole, edit_reads_so_far}
use Rattle.dcm_edits.proofs.Words.EditWordLemmas.{edits_are_apart}
use Rattle.dcm_editor.proofs.EditSinks.Through.{through_fold, through_outputs}
use Rattle.dcm_edits.proofs.Words.WordValues.{edits_fit}
use Rattle.dcm_words.specs.Words.{modify}
use Rattle.dcm_cli.proofs.Passes.Files.{FileMaker}
use Rattle.dcm_cli.proofs.Passes.Makers.{Maker, drives_as}
use Rattle.dcm_cli.proofs.Passes.Sets.{Last}

-- the edit sink bars for both
pub through_shallow : {T : Type 0} (step : T → Atom → T) (writes : T → Atom → List ℕ) (edits : List Edit) (first : T) → HaveShortIndexes edits → BarsShallow through_bar (through_step step) (begun edits, first)
through_shallow {T} step writes edits first x = λ f atoms tag vr declared h shown.
    ap (λ (p : EditState × T). bars_head through_bar p tag vr declared) (through_fold step writes (begun edits) first atoms) ∙ edit_bars edits x f atoms tag vr declared h shown

-- of edits that words mean
module _ (d : Dictionary) (edits : List Edit) (meant : AreMeant edits) where
  pub apart : AreApart edits × ArePublic edits
  apart = edits_are_apart meant.dictionary meant.words edits meant.mean

  pub fit : HaveValues edits × HaveShortIndexes edits × AreWithin 64 edits
  fit = edits_fit meant.dictionary meant.words edits meant.mean

  pub are_few : length edits ≤ 64
  are_few = few meant.dictionary meant.words edits meant.mean

  -- the edited data set in a syntax
  abbrev pub editor : (target : Syntax) → Maker ascending_bar (λ f. recode target (edited edits f))
  editor target = record {
    State = EditState × EncodeState;
    bars = through_bar;
    step = through_step encode_step;
    writes = through_writes encode_step encode_writes;
    first = (begun edits, encode_start target);
    drives = drives_as ascending ascending_bar in_order through_bar (through_step encode_step) (through_writes encode_step encode_writes) (begun edits, encode_start target)
        (through_shallow encode_step encode_writes edits (encode_start target) fit.1);
    whole = λ s start bytes f stop le reads.
        through_outputs encode_step encode_writes (begun edits) (encode_start target) (front_atoms s f) ∙ (edit_reads_whole target edits apart.0 apart.1 fit.0 fit.1 fit.2 s start bytes f stop le reads).0;
    so_far = λ s start bytes f stop le closed reads.
        through_outputs encode_step encode_writes (begun edits) (encode_start target) (front_atoms s f) ∙ (edit_reads_so_far target edits apart.0 apart.1 fit.0 fit.1 fit.2 s start bytes f stop le closed reads).0;
  }

  abbrev pub file_editor : (coding : Coding) → FileMaker (modify d edits) coding
  file_editor coding = record {
    header = λ m. m.preamble ++ PREFIX ++ new_meta m.elements m.uid;
    text = λ f. recode coding.syntax (edited edits f);
    maker = editor coding.syntax;
    output_is = λ m f. refl;
  }

  -- the edits that have found their place in all of a data set
  pub last_found : (target s : Syntax) (start : ℕ) (le : start ≤ INPUT_LIMIT) (bytes : List ℕ) (f : Front) (stop : Stop) (t : EditState × EncodeState) → Reads ascending_bar s start bytes f stop → Last (editor target) s start le t f → t.0.found ≡ map (λ (e : Edit). found e f) edits
  last_found target s start le bytes f stop t reads last =
      ap (λ (p : EditState × EncodeState). p.0.found) (last ∙ through_fold encode_step encode_writes (begun edits) (encode_start target) (front_atoms s f))
      ∙ (edit_reads_whole target edits apart.0 apart.1 fit.0 fit.1 fit.2 s start bytes f stop le reads).1
