-- What dcmdeid makes of a data set, by the sink that takes identity out before the encode sink.
use Rattle.std.proofs.Common.{◌≡◌, ◌∙◌, ap, sym, subst, ℕ, ◌≤◌, List, ◌++◌, fold, Bool, false, Option, refl}
use Rattle.dcm_base.specs.declared.syntax.Coding.{Coding}
use Rattle.dcm_base.specs.declared.syntax.Syntax.{Syntax}
use Rattle.dcm_base.specs.Conversion.NewMeta.{new_meta, renewed}
use Rattle.dcm_base.specs.Conversion.Recode.{recode}
use Rattle.dcm_base.specs.File.MetaReads.{PREFIX}
use Rattle.dcm_base.specs.Reading.Bars.{identity_bar}
use Rattle.dcm_base.specs.Reading.Reads.{INPUT_LIMIT, Reads}
use Rattle.dcm_base.specs.Reading.Stop.{Stop, complete}
use Rattle.dcm_base.specs.Steps.Atoms.{Atom, front_atoms, is_closed}
use Rattle.dcm_base.specs.Steps.Steps.{outputs}
use Rattle.dcm_base.specs.Tree.Front.{Front}
use Rattle.dcm_stream.specs.Judging.{bars_head}
use Rattle.dcm_sinks.specs.EncodeSink.{EncodeState, encode_start, encode_step, encode_writes}
use Rattle.dcm_editor.proofs.EditSinks.DrivesEdits.{BarsShallowAs}
use Rattle.dcm_editor.proofs.ReadBack.EditReads.{shown_whole, shown_so_far}
use Rattle.dcm_editor.proofs.ReadBack.IdentityBar.{identity, identity_in_order}
use Rattle.dcm_deid.specs.MadeNew.{made_new}
use Rattle.dcm_deid.specs.declared.fate.Options.{Options}
use Rattle.dcm_deid.specs.DeidentifySink.{State as DeidentifyState, begun, next, passed}
use Rattle.dcm_deid.specs.Meta.{implementation, meta_renewing, no_preamble}
use Rattle.dcm_deid.specs.Saying.{deidentified}
use Rattle.dcm_deid.specs.Through.{through_bar, through_step, through_writes}
use Rattle.dcm_deid.proofs.Bars.{bar_steps}
use Rattle.dcm_deid.proofs.Through.{through_fold, through_outputs}
use Rattle.dcm_deid.specs.Patient.{PatientState}
use Rattle.dcm_deid.specs.WithPatient.{is_unnamed, noted, noting, noting_bar, noting_step, noting_writes}
use Rattle.dcm_deid.proofs.NotedPatient.{noting_fold, noting_outputs}
use Rattle.dcm_cli.specs.declared.ending.Ending.{Ending}
use Rattle.dcm_cli.specs.declared.ending.Ending.TheVariants.{Worked, Unread}
use Rattle.dcm_cli.specs.declared.ending.Remarks.{Remarks}
use Rattle.dcm_cli.specs.DeidentifyPass.{ends_whole}
use Rattle.dcm_cli.specs.Remarks.{remarks_at}
use Rattle.dcm_cli.specs.Run.{verdict_of_stop}
use Rattle.dcm_words.specs.Words.{deidentify}
use Rattle.dcm_cli.specs.Answer.{going_on, shows_identity}
use Rattle.dcm_cli.proofs.Passes.DeidentifyReads.{closed_so, dates_known, dates_so_far, deidentify_encodes, pixels_known, unnamed_known, unnamed_so_far}
use Rattle.dcm_cli.proofs.Passes.Files.{FileMaker}
use Rattle.dcm_cli.proofs.Passes.Makers.{Maker, drives_as}
use Rattle.dcm_cli.proofs.Passes.Sets.{Last, SoFar, going_back}

module _ (options : Options) (key : List ℕ) where
  abbrev BothStates : Type 0
  BothStates = DeidentifyState × EncodeState

  abbrev pub FileState : Type 0
  FileState = Option PatientState × BothStates

  abbrev pub first_noted : Option PatientState
  first_noted = noting options.pseudonyms

  abbrev pub first_both : (target : Syntax) → BothStates
  first_both target = (begun options key, encode_start target)

  -- the states of all three, one by one
  both_fold : (target : Syntax) (atoms : List Atom) → fold (through_step encode_step) (first_both target) atoms ≡ (fold next (begun options key) atoms, fold encode_step (encode_start target) (outputs next passed (begun options key) atoms))
  both_fold target atoms = through_fold encode_step encode_writes (begun options key) (encode_start target) atoms

  pub all_fold : (target : Syntax) (atoms : List Atom)
      → fold (noting_step (through_step encode_step)) (first_noted, first_both target) atoms ≡ (fold noted first_noted atoms, (fold next (begun options key) atoms, fold encode_step (encode_start target) (outputs next passed (begun options key) atoms)))
  all_fold target atoms =
      noting_fold (through_step encode_step) (through_writes encode_step encode_writes) first_noted (first_both target) atoms
      ∙ ap (λ (b : BothStates). (fold noted first_noted atoms, b)) (both_fold target atoms)

  pub all_outputs : (target : Syntax) (atoms : List Atom) → outputs (noting_step (through_step encode_step)) (noting_writes (through_writes encode_step encode_writes)) (first_noted, first_both target) atoms ≡ outputs encode_step encode_writes (encode_start target) (outputs next passed (begun options key) atoms)
  all_outputs target atoms =
      noting_outputs (through_step encode_step) (through_writes encode_step encode_writes) first_noted (first_both target) atoms
      ∙ through_outputs encode_step encode_writes (begun options key) (encode_start target) atoms

  -- the sink bars for all
  pub through_shallow : (target : Syntax) → BarsShallowAs identity_bar (noting_bar through_bar) (noting_step (through_step encode_step)) (first_noted, first_both target)
  through_shallow target = λ f atoms tag vr declared h shown.
      ap (λ (p : FileState). bars_head (noting_bar through_bar) p tag vr declared) (all_fold target atoms)
      ∙ bar_steps options key f atoms tag vr declared h shown

  -- the data set without identity in a syntax
  abbrev pub deidentifier : (target : Syntax) → Maker identity_bar (λ f. recode target (deidentified options (made_new options key) f))
  deidentifier target = record {
    State = FileState;
    bars = noting_bar through_bar;
    step = noting_step (through_step encode_step);
    writes = noting_writes (through_writes encode_step encode_writes);
    first = (first_noted, first_both target);
    drives = drives_as identity identity_bar identity_in_order (noting_bar through_bar) (noting_step (through_step encode_step)) (noting_writes (through_writes encode_step encode_writes)) (first_noted, first_both target) (through_shallow target);
    whole = λ s start bytes f stop le reads.
        all_outputs target (front_atoms s f) ∙ deidentify_encodes target options key s f (shown_whole identity identity_bar identity_in_order s start bytes f stop le reads);
    so_far = λ s start bytes f stop le closed reads.
        all_outputs target (front_atoms s f) ∙ deidentify_encodes target options key s f (shown_so_far identity identity_bar identity_in_order s start bytes f stop le closed reads);
  }

  abbrev pub file_deidentifier : (reports : Bool) (coding : Coding) → FileMaker (deidentify options reports key) coding
  file_deidentifier reports coding = record {
    header = λ m. no_preamble ++ PREFIX ++ new_meta (renewed (meta_renewing options key) implementation m.elements) m.uid;
    text = λ f. recode coding.syntax (deidentified options (made_new options key) f);
    maker = deidentifier coding.syntax;
    output_is = λ m f. refl;
  }

  -- whether pixels may show identity, after all of a data set
  pub last_shows : (target s : Syntax) (start : ℕ) (le : start ≤ INPUT_LIMIT) (bytes : List ℕ) (f : Front) (t : FileState) → Reads identity_bar s start bytes f complete → Last (deidentifier target) s start le t f
      → t.1.0.place.seen.may_show ≡ shows_identity options key f
  last_shows target s start le bytes f t reads last =
      ap (λ (p : FileState). p.1.0.place.seen.may_show) (last ∙ all_fold target (front_atoms s f))
      ∙ pixels_known options key s start bytes f le reads

  -- what is remarked by the states of the sinks
  abbrev pub state_remarks : FileState → Ending → Remarks
  state_remarks t passed = record { unnamed = is_unnamed t.0 (ends_whole passed); emptied = t.1.0.place.seen.emptied; unknown = false }

  pub both_remarked : (unnamed also : Bool) (count as_many : ℕ) → unnamed ≡ also → count ≡ as_many → ◌≡◌ {A = Remarks} (record { unnamed = unnamed; emptied = count; unknown = false }) (record { unnamed = also; emptied = as_many; unknown = false })
  both_remarked unnamed also count as_many p q = cc

  -- of what was read of a data set
  pub last_remarks : (reports : Bool) (target s : Syntax) (start : ℕ) (le : start ≤ INPUT_LIMIT) (bytes : List ℕ) (f : Front) (stop : Stop) (t : FileState) → Reads identity_bar s start bytes f stop → Last (deidentifier target) s start le t f
      → state_remarks t (Worked (verdict_of_stop stop)) ≡ remarks_at (deidentify options reports key) f
  last_remarks reports target s start le bytes f stop t reads last =
      let is = last ∙ all_fold target (front_atoms s f) in
      both_remarked _ _ _ _
      (ap (is_unnamed t.0) (closed_so s start bytes f stop reads) ∙ ap (λ (p : FileState). is_unnamed p.0 (is_closed f)) is ∙ unnamed_known options.pseudonyms s start bytes f stop le reads)
      (ap (λ (p : FileState). p.1.0.place.seen.emptied) is ∙ dates_known options key s start bytes f stop le reads)

  -- or may go on
  pub remarks_so_far : (reports : Bool) (target s : Syntax) (start : ℕ) (le : start ≤ INPUT_LIMIT) (bytes : List ℕ) (f : Front) (stop : Stop) (count : ℕ) (t : FileState) → Reads identity_bar s start bytes f stop → SoFar (Last (deidentifier target) s start le) t f stop
      → state_remarks t (Unread count) ≡ remarks_at (deidentify options reports key) (going_on f)
  remarks_so_far reports target s start le bytes f stop count t reads left =
      let is = left.last ∙ all_fold target (front_atoms s left.read) in
      let here = subst (λ (g : Front). Reads identity_bar s start bytes g stop) left.is reads in
      both_remarked _ _ _ _
      (ap (λ (p : FileState). is_unnamed p.0 false) is ∙ unnamed_so_far options.pseudonyms s start bytes left.read stop le left.not_closed here)
      (ap (λ (p : FileState). p.1.0.place.seen.emptied) is ∙ dates_so_far options key s start bytes left.read stop le left.not_closed here)
      ∙ ap (remarks_at (deidentify options reports key)) (sym (ap going_on left.is ∙ going_back stop left.read left.not_closed))
