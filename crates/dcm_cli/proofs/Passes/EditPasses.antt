-- A file through edits: what its run has come to.
use Rattle.std.proofs.Common.{◌≡◌, ◌∙◌, ap, sym, ℕ, ◌+◌, List, ◌++◌, length, true, Option, Some, None, refl}
use Rattle.dcm_base.specs.Reading.Stop.{complete}
use Rattle.dcm_base.specs.declared.dictionary.Dictionary.{Dictionary}
use Rattle.dcm_stream.specs.Reading.{start_of}
use Rattle.dcm_edits.specs.Edit.{Edit}
use Rattle.dcm_editor.specs.EditSink.{State as EditState}
use Rattle.dcm_edits.specs.Meaning.{AreMeant}
use Rattle.dcm_sinks.specs.EncodeSink.{EncodeState}
use Rattle.dcm_words.specs.Words.{modify}
use Rattle.dcm_cli.specs.declared.ending.Ending.{Ending}
use Rattle.dcm_cli.specs.declared.ending.Verdict.TheVariants.{Done}
use Rattle.dcm_cli.specs.declared.rewrite.Opened.{Opened as OpenedFile}
use Rattle.dcm_cli.specs.EditPass.{not_found}
use Rattle.dcm_cli.specs.InputCalls.{How, Allows}
use Rattle.dcm_cli.specs.Opening.{OpenedAs, NotOpened, unchanged}
use Rattle.dcm_cli.specs.Pass.{Ends, WasRead, set_bytes, with_unplaced}
use Rattle.dcm_cli.specs.Run.{Worked}
use Rattle.dcm_cli.proofs.Passes.Files.{concludes_unplaced, small}
use Rattle.dcm_cli.proofs.Lines.FoundMasks.{not_found_is}
use Rattle.dcm_cli.proofs.Passes.MakesEdits.{editor, file_editor, last_found}
use Rattle.dcm_cli.proofs.Passes.Opens.{not_opened, opened_worked, opened_here, keeps_here}

module _ (d : Dictionary) (edits : List Edit) (meant : AreMeant edits) (read rest : List ℕ) (how : How) (ok : Allows how rest) (held : Option (List ℕ)) where
  pub edits_not_opened : (holds : Option (List ℕ)) (ending : Ending) → NotOpened d None unchanged read how held holds ending → Worked (modify d edits) (read ++ rest) (Some rest) held holds ending
  edits_not_opened = not_opened None unchanged (modify d edits) refl (λ coding. refl) (file_editor d edits meant) (λ coding m. refl) read rest how ok held

  module _ (mid : Option (List ℕ)) (buffer : List ℕ) (x : OpenedFile) (h : OpenedAs d None unchanged read how held mid buffer x) (more later : List ℕ) (split : rest ≡ more ++ later) where
    pub edits_worked : (last : EditState) (t : EncodeState) (holds : Option (List ℕ)) (passed : Ending)
        → (x.beginning.is_over ≡ true → WasRead passed)
        → Ends (editor d edits meant x.coding.syntax).bars (editor d edits meant x.coding.syntax).step (editor d edits meant x.coding.syntax).writes (start_of x.coding.syntax x.start) (editor d edits meant x.coding.syntax).first mid (Some later) (last, t) holds (set_bytes x.beginning buffer ++ more) passed
        → Worked (modify d edits) (read ++ rest) (Some later) held holds (with_unplaced passed (not_found last.found))
    edits_worked last t holds passed was ends =
        let o = opened_here None unchanged (modify d edits) refl (λ coding. refl) (file_editor d edits meant) (λ coding m. refl) read rest how ok held mid buffer x h in
        let keeps = keeps_here None unchanged (modify d edits) refl (λ coding. refl) (file_editor d edits meant) (λ coding m. refl) read rest how ok held mid buffer x h in
        opened_worked None unchanged (modify d edits) refl (λ coding. refl) (file_editor d edits meant) (λ coding m. refl) read rest how ok held mid buffer x h more later split
        (last, t) holds passed (with_unplaced passed (not_found last.found))
        (concludes_unplaced (modify d edits) refl (read ++ rest) (Some later) held h.reading o keeps (file_editor d edits meant x.coding) (last, t) passed (not_found last.found)
        (λ f reads is. ap Done (sym (ap not_found (last_found d edits meant x.coding.syntax x.coding.syntax (132 + length o.group) (small (modify d edits) refl (read ++ rest) (Some later) held h.reading o) _ f complete (last, t) reads is) ∙ not_found_is edits f))))
        was ends
