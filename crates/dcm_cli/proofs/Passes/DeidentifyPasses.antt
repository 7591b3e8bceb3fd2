-- A file without identity: what its run has come to.
use Rattle.std.proofs.Common.{◌≡◌, ◌∙◌, ap, sym, ℕ, ◌+◌, List, ◌++◌, length, Bool, true, Option, Some, None, refl}
use Rattle.std.specs.Prelude.{◌&&◌}
use Rattle.dcm_base.specs.declared.dictionary.Dictionary.TheVariants.{Standard}
use Rattle.dcm_base.specs.Reading.Stop.{complete}
use Rattle.dcm_stream.specs.Reading.{start_of}
use Rattle.dcm_sinks.specs.EncodeSink.{EncodeState}
use Rattle.dcm_deid.specs.declared.fate.Options.{Options}
use Rattle.dcm_deid.specs.DeidentifySink.{State as DeidentifyState}
use Rattle.dcm_deid.specs.Patient.{PatientState}
use Rattle.dcm_words.specs.Words.{Job, deidentify}
use Rattle.dcm_cli.specs.declared.ending.Ending.{Ending}
use Rattle.dcm_cli.specs.declared.rewrite.Opened.{Opened as OpenedFile}
use Rattle.dcm_cli.specs.InputCalls.{How, Allows}
use Rattle.dcm_cli.specs.Opening.{OpenedAs, NotOpened, without_identity}
use Rattle.dcm_cli.specs.Pass.{Ends, WasRead, set_bytes, with_pixels}
use Rattle.dcm_cli.specs.Run.{Worked}
use Rattle.dcm_cli.proofs.Passes.Files.{concludes_pixels, pixels_verdict, small}
use Rattle.dcm_cli.proofs.Passes.MakesDeidentified.{deidentifier, file_deidentifier, last_shows}
use Rattle.dcm_cli.proofs.Passes.Opens.{not_opened, opened_worked, opened_here, keeps_here}

module _ (options : Options) (reports : Bool) (key read rest : List ℕ) (how : How) (ok : Allows how rest) (held : Option (List ℕ)) where
  abbrev job : Job
  job = deidentify options reports key

  pub deidentify_not_opened : (holds : Option (List ℕ)) (ending : Ending) → NotOpened Standard None (without_identity options key) read how held holds ending → Worked job (read ++ rest) (Some rest) held holds ending
  deidentify_not_opened = not_opened None (without_identity options key) job refl (λ coding. refl) (file_deidentifier options key reports) (λ coding m. refl) read rest how ok held

  module _ (mid : Option (List ℕ)) (buffer : List ℕ) (x : OpenedFile) (h : OpenedAs Standard None (without_identity options key) read how held mid buffer x) (more later : List ℕ) (split : rest ≡ more ++ later) where
    pub deidentify_worked : (whom : Option PatientState) (last : DeidentifyState) (t : EncodeState) (holds : Option (List ℕ)) (passed : Ending)
        → (x.beginning.is_over ≡ true → WasRead passed)
        → Ends (deidentifier options key x.coding.syntax).bars (deidentifier options key x.coding.syntax).step (deidentifier options key x.coding.syntax).writes (start_of x.coding.syntax x.start) (deidentifier options key x.coding.syntax).first mid (Some later) (whom, (last, t)) holds (set_bytes x.beginning buffer ++ more) passed
        → Worked job (read ++ rest) (Some later) held holds (with_pixels passed (reports && last.place.seen.may_show))
    deidentify_worked whom last t holds passed was ends =
        let o = opened_here None (without_identity options key) job refl (λ coding. refl) (file_deidentifier options key reports) (λ coding m. refl) read rest how ok held mid buffer x h in
        let keeps = keeps_here None (without_identity options key) job refl (λ coding. refl) (file_deidentifier options key reports) (λ coding m. refl) read rest how ok held mid buffer x h in
        opened_worked None (without_identity options key) job refl (λ coding. refl) (file_deidentifier options key reports) (λ coding m. refl) read rest how ok held mid buffer x h more later split
        (whom, (last, t)) holds passed (with_pixels passed (reports && last.place.seen.may_show))
        (concludes_pixels job refl (read ++ rest) (Some later) held h.reading o keeps (file_deidentifier options key reports x.coding) (whom, (last, t)) passed (reports && last.place.seen.may_show)
        (λ f reads is. ap (λ (shows : Bool). pixels_verdict (reports && shows))
        (sym (last_shows options key x.coding.syntax x.coding.syntax (132 + length o.group) (small job refl (read ++ rest) (Some later) held h.reading o) _ f (whom, (last, t)) reads is))))
        was ends
