-- A file that is written again: its head was read and written, and then its data set goes through a sink.
use Rattle.std.proofs.Common.{◌≡◌, ◌∙◌, ap, sym, subst, ℕ, ◌+◌, List, [], ◌++◌, length, true, false, Option, Some, refl}
use Rattle.std.specs.Io.KnownBytes.{append_known}
use Rattle.dcm_base.specs.declared.fault.Fault.TheVariants.{CannotChange}
use Rattle.dcm_base.specs.declared.syntax.Coding.{Coding}
use Rattle.dcm_base.specs.declared.syntax.Syntax.{Syntax}
use Rattle.dcm_base.specs.Tables.Syntax.{Little, coding_by}
use Rattle.dcm_devices.specs.Device.{AppendsFront}
use Rattle.dcm_base.specs.File.MetaReads.{Meta, PREFIX}
use Rattle.dcm_base.specs.Conversion.NewMeta.{new_meta}
use Rattle.dcm_base.specs.Bytes.Spelling.{Spells}
use Rattle.dcm_base.specs.declared.dictionary.Dictionary.{Dictionary}
use Rattle.dcm_words.specs.Words.{Job, convert}
use Rattle.dcm_head.specs.declared.meta_read.MetaEnd.TheVariants.{Ended}
use Rattle.dcm_head.specs.MetaReading.{Reading}
use Rattle.dcm_stream.specs.Reading.{start_of}
use Rattle.dcm_cli.specs.declared.ending.Ending.{Ending}
use Rattle.dcm_cli.specs.declared.ending.Ending.TheVariants as endings
use Rattle.dcm_cli.specs.declared.ending.Verdict.TheVariants.{Refused}
use Rattle.dcm_cli.specs.declared.head.Beginning.{Beginning}
use Rattle.dcm_cli.specs.declared.rewrite.Opened.{Opened as OpenedFile}
use Rattle.dcm_cli.specs.Answer.{job_dictionary, refuses_change, target_uid}
use Rattle.dcm_cli.specs.InputCalls.{How, Allows}
use Rattle.dcm_cli.specs.Opening.{HeadRead, OpenedAs, NotOpened, no_set, no_change, no_head, HeadChange, head_text}
use Rattle.dcm_cli.specs.Pass.{Ends, WasRead, ending_of_head, set_bytes}
use Rattle.dcm_cli.specs.Run.{Worked}
use Rattle.dcm_cli.proofs.Passes.Files.{FileMaker, Concludes, concludes_same, reads_file, file_unopened, file_unchanged, file_unheaded, file_worked, file_opened}
use Rattle.dcm_cli.proofs.Passes.MetaHeads.{Opened, head_anew}
use Rattle.dcm_cli.proofs.Passes.Sets.{TellsNothing}

-- what its head has said, in the coding that was answered
abbrev pub in_coding : (d : Dictionary) (r : Reading) (file : List ℕ) (named coding : Coding) → r.end ≡ Some (Ended named) → coding ≡ coding_by d named → Opened d r file → Opened d r file
in_coding d r file named coding end is o =
    let ends : Some (Ended named) ≡ Some (Ended o.reads.named) = sym end ∙ o.end_is in
    let same : named ≡ o.reads.named = cc in
    record o {
      coding = coding;
      reads = record { named = o.reads.named; head = o.reads.head; coding_is = is ∙ ap (coding_by d) same };
      end_is = o.end_is;
    }

abbrev pub head_opened : (d : Dictionary) (read rest : List ℕ) (how : How) → Allows how rest → (buffer : List ℕ) (r : Reading) (b : Beginning) (coding : Coding) (start : ℕ) → HeadRead d read how buffer r b coding start → Opened d r (read ++ rest)
head_opened d read rest how ok buffer r b coding start h = in_coding d r (read ++ rest) h.named coding h.end_is h.coding_is (file_opened d r b buffer how read rest ok h.begins)

-- a job that writes files again, with a target
module _ (target : Option Syntax) (change : HeadChange) (job : Job) (is_file : reads_file job ≡ true) (alike : (coding : Coding) → refuses_change job coding ≡ refuses_change (convert (job_dictionary job) target) coding)
    (maker : (coding : Coding) → FileMaker job coding) (header_is : (coding : Coding) (m : Meta) → (maker coding).header m ≡ change.preamble m.preamble ++ PREFIX ++ new_meta (change.elements m.elements) (target_uid target m))
    (read rest : List ℕ) (how : How) (ok : Allows how rest) (held : Option (List ℕ)) where
  -- what was written of a head
  head_is : (r : Reading) (o : Opened (job_dictionary job) r (read ++ rest)) (uid : List ℕ) → uid ≡ target_uid target o.m → head_text change r uid o.m.elements ≡ (maker o.coding).header o.m
  head_is r o uid is = head_anew change (job_dictionary job) r (read ++ rest) o (target_uid target o.m) uid is ∙ sym (header_is o.coding o.m)

  pub not_opened : (holds : Option (List ℕ)) (ending : Ending) → NotOpened (job_dictionary job) target change read how held holds ending → Worked job (read ++ rest) (Some rest) held holds ending
  not_opened holds ending (no_set r head fails still is) =
      subst (λ (x : Ending). Worked job (read ++ rest) (Some rest) held holds x) (sym is)
      (subst (λ (known : Option (List ℕ)). Worked job (read ++ rest) (Some rest) held known (ending_of_head head)) (sym still) (file_unopened job is_file held r read rest how head ok fails))
  not_opened holds ending (no_change buffer r b coding start h refuses still is) =
      let o = head_opened (job_dictionary job) read rest how ok buffer r b coding start h in
      let there : start ≡ 132 + length o.group = h.start_is ∙ o.place_is in
      subst (λ (x : Ending). Worked job (read ++ rest) (Some rest) held holds x) (sym is)
      (subst (λ (n : ℕ). Worked job (read ++ rest) (Some rest) held holds (endings.Worked (Refused (record { fault = CannotChange; at = n })))) (sym there)
      (subst (λ (known : Option (List ℕ)). Worked job (read ++ rest) (Some rest) held known (endings.Worked (Refused (record { fault = CannotChange; at = 132 + length o.group })))) (sym still)
      (file_unchanged job is_file (read ++ rest) (Some rest) held r o (alike coding ∙ refuses))))
  not_opened holds ending (no_head buffer r b coding start uid h keeps uid_is written is) =
      let o = head_opened (job_dictionary job) read rest how ok buffer r b coding start h in
      let beginning = written o.m.elements (subst (Spells Little o.m.elements) (sym o.group_is) o.spelled) o.meta in
      subst (λ (x : Ending). Worked job (read ++ rest) (Some rest) held holds x) (sym is)
      (file_unheaded job is_file (read ++ rest) (Some rest) held r o (alike coding ∙ keeps) (maker coding) holds (subst (AppendsFront held holds) (head_is r o uid (uid_is o.m o.uid_is)) beginning))

  module _ (mid : Option (List ℕ)) (buffer : List ℕ) (x : OpenedFile) (h : OpenedAs (job_dictionary job) target change read how held mid buffer x) where
    abbrev pub opened_here : Opened (job_dictionary job) h.reading (read ++ rest)
    opened_here = head_opened (job_dictionary job) read rest how ok buffer h.reading x.beginning x.coding x.start h.head

    abbrev pub keeps_here : refuses_change job x.coding ≡ false
    keeps_here = alike x.coding ∙ h.keeps

    module _ (more later : List ℕ) (split : rest ≡ more ++ later) where
      pub opened_worked : (t : (maker x.coding).maker.State) (holds : Option (List ℕ)) (passed ending : Ending)
          → Concludes job is_file (read ++ rest) (Some later) held h.reading opened_here keeps_here (maker x.coding) t passed ending
          → (x.beginning.is_over ≡ true → WasRead passed)
          → Ends (maker x.coding).maker.bars (maker x.coding).maker.step (maker x.coding).maker.writes (start_of x.coding.syntax x.start) (maker x.coding).maker.first mid (Some later) t holds (set_bytes x.beginning buffer ++ more) passed
          → Worked job (read ++ rest) (Some later) held holds ending
      opened_worked t holds passed ending concludes was ends =
          let o = opened_here in
          let k = (maker x.coding).maker in
          let went = h.written o.m.elements (subst (Spells Little o.m.elements) (sym o.group_is) o.spelled) o.meta ∙ ap (append_known held) (head_is h.reading o h.uid (h.uid_is o.m o.uid_is)) in
          file_worked job is_file (read ++ rest) (Some later) held h.reading o keeps_here (maker x.coding) rest later how mid t holds x.beginning buffer read more passed ending concludes refl split refl h.head.begins went was
          (subst (λ (n : ℕ). Ends k.bars k.step k.writes (start_of x.coding.syntax n) k.first mid (Some later) t holds (set_bytes x.beginning buffer ++ more) passed) (h.head.start_is ∙ o.place_is) ends)

      -- of a job that has nothing to report where all was done
      pub opened_worked_same : TellsNothing job → (t : (maker x.coding).maker.State) (holds : Option (List ℕ)) (ending : Ending)
          → (x.beginning.is_over ≡ true → WasRead ending)
          → Ends (maker x.coding).maker.bars (maker x.coding).maker.step (maker x.coding).maker.writes (start_of x.coding.syntax x.start) (maker x.coding).maker.first mid (Some later) t holds (set_bytes x.beginning buffer ++ more) ending
          → Worked job (read ++ rest) (Some later) held holds ending
      opened_worked_same none t holds ending was ends =
          opened_worked t holds ending ending (concludes_same job is_file (read ++ rest) (Some later) held h.reading opened_here keeps_here (maker x.coding) none t ending) was ends
