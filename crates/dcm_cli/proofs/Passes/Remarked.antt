-- What is remarked of an input.
use Rattle.std.proofs.Common.{◌≡◌, ◌∙◌, ap, sym, subst, refl, ℕ, ◌+◌, ◌≤◌, List, [], ◌++◌, append_assoc, length, length-append, drop, true, false, Option, None, Some, arith, inl, inr, ◌⊎◌}
use Rattle.std.proofs.lemmas.List.{drop-append-le}
use Rattle.dcm_base.specs.declared.syntax.Coding.{Coding}
use Rattle.dcm_base.specs.declared.syntax.Syntax.{Syntax}
use Rattle.dcm_base.specs.Reading.Reads.{INPUT_LIMIT, Reads}
use Rattle.dcm_base.specs.Reading.Stop.{Bar, Stop, is_undecided}
use Rattle.dcm_base.specs.Tree.Front.{Front}
use Rattle.dcm_devices.specs.Writing.{Writer}
use Rattle.dcm_head.specs.MetaReading.{Reading, meta_finished}
use Rattle.dcm_stream.specs.Reading.{start_of}
use Rattle.dcm_words.specs.declared.job.Texts.TheVariants.{Bytes, Characters}
use Rattle.dcm_words.specs.Words.{Job, dump, dump_decoded, dump_named, convert, build, modify, deidentify}
use Rattle.dcm_cli.specs.declared.ending.Ended.{Ended}
use Rattle.dcm_cli.specs.declared.ending.Ending.{Ending}
use Rattle.dcm_cli.specs.declared.ending.Ending.TheVariants as endings
use Rattle.dcm_cli.specs.declared.ending.Ending.TheVariants.{Unread, Output}
use Rattle.dcm_cli.specs.declared.ending.HeadEnding.{HeadEnding}
use Rattle.dcm_cli.specs.declared.ending.HeadEnding.TheVariants as heads
use Rattle.dcm_cli.specs.declared.ending.Remarks.{Remarks}
use Rattle.dcm_cli.specs.declared.ending.Verdict.{Verdict}
use Rattle.dcm_cli.specs.declared.head.Beginning.{Beginning}
use Rattle.dcm_cli.specs.Answer.{Source, alone, file as of_file, unopened, FileReads, going_on, job_bar, job_dictionary, refuses_change, opened as was_opened}
use Rattle.dcm_cli.specs.Calls.{Reader, Works, WorksOn}
use Rattle.dcm_cli.specs.InputCalls.{How, Allows}
use Rattle.dcm_cli.specs.Opening.{HeadRead}
use Rattle.dcm_cli.specs.Pass.{Ends, FailsHead, WasRead, ending_of_head, head_read, set_bytes}
use Rattle.dcm_cli.specs.Remarks.{no_remarks, remarking_nothing, remarks_at}
use Rattle.dcm_cli.specs.Run.{FileRemarked, RemarkedAs, SoFarRemarked, Remarked, before_its_set, within_its_set, source_remarks, verdict_of_stop}
use Rattle.dcm_cli.proofs.Passes.Files.{FileMaker, file_opened, reads_file, unopened_read}
use Rattle.dcm_cli.proofs.Passes.Makers.{Maker}
use Rattle.dcm_cli.proofs.Passes.MetaHeads.{Opened, ended_stays, ends_before, finished_same, goes_on_still, has_end, opened}
use Rattle.dcm_cli.proofs.Passes.Opens.{in_coding}
use Rattle.dcm_cli.proofs.Passes.Readers.{allows_nothing}
use Rattle.dcm_cli.proofs.Passes.Sets.{Last, SetMade, SoFar, set_made, set_read, set_unread, set_unwritten}

-- ---- jobs that remark nothing

-- of no data set
abbrev pub RemarksNothing : Job → Type 0
RemarksNothing job = (set : Front) → remarks_at job set ≡ no_remarks

pub source_remarks_nothing : (job : Job) → RemarksNothing job → (source : Source) → source_remarks job source ≡ no_remarks
source_remarks_nothing job none (unopened fault offset) = refl
source_remarks_nothing job none (of_file meta coding set stop) = none set
source_remarks_nothing job none (alone syntax set stop) = none set

-- nor of an input
abbrev pub RemarksNone : Job → Type 0
RemarksNone job = ((input : List ℕ) → Remarked job input no_remarks) × ((p : List ℕ) → SoFarRemarked job p no_remarks)

nothing_remarked : (job : Job) → RemarksNone job → (given : List ℕ) (how : How) (ending : Ending) → RemarkedAs job given how ending no_remarks
nothing_remarked job none given how (endings.Worked verdict) = λ rest ok. none.0 (given ++ rest)
nothing_remarked job none given how (Unread count) = none.1 given
nothing_remarked job none given how Output = tt

pub works_on : {R W : Type 0} (r : Reader R) (w : Writer W) (job : Job) (before after : R) (held holds : W) (ending : Ending) (ended : Ended) → RemarksNone job → Works r w job before after held holds ending → ended ≡ remarking_nothing ending
    → WorksOn r w job before after held holds ended
works_on r w job before after held holds ending ended none works is =
    subst (WorksOn r w job before after held holds) (sym is) (record { works = works; remarked = nothing_remarked job none works.given works.how ending })

-- ---- an input that was read

nothing_so_far : (job : Job) → RemarksNothing job → (p : List ℕ) (r : Remarks) → FileRemarked job p r → r ≡ no_remarks
nothing_so_far job none p r (before_its_set a reads undecided is) = is
nothing_so_far job none p r (within_its_set m group coding set stop head at reads undecided is) = is ∙ none (going_on set)

file_remarked : (job : Job) → reads_file job ≡ true → (bytes : List ℕ) (source : Source) → FileReads job bytes source → (r : Remarks) → r ≡ source_remarks job source → Remarked job bytes r
file_remarked (dump d mode None) is bytes source reads r e = e ∙ source_remarks_nothing (dump d mode None) (λ set. refl) source
file_remarked (dump_decoded d mode None) is bytes source reads r e = record { source = source; reads = reads; remarks_are = e }
file_remarked (dump_named Bytes d mode None named) is bytes source reads r e = e ∙ source_remarks_nothing (dump_named Bytes d mode None named) (λ set. refl) source
file_remarked (dump_named Characters d mode None named) is bytes source reads r e = record { source = source; reads = reads; remarks_are = e }
file_remarked (dump_named texts d mode (Some syntax) named) is bytes source reads r e = cc
file_remarked (dump d mode (Some syntax)) is bytes source reads r e = cc
file_remarked (dump_decoded d mode (Some syntax)) is bytes source reads r e = cc
file_remarked (convert d target) is bytes source reads r e = e ∙ source_remarks_nothing (convert d target) (λ set. refl) source
file_remarked (build limit) is bytes source reads r e = cc
file_remarked (modify d edits) is bytes source reads r e = e ∙ source_remarks_nothing (modify d edits) (λ set. refl) source
file_remarked (deidentify options reports key) is bytes source reads r e = record { source = source; reads = reads; remarks_are = e }

file_so_far : (job : Job) → reads_file job ≡ true → (p : List ℕ) (r : Remarks) → FileRemarked job p r → SoFarRemarked job p r
file_so_far (dump d mode None) is p r h = nothing_so_far (dump d mode None) (λ set. refl) p r h
file_so_far (dump_decoded d mode None) is p r h = h
file_so_far (dump_named Bytes d mode None named) is p r h = nothing_so_far (dump_named Bytes d mode None named) (λ set. refl) p r h
file_so_far (dump_named Characters d mode None named) is p r h = h
file_so_far (dump_named texts d mode (Some syntax) named) is p r h = cc
file_so_far (dump d mode (Some syntax)) is p r h = cc
file_so_far (dump_decoded d mode (Some syntax)) is p r h = cc
file_so_far (convert d target) is p r h = nothing_so_far (convert d target) (λ set. refl) p r h
file_so_far (build limit) is p r h = cc
file_so_far (modify d edits) is p r h = nothing_so_far (modify d edits) (λ set. refl) p r h
file_so_far (deidentify options reports key) is p r h = h

-- ---- a data set, whose sink knows in its last state what is remarked of what was read

pub record Tells (job : Job) {bar : Bar} {text : Front → List ℕ} (m : Maker bar text) (s : Syntax) (start : ℕ) (t : m.State) (remarks : Ending → Remarks) : Type 0 where
  pub last : (le : start ≤ INPUT_LIMIT) (bytes : List ℕ) (f : Front) (stop : Stop) → Reads bar s start bytes f stop → Last m s start le t f → remarks (endings.Worked (verdict_of_stop stop)) ≡ remarks_at job f
  pub so_far : (le : start ≤ INPUT_LIMIT) (bytes : List ℕ) (f : Front) (stop : Stop) (count : ℕ) → Reads bar s start bytes f stop → SoFar (Last m s start le) t f stop → remarks (Unread count) ≡ remarks_at job (going_on f)

module _ (job : Job) {bar : Bar} {text : Front → List ℕ} (m : Maker bar text) (s : Syntax) (start : ℕ) (le : start ≤ INPUT_LIMIT) (t : m.State) (remarks : Ending → Remarks) (tells : Tells job m s start t remarks)
    (given read : List ℕ) (how : How) (held holds : Option (List ℕ)) where
  abbrev Made : (rest : List ℕ) → Ending → Type 0
  Made rest passed = SetMade bar text (Last m s start le) s start read rest held t holds passed

  -- what is remarked with these bytes behind it
  abbrev pub WholeRemarked : Type 0
  WholeRemarked = (rest : List ℕ) → Allows how rest → (f : Front) (stop : Stop) → Reads bar s start (read ++ rest) f stop → (r : Remarks) → r ≡ remarks_at job f → Remarked job (given ++ rest) r

  -- and where reading failed
  abbrev pub BegunRemarked : Type 0
  BegunRemarked = (f : Front) (stop : Stop) → Reads bar s start read f stop → is_undecided (Some stop) ≡ true → (r : Remarks) → r ≡ remarks_at job (going_on f) → SoFarRemarked job given r

  by_verdict : WholeRemarked → (rest : List ℕ) → Allows how rest → (verdict : Verdict) → Made rest (endings.Worked verdict) → Remarked job (given ++ rest) (remarks (endings.Worked verdict))
  by_verdict whole rest ok verdict (set_read f stop reads last is e) = whole rest ok f stop reads (remarks (endings.Worked verdict)) (ap remarks is ∙ tells.last le (read ++ rest) f stop reads last)
  by_verdict whole rest ok verdict (set_unread f stop reads undecided left is e) = absurd (cc)
  by_verdict whole rest ok verdict (set_unwritten f stop reads is e) = absurd (cc)

  by_failure : (n : ℕ) → BegunRemarked → (rest : List ℕ) → Made rest (Unread n) → SoFarRemarked job given (remarks (Unread n))
  by_failure n begun rest (set_read f stop reads last is e) = absurd (let no : Unread n ≡ endings.Worked (verdict_of_stop stop) = is in cc)
  by_failure n begun rest (set_unread f stop reads undecided left is e) = begun f stop reads undecided (remarks (Unread n)) (tells.so_far le read f stop n reads left)
  by_failure n begun rest (set_unwritten f stop reads is e) = absurd (cc)

  by_passed : WholeRemarked → (passed : Ending) → ((n : ℕ) → passed ≡ Unread n → BegunRemarked) → ((rest : List ℕ) → Allows how rest → Made rest passed) → RemarkedAs job given how passed (remarks passed)
  by_passed whole (endings.Worked verdict) begun made = λ rest ok. by_verdict whole rest ok verdict (made rest ok)
  by_passed whole (Unread n) begun made = by_failure n (begun n refl) [] (made [] (allows_nothing how))
  by_passed whole Output begun made = tt

  pub made_remarked : WholeRemarked → (passed : Ending) → ((n : ℕ) → passed ≡ Unread n → BegunRemarked)
      → ((rest : List ℕ) → Allows how rest → Ends m.bars m.step m.writes (start_of s start) m.first held (Some rest) t holds read passed) → RemarkedAs job given how passed (remarks passed)
  made_remarked whole passed begun ends = by_passed whole passed begun (λ rest ok. set_made m s start le held t (Some rest) holds read rest passed refl (ends rest ok))

-- ---- a file

module _ (job : Job) (is_file : reads_file job ≡ true) where
  -- of one that was not opened nothing
  pub head_remarked : (r : Reading) (read : List ℕ) (how : How) (head : HeadEnding) → FailsHead r how read head → RemarkedAs job read how (ending_of_head head) no_remarks
  head_remarked r read how (heads.Refused stop) f = λ rest ok. file_remarked job is_file (read ++ rest) (unopened stop.fault stop.at) (unopened_read job r read rest how stop ok f) no_remarks refl
  head_remarked r read how (heads.Unread count) f =
      let still = goes_on_still read (ap (λ (x : Reading). x.end) (sym f.0) ∙ f.1) in
      file_so_far job is_file read no_remarks (before_its_set still.0 still.1 still.2 refl)

  module _ (coding : Coding) (kept : refuses_change job coding ≡ false) (k : FileMaker job coding) (read more : List ℕ) (first how : How) (buffer : List ℕ) (r : Reading) (b : Beginning) (start : ℕ)
      (h : HeadRead (job_dictionary job) read first buffer r b coding start) (allows : (rest : List ℕ) → Allows how rest → Allows first (more ++ rest)) where
    abbrev there : (rest : List ℕ) → Allows how rest → Opened (job_dictionary job) r (read ++ (more ++ rest))
    there rest ok = in_coding (job_dictionary job) r (read ++ (more ++ rest)) h.named coding h.end_is h.coding_is (file_opened (job_dictionary job) r b buffer first read (more ++ rest) (allows rest ok) h.begins)

    within : start ≤ length read
    within = let p = h.begins.place in let q = h.start_is in omega (arith, p, q)

    set_there : (rest : List ℕ) → (set_bytes b buffer ++ more) ++ rest ≡ drop start (read ++ (more ++ rest))
    set_there rest =
        append_assoc (set_bytes b buffer) more rest
        ∙ sym (drop-append-le start read (more ++ rest) within ∙ ap (λ (n : ℕ). drop n read ++ (more ++ rest)) h.start_is ∙ ap (λ (bs : List ℕ). bs ++ (more ++ rest)) h.begins.set)

    so_far_there : set_bytes b buffer ++ more ≡ drop start (read ++ more)
    so_far_there = sym (drop-append-le start read more within ∙ ap (λ (n : ℕ). drop n read ++ more) h.start_is ∙ ap (λ (bs : List ℕ). bs ++ more) h.begins.set)

    small : start ≤ INPUT_LIMIT
    small = let o = there [] (allows_nothing how) in let place : start ≡ 132 + length o.group = h.start_is ∙ o.place_is in let most = o.within in omega (arith, place, most)

    module _ (t : k.maker.State) (remarks : Ending → Remarks) (tells : Tells job k.maker coding.syntax start t remarks) where
      -- what was read with these bytes behind it
      whole_remarked : (rest : List ℕ) → Allows how rest → (f : Front) (stop : Stop) → Reads (job_bar job coding) coding.syntax start ((set_bytes b buffer ++ more) ++ rest) f stop → (told : Remarks) → told ≡ remarks_at job f → Remarked job ((read ++ more) ++ rest) told
      whole_remarked rest ok f stop reads told is =
          let o = there rest ok in
          let place : start ≡ 132 + length o.group = h.start_is ∙ o.place_is in
          let here = subst (λ (n : ℕ). Reads (job_bar job coding) coding.syntax n (drop n (read ++ (more ++ rest))) f stop) place
          (subst (λ (bs : List ℕ). Reads (job_bar job coding) coding.syntax start bs f stop) (set_there rest) reads)
          in
          subst (λ (bytes : List ℕ). Remarked job bytes told) (sym (append_assoc read more rest))
          (file_remarked job is_file (read ++ (more ++ rest)) (of_file o.m coding f stop) (was_opened o.m o.group coding f stop o.reads kept here refl) told is)

      -- where reading failed behind the head
      begun_remarked : (f : Front) (stop : Stop) → r ≡ head_read read → Reads (job_bar job coding) coding.syntax start (set_bytes b buffer ++ more) f stop → is_undecided (Some stop) ≡ true → (told : Remarks) → told ≡ remarks_at job (going_on f) → SoFarRemarked job (read ++ more) told
      begun_remarked f stop e reads undecided told is =
          let end = has_end r h.begins.ended in
          let still : r ≡ head_read (read ++ more) = sym (ended_stays r read more end.0 e end.1) in
          let x : Opened (job_dictionary job) r (read ++ more) = in_coding (job_dictionary job) r (read ++ more) h.named coding h.end_is h.coding_is (opened (job_dictionary job) r (read ++ more) (ap meta_finished (sym still) ∙ finished_same r end.0 end.1) h.begins.ended) in
          let place : start ≡ 132 + length x.group = h.start_is ∙ x.place_is in
          let long = length-append read more in
          let less = ends_before (job_dictionary job) r (read ++ more) still x (let p = h.begins.place in omega (arith, p, long)) in
          file_so_far job is_file (read ++ more) told
          (within_its_set x.m x.group coding f stop x.reads less
          (subst (λ (n : ℕ). Reads (job_bar job coding) coding.syntax n (drop n (read ++ more)) f stop) place (subst (λ (bs : List ℕ). Reads (job_bar job coding) coding.syntax start bs f stop) so_far_there reads)) undecided is)

      unread_remarked : (passed : Ending) (n : ℕ) → (b.is_over ≡ true → WasRead passed) → passed ≡ Unread n → (f : Front) (stop : Stop) → Reads (job_bar job coding) coding.syntax start (set_bytes b buffer ++ more) f stop → is_undecided (Some stop) ≡ true → (told : Remarks) → told ≡ remarks_at job (going_on f)
          → (r ≡ head_read read) ⊎ ((b.is_over ≡ true) × (r ≡ meta_finished (head_read read))) → SoFarRemarked job (read ++ more) told
      unread_remarked passed n was is f stop reads undecided told same (inl e) = begun_remarked f stop e reads undecided told same
      unread_remarked passed n was is f stop reads undecided told same (inr over) = absurd (subst WasRead is (was over.0))

      -- of a data set that was read so
      pub set_remarked : (held holds : Option (List ℕ)) (passed : Ending) → (b.is_over ≡ true → WasRead passed)
          → ((rest : List ℕ) → Allows how rest → Ends k.maker.bars k.maker.step k.maker.writes (start_of coding.syntax start) k.maker.first held (Some rest) t holds (set_bytes b buffer ++ more) passed)
          → RemarkedAs job (read ++ more) how passed (remarks passed)
      set_remarked held holds passed was ends =
          made_remarked job k.maker coding.syntax start small t remarks tells (read ++ more) (set_bytes b buffer ++ more) how held holds whole_remarked passed
          (λ n is f stop reads undecided told same. unread_remarked passed n was is f stop reads undecided told same h.begins.reading) ends
