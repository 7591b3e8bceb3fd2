-- A file that a job reads, in the words of the definitions.
use Rattle.std.proofs.Common.{◌≡◌, ◌∙◌, ap, sym, subst, ℕ, ◌+◌, ◌≤◌, List, [], ◌++◌, append_assoc, length, length-append, drop, Bool, true, false, Option, None, Some, refl, arith, Err, inl, inr}
use Rattle.std.specs.Prelude.{◌⊎◌, if◌then◌else◌}
use Rattle.std.specs.Io.KnownBytes.{append_known}
use Rattle.std.proofs.lemmas.List.{append-nil, drop-append-le}
use Rattle.dcm_lemmas.proofs.Options.{known_nothing, known_twice}
use Rattle.dcm_base.specs.declared.fault.Stop.{Stop as HaltStop}
use Rattle.dcm_base.specs.declared.fault.Fault.TheVariants.{CannotChange}
use Rattle.dcm_base.specs.declared.mode.Mode.{Mode}
use Rattle.dcm_base.specs.declared.syntax.Coding.{Coding}
use Rattle.dcm_base.specs.declared.syntax.Syntax.{Syntax}
use Rattle.dcm_devices.specs.Device.{AppendsFront}
use Rattle.dcm_base.specs.Dump.Dump.{dump_front}
use Rattle.dcm_base.specs.Dump.Header.{set_header, meta_header}
use Rattle.dcm_sinks.specs.DecodedDump.{decoded_front}
use Rattle.dcm_sinks.specs.DecodedHeader.{decoded_meta_header, decoded_set_header}
use Rattle.dcm_sinks.specs.InForce.{EMPTY}
use Rattle.dcm_base.specs.Tree.Front.{Front}
use Rattle.dcm_base.specs.Reading.Stop.{Stop, complete, refused as stop_refused, is_undecided}
use Rattle.dcm_base.specs.File.MetaReads.{Meta, PREFIX}
use Rattle.dcm_base.specs.Conversion.NewMeta.{new_meta}
use Rattle.dcm_base.specs.Conversion.Recode.{recode}
use Rattle.dcm_base.specs.Reading.Reads.{INPUT_LIMIT, Reads}
use Rattle.dcm_words.specs.declared.job.Texts.{Texts}
use Rattle.dcm_named.specs.Named.{named_set, named_front}
use Rattle.dcm_words.specs.Words.{Job, dump, dump_decoded, dump_named, Named, convert, build, modify, deidentify}
use Rattle.dcm_devices.proofs.Writes.Puts.{front_longer, puts_behind}
use Rattle.dcm_base.specs.declared.dictionary.Dictionary.{Dictionary}
use Rattle.dcm_head.specs.declared.meta_read.MetaEnd.{MetaEnd}
use Rattle.dcm_head.specs.declared.meta_read.MetaEnd.TheVariants as meta_end
use Rattle.dcm_head.specs.MetaReading.{Reading, meta_finished}
use Rattle.dcm_stream.specs.Reading.{start_of}
use Rattle.dcm_cli.specs.declared.ending.Ending.{Ending}
use Rattle.dcm_cli.specs.declared.ending.Ending.TheVariants as endings
use Rattle.dcm_cli.specs.declared.ending.Ending.TheVariants.{Unread, Output}
use Rattle.dcm_cli.specs.declared.ending.HeadEnding.{HeadEnding}
use Rattle.dcm_cli.specs.declared.ending.HeadEnding.TheVariants as heads
use Rattle.dcm_cli.specs.declared.ending.Verdict.{Verdict}
use Rattle.dcm_cli.specs.declared.ending.Verdict.TheVariants.{Done, PixelsMayShow, Refused}
use Rattle.dcm_cli.specs.declared.head.Beginning.{Beginning}
use Rattle.dcm_cli.specs.InputCalls.{How, to_end, Allows}
use Rattle.dcm_cli.specs.Pass.{Begins, FailsHead, Ends, WasRead, head_read, set_bytes, ending_of_head, with_unplaced, with_pixels}
use Rattle.dcm_cli.specs.Answer.{asked_of, job_dictionary, Source, file as of_file, unopened, going_on, job_bar, refuses_change, target_syntax, target_uid, file_output, output_of, Sure, FileReads, FileSure, not_opened as was_not_opened, not_changed, opened as was_opened, before_set, within_set}
use Rattle.dcm_cli.specs.Run.{Answered, Worked, answered, could_not_read, could_not_write, verdict_of_source, verdict_of_stop, verdict_at, done_verdict}
use Rattle.dcm_cli.proofs.Passes.Readers.{nothing_follows}
use Rattle.dcm_cli.proofs.Passes.Makers.{Maker, dumper, decoder, namer, encoder}
use Rattle.dcm_cli.proofs.Passes.Sets.{SetMade, set_read, set_unread, set_unwritten, Last, set_made, all_read, TellsNothing, told_nothing}
use Rattle.dcm_cli.proofs.Passes.MetaHeads.{Opened, opened, one_head, not_opened, ended_stays, finished_same, has_end, goes_on_still, ends_before}

-- ---- jobs that read files

abbrev pub reads_file : Job → Bool
reads_file (dump d mode None) = true
reads_file (dump_decoded d mode None) = true
reads_file (dump_named texts d mode None named) = true
reads_file (dump_named texts d mode (Some syntax) named) = false
reads_file (dump d mode (Some syntax)) = false
reads_file (dump_decoded d mode (Some syntax)) = false
reads_file (convert d target) = true
reads_file (build limit) = false
reads_file (modify d edits) = true
reads_file (deidentify options reports key) = true

pub file_answered : (job : Job) → reads_file job ≡ true → (bytes : List ℕ) (source : Source) → FileReads job bytes source → Answered job bytes (output_of job source) (verdict_of_source job source)
file_answered (dump d mode None) is bytes source reads = record { source = source; reads = reads; out_is = refl; verdict_is = refl }
file_answered (dump_decoded d mode None) is bytes source reads = record { source = source; reads = reads; out_is = refl; verdict_is = refl }
file_answered (dump_named texts d mode None named) is bytes source reads = record { source = source; reads = reads; out_is = refl; verdict_is = refl }
file_answered (dump_named texts d mode (Some syntax) named) is bytes source reads = cc
file_answered (dump d mode (Some syntax)) is bytes source reads = cc
file_answered (dump_decoded d mode (Some syntax)) is bytes source reads = cc
file_answered (convert d target) is bytes source reads = record { source = source; reads = reads; out_is = refl; verdict_is = refl }
file_answered (build limit) is bytes source reads = cc
file_answered (modify d edits) is bytes source reads = record { source = source; reads = reads; out_is = refl; verdict_is = refl }
file_answered (deidentify options reports key) is bytes source reads = record { source = source; reads = reads; out_is = refl; verdict_is = refl }

file_sure : (job : Job) → reads_file job ≡ true → (p out : List ℕ) → FileSure job p out → Sure job p out
file_sure (dump d mode None) is p out sure = sure
file_sure (dump_decoded d mode None) is p out sure = sure
file_sure (dump_named texts d mode None named) is p out sure = sure
file_sure (dump_named texts d mode (Some syntax) named) is p out sure = cc
file_sure (dump d mode (Some syntax)) is p out sure = cc
file_sure (dump_decoded d mode (Some syntax)) is p out sure = cc
file_sure (convert d target) is p out sure = sure
file_sure (build limit) is p out sure = cc
file_sure (modify d edits) is p out sure = sure
file_sure (deidentify options reports key) is p out sure = sure

-- what a job makes of a file in a coding: what stands for its head, and then what a sink makes of the data set
pub record FileMaker (job : Job) (coding : Coding) : Type 1 where
  pub header : Meta → List ℕ
  pub text : Front → List ℕ
  pub maker : Maker (job_bar job coding) text
  pub output_is : (m : Meta) (f : Front) → file_output job m coding f ≡ header m ++ text f

-- the dump
abbrev pub file_dumper : (d : Dictionary) (mode : Mode) (coding : Coding) → FileMaker (dump d mode None) coding
file_dumper d mode coding = record {
  header = λ m. meta_header d mode m.elements ++ set_header m.uid;
  text = dump_front d mode 0;
  maker = dumper d mode;
  output_is = λ m f. refl;
}

-- the dump by characters
abbrev pub file_decoder : (d : Dictionary) (mode : Mode) (coding : Coding) → FileMaker (dump_decoded d mode None) coding
file_decoder d mode coding = record {
  header = λ m. decoded_meta_header d mode m.elements ++ decoded_set_header m.uid;
  text = decoded_front d mode EMPTY 0;
  maker = decoder d mode;
  output_is = λ m f. refl;
}

-- the dump of named elements
abbrev pub file_namer : (texts : Texts) (d : Dictionary) (mode : Mode) (n : Named) (coding : Coding) → FileMaker (dump_named texts d mode None n) coding
file_namer texts d mode n coding = record {
  header = λ m. named_set (asked_of texts d mode n) EMPTY [] m.elements;
  text = named_front (asked_of texts d mode n) EMPTY [];
  maker = namer texts d mode n;
  output_is = λ m f. refl;
}

-- the conversion
abbrev pub file_encoder : (d : Dictionary) (target : Option Syntax) (coding : Coding) → FileMaker (convert d target) coding
file_encoder d target coding = record {
  header = λ m. m.preamble ++ PREFIX ++ new_meta m.elements (target_uid target m);
  text = recode (target_syntax target coding);
  maker = encoder (target_syntax target coding);
  output_is = λ m f. refl;
}

-- ---- what is reported of pixels

abbrev pub pixels_verdict : (shows : Bool) → Verdict
pixels_verdict shows = if shows then PixelsMayShow else Done 0

done_with_pixels : (shows : Bool) → with_pixels (endings.Worked (Done 0)) shows ≡ endings.Worked (pixels_verdict shows)
done_with_pixels true = refl
done_with_pixels false = refl

-- ---- before the data set

-- the head is all that was read, or more may follow it
finished_over : (r : Reading) (read rest : List ℕ) (end : MetaEnd) → r.end ≡ Some end → r ≡ head_read read → meta_finished (head_read (read ++ rest)) ≡ r
finished_over r read rest end h e = ap meta_finished (ended_stays r read rest end e h) ∙ finished_same r end h

finished_at : (r : Reading) (how : How) (read rest : List ℕ) → Allows how rest → how ≡ to_end → r ≡ meta_finished (head_read read) → meta_finished (head_read (read ++ rest)) ≡ r
finished_at r how read rest ok over e =
    ap (λ (bs : List ℕ). meta_finished (head_read (read ++ bs))) (nothing_follows how rest ok over) ∙ ap (λ (bs : List ℕ). meta_finished (head_read bs)) (append-nil read) ∙ sym e

-- its head is at fault
pub unopened_read : (job : Job) (r : Reading) (read rest : List ℕ) (how : How) (stop : HaltStop) → Allows how rest → FailsHead r how read (heads.Refused stop) → FileReads job (read ++ rest) (unopened stop.fault stop.at)
unopened_read job r read rest how stop ok f =
    let said = not_opened r (read ++ rest) stop (by_finish f.1) f.0 in
    was_not_opened stop.fault stop.at said refl
  where
    by_finish : (r ≡ head_read read) ⊎ ((how ≡ to_end) × (r ≡ meta_finished (head_read read))) → meta_finished (head_read (read ++ rest)) ≡ r
    by_finish (inl e) = finished_over r read rest (meta_end.Refused stop) f.0 e
    by_finish (inr x) = finished_at r how read rest ok x.0 x.1

pub unopened_answered : (job : Job) → reads_file job ≡ true → (r : Reading) (read rest : List ℕ) (how : How) (stop : HaltStop) → Allows how rest → FailsHead r how read (heads.Refused stop) → Answered job (read ++ rest) [] (Refused stop)
unopened_answered job is_file r read rest how stop ok f = file_answered job is_file (read ++ rest) (unopened stop.fault stop.at) (unopened_read job r read rest how stop ok f)

pub file_unopened : (job : Job) → reads_file job ≡ true → (held : Option (List ℕ)) (r : Reading) (read rest : List ℕ) (how : How) (ending : HeadEnding) → Allows how rest
    → FailsHead r how read ending → Worked job (read ++ rest) (Some rest) held held (ending_of_head ending)
file_unopened job is_file held r read rest how ending ok fails = by_ending ending fails
  where
    by_ending : (ending : HeadEnding) → FailsHead r how read ending → Worked job (read ++ rest) (Some rest) held held (ending_of_head ending)
    by_ending (heads.Refused stop) f = answered [] (Refused stop) (unopened_answered job is_file r read rest how stop ok f) refl (sym (known_nothing held))
    by_ending (heads.Unread count) f =
        let still = goes_on_still read (ap (λ (x : Reading). x.end) (sym f.0) ∙ f.1) in
        could_not_read read rest [] refl refl (file_sure job is_file read [] (before_set still.0 still.1 still.2 refl)) (ap Unread f.2) (sym (known_nothing held))

-- or cannot be changed
pub unchanged_answered : (job : Job) → reads_file job ≡ true → (file : List ℕ) (r : Reading) (o : Opened (job_dictionary job) r file) → refuses_change job o.coding ≡ true
    → Answered job file [] (Refused (record { fault = CannotChange; at = 132 + length o.group }))
unchanged_answered job is_file file r o refuses = file_answered job is_file file (unopened CannotChange (132 + length o.group)) (not_changed o.m o.group o.coding o.reads refuses refl)

-- ---- a head that was read
by_reading : (r : Reading) (b : Beginning) (buffer : List ℕ) (how : How) (read rest : List ℕ) → Allows how rest → Begins r b buffer how read
    → (r ≡ head_read read) ⊎ ((b.is_over ≡ true) × (r ≡ meta_finished (head_read read))) → meta_finished (head_read (read ++ rest)) ≡ r
by_reading r b buffer how read rest ok beginning (inl e) = let end = has_end r beginning.ended in finished_over r read rest end.0 end.1 e
by_reading r b buffer how read rest ok beginning (inr x) = finished_at r how read rest ok (beginning.over x.0) x.1

pub file_opened : (d : Dictionary) (r : Reading) (b : Beginning) (buffer : List ℕ) (how : How) (read rest : List ℕ) → Allows how rest → Begins r b buffer how read → Opened d r (read ++ rest)
file_opened d r b buffer how read rest ok beginning = opened d r (read ++ rest) (by_reading r b buffer how read rest ok beginning beginning.reading) beginning.ended

module _ (job : Job) (is_file : reads_file job ≡ true) (file : List ℕ) (after held : Option (List ℕ)) (r : Reading) (o : Opened (job_dictionary job) r file) where
  abbrev start : ℕ
  start = 132 + length o.group

  pub small : start ≤ INPUT_LIMIT
  small = omega (arith, o.within)

  -- the job cannot change it
  pub file_unchanged : refuses_change job o.coding ≡ true → Worked job file after held held (endings.Worked (Refused (record { fault = CannotChange; at = start })))
  file_unchanged refuses =
      answered [] (Refused (record { fault = CannotChange; at = start })) (file_answered job is_file file (unopened CannotChange start) (not_changed o.m o.group o.coding o.reads refuses refl)) refl (sym (known_nothing held))

  module _ (kept : refuses_change job o.coding ≡ false) (k : FileMaker job o.coding) where
    abbrev SetReads : List ℕ → Front → Stop → Type 0
    SetReads bytes f stop = Reads (job_bar job o.coding) o.coding.syntax start bytes f stop

    read_as : (f : Front) (stop : Stop) → SetReads (drop start file) f stop → Answered job file (file_output job o.m o.coding f) (verdict_at job f stop)
    read_as f stop reads = file_answered job is_file file (of_file o.m o.coding f stop) (was_opened o.m o.group o.coding f stop o.reads kept reads refl)

    -- not even all that stands for the head was written
    pub file_unheaded : (holds : Option (List ℕ)) → AppendsFront held holds (k.header o.m) → Worked job file after held holds Output
    file_unheaded holds beginning =
        let a = all_read k.maker o.coding.syntax start small (drop start file) in
        could_not_write (file_output job o.m o.coding a.0) (verdict_at job a.0 a.1) (read_as a.0 a.1 a.2) refl
        (subst (AppendsFront held holds) (sym (k.output_is o.m a.0)) (front_longer (k.text a.0) beginning))

    -- the states in which all of a data set leaves the sink
    abbrev pub LastOf : k.maker.State → Front → Type 0
    LastOf = Last k.maker o.coding.syntax start small

    -- what the work comes to, by how the pass over the data set ended
    pub record Concludes (t : k.maker.State) (passed ending : Ending) : Type 0 where
      pub done : (f : Front) (stop : Stop) → SetReads (drop start file) f stop → (stop ≡ complete → LastOf t f) → passed ≡ endings.Worked (verdict_of_stop stop) → ending ≡ endings.Worked (verdict_at job f stop)
      pub not_read : (count : ℕ) → passed ≡ Unread count → ending ≡ Unread count
      pub not_written : passed ≡ Output → ending ≡ Output

    -- of a job whose sink says which of its edits found no place
    pub concludes_unplaced : (t : k.maker.State) (passed : Ending) (mask : ℕ) → ((f : Front) → SetReads (drop start file) f complete → LastOf t f → done_verdict job f ≡ Done mask) → Concludes t passed (with_unplaced passed mask)
    concludes_unplaced t passed mask mask_is = record {
      done = by_stop;
      not_read = λ count is. ap (λ (x : Ending). with_unplaced x mask) is;
      not_written = λ is. ap (λ (x : Ending). with_unplaced x mask) is;
    }
      where
        by_stop : (f : Front) (stop : Stop) → SetReads (drop start file) f stop → (stop ≡ complete → LastOf t f) → passed ≡ endings.Worked (verdict_of_stop stop) → with_unplaced passed mask ≡ endings.Worked (verdict_at job f stop)
        by_stop f complete reads last is = ap (λ (x : Ending). with_unplaced x mask) is ∙ ap endings.Worked (sym (mask_is f reads (last refl)))
        by_stop f (stop_refused fault offset) reads last is = ap (λ (x : Ending). with_unplaced x mask) is

    -- of a job whose sink says whether pixels may show identity
    pub concludes_pixels : (t : k.maker.State) (passed : Ending) (shows : Bool) → ((f : Front) → SetReads (drop start file) f complete → LastOf t f → done_verdict job f ≡ pixels_verdict shows) → Concludes t passed (with_pixels passed shows)
    concludes_pixels t passed shows verdict_is = record {
      done = by_stop;
      not_read = λ count is. ap (λ (x : Ending). with_pixels x shows) is;
      not_written = λ is. ap (λ (x : Ending). with_pixels x shows) is;
    }
      where
        by_stop : (f : Front) (stop : Stop) → SetReads (drop start file) f stop → (stop ≡ complete → LastOf t f) → passed ≡ endings.Worked (verdict_of_stop stop) → with_pixels passed shows ≡ endings.Worked (verdict_at job f stop)
        by_stop f complete reads last is = ap (λ (x : Ending). with_pixels x shows) is ∙ done_with_pixels shows ∙ ap endings.Worked (sym (verdict_is f reads (last refl)))
        by_stop f (stop_refused fault offset) reads last is = ap (λ (x : Ending). with_pixels x shows) is

    -- of a job that has nothing to report where all was done
    pub concludes_same : TellsNothing job → (t : k.maker.State) (ending : Ending) → Concludes t ending ending
    concludes_same none t ending = record {
      done = λ f stop reads last is. is ∙ ap endings.Worked (told_nothing job none f stop);
      not_read = λ count is. is;
      not_written = λ is. is;
    }

    pub file_worked : (rest later : List ℕ) (how : How) (mid : Option (List ℕ)) (t : k.maker.State) (holds : Option (List ℕ)) (b : Beginning) (buffer read more : List ℕ) (passed ending : Ending) → Concludes t passed ending
        → file ≡ read ++ rest → rest ≡ more ++ later → after ≡ Some later → Begins r b buffer how read
        → mid ≡ append_known held (k.header o.m)
        → (b.is_over ≡ true → WasRead passed)
        → Ends k.maker.bars k.maker.step k.maker.writes (start_of o.coding.syntax start) k.maker.first mid after t holds (set_bytes b buffer ++ more) passed
        → Worked job file after held holds ending
    file_worked rest later how mid t holds b buffer read more passed ending concludes whole split at beginning went was ends =
        of_set rest later at whole split (set_made k.maker o.coding.syntax start small mid t after holds (set_bytes b buffer ++ more) later passed at ends)
      where
        behind : (f : Front) → holds ≡ append_known mid (k.text f) → holds ≡ append_known held (file_output job o.m o.coding f)
        behind f e =
            e ∙ ap (λ (known : Option (List ℕ)). append_known known (k.text f)) went
            ∙ known_twice held (k.header o.m) (k.text f)
            ∙ ap (append_known held) (sym (k.output_is o.m f))

        -- the data set of what was read, and of the file
        within : start ≤ length read
        within = let p = beginning.place in let q = o.place_is in omega arith

        set_there : (bytes : List ℕ) → drop start (read ++ bytes) ≡ set_bytes b buffer ++ bytes
        set_there bytes = drop-append-le start read bytes within ∙ ap (λ (n : ℕ). drop n read ++ bytes) (sym o.place_is) ∙ ap (λ (bs : List ℕ). bs ++ bytes) beginning.set

        file_set : (rest later : List ℕ) → file ≡ read ++ rest → rest ≡ more ++ later → (set_bytes b buffer ++ more) ++ later ≡ drop start file
        file_set rest later whole split =
            append_assoc (set_bytes b buffer) more later ∙ ap (λ (bs : List ℕ). set_bytes b buffer ++ bs) (sym split) ∙ sym (set_there rest) ∙ ap (drop start) (sym whole)

        -- what is sure, where a group that was ended by what follows it
        sure_of : (f : Front) (stop : Stop) → r ≡ head_read (read ++ more) → SetReads (set_bytes b buffer ++ more) f stop → is_undecided (Some stop) ≡ true
            → FileSure job (read ++ more) (file_output job o.m o.coding (going_on f))
        sure_of f stop e reads undecided =
            let end = has_end r beginning.ended in
            let x : Opened (job_dictionary job) r (read ++ more) = opened (job_dictionary job) r (read ++ more) (ap meta_finished (sym e) ∙ finished_same r end.0 end.1) beginning.ended in
            let groups : length x.group ≡ length o.group = ap length (sym x.group_is ∙ o.group_is) in
            let long = length-append read more in
            let less = ends_before (job_dictionary job) r (read ++ more) e x (let p = o.place_is in let w = within in omega arith) in
            within_set o.m o.group o.coding f stop (one_head (job_dictionary job) r file (read ++ more) o x) (omega (arith, less, groups)) kept
            (subst (λ (bs : List ℕ). SetReads bs f stop) (sym (set_there more)) reads) undecided refl

        by_over : (rest later : List ℕ) → after ≡ Some later → file ≡ read ++ rest → rest ≡ more ++ later → (f : Front) (stop : Stop) → SetReads (set_bytes b buffer ++ more) f stop → is_undecided (Some stop) ≡ true
            → passed ≡ Unread (start + length (set_bytes b buffer ++ more)) → holds ≡ append_known mid (k.text (going_on f))
            → (r ≡ head_read read) ⊎ ((b.is_over ≡ true) × (r ≡ meta_finished (head_read read))) → Worked job file after held holds ending
        by_over rest later at whole split f stop reads undecided is e (inr over) = absurd (subst WasRead is (was over.0))
        by_over rest later at whole split f stop reads undecided is e (inl same) =
            let end = has_end r beginning.ended in
            let still : head_read (read ++ more) ≡ r = ended_stays r read more end.0 same end.1 in
            let longer = length-append (set_bytes b buffer) more in
            let long = length-append read more in
            let count : start + length (set_bytes b buffer ++ more) ≡ length (read ++ more) = (let p = beginning.place in let q = o.place_is in omega arith) in
            let out = file_output job o.m o.coding (going_on f) in
            could_not_read (read ++ more) later out
            (whole ∙ ap (λ (bs : List ℕ). read ++ bs) split ∙ sym (append_assoc read more later)) at
            (file_sure job is_file (read ++ more) out (sure_of f stop (sym still) reads undecided)) (concludes.not_read (length (read ++ more)) (is ∙ ap Unread count)) (behind (going_on f) e)

        of_set : (rest later : List ℕ) → after ≡ Some later → file ≡ read ++ rest → rest ≡ more ++ later
            → SetMade (job_bar job o.coding) k.text LastOf o.coding.syntax start (set_bytes b buffer ++ more) later mid t holds passed → Worked job file after held holds ending
        of_set rest later at whole split (set_read f stop reads last is e) =
            let there = subst (λ (bs : List ℕ). SetReads bs f stop) (file_set rest later whole split) reads in
            answered (file_output job o.m o.coding f) (verdict_at job f stop) (read_as f stop there) (concludes.done f stop there (λ _. last) is) (behind f e)
        of_set rest later at whole split (set_unread f stop reads undecided left is e) = by_over rest later at whole split f stop reads undecided is e beginning.reading
        of_set rest later at whole split (set_unwritten f stop reads is e) =
            could_not_write (file_output job o.m o.coding f) (verdict_at job f stop) (read_as f stop (subst (λ (bs : List ℕ). SetReads bs f stop) (file_set rest later whole split) reads)) (concludes.not_written is)
            (subst (AppendsFront held holds) (sym (k.output_is o.m f)) (puts_behind {T = Unit {0}} {E = Unit {0}} held mid holds (k.header o.m) (k.text f) (Err tt) went e))
