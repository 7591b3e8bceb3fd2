-- What decides an answer: one is that of all inputs that the calls allow.
use Rattle.std.proofs.Common.{◌≡◌, ◌∙◌, ap, sym, subst, ℕ, ◌+◌, ◌≤◌, List, [], ◌∷◌, ◌++◌, append_assoc, length, drop, Bool, true, false, Option, Some, refl, arith}
use Rattle.std.proofs.lemmas.List.{drop-append-le}
use Rattle.dcm_base.specs.declared.fault.Fault.TheVariants.{CannotChange}
use Rattle.dcm_base.specs.declared.dictionary.Dictionary.{Dictionary}
use Rattle.dcm_base.specs.declared.mode.Mode.{Mode}
use Rattle.dcm_base.specs.declared.syntax.Coding.{Coding}
use Rattle.dcm_base.specs.declared.syntax.Syntax.{Syntax}
use Rattle.dcm_base.specs.Dump.Dump.{dump_front}
use Rattle.dcm_base.specs.Dump.Header.{set_header}
use Rattle.dcm_base.specs.Reading.Reads.{INPUT_LIMIT, Reads}
use Rattle.dcm_base.specs.Reading.Stop.{refused}
use Rattle.dcm_base.specs.Tables.Syntax.{read_by}
use Rattle.dcm_head.specs.MetaReading.{Reading as HeadReading}
use Rattle.dcm_stream.specs.Reading.{start_of}
use Rattle.dcm_sinks.specs.DumpSink.{DumpState, dump_start, dump_step, dump_writes, bars_nothing}
use Rattle.dcm_words.specs.Words.{Job, dump, convert}
use Rattle.dcm_cli.specs.declared.ending.Ending.{Ending}
use Rattle.dcm_cli.specs.declared.ending.Ending.TheVariants as endings
use Rattle.dcm_cli.specs.declared.ending.Ending.TheVariants.{Unread, Output}
use Rattle.dcm_cli.specs.declared.ending.HeadEnding.{HeadEnding}
use Rattle.dcm_cli.specs.declared.ending.HeadEnding.TheVariants as heads
use Rattle.dcm_cli.specs.declared.ending.Verdict.{Verdict}
use Rattle.dcm_cli.specs.declared.ending.Verdict.TheVariants.{Done, PixelsMayShow, Refused, RefusedLine}
use Rattle.dcm_cli.specs.declared.head.Beginning.{Beginning}
use Rattle.dcm_cli.specs.Answer.{job_dictionary, job_bar, refuses_change, file as of_file, file_output, opened as was_opened}
use Rattle.dcm_head.specs.SyntaxUids.{uid_of_syntax}
use Rattle.dcm_cli.specs.InputCalls.{How, in_part, to_end, with_failure, Allows}
use Rattle.dcm_cli.specs.Opening.{HeadChange, HeadRead, NotOpened, no_set, no_change, no_head}
use Rattle.dcm_cli.specs.Pass.{Ends, at_end, at_fault, halted, unread, unwritten, end_unwritten, FailsHead, ending_of_head, set_bytes, with_unplaced, with_pixels}
use Rattle.dcm_cli.specs.Run.{Answered, AnsweredAll, IsDecided, Worked, answered, could_not_read, could_not_write}
use Rattle.dcm_cli.proofs.Passes.Alone.{AloneMaker}
use Rattle.dcm_cli.proofs.Passes.Files.{FileMaker, reads_file, file_opened, file_answered, unopened_answered, unchanged_answered}
use Rattle.dcm_cli.proofs.Passes.Makers.{dumper, refuses_as}
use Rattle.dcm_cli.proofs.Passes.MetaHeads.{Opened, one_head}
use Rattle.dcm_cli.proofs.Passes.Opens.{head_opened, in_coding}
use Rattle.dcm_cli.proofs.Passes.Readers.{nothing_follows}

-- the ending has one verdict
same_verdict : (v w : Verdict) (ending : Ending) → ending ≡ endings.Worked v → ending ≡ endings.Worked w → v ≡ w
same_verdict v w ending a b = let both : endings.Worked v ≡ endings.Worked w = sym a ∙ b in cc

module _ (job : Job) (given : List ℕ) (how : How) (ending : Ending) where
  pub decided_as : (verdict : Verdict) (out : List ℕ) → ending ≡ endings.Worked verdict → AnsweredAll job given how out verdict → IsDecided job given how ending
  decided_as verdict out is all = λ v e. (out, λ rest ok. subst (λ (w : Verdict). Answered job (given ++ rest) out w) (same_verdict verdict v ending is e) (all rest ok))

  -- no answer was given
  pub decided_unread : (n : ℕ) → ending ≡ Unread n → IsDecided job given how ending
  decided_unread n is = λ v e. absurd (let no : Unread n ≡ endings.Worked v = sym is ∙ e in cc)

  pub decided_output : ending ≡ Output → IsDecided job given how ending
  decided_output is = λ v e. absurd (let no : Output ≡ endings.Worked v = sym is ∙ e in cc)

  -- nothing follows
  pub decided_at_end : (held holds : Option (List ℕ)) → how ≡ to_end → Worked job (given ++ []) (Some []) held holds ending → IsDecided job given how ending
  decided_at_end held holds end (answered out verdict was is grown) =
      decided_as verdict out is (λ rest ok. subst (λ (bytes : List ℕ). Answered job (given ++ bytes) out verdict) (sym (nothing_follows how rest ok end)) was)
  decided_at_end held holds end (could_not_read p rest out whole at sure is grown) = decided_unread (length p) is
  decided_at_end held holds end (could_not_write out verdict was is grown) = decided_output is

-- or something may
pub decided_by : (job : Job) (given : List ℕ) (how : How) (ending : Ending) (held holds : Option (List ℕ)) → Worked job (given ++ []) (Some []) held holds ending → (Allows how (0 ∷ []) → IsDecided job given how ending) → IsDecided job given how ending
decided_by job given in_part ending held holds worked more = more tt
decided_by job given to_end ending held holds worked more = decided_at_end job given to_end ending held holds refl worked
decided_by job given with_failure ending held holds worked more = more tt

-- ---- a file

pub unopened_decided : (job : Job) → reads_file job ≡ true → (r : HeadReading) (read : List ℕ) (how : How) (ending : HeadEnding) → FailsHead r how read ending → IsDecided job read how (ending_of_head ending)
unopened_decided job is_file r read how (heads.Refused stop) f = decided_as job read how (endings.Worked (Refused stop)) (Refused stop) [] refl (λ rest ok. unopened_answered job is_file r read rest how stop ok f)
unopened_decided job is_file r read how (heads.Unread count) f = decided_unread job read how (Unread count) count refl

pub not_opened_decided : (target : Option Syntax) (change : HeadChange) (job : Job) → reads_file job ≡ true → ((coding : Coding) → refuses_change job coding ≡ refuses_change (convert (job_dictionary job) target) coding) → (read : List ℕ) (how : How) (held holds : Option (List ℕ)) (ending : Ending)
    → NotOpened (job_dictionary job) target change read how held holds ending → IsDecided job read how ending
not_opened_decided target change job is_file alike read how held holds ending (no_set r head fails still is) =
    subst (λ (x : Ending). IsDecided job read how x) (sym is) (unopened_decided job is_file r read how head fails)
not_opened_decided target change job is_file alike read how held holds ending (no_change buffer r b coding start h refuses still is) =
    decided_as job read how ending (Refused (record { fault = CannotChange; at = start })) [] is (λ rest ok.
    let o = head_opened (job_dictionary job) read rest how ok buffer r b coding start h in
    subst (λ (n : ℕ). Answered job (read ++ rest) [] (Refused (record { fault = CannotChange; at = n }))) (sym (h.start_is ∙ o.place_is)) (unchanged_answered job is_file (read ++ rest) r o (alike coding ∙ refuses)))
not_opened_decided target change job is_file alike read how held holds ending (no_head buffer r b coding start uid h keeps uid_is written is) = decided_output job read how ending is

-- an ending that is not that all was done
abbrev pub IsNotDone : Ending → Type 0
IsNotDone (endings.Worked (Done n)) = ⊥
IsNotDone (endings.Worked PixelsMayShow) = ⊥
IsNotDone (endings.Worked (Refused stop)) = Unit {0}
IsNotDone (endings.Worked (RefusedLine stop)) = Unit {0}
IsNotDone (Unread n) = Unit {0}
IsNotDone Output = Unit {0}

-- it stays where edits found no place
pub still_not_done : (x : Ending) (mask : ℕ) → IsNotDone x → with_unplaced x mask ≡ x
still_not_done (endings.Worked (Done n)) mask never = absurd never
still_not_done (endings.Worked PixelsMayShow) mask never = absurd never
still_not_done (endings.Worked (Refused stop)) mask _ = refl
still_not_done (endings.Worked (RefusedLine stop)) mask _ = refl
still_not_done (Unread n) mask _ = refl
still_not_done Output mask _ = refl

-- and where pixels may show identity
pub still_without_pixels : (x : Ending) (shows : Bool) → IsNotDone x → with_pixels x shows ≡ x
still_without_pixels (endings.Worked (Done n)) shows never = absurd never
still_without_pixels (endings.Worked PixelsMayShow) shows never = absurd never
still_without_pixels (endings.Worked (Refused stop)) shows _ = refl
still_without_pixels (endings.Worked (RefusedLine stop)) shows _ = refl
still_without_pixels (Unread n) shows _ = refl
still_without_pixels Output shows _ = refl

module _ (job : Job) (is_file : reads_file job ≡ true) (coding : Coding) (kept : refuses_change job coding ≡ false) (k : FileMaker job coding) (read more : List ℕ) (first how : How) (buffer : List ℕ) (r : HeadReading) (b : Beginning) (start : ℕ)
    (h : HeadRead (job_dictionary job) read first buffer r b coding start) (allows : (rest : List ℕ) → Allows how rest → Allows first (more ++ rest)) where
  abbrev there : (rest : List ℕ) → Allows how rest → Opened (job_dictionary job) r (read ++ (more ++ rest))
  there rest ok = in_coding (job_dictionary job) r (read ++ (more ++ rest)) h.named coding h.end_is h.coding_is (file_opened (job_dictionary job) r b buffer first read (more ++ rest) (allows rest ok) h.begins)

  within : start ≤ length read
  within = let p = h.begins.place in let q = h.start_is in omega (arith, p, q)

  set_there : (rest : List ℕ) → (set_bytes b buffer ++ more) ++ rest ≡ drop start (read ++ (more ++ rest))
  set_there rest =
      append_assoc (set_bytes b buffer) more rest
      ∙ sym (drop-append-le start read (more ++ rest) within ∙ ap (λ (n : ℕ). drop n read ++ (more ++ rest)) h.start_is ∙ ap (λ (bs : List ℕ). bs ++ (more ++ rest)) h.begins.set)

  pub set_decided : (held : Option (List ℕ)) (t : k.maker.State) (holds : Option (List ℕ)) (passed ending : Ending) → ((x : Ending) → IsNotDone x → passed ≡ x → ending ≡ x) → (one : Allows how (0 ∷ []))
      → Ends k.maker.bars k.maker.step k.maker.writes (start_of coding.syntax start) k.maker.first held (Some (0 ∷ [])) t holds (set_bytes b buffer ++ more) passed → IsDecided job (read ++ more) how ending
  set_decided held t holds passed ending same one (at_end over none fin is last e) = absurd (let no : 0 ∷ [] ≡ [] = over in cc)
  set_decided held t holds passed ending same one (at_fault stop over none fin is state e) = absurd (let no : 0 ∷ [] ≡ [] = over in cc)
  set_decided held t holds passed ending same one (unread none is state e) = decided_unread job (read ++ more) how ending _ (same (Unread _) tt is)
  set_decided held t holds passed ending same one (unwritten is e) = decided_output job (read ++ more) how ending (same Output tt is)
  set_decided held t holds passed ending same one (end_unwritten over none is e) = decided_output job (read ++ more) how ending (same Output tt is)
  set_decided held t holds passed ending same one (halted stop halt is state e) =
      let o = there (0 ∷ []) one in
      let place : start ≡ 132 + length o.group = h.start_is ∙ o.place_is in
      let le : start ≤ INPUT_LIMIT = (let most = o.within in omega (arith, place, most)) in
      let f = refuses_as k.maker coding.syntax start (set_bytes b buffer ++ more) le stop.fault stop.at halt in
      decided_as job (read ++ more) how ending (Refused stop) (file_output job o.m coding f.f) (same (endings.Worked (Refused stop)) tt is) (λ rest ok.
      let head = one_head (job_dictionary job) r (read ++ (more ++ (0 ∷ []))) (read ++ (more ++ rest)) o (there rest ok) in
      let reads = subst (λ (n : ℕ). Reads (job_bar job coding) coding.syntax n (drop n (read ++ (more ++ rest))) f.f (refused stop.fault stop.at)) place
      (subst (λ (bs : List ℕ). Reads (job_bar job coding) coding.syntax start bs f.f (refused stop.fault stop.at)) (set_there rest) (f.reads rest))
      in
      subst (λ (bytes : List ℕ). Answered job bytes (file_output job o.m coding f.f) (Refused stop)) (sym (append_assoc read more rest))
      (file_answered job is_file (read ++ (more ++ rest)) (of_file o.m coding f.f (refused stop.fault stop.at)) (was_opened o.m o.group coding f.f (refused stop.fault stop.at) head kept reads refl)))

-- ---- a data set alone

pub alone_decided : (job : Job) (s : Syntax) (k : AloneMaker job s) (more : List ℕ) (how : How) (held : Option (List ℕ)) (t : k.maker.State) (holds : Option (List ℕ)) (ending : Ending)
    → Ends k.maker.bars k.maker.step k.maker.writes (start_of s 0) k.maker.first held (Some (0 ∷ [])) t holds more ending → IsDecided job more how ending
alone_decided job s k more how held t holds ending (at_end over none fin is last e) = absurd (let no : 0 ∷ [] ≡ [] = over in cc)
alone_decided job s k more how held t holds ending (at_fault stop over none fin is state e) = absurd (let no : 0 ∷ [] ≡ [] = over in cc)
alone_decided job s k more how held t holds ending (unread none is state e) = decided_unread job more how ending _ is
alone_decided job s k more how held t holds ending (unwritten is e) = decided_output job more how ending is
alone_decided job s k more how held t holds ending (end_unwritten over none is e) = decided_output job more how ending is
alone_decided job s k more how held t holds ending (halted stop halt is state e) =
    let f = refuses_as k.maker s 0 more (omega arith) stop.fault stop.at halt in
    decided_as job more how ending (Refused stop) (k.header ++ k.text f.f) is
    (λ rest ok. k.answered_as (more ++ rest) f.f (refused stop.fault stop.at) (f.reads rest))
