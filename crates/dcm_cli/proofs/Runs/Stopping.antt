-- Where a run stops: before its last call it had read what it would have read if reading had failed there.
use Rattle.std.proofs.Common.{◌≡◌, ◌∙◌, ap, sym, subst, ℕ, ◌+◌, List, [], ◌∷◌, ◌++◌, append_assoc, length, true, false, Option, Some, None, unwrap_or, refl, arith, inl, inr}
use Rattle.std.specs.Prelude.{fold}
use Rattle.std.proofs.lemmas.List.{append-nil, append_cancel_right}
use Rattle.std.specs.Io.KnownBytes.{append_known, prepend_known}
use Rattle.dcm_devices.specs.Device.{Gave, and_call}
use Rattle.dcm_base.specs.declared.mode.Mode.{Mode}
use Rattle.dcm_base.specs.declared.syntax.Coding.{Coding}
use Rattle.dcm_base.specs.declared.syntax.Syntax.{Syntax}
use Rattle.dcm_base.specs.Dump.Header.{set_header}
use Rattle.dcm_base.specs.Steps.Steps.{outputs}
use Rattle.dcm_base.specs.Tables.Syntax.{read_by}
use Rattle.dcm_base.specs.declared.dictionary.Dictionary.{Dictionary}
use Rattle.dcm_head.specs.MetaReading.{Reading as HeadReading, HasEnded}
use Rattle.dcm_stream.specs.Machine.{steps, steps_write, next_offset}
use Rattle.dcm_stream.specs.Reading.{start_of}
use Rattle.dcm_sinks.specs.DumpSink.{dump_start, dump_step, dump_writes, bars_nothing}
use Rattle.dcm_words.specs.Words.{Job, dump}
use Rattle.dcm_cli.specs.declared.ending.Ending.{Ending}
use Rattle.dcm_cli.specs.declared.ending.Ending.TheVariants as endings
use Rattle.dcm_cli.specs.declared.ending.Ending.TheVariants.{Unread, Output}
use Rattle.dcm_cli.specs.declared.ending.HeadEnding.TheVariants as heads
use Rattle.dcm_cli.specs.declared.head.Beginning.{Beginning}
use Rattle.dcm_cli.specs.declared.rewrite.Opened.{Opened as OpenedFile}
use Rattle.dcm_cli.specs.Answer.{Sure, job_dictionary, refuses_change}
use Rattle.dcm_head.specs.SyntaxUids.{uid_of_syntax}
use Rattle.dcm_cli.specs.InputCalls.{Reader, How, in_part, with_failure, how_of, Allows, InputCalls, no_call, last_call, ReadsInput, IsUndecided}
use Rattle.dcm_cli.specs.Opening.{HeadChange, OpenedAs}
use Rattle.dcm_cli.specs.Pass.{Begins, HeadGoesOn, head_read, set_bytes, unread}
use Rattle.dcm_cli.specs.Run.{Worked, answered, could_not_read, could_not_write, verdict_of_stop}
use Rattle.dcm_cli.proofs.Passes.Alone.{AloneMaker, alone_worked}
use Rattle.dcm_cli.proofs.Passes.Files.{FileMaker, Concludes, reads_file, file_unopened, file_worked}
use Rattle.dcm_cli.proofs.Passes.MetaHeads.{Opened}
use Rattle.dcm_cli.proofs.Passes.Opens.{head_opened}
use Rattle.dcm_cli.proofs.Passes.Readers.{for_another}

-- the bytes before such a piece are known where the rest is
same_front : (file before p rest : List ℕ) (left : Option (List ℕ)) → Some file ≡ prepend_known before left → left ≡ Some rest → file ≡ p ++ rest → p ≡ before
same_front file before p rest left given at whole =
    let both : Some (p ++ rest) ≡ Some (before ++ rest) = ap Some (sym whole) ∙ given ∙ ap (prepend_known before) at in
    let same : p ++ rest ≡ before ++ rest = cc in
    append_cancel_right p before rest same

-- what was read where reading failed there was undecided
undecided_of : (job : Job) (file before : List ℕ) (left held holds : Option (List ℕ)) (n : ℕ) (ending : Ending) → ending ≡ Unread n → Some file ≡ prepend_known before left → Worked job file left held holds ending → IsUndecided job before
undecided_of job file before left held holds n ending is given (answered out verdict was ends grown) = absurd (let no : Unread n ≡ endings.Worked verdict = sym is ∙ ends in cc)
undecided_of job file before left held holds n ending is given (could_not_write out verdict was ends grown) = absurd (let no : Unread n ≡ Output = sym is ∙ ends in cc)
undecided_of job file before left held holds n ending is given (could_not_read p rest out whole at sure ends grown) =
    (out, subst (λ (q : List ℕ). Sure job q out) (same_front file before p rest left given at whole) sure)

-- ---- a file

-- its head had not ended
pub head_undecided : (job : Job) → reads_file job ≡ true → (bytes : List ℕ) → HeadGoesOn bytes → IsUndecided job bytes
head_undecided job is_file bytes going =
    undecided_of job (bytes ++ []) bytes (Some []) None None (length bytes) (Unread (length bytes)) refl refl
    (file_unopened job is_file None (head_read bytes) bytes [] with_failure (heads.Unread (length bytes)) tt (refl, going, refl))

-- where no more than the head was read
pub head_reads : {R : Type 0} (r : Reader R) (job : Job) → reads_file job ≡ true → (old new : R) (read : List ℕ) (how : How) → ReadsInput r HeadGoesOn old read how new → ReadsInput r (IsUndecided job) old read how new
head_reads r job is_file old new read how h = for_another r HeadGoesOn (IsUndecided job) old new read how (head_undecided job is_file) h

-- where it has ended before the end of the input, the last call gave bytes
pub head_gave : {R : Type 0} (r : Reader R) (old new : R) (read : List ℕ) (how : How) → HasEnded (head_read read).end → ReadsInput r HeadGoesOn old read how new → Gave r.gets old read new × (how ≡ in_part)
head_gave {R} r old new read how ended h = by_calls h.calls
  where
    by_call : (before : List ℕ) (mid : R) (call : Option (List ℕ)) → Gave r.gets old before mid → HeadGoesOn before → r.gets mid call new → read ≡ before ++ unwrap_or call [] → how ≡ how_of call → Gave r.gets old read new × (how ≡ in_part)
    by_call before mid None calls going gets is how_is = absurd (subst HasEnded (ap (λ (bs : List ℕ). (head_read bs).end) (is ∙ append-nil before) ∙ going) ended)
    by_call before mid (Some []) calls going gets is how_is = absurd (subst HasEnded (ap (λ (bs : List ℕ). (head_read bs).end) (is ∙ append-nil before) ∙ going) ended)
    by_call before mid (Some (b ∷ bs)) calls going gets is how_is = (and_call before (b ∷ bs) mid calls gets (omega arith) is, how_is)

    by_calls : InputCalls r.gets HeadGoesOn old read how new → Gave r.gets old read new × (how ≡ in_part)
    by_calls (no_call none how_is same) = absurd (subst HasEnded (ap (λ (bs : List ℕ). (head_read bs).end) none) ended)
    by_calls (last_call before mid call calls going gets is how_is) = by_call before mid call calls going gets is how_is

-- the head had ended with what was read
ended_read : (r : HeadReading) (b : Beginning) (buffer read : List ℕ) (how : How) → b.is_over ≡ false → Begins r b buffer how read → HasEnded (head_read read).end
ended_read r b buffer read how going begins = elim begins.reading [
  | inl same ↦ subst (λ (x : HeadReading). HasEnded x.end) same begins.ended
  | inr x ↦ absurd (let no : false ≡ true = sym going ∙ x.0 in cc)
]

pub began_gave : {R : Type 0} (r : Reader R) (old new : R) (m : HeadReading) (b : Beginning) (buffer read : List ℕ) (how : How) → Begins m b buffer how read → ReadsInput r HeadGoesOn old read how new → b.is_over ≡ false
    → Gave r.gets old read new × (how ≡ in_part)
began_gave r old new m b buffer read how begins h going = head_gave r old new read how (ended_read m b buffer read how going begins) h

-- the reading of its data set had not halted
module _ (job : Job) (is_file : reads_file job ≡ true) (read more : List ℕ) (r : HeadReading) (o : Opened (job_dictionary job) r (read ++ (more ++ []))) (kept : refuses_change job o.coding ≡ false) (k : FileMaker job o.coding) where
  abbrev start : ℕ
  start = 132 + length o.group

  concludes_unread : (after : Option (List ℕ)) (t : k.maker.State) (n : ℕ) → Concludes job is_file (read ++ (more ++ [])) after None r o kept k t (Unread n) (Unread n)
  concludes_unread after t n = record {
    done = λ f stop reads last is. absurd (let no : Unread n ≡ endings.Worked (verdict_of_stop stop) = is in cc);
    not_read = λ count is. is;
    not_written = λ is. is;
  }

  pub set_undecided : (how : How) (b : Beginning) (buffer : List ℕ) → Begins r b buffer how read → b.is_over ≡ false
      → (fold (steps k.maker.bars k.maker.step) (start_of o.coding.syntax start, k.maker.first) (set_bytes b buffer ++ more)).0.halt ≡ None → IsUndecided job (read ++ more)
  set_undecided how b buffer begins started going =
      let first = start_of o.coding.syntax start in
      let header : Option (List ℕ) = append_known None (k.header o.m) in
      let n = next_offset first + length (set_bytes b buffer ++ more) in
      let last : k.maker.State = (fold (steps k.maker.bars k.maker.step) (first, k.maker.first) (set_bytes b buffer ++ more)).1 in
      let holds : Option (List ℕ) = append_known header (outputs (steps k.maker.bars k.maker.step) (steps_write k.maker.bars k.maker.step k.maker.writes) (first, k.maker.first) (set_bytes b buffer ++ more)) in
      undecided_of job (read ++ (more ++ [])) (read ++ more) (Some []) None holds n (Unread n) refl (ap Some (sym (append_assoc read more [])))
      (file_worked job is_file (read ++ (more ++ [])) (Some []) None r o kept k (more ++ []) [] how header last holds b buffer read more (Unread n) (Unread n) (concludes_unread (Some []) last n) refl refl refl begins refl
      (λ over. absurd (let no : false ≡ true = sym started ∙ over in cc)) (unread going refl refl refl))

-- of a file that is written again
pub opened_undecided : (target : Option Syntax) (change : HeadChange) (job : Job) → reads_file job ≡ true → (maker : (coding : Coding) → FileMaker job coding) (read more : List ℕ) (how : How) → Allows how (more ++ []) → (held holds : Option (List ℕ)) (buffer : List ℕ) (x : OpenedFile)
    → (h : OpenedAs (job_dictionary job) target change read how held holds buffer x) → refuses_change job x.coding ≡ false → x.beginning.is_over ≡ false
    → (fold (steps (maker x.coding).maker.bars (maker x.coding).maker.step) (start_of x.coding.syntax x.start, (maker x.coding).maker.first) (set_bytes x.beginning buffer ++ more)).0.halt ≡ None → IsUndecided job (read ++ more)
opened_undecided target change job is_file maker read more how ok held holds buffer x h kept started going =
    let o = head_opened (job_dictionary job) read (more ++ []) how ok buffer h.reading x.beginning x.coding x.start h.head in
    let k = (maker x.coding).maker in
    set_undecided job is_file read more h.reading o kept (maker x.coding) how x.beginning buffer h.head.begins started
    (subst (λ (n : ℕ). (fold (steps k.bars k.step) (start_of x.coding.syntax n, k.first) (set_bytes x.beginning buffer ++ more)).0.halt ≡ None) (h.head.start_is ∙ o.place_is) going)

-- ---- a data set alone

pub alone_undecided : (job : Job) (s : Syntax) (k : AloneMaker job s) (bytes : List ℕ) → (fold (steps k.maker.bars k.maker.step) (start_of s 0, k.maker.first) bytes).0.halt ≡ None → IsUndecided job bytes
alone_undecided job s k bytes going =
    let mid : Option (List ℕ) = append_known None k.header in
    let out : Option (List ℕ) = append_known mid (outputs (steps k.maker.bars k.maker.step) (steps_write k.maker.bars k.maker.step k.maker.writes) (start_of s 0, k.maker.first) bytes) in
    let n = next_offset (start_of s 0) + length bytes in
    let last : k.maker.State = (fold (steps k.maker.bars k.maker.step) (start_of s 0, k.maker.first) bytes).1 in
    undecided_of job (bytes ++ []) bytes (Some []) None out n (Unread n) refl refl
    (alone_worked job s k (bytes ++ []) (Some []) None bytes [] mid last out (Unread n) refl refl refl (unread going refl refl refl))
