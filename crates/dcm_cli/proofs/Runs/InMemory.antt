-- Runs over writers that tell their size.
use Rattle.std.proofs.Common.{◌≡◌, ◌∙◌, ap, subst, refl, ℕ, ◌-◌, ◌≤◌, List, [], ◌∷◌, ◌++◌, length, Bool, true, false, Option, Some, arith, inl, inr, length-append}
use Rattle.std.specs.Io.KnownBytes.{append_known}
use Rattle.std.proofs.lemmas.List.{length-take-le}
use Rattle.dcm_devices.specs.Device.{AppendsFront, TakesFrom}
use Rattle.dcm_devices.specs.Memory.{written, size, room_of}
use Rattle.dcm_devices.specs.Writing.{Writer}
use Rattle.dcm_devices.specs.declared.memory.MemIn.{MemIn}
use Rattle.dcm_devices.specs.declared.memory.MemOut.{MemOut}
use Rattle.dcm_devices.specs.declared.memory.Measured.{Measured}
use Rattle.dcm_words.specs.Words.{Job}
use Rattle.dcm_cli.specs.Answer.{Answer, Answers}
use Rattle.dcm_cli.specs.InMemory.{LeavesAnswer}
use Rattle.dcm_cli.specs.Calls.{Reader, Runs}
use Rattle.dcm_cli.specs.Change.{Change}
use Rattle.dcm_cli.specs.InputCalls.{How, Allows}
use Rattle.dcm_cli.specs.Run.{Ran, as_answered, not_read, not_written, not_flushed}
use Rattle.dcm_cli.specs.ErrorLines.{Tries, Reports}
use Rattle.dcm_cli.proofs.Passes.Readers.{known}
use Rattle.dcm_cli.specs.Program.{PutsText, put, not_put, not_flushed as text_not_flushed}
use Rattle.dcm_cli.proofs.Runs.OneAnswer.{one_answer}

-- what is told of a writer of this size that holds these bytes
abbrev pub sized : ℕ → List ℕ → Option (List ℕ)
sized size bytes = Some (size ∷ bytes)

-- what it holds grew
grew : (size now : ℕ) (before after bytes : List ℕ) → sized now after ≡ append_known (sized size before) bytes → after ≡ before ++ bytes
grew size now before after bytes e = cc

stays : (size now : ℕ) (before after bytes : List ℕ) → sized now after ≡ append_known (sized size before) bytes → now ≡ size
stays size now before after bytes e = cc

-- one that is full has no room for more than it took
full : (size now : ℕ) (before after bytes : List ℕ) → AppendsFront (sized size before) (sized now after) bytes → length after ≡ now → length bytes ≤ size - length before → ⊥
full size now before after bytes a filled room =
    let same = stays size now before after a.front a.grown in
    let held = ap length (grew size now before after a.front a.grown) ∙ length-append before a.front in
    let all = ap length a.whole ∙ length-append a.front (a.next ∷ a.rest) in
    omega (arith, same, held, all, filled, room)

module _ (size now : ℕ) (before after : List ℕ) (failed_before failed : Bool) (filled : failed ≡ true → length after ≡ now) where
  tried : (line : List ℕ) → Tries (sized size before) (sized now after) failed_before failed line → length line ≤ size - length before → after ≡ before ++ line
  tried line (inl x) room = grew size now before after line x.0
  tried line (inr x) room = absurd (full size now before after line x.0 (filled x.1) room)

-- what a run leaves of writers of these sizes with room for its answer
record Left (a : Answer) (before after : List ℕ) (line_room : ℕ) (told tells : List ℕ) (status : ℕ) : Type 0 where
  output : after ≡ before ++ a.output
  lines : length a.lines ≤ line_room → tells ≡ told ++ a.lines
  status_is : status ≡ a.status

module _ (job : Job) (given rest : List ℕ) (how : How) (ok : Allows how rest) (size now : ℕ) (before after : List ℕ) (line_size line_now : ℕ) (told tells : List ℕ) (room line_left : ℕ) (unwritten_before unwritten untold_before untold : Bool) (status : ℕ)
    (filled : unwritten ≡ true → length after ≡ now) (line_filled : untold ≡ true → length tells ≡ line_now) where
  abbrev output_change : Change
  output_change = record { before = sized size before; after = sized now after; failed_before = unwritten_before; failed_after = unwritten; room = Some room; is_flushed = true }

  abbrev errors_change : Change
  errors_change = record { before = sized line_size told; after = sized line_now tells; failed_before = untold_before; failed_after = untold; room = Some line_left; is_flushed = true }

  left_answered : Ran job given how false output_change errors_change status → (a : Answer) → Answers job (given ++ rest) a → length a.output ≤ size - length before → Left a before after (line_size - length told) told tells status
  left_answered (as_answered b all read fine holds lines status_was) a answers enough =
      let same : b ≡ a = one_answer job (given ++ rest) b a (all rest ok) answers in
      record {
        output = grew size now before after b.output holds ∙ ap (λ (x : Answer). before ++ x.output) same;
        lines = λ most.
            let small : length b.lines ≤ line_size - length told = (let is_long = ap (λ (x : Answer). length x.lines) same in omega (arith, is_long, most)) in
            tried line_size line_now told tells untold_before untold line_filled b.lines lines small ∙ ap (λ (x : Answer). told ++ x.lines) same;
        status_is = status_was ∙ ap (λ (x : Answer). x.status) same;
      }
  left_answered (not_read out remarks unread sure told holds lines status_was) a answers enough = absurd (cc)
  left_answered (not_written each read failed lines status_was) a answers enough =
      let b = each rest ok in
      let same : b.0 ≡ a = one_answer job (given ++ rest) b.0 a b.1 answers in
      let is_long = ap (λ (x : Answer). length x.output) same in
      absurd (full size now before after b.0.output b.2 (filled failed) (omega (arith, is_long, enough)))
  left_answered (not_flushed b all read failed none holds lines status_was) a answers enough = absurd (cc)

-- as many bytes as were put
pub taken : (m : MemOut) → length (written m) ≡ m.at
taken m = length-take-le m.at m.bytes.items (subst (λ (n : ℕ). m.at ≤ n) m.bytes.ok.0 m.within)

filled : (m : MemOut) → m.failed ≡ true → length (written m) ≡ size m
filled m failed = taken m ∙ m.full failed

-- what was done to a writer of memory
abbrev pub memory_change : (before after : MemOut) → Change
memory_change before after = record {
  before = sized (size before) (written before);
  after = sized (size after) (written after);
  failed_before = before.failed;
  failed_after = after.failed;
  room = Some (room_of after);
  is_flushed = true;
}

module _ (job : Job) (given rest : List ℕ) (how : How) (ok : Allows how rest) (out new_out errors new_errors : MemOut) (status : ℕ) where
  pub memory_left : Ran job given how false (memory_change out new_out) (memory_change errors new_errors) status → (a : Answer) → Answers job (given ++ rest) a → length a.output ≤ room_of out → LeavesAnswer a out new_out errors new_errors status
  memory_left ran a answers enough =
      let l = left_answered job given rest how ok (size out) (size new_out) (written out) (written new_out) (size errors) (size new_errors) (written errors) (written new_errors) (room_of new_out) (room_of new_errors) out.failed new_out.failed errors.failed new_errors.failed status
      (filled new_out) (filled new_errors) ran a answers (let at = taken out in omega (arith, at, enough))
      in
      record { output = l.output; lines = λ most. l.lines (let at = taken errors in omega (arith, at, most)); status_is = l.status_is }

-- a line was written where there was room for it
pub line_left : (errors new_errors : MemOut) (line : List ℕ) → Tries (sized (size errors) (written errors)) (sized (size new_errors) (written new_errors)) errors.failed new_errors.failed line → length line ≤ room_of errors
    → written new_errors ≡ written errors ++ line
line_left errors new_errors line tries room =
    tried (size errors) (size new_errors) (written errors) (written new_errors) errors.failed new_errors.failed (filled new_errors) line tries (let at = taken errors in omega (arith, at, room))

-- the members of a reader of memory, and of a writer
abbrev pub memory_reader : Reader MemIn
memory_reader = record {
  has_failed = λ m. false;
  remaining = λ m. Some m.rest.now;
  gets = λ before bytes after. TakesFrom (Some before.rest.now) (Some after.rest.now) bytes;
}

abbrev pub memory_writer : Writer Measured
memory_writer = record {
  has_failed = λ m. m.out.failed;
  contents = λ m. Some (size m.out ∷ written m.out);
  room = λ m. Some (room_of m.out);
  is_flushed = λ m. true;
}

-- a job was run over them
pub ran_left : (job : Job) (i : MemIn) (o : Measured) (input : MemIn) (output : Measured) (errors new_errors : MemOut) (status : ℕ) → Runs memory_reader memory_writer job (memory_change errors new_errors) i input o output status
    → o.out.failed ≡ false → (a : Answer) → Answers job i.rest.now a → length a.output ≤ room_of o.out → LeavesAnswer a o.out output.out errors new_errors status
ran_left job i o input output errors new_errors status has_run fine a answers enough =
    let here = known _ _ _ _ has_run.given has_run.how has_run.reads i.rest.now refl in
    memory_left job has_run.given here.0 has_run.how here.1 o.out output.out errors new_errors status (has_run.ran refl fine) a
    (subst (λ (bytes : List ℕ). Answers job bytes a) here.2 answers) enough

-- a text was written where there was room for it
pub text_left : (out new_out : MemOut) (e : Change) (text : List ℕ) (status : ℕ) → PutsText text (memory_change out new_out) e status
    → length text ≤ room_of out → (written new_out ≡ written out ++ text) × Reports e [] × (status ≡ 0)
text_left out new_out e text status (put holds same flushed line was) enough = (grew (size out) (size new_out) (written out) (written new_out) text holds, line, was)
text_left out new_out e text status (not_put front failed line was) enough =
    absurd (full (size out) (size new_out) (written out) (written new_out) text front (filled new_out failed) (let at = taken out in omega (arith, at, enough)))
text_left out new_out e text status (text_not_flushed holds failed none line was) enough = absurd (cc)
