use Rattle.std.proofs.Common.{◌∷◌, ◌∙◌, ap, sym, subst, refl, ℕ, List, [], ◌++◌, append_assoc, Option, Some, None, rules}
use Rattle.dcm_words.specs.Words.{Job, modify}
use Rattle.dcm_stream.specs.Reading.{start_of}
use Rattle.dcm_editor.specs.EditSink.{begun}
use Rattle.dcm_editor.specs.Through.{through_step, through_writes, through_bar}
use Rattle.dcm_sinks.specs.EncodeSink.{EncodeState, encode_step, encode_writes, encode_start}
use Rattle.dcm_sinks.specs.Encoder.{state as encoder_state}
use Rattle.dcm_cli.specs.declared.ending.Ending.{Ending}
use Rattle.dcm_cli.specs.EditPass.{not_found}
use Rattle.dcm_cli.specs.InputCalls.{Allows, Reader, IsUndecided}
use Rattle.dcm_cli.specs.Opening.{unchanged}
use Rattle.dcm_cli.specs.Pass as spec
use Rattle.dcm_cli.specs.Run.{Worked}
use Rattle.dcm_cli.proofs.Passes.Decided.{decided_by, not_opened_decided, set_decided, still_not_done}
use Rattle.dcm_cli.proofs.Passes.EditPasses.{edits_not_opened, edits_worked}
use Rattle.dcm_cli.proofs.Passes.MakesEdits.{file_editor}
use Rattle.dcm_cli.proofs.Passes.Readers.{members, allows_any, allows_nothing, nothing_follows, ends_empty, joined}
use Rattle.dcm_cli.proofs.Runs.Stopping.{head_reads, head_undecided, began_gave, opened_undecided}
use Rattle.dcm_cli.proofs.modify.modify_file.Goals as goal

pub returns-in-Err : goal.returns-in-Err
returns-in-Err g c =
    let job : Job = modify c.args.dictionary c.args.edits.now in
    let x = c.in-Err.ensures.opens in
    record {
      given = x.read;
      how = x.how;
      reads = head_reads (members g.R.Device g.R.DeviceIn) job refl _ _ x.read x.how x.reads;
      worked = λ rest ok.
          edits_not_opened c.args.dictionary c.args.edits.now c.requires.meant x.read rest x.how ok (g.W.DeviceOut.contents c.args.out.now) (g.W.DeviceOut.contents c.open_file.new.out) c.in-Err.ending x.opens;
      decided = not_opened_decided None unchanged job refl (λ coding. refl) x.read x.how (g.W.DeviceOut.contents c.args.out.now) (g.W.DeviceOut.contents c.open_file.new.out) c.in-Err.ending x.opens;
      unread = search rules;
      failed = search rules;
    }

pub returns : goal.returns
returns g c =
    let reader : Reader g.row.R.Denot = (members g.R.Device g.R.DeviceIn) in
    let job : Job = modify c.args.dictionary c.args.edits.now in
    let x = c.in-Ok.ensures.opens in
    let opened = c.in-Ok.opened in
    let buffer = c.open_file.new.buffer in
    let held = g.W.DeviceOut.contents c.args.out.now in
    let mid = g.W.DeviceOut.contents c.open_file.new.out in
    let holds = g.W.DeviceOut.contents c.read_edited.new.sink.out.now in
    let last : EncodeState = encoder_state c.read_edited.new.sink.encoder in
    let pass = c.read_edited.ensures.passes in
    let Passed : EncodeState → Option (List ℕ) → Type 0 = λ s known. spec.ReadsSet through_bar (through_step encode_step) (through_writes encode_step encode_writes) reader c.open_file.new.input c.read_edited.new.input opened.beginning.is_over (spec.set_bytes opened.beginning buffer)
    (start_of opened.coding.syntax opened.start) (begun c.args.edits.now, s) known (pass.last, last) holds pass.passed
    in
    let set = subst (λ known. Passed (encode_start opened.coding.syntax) known) (ap (λ (x : g.row.W.Denot). g.W.DeviceOut.contents x) c.new-sink.ensures.out)
    (subst (λ s. Passed s (g.W.DeviceOut.contents c.new-sink.result.out.now)) c.new-sink.ensures.state pass.ends)
    in
    let Going : List ℕ → Type 0 = spec.SetGoesOn through_bar (through_step encode_step) opened.beginning.is_over (spec.set_bytes opened.beginning buffer) (start_of opened.coding.syntax opened.start) (begun c.args.edits.now, encode_start opened.coding.syntax) in
    let j = joined reader spec.HeadGoesOn Going (IsUndecided job) c.args.input.now c.open_file.new.input c.read_edited.new.input x.read set.more x.how set.how x.reads set.reads (head_undecided job refl)
    (λ more is going. opened_undecided None unchanged job refl (file_editor c.args.dictionary c.args.edits.now c.requires.meant) x.read more x.how (allows_any x.how is (more ++ [])) held mid buffer opened x.opens refl going.0 going.1)
    (λ more going. began_gave reader c.args.input.now c.open_file.new.input x.opens.reading opened.beginning buffer x.read x.how x.opens.head.begins x.reads going.0)
    in
    let worked : (rest : List ℕ) → Allows j.how rest → Worked job ((x.read ++ set.more) ++ rest) (Some rest) held holds c.read_edited.result = λ rest ok.
    let a = j.allows rest ok in
    let f = subst (λ (ending : Ending). Worked job (x.read ++ (set.more ++ rest)) (Some rest) held holds ending) (sym pass.ending_is)
    (edits_worked c.args.dictionary c.args.edits.now c.requires.meant x.read (set.more ++ rest) x.how a.0 held mid buffer opened x.opens set.more rest refl pass.last last holds pass.passed pass.was
    (set.ends rest a.1 (λ over. ends_empty set.more rest (nothing_follows x.how (set.more ++ rest) a.0 (x.opens.head.begins.over over)))))
    in
    subst (λ (bytes : List ℕ). Worked job bytes (Some rest) held holds c.read_edited.result) (sym (append_assoc x.read set.more rest)) f
    in
    let k = c.read_edited.ensures.kept in
    let n = c.new-sink.ensures.same_reference in
    record {
      given = x.read ++ set.more;
      how = j.how;
      reads = j.reads;
      worked = λ rest ok.
          subst (λ (known : Option (List ℕ)). Worked job ((x.read ++ set.more) ++ rest) (Some rest) held known c.read_edited.result) (search (rules, k, n)) (worked rest ok);
      decided = decided_by job (x.read ++ set.more) j.how c.read_edited.result held holds (worked [] (allows_nothing j.how)) (λ one.
          set_decided job refl opened.coding refl (file_editor c.args.dictionary c.args.edits.now c.requires.meant opened.coding) x.read set.more x.how j.how buffer x.opens.reading opened.beginning opened.start x.opens.head (λ rest ok. (j.allows rest ok).0) mid (pass.last, last) holds pass.passed c.read_edited.result (λ y no is. pass.ending_is ∙ ap (λ (e : Ending). spec.with_unplaced e (not_found pass.last.found)) is ∙ still_not_done y (not_found pass.last.found) no) one
          (set.ends (0 ∷ []) (j.allows (0 ∷ []) one).1 (λ over. ends_empty set.more (0 ∷ []) (nothing_follows x.how (set.more ++ 0 ∷ []) (j.allows (0 ∷ []) one).0 (x.opens.head.begins.over over)))));
      unread = search rules;
      failed = search rules;
    }
