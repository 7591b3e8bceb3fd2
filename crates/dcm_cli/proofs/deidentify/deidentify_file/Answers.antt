use Rattle.std.proofs.Common.{◌∷◌, ◌∙◌, ap, sym, subst, refl, ℕ, List, [], ◌++◌, append_assoc, Bool, Option, Some, None, rules}
use Rattle.std.specs.Prelude.{◌&&◌}
use Rattle.dcm_base.specs.declared.dictionary.Dictionary.TheVariants.{Standard}
use Rattle.dcm_words.specs.Words.{Job, deidentify}
use Rattle.dcm_stream.specs.Reading.{start_of}
use Rattle.dcm_deid.specs.DeidentifySink.{begun}
use Rattle.dcm_deid.specs.Through.{through_step, through_writes, through_bar}
use Rattle.dcm_deid.specs.WithPatient.{noting, noting_bar, noting_step, noting_writes}
use Rattle.dcm_sinks.specs.EncodeSink.{EncodeState, encode_step, encode_writes, encode_start}
use Rattle.dcm_sinks.specs.Encoder.{state as encoder_state}
use Rattle.dcm_cli.specs.declared.ending.Ended.{Ended}
use Rattle.dcm_cli.specs.declared.ending.Ending.{Ending}
use Rattle.dcm_cli.specs.declared.ending.Remarks.{Remarks}
use Rattle.dcm_cli.specs.Calls.{Opens, WorksOn}
use Rattle.dcm_cli.specs.InputCalls.{Allows, Reader, IsUndecided}
use Rattle.dcm_cli.specs.Opening.{HeadChange, without_identity}
use Rattle.dcm_cli.specs.Pass as spec
use Rattle.dcm_cli.specs.Run.{RemarkedAs, Worked}
use Rattle.dcm_cli.proofs.Passes.Decided.{decided_by, not_opened_decided, set_decided, still_without_pixels}
use Rattle.dcm_cli.proofs.Passes.DeidentifyPasses.{deidentify_not_opened, deidentify_worked}
use Rattle.dcm_cli.proofs.Passes.MakesDeidentified.{file_deidentifier}
use Rattle.dcm_cli.proofs.Passes.Remarked.{set_remarked}
use Rattle.dcm_cli.proofs.Passes.RemarkedDates.{all_told, not_opened_remarked, with_pixels_remarked}
use Rattle.dcm_cli.proofs.Passes.Readers.{members, writer, allows_any, allows_nothing, nothing_follows, ends_empty, joined}
use Rattle.dcm_cli.proofs.Runs.Stopping.{head_reads, head_undecided, began_gave, opened_undecided}
use Rattle.dcm_cli.proofs.deidentify.deidentify_file.Goals as goal

pub returns-in-Err : goal.returns-in-Err
returns-in-Err g c =
    let what = c.args.what.now in
    let job : Job = deidentify what.options what.reports what.key.items in
    let x = subst (λ (change : HeadChange). Opens (members g.R.Device g.R.DeviceIn) (writer g.W.Device g.W.DeviceOut) Standard None change c.args.input.now c.open_file.new.input c.args.out.now c.open_file.new.out c.args.buffer.now c.open_file.new.buffer c.open_file.result) c.new_head-head.ensures c.open_file.ensures.opens in
    let opens = rw c.in-Err.is at x.opens in
    let ending = c.in-Err.ending in
    let remarked = not_opened_remarked what.options what.reports what.key.items x.read x.how (g.W.DeviceOut.contents c.args.out.now) (g.W.DeviceOut.contents c.open_file.new.out) ending opens in
    subst (λ (ended : Ended). WorksOn (members g.R.Device g.R.DeviceIn) (writer g.W.Device g.W.DeviceOut) job c.args.input.now c.open_file.new.input c.args.out.now c.open_file.new.out ended) (sym c.remarking_nothing.ensures)
    (record {
      works = record {
        given = x.read;
        how = x.how;
        reads = head_reads (members g.R.Device g.R.DeviceIn) job refl _ _ x.read x.how x.reads;
        worked = λ rest ok.
            deidentify_not_opened what.options what.reports what.key.items x.read rest x.how ok (g.W.DeviceOut.contents c.args.out.now) (g.W.DeviceOut.contents c.open_file.new.out) ending opens;
        decided = not_opened_decided None (without_identity what.options what.key.items) job refl (λ coding. refl) x.read x.how (g.W.DeviceOut.contents c.args.out.now) (g.W.DeviceOut.contents c.open_file.new.out) ending opens;
        unread = search rules;
        failed = search rules;
      };
      remarked = remarked;
    })

pub returns : goal.returns
returns g c =
    let reader : Reader g.row.R.Denot = (members g.R.Device g.R.DeviceIn) in
    let what = c.args.what.now in
    let job : Job = deidentify what.options what.reports what.key.items in
    let change : HeadChange = without_identity what.options what.key.items in
    let maker = file_deidentifier what.options what.key.items what.reports in
    let y = subst (λ (change : HeadChange). Opens reader (writer g.W.Device g.W.DeviceOut) Standard None change c.args.input.now c.open_file.new.input c.args.out.now c.open_file.new.out c.args.buffer.now c.open_file.new.buffer c.open_file.result) c.new_head-head.ensures c.open_file.ensures.opens in
    let x = rw c.in-Ok.is at y in
    let opened = c.in-Ok.opened in
    let buffer = c.open_file.new.buffer in
    let held = g.W.DeviceOut.contents c.args.out.now in
    let mid = g.W.DeviceOut.contents c.open_file.new.out in
    let holds = g.W.DeviceOut.contents c.read_deidentified.new.sink.out.now in
    let last : EncodeState = encoder_state c.read_deidentified.new.sink.encoder in
    let pass = c.read_deidentified.ensures.passes in
    let ended = c.read_deidentified.result in
    let shows : Bool = what.reports && pass.last.place.seen.may_show in
    let Passed : EncodeState → Option (List ℕ) → Type 0 = λ s known. spec.ReadsSet (noting_bar through_bar) (noting_step (through_step encode_step)) (noting_writes (through_writes encode_step encode_writes)) reader c.open_file.new.input c.read_deidentified.new.input opened.beginning.is_over (spec.set_bytes opened.beginning buffer)
    (start_of opened.coding.syntax opened.start) (noting what.options.pseudonyms, (begun what.options what.key.items, s)) known (pass.whom, (pass.last, last)) holds pass.passed
    in
    let set = subst (λ known. Passed (encode_start opened.coding.syntax) known) (ap (λ (x : g.row.W.Denot). g.W.DeviceOut.contents x) c.new-sink.ensures.out)
    (subst (λ s. Passed s (g.W.DeviceOut.contents c.new-sink.result.out.now)) c.new-sink.ensures.state pass.ends)
    in
    let Going : List ℕ → Type 0 = spec.SetGoesOn (noting_bar through_bar) (noting_step (through_step encode_step)) opened.beginning.is_over (spec.set_bytes opened.beginning buffer) (start_of opened.coding.syntax opened.start) (noting what.options.pseudonyms, (begun what.options what.key.items, encode_start opened.coding.syntax)) in
    let j = joined reader spec.HeadGoesOn Going (IsUndecided job) c.args.input.now c.open_file.new.input c.read_deidentified.new.input x.read set.more x.how set.how x.reads set.reads (head_undecided job refl)
    (λ more is going. opened_undecided None change job refl maker x.read more x.how (allows_any x.how is (more ++ [])) held mid buffer opened x.opens refl going.0 going.1)
    (λ more going. began_gave reader c.args.input.now c.open_file.new.input x.opens.reading opened.beginning buffer x.read x.how x.opens.head.begins x.reads going.0)
    in
    let worked : (rest : List ℕ) → Allows j.how rest → Worked job ((x.read ++ set.more) ++ rest) (Some rest) held holds ended.ending = λ rest ok.
    let a = j.allows rest ok in
    let f = subst (λ (ending : Ending). Worked job (x.read ++ (set.more ++ rest)) (Some rest) held holds ending) (sym pass.ending_is)
    (deidentify_worked what.options what.reports what.key.items x.read (set.more ++ rest) x.how a.0 held mid buffer opened x.opens set.more rest refl pass.whom pass.last last holds pass.passed pass.was
    (set.ends rest a.1 (λ over. ends_empty set.more rest (nothing_follows x.how (set.more ++ rest) a.0 (x.opens.head.begins.over over)))))
    in
    subst (λ (bytes : List ℕ). Worked job bytes (Some rest) held holds ended.ending) (sym (append_assoc x.read set.more rest)) f
    in
    let k = c.read_deidentified.ensures.kept in
    let n = c.new-sink.ensures.same_reference in
    let ends_at : (rest : List ℕ) → Allows j.how rest → spec.Ends (noting_bar through_bar) (noting_step (through_step encode_step)) (noting_writes (through_writes encode_step encode_writes)) (start_of opened.coding.syntax opened.start) (noting what.options.pseudonyms, (begun what.options what.key.items, encode_start opened.coding.syntax)) mid (Some rest) (pass.whom, (pass.last, last)) holds (spec.set_bytes opened.beginning buffer ++ set.more) pass.passed = λ rest ok.
    set.ends rest (j.allows rest ok).1 (λ over. ends_empty set.more rest (nothing_follows x.how (set.more ++ rest) (j.allows rest ok).0 (x.opens.head.begins.over over)))
    in
    record {
      works = record {
        given = x.read ++ set.more;
        how = j.how;
        reads = j.reads;
        worked = λ rest ok.
            subst (λ (known : Option (List ℕ)). Worked job ((x.read ++ set.more) ++ rest) (Some rest) held known ended.ending) (search (rules, k, n)) (worked rest ok);
        decided = decided_by job (x.read ++ set.more) j.how ended.ending held holds (worked [] (allows_nothing j.how)) (λ one.
            set_decided job refl opened.coding refl (maker opened.coding) x.read set.more x.how j.how buffer x.opens.reading opened.beginning opened.start x.opens.head (λ rest ok. (j.allows rest ok).0) mid (pass.whom, (pass.last, last)) holds pass.passed ended.ending (λ y no is. pass.ending_is ∙ ap (λ (e : Ending). spec.with_pixels e shows) is ∙ still_without_pixels y shows no) one
            (set.ends (0 ∷ []) (j.allows (0 ∷ []) one).1 (λ over. ends_empty set.more (0 ∷ []) (nothing_follows x.how (set.more ++ 0 ∷ []) (j.allows (0 ∷ []) one).0 (x.opens.head.begins.over over)))));
        unread = search rules;
        failed = search rules;
      };
      remarked = subst (λ (e : Ending). RemarkedAs job (x.read ++ set.more) j.how e ended.remarks) (sym pass.ending_is)
          (with_pixels_remarked what.options what.reports what.key.items (x.read ++ set.more) j.how pass.passed ended.remarks shows
          (subst (λ (r : Remarks). RemarkedAs job (x.read ++ set.more) j.how pass.passed r) (sym pass.remarks_are)
          (set_remarked job refl opened.coding refl (maker opened.coding) x.read set.more x.how j.how buffer x.opens.reading opened.beginning opened.start x.opens.head (λ rest ok. (j.allows rest ok).0) (pass.whom, (pass.last, last)) _
          (all_told what.options what.reports what.key.items opened.coding.syntax opened.start (pass.whom, (pass.last, last))) mid holds pass.passed pass.was ends_at)));
    }
