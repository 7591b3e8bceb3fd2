use Rattle.std.proofs.Common.{◌∷◌, ap, sym, subst, ℕ, List, [], ◌++◌, append_assoc, Option, Some, refl, rules}
use Rattle.dcm_words.specs.Words.{Job, convert}
use Rattle.dcm_stream.specs.Reading.{start_of}
use Rattle.dcm_sinks.specs.EncodeSink.{EncodeState, encode_bar, encode_step, encode_writes, encode_start}
use Rattle.dcm_sinks.specs.Encoder.{state as encoder_state}
use Rattle.dcm_cli.specs.InputCalls.{Allows, Reader, IsUndecided}
use Rattle.dcm_cli.specs.Opening.{unchanged}
use Rattle.dcm_cli.specs.Pass as spec
use Rattle.dcm_cli.specs.Run.{Worked}
use Rattle.dcm_cli.proofs.Passes.Decided.{decided_by, not_opened_decided, set_decided}
use Rattle.dcm_cli.proofs.Passes.Files.{file_encoder}
use Rattle.dcm_cli.proofs.Passes.Opens.{not_opened, opened_worked_same}
use Rattle.dcm_cli.proofs.Passes.Sets.{convert_tells_nothing}
use Rattle.dcm_cli.proofs.Passes.Readers.{members, allows_any, allows_nothing, nothing_follows, ends_empty, joined}
use Rattle.dcm_cli.proofs.Runs.Stopping.{head_reads, head_undecided, began_gave, opened_undecided}
use Rattle.dcm_cli.proofs.convert.convert_file.Goals as goal

pub returns-in-Err : goal.returns-in-Err
returns-in-Err g c =
    let job : Job = convert c.args.dictionary c.args.target in
    let x = c.in-Err.ensures.opens in
    record {
      given = x.read;
      how = x.how;
      reads = head_reads (members g.R.Device g.R.DeviceIn) job refl _ _ x.read x.how x.reads;
      worked = λ rest ok.
          not_opened c.args.target unchanged job refl (λ coding. refl) (file_encoder c.args.dictionary c.args.target) (λ coding m. refl) x.read rest x.how ok
          (g.W.DeviceOut.contents c.args.out.now) (g.W.DeviceOut.contents c.open_file.new.out) c.in-Err.ending x.opens;
      decided = not_opened_decided c.args.target unchanged job refl (λ coding. refl) x.read x.how (g.W.DeviceOut.contents c.args.out.now) (g.W.DeviceOut.contents c.open_file.new.out) c.in-Err.ending x.opens;
      unread = search rules;
      failed = search rules;
    }

pub returns : goal.returns
returns g c =
    let reader : Reader g.row.R.Denot = (members g.R.Device g.R.DeviceIn) in
    let job : Job = convert c.args.dictionary c.args.target in
    let x = c.in-Ok.ensures.opens in
    let opened = c.in-Ok.opened in
    let buffer = c.open_file.new.buffer in
    let held = g.W.DeviceOut.contents c.args.out.now in
    let mid = g.W.DeviceOut.contents c.open_file.new.out in
    let holds = g.W.DeviceOut.contents c.read_set.new.sink.out.now in
    let last : EncodeState = encoder_state c.read_set.new.sink.encoder in
    let Passed : EncodeState → Option (List ℕ) → Type 0 = λ s known. spec.ReadsSet encode_bar encode_step encode_writes reader c.open_file.new.input c.read_set.new.input opened.beginning.is_over (spec.set_bytes opened.beginning buffer)
    (start_of opened.coding.syntax opened.start) s known last holds c.read_set.result
    in
    let passed = subst (λ known. Passed (encode_start c.target_syntax.result) known) (ap (λ (x : g.row.W.Denot). g.W.DeviceOut.contents x) c.new-sink.ensures.out)
    (subst (λ s. Passed s (g.W.DeviceOut.contents c.new-sink.result.out.now)) c.new-sink.ensures.state c.read_set.ensures.ends)
    in
    let set = subst (λ t. Passed (encode_start t) mid) c.target_syntax.ensures passed in
    let first : EncodeState = (file_encoder c.args.dictionary c.args.target opened.coding).maker.first in
    let Going : List ℕ → Type 0 = spec.SetGoesOn encode_bar encode_step opened.beginning.is_over (spec.set_bytes opened.beginning buffer) (start_of opened.coding.syntax opened.start) first in
    let j = joined reader spec.HeadGoesOn Going (IsUndecided job) c.args.input.now c.open_file.new.input c.read_set.new.input x.read set.more x.how set.how x.reads set.reads (head_undecided job refl)
    (λ more is going. opened_undecided c.args.target unchanged job refl (file_encoder c.args.dictionary c.args.target) x.read more x.how (allows_any x.how is (more ++ [])) held mid buffer opened x.opens x.opens.keeps going.0 going.1)
    (λ more going. began_gave reader c.args.input.now c.open_file.new.input x.opens.reading opened.beginning buffer x.read x.how x.opens.head.begins x.reads going.0)
    in
    let worked : (rest : List ℕ) → Allows j.how rest → Worked job ((x.read ++ set.more) ++ rest) (Some rest) held holds c.read_set.result = λ rest ok.
    let a = j.allows rest ok in
    let f = opened_worked_same c.args.target unchanged job refl (λ coding. refl) (file_encoder c.args.dictionary c.args.target) (λ coding m. refl) x.read (set.more ++ rest) x.how a.0 held
    mid buffer opened x.opens set.more rest refl (convert_tells_nothing c.args.dictionary c.args.target) last holds c.read_set.result c.read_set.ensures.over
    (set.ends rest a.1 (λ over. ends_empty set.more rest (nothing_follows x.how (set.more ++ rest) a.0 (x.opens.head.begins.over over))))
    in
    subst (λ (bytes : List ℕ). Worked job bytes (Some rest) held holds c.read_set.result) (sym (append_assoc x.read set.more rest)) f
    in
    let k = c.read_set.ensures.kept in
    let n = c.new-sink.ensures.same_reference in
    record {
      given = x.read ++ set.more;
      how = j.how;
      reads = j.reads;
      worked = λ rest ok.
          subst (λ (known : Option (List ℕ)). Worked job ((x.read ++ set.more) ++ rest) (Some rest) held known c.read_set.result) (search (rules, k, n)) (worked rest ok);
      decided = decided_by job (x.read ++ set.more) j.how c.read_set.result held holds (worked [] (allows_nothing j.how)) (λ one.
          set_decided job refl opened.coding x.opens.keeps (file_encoder c.args.dictionary c.args.target opened.coding) x.read set.more x.how j.how buffer x.opens.reading opened.beginning opened.start x.opens.head (λ rest ok. (j.allows rest ok).0) mid last holds c.read_set.result c.read_set.result (λ y no is. is) one
          (set.ends (0 ∷ []) (j.allows (0 ∷ []) one).1 (λ over. ends_empty set.more (0 ∷ []) (nothing_follows x.how (set.more ++ 0 ∷ []) (j.allows (0 ∷ []) one).0 (x.opens.head.begins.over over)))));
      unread = search rules;
      failed = search rules;
    }
