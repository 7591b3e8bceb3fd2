use Rattle.std.proofs.Common.{◌∷◌, ◌≡◌, ◌∙◌, ap, sym, subst, ℕ, List, ◌++◌, [], append_assoc, Option, Some, None, refl, rules}
use Rattle.std.specs.Prelude.{fold}
use Rattle.std.specs.Io.KnownBytes.{append_known}
use Rattle.dcm_base.specs.Tables.Syntax.{Little}
use Rattle.dcm_devices.specs.Device.{AppendsFront}
use Rattle.dcm_sinks.specs.DecodedHeader.{decoded_meta_header, decoded_set_header}
use Rattle.dcm_base.specs.Bytes.Spelling.{Spells}
use Rattle.dcm_words.specs.Words.{Job, dump_decoded}
use Rattle.dcm_head.specs.MetaReading.{uid_of}
use Rattle.dcm_stream.specs.Machine.{steps}
use Rattle.dcm_stream.specs.Reading.{start_of}
use Rattle.dcm_sinks.specs.DecodedSink.{DecodedState, decoded_start, decoded_step, decoded_writes, bars_no_head}
use Rattle.dcm_cli.specs.declared.ending.Ended.{Ended}
use Rattle.dcm_cli.specs.declared.ending.Ending.{Ending}
use Rattle.dcm_cli.specs.declared.ending.Remarks.{Remarks}
use Rattle.dcm_cli.specs.Calls.{WorksOn}
use Rattle.dcm_cli.specs.Remarks.{no_remarks, unknown_remarked}
use Rattle.dcm_sinks.specs.DecodedLines.{state_of as decoded_state_of}
use Rattle.dcm_cli.specs.InputCalls.{Allows, Reader, in_part, IsUndecided}
use Rattle.dcm_cli.specs.Opening.{HeadRead}
use Rattle.dcm_cli.specs.Pass as spec
use Rattle.dcm_cli.specs.declared.ending.Ending.TheVariants.{Output}
use Rattle.dcm_cli.specs.Run.{IsDecided, RemarkedAs, Worked}
use Rattle.dcm_cli.proofs.Passes.Decided.{decided_output, decided_by, unopened_decided, set_decided}
use Rattle.dcm_cli.proofs.Passes.Alone.{put_failed, put_whole}
use Rattle.dcm_cli.proofs.Passes.Files.{file_unopened, file_unheaded, file_worked, concludes_same, file_opened, file_decoder}
use Rattle.dcm_cli.proofs.Passes.Opens.{head_opened}
use Rattle.dcm_cli.proofs.Passes.Sets.{decoded_tells_nothing}
use Rattle.dcm_cli.proofs.Passes.Readers.{members, writer, allows_any, allows_nothing, nothing_follows, ends_empty, joined}
use Rattle.dcm_cli.proofs.Passes.Remarked.{head_remarked, set_remarked}
use Rattle.dcm_cli.proofs.Passes.RemarkedSets.{decoded_told}
use Rattle.dcm_cli.proofs.Runs.Stopping.{head_reads, head_undecided, began_gave, set_undecided}
use Rattle.dcm_cli.proofs.decode.decode_file.Goals as goal

pub returns-in-Err : goal.returns-in-Err
returns-in-Err g c =
    let head = c.in-Err.ensures in
    let job : Job = dump_decoded c.args.dictionary c.args.mode None in
    subst (λ (ended : Ended). WorksOn (members g.R.Device g.R.DeviceIn) (writer g.W.Device g.W.DeviceOut) job c.args.input.now c.read_head_of.new.input c.args.out.now c.args.out.now ended) (sym c.remarking_nothing.ensures)
    (record {
      works = record {
        given = head.read;
        how = head.how;
        reads = head_reads (members g.R.Device g.R.DeviceIn) job refl _ _ head.read head.how head.reads;
        worked = λ rest ok.
            subst (λ (x : Ending). Worked job (head.read ++ rest) (Some rest) (g.W.DeviceOut.contents c.args.out.now) (g.W.DeviceOut.contents c.args.out.now) x) (sym c.ending_of_head.ensures)
            (file_unopened job refl (g.W.DeviceOut.contents c.args.out.now) c.read_head_of.new.meta head.read rest head.how c.in-Err.ending ok head.outcome);
        decided = subst (IsDecided job head.read head.how) (sym c.ending_of_head.ensures) (unopened_decided job refl c.read_head_of.new.meta head.read head.how c.in-Err.ending head.outcome);
        unread = search rules;
        failed = search rules;
      };
      remarked = subst (λ (x : Ending). RemarkedAs job head.read head.how x no_remarks) (sym c.ending_of_head.ensures) (head_remarked job refl c.read_head_of.new.meta head.read head.how c.in-Err.ending head.outcome);
    })

pub returns-then-is_err : goal.returns-then-is_err
returns-then-is_err g c =
    let head = c.in-Ok.ensures in
    let job : Job = dump_decoded c.args.dictionary c.args.mode None in
    let r = c.read_head_of.new.meta in
    subst (λ (ended : Ended). WorksOn (members g.R.Device g.R.DeviceIn) (writer g.W.Device g.W.DeviceOut) job c.args.input.now c.read_head_of.new.input c.args.out.now c.decoded_dump_header.new.out ended) (sym c.remarking_nothing-then-is_err.ensures)
    (record {
      works = record {
        given = head.read;
        how = head.how;
        reads = head_reads (members g.R.Device g.R.DeviceIn) job refl _ _ head.read head.how head.reads;
        worked = λ rest ok.
            let o = file_opened c.args.dictionary r c.in-Ok.beginning c.read_head_of.new.buffer head.how head.read rest ok head.outcome in
            let went = c.decoded_dump_header.ensures.bytes o.m.elements (subst (Spells Little o.m.elements) (sym o.group_is) o.spelled) o.meta in
            let header : List ℕ → List ℕ = λ uid. decoded_meta_header c.args.dictionary c.args.mode o.m.elements ++ decoded_set_header uid in
            file_unheaded job refl (head.read ++ rest) (Some rest) (g.W.DeviceOut.contents c.args.out.now) r o refl (file_decoder c.args.dictionary c.args.mode o.coding) (g.W.DeviceOut.contents c.decoded_dump_header.new.out)
            (subst (λ uid. AppendsFront (g.W.DeviceOut.contents c.args.out.now) (g.W.DeviceOut.contents c.decoded_dump_header.new.out) (header uid)) o.uid_is
            (put_failed _ _ (header (uid_of r)) c.decoded_dump_header.result (sym c.if-is_err.ensures.value) went));
        decided = decided_output job head.read head.how Output refl;
        unread = search rules;
        failed = search rules;
      };
      remarked = tt;
    })

pub returns : goal.returns
returns g c =
    let reader : Reader g.row.R.Denot = members g.R.Device g.R.DeviceIn in
    let job : Job = dump_decoded c.args.dictionary c.args.mode None in
    let head = c.in-Ok.ensures in
    let r = c.read_head_of.new.meta in
    let b = c.in-Ok.beginning in
    let buffer = c.read_head_of.new.buffer in
    let coding = c.read_by.result in
    let start = c.set_start-start.result in
    let first : DecodedState = decoded_start c.args.dictionary c.args.mode in
    let last : DecodedState = decoded_state_of c.read_set-ending.new.sink.lines c.read_set-ending.new.sink.in_force in
    let held = g.W.DeviceOut.contents c.args.out.now in
    let mid = g.W.DeviceOut.contents c.new-sink.result.out.now in
    let holds = g.W.DeviceOut.contents c.read_set-ending.new.sink.out.now in
    let h : HeadRead c.args.dictionary head.read head.how buffer r b coding start =
    record { begins = head.outcome; named = c.coding.result; end_is = c.coding.ensures; coding_is = c.read_by.ensures; start_is = c.set_start-start.ensures.place }
    in
    let set = subst (λ s. spec.ReadsSet bars_no_head decoded_step decoded_writes reader c.read_head_of.new.input c.read_set-ending.new.input b.is_over (spec.set_bytes b buffer) (start_of coding.syntax start) s mid last holds c.read_set-ending.result)
    c.new-sink.ensures.state c.read_set-ending.ensures.ends
    in
    let Going : List ℕ → Type 0 = spec.SetGoesOn bars_no_head decoded_step b.is_over (spec.set_bytes b buffer) (start_of coding.syntax start) first in
    let undecided : (more : List ℕ) → head.how ≡ in_part → Going more → IsUndecided job (head.read ++ more) = λ more is going.
    let o = head_opened c.args.dictionary head.read (more ++ []) head.how (allows_any head.how is (more ++ [])) buffer r b coding start h in
    set_undecided job refl head.read more r o refl (file_decoder c.args.dictionary c.args.mode coding) head.how b buffer head.outcome going.0
    (subst (λ (n : ℕ). (fold (steps bars_no_head decoded_step) (start_of coding.syntax n, first) (spec.set_bytes b buffer ++ more)).0.halt ≡ None) (h.start_is ∙ o.place_is) going.1)
    in
    let j = joined reader spec.HeadGoesOn Going (IsUndecided job) c.args.input.now c.read_head_of.new.input c.read_set-ending.new.input head.read set.more head.how set.how head.reads set.reads (head_undecided job refl) undecided
    (λ more going. began_gave reader c.args.input.now c.read_head_of.new.input r b buffer head.read head.how head.outcome head.reads going.0)
    in
    let worked : (rest : List ℕ) → Allows j.how rest → Worked job ((head.read ++ set.more) ++ rest) (Some rest) held holds c.read_set-ending.result = λ rest ok.
    let a = j.allows rest ok in
    let file : List ℕ = head.read ++ (set.more ++ rest) in
    let o = head_opened c.args.dictionary head.read (set.more ++ rest) head.how a.0 buffer r b coding start h in
    let header : List ℕ → List ℕ = λ uid. decoded_meta_header c.args.dictionary c.args.mode o.m.elements ++ decoded_set_header uid in
    let went = c.decoded_dump_header.ensures.bytes o.m.elements (subst (Spells Little o.m.elements) (sym o.group_is) o.spelled) o.meta in
    let mid_is : mid ≡ append_known held (header o.m.uid) =
    ap (λ (x : g.row.W.Denot). g.W.DeviceOut.contents x) c.new-sink.ensures.out
    ∙ put_whole _ _ (header (uid_of r)) c.decoded_dump_header.result (sym c.if-is_err.ensures.value) went
    ∙ ap (λ (uid : List ℕ). append_known held (header uid)) o.uid_is
    in
    let ends = subst (λ (n : ℕ). spec.Ends bars_no_head decoded_step decoded_writes (start_of coding.syntax n) first mid (Some rest) last holds (spec.set_bytes b buffer ++ set.more) c.read_set-ending.result) (h.start_is ∙ o.place_is)
    (set.ends rest a.1 (λ over. ends_empty set.more rest (nothing_follows head.how (set.more ++ rest) a.0 (head.outcome.over over))))
    in
    let maker = file_decoder c.args.dictionary c.args.mode coding in
    let same = concludes_same job refl file (Some rest) held r o refl maker (decoded_tells_nothing c.args.dictionary c.args.mode None) last c.read_set-ending.result in
    let f = file_worked job refl file (Some rest) held r o refl maker (set.more ++ rest) rest head.how mid last holds b buffer head.read set.more c.read_set-ending.result c.read_set-ending.result same refl refl refl head.outcome mid_is c.read_set-ending.ensures.over ends in
    subst (λ (bytes : List ℕ). Worked job bytes (Some rest) held holds c.read_set-ending.result) (sym (append_assoc head.read set.more rest)) f
    in
    let k = c.read_set-ending.ensures.kept in
    let n = c.new-sink.ensures.same_reference in
    subst (λ (ended : Ended). WorksOn (members g.R.Device g.R.DeviceIn) (writer g.W.Device g.W.DeviceOut) job c.args.input.now c.read_set-ending.new.input c.args.out.now c.out-1.given.0 ended) (sym c.remarking_unknown.ensures)
    (record {
      works = record {
        given = head.read ++ set.more;
        how = j.how;
        reads = j.reads;
        worked = λ rest ok.
            subst (λ (known : Option (List ℕ)). Worked job ((head.read ++ set.more) ++ rest) (Some rest) held known c.read_set-ending.result) (search (rules, k, n)) (worked rest ok);
        decided = decided_by job (head.read ++ set.more) j.how c.read_set-ending.result held holds (worked [] (allows_nothing j.how)) (λ one.
            set_decided job refl coding refl (file_decoder c.args.dictionary c.args.mode coding) head.read set.more head.how j.how buffer r b start h (λ rest ok. (j.allows rest ok).0) mid last holds c.read_set-ending.result c.read_set-ending.result (λ x no is. is) one
            (set.ends (0 ∷ []) (j.allows (0 ∷ []) one).1 (λ over. ends_empty set.more (0 ∷ []) (nothing_follows head.how (set.more ++ 0 ∷ []) (j.allows (0 ∷ []) one).0 (head.outcome.over over)))));
        unread = search rules;
        failed = search rules;
      };
      remarked = subst (λ (r : Remarks). RemarkedAs job (head.read ++ set.more) j.how c.read_set-ending.result r) (ap unknown_remarked (sym c.has_unknown.ensures))
          (set_remarked job refl coding refl (file_decoder c.args.dictionary c.args.mode coding) head.read set.more head.how j.how buffer r b start h (λ rest ok. (j.allows rest ok).0) last (λ (e : Ending). unknown_remarked last.force.unknown)
          (decoded_told c.args.dictionary c.args.mode None coding.syntax start last) mid holds c.read_set-ending.result c.read_set-ending.ensures.over
          (λ rest ok. set.ends rest (j.allows rest ok).1 (λ over. ends_empty set.more rest (nothing_follows head.how (set.more ++ rest) (j.allows rest ok).0 (head.outcome.over over)))));
    })
