use Rattle.std.proofs.Common.{◌∷◌, ◌≡◌, refl, ◌∙◌, ap, sym, subst, ℕ, List, [], ◌++◌, Option, Some, rules, true, false}
use Rattle.std.specs.Io.KnownBytes.{append_known}
use Rattle.dcm_devices.specs.Device.{AppendsFront}
use Rattle.dcm_stream.specs.Machine.{Progress}
use Rattle.dcm_stream.specs.Reading.{Reading, start_of}
use Rattle.dcm_sinks.specs.DecodedHeader.{decoded_alone_header}
use Rattle.dcm_sinks.specs.DecodedSink.{DecodedState, decoded_start, decoded_step, decoded_writes, bars_no_head}
use Rattle.dcm_sinks.specs.DecodedLines.{state_of as decoded_state_of}
use Rattle.dcm_cli.specs.Pass as spec
use Rattle.dcm_words.specs.Words.{Job, dump_decoded}
use Rattle.dcm_base.specs.declared.syntax.Syntax.{Syntax}
use Rattle.dcm_base.specs.declared.syntax.Syntax.TheVariants.{Implicit as implicit_in, Little as little_in, Big as big_in}
use Rattle.dcm_base.specs.Tables.Syntax.{read_by}
use Rattle.dcm_base.specs.declared.dictionary.Dictionary.{Dictionary}
use Rattle.dcm_head.specs.SyntaxUids.{uid_of_syntax}
use Rattle.dcm_cli.specs.InputCalls.{Allows, Reader, in_part, IsUndecided}
use Rattle.dcm_cli.specs.declared.ending.Ended.{Ended}
use Rattle.dcm_cli.specs.declared.ending.Ending.TheVariants.{Output}
use Rattle.dcm_cli.specs.declared.ending.Remarks.{Remarks}
use Rattle.dcm_cli.specs.Calls.{WorksOn}
use Rattle.dcm_cli.specs.Remarks.{unknown_remarked}
use Rattle.dcm_cli.specs.Run.{RemarkedAs, Worked}
use Rattle.dcm_cli.proofs.Passes.Decided.{decided_output, decided_by, alone_decided}
use Rattle.dcm_cli.proofs.Passes.Alone.{alone_decoder, alone_unheaded, alone_worked, put_failed, put_whole}
use Rattle.dcm_cli.proofs.Passes.Readers.{members, writer, allows_nothing, nothing_read, for_another}
use Rattle.dcm_cli.proofs.Passes.RemarkedSets.{alone_decoded_remarked}
use Rattle.dcm_cli.proofs.Runs.Stopping.{alone_undecided}
use Rattle.dcm_cli.proofs.decode.decode_set.Goals as goal

-- the unique identifier depends on no dictionary
uid_alike : (d : Dictionary) (s : Syntax) → uid_of_syntax s ≡ uid_of_syntax (read_by d s)
uid_alike d (implicit_in e) = refl
uid_alike d (little_in e) = refl
uid_alike d (big_in e) = refl

pub returns-then-is_err : goal.returns-then-is_err
returns-then-is_err g c =
    let job : Job = dump_decoded c.args.dictionary c.args.mode (Some c.args.syntax) in
    subst (λ (ended : Ended). WorksOn (members g.R.Device g.R.DeviceIn) (writer g.W.Device g.W.DeviceOut) job c.args.input.now c.args.input.now c.args.out.now c.decoded_alone_header.new.out ended) (sym c.remarking_nothing.ensures)
    (record {
      works = record {
        given = [];
        how = in_part;
        reads = nothing_read (members g.R.Device g.R.DeviceIn) (IsUndecided job) c.args.input.now;
        worked = λ rest ok.
            alone_unheaded job (read_by c.args.dictionary c.args.syntax) (alone_decoder c.args.dictionary c.args.mode c.args.syntax) rest (Some rest) (g.W.DeviceOut.contents c.args.out.now) (g.W.DeviceOut.contents c.decoded_alone_header.new.out)
            (subst (λ uid. AppendsFront (g.W.DeviceOut.contents c.args.out.now) (g.W.DeviceOut.contents c.decoded_alone_header.new.out) (decoded_alone_header uid)) (c.as_bytes.ensures.value ∙ c.of.ensures ∙ uid_alike c.args.dictionary c.args.syntax)
            (put_failed _ _ (decoded_alone_header c.as_bytes.result.now) c.decoded_alone_header.result (sym c.if-is_err.ensures.value) c.decoded_alone_header.ensures.bytes));
        decided = decided_output job [] in_part Output refl;
        unread = search rules;
        failed = search rules;
      };
      remarked = tt;
    })

pub returns : goal.returns
returns g c =
    let reader : Reader g.row.R.Denot = members g.R.Device g.R.DeviceIn in
    let job : Job = dump_decoded c.args.dictionary c.args.mode (Some c.args.syntax) in
    let went = put_whole _ _ (decoded_alone_header c.as_bytes.result.now) c.decoded_alone_header.result (sym c.if-is_err.ensures.value) c.decoded_alone_header.ensures.bytes ∙ ap (λ uid. append_known (g.W.DeviceOut.contents c.args.out.now) (decoded_alone_header uid)) (c.as_bytes.ensures.value ∙ c.of.ensures ∙ uid_alike c.args.dictionary c.args.syntax) in
    let mid = ap (λ (x : g.row.W.Denot). g.W.DeviceOut.contents x) c.new-sink.ensures.out ∙ went in
    let first = ap (λ (p : Progress). p.reading) c.new-machine.ensures ∙ ap (λ (s : Syntax). start_of s 0) c.read_by.ensures in
    let begun : DecodedState = decoded_start c.args.dictionary c.args.mode in
    let begins : Reading = start_of (read_by c.args.dictionary c.args.syntax) 0 in
    let last : DecodedState = decoded_state_of c.read_rest-ending.new.sink.lines c.read_rest-ending.new.sink.in_force in
    let held = g.W.DeviceOut.contents c.new-sink.result.out.now in
    let holds = g.W.DeviceOut.contents c.read_rest-ending.new.sink.out.now in
    let set = subst (λ (r : Reading). spec.ReadsSet bars_no_head decoded_step decoded_writes reader c.args.input.now c.read_rest-ending.new.input false [] r begun held last holds c.read_rest-ending.result) first
    (subst (λ (s : DecodedState). spec.ReadsSet bars_no_head decoded_step decoded_writes reader c.args.input.now c.read_rest-ending.new.input false [] c.new-machine.result.reading s held last holds c.read_rest-ending.result) c.new-sink.ensures.state
    c.read_rest-ending.ensures.reads)
    in
    let Going : List ℕ → Type 0 = spec.SetGoesOn bars_no_head decoded_step false [] begins begun in
    let worked : (rest : List ℕ) → Allows set.how rest → Worked job (set.more ++ rest) (Some rest) (g.W.DeviceOut.contents c.args.out.now) holds c.read_rest-ending.result = λ rest ok.
    alone_worked job (read_by c.args.dictionary c.args.syntax) (alone_decoder c.args.dictionary c.args.mode c.args.syntax) (set.more ++ rest) (Some rest) (g.W.DeviceOut.contents c.args.out.now) set.more rest held last holds c.read_rest-ending.result refl refl mid
    (set.ends rest ok (λ over. absurd (let no : false ≡ true = over in cc)))
    in
    let k = c.read_rest-ending.ensures.kept in
    let n = c.new-sink.ensures.same_reference in
    subst (λ (ended : Ended). WorksOn (members g.R.Device g.R.DeviceIn) (writer g.W.Device g.W.DeviceOut) job c.args.input.now c.read_rest-ending.new.input c.args.out.now c.out-1.given.0 ended) (sym c.remarking_unknown.ensures)
    (record {
      works = record {
        given = set.more;
        how = set.how;
        reads = for_another reader Going (IsUndecided job) c.args.input.now c.read_rest-ending.new.input set.more set.how (λ bytes going. alone_undecided job (read_by c.args.dictionary c.args.syntax) (alone_decoder c.args.dictionary c.args.mode c.args.syntax) bytes going.1) set.reads;
        worked = λ rest ok.
            subst (λ (known : Option (List ℕ)). Worked job (set.more ++ rest) (Some rest) (g.W.DeviceOut.contents c.args.out.now) known c.read_rest-ending.result) (search (rules, k, n)) (worked rest ok);
        decided = decided_by job set.more set.how c.read_rest-ending.result (g.W.DeviceOut.contents c.args.out.now) holds (worked [] (allows_nothing set.how)) (λ one.
            alone_decided job (read_by c.args.dictionary c.args.syntax) (alone_decoder c.args.dictionary c.args.mode c.args.syntax) set.more set.how held last holds c.read_rest-ending.result
            (set.ends (0 ∷ []) one (λ over. absurd (let no : false ≡ true = over in cc))));
        unread = search rules;
        failed = search rules;
      };
      remarked = subst (λ (r : Remarks). RemarkedAs job set.more set.how c.read_rest-ending.result r) (ap unknown_remarked (sym c.has_unknown.ensures))
          (alone_decoded_remarked c.args.dictionary c.args.mode c.args.syntax set.more set.how held holds c.read_rest-ending.result last (λ rest ok. set.ends rest ok (λ over. absurd (let no : false ≡ true = over in cc))));
    })
