use Rattle.std.proofs.Common.{◌∷◌, ◌≡◌, refl, ◌∙◌, ap, sym, subst, ℕ, List, [], ◌++◌, Option, Some, rules, true, false}
use Rattle.dcm_sinks.specs.DecodedSink.{passed_over}
use Rattle.dcm_words.specs.Words.{dump_named}
use Rattle.dcm_words.specs.declared.job.Texts.TheVariants.{Characters}
use Rattle.dcm_named.specs.Filter.{Place, place_start}
use Rattle.dcm_named.specs.NamedSink.{named_step, named_writes, bars_nothing as named_bars}
use Rattle.dcm_lemmas.proofs.Options.{known_nothing}
use Rattle.dcm_cli.specs.NamedPass.{named_by}
use Rattle.dcm_cli.proofs.Passes.Alone.{alone_namer}
use Rattle.dcm_stream.specs.Reading.{Reading, start_of}
use Rattle.dcm_sinks.specs.DecodedSink.{DecodedState, decoded_start, decoded_step, decoded_writes}
use Rattle.dcm_sinks.specs.DecodedLines.{state_of as decoded_state_of}
use Rattle.dcm_cli.specs.Pass as spec
use Rattle.dcm_words.specs.Words.{Job}
use Rattle.dcm_base.specs.declared.syntax.Syntax.{Syntax}
use Rattle.dcm_base.specs.Tables.Syntax.{read_by}
use Rattle.dcm_cli.specs.InputCalls.{Allows, Reader, IsUndecided}
use Rattle.dcm_cli.specs.declared.ending.Ended.{Ended}
use Rattle.dcm_cli.specs.declared.ending.Remarks.{Remarks}
use Rattle.dcm_cli.specs.Calls.{WorksOn}
use Rattle.dcm_cli.specs.Remarks.{unknown_remarked}
use Rattle.dcm_cli.specs.Run.{RemarkedAs, Worked}
use Rattle.dcm_cli.proofs.Passes.Decided.{decided_by, alone_decided}
use Rattle.dcm_cli.proofs.Passes.Alone.{alone_worked}
use Rattle.dcm_cli.proofs.Passes.Readers.{members, writer, allows_nothing, for_another}
use Rattle.dcm_cli.proofs.Passes.RemarkedSets.{alone_named_remarked}
use Rattle.dcm_cli.proofs.Runs.Stopping.{alone_undecided}
use Rattle.dcm_cli.proofs.named.named_set_by_characters.Goals as goal

pub returns : goal.returns
returns g c =
    let reader : Reader g.row.R.Denot = members g.R.Device g.R.DeviceIn in
    let job : Job = dump_named Characters c.args.dictionary c.args.mode (Some c.args.syntax) (named_by c.args.tags.now c.args.ways) in
    let mid = ap (λ (x : g.row.W.Denot). g.W.DeviceOut.contents x) c.new-lines.ensures.out ∙ sym (known_nothing _) in
    let begun : Place × DecodedState = (place_start c.args.tags.now c.args.ways c.args.mode, decoded_start c.args.dictionary c.args.mode) in
    let begins : Reading = start_of (read_by c.args.dictionary c.args.syntax) 0 in
    let last : Place × DecodedState = (c.show_alone-ending.ensures.place, decoded_state_of c.show_alone-ending.new.lines.lines c.show_alone-ending.new.lines.in_force) in
    let held = g.W.DeviceOut.contents c.new-lines.result.out.now in
    let holds = g.W.DeviceOut.contents c.show_alone-ending.new.lines.out.now in
    let set = subst (λ (x : Syntax). spec.ReadsSet named_bars (named_step decoded_step passed_over) (named_writes decoded_writes) reader c.args.input.now c.show_alone-ending.new.input false [] (start_of x 0) begun held last holds c.show_alone-ending.result) c.read_by.ensures
    (subst (λ (s : DecodedState). spec.ReadsSet named_bars (named_step decoded_step passed_over) (named_writes decoded_writes) reader c.args.input.now c.show_alone-ending.new.input false [] (start_of c.read_by.result 0) (place_start c.args.tags.now c.args.ways c.args.mode, s) held last holds c.show_alone-ending.result) c.new-lines.ensures.state
    c.show_alone-ending.ensures.reads)
    in
    let Going : List ℕ → Type 0 = spec.SetGoesOn named_bars (named_step decoded_step passed_over) false [] begins begun in
    let worked : (rest : List ℕ) → Allows set.how rest → Worked job (set.more ++ rest) (Some rest) (g.W.DeviceOut.contents c.args.out.now) holds c.show_alone-ending.result = λ rest ok.
    alone_worked job (read_by c.args.dictionary c.args.syntax) (alone_namer Characters c.args.dictionary c.args.mode (named_by c.args.tags.now c.args.ways) c.args.syntax) (set.more ++ rest) (Some rest) (g.W.DeviceOut.contents c.args.out.now) set.more rest held last holds c.show_alone-ending.result refl refl mid
    (set.ends rest ok (λ over. absurd (let no : false ≡ true = over in cc)))
    in
    let k = c.show_alone-ending.ensures.kept in
    let n = c.new-lines.ensures.same_reference in
    subst (λ (ended : Ended). WorksOn (members g.R.Device g.R.DeviceIn) (writer g.W.Device g.W.DeviceOut) job c.args.input.now c.show_alone-ending.new.input c.args.out.now c.out-1.given.0 ended) (sym c.remarking_unknown.ensures)
    (record {
      works = record {
        given = set.more;
        how = set.how;
        reads = for_another reader Going (IsUndecided job) c.args.input.now c.show_alone-ending.new.input set.more set.how (λ bytes going. alone_undecided job (read_by c.args.dictionary c.args.syntax) (alone_namer Characters c.args.dictionary c.args.mode (named_by c.args.tags.now c.args.ways) c.args.syntax) bytes going.1) set.reads;
        worked = λ rest ok.
            subst (λ (known : Option (List ℕ)). Worked job (set.more ++ rest) (Some rest) (g.W.DeviceOut.contents c.args.out.now) known c.show_alone-ending.result) (search (rules, k, n)) (worked rest ok);
        decided = decided_by job set.more set.how c.show_alone-ending.result (g.W.DeviceOut.contents c.args.out.now) holds (worked [] (allows_nothing set.how)) (λ one.
            alone_decided job (read_by c.args.dictionary c.args.syntax) (alone_namer Characters c.args.dictionary c.args.mode (named_by c.args.tags.now c.args.ways) c.args.syntax) set.more set.how held last holds c.show_alone-ending.result
            (set.ends (0 ∷ []) one (λ over. absurd (let no : false ≡ true = over in cc))));
        unread = search rules;
        failed = search rules;
      };
      remarked = subst (λ (r : Remarks). RemarkedAs job set.more set.how c.show_alone-ending.result r) (ap unknown_remarked (sym c.has_unknown.ensures))
          (alone_named_remarked c.args.dictionary c.args.mode c.args.syntax set.more set.how held holds c.show_alone-ending.result (named_by c.args.tags.now c.args.ways) last (λ rest ok. set.ends rest ok (λ over. absurd (let no : false ≡ true = over in cc))));
    })
