use Rattle.std.proofs.Common.{◌∷◌, ◌≡◌, refl, ◌∙◌, ap, sym, subst, ℕ, List, [], ◌++◌, Option, Some, rules, true, false}
use Rattle.dcm_sinks.specs.InForce.{EMPTY}
use Rattle.dcm_sinks.specs.DumpSink.{as_before}
use Rattle.dcm_words.specs.Words.{dump_named}
use Rattle.dcm_words.specs.declared.job.Texts.TheVariants.{Bytes}
use Rattle.dcm_named.specs.Filter.{Place, place_start}
use Rattle.dcm_named.specs.Named.{named_set}
use Rattle.dcm_named.specs.NamedSink.{named_step, named_writes, bars_nothing as named_bars}
use Rattle.dcm_cli.specs.Answer.{asked_of}
use Rattle.dcm_lemmas.proofs.Options.{known_nothing}
use Rattle.dcm_cli.specs.NamedPass.{named_by}
use Rattle.dcm_cli.proofs.Passes.Files.{file_namer}
use Rattle.dcm_cli.proofs.Passes.Alone.{alone_namer}
use Rattle.dcm_cli.proofs.Passes.Sets.{named_tells_nothing}
use Rattle.std.specs.Io.KnownBytes.{append_known}
use Rattle.dcm_base.specs.Dump.Header.{set_header}
use Rattle.dcm_devices.specs.Device.{AppendsFront}
use Rattle.dcm_stream.specs.Machine.{Progress}
use Rattle.dcm_stream.specs.Reading.{Reading, start_of}
use Rattle.dcm_sinks.specs.DumpSink.{DumpState, dump_start, dump_step, dump_writes, bars_nothing}
use Rattle.dcm_sinks.specs.Lines.{state as lines_state}
use Rattle.dcm_cli.specs.Pass as spec
use Rattle.dcm_words.specs.Words.{Job, dump}
use Rattle.dcm_base.specs.declared.syntax.Syntax.{Syntax}
use Rattle.dcm_base.specs.declared.syntax.Syntax.TheVariants.{Implicit as implicit_in, Little as little_in, Big as big_in}
use Rattle.dcm_base.specs.Tables.Syntax.{read_by}
use Rattle.dcm_base.specs.declared.dictionary.Dictionary.{Dictionary}
use Rattle.dcm_head.specs.SyntaxUids.{uid_of_syntax}
use Rattle.dcm_cli.specs.InputCalls.{Allows, Reader, in_part, IsUndecided}
use Rattle.dcm_cli.specs.declared.ending.Ending.TheVariants.{Output}
use Rattle.dcm_cli.specs.Run.{Worked}
use Rattle.dcm_cli.proofs.Passes.Decided.{decided_output, decided_by, alone_decided}
use Rattle.dcm_cli.proofs.Passes.Alone.{alone_dumper, alone_unheaded, alone_worked, put_failed, put_whole}
use Rattle.dcm_cli.proofs.Passes.Readers.{members, allows_nothing, nothing_read, for_another}
use Rattle.dcm_cli.proofs.Runs.Stopping.{alone_undecided}
use Rattle.dcm_cli.proofs.named.named_set_by_bytes.Goals as goal

pub returns : goal.returns
returns g c =
    let reader : Reader g.row.R.Denot = members g.R.Device g.R.DeviceIn in
    let job : Job = dump_named Bytes c.args.dictionary c.args.mode (Some c.args.syntax) (named_by c.args.tags.now c.args.ways) in
    let mid = ap (λ (x : g.row.W.Denot). g.W.DeviceOut.contents x) c.with_dictionary-lines.ensures.out ∙ sym (known_nothing _) in
    let begun : Place × DumpState = (place_start c.args.tags.now c.args.ways c.args.mode, dump_start c.args.dictionary c.args.mode) in
    let begins : Reading = start_of (read_by c.args.dictionary c.args.syntax) 0 in
    let last : Place × DumpState = (c.show_alone.ensures.place, lines_state c.show_alone.new.lines.lines) in
    let held = g.W.DeviceOut.contents c.with_dictionary-lines.result.out.now in
    let holds = g.W.DeviceOut.contents c.show_alone.new.lines.out.now in
    let set = subst (λ (x : Syntax). spec.ReadsSet named_bars (named_step dump_step as_before) (named_writes dump_writes) reader c.args.input.now c.show_alone.new.input false [] (start_of x 0) begun held last holds c.show_alone.result) c.read_by.ensures
    (subst (λ (s : DumpState). spec.ReadsSet named_bars (named_step dump_step as_before) (named_writes dump_writes) reader c.args.input.now c.show_alone.new.input false [] (start_of c.read_by.result 0) (place_start c.args.tags.now c.args.ways c.args.mode, s) held last holds c.show_alone.result) c.with_dictionary-lines.ensures.state
    c.show_alone.ensures.reads)
    in
    let Going : List ℕ → Type 0 = spec.SetGoesOn named_bars (named_step dump_step as_before) false [] begins begun in
    let worked : (rest : List ℕ) → Allows set.how rest → Worked job (set.more ++ rest) (Some rest) (g.W.DeviceOut.contents c.args.out.now) holds c.show_alone.result = λ rest ok.
    alone_worked job (read_by c.args.dictionary c.args.syntax) (alone_namer Bytes c.args.dictionary c.args.mode (named_by c.args.tags.now c.args.ways) c.args.syntax) (set.more ++ rest) (Some rest) (g.W.DeviceOut.contents c.args.out.now) set.more rest held last holds c.show_alone.result refl refl mid
    (set.ends rest ok (λ over. absurd (let no : false ≡ true = over in cc)))
    in
    let k = c.show_alone.ensures.kept in
    let n = c.with_dictionary-lines.ensures.same_reference in
    record {
      given = set.more;
      how = set.how;
      reads = for_another reader Going (IsUndecided job) c.args.input.now c.show_alone.new.input set.more set.how (λ bytes going. alone_undecided job (read_by c.args.dictionary c.args.syntax) (alone_namer Bytes c.args.dictionary c.args.mode (named_by c.args.tags.now c.args.ways) c.args.syntax) bytes going.1) set.reads;
      worked = λ rest ok.
          subst (λ (known : Option (List ℕ)). Worked job (set.more ++ rest) (Some rest) (g.W.DeviceOut.contents c.args.out.now) known c.show_alone.result) (search (rules, k, n)) (worked rest ok);
      decided = decided_by job set.more set.how c.show_alone.result (g.W.DeviceOut.contents c.args.out.now) holds (worked [] (allows_nothing set.how)) (λ one.
          alone_decided job (read_by c.args.dictionary c.args.syntax) (alone_namer Bytes c.args.dictionary c.args.mode (named_by c.args.tags.now c.args.ways) c.args.syntax) set.more set.how held last holds c.show_alone.result
          (set.ends (0 ∷ []) one (λ over. absurd (let no : false ≡ true = over in cc))));
      unread = search rules;
      failed = search rules;
    }
