use Rattle.std.proofs.Common.{◌≡◌, ◌∙◌, ap, subst, ℕ, List, Option, rules}
use Rattle.dcm_stream.specs.Reading.{start_of}
use Rattle.dcm_named.specs.Filter.{Place, place_start}
use Rattle.dcm_named.specs.NamedSink.{named_step, named_writes, bars_nothing}
use Rattle.dcm_named.specs.Naming as naming
use Rattle.dcm_cli.specs.Pass as spec
use Rattle.dcm_cli.proofs.Passes.Readers.{members}
use Rattle.dcm_cli.proofs.named.show_set.Goals as goal

pub returns : goal.returns
returns g c =
    let new = c.new-sink.result in
    let last = c.read_set.new.sink in
    let first : Place = place_start c.args.tags.now c.args.ways c.args.mode in
    let Passed : Place × g.S.LineSink.State → Option (List ℕ) → g.row.S.Denot → Type 0 = λ from held x. spec.ReadsSet bars_nothing (named_step g.S.LineSink.step g.S.LineSink.over) (named_writes g.S.LineSink.writes)
    (members g.R.Device g.R.DeviceIn) c.args.input.now c.read_set.new.input c.args.beginning.is_over (spec.set_bytes c.args.beginning c.args.buffer.now) (start_of c.args.coding.syntax c.args.start) from held
    (naming.place last.filter, g.S.LineSink.state x) (g.S.LineSink.contents x) c.read_set.result
    in
    let passed = subst (λ (from : Place × g.S.LineSink.State). Passed from (g.S.LineSink.contents new.lines.now) last.lines.now)
    (ap (λ (p : Place). (p, g.S.LineSink.state new.lines.now)) c.new-sink.ensures.state ∙ ap (λ (x : g.row.S.Denot). (first, g.S.LineSink.state x)) c.new-sink.ensures.lines) c.read_set.ensures.ends
    in
    let whole = subst (λ (held : Option (List ℕ)). Passed (first, g.S.LineSink.state c.args.lines.now) held last.lines.now) (ap (λ (x : g.row.S.Denot). g.S.LineSink.contents x) c.new-sink.ensures.lines) passed in
    let k = c.read_set.ensures.kept in
    let n = c.new-sink.ensures.same_reference in
    record {
      place = naming.place last.filter;
      ends = subst (λ (x : g.row.S.Denot). Passed (first, g.S.LineSink.state c.args.lines.now) (g.S.LineSink.contents c.args.lines.now) x) (search (rules, k, n)) whole;
      over = c.read_set.ensures.over;
      unread = search rules;
      failed = search rules;
      kept = search rules;
    }
