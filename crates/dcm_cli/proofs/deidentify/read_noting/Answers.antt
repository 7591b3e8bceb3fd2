use Rattle.std.proofs.Common.{◌≡◌, ◌∙◌, ap, subst, ℕ, List, Bool, Option, rules}
use Rattle.dcm_stream.specs.Reading.{start_of}
use Rattle.dcm_deid.specs.Patient.{PatientState}
use Rattle.dcm_deid.specs.WithPatient.{is_unnamed, noting, noting_bar, noting_step, noting_writes}
use Rattle.dcm_cli.specs.Pass as spec
use Rattle.dcm_cli.proofs.Passes.Readers.{members}
use Rattle.dcm_cli.proofs.deidentify.read_noting.Goals as goal

pub returns : goal.returns
returns g c =
    let last = c.read_set-ending.new.sink in
    let opened = c.args.opened in
    let new = c.new-noting.result in
    let Passed : Option PatientState × g.S.Sink.State → Option (List ℕ) → g.row.S.Denot → Type 0 = λ from held x. spec.ReadsSet (noting_bar g.S.Sink.bar) (noting_step g.S.Sink.step) (noting_writes g.S.Sink.writes)
    (members g.R.Device g.R.DeviceIn) c.args.input.now c.read_set-ending.new.input opened.beginning.is_over (spec.set_bytes opened.beginning c.args.buffer.now) (start_of opened.coding.syntax opened.start) from held
    (last.patient, g.S.Sink.state x) (g.S.Sink.contents x) c.read_set-ending.result
    in
    let passed = subst (λ (from : Option PatientState × g.S.Sink.State). Passed from (g.S.Sink.contents new.inner.now) last.inner.now)
    (ap (λ (p : Option PatientState). (p, g.S.Sink.state new.inner.now)) c.new-noting.ensures.patient ∙ ap (λ (x : g.row.S.Denot). (noting c.args.asked, g.S.Sink.state x)) c.new-noting.ensures.inner) c.read_set-ending.ensures.ends
    in
    let whole = subst (λ (held : Option (List ℕ)). Passed (noting c.args.asked, g.S.Sink.state c.args.sink.now) held last.inner.now) (ap (λ (x : g.row.S.Denot). g.S.Sink.contents x) c.new-noting.ensures.inner) passed in
    let k = c.read_set-ending.ensures.kept in
    let n = c.new-noting.ensures.same_reference in
    record {
      whom = last.patient;
      ends = subst (λ (x : g.row.S.Denot). Passed (noting c.args.asked, g.S.Sink.state c.args.sink.now) (g.S.Sink.contents c.args.sink.now) x) (search (rules, k, n)) whole;
      over = c.read_set-ending.ensures.over;
      unread = search rules;
      failed = search rules;
      kept = search rules;
      unnamed_is = c.names_nobody-unnamed.ensures ∙ ap (λ (closed : Bool). is_unnamed last.patient closed) c.ends_whole.ensures;
    }
