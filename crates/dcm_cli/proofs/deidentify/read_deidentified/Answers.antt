use Rattle.std.proofs.Common.{◌≡◌, ◌∙◌, ap, subst, ℕ, List, Bool, false, Option, rules}
use Rattle.std.specs.Prelude.{◌&&◌}
use Rattle.dcm_stream.specs.Reading.{start_of}
use Rattle.dcm_deid.specs.Deidentifying as deidentifying
use Rattle.dcm_deid.specs.DeidentifySink.{State as DeidentifyState, begun}
use Rattle.dcm_deid.specs.Patient.{PatientState}
use Rattle.dcm_deid.specs.Through.{through_step, through_writes, through_bar}
use Rattle.dcm_deid.specs.WithPatient.{noting, noting_bar, noting_step, noting_writes}
use Rattle.dcm_cli.specs.declared.ending.Remarks.{Remarks}
use Rattle.dcm_cli.specs.Pass as spec
use Rattle.dcm_cli.proofs.Passes.Readers.{members}
use Rattle.dcm_cli.proofs.deidentify.read_deidentified.Goals as goal

both_remarked : (unnamed also : Bool) (count as_many : ℕ) → unnamed ≡ also → count ≡ as_many → ◌≡◌ {A = Remarks} (record { unnamed = unnamed; emptied = count; unknown = false }) (record { unnamed = also; emptied = as_many; unknown = false })
both_remarked unnamed also count as_many p q = cc

pub returns : goal.returns
returns g c =
    let pass = c.read_noting-ending.ensures in
    let last = c.read_noting-ending.new.sink in
    let opened = c.args.opened in
    let ending = c.read_noting-ending.result.0 in
    let state : DeidentifyState = deidentifying.state last.options last.key.bytes.now last.place in
    let first : DeidentifyState = begun c.args.what.now.options c.args.what.now.key.items in
    let asked : Bool = c.args.what.now.options.pseudonyms in
    let Passed : DeidentifyState × g.S.Sink.State → Option (List ℕ) → g.row.S.Denot → Type 0 = λ from held x. spec.ReadsSet (noting_bar through_bar) (noting_step (through_step g.S.Sink.step)) (noting_writes (through_writes g.S.Sink.step g.S.Sink.writes))
    (members g.R.Device g.R.DeviceIn) c.args.input.now c.read_noting-ending.new.input opened.beginning.is_over (spec.set_bytes opened.beginning c.args.buffer.now) (start_of opened.coding.syntax opened.start) (noting asked, from) held
    (pass.whom, (state, g.S.Sink.state x)) (g.S.Sink.contents x) ending
    in
    let new = c.new-deidentified.result in
    let begins : deidentifying.state new.options new.key.bytes.now new.place ≡ first = c.new-deidentified.ensures.state ∙ ap (λ (key : List ℕ). begun c.args.what.now.options key) c.as_slice.ensures.value in
    let passed = subst (λ (from : DeidentifyState × g.S.Sink.State). Passed from (g.S.Sink.contents new.inner.now) last.inner.now)
    (ap (λ (s : DeidentifyState). (s, g.S.Sink.state new.inner.now)) begins ∙ ap (λ (x : g.row.S.Denot). (first, g.S.Sink.state x)) c.new-deidentified.ensures.inner) pass.ends
    in
    let whole = subst (λ (held : Option (List ℕ)). Passed (first, g.S.Sink.state c.args.sink.now) held last.inner.now) (ap (λ (x : g.row.S.Denot). g.S.Sink.contents x) c.new-deidentified.ensures.inner) passed in
    let k = pass.kept in
    let n = c.new-deidentified.ensures.same_reference in
    record {
      passes = record {
        last = state;
        whom = pass.whom;
        passed = ending;
        ends = subst (λ (x : g.row.S.Denot). Passed (first, g.S.Sink.state c.args.sink.now) (g.S.Sink.contents c.args.sink.now) x) (search (rules, k, n)) whole;
        was = pass.over;
        ending_is = c.with_pixels-ending.ensures ∙ ap (λ (shows : Bool). spec.with_pixels ending (c.args.what.now.reports && shows)) c.pixels_may_show.ensures;
        remarks_are = both_remarked _ _ _ _ pass.unnamed_is c.dates_emptied-emptied.ensures;
      };
      unread = search rules;
      failed = search rules;
      kept = search rules;
    }
