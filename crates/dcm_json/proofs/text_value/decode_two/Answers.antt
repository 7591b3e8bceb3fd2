use Rattle.std.proofs.Common.{◌∙◌, ap, sym, List, ℕ, ◌++◌, false}
use Rattle.std.specs.Prelude.{fold}
use Rattle.std.proofs.lemmas.Result.{on_ok_weaker}
use Rattle.dcm_base.specs.Steps.Steps.{outputs}
use Rattle.dcm_text.specs.Runs.{State, run, state_of}
use Rattle.dcm_json.specs.TextState.{parts_in}
use Rattle.dcm_json.specs.Values as values
use Rattle.dcm_json.specs.Values.{Values}
use Rattle.dcm_json.proofs.Decoding.{outputs_both, state_both, values_both}
use Rattle.dcm_json.proofs.Written.{both_out, failed_first, wrote_as}
use Rattle.dcm_json.proofs.text_value.decode_two.Goals as goal

pub returns-in_err-decode-clause-wrote : goal.returns-in_err-decode-clause-wrote
returns-in_err-decode-clause-wrote g c =
    let s : State = state_of c.args.decoder.now in
    wrote_as _ (sym (outputs_both c.args.values.now false s c.args.first.now c.args.second.now))
    (failed_first _ _ c.from_residual.ensures.0 c.in_err-decode.ensures.wrote.bytes c.in_err-decode.ensures.wrote.failed)

pub returns-clause-decoder : goal.returns-clause-decoder
returns-clause-decoder g c =
    let s : State = state_of c.args.decoder.now in
    on_ok_weaker c.decode-2.result (λ e.
    e ∙ ap (λ (u : State). (run false u c.args.second.now).1) c.in_ok-decode.ensures.decoder
    ∙ sym (state_both false s c.args.first.now c.args.second.now)) c.decode-2.ensures.decoder

pub returns-clause-values : goal.returns-clause-values
returns-clause-values g c =
    let s : State = state_of c.args.decoder.now in
    on_ok_weaker c.decode-2.result (λ e.
    e ∙ ap (λ (u : State). fold values.step c.decode.new.values (parts_in (run false u c.args.second.now))) c.in_ok-decode.ensures.decoder
    ∙ ap (λ (v : Values). fold values.step v (parts_in (run false (run false s c.args.first.now).1 c.args.second.now))) c.in_ok-decode.ensures.values
    ∙ sym (values_both c.args.values.now false s c.args.first.now c.args.second.now)) c.decode-2.ensures.values

pub returns-clause-wrote : goal.returns-clause-wrote
returns-clause-wrote g c =
    let s : State = state_of c.args.decoder.now in
    wrote_as _
    (ap (λ (x : List ℕ). outputs values.step values.writes c.args.values.now (parts_in (run false s c.args.first.now)) ++ x)
    (ap (λ (u : State). outputs values.step values.writes c.decode.new.values (parts_in (run false u c.args.second.now))) c.in_ok-decode.ensures.decoder
    ∙ ap (λ (v : Values). outputs values.step values.writes v (parts_in (run false (run false s c.args.first.now).1 c.args.second.now))) c.in_ok-decode.ensures.values)
    ∙ sym (outputs_both c.args.values.now false s c.args.first.now c.args.second.now))
    (both_out _ c.in_ok-decode.ensures.wrote.bytes c.in_ok-decode.ensures.wrote.failed c.decode-2.ensures.wrote)
