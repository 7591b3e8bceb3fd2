use Rattle.std.proofs.Common.{ap, ◌∙◌, arith}
use Rattle.dcm_json.specs.TextState.{TextState, fed, feeds}
use Rattle.dcm_json.proofs.Decoding.{fed_is, feeds_is}
use Rattle.dcm_json.proofs.Written.{failed_alone, wrote_as}
use Rattle.dcm_json.proofs.text_value.TextValue.feed.Goals as goal

pub overflow_cast-self : goal.overflow_cast-self
overflow_cast-self g c = omega (arith, c.requires.within, ap (λ (t : TextState). t.left) c.self.view_is, c.self.inside.few)

pub returns-in_err-decode_two-clause-wrote : goal.returns-in_err-decode_two-clause-wrote
returns-in_err-decode_two-clause-wrote g c =
    wrote_as _ (feeds_is c.self.inside.left c.self.inside.waits c.self.inside.decoder c.self.inside.values c.args.bytes.now c.before_nul-waits.result.0.now c.waited-before.result.now
    c.before_nul-waits.ensures.front c.waited-before.ensures ∙ ap (λ (t : TextState). feeds t c.args.bytes.now) c.self.view_is)
    (failed_alone _ c.from_residual.ensures.0 c.in_err-decode_two.ensures.wrote.bytes c.in_err-decode_two.ensures.wrote.failed)

pub returns-clause-state : goal.returns-clause-state
returns-clause-state g c =
    fed_is c.self.inside.left c.self.inside.waits c.self.inside.decoder c.decode_two.new.decoder c.self.inside.values c.decode_two.new.values c.args.bytes.now
    c.before_nul-waits.result.0.now c.before_nul-waits.result.1 c.waited-before.result.now
    c.before_nul-waits.ensures.front c.before_nul-waits.ensures.nul c.waited-before.ensures c.in_ok-decode_two.ensures.decoder c.in_ok-decode_two.ensures.values
    ∙ ap (λ (t : TextState). fed t c.args.bytes.now) c.self.view_is

pub returns-clause-wrote : goal.returns-clause-wrote
returns-clause-wrote g c =
    wrote_as _ (feeds_is c.self.inside.left c.self.inside.waits c.self.inside.decoder c.self.inside.values c.args.bytes.now c.before_nul-waits.result.0.now c.waited-before.result.now
    c.before_nul-waits.ensures.front c.waited-before.ensures ∙ ap (λ (t : TextState). feeds t c.args.bytes.now) c.self.view_is)
    c.in_ok-decode_two.ensures.wrote
