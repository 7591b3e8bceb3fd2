use Rattle.std.proofs.Common.{map}
use Rattle.dcm_base.specs.Steps.Atoms.{value_byte}
use Rattle.dcm_deid.specs.Deidentifying.{passed_of}
use Rattle.dcm_deid.proofs.Taking.{all_failed}
use Rattle.dcm_deid.proofs.by_token.pass_on_bytes.Goals as goal

pub returns-in_err-put_plain-clause-took : goal.returns-in_err-put_plain-clause-took
returns-in_err-put_plain-clause-took g c = λ key.
    all_failed g.S.Sink c.args.sink.now c.put_plain.new.sink (passed_of c.args.options.now key c.args.place.now (map value_byte c.args.bytes.now)) c.from_residual.result c.from_residual.ensures.0 (c.in_err-put_plain.ensures c.args.options.now key)

pub returns-clause-took : goal.returns-clause-took
returns-clause-took g c = λ key. c.in_ok-put_plain.ensures c.args.options.now key
