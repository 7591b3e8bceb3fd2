use Rattle.std.proofs.Common.{[], ◌∷◌}
use Rattle.dcm_base.specs.Steps.Atoms.{ends}
use Rattle.dcm_deid.specs.Deidentifying.{passed_of}
use Rattle.dcm_deid.proofs.Taking.{all_failed}
use Rattle.dcm_deid.proofs.by_token.pass_on_end.Goals as goal

pub returns-in_err-put_end-clause-took : goal.returns-in_err-put_end-clause-took
returns-in_err-put_end-clause-took g c = λ key.
    all_failed g.S.Sink c.args.sink.now c.put_end.new.sink (passed_of c.args.options.now key c.args.place.now (ends ∷ [])) c.from_residual.result c.from_residual.ensures.0 (c.in_err-put_end.ensures key)
