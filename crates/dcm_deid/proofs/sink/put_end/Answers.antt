use Rattle.std.proofs.Common.{List, Ok, sym, subst}
use Rattle.dcm_base.specs.Steps.Atoms.{Atom}
use Rattle.dcm_deid.specs.Deidentifying.{state}
use Rattle.dcm_stream.proofs.Runs.Skipped.{none_open}
use Rattle.dcm_stream.proofs.Runs.Taking.{took_nothing}
use Rattle.dcm_deid.proofs.Passing.{end_gone, end_kept}
use Rattle.dcm_deid.proofs.Taking.{TookAs}
use Rattle.dcm_deid.proofs.sink.put_end.Goals as goal

pub returns-then-is_open : goal.returns-then-is_open
returns-then-is_open g c = λ key.
    subst (λ (xs : List Atom). TookAs g.S.Sink c.args.sink.now c.args.sink.now xs (Ok tt)) (end_gone (state c.args.options.now key c.args.place.now) (sym c.if-is_open.ensures))
    (took_nothing g.S.Sink c.args.sink.now tt)

pub returns : goal.returns
returns g c = λ key.
    subst (λ (xs : List Atom). TookAs g.S.Sink c.args.sink.now c.put_open_end.new.sink xs c.put_open_end.result) (sym (end_kept (state c.args.options.now key c.args.place.now) (none_open _ c.if-is_open.ensures)))
    c.put_open_end.ensures
