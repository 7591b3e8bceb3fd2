use Rattle.std.proofs.Common.{List, Ok, sym, subst}
use Rattle.dcm_base.specs.Steps.Atoms.{Atom}
use Rattle.dcm_stream.specs.Tokens.{atoms_of}
use Rattle.dcm_deid.specs.Deidentifying.{state}
use Rattle.dcm_stream.proofs.Runs.Skipped.{none_open}
use Rattle.dcm_stream.proofs.Runs.Taking.{took_nothing}
use Rattle.dcm_deid.proofs.Passing.{nothing_passed, as_they_are}
use Rattle.dcm_deid.proofs.Taking.{TookAs, token}
use Rattle.dcm_deid.proofs.sink.put_plain.Goals as goal

pub returns-then-is_open : goal.returns-then-is_open
returns-then-is_open g c = λ options key.
    subst (λ (xs : List Atom). TookAs g.S.Sink c.args.sink.now c.args.sink.now xs (Ok tt)) (nothing_passed (state options key c.args.place.now) c.args.token (sym c.if-is_open.ensures) c.requires.plain)
    (took_nothing g.S.Sink c.args.sink.now tt)

pub returns : goal.returns
returns g c = λ options key.
    subst (λ (xs : List Atom). TookAs g.S.Sink c.args.sink.now c.take.new.self xs c.take.result) (sym (as_they_are (state options key c.args.place.now) c.args.token (none_open _ c.if-is_open.ensures) c.requires.plain))
    (token g.S.Sink c.args.sink.now c.take.new.self (atoms_of c.args.token) c.take.result c.take.ensures.state c.take.ensures.bytes c.take.ensures.failed c.take.ensures.kept)
