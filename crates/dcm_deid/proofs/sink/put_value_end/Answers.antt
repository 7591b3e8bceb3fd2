use Rattle.std.proofs.Common.{List, [], ◌∷◌, sym, subst}
use Rattle.dcm_base.specs.Steps.Atoms.{Atom, closes_leaf}
use Rattle.dcm_deid.specs.Deidentifying.{state}
use Rattle.dcm_stream.proofs.Runs.Skipped.{none_open}
use Rattle.dcm_deid.proofs.Passing.{leaf_end_kept, leaf_end_made}
use Rattle.dcm_deid.proofs.Taking.{TookAs, token}
use Rattle.dcm_deid.proofs.sink.put_value_end.Goals as goal

pub returns-then-is_open : goal.returns-then-is_open
returns-then-is_open g c =
    subst (λ (xs : List Atom). TookAs g.S.Sink c.args.sink.now c.put_made.new.sink xs c.put_made.result) (leaf_end_made (state c.args.options.now c.args.key.now.bytes.now c.args.place.now) (sym c.if-is_open.ensures))
    c.put_made.ensures

pub returns : goal.returns
returns g c =
    subst (λ (xs : List Atom). TookAs g.S.Sink c.args.sink.now c.take.new.self xs c.take.result) (sym (leaf_end_kept (state c.args.options.now c.args.key.now.bytes.now c.args.place.now) (none_open _ c.if-is_open.ensures)))
    (token g.S.Sink c.args.sink.now c.take.new.self (closes_leaf ∷ []) c.take.result c.take.ensures.state c.take.ensures.bytes c.take.ensures.failed c.take.ensures.kept)
