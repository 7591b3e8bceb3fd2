use Rattle.std.proofs.Common.{List, [], ◌∷◌, Ok, sym, subst}
use Rattle.dcm_base.specs.Steps.Atoms.{Atom, opens_item}
use Rattle.dcm_base.specs.declared.length.Length.TheVariants.{Undefined}
use Rattle.dcm_deid.specs.Deidentifying.{state}
use Rattle.dcm_stream.proofs.Runs.Skipped.{none_open}
use Rattle.dcm_stream.proofs.Runs.Taking.{took_nothing}
use Rattle.dcm_deid.proofs.Passing.{item_gone, item_kept}
use Rattle.dcm_deid.proofs.Taking.{TookAs, token}
use Rattle.dcm_deid.proofs.sink.put_item.Goals as goal

pub returns-then-is_open : goal.returns-then-is_open
returns-then-is_open g c = λ options key declared.
    subst (λ (xs : List Atom). TookAs g.S.Sink c.args.sink.now c.args.sink.now xs (Ok tt)) (item_gone (state options key c.args.place.now) declared (sym c.if-is_open.ensures))
    (took_nothing g.S.Sink c.args.sink.now tt)

pub returns : goal.returns
returns g c = λ options key declared.
    subst (λ (xs : List Atom). TookAs g.S.Sink c.args.sink.now c.take.new.self xs c.take.result) (sym (item_kept (state options key c.args.place.now) declared (none_open _ c.if-is_open.ensures)))
    (token g.S.Sink c.args.sink.now c.take.new.self (opens_item Undefined ∷ []) c.take.result c.take.ensures.state c.take.ensures.bytes c.take.ensures.failed c.take.ensures.kept)
