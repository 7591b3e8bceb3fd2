use Rattle.std.proofs.Common.{List, [], ◌∷◌, Ok}
use Rattle.dcm_base.specs.Steps.Atoms.{Atom, opens, closes_sequence}
use Rattle.dcm_base.specs.declared.length.Length.TheVariants.{Undefined}
use Rattle.dcm_base.specs.Tables.Syntax.{Little}
use Rattle.dcm_deid.proofs.Taking.{token, on}
use Rattle.dcm_deid.proofs.sink.put_empty_sequence.Goals as goal

pub returns : goal.returns
returns g c =
    let head : List Atom = opens c.args.head.tag c.args.head.vr Undefined Little ∷ [] in
    on g.S.Sink c.args.sink.now c.take.new.self c.take-2.new.self head (closes_sequence ∷ [])
    (token g.S.Sink c.args.sink.now c.take.new.self head (Ok tt) c.in_ok-take.ensures.state c.in_ok-take.ensures.bytes c.in_ok-take.ensures.failed c.in_ok-take.ensures.kept)
    (token g.S.Sink c.take.new.self c.take-2.new.self (closes_sequence ∷ []) c.take-2.result c.take-2.ensures.state c.take-2.ensures.bytes c.take-2.ensures.failed c.take-2.ensures.kept)
