use Rattle.std.proofs.Common.{rules, List, [], ◌∷◌}
use Rattle.dcm_base.specs.Steps.Atoms.{Atom, opens, opens_item}
use Rattle.dcm_base.specs.declared.length.Length.TheVariants.{Undefined}
use Rattle.dcm_base.specs.Tables.Syntax.{Little}
use Rattle.dcm_base.specs.declared.vr.Vr.TheVariants.{SQ}
use Rattle.dcm_editor.proofs.EditSinks.Taken.{token_taken, then_taken, failed_taken}
use Rattle.dcm_editor.proofs.new.open_made.Goals as goal

pub returns-in_err-take : goal.returns-in_err-take
returns-in_err-take g c =
    let head : List Atom = opens c.args.tag SQ Undefined Little ∷ [] in
    record { takes = failed_taken g.S.Sink c.args.sink.now c.take.new.self head (opens_item Undefined ∷ []) c.from_residual.result c.from_residual.ensures.0 c.in_err-take.ensures.bytes; failed = search rules; kept = search rules }

pub returns : goal.returns
returns g c =
    let head : List Atom = opens c.args.tag SQ Undefined Little ∷ [] in
    let r = c.take-2.result in
    record {
      takes = then_taken g.S.Sink c.args.sink.now c.take.new.self c.take-2.new.self head (opens_item Undefined ∷ []) r (c.in_ok-take.ensures.state, c.in_ok-take.ensures.bytes)
          (token_taken g.S.Sink c.take.new.self c.take-2.new.self (opens_item Undefined ∷ []) r c.take-2.ensures.state c.take-2.ensures.bytes);
      failed = search rules;
      kept = search rules;
    }
