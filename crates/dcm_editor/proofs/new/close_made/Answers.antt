use Rattle.std.proofs.Common.{rules, [], ◌∷◌}
use Rattle.dcm_base.specs.Steps.Atoms.{closes_item, closes_sequence}
use Rattle.dcm_editor.proofs.EditSinks.Taken.{token_taken, then_taken}
use Rattle.dcm_editor.proofs.new.close_made.Goals as goal

pub returns : goal.returns
returns g c =
    let r = c.take-2.result in
    record {
      takes = then_taken g.S.Sink c.args.sink.now c.take.new.self c.take-2.new.self (closes_item ∷ []) (closes_sequence ∷ []) r (c.in_ok-take.ensures.state, c.in_ok-take.ensures.bytes)
          (token_taken g.S.Sink c.take.new.self c.take-2.new.self (closes_sequence ∷ []) r c.take-2.ensures.state c.take-2.ensures.bytes);
      failed = search rules;
      kept = search rules;
    }
