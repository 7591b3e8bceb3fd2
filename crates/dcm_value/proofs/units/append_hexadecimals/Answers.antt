use Rattle.std.proofs.Common.{rules, arith, ◌∙◌, ap, sym, ◌++◌, take, drop, ◌*◌, List, ℕ}
use Rattle.dcm_value.specs.declared.units.Kind.TheVariants.{Hexadecimal}
use Rattle.dcm_value.specs.Units.{high_text, separated}
use Rattle.dcm_value.proofs.UnitOrder.Pieces.{pieces_more, separated_more}
use Rattle.dcm_value.proofs.units.append_hexadecimals.Goals as goal

pub loop-at-preserved : goal.loop-at-preserved
loop-at-preserved g c =
    let k : ℕ = g.row.K in
    let at : ℕ = c.loop-at.at in
    let v : List ℕ = c.args.units.now in
    record {
      text = separated_more (high_text Hexadecimal) c.loop-at.text.items _ _ (take k (drop (k * at) v)) _ c.loop-at.invariant.text (search rules) ∙ ap (λ us. c.args.text.now.items ++ separated (high_text Hexadecimal) us) (sym (pieces_more at k v));
      size = omega arith;
    }
