use Rattle.std.proofs.Common.{rules}
use Rattle.dcm_base.specs.Tree.Tree.{no_tree}
use Rattle.dcm_base.specs.Conversion.NewMeta.{new_elements, renewed}
use Rattle.dcm_head.proofs.MetaGroups.Rewritten.{elements_and_own, own_puts, own_failed}
use Rattle.dcm_head.proofs.rewriting.put_elements.Goals as goal

pub returns-in_err-put_stay : goal.returns-in_err-put_stay
returns-in_err-put_stay g c =
    let new = g.N.Renewal.renewing c.args.renewal.now in
    let own = g.N.Renewal.own c.args.renewal.now in
    let bytes = c.own_elements-own.result.now in
    record {
      bytes = λ all s m.
          own_failed _ _ (new_elements (renewed new no_tree all) c.args.uid.now) bytes _ c.from_residual.result
          (elements_and_own new own c.args.uid.now bytes all c.own_elements-own.ensures m) (c.in_err-put_stay.ensures.bytes all s m) c.from_residual.ensures.0;
      failed = search rules;
    }

pub returns : goal.returns
returns g c =
    let new = g.N.Renewal.renewing c.args.renewal.now in
    let own = g.N.Renewal.own c.args.renewal.now in
    let bytes = c.own_elements-own.result.now in
    record {
      bytes = λ all s m.
          own_puts _ _ _ (new_elements (renewed new no_tree all) c.args.uid.now) bytes _ c.put_all.result
          (elements_and_own new own c.args.uid.now bytes all c.own_elements-own.ensures m) (c.in_ok-put_stay.ensures.bytes all s m) c.put_all.ensures.wrote.bytes;
      failed = search rules;
    }
