use Rattle.std.proofs.Common.{◌∙◌, ◌+◌, refl, sym, ap, arith, length, length-append}
use Rattle.dcm_head.specs.Rewriting.{written_stay}
use Rattle.dcm_head.proofs.MetaGroups.Rewritten.{left_all, left_more, left_none}
use Rattle.dcm_head.proofs.rewriting.stay_size.Goals as goal

pub elements-init : goal.elements-init
elements-init g c = record {
  short = c.requires.group;
  limit = omega arith;
  gone = λ all s m. (left_all (g.N.Renewal.renewing c.args.renewal.now) c.args.group.now c.args.uid.now all s m, refl);
}

pub elements-preserved : goal.elements-preserved
elements-preserved g c =
    let first = c.in-Some.ensures.some in
    let less = first.0 in
    record {
      short = omega arith;
      limit = omega arith;
      gone = λ all s m.
          let l = c.elements.invariant.gone all s m in (
            left_more (g.N.Renewal.renewing c.args.renewal.now) c.elements.rest.now c.args.uid.now c.elements.named all _ _ _ _ _ c.is_named-named.result c.renew-renewed.ensures l.0 first (c.is_named-named.ensures _),
            (λ i. l.1 i + c.renewed_size-size.ensures.size i) ∙ sym (length-append l.0.gone (written_stay c.renew-renewed.result c.elements.named c.args.uid.now c.in-Some.first)),
          );
    }

pub returns-clause-size : goal.returns-clause-size
returns-clause-size g c = λ all s m.
    let l = c.elements.invariant.gone all s m in
    l.1 ∙ ap length (left_none (g.N.Renewal.renewing c.args.renewal.now) c.elements.rest.now c.args.uid.now c.elements.named all l.0 (c.in_default.ensures.none))
