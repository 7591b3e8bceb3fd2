use Rattle.std.proofs.Common.{rules, ◌∙◌, refl, sym, ap, arith}
use Rattle.std.specs.Io.KnownBytes.{append_known}
use Rattle.dcm_lemmas.proofs.Options.{known_nothing, known_twice}
use Rattle.dcm_head.specs.Rewriting.{written_stay}
use Rattle.dcm_head.proofs.MetaGroups.Rewritten.{left_all, left_more, left_none, failed_at}
use Rattle.dcm_head.proofs.rewriting.put_stay.Goals as goal

pub elements-init : goal.elements-init
elements-init g c = record {
  short = c.requires.group;
  gone = λ all s m. (left_all (g.N.Renewal.renewing c.args.renewal.now) c.args.group.now c.args.uid.now all s m, sym (known_nothing _));
  failed = refl;
}

pub returns-in_err-put_renewed : goal.returns-in_err-put_renewed
returns-in_err-put_renewed g c =
    let gone = c.elements.invariant.gone in
    record { bytes = λ all s m. failed_at _ _ _ (g.N.Renewal.renewing c.args.renewal.now) c.elements.rest.now c.args.uid.now c.elements.named all _ _ _ _ _ c.from_residual.result c.renew-renewed.ensures (gone all s m).0 c.in-Some.ensures.some (gone all s m).1 c.in_err-put_renewed.ensures.bytes c.from_residual.ensures.0; failed = search rules }

pub elements-preserved : goal.elements-preserved
elements-preserved g c =
    let first = c.in-Some.ensures.some in
    let less = first.0 in
    record {
      short = omega arith;
      gone = λ all s m.
          let l = c.elements.invariant.gone all s m in
          let wrote = written_stay c.renew-renewed.result c.elements.named c.args.uid.now c.in-Some.first in (
            left_more (g.N.Renewal.renewing c.args.renewal.now) c.elements.rest.now c.args.uid.now c.elements.named all _ _ _ _ _ c.is_named-named.result c.renew-renewed.ensures l.0 first (c.is_named-named.ensures _),
            c.in_ok-put_renewed.ensures.bytes ∙ ap (λ known. append_known known wrote) l.1 ∙ known_twice _ l.0.gone wrote,
          );
      failed = c.in_ok-put_renewed.ensures.failed ∙ c.elements.invariant.failed;
    }

pub returns : goal.returns
returns g c =
    let gone = c.elements.invariant.gone in
    record { bytes = λ all s m. (gone all s m).1 ∙ ap (append_known _) (left_none (g.N.Renewal.renewing c.args.renewal.now) c.elements.rest.now c.args.uid.now c.elements.named all (gone all s m).0 c.in_default.ensures.none); failed = search rules }
