use Rattle.std.proofs.Common.{rules, ◌∙◌, refl, sym, ap, arith}
use Rattle.std.specs.Io.KnownBytes.{append_known}
use Rattle.dcm_lemmas.proofs.Options.{known_nothing}
use Rattle.dcm_sinks.proofs.DecodedDumps.MetaLines.{left_all, left_more, left_none, failed_at, gone_more, first_form}
use Rattle.dcm_sinks.proofs.dump.decoded_header.put_decoded_elements.Goals as goal

pub elements-init : goal.elements-init
elements-init g c = record {
  within = c.requires;
  gone = λ all s m. (left_all c.args.dictionary c.args.mode c.args.group.now all s m, sym (known_nothing _));
  failed = refl;
}

pub returns-in_err-put_decoded_element : goal.returns-in_err-put_decoded_element
returns-in_err-put_decoded_element g c =
    let gone = c.elements.invariant.gone in
    let first = c.in-Some.ensures.some in
    record { bytes = λ all s m. failed_at c.args.dictionary c.args.mode _ _ _ c.elements.rest.now all _ _ _ _ c.from_residual.result (gone all s m).0 first (gone all s m).1 (c.in_err-put_decoded_element.ensures.bytes (first_form c.args.dictionary c.args.mode c.elements.rest.now all _ _ _ _ (gone all s m).0 first)) c.from_residual.ensures.0; failed = search rules }

pub elements-preserved : goal.elements-preserved
elements-preserved g c =
    let first = c.in-Some.ensures.some in
    let less = first.0 in
    record {
      within = omega arith;
      gone = λ all s m.
          let l = c.elements.invariant.gone all s m in (
            left_more c.args.dictionary c.args.mode c.elements.rest.now all _ _ _ _ l.0 first,
            gone_more _ _ _ l.0.gone _ l.1 (c.in_ok-put_decoded_element.ensures.bytes (first_form c.args.dictionary c.args.mode c.elements.rest.now all _ _ _ _ l.0 first)),
          );
      failed = c.in_ok-put_decoded_element.ensures.failed ∙ c.elements.invariant.failed;
    }

pub returns : goal.returns
returns g c =
    let gone = c.elements.invariant.gone in
    record { bytes = λ all s m. (gone all s m).1 ∙ ap (append_known _) (left_none c.args.dictionary c.args.mode c.elements.rest.now all (gone all s m).0 c.in_default.ensures.none); failed = search rules }
