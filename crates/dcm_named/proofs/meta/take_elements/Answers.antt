use Rattle.std.proofs.Common.{rules, ◌∙◌, refl, sym, ap, arith, flat_map}
use Rattle.dcm_lemmas.proofs.Options.{known_nothing}
use Rattle.dcm_stream.specs.Tokens.{atoms_of}
use Rattle.dcm_named.proofs.MetaAtoms.{left_all, left_more, left_taken, left_done, left_failed}
use Rattle.dcm_named.proofs.meta.take_elements.Goals as goal

pub elements-init : goal.elements-init
elements-init g c = record {
  within = c.requires;
  gone = λ all s m. (left_all c.args.group.now all s m, refl, sym (known_nothing _));
  failed = refl;
  kept = refl;
}

pub returns-in_err-take_all : goal.returns-in_err-take_all
returns-in_err-take_all g c =
    let i = c.elements.invariant in
    let first = c.in-Some.ensures.some in
    let k = g.S.Sink in
    let same = ap (flat_map atoms_of) c.as_slice.ensures.value ∙ c.leaf-tokens.ensures.atoms in
    let e = c.in_err-take_all.ensures in
    record {
      takes = λ all s m.
          let l = i.gone all s m in
          left_failed k.step k.writes (k.state c.args.sink.now) _ (k.state c.take_all.new.sink) (k.contents c.args.sink.now) _ (k.contents c.take_all.new.sink) c.elements.rest.now all _ _ _ _ (flat_map atoms_of c.as_slice.result.now) c.from_residual.result l.0 same first l.1 l.2 c.from_residual.ensures.0 e.takes;
      failed = search rules;
      kept = search rules;
    }

pub elements-preserved : goal.elements-preserved
elements-preserved g c =
    let i = c.elements.invariant in
    let first = c.in-Some.ensures.some in
    let less = first.0 in
    let k = g.S.Sink in
    let same = ap (flat_map atoms_of) c.as_slice.ensures.value ∙ c.leaf-tokens.ensures.atoms in
    let e = c.in_ok-take_all.ensures in
    record {
      within = omega arith;
      gone = λ all s m.
          let l = i.gone all s m in
          let t = left_taken k.step k.writes (k.state c.args.sink.now) _ (k.state c.take_all.new.sink) (k.contents c.args.sink.now) _ (k.contents c.take_all.new.sink) l.0.gone _ (flat_map atoms_of c.as_slice.result.now) same l.1 l.2 e.takes.0 e.takes.1 in
          (left_more c.elements.rest.now all _ _ _ _ l.0 first, t.0, t.1);
      failed = e.failed ∙ i.failed;
      kept = e.kept ∙ i.kept;
    }

pub returns : goal.returns
returns g c =
    let i = c.elements.invariant in
    let k = g.S.Sink in
    record {
      takes = λ all s m.
          let l = i.gone all s m in
          left_done k.step k.writes (k.state c.args.sink.now) _ (k.contents c.args.sink.now) _ c.elements.rest.now all l.0 c.in_default.ensures.none l.1 l.2;
      failed = i.failed;
      kept = i.kept;
    }
