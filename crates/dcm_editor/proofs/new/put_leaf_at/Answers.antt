use Rattle.std.proofs.Common.{List, ◌∙◌, ap, length, subst}
use Rattle.std.specs.Prelude.{flat_map}
use Rattle.dcm_base.specs.Steps.Atoms.{Atom}
use Rattle.dcm_stream.specs.Sinks.{Took}
use Rattle.dcm_stream.specs.Tokens.{atoms_of}
use Rattle.dcm_editor.proofs.EditSinks.Taken.{leaf_atoms}
use Rattle.dcm_editor.proofs.new.put_leaf_at.Goals as goal

pub returns : goal.returns
returns g c =
    let e = c.args.element.now in
    let bytes = c.as_slice.result.now in
    let row = ap (flat_map atoms_of) c.as_slice-2.ensures.value ∙ c.leaf-tokens.ensures.atoms ∙ leaf_atoms c.args.tag e.vr (length bytes) bytes e.value.items (ap length c.as_slice.ensures.value) c.as_slice.ensures.value in
    subst (λ (xs : List Atom). Took g.S.Sink c.args.sink.now c.take_all.new.sink xs c.take_all.result) row c.take_all.ensures
