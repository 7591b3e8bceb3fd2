use Rattle.std.proofs.Common.{◌∙◌, ap, refl, sym}
use Rattle.dcm_trees.specs.Instance as spec
use Rattle.dcm_trees.specs.Instance.{without_name}
use Rattle.dcm_trees.specs.Place.{path_in}
use Rattle.dcm_trees.proofs.Jobs.{places_at}
use Rattle.dcm_trees.proofs.instance.name_by.Goals as goal

pub returns-in-Some : goal.returns-in-Some
returns-in-Some g c =
    spec.placed c.in-Some.path.items c.place_part.result c.name-relative.result
    (sym (c.in-Some.ensures ∙ ap (path_in c.args.manner.output.now) (c.as_slice.ensures.value ∙ c.name-relative.ensures)))
    (places_at _ _ c.as_slice-in-Some.ensures.value c.place_part.ensures) c.name-relative.ensures refl

pub returns-in-None : goal.returns-in-None
returns-in-None g c =
    spec.too_long (sym (c.in-None.ensures ∙ ap (path_in c.args.manner.output.now) (c.as_slice.ensures.value ∙ c.name-relative.ensures)))
    c.remove_part.ensures c.tell_place.ensures.line (c.without_name.ensures ∙ ap without_name c.tell_place.ensures.fate)
