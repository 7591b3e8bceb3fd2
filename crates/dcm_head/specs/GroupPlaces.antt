-- The places of the code as the definition of the meta group has them.
use Rattle.dcm_base.specs.File.MetaGroup as group
use Rattle.dcm_head.specs.declared.group.Place.{Place}
use Rattle.dcm_head.specs.declared.group.Place.TheVariants.{Element, End, TooFew, Bad}

abbrev pub place_is : Place → group.GroupPlace
place_is (Element tag vr head size) = group.an_element tag vr head size
place_is End = group.the_end
place_is TooFew = group.too_few
place_is (Bad fault) = group.a_fault fault
