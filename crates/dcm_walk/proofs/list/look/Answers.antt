use Rattle.dcm_walk.specs.List.{on_the_way, at_its_end}
use Rattle.dcm_walk.proofs.list.look.Goals as goal

pub returns-in-Some : goal.returns-in-Some
returns-in-Some g c = on_the_way c.in-Some.ensures

pub returns : goal.returns
returns g c = at_its_end c.seen-found.result c.wrong_on_the_way.new.system c.in_default.ensures c.seen-found.ensures c.what_of.ensures
