use Rattle.dcm_stream.proofs.Containers.Rooms.{last_popped, syntax_summed}
use Rattle.dcm_stream.proofs.levels.OpenLevels.set_syntax.Goals as goal

-- neither an end nor a container changes
pub invariant_of-self : goal.invariant_of-self
invariant_of-self c =
    let items = c.self.inside.outermost_first.items in
    let front = c.pop.new.self.items in
    syntax_summed items front c.push.new.self.items c.args.syntax c.in-Some.last.now c.self.invariant
    (last_popped items c.as_slice.result.now front c.pop.result c.in-Some.last.now c.as_slice.ensures.value c.in-Some.ensures.value c.pop.ensures.value c.pop.ensures.items) c.push.ensures.items
