use Rattle.dcm_editor.proofs.Masks.IndexGrows.{ends_grow, steps_grow, makers_grow, bit_kept}
use Rattle.dcm_editor.proofs.index.TagIndex.add_action.Goals as goal

pub returns-in-Insert-clause-others : goal.returns-in-Insert-clause-others
returns-in-Insert-clause-others g c =
    makers_grow c.args.self.now c.with_bit-self.result (bit_kept c.args.self.now.makers c.with_bit-self.result c.args.place c.with_bit-self.ensures.same c.with_bit-self.ensures.others)

pub returns-in-Modify-clause-others : goal.returns-in-Modify-clause-others
returns-in-Modify-clause-others g c = ends_grow c.args.self.now c.add.new.self c.add.ensures.others

pub returns-in-Erase-clause-others : goal.returns-in-Erase-clause-others
returns-in-Erase-clause-others g c = ends_grow c.args.self.now c.add-in-Erase.new.self c.add-in-Erase.ensures.others

pub returns-in-EraseItem-clause-others : goal.returns-in-EraseItem-clause-others
returns-in-EraseItem-clause-others g c = steps_grow c.args.self.now c.add_step.new.self c.add_step.ensures.others
