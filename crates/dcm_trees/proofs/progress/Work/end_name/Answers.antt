use Rattle.std.proofs.Common.{rules, refl, subst, List, ℕ, Ok, Err, Option}
use Rattle.dcm_trees.specs.Fate.{word}
use Rattle.std.specs.Option.{option_map}
use Rattle.dcm_trees.specs.Work as spec
use Rattle.dcm_trees.proofs.progress.Work.end_name.Goals as goal

pub returns-in-Ok-clause-ends : goal.returns-in-Ok-clause-ends
returns-in-Ok-clause-ends g c = spec.has_row c.put_whole_row.new.out (subst (λ (o : Option (List ℕ)). spec.PutsRow (record { has_failed = g.W.Device.has_failed; contents = g.W.DeviceOut.contents; room = g.W.DeviceOut.room; is_flushed = g.W.DeviceOut.is_flushed }) (spec.row c.args.named.now.name.now o (word c.args.done.now.fate)) c.args.self.now.manifest (Ok _) c.put_whole_row.new.out) c.output_of-output.ensures (subst (λ (text : List ℕ). spec.PutsRow (record { has_failed = g.W.Device.has_failed; contents = g.W.DeviceOut.contents; room = g.W.DeviceOut.room; is_flushed = g.W.DeviceOut.is_flushed }) (spec.row c.args.named.now.name.now (option_map (λ o. o.now) c.output_of-output.result) text) c.args.self.now.manifest (Ok _) c.put_whole_row.new.out) c.word.ensures c.in-Ok.ensures)) (search rules) c.count.ensures.progress refl

pub returns-in-Err-clause-ends : goal.returns-in-Err-clause-ends
returns-in-Err-clause-ends g c = spec.no_row c.put_whole_row.new.out c.in-Err.field-0 _ (subst (λ (o : Option (List ℕ)). spec.PutsRow (record { has_failed = g.W.Device.has_failed; contents = g.W.DeviceOut.contents; room = g.W.DeviceOut.room; is_flushed = g.W.DeviceOut.is_flushed }) (spec.row c.args.named.now.name.now o (word c.args.done.now.fate)) c.args.self.now.manifest (Err c.in-Err.field-0) c.put_whole_row.new.out) c.output_of-output.ensures (subst (λ (text : List ℕ). spec.PutsRow (record { has_failed = g.W.Device.has_failed; contents = g.W.DeviceOut.contents; room = g.W.DeviceOut.room; is_flushed = g.W.DeviceOut.is_flushed }) (spec.row c.args.named.now.name.now (option_map (λ o. o.now) c.output_of-output.result) text) c.args.self.now.manifest (Err c.in-Err.field-0) c.put_whole_row.new.out) c.word.ensures c.in-Err.ensures)) refl (search rules) refl
