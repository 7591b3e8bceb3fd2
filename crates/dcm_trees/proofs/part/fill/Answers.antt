use Rattle.dcm_trees.proofs.Jobs.{fills_of}
use Rattle.dcm_trees.proofs.part.fill.Goals as goal

pub returns : goal.returns
returns g c = fills_of c.close-closing.new.self c.close-closing.result c.new-input.ensures c.new-out.ensures c.finish-ended.ensures c.into_device.ensures c.close-closing.ensures c.into_device-2.ensures c.release.ensures c.after_closing.ensures
