use Rattle.std.specs.Prelude.{codes}
use Rattle.dcm_base.specs.declared.vr.Vr.TheVariants.{LO}
use Rattle.dcm_stream.specs.Tokens.{leaf_atoms}
use Rattle.dcm_deid.specs.Saying.{tag_at}
use Rattle.dcm_deid.specs.DeidentifySink as spec
use Rattle.dcm_deid.proofs.Taking.{given}
use Rattle.dcm_deid.proofs.said.put_method_due.Goals as goal

pub returns-then-is_due : goal.returns-then-is_due
returns-then-is_due g c =
    given g.S.Sink c.args.sink.now c.put_leaf.new.sink (leaf_atoms (tag_at 0x0012 0x0063) LO (codes "dcmtools dcmdeid, PS3.15 2021b")) c.put_leaf.result
    (spec.is_due c.args.options.now c.args.gap.last c.args.gap.next (tag_at 0x0012 0x0063)) c.if-is_due.ensures c.put_leaf.ensures
