use Rattle.std.proofs.Common.{rules, refl, ◌∙◌}
use Rattle.dcm_base.specs.Tables.Representation.{unit}
use Rattle.dcm_base.specs.Tree.Value.{turned}
use Rattle.dcm_sinks.proofs.Conversions.Turned.{put_none, put_more, put_failed, turned_block}
use Rattle.dcm_sinks.proofs.encode.copier.put_blocks.Goals as goal

pub loop-rest-init : goal.loop-rest-init
loop-rest-init g c = record { out = put_none _ _; failed = refl }

pub returns-in_err-put_block : goal.returns-in_err-put_block
returns-in_err-put_block g c =
    record {
      bytes = put_failed _ _ _ _ _ (turned (unit c.args.vr) c.split_at.result.0.now) _ c.from_residual.result c.from_residual.ensures.0 c.loop-rest.invariant.out
          (turned_block c.args.vr c.min.result c.loop-rest.rest.now _ _ c.min.ensures c.split_at.ensures.front c.split_at.ensures.back) c.in_err-put_block.ensures.bytes;
      failed = search rules;
    }

pub loop-rest-preserved : goal.loop-rest-preserved
loop-rest-preserved g c = record {
  out = put_more _ _ _ _ _ (turned (unit c.args.vr) c.split_at.result.0.now) _ c.loop-rest.invariant.out
      (turned_block c.args.vr c.min.result c.loop-rest.rest.now _ _ c.min.ensures c.split_at.ensures.front c.split_at.ensures.back) c.in_ok-put_block.ensures.bytes;
  failed = c.in_ok-put_block.ensures.failed ∙ c.loop-rest.invariant.failed;
}
