use Rattle.dcm_head.proofs.MetaGroups.Rewritten.{stays_put}
use Rattle.dcm_head.proofs.rewriting.write_group.Goals as goal

pub returns : goal.returns
returns g c = record {
  bytes = λ all s m. stays_put _ _ c.args.uid.now all c.renew_meta.result (c.renew_meta.ensures.bytes all s m);
  failed = c.renew_meta.ensures.failed;
}
