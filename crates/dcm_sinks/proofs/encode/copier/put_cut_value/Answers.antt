use Rattle.std.proofs.Common.{rules, refl, ap, ◌≡◌, ◌∙◌}
use Rattle.std.specs.Prelude.{fold}
use Rattle.dcm_base.specs.Steps.Steps.{outputs}
use Rattle.dcm_devices.proofs.Writes.PartsOut.{parts_put}
use Rattle.dcm_sinks.specs.Copier.{copying}
use Rattle.dcm_sinks.specs.EncodeSink.{Copying, leaf_copy, copies, copy_writes, copy_ends}
use Rattle.dcm_sinks.proofs.encode.copier.put_cut_value.Goals as goal

pub returns : goal.returns
returns g c =
    let copy : Copying = leaf_copy c.args.source c.args.target c.args.vr c.args.size in
    let made : copying c.of_leaf-copier.result ≡ copy = c.of_leaf-copier.ensures in
    record {
      bytes = parts_put _ _ _ (outputs copies copy_writes copy c.args.value.now) _ (copy_ends (fold copies copy c.args.value.now)) _ _ c.close.result
          (ap (λ (d : Copying). outputs copies copy_writes d c.args.value.now) made)
          (ap copy_ends (c.in_ok-feed.ensures.goes.0 ∙ ap (λ (d : Copying). fold copies d c.args.value.now) made))
          refl
          c.in_ok-feed.ensures.goes.1 c.close.ensures.bytes;
      failed = search rules;
    }
