use Rattle.std.proofs.Common.{rules, refl, ◌∙◌}
use Rattle.dcm_build.proofs.Files.Meta.{put_whole, put_failed}
use Rattle.dcm_build.proofs.group.NewGroup.put.Goals as goal

pub returns-in_err-put_parts : goal.returns-in_err-put_parts
returns-in_err-put_parts g c = record { bytes = put_failed _ _ _ c.from_residual.result c.in_err-put_parts.ensures.wrote.bytes c.from_residual.ensures.0; failed = search rules }

pub returns : goal.returns
returns g c = record {
  bytes =
      put_whole _ _ _ c.self.inside.spelled.items c.self.inside.spelled.items c.in-Some.uid c.args.self.now c.write_meta.result c.self.invariant c.self.view_is refl (c.in-Some.ensures.some ∙ c.transfer_syntax.ensures.value)
      c.in_ok-put_parts.ensures.wrote.bytes c.write_meta.ensures.bytes;
  failed = search rules;
}
