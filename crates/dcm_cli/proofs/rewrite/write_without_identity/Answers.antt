use Rattle.std.proofs.Common.{rules, ◌≡◌, ap, refl, ℕ, List, ◌++◌}
use Rattle.dcm_base.specs.File.MetaReads.{PREFIX}
use Rattle.dcm_base.specs.Conversion.NewMeta.{new_meta, renewed}
use Rattle.dcm_deid.specs.Meta.{implementation, meta_renewing, no_preamble}
use Rattle.dcm_devices.proofs.Writes.PartsOut.{part_failed, parts_put}
use Rattle.dcm_cli.proofs.rewrite.write_without_identity.Goals as goal

pub returns-in_err-put_parts : goal.returns-in_err-put_parts
returns-in_err-put_parts g c =
    let first : c.as_slice.result.now ++ PREFIX ≡ no_preamble ++ PREFIX = ap (λ (bs : List ℕ). bs ++ PREFIX) c.as_slice.ensures in
    let what = c.args.what.now in
    record {
      bytes = λ elements s m.
          part_failed _ _ (no_preamble ++ PREFIX) _ (new_meta (renewed (meta_renewing what.options what.key.bytes.now) implementation elements) c.args.uid.now) _ c.from_residual.result c.from_residual.ensures.0 first refl c.in_err-put_parts.ensures.wrote.bytes;
      failed = search rules;
    }

pub returns : goal.returns
returns g c =
    let first : c.as_slice.result.now ++ PREFIX ≡ no_preamble ++ PREFIX = ap (λ (bs : List ℕ). bs ++ PREFIX) c.as_slice.ensures in
    let what = c.args.what.now in
    record {
      bytes = λ elements s m.
          parts_put _ _ _ (no_preamble ++ PREFIX) _ (new_meta (renewed (meta_renewing what.options what.key.bytes.now) implementation elements) c.args.uid.now) _ _ c.renewed.result first refl refl c.in_ok-put_parts.ensures.wrote.bytes (c.renewed.ensures.bytes elements s m);
      failed = search rules;
    }
