use Rattle.std.proofs.Common.{rules, ◌≡◌, ap, refl, ℕ, List, ◌++◌, take}
use Rattle.dcm_base.specs.File.MetaReads.{PREFIX}
use Rattle.dcm_base.specs.Conversion.NewMeta.{new_meta}
use Rattle.dcm_devices.proofs.Writes.PartsOut.{part_failed, parts_put}
use Rattle.dcm_cli.proofs.rewrite.write_same.Goals as goal

pub returns-in_err-put_parts : goal.returns-in_err-put_parts
returns-in_err-put_parts g c =
    let first : c.preamble.result.now ++ PREFIX ≡ take 128 c.args.meta.now.bytes ++ PREFIX = ap (λ (bs : List ℕ). bs ++ PREFIX) c.preamble.ensures.value in
    record { bytes = λ elements s m. part_failed _ _ (take 128 c.args.meta.now.bytes ++ PREFIX) _ (new_meta elements c.args.uid.now) _ c.from_residual.result c.from_residual.ensures.0 first refl c.in_err-put_parts.ensures.wrote.bytes; failed = search rules }

pub returns : goal.returns
returns g c =
    let first : c.preamble.result.now ++ PREFIX ≡ take 128 c.args.meta.now.bytes ++ PREFIX = ap (λ (bs : List ℕ). bs ++ PREFIX) c.preamble.ensures.value in
    record { bytes = λ elements s m. parts_put _ _ _ (take 128 c.args.meta.now.bytes ++ PREFIX) _ (new_meta elements c.args.uid.now) _ _ c.rewritten.result first refl refl c.in_ok-put_parts.ensures.wrote.bytes (c.rewritten.ensures.bytes elements s m); failed = search rules }
