use Rattle.std.proofs.Common.{rules, refl}
use Rattle.dcm_devices.proofs.Writes.PartsOut.{part_failed, parts_put}
use Rattle.dcm_sinks.specs.Layout.{line_rest}
use Rattle.dcm_sinks.proofs.dump.layout.put_rest.Goals as goal

pub returns-in_err-put_all : goal.returns-in_err-put_all
returns-in_err-put_all g c =
    record {
      bytes = part_failed _ _ c.args.line.now.items _ (line_rest c.args.dictionary c.args.tag c.args.declared c.args.count) _ c.from_residual.result c.from_residual.ensures.0 c.as_slice.ensures.value refl
          c.in_err-put_all.ensures.wrote.bytes;
      failed = search rules;
    }

pub returns-in_default : goal.returns-in_default
returns-in_default g c =
    record {
      bytes = parts_put _ _ _ c.args.line.now.items _ (line_rest c.args.dictionary c.args.tag c.args.declared c.args.count) _ _ c.put_long_rest.result c.as_slice.ensures.value refl refl
          c.in_ok-put_all.ensures.wrote.bytes c.put_long_rest.ensures.bytes;
      failed = search rules;
    }
