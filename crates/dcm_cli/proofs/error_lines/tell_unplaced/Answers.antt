use Rattle.std.proofs.Common.{sym, ◌++◌, ◌%◌, arith}
use Rattle.std.specs.Prelude.{◌==◌}
use Rattle.dcm_cli.specs.ErrorLines.{line_where}
use Rattle.dcm_cli.proofs.Lines.Unplaced.{all_told, told_whole, told_begun, told_more, told_fine}
use Rattle.dcm_cli.proofs.error_lines.tell_unplaced.Goals as goal

pub returns-then-is_err : goal.returns-then-is_err
returns-then-is_err g c =
    let loop = c.loop-number in
    told_begun (g.E.DeviceOut.contents c.args.errors.now) (g.E.DeviceOut.contents loop.errors) (g.E.Device.has_failed c.args.errors.now) (g.E.Device.has_failed loop.errors) _ loop.invariant.front loop.number loop.rest
    loop.invariant.whole loop.invariant.grown loop.invariant.fine (omega (arith, c.loop-number-test.true, loop.auto.number-end)) _ _ c.put_unplaced.result c.put_unplaced.ensures.bytes c.put_unplaced.ensures.failed (sym c.if-is_err.ensures.value)

pub loop-number-preserved : goal.loop-number-preserved
loop-number-preserved g c =
    let loop = c.loop-number in
    record {
      front = loop.invariant.front ++ line_where (loop.rest % 2 == 1) loop.number;
      whole = told_whole (g.E.DeviceOut.contents c.args.errors.now) (g.E.DeviceOut.contents loop.errors) (g.E.Device.has_failed c.args.errors.now) (g.E.Device.has_failed loop.errors) _ loop.invariant.front loop.number loop.rest
          loop.invariant.whole loop.invariant.grown loop.invariant.fine (omega (arith, c.loop-number-test.true, loop.auto.number-end)) _ _ c.put_unplaced.result c.put_unplaced.ensures.bytes c.put_unplaced.ensures.failed;
      grown = told_more (g.E.DeviceOut.contents c.args.errors.now) (g.E.DeviceOut.contents loop.errors) (g.E.Device.has_failed c.args.errors.now) (g.E.Device.has_failed loop.errors) _ loop.invariant.front loop.number loop.rest
          loop.invariant.whole loop.invariant.grown loop.invariant.fine (omega (arith, c.loop-number-test.true, loop.auto.number-end)) _ _ c.put_unplaced.result c.put_unplaced.ensures.bytes c.put_unplaced.ensures.failed (sym c.if-is_err.ensures.value);
      fine = told_fine (g.E.DeviceOut.contents c.args.errors.now) (g.E.DeviceOut.contents loop.errors) (g.E.Device.has_failed c.args.errors.now) (g.E.Device.has_failed loop.errors) _ loop.invariant.front loop.number loop.rest
          loop.invariant.whole loop.invariant.grown loop.invariant.fine (omega (arith, c.loop-number-test.true, loop.auto.number-end)) _ _ c.put_unplaced.result c.put_unplaced.ensures.bytes c.put_unplaced.ensures.failed (sym c.if-is_err.ensures.value);
    }

pub returns : goal.returns
returns g c =
    let loop = c.loop-number in
    all_told (g.E.DeviceOut.contents c.args.errors.now) (g.E.DeviceOut.contents loop.errors) (g.E.Device.has_failed c.args.errors.now) (g.E.Device.has_failed loop.errors) _ loop.invariant.front loop.number loop.rest
    loop.invariant.whole loop.invariant.grown loop.invariant.fine (omega (arith, c.loop-number-test.false, loop.auto.number-end))
