use Rattle.std.proofs.Common.{codes}
use Rattle.dcm_base.specs.Dump.ValueText.{tag_text}
use Rattle.dcm_devices.specs.declared.device.WriteFailed.{WriteFailed}
use Rattle.dcm_named.proofs.Putting.{put_on, put_failed, put_ok, put_err, state_too}
use Rattle.dcm_named.proofs.sink.put_step.Goals as goal

pub returns-in_err-put_before : goal.returns-in_err-put_before
returns-in_err-put_before g c =
    let tag = c.args.tag in
    let e = c.in_err-put_before.ensures in
    put_failed g.S.LineSink (Unit {0}) WriteFailed c.args.lines.now c.put_before.new.self (tag_text tag.group tag.element) (codes ".") _ c.from_residual.result c.from_residual.ensures.0
    (put_err g.S.LineSink (Unit {0}) c.args.lines.now c.put_before.new.self c.text.result (tag_text tag.group tag.element) _ c.text.ensures e.bytes e.failed e.kept)

pub returns : goal.returns
returns g c =
    let tag = c.args.tag in
    let e = c.in_ok-put_before.ensures in
    let f = c.put_before-2.ensures in
    put_on g.S.LineSink (Unit {0}) WriteFailed c.args.lines.now c.put_before.new.self c.put_before-2.new.self (tag_text tag.group tag.element) (codes ".") _ c.put_before-2.result
    (put_ok g.S.LineSink WriteFailed c.args.lines.now c.put_before.new.self c.text.result (tag_text tag.group tag.element) _ c.text.ensures e.state e.bytes e.failed e.kept)
    (record { state = state_too c.put_before-2.result f.state; bytes = f.bytes; failed = f.failed; kept = f.kept })
