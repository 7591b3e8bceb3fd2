use Rattle.std.proofs.Common.{rules, refl, ◌≡◌, ◌+◌, length, None}
use Rattle.dcm_build.specs.Builder.{building}
use Rattle.dcm_build.specs.Building.{last_line, last_writes}
use Rattle.dcm_build.proofs.Lines.Ends.{last_failed, whole_ended, end_failed}
use Rattle.dcm_build.proofs.line_reader.LineReader.end.Goals as goal

pub returns-in_err-end_last_line-clause-reached : goal.returns-in_err-end_last_line-clause-reached
returns-in_err-end_last_line-clause-reached g c = record { reaches = last_failed (Unit {0}) _ _ c.end_last_line.new.self _ _ _ c.in_err-end_last_line.field-0.0 c.from_residual.result c.in_err-end_last_line.ensures.reached.reaches c.from_residual.ensures.1; failed = search rules }

pub returns-in-Err-clause-reached : goal.returns-in-Err-clause-reached
returns-in-Err-clause-reached g c = record {
  reaches =
      let p = c.end_last_line.new.self in
      let old = c.args.self.now in
      let f = end_failed (Unit {0}) p (record { file = c.finish.new.self; line = p.line; limit = p.limit; offset = p.offset; number = p.number }) (g.W.DeviceOut.contents c.args.out.now) (g.W.DeviceOut.contents c.end_last_line.new.out) (g.W.DeviceOut.contents c.finish.new.out)
      (last_line (building old None)) (last_writes (building old None)) (old.offset + c.len.result) c.in-Err.stopped c.halt.result c.in_ok-end_last_line.ensures.reached.reaches.0 c.in_ok-end_last_line.ensures.reached.reaches.1 refl (c.in-Err.ensures.ends _) c.halt.ensures in
      let size : c.len.result ≡ length old.line.items = c.len.ensures.value in
      search (rules, f, size);
  failed = search rules;
}

pub returns-clause-reached : goal.returns-clause-reached
returns-clause-reached g c = record {
  reaches =
      let p = c.end_last_line.new.self in
      let old = c.args.self.now in
      whole_ended p (record { file = c.finish.new.self; line = p.line; limit = p.limit; offset = p.offset; number = p.number }) (g.W.DeviceOut.contents c.args.out.now) (g.W.DeviceOut.contents c.end_last_line.new.out) (g.W.DeviceOut.contents c.finish.new.out)
      (last_line (building old None)) (last_writes (building old None)) (old.offset + length old.line.items) c.in_default.field-0 c.in_ok-end_last_line.ensures.reached.reaches.0 c.in_ok-end_last_line.ensures.reached.reaches.1 refl (c.in_default.ensures.ends _);
  failed = search rules;
}
