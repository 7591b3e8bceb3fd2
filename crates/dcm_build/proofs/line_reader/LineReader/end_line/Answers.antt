use Rattle.std.proofs.Common.{rules, refl, arith, ◌≡◌, ◌+◌, length}
use Rattle.dcm_build.proofs.Lines.Ends.{line_ended, line_refused, place_after}
use Rattle.dcm_build.proofs.line_reader.LineReader.end_line.Goals as goal

pub returns-in-Err-clause-reached : goal.returns-in-Err-clause-reached
returns-in-Err-clause-reached g c = record {
  reaches =
      let p = c.args.self.now in
      let f = line_refused (Unit {0}) p (record { file = c.take_line.new.self; line = p.line; limit = p.limit; offset = p.offset; number = p.number }) (g.W.DeviceOut.contents c.args.out.now) (g.W.DeviceOut.contents c.take_line.new.out)
      c.as_slice.result.now c.in-Err.stopped c.halt.result c.as_slice.ensures.value (c.in-Err.ensures.comes _) refl c.halt.ensures in
      search (rules, f);
  failed = search rules;
}

pub returns-clause-reached : goal.returns-clause-reached
returns-clause-reached g c = record {
  reaches =
      let p = c.args.self.now in
      let size : c.len.result ≡ length p.line.items = c.len.ensures.value in
      let at = place_after p c.clear.new.self.items (p.offset + (c.len.result + 1)) c.clear.ensures (omega (arith, size)) in
      line_ended p (record { file = c.take_line.new.self; line = c.clear.new.self; limit = p.limit; offset = p.offset + (c.len.result + 1); number = p.number + 1 }) (g.W.DeviceOut.contents c.args.out.now) (g.W.DeviceOut.contents c.take_line.new.out)
      c.as_slice.result.now c.in_default.field-0 c.as_slice.ensures.value (c.in_default.ensures.comes _) at;
  failed = search rules;
}
