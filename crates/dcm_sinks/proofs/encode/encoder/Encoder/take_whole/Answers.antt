use Rattle.std.proofs.Common.{rules}
use Rattle.dcm_stream.specs.Tokens.{head_atoms, value_atoms}
use Rattle.dcm_stream.proofs.Runs.Wholes.{whole_failed}
use Rattle.dcm_sinks.specs.EncodeSink.{encode_step, encode_writes}
use Rattle.dcm_sinks.specs.Encoder.{state}
use Rattle.dcm_sinks.proofs.encode.encoder.Encoder.take_whole.Goals as goal

pub returns-in-Err : goal.returns-in-Err
returns-in-Err g c =
    let a = c.args in
    record {
      state = tt;
      bytes = whole_failed (Unit {0}) encode_step encode_writes (state a.self.now) (g.W.DeviceOut.contents a.out.now) (g.W.DeviceOut.contents c.take_whole_telling.new.out) (head_atoms a.head a.syntax) (value_atoms a.value.now) c.in-Err.field-0 c.in-Err.ensures.bytes;
      failed = search rules;
    }
