use Rattle.std.proofs.Common.{◌≡◌, take}
use Rattle.std.specs.Prelude.{fold, flat_map}
use Rattle.std.specs.Io.KnownBytes.{append_known}
use Rattle.dcm_base.specs.Steps.Steps.{outputs}
use Rattle.dcm_stream.specs.Tokens.{atoms_of}
use Rattle.dcm_sinks.specs.EncodeSink.{encode_step, encode_writes}
use Rattle.dcm_sinks.specs.Encoder as encoders
use Rattle.dcm_build.proofs.file.put_tokens.Given as goal

-- the tokens so far were written
abbrev pub invariant-loop-token : goal.invariant-loop-token
invariant-loop-token g l = record {
  state : encoders.state l.encoder ≡ fold encode_step (encoders.state l.fn.encoder) (flat_map atoms_of (take l.token-index l.tokens));
  bytes : g.W.DeviceOut.contents l.out ≡ append_known (g.W.DeviceOut.contents l.fn.out) (outputs encode_step encode_writes (encoders.state l.fn.encoder) (flat_map atoms_of (take l.token-index l.tokens)));
  failed : g.W.Device.has_failed l.out ≡ g.W.Device.has_failed l.fn.out;
}
