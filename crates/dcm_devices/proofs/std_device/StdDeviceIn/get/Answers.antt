use Rattle.std.proofs.Common.{◌≡◌, ap, length, take, arith}
use Rattle.dcm_devices.proofs.std_device.StdDeviceIn.get.Goals as goal

pub returns-in-Ok-clause-gives : goal.returns-in-Ok-clause-gives
returns-in-Ok-clause-gives g c = λ room. (
  c.in-Ok.ensures.bytes.0,
  λ none.
      let size = c.in-Ok.ensures.bound.1 in
      let zero : length (take c.in-Ok.n c.read_some.new.buf) ≡ 0 = ap length none in
      c.in-Ok.ensures.bytes.1 (omega (arith, size, zero)) (omega (arith, room)),
)
