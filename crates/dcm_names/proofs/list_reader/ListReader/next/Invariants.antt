use Rattle.std.proofs.Common.{◌≡◌, ◌+◌, ◌-◌, ◌^◌, ◌≤◌, ℕ, List}
use Rattle.dcm_devices.specs.Device.{Gave}
use Rattle.dcm_names.specs.Reader.{bytes_left}
use Rattle.dcm_names.proofs.NameByName.{ReadOn}
use Rattle.dcm_names.proofs.list_reader.ListReader.next.Given as goal

-- the list was read on, and no name ended so far
abbrev pub invariant-loop-self : goal.invariant-loop-self
invariant-loop-self g l = record {
  more : List ℕ;
  gave : Gave g.R.DeviceIn.gets l.fn.input more l.input;
  read : ReadOn l.fn.self l.self more;
  left : bytes_left l.self ≤ bytes_left l.fn.self;
  failed : g.R.Device.has_failed l.input ≡ g.R.Device.has_failed l.fn.input;
}

abbrev pub decreases-loop-self : goal.decreases-loop-self
decreases-loop-self g l = 2 ^ 62 + 1 - l.self.read
