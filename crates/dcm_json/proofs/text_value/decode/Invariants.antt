use Rattle.std.proofs.Common.{◌≡◌, ◌≤◌, ◌+◌}
use Rattle.std.specs.Prelude.{fold}
use Rattle.dcm_base.specs.Steps.Steps.{outputs}
use Rattle.dcm_text.specs.Runs.{bytes_left, run, state_of}
use Rattle.dcm_json.specs.TextState.{parts_in}
use Rattle.dcm_json.specs.Values as values
use Rattle.dcm_json.proofs.Written.{SoFar}
use Rattle.dcm_json.proofs.text_value.decode.Given as goal

-- the parts so far went out, and those that are left are of what is left
abbrev pub invariant-loop-part : goal.invariant-loop-part
invariant-loop-part g l = record {
  out : SoFar (g.W.DeviceOut.contents l.fn.out) (g.W.DeviceOut.contents l.out)
      (outputs values.step values.writes l.fn.values (parts_in (run l.fn.at_end (state_of l.fn.decoder) l.fn.bytes)))
      (outputs values.step values.writes l.values (parts_in (run l.at_end (state_of l.decoder) l.rest)));
  values : fold values.step l.values (parts_in (run l.at_end (state_of l.decoder) l.rest))
      ≡ fold values.step l.fn.values (parts_in (run l.fn.at_end (state_of l.fn.decoder) l.fn.bytes));
  decoder : (run l.at_end (state_of l.decoder) l.rest).1 ≡ (run l.fn.at_end (state_of l.fn.decoder) l.fn.bytes).1;
  few : l.values.spaces + bytes_left l.decoder l.rest ≤ l.fn.values.spaces + bytes_left l.fn.decoder l.fn.bytes;
  failed : g.W.Device.has_failed l.out ≡ g.W.Device.has_failed l.fn.out;
}

abbrev pub decreases-loop-part : goal.decreases-loop-part
decreases-loop-part g l = bytes_left l.decoder l.rest
