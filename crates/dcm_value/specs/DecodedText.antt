-- A `DecodedText` as progress of the definitions.
use Rattle.dcm_text.specs.Runs.{state_of}
use Rattle.dcm_value.specs.declared.decoded_text.DecodedText.{DecodedText}
use Rattle.dcm_value.specs.Shown.{display_of}
use Rattle.dcm_value.specs.DecodedProgress.{DecodedProgress}

abbrev pub decoded_progress : DecodedText → DecodedProgress
decoded_progress t = record {
  vr = t.vr;
  size = t.size;
  seen = t.seen;
  name = t.name.items;
  state = state_of t.decoder;
  values = t.values;
  display = display_of t.shown;
}
