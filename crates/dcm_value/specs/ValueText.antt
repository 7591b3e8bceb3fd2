-- A `ValueText` as progress of the definitions.
use Rattle.dcm_value.specs.declared.value_text.ValueText.{ValueText}
use Rattle.dcm_value.specs.Shown.{display_of}
use Rattle.dcm_value.specs.Progress.{Progress}

abbrev pub progress : ValueText → Progress
progress t = record {
  vr = t.vr;
  syntax = t.syntax;
  size = t.size;
  seen = t.seen;
  held = t.held.bytes.items;
  values = t.values;
  display = display_of t.shown;
}
