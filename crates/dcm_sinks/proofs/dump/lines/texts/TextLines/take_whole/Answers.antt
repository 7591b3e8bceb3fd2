use Rattle.std.proofs.Common.{rules, ap, sym, ◌∙◌, ◌≡◌, ◌||◌, subst, List, ℕ, Bool, true}
use Rattle.std.specs.Prelude.{not}
use Rattle.std.specs.List.{list_all}
use Rattle.dcm_base.specs.Dump.ValueText.{unpadded}
use Rattle.dcm_devices.specs.Device.{Puts}
use Rattle.dcm_value.specs.Plain.{is_ascii_byte}
use Rattle.dcm_sinks.specs.TextDump.{is_as_before}
use Rattle.dcm_sinks.specs.TextLines.{state}
use Rattle.dcm_sinks.proofs.DecodedDumps.TextBytes.{out_of_text}
use Rattle.dcm_sinks.proofs.DecodedDumps.TextLines.{then_ok}
use Rattle.dcm_sinks.proofs.DecodedDumps.TextRuns.{as_before_step, as_before_shown}
use Rattle.dcm_sinks.proofs.dump.lines.texts.TextLines.take_whole.Goals as goal

pub returns-then-not-takes_bytes-clause-state : goal.returns-then-not-takes_bytes-clause-state
returns-then-not-takes_bytes-clause-state g c =
    let a = c.args in
    let before : is_as_before a.head.vr a.value.now ≡ true =
    ap (λ (t : Bool). not t || list_all is_ascii_byte (unpadded a.head.vr a.value.now)) (sym c.takes_bytes.ensures ∙ c.if-not-takes_bytes.true) in
    then_ok c.take_whole.result c.take_whole.ensures.state
    (λ e. ap out_of_text e ∙ sym (as_before_step a.sets.now (state a.self.now) a.head a.syntax a.value.now c.requires before))

pub returns-then-not-takes_bytes-clause-wrote : goal.returns-then-not-takes_bytes-clause-wrote
returns-then-not-takes_bytes-clause-wrote g c =
    let a = c.args in
    let before : is_as_before a.head.vr a.value.now ≡ true =
    ap (λ (t : Bool). not t || list_all is_ascii_byte (unpadded a.head.vr a.value.now)) (sym c.takes_bytes.ensures ∙ c.if-not-takes_bytes.true) in
    record {
      bytes = subst (λ (bytes : List ℕ). Puts (g.W.DeviceOut.contents a.out.now) (g.W.DeviceOut.contents c.take_whole.new.out) bytes c.take_whole.result)
          (sym (as_before_shown a.sets.now (state a.self.now) a.head a.syntax a.value.now c.requires before)) c.take_whole.ensures.wrote.bytes;
      failed = search rules;
    }
