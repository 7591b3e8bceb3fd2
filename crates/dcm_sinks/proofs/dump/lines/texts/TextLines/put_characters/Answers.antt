use Rattle.std.proofs.Common.{rules, ap, sym, subst, ◌≡◌, ◌∙◌, List, ℕ, ◌++◌, Option}
use Rattle.std.specs.Prelude.{MatchOption}
use Rattle.dcm_lemmas.proofs.Options.{always}
use Rattle.dcm_devices.specs.Device.{Puts}
use Rattle.dcm_value.specs.DecodedDisplay.{decoded_text_of, decoded_count}
use Rattle.dcm_sinks.specs.TextLines.{state}
use Rattle.dcm_sinks.proofs.DecodedDumps.TextBytes.{out_of_text}
use Rattle.dcm_sinks.proofs.DecodedDumps.TextRuns.{whole_leaves, whole_line}
use Rattle.dcm_sinks.proofs.dump.lines.texts.TextLines.put_characters.Goals as goal

pub returns-clause-state : goal.returns-clause-state
returns-clause-state g c =
    let a = c.args in
    always c.put_line_rest.result _
    (ap out_of_text c.put_line_rest.ensures.state ∙ sym (whole_leaves a.sets.now (state a.self.now) a.head a.syntax a.value.now c.requires.leaf c.requires.text))

pub returns-clause-wrote : goal.returns-clause-wrote
returns-clause-wrote g c =
    let a = c.args in
    let s = state a.self.now in
    let text : List ℕ = decoded_text_of s.lines.mode a.head.vr a.sets.now a.value.now in
    let before : List ℕ = a.self.now.lines.line.items in
    let line : List ℕ = c.append_decoded-shown.new.line.items in
    let shown : (line ≡ before ++ text) × (c.in-Some.count ≡ decoded_count a.head.vr a.sets.now a.value.now) =
    subst (λ (o : Option ℕ). MatchOption o (line ≡ before) (λ n. (line ≡ before ++ text) × (n ≡ decoded_count a.head.vr a.sets.now a.value.now)))
    c.in-Some.is c.append_decoded-shown.ensures.items
    in
    let all = whole_line a.sets.now s a.head a.syntax a.value.now c.requires.leaf c.requires.text before line c.in-Some.count c.requires.begun shown.0 shown.1 in
    record {
      bytes = subst (λ (bytes : List ℕ). Puts (g.W.DeviceOut.contents a.out.now) (g.W.DeviceOut.contents c.put_line_rest.new.out) bytes c.put_line_rest.result) all c.put_line_rest.ensures.wrote.bytes;
      failed = search rules;
    }
