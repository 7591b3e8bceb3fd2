use Rattle.std.proofs.Common.{rules, ap, sym, subst, ◌≡◌, ◌∙◌, List, ℕ, ◌++◌, length, Option}
use Rattle.std.specs.Prelude.{MatchOption}
use Rattle.dcm_lemmas.proofs.Options.{always}
use Rattle.dcm_base.specs.Dump.Dump.{line_start}
use Rattle.dcm_base.specs.Tables.Representation.{letters}
use Rattle.dcm_base.specs.declared.mode.Mode.{Mode}
use Rattle.dcm_devices.specs.Device.{Puts}
use Rattle.dcm_text.specs.declared.sets.Sets.{Sets}
use Rattle.dcm_value.specs.DecodedDisplay.{decoded_text_of, decoded_count}
use Rattle.dcm_sinks.specs.TextLines.{state}
use Rattle.dcm_sinks.proofs.DecodedDumps.TextBytes.{out_of_text}
use Rattle.dcm_sinks.proofs.DecodedDumps.TextRuns.{whole_leaves, whole_line, leaf_text}
use Rattle.dcm_sinks.proofs.dump.lines.texts.TextLines.take_short_text.Goals as goal

pub put_characters-requires-clause-text : goal.put_characters-requires-clause-text
put_characters-requires-clause-text g c =
    let a = c.args in
    leaf_text (state a.self.now) a.head a.syntax a.value.now c.requires.leaf c.requires.text c.if-self.false

pub put_characters-requires-clause-begun : goal.put_characters-requires-clause-begun
put_characters-requires-clause-begun g c =
    let a = c.args in
    let level : ℕ = length a.self.now.lines.lengths in
    c.in_default.ensures.items
    ∙ c.begin_line.ensures.items
    ∙ ap (λ (n : ℕ). line_start n a.head.tag c.letters.result) c.depth-level.ensures.depth
    ∙ ap (line_start level a.head.tag) c.letters.ensures

pub returns-clause-state : goal.returns-clause-state
returns-clause-state g c =
    let a = c.args in
    let text = leaf_text (state a.self.now) a.head a.syntax a.value.now c.requires.leaf c.requires.text c.if-self.false in
    always c.put_line_rest.result _
    (ap out_of_text c.put_line_rest.ensures.state ∙ sym (whole_leaves a.sets.now (state a.self.now) a.head a.syntax a.value.now c.requires.leaf text))

pub returns-clause-wrote : goal.returns-clause-wrote
returns-clause-wrote g c =
    let a = c.args in
    let s = state a.self.now in
    let is_text = leaf_text s a.head a.syntax a.value.now c.requires.leaf c.requires.text c.if-self.false in
    let level : ℕ = length a.self.now.lines.lengths in
    let before : List ℕ = c.begin_line.new.line.items in
    let line : List ℕ = c.append_whole_ascii.new.line.items in
    let shown : (mode : Mode) (sets : Sets) → (line ≡ before ++ decoded_text_of mode a.head.vr sets a.value.now) × (c.in-Some.count ≡ decoded_count a.head.vr sets a.value.now) =
    subst (λ (o : Option ℕ). MatchOption o (line ≡ before)
    (λ n. (mode : Mode) (sets : Sets) → (line ≡ before ++ decoded_text_of mode a.head.vr sets a.value.now) × (n ≡ decoded_count a.head.vr sets a.value.now)))
    c.in-Some.is c.append_whole_ascii.ensures.items
    in
    let start : before ≡ line_start level a.head.tag (letters a.head.vr) =
    c.begin_line.ensures.items
    ∙ ap (λ (n : ℕ). line_start n a.head.tag c.letters.result) c.depth-level.ensures.depth
    ∙ ap (line_start level a.head.tag) c.letters.ensures
    in
    let both = shown s.lines.mode a.sets.now in
    let all = whole_line a.sets.now s a.head a.syntax a.value.now c.requires.leaf is_text before line c.in-Some.count start both.0 both.1 in
    record {
      bytes = subst (λ (bytes : List ℕ). Puts (g.W.DeviceOut.contents a.out.now) (g.W.DeviceOut.contents c.put_line_rest.new.out) bytes c.put_line_rest.result) all c.put_line_rest.ensures.wrote.bytes;
      failed = search rules;
    }
