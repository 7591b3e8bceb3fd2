use Rattle.std.proofs.Common.{rules, refl, ap, subst, ◌≡◌, ◌≤◌, ◌∙◌, List, ℕ, ◌++◌, [], length, Option}
use Rattle.std.specs.Prelude.{IfSome}
use Rattle.dcm_lemmas.proofs.Options.{always}
use Rattle.dcm_base.specs.Dump.Dump.{line_start}
use Rattle.dcm_base.specs.Tables.Representation.{letters}
use Rattle.dcm_devices.proofs.Writes.PartsOut.{parts_put}
use Rattle.dcm_value.specs.Whole.{text_in, count_in}
use Rattle.dcm_sinks.specs.DumpSink.{DumpState}
use Rattle.dcm_sinks.specs.Layout.{line_rest}
use Rattle.dcm_sinks.specs.Lines.{state, shows}
use Rattle.dcm_stream.specs.Tokens.{whole_atoms}
use Rattle.dcm_sinks.proofs.Dumps.WholeLines.{line_state, line_bytes}
use Rattle.dcm_sinks.proofs.dump.lines.Lines.put_leaf.Goals as goal

pub returns-clause-state : goal.returns-clause-state
returns-clause-state g c =
    let a = c.args in
    always c.put_rest.result _ (line_state (state a.self.now) a.head a.syntax a.value.now c.requires.live c.requires.leaf)

pub returns-clause-wrote : goal.returns-clause-wrote
returns-clause-wrote g c =
    let a = c.args in
    let s : DumpState = state a.self.now in
    let text : List ℕ = text_in s.mode a.head.vr a.syntax a.value.now in
    let many : ℕ = count_in s.mode a.head.vr a.syntax a.value.now in
    let level : ℕ = length a.self.now.lengths in
    let before = c.begin_line.new.line.items in
    let line = c.append_value.new.line.items in
    let shown : (line ≡ before ++ text) × (c.in-Some.count ≡ many) × (length line ≤ 337) =
    subst (λ (o : Option ℕ). IfSome o (λ n. (line ≡ before ++ text) × (n ≡ many) × (length line ≤ 337))) c.in-Some.is c.in_ok-shown.ensures.line
    in
    let start : before ≡ line_start level a.head.tag (letters a.head.vr) =
    c.begin_line.ensures.items
    ∙ ap (λ (n : ℕ). line_start n a.head.tag c.letters.result) c.depth-level.ensures.depth
    ∙ ap (line_start level a.head.tag) c.letters.ensures
    in
    let all =
    ap (λ (z : List ℕ). z ++ line_rest s.dictionary a.head.tag a.head.length c.in-Some.count) (shown.0 ∙ ap (λ (z : List ℕ). z ++ text) start)
    ∙ ap (λ (n : ℕ). (line_start level a.head.tag (letters a.head.vr) ++ text) ++ line_rest s.dictionary a.head.tag a.head.length n) shown.1
    ∙ line_bytes s a.head a.syntax a.value.now c.requires.live c.requires.leaf
    in
    record {
      bytes = parts_put _ _ _ [] [] (shows s (whole_atoms a.head a.syntax a.value.now)) _ _ c.put_rest.result refl all refl c.in_ok-shown.ensures.wrote.bytes c.put_rest.ensures.bytes;
      failed = search rules;
    }
