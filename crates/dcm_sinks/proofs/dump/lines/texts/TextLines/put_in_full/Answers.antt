use Rattle.std.proofs.Common.{rules, refl, ap, sym, ◌≡◌, ◌∙◌, List, ℕ, ◌++◌, length, append_assoc, true}
use Rattle.dcm_lemmas.proofs.Options.{always}
use Rattle.dcm_base.specs.declared.syntax.Syntax.{Syntax}
use Rattle.dcm_base.specs.declared.mode.Mode.{Mode}
use Rattle.dcm_base.specs.declared.mode.Mode.TheVariants.{Full}
use Rattle.dcm_base.specs.Dump.Dump.{line_start}
use Rattle.dcm_base.specs.Tables.Representation.{letters}
use Rattle.dcm_devices.proofs.Writes.PartsOut.{part_failed, parts_put}
use Rattle.dcm_head.specs.declared.head.Head.{Head}
use Rattle.dcm_stream.specs.Tokens.{whole_atoms, IsLeaf}
use Rattle.dcm_text.specs.declared.sets.Sets.{Sets}
use Rattle.dcm_value.specs.DecodedDisplay.{decoded_text_of, decoded_count}
use Rattle.dcm_sinks.specs.Layout.{line_rest}
use Rattle.dcm_sinks.specs.TextDump.{TextState, opens_text}
use Rattle.dcm_sinks.specs.TextLines.{state, shows}
use Rattle.dcm_sinks.proofs.DecodedDumps.TextRuns.{whole_leaves, whole_shown}
use Rattle.dcm_sinks.proofs.dump.lines.texts.TextLines.put_in_full.Goals as goal

-- the line in three parts
in_parts : (sets : Sets) (s : TextState) (head : Head) (syntax : Syntax) (v : List ℕ) → IsLeaf head syntax v
    → opens_text s head.tag head.vr head.length syntax ≡ true → s.lines.mode ≡ Full
    → shows sets s (whole_atoms head syntax v) ≡ line_start (length s.lines.lengths) head.tag (letters head.vr)
    ++ (decoded_text_of Full head.vr sets v ++ line_rest s.lines.dictionary head.tag head.length (decoded_count head.vr sets v))
in_parts sets s head syntax v leaf text full =
    let start : List ℕ = line_start (length s.lines.lengths) head.tag (letters head.vr) in
    let rest : List ℕ = line_rest s.lines.dictionary head.tag head.length (decoded_count head.vr sets v) in
    whole_shown sets s head syntax v leaf text
    ∙ ap (λ (m : Mode). (start ++ decoded_text_of m head.vr sets v) ++ rest) full
    ∙ append_assoc start (decoded_text_of Full head.vr sets v) rest

pub returns-in_err-put_line_start-clause-wrote : goal.returns-in_err-put_line_start-clause-wrote
returns-in_err-put_line_start-clause-wrote g c =
    let a = c.args in
    let s : TextState = state a.self.now in
    let level : ℕ = length a.self.now.lines.lengths in
    let begun =
    ap (λ (n : ℕ). line_start n a.head.tag c.letters.result) c.depth-level.ensures.depth ∙ ap (line_start level a.head.tag) c.letters.ensures
    in
    record {
      bytes = part_failed _ _ (line_start level a.head.tag (letters a.head.vr)) _ _ _ c.from_residual.result c.from_residual.ensures.0 begun
          (in_parts a.sets.now s a.head a.syntax a.value.now c.requires.leaf c.requires.text c.requires.full)
          c.in_err-put_line_start.ensures.bytes;
      failed = search rules;
    }

pub returns-in_err-count-clause-wrote : goal.returns-in_err-count-clause-wrote
returns-in_err-count-clause-wrote g c =
    let a = c.args in
    let s : TextState = state a.self.now in
    let level : ℕ = length a.self.now.lines.lengths in
    let text : List ℕ = decoded_text_of Full a.head.vr a.sets.now a.value.now in
    let rest : List ℕ = line_rest s.lines.dictionary a.head.tag a.head.length (decoded_count a.head.vr a.sets.now a.value.now) in
    let begun =
    ap (λ (n : ℕ). line_start n a.head.tag c.letters.result) c.depth-level.ensures.depth ∙ ap (line_start level a.head.tag) c.letters.ensures
    in
    record {
      bytes = parts_put _ _ _ (line_start level a.head.tag (letters a.head.vr)) _ (text ++ rest) (text ++ rest) _ c.from_residual-in_err-count.result begun refl
          (in_parts a.sets.now s a.head a.syntax a.value.now c.requires.leaf c.requires.text c.requires.full)
          c.in_ok-put_line_start.ensures.bytes
          (part_failed _ _ text text rest _ c.from_residual-in_err-count.result c.from_residual-in_err-count.ensures.0 refl refl c.in_err-count.ensures.wrote.bytes);
      failed = search rules;
    }

pub returns-clause-state : goal.returns-clause-state
returns-clause-state g c =
    let a = c.args in
    always c.put_rest.result _ (sym (whole_leaves a.sets.now (state a.self.now) a.head a.syntax a.value.now c.requires.leaf c.requires.text))

pub returns-clause-wrote : goal.returns-clause-wrote
returns-clause-wrote g c =
    let a = c.args in
    let s : TextState = state a.self.now in
    let level : ℕ = length a.self.now.lines.lengths in
    let text : List ℕ = decoded_text_of Full a.head.vr a.sets.now a.value.now in
    let rest : List ℕ = line_rest s.lines.dictionary a.head.tag a.head.length (decoded_count a.head.vr a.sets.now a.value.now) in
    let begun =
    ap (λ (n : ℕ). line_start n a.head.tag c.letters.result) c.depth-level.ensures.depth ∙ ap (line_start level a.head.tag) c.letters.ensures
    in
    let ended =
    ap (λ (z : List ℕ). z ++ line_rest s.lines.dictionary a.head.tag a.head.length c.in_ok-count.count) c.clear.ensures
    ∙ ap (line_rest s.lines.dictionary a.head.tag a.head.length) c.in_ok-count.ensures.count
    in
    record {
      bytes = parts_put _ _ _ (line_start level a.head.tag (letters a.head.vr)) _ (text ++ rest) (text ++ rest) _ c.put_rest.result begun refl
          (in_parts a.sets.now s a.head a.syntax a.value.now c.requires.leaf c.requires.text c.requires.full)
          c.in_ok-put_line_start.ensures.bytes
          (parts_put _ _ _ text text rest _ _ c.put_rest.result refl ended refl c.in_ok-count.ensures.wrote.bytes c.put_rest.ensures.bytes);
      failed = search rules;
    }
