use Rattle.std.proofs.Common.{rules, refl, ap, ◌≡◌, ◌∙◌, ℕ, List, ◌++◌, length}
use Rattle.dcm_devices.proofs.Writes.PartsOut.{part_failed, parts_put}
use Rattle.dcm_value.specs.DecodedProgress as progress
use Rattle.dcm_value.specs.DecodedText.{decoded_progress}
use Rattle.dcm_base.specs.declared.length.Length.TheVariants.{Known}
use Rattle.dcm_sinks.specs.DumpSink as spec
use Rattle.dcm_sinks.specs.Layout.{line_rest}
use Rattle.dcm_sinks.specs.Lines.{state}
use Rattle.dcm_sinks.specs.TextDump.{text_rest}
use Rattle.dcm_sinks.specs.TextLines.{text_of}
use Rattle.dcm_sinks.proofs.Dumps.ValueLines.{is_begun, rest_same}
use Rattle.dcm_sinks.proofs.DecodedDumps.TextLines.{is_open, closes_in_parts}
use Rattle.dcm_sinks.proofs.dump.lines.texts.TextLines.close.Goals as goal

pub returns-in_err-count-clause-wrote : goal.returns-in_err-count-clause-wrote
returns-in_err-count-clause-wrote g c =
    let s = c.args.self.now in
    let v = c.in-Some in
    let p : progress.DecodedProgress = decoded_progress s.text in
    let is = is_open s.owner v.owner p v.ensures.value in
    let same = is_begun s.owner v.owner (p.display.mode ≡ s.lines.mode) v.ensures.value s.same in
    record {
      bytes = part_failed _ _ (progress.closing_writes p) _ _ _ c.from_residual.result c.from_residual.ensures.0 refl
          (closes_in_parts (state s.lines) (text_of s.owner p) v.owner p same is)
          c.in_err-count.ensures.wrote.bytes;
      failed = search rules;
    }

pub returns-clause-wrote : goal.returns-clause-wrote
returns-clause-wrote g c =
    let s = c.args.self.now in
    let v = c.in-Some in
    let p : progress.DecodedProgress = decoded_progress s.text in
    let level : ℕ = length s.lines.lengths in
    let is = is_open s.owner v.owner p v.ensures.value in
    let same = is_begun s.owner v.owner (p.display.mode ≡ s.lines.mode) v.ensures.value s.same in
    let start : List ℕ = spec.late_start s.lines.mode (spec.owner_start level v.owner) in
    let shown : c.finish.new.line.items ≡ start ++ progress.end_writes p =
    c.in_ok-count.ensures.line
    ∙ ap (λ xs. xs ++ progress.end_writes p) (c.begin_late.ensures.items ∙ ap (λ n. spec.late_start s.lines.mode (spec.owner_start n v.owner)) c.depth.ensures.depth)
    in
    let rest =
    rest_same s.lines.dictionary c.tag.result (spec.owner_tag v.owner) _ _ _ _ c.tag.ensures c.size.ensures c.in_ok-count.ensures.count
    in
    record {
      bytes = parts_put _ _ _ (progress.closing_writes p) _ ((start ++ progress.end_writes p) ++ text_rest s.lines.dictionary v.owner p) _ _ c.put_rest.result refl
          (ap (λ xs. xs ++ line_rest s.lines.dictionary c.tag.result (Known c.size.result) c.in_ok-count.count) shown ∙ ap (λ xs. (start ++ progress.end_writes p) ++ xs) rest)
          (closes_in_parts (state s.lines) (text_of s.owner p) v.owner p same is)
          c.in_ok-count.ensures.wrote.bytes c.put_rest.ensures.bytes;
      failed = search rules;
    }
