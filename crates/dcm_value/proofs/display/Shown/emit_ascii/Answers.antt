use Rattle.std.proofs.Common.{rules, refl, ◌∙◌, ap, arith, ◌++◌, codes, List, ℕ, length, true}
use Rattle.dcm_text.specs.declared.set.TextKind.TheVariants.{OneValue}
use Rattle.dcm_text.specs.declared.sets.Sets.{Sets}
use Rattle.dcm_text.specs.Runs.{State, begun, run, state_of}
use Rattle.dcm_value.specs.Shown.{display_of}
use Rattle.dcm_value.specs.DecodedProgress.{shown_pieces}
use Rattle.dcm_value.proofs.Displays.Emits.{part_starts, part_more, part_failed, part_last, settled_of}
use Rattle.dcm_value.proofs.Displays.DecodedTexts.{ascii_run, bytes_are}
use Rattle.dcm_value.proofs.display.Shown.emit_ascii.Goals as goal

pub emit_decoded-requires : goal.emit_decoded-requires
emit_decoded-requires g c =
    let none = ap (λ (s : State). length s.held) c.new-decoder.ensures in
    omega (arith, bytes_are c.new-decoder.result c.args.text.now, none, c.requires)

pub returns-in_err-emit : goal.returns-in_err-emit
returns-in_err-emit g c =
    let now = c.args.self.now in
    let s = state_of c.new-decoder.result in
    let shown : List ℕ = shown_pieces (run true s c.args.text.now) in
    let is = ascii_run s c.args.text.now shown (c.new-decoder.ensures ∙ ap (λ (x : Sets). begun x OneValue) c.default_sets.ensures) refl in
    let starts = part_starts (display_of now) _ _ (settled_of now.mode now.count now.front.items now.capped now.filled) in
    record { state = search rules; bytes = part_failed _ (codes "[") (shown ++ codes "]") _ _ starts is c.from_residual.ensures.0 c.in_err-emit.ensures.bytes; failed = search rules }

pub returns-in_err-emit_decoded : goal.returns-in_err-emit_decoded
returns-in_err-emit_decoded g c =
    let now = c.args.self.now in
    let s = state_of c.new-decoder.result in
    let shown : List ℕ = shown_pieces (run true s c.args.text.now) in
    let is = ascii_run s c.args.text.now shown (c.new-decoder.ensures ∙ ap (λ (x : Sets). begun x OneValue) c.default_sets.ensures) refl in
    let starts = part_starts (display_of now) _ _ (settled_of now.mode now.count now.front.items now.capped now.filled) in
    let next = part_more _ _ (codes "[") (shown ++ codes "]") _ starts is c.in_ok-emit.ensures.state c.in_ok-emit.ensures.bytes in
    record { state = search rules; bytes = part_failed _ shown (codes "]") _ _ next refl c.from_residual-in_err-emit_decoded.ensures.0 c.in_err-emit_decoded.ensures.shown.bytes; failed = search rules }

pub returns : goal.returns
returns g c =
    let now = c.args.self.now in
    let s = state_of c.new-decoder.result in
    let shown : List ℕ = shown_pieces (run true s c.args.text.now) in
    let is = ascii_run s c.args.text.now shown (c.new-decoder.ensures ∙ ap (λ (x : Sets). begun x OneValue) c.default_sets.ensures) refl in
    let starts = part_starts (display_of now) _ _ (settled_of now.mode now.count now.front.items now.capped now.filled) in
    let next = part_more _ _ (codes "[") (shown ++ codes "]") _ starts is c.in_ok-emit.ensures.state c.in_ok-emit.ensures.bytes in
    let more = part_more _ _ shown (codes "]") _ next refl c.in_ok-emit_decoded.ensures.shown.state c.in_ok-emit_decoded.ensures.shown.bytes in
    let last = part_last _ _ _ _ more c.emit-2.ensures.state c.emit-2.ensures.bytes in
    record { state = last.0; bytes = last.1; failed = search rules }
