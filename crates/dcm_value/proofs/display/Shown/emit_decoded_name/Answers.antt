use Rattle.std.proofs.Common.{rules, ◌≡◌, ◌∙◌, ap, sym, ◌++◌, codes, Some}
use Rattle.dcm_base.specs.Tables.Uid.{uid_name}
use Rattle.dcm_value.specs.Shown.{display_of}
use Rattle.dcm_value.proofs.Displays.Emits.{part_starts, part_more, part_failed, part_last, settled_of}
use Rattle.dcm_value.proofs.Displays.DecodedTexts.{decoded_named}
use Rattle.dcm_value.proofs.display.Shown.emit_decoded_name.Goals as goal

pub returns-in_err-emit-in-Some : goal.returns-in_err-emit-in-Some
returns-in_err-emit-in-Some g c =
    let now = c.args.self.now in
    let is : Some c.in-Some.name.now ≡ uid_name c.args.uid.now = c.in-Some.ensures in
    let starts = part_starts (display_of now) _ _ (settled_of now.mode now.count now.front.items now.capped now.filled) in
    record { state = search rules; bytes = part_failed _ (codes "=") _ _ _ starts (decoded_named _ _ is) c.from_residual.ensures.0 c.in_err-emit-in-Some.ensures.bytes; failed = search rules }

pub returns-in_ok-emit-in-Some : goal.returns-in_ok-emit-in-Some
returns-in_ok-emit-in-Some g c =
    let now = c.args.self.now in
    let is : Some c.in-Some.name.now ≡ uid_name c.args.uid.now = c.in-Some.ensures in
    let starts = part_starts (display_of now) _ _ (settled_of now.mode now.count now.front.items now.capped now.filled) in
    let next = part_more _ _ (codes "=") (c.as_bytes.result.now) _ starts (decoded_named _ _ is ∙ ap (λ xs. codes "=" ++ xs) (sym c.as_bytes.ensures.value)) c.in_ok-emit-in-Some.ensures.state c.in_ok-emit-in-Some.ensures.bytes in
    let last = part_last _ _ _ _ next c.emit-in-Some.ensures.state c.emit-in-Some.ensures.bytes in
    record { state = last.0; bytes = last.1; failed = search rules }
