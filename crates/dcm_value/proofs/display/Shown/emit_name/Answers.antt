use Rattle.std.proofs.Common.{rules, refl, ◌≡◌, ◌∙◌, ap, sym, ◌++◌, codes, Some, None}
use Rattle.dcm_base.specs.Tables.Uid.{uid_name}
use Rattle.dcm_base.specs.Dump.ValueText.{escaped}
use Rattle.dcm_value.specs.Shown.{display_of}
use Rattle.dcm_value.proofs.Displays.Emits.{part_starts, part_more, part_failed, part_last, settled_of, named, unnamed}
use Rattle.dcm_value.proofs.display.Shown.emit_name.Goals as goal

pub returns-in_err-emit-in-Some : goal.returns-in_err-emit-in-Some
returns-in_err-emit-in-Some g c =
    let now = c.args.self.now in
    let is : Some c.in-Some.name.now ≡ uid_name c.args.uid.now = c.in-Some.ensures in
    let starts = part_starts (display_of now) _ _ (settled_of now.mode now.count now.front.items now.capped now.filled) in
    record { state = search rules; bytes = part_failed _ (codes "=") _ _ _ starts (named _ _ is) c.from_residual.ensures.0 c.in_err-emit-in-Some.ensures.bytes; failed = search rules }

pub returns-in_ok-emit-in-Some : goal.returns-in_ok-emit-in-Some
returns-in_ok-emit-in-Some g c =
    let now = c.args.self.now in
    let is : Some c.in-Some.name.now ≡ uid_name c.args.uid.now = c.in-Some.ensures in
    let starts = part_starts (display_of now) _ _ (settled_of now.mode now.count now.front.items now.capped now.filled) in
    let next = part_more _ _ (codes "=") (c.as_bytes.result.now) _ starts (named _ _ is ∙ ap (λ xs. codes "=" ++ xs) (sym c.as_bytes.ensures.value)) c.in_ok-emit-in-Some.ensures.state c.in_ok-emit-in-Some.ensures.bytes in
    let last = part_last _ _ _ _ next c.emit-in-Some.ensures.state c.emit-in-Some.ensures.bytes in
    record { state = last.0; bytes = last.1; failed = search rules }

pub returns-in_err-emit-in-None : goal.returns-in_err-emit-in-None
returns-in_err-emit-in-None g c =
    let now = c.args.self.now in
    let is : None ≡ uid_name c.args.uid.now = c.in-None.ensures in
    let starts = part_starts (display_of now) _ _ (settled_of now.mode now.count now.front.items now.capped now.filled) in
    record { state = search rules; bytes = part_failed _ (codes "[") _ _ _ starts (unnamed _ is) c.from_residual-in_err-emit-in-None.ensures.0 c.in_err-emit-in-None.ensures.bytes; failed = search rules }

pub returns-in_err-emit_text-in-None : goal.returns-in_err-emit_text-in-None
returns-in_err-emit_text-in-None g c =
    let now = c.args.self.now in
    let is : None ≡ uid_name c.args.uid.now = c.in-None.ensures in
    let starts = part_starts (display_of now) _ _ (settled_of now.mode now.count now.front.items now.capped now.filled) in
    let next = part_more _ _ (codes "[") _ _ starts (unnamed _ is) c.in_ok-emit-in-None.ensures.state c.in_ok-emit-in-None.ensures.bytes in
    record { state = search rules; bytes = part_failed _ (escaped c.args.uid.now) (codes "]") _ _ next refl c.from_residual-in_err-emit_text-in-None.ensures.0 c.in_err-emit_text-in-None.ensures.bytes; failed = search rules }

pub returns-in_ok-emit_text-in-None : goal.returns-in_ok-emit_text-in-None
returns-in_ok-emit_text-in-None g c =
    let now = c.args.self.now in
    let is : None ≡ uid_name c.args.uid.now = c.in-None.ensures in
    let starts = part_starts (display_of now) _ _ (settled_of now.mode now.count now.front.items now.capped now.filled) in
    let next = part_more _ _ (codes "[") _ _ starts (unnamed _ is) c.in_ok-emit-in-None.ensures.state c.in_ok-emit-in-None.ensures.bytes in
    let more = part_more _ _ (escaped c.args.uid.now) (codes "]") _ next refl c.in_ok-emit_text-in-None.ensures.state c.in_ok-emit_text-in-None.ensures.bytes in
    let last = part_last _ _ _ _ more c.emit-in-None-2.ensures.state c.emit-in-None-2.ensures.bytes in
    record { state = last.0; bytes = last.1; failed = search rules }
