use Rattle.std.proofs.Common.{rules, refl, arith, ◌≡◌, [], true, false, length, codes, List, ℕ}
use Rattle.dcm_text.specs.Runs.{run}
use Rattle.dcm_value.specs.Shown.{display_of}
use Rattle.dcm_value.specs.DecodedText.{decoded_progress}
use Rattle.dcm_value.specs.DecodedProgress.{is_named, closing, shown_pieces}
use Rattle.dcm_value.proofs.Displays.Emits.{part_starts, part_more, part_failed, part_last, settled_of}
use Rattle.dcm_value.proofs.Displays.DecodedTexts.{bytes_are}
use Rattle.dcm_value.proofs.Displays.DecodedSteps.{closes_text, last_text, last_none, closed_on}
use Rattle.dcm_value.proofs.decoded_text.DecodedText.close.Goals as goal

pub returns-then-self-eq0-clause-state : goal.returns-then-self-eq0-clause-state
returns-then-self-eq0-clause-state g c =
    let s = c.args.self.now in
    let p = decoded_progress s in
    let none : length p.state.held ≡ 0 = omega (arith, s.counted, s.within) in
    let is : closing p ≡ codes "(no value available)" = search rules in
    closed_on p _ ([], p.state) c.emit.result (last_none p none) refl refl (omega arith) (rw is c.emit.ensures.state)

pub emit_decoded-requires : goal.emit_decoded-requires
emit_decoded-requires g c =
    let s = c.args.self.now in
    omega (arith, bytes_are s.decoder [], s.counted, s.within)

pub invariant_of-self-in-Break-1 : goal.invariant_of-self-in-Break-1
invariant_of-self-in-Break-1 g c =
    let s = c.args.self.now in
    record { within = s.within; counted = omega (arith, bytes_are s.decoder [], s.counted, c.emit_decoded.ensures.few); waiting = s.waiting }

pub invariant_of-self-2-clause-counted : goal.invariant_of-self-2-clause-counted
invariant_of-self-2-clause-counted g c =
    let s = c.args.self.now in
    omega (arith, bytes_are s.decoder [], s.counted, c.emit_decoded.ensures.few)

pub returns-in_err-emit_decoded-clause-wrote : goal.returns-in_err-emit_decoded-clause-wrote
returns-in_err-emit_decoded-clause-wrote g c =
    let p = decoded_progress c.args.self.now in
    let s = c.args.self.now.shown in
    let shown : List ℕ = shown_pieces (run true p.state []) in
    let is = closes_text p (search rules) (search rules) in
    let starts = part_starts (display_of s) _ _ (settled_of s.mode s.count s.front.items s.capped s.filled) in
    record { bytes = part_failed _ shown (codes "]") _ _ starts is c.from_residual.ensures.0 c.in_err-emit_decoded.ensures.shown.bytes; failed = search rules }

pub returns-clause-state : goal.returns-clause-state
returns-clause-state g c =
    let p = decoded_progress c.args.self.now in
    let s = c.args.self.now.shown in
    let shown : List ℕ = shown_pieces (run true p.state []) in
    let text : is_named p.vr p.size ≡ false = search rules in
    let is = closes_text p (search rules) text in
    let starts = part_starts (display_of s) _ _ (settled_of s.mode s.count s.front.items s.capped s.filled) in
    let next = part_more _ _ shown (codes "]") _ starts is c.in_ok-emit_decoded.ensures.shown.state c.in_ok-emit_decoded.ensures.shown.bytes in
    let last = part_last _ _ _ _ next c.emit-2.ensures.state c.emit-2.ensures.bytes in
    closed_on p _ (run true p.state []) c.emit-2.result (last_text p text) refl c.in_ok-emit_decoded.ensures.state c.in_ok-emit_decoded.ensures.count last.0

pub returns-clause-wrote : goal.returns-clause-wrote
returns-clause-wrote g c =
    let p = decoded_progress c.args.self.now in
    let s = c.args.self.now.shown in
    let shown : List ℕ = shown_pieces (run true p.state []) in
    let is = closes_text p (search rules) (search rules) in
    let starts = part_starts (display_of s) _ _ (settled_of s.mode s.count s.front.items s.capped s.filled) in
    let next = part_more _ _ shown (codes "]") _ starts is c.in_ok-emit_decoded.ensures.shown.state c.in_ok-emit_decoded.ensures.shown.bytes in
    let last = part_last _ _ _ _ next c.emit-2.ensures.state c.emit-2.ensures.bytes in
    record { bytes = last.1; failed = search rules }
