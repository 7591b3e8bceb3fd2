use Rattle.std.proofs.Common.{rules, ◌≡◌, ap, sym, ◌∙◌, false, subst, List, ℕ}
use Rattle.std.specs.Io.KnownBytes.{append_known}
use Rattle.dcm_devices.specs.Device.{AppendsFront, Puts}
use Rattle.dcm_devices.proofs.Writes.Puts.{puts_err}
use Rattle.dcm_value.specs.DecodedProgress as progress
use Rattle.dcm_value.specs.DecodedText.{decoded_progress}
use Rattle.dcm_value.proofs.Displays.Emits.{settled_of}
use Rattle.dcm_sinks.specs.Lines.{state as lines_state}
use Rattle.dcm_sinks.specs.TextLines.{state}
use Rattle.dcm_sinks.proofs.Dumps.ValueLines.{is_begun}
use Rattle.dcm_sinks.proofs.DecodedDumps.TextBytes.{in_text, takes_piece, shows_piece}
use Rattle.dcm_sinks.proofs.DecodedDumps.TextLines.{is_open, then_ok, with_text, took_passed, showed_passed}
use Rattle.dcm_sinks.proofs.DecodedDumps.Texts.{begun_behind, opened_mode, fold_mode}
use Rattle.dcm_sinks.proofs.dump.lines.texts.TextLines.show.Goals as goal

pub returns-in_default-clause-state : goal.returns-in_default-clause-state
returns-in_default-clause-state g c =
    let s = c.args.self.now in
    let p = decoded_progress s.text in
    then_ok c.take-in_default.result c.take-in_default.ensures.state
    (λ e. took_passed c.args.sets.now (lines_state s.lines) (lines_state c.take-in_default.new.self) s.owner c.take.new.self p p c.args.bytes.now (sym c.take.ensures.value ∙ c.in_default.is) c.take.ensures.after e)

pub returns-in_default-clause-wrote : goal.returns-in_default-clause-wrote
returns-in_default-clause-wrote g c =
    let s = c.args.self.now in
    let same = showed_passed c.args.sets.now (lines_state s.lines) s.owner (decoded_progress s.text) c.args.bytes.now (sym c.take.ensures.value ∙ c.in_default.is) in
    record {
      bytes = subst (λ (bytes : List ℕ). Puts (g.W.DeviceOut.contents c.args.out.now) (g.W.DeviceOut.contents c.take-in_default.new.out) bytes c.take-in_default.result) same c.take-in_default.ensures.wrote.bytes;
      failed = search rules;
    }

pub returns-in_err-feed-clause-wrote : goal.returns-in_err-feed-clause-wrote
returns-in_err-feed-clause-wrote g c =
    let s = c.args.self.now in
    let v = c.in-Some.owner in
    let p = decoded_progress s.text in
    let begun = is_begun s.owner v (progress.is_unopened p ≡ false) c.in-Some.ensures.value s.begun in
    let settled = sym (settled_of s.text.shown.mode s.text.shown.count s.text.shown.front.items s.text.shown.capped s.text.shown.filled) in
    let now : state s ≡ in_text (lines_state s.lines) v p = ap (with_text (lines_state s.lines)) (is_open s.owner v p c.in-Some.ensures.value) in
    let wrote =
    shows_piece c.args.sets.now (lines_state s.lines) v p c.min.result c.missing.result c.args.bytes.now _ _
    c.min.ensures c.missing.ensures c.split_at.ensures.front c.split_at.ensures.back begun settled (state s) now
    in
    record {
      bytes = puts_err _ _ _ c.from_residual.result c.from_residual.ensures.0
          (subst (λ bytes. AppendsFront (g.W.DeviceOut.contents c.args.out.now) (g.W.DeviceOut.contents c.feed.new.out) bytes) (sym wrote) c.in_err-feed.ensures.wrote.bytes);
      failed = search rules;
    }

pub invariant_of-self-2 : goal.invariant_of-self-2
invariant_of-self-2 g c =
    let s = c.args.self.now in
    let v = c.in-Some.owner in
    let p = decoded_progress s.text in
    let begun = is_begun s.owner v (progress.is_unopened p ≡ false) c.in-Some.ensures.value s.begun in
    let settled = sym (settled_of s.text.shown.mode s.text.shown.count s.text.shown.front.items s.text.shown.capped s.text.shown.filled) in
    let same = is_begun s.owner v (p.display.mode ≡ s.lines.mode) c.in-Some.ensures.value s.same in
    record {
      begun = λ owner is.
          ap progress.is_unopened c.in_ok-feed.ensures.state
          ∙ begun_behind p c.split_at.result.0.now begun settled s.text.shown.capped;
      same = λ owner is.
          ap (λ q. q.display.mode) c.in_ok-feed.ensures.state
          ∙ fold_mode (progress.opened p) c.split_at.result.0.now
          ∙ opened_mode p
          ∙ same;
    }

pub returns-clause-state : goal.returns-clause-state
returns-clause-state g c =
    let s = c.args.self.now in
    let v = c.in-Some.owner in
    let p = decoded_progress s.text in
    let begun = is_begun s.owner v (progress.is_unopened p ≡ false) c.in-Some.ensures.value s.begun in
    let settled = sym (settled_of s.text.shown.mode s.text.shown.count s.text.shown.front.items s.text.shown.capped s.text.shown.filled) in
    let now : state s ≡ in_text (lines_state s.lines) v p = ap (with_text (lines_state s.lines)) (is_open s.owner v p c.in-Some.ensures.value) in
    let took =
    takes_piece c.args.sets.now (lines_state s.lines) v p c.min.result c.missing.result c.args.bytes.now _ _
    c.min.ensures c.missing.ensures c.split_at.ensures.front c.split_at.ensures.back begun settled (state s) now
    in
    ap (in_text (lines_state s.lines) v) c.in_ok-feed.ensures.state ∙ sym took

pub returns-clause-wrote : goal.returns-clause-wrote
returns-clause-wrote g c =
    let s = c.args.self.now in
    let v = c.in-Some.owner in
    let p = decoded_progress s.text in
    let begun = is_begun s.owner v (progress.is_unopened p ≡ false) c.in-Some.ensures.value s.begun in
    let settled = sym (settled_of s.text.shown.mode s.text.shown.count s.text.shown.front.items s.text.shown.capped s.text.shown.filled) in
    let now : state s ≡ in_text (lines_state s.lines) v p = ap (with_text (lines_state s.lines)) (is_open s.owner v p c.in-Some.ensures.value) in
    let wrote =
    shows_piece c.args.sets.now (lines_state s.lines) v p c.min.result c.missing.result c.args.bytes.now _ _
    c.min.ensures c.missing.ensures c.split_at.ensures.front c.split_at.ensures.back begun settled (state s) now
    in
    record { bytes = c.in_ok-feed.ensures.wrote.bytes ∙ ap (append_known (g.W.DeviceOut.contents c.args.out.now)) (sym wrote); failed = search rules }
