use Rattle.std.proofs.Common.{rules, ◌≡◌, ap, sym, ◌∙◌, false, map, subst}
use Rattle.std.specs.Prelude.{fold}
use Rattle.std.specs.Io.KnownBytes.{append_known}
use Rattle.dcm_lemmas.proofs.Options.{known_nothing}
use Rattle.dcm_base.specs.Steps.Atoms.{value_byte}
use Rattle.dcm_base.specs.Steps.Steps.{outputs}
use Rattle.dcm_devices.specs.Device.{AppendsFront}
use Rattle.dcm_devices.proofs.Writes.Puts.{puts_err}
use Rattle.dcm_value.specs.Progress as progress
use Rattle.dcm_value.specs.ValueText.{progress as text_progress}
use Rattle.dcm_value.proofs.Displays.Emits.{settled_of}
use Rattle.dcm_sinks.specs.DumpSink as spec
use Rattle.dcm_sinks.specs.Lines.{state, value_of}
use Rattle.dcm_sinks.proofs.Dumps.ValueBytes.{within, between, stays_between, silent_between}
use Rattle.dcm_sinks.proofs.Dumps.Brackets.{begun_behind, opened_mode, fold_mode}
use Rattle.dcm_sinks.proofs.Dumps.OpenValues.{takes_bytes, shows_bytes}
use Rattle.dcm_sinks.proofs.Dumps.ValueLines.{is_open, is_begun, is_none, same_state, not_empty}
use Rattle.dcm_sinks.proofs.dump.lines.Lines.show.Goals as goal

pub returns-in_default-clause-state : goal.returns-in_default-clause-state
returns-in_default-clause-state g c =
    let s = c.args.self.now in
    let none = is_none s.owner c.take.result (text_progress s.text) c.in_default.is c.take.ensures.value in
    let now : state s ≡ between s.dictionary s.mode s.lengths = same_state s.dictionary s.mode s.lengths _ _ _ _ none c.requires in
    same_state s.dictionary s.mode s.lengths (value_of c.take.new.self (text_progress s.text)) spec.no_value s.is_lost false (ap (λ o. value_of o (text_progress s.text)) c.take.ensures.after) c.requires
    ∙ sym (ap (λ t. fold spec.dump_step t (map value_byte c.args.bytes.now)) now ∙ stays_between s.dictionary s.mode s.lengths c.args.bytes.now)

pub returns-in_default-clause-wrote : goal.returns-in_default-clause-wrote
returns-in_default-clause-wrote g c =
    let s = c.args.self.now in
    let none = is_none s.owner c.take.result (text_progress s.text) c.in_default.is c.take.ensures.value in
    let now : state s ≡ between s.dictionary s.mode s.lengths = same_state s.dictionary s.mode s.lengths _ _ _ _ none c.requires in
    record {
      bytes = sym (known_nothing (g.W.DeviceOut.contents c.args.out.now))
          ∙ ap (append_known (g.W.DeviceOut.contents c.args.out.now)) (sym (ap (λ t. outputs spec.dump_step spec.dump_writes t (map value_byte c.args.bytes.now)) now ∙ silent_between s.dictionary s.mode s.lengths c.args.bytes.now));
      failed = search rules;
    }

pub returns-in_err-feed-clause-wrote : goal.returns-in_err-feed-clause-wrote
returns-in_err-feed-clause-wrote g c =
    let s = c.args.self.now in
    let v = c.in-Some.owner in
    let begun = is_begun s.owner v (progress.is_unopened (text_progress s.text) ≡ false) c.in-Some.ensures.value s.begun in
    let settled = sym (settled_of s.text.shown.mode s.text.shown.count s.text.shown.front.items s.text.shown.capped s.text.shown.filled) in
    let now : state s ≡ within s.dictionary s.mode s.lengths v (text_progress s.text) =
    same_state s.dictionary s.mode s.lengths _ _ _ _ (is_open s.owner v (text_progress s.text) c.in-Some.ensures.value) c.requires
    in
    let wrote =
    shows_bytes s.dictionary s.mode s.lengths v (text_progress s.text) c.min.result c.missing.result c.args.bytes.now _ _
    c.min.ensures c.missing.ensures c.split_at.ensures.front c.split_at.ensures.back begun settled (state s) now
    in
    record {
      bytes = puts_err _ _ _ c.from_residual.result c.from_residual.ensures.0
          (subst (λ bytes. AppendsFront (g.W.DeviceOut.contents c.args.out.now) (g.W.DeviceOut.contents c.feed.new.out) bytes) (sym wrote) c.in_err-feed.ensures.wrote.bytes);
      failed = search rules;
    }

pub invariant_of-self-2 : goal.invariant_of-self-2
invariant_of-self-2 g c =
    let s = c.args.self.now in
    let v = c.in-Some.owner in
    let begun = is_begun s.owner v (progress.is_unopened (text_progress s.text) ≡ false) c.in-Some.ensures.value s.begun in
    let settled = sym (settled_of s.text.shown.mode s.text.shown.count s.text.shown.front.items s.text.shown.capped s.text.shown.filled) in
    let same = is_begun s.owner v ((text_progress s.text).display.mode ≡ s.mode) c.in-Some.ensures.value s.same in
    record {
      begun = λ owner is.
          ap progress.is_unopened c.in_ok-feed.ensures.state
          ∙ begun_behind (text_progress s.text) c.split_at.result.0.now begun settled s.text.shown.capped;
      same = λ owner is.
          ap (λ q. q.display.mode) c.in_ok-feed.ensures.state
          ∙ fold_mode (progress.opened (text_progress s.text)) c.split_at.result.0.now
          ∙ opened_mode (text_progress s.text)
          ∙ same;
    }

pub returns-clause-state : goal.returns-clause-state
returns-clause-state g c =
    let s = c.args.self.now in
    let v = c.in-Some.owner in
    let begun = is_begun s.owner v (progress.is_unopened (text_progress s.text) ≡ false) c.in-Some.ensures.value s.begun in
    let settled = sym (settled_of s.text.shown.mode s.text.shown.count s.text.shown.front.items s.text.shown.capped s.text.shown.filled) in
    let now : state s ≡ within s.dictionary s.mode s.lengths v (text_progress s.text) =
    same_state s.dictionary s.mode s.lengths _ _ _ _ (is_open s.owner v (text_progress s.text) c.in-Some.ensures.value) c.requires
    in
    let took =
    takes_bytes s.dictionary s.mode s.lengths v (text_progress s.text) c.min.result c.missing.result c.args.bytes.now _ _
    c.min.ensures c.missing.ensures c.split_at.ensures.front c.split_at.ensures.back begun settled (state s) now
    in
    same_state s.dictionary s.mode s.lengths _ _ _ _
    (ap (spec.open_value v) c.in_ok-feed.ensures.state)
    (not_empty c.split_at.result.1.now c.is_empty.result c.is_empty.ensures)
    ∙ sym took

pub returns-clause-wrote : goal.returns-clause-wrote
returns-clause-wrote g c =
    let s = c.args.self.now in
    let v = c.in-Some.owner in
    let begun = is_begun s.owner v (progress.is_unopened (text_progress s.text) ≡ false) c.in-Some.ensures.value s.begun in
    let settled = sym (settled_of s.text.shown.mode s.text.shown.count s.text.shown.front.items s.text.shown.capped s.text.shown.filled) in
    let now : state s ≡ within s.dictionary s.mode s.lengths v (text_progress s.text) =
    same_state s.dictionary s.mode s.lengths _ _ _ _ (is_open s.owner v (text_progress s.text) c.in-Some.ensures.value) c.requires
    in
    let wrote =
    shows_bytes s.dictionary s.mode s.lengths v (text_progress s.text) c.min.result c.missing.result c.args.bytes.now _ _
    c.min.ensures c.missing.ensures c.split_at.ensures.front c.split_at.ensures.back begun settled (state s) now
    in
    record { bytes = c.in_ok-feed.ensures.wrote.bytes ∙ ap (append_known (g.W.DeviceOut.contents c.args.out.now)) (sym wrote); failed = search rules }
