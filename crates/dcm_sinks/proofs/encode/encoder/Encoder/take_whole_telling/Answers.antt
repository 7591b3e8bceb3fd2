use Rattle.std.proofs.Common.{rules, ◌≡◌, ◌∙◌, ap, sym, ℕ, subst}
use Rattle.std.specs.Prelude.{OnOk}
use Rattle.std.specs.Io.KnownBytes.{append_known}
use Rattle.dcm_lemmas.proofs.Options.{known_nothing}
use Rattle.dcm_stream.proofs.Runs.Skipped.{none_open}
use Rattle.dcm_stream.specs.Skip.{closed}
use Rattle.dcm_sinks.specs.EncodeSink.{EncodeState}
use Rattle.dcm_sinks.specs.Encoder.{state}
use Rattle.dcm_sinks.proofs.Conversions.Wholes.{dropped_whole, unless_open, whole_state, whole_puts}
use Rattle.dcm_sinks.proofs.encode.encoder.Encoder.take_whole_telling.Goals as goal

pub returns-then-is_open : goal.returns-then-is_open
returns-then-is_open g c =
    let a = c.args in
    let s : EncodeState = state a.self.now in
    let drops = dropped_whole s a.head a.syntax a.value.now (unless_open _ s.dropped a.head.tag.element c.is_open.ensures c.then-is_open.either) in
    record {
      state = ap (λ (d : ℕ). let t : EncodeState = record s { dropped = d } in t) (c.close.ensures ∙ ap closed c.open.ensures) ∙ drops.0;
      bytes = sym (known_nothing (g.W.DeviceOut.contents a.out.now)) ∙ ap (append_known (g.W.DeviceOut.contents a.out.now)) drops.1;
      failed = search rules;
    }

pub returns : goal.returns
returns g c =
    let a = c.args in
    let s : EncodeState = state a.self.now in
    let none = none_open s.dropped (sym c.if-is_open.false ∙ c.is_open.ensures) in
    let same = whole_state s a.head a.syntax a.value.now none c.if-head-eq-GROUP_LENGTH.false c.requires in
    record {
      state = subst (λ (t : EncodeState). OnOk c.put_leaf.result (state c.put_leaf.new.self ≡ t)) same c.put_leaf.ensures.state;
      bytes = whole_puts s a.head a.syntax a.value.now none c.if-head-eq-GROUP_LENGTH.false c.requires (g.W.DeviceOut.contents a.out.now) (g.W.DeviceOut.contents c.put_leaf.new.out) c.put_leaf.result c.put_leaf.ensures.wrote.bytes;
      failed = c.put_leaf.ensures.wrote.failed;
    }
