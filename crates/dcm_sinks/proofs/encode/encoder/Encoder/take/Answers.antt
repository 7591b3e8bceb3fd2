use Rattle.std.proofs.Common.{rules, ◌∙◌, ap, sym, ℕ}
use Rattle.dcm_stream.proofs.Runs.Skipped.{none_open}
use Rattle.dcm_sinks.specs.EncodeSink.{EncodeState}
use Rattle.dcm_sinks.specs.Encoder.{state}
use Rattle.dcm_sinks.proofs.Conversions.Dropping.{dropped_state, dropped_bytes}
use Rattle.dcm_sinks.proofs.encode.encoder.Encoder.take.Goals as goal

pub returns-then-is_open : goal.returns-then-is_open
returns-then-is_open g c =
    let dropped = ap (λ (d : ℕ). let t : EncodeState = record (state c.args.self.now) { dropped = d } in t) c.pass.ensures ∙ dropped_state (state c.args.self.now) c.args.token (sym c.if-is_open.ensures) in
    record { state = dropped; bytes = dropped_bytes (state c.args.self.now) c.args.token _ (sym c.if-is_open.ensures); failed = search rules }

pub take_live-requires : goal.take_live-requires
take_live-requires g c = none_open _ c.if-is_open.ensures
