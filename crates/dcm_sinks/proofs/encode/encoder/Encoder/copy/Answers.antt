use Rattle.std.proofs.Common.{rules, ◌≡◌, ap, None, Some}
use Rattle.dcm_sinks.specs.Copier.{copying}
use Rattle.dcm_sinks.specs.Encoder.{state, copying_of}
use Rattle.dcm_sinks.proofs.Conversions.Dropping.{no_copy_state, no_copy_bytes, copy_state, copy_bytes}
use Rattle.dcm_sinks.proofs.encode.encoder.Encoder.copy.Goals as goal

pub returns-in_default : goal.returns-in_default
returns-in_default g c =
    let none : copying_of c.args.self.now.copier ≡ None = ap copying_of c.in_default.is in
    record { state = no_copy_state (state c.args.self.now) c.args.bytes.now c.requires none; bytes = no_copy_bytes (state c.args.self.now) c.args.bytes.now _ c.requires none; failed = search rules }

pub returns-in-Err : goal.returns-in-Err
returns-in-Err g c =
    let some : copying_of c.args.self.now.copier ≡ Some (copying c.in-Some.copier) = ap copying_of c.in-Some.is in
    record {
      state = search rules;
      bytes = rw (copy_bytes (state c.args.self.now) (copying c.in-Some.copier) c.args.bytes.now c.requires some) c.in-Err.ensures.goes;
      failed = search rules;
    }

pub returns-in-Ok : goal.returns-in-Ok
returns-in-Ok g c =
    let some : copying_of c.args.self.now.copier ≡ Some (copying c.in-Some.copier) = ap copying_of c.in-Some.is in
    record {
      state = copy_state (state c.args.self.now) _ (copying c.in-Some.copier) (copying c.feed.new.self) c.args.bytes.now c.requires some c.in-Ok.ensures.goes.0 (ap (λ d. record { target = c.args.self.now.target; dropped = d; copying = Some (copying c.feed.new.self) }) c.requires);
      bytes = rw (copy_bytes (state c.args.self.now) (copying c.in-Some.copier) c.args.bytes.now c.requires some) c.in-Ok.ensures.goes.1;
      failed = search rules;
    }
