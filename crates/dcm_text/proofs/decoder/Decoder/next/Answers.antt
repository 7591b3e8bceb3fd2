use Rattle.dcm_text.proofs.Calls.{if_some, if_none, gives_fewer}
use Rattle.dcm_text.proofs.Runs.{gives_run, waits_run}
use Rattle.dcm_text.proofs.decoder.Decoder.next.Goals as goal

pub returns : goal.returns
returns c =
    let old = c.args.self.now in
    let new = c.step.new.self in
    let input = c.args.input.now in
    let e = c.args.at_end in
    record {
      part = if_some _ _ _ c.step.result c.step.ensures (λ r g. gives_run e old new input r.1.now r.0 g);
      fewer = if_some _ _ _ c.step.result c.step.ensures (λ r g. gives_fewer e old new input r.1.now r.0 g);
      none = if_none _ _ _ c.step.result c.step.ensures (λ w. waits_run e old new input w);
    }
