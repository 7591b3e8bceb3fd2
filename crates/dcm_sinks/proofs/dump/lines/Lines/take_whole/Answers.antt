use Rattle.std.proofs.Common.{rules, sym, ap, ◌∙◌}
use Rattle.std.specs.Io.KnownBytes.{append_known}
use Rattle.dcm_lemmas.proofs.Options.{known_nothing}
use Rattle.dcm_stream.specs.Tokens.{whole_atoms}
use Rattle.dcm_sinks.specs.Lines.{state}
use Rattle.dcm_sinks.proofs.Dumps.ValueBytes.{lost_stays, lost_silent}
use Rattle.dcm_sinks.proofs.dump.lines.Lines.take_whole.Goals as goal

pub returns-then-self-clause-state : goal.returns-then-self-clause-state
returns-then-self-clause-state g c = let a = c.args in sym (lost_stays (state a.self.now) (whole_atoms a.head a.syntax a.value.now) c.if-self.true)

pub returns-then-self-clause-wrote : goal.returns-then-self-clause-wrote
returns-then-self-clause-wrote g c =
    let a = c.args in
    record {
      bytes = sym (known_nothing (g.W.DeviceOut.contents a.out.now))
          ∙ ap (append_known (g.W.DeviceOut.contents a.out.now)) (sym (lost_silent (state a.self.now) (whole_atoms a.head a.syntax a.value.now) c.if-self.true));
      failed = search rules;
    }
