use Rattle.std.proofs.Common.{rules, ◌≡◌, ◌∙◌, ap, sym, subst, [], ◌∷◌, ◌++◌, List, ℕ, length, map}
use Rattle.std.proofs.lemmas.Bool.{eqb-true}
use Rattle.std.proofs.lemmas.List.{nil_from_length}
use Rattle.dcm_base.specs.Steps.Atoms.{Atom, opens, value_byte, closes_leaf}
use Rattle.dcm_base.specs.Steps.Steps.{outputs}
use Rattle.dcm_devices.specs.Device.{Puts}
use Rattle.dcm_stream.proofs.Runs.Wholes.{whole_fails, whole_goes, empty_goes}
use Rattle.dcm_sinks.specs.TextDump.{text_step, text_writes}
use Rattle.dcm_sinks.specs.TextLines.{state}
use Rattle.dcm_sinks.proofs.dump.lines.texts.TextLines.take_in_parts.Goals as goal
use Rattle.dcm_sinks.proofs.dump.lines.texts.TextLines.take_in_parts.Goals.{then-not-is_empty+in_ok-take-2, else-not-is_empty}

pub returns-in_err-take-2-clause-wrote : goal.returns-in_err-take-2-clause-wrote
returns-in_err-take-2-clause-wrote g c =
    let head : Atom = opens c.args.head.tag c.args.head.vr c.args.head.length c.args.syntax in
    record {
      bytes = whole_fails (text_step c.args.sets.now) (text_writes c.args.sets.now) (state c.args.self.now) (g.W.DeviceOut.contents c.args.out.now) (state c.take.new.self) (g.W.DeviceOut.contents c.take.new.out) (g.W.DeviceOut.contents c.take-then-not-is_empty.new.out)
          head (map value_byte c.args.value.now) closes_leaf c.from_residual-in_err-take-2.result c.in_ok-take.ensures.state c.in_ok-take.ensures.wrote.bytes c.from_residual-in_err-take-2.ensures.0 c.in_err-take-2.ensures.wrote.bytes;
      failed = search rules;
    }

pub returns-clause-wrote : goal.returns-clause-wrote
returns-clause-wrote g c =
    let head : Atom = opens c.args.head.tag c.args.head.vr c.args.head.length c.args.syntax in
    let s = state c.args.self.now in
    let old = g.W.DeviceOut.contents c.args.out.now in
    let new = g.W.DeviceOut.contents c.take-2.new.out in
    let mid = c.if-not-is_empty.self in
    let near = g.W.DeviceOut.contents c.if-not-is_empty.out in
    record {
      bytes = elim c.if-not-is_empty.branch [
        | then-not-is_empty+in_ok-take-2 w ↦
            whole_goes (text_step c.args.sets.now) (text_writes c.args.sets.now) s old (state c.take.new.self) (g.W.DeviceOut.contents c.take.new.out) (state mid) near new
            head (map value_byte c.args.value.now) closes_leaf c.take-2.result c.in_ok-take.ensures.state c.in_ok-take.ensures.wrote.bytes (ap state w.self-is ∙ w.in_ok-take-2.ensures.state) (ap g.W.DeviceOut.contents w.out-is ∙ w.in_ok-take-2.ensures.wrote.bytes) c.take-2.ensures.wrote.bytes
        | else-not-is_empty w ↦
            let empty : c.args.value.now ≡ [] = nil_from_length c.args.value.now (eqb-true (length c.args.value.now) 0 (sym c.is_empty.ensures ∙ w.if-not-is_empty.false)) in
            subst (λ (v : List ℕ). Puts old new (outputs (text_step c.args.sets.now) (text_writes c.args.sets.now) s (head ∷ (map value_byte v ++ closes_leaf ∷ []))) c.take-2.result) (sym empty)
            (empty_goes (text_step c.args.sets.now) (text_writes c.args.sets.now) s old (state mid) near new
            head closes_leaf c.take-2.result (ap state w.self-is ∙ c.in_ok-take.ensures.state) (ap g.W.DeviceOut.contents w.out-is ∙ c.in_ok-take.ensures.wrote.bytes) c.take-2.ensures.wrote.bytes)
      ];
      failed = search rules;
    }
