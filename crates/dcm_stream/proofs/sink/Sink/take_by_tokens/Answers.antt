use Rattle.std.proofs.Common.{◌≡◌, ◌∙◌, ap, sym, subst, [], ◌∷◌, ◌++◌, List, ℕ, length, map}
use Rattle.std.proofs.lemmas.Bool.{eqb-true}
use Rattle.std.proofs.lemmas.List.{nil_from_length}
use Rattle.dcm_base.specs.Steps.Atoms.{Atom, opens, value_byte, closes_leaf}
use Rattle.dcm_base.specs.Steps.Steps.{outputs}
use Rattle.dcm_devices.specs.Device.{Puts}
use Rattle.dcm_stream.proofs.Runs.Wholes.{whole_fails, whole_goes, empty_goes}
use Rattle.dcm_stream.proofs.sink.Sink.take_by_tokens.Goals as goal
use Rattle.dcm_stream.proofs.sink.Sink.take_by_tokens.Goals.{then-not-is_empty+in_ok-take-2, else-not-is_empty}

pub returns-in_err-take-2-clause-bytes : goal.returns-in_err-take-2-clause-bytes
returns-in_err-take-2-clause-bytes g c =
    let head : Atom = opens c.args.head.tag c.args.head.vr c.args.head.length c.args.syntax in
    whole_fails g.Self.Sink.step g.Self.Sink.writes (g.Self.Sink.state c.args.self.now) (g.Self.Sink.contents c.args.self.now) (g.Self.Sink.state c.take.new.self) (g.Self.Sink.contents c.take.new.self) (g.Self.Sink.contents c.take-then-not-is_empty.new.self)
    head (map value_byte c.args.value.now) closes_leaf c.from_residual-in_err-take-2.result c.in_ok-take.ensures.state c.in_ok-take.ensures.bytes c.from_residual-in_err-take-2.ensures.0 c.in_err-take-2.ensures.bytes

pub returns-clause-bytes : goal.returns-clause-bytes
returns-clause-bytes g c =
    let head : Atom = opens c.args.head.tag c.args.head.vr c.args.head.length c.args.syntax in
    let mid = c.if-not-is_empty.self in
    elim c.if-not-is_empty.branch [
      | then-not-is_empty+in_ok-take-2 w ↦
          whole_goes g.Self.Sink.step g.Self.Sink.writes (g.Self.Sink.state c.args.self.now) (g.Self.Sink.contents c.args.self.now) (g.Self.Sink.state c.take.new.self) (g.Self.Sink.contents c.take.new.self) (g.Self.Sink.state mid) (g.Self.Sink.contents mid) (g.Self.Sink.contents c.take-2.new.self)
          head (map value_byte c.args.value.now) closes_leaf c.take-2.result c.in_ok-take.ensures.state c.in_ok-take.ensures.bytes (ap g.Self.Sink.state w.self-is ∙ w.in_ok-take-2.ensures.state) (ap g.Self.Sink.contents w.self-is ∙ w.in_ok-take-2.ensures.bytes) c.take-2.ensures.bytes
      | else-not-is_empty w ↦
          let empty : c.args.value.now ≡ [] = nil_from_length c.args.value.now (eqb-true (length c.args.value.now) 0 (sym c.is_empty.ensures ∙ w.if-not-is_empty.false)) in
          subst (λ (v : List ℕ). Puts (g.Self.Sink.contents c.args.self.now) (g.Self.Sink.contents c.take-2.new.self) (outputs g.Self.Sink.step g.Self.Sink.writes (g.Self.Sink.state c.args.self.now) (head ∷ (map value_byte v ++ closes_leaf ∷ []))) c.take-2.result) (sym empty)
          (empty_goes g.Self.Sink.step g.Self.Sink.writes (g.Self.Sink.state c.args.self.now) (g.Self.Sink.contents c.args.self.now) (g.Self.Sink.state mid) (g.Self.Sink.contents mid) (g.Self.Sink.contents c.take-2.new.self)
          head closes_leaf c.take-2.result (ap g.Self.Sink.state w.self-is ∙ c.in_ok-take.ensures.state) (ap g.Self.Sink.contents w.self-is ∙ c.in_ok-take.ensures.bytes) c.take-2.ensures.bytes)
    ]
