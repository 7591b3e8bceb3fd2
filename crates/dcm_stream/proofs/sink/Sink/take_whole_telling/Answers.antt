use Rattle.std.proofs.Common.{◌≡◌, ◌∙◌, ap, sym, subst, [], ◌∷◌, ◌++◌, List, ℕ, length, map, Ok}
use Rattle.std.proofs.lemmas.Bool.{eqb-true}
use Rattle.std.proofs.lemmas.List.{nil_from_length}
use Rattle.std.specs.Io.KnownBytes.{append_known}
use Rattle.std.specs.Prelude.{fold}
use Rattle.dcm_base.specs.Steps.Atoms.{Atom, opens, value_byte, closes_leaf}
use Rattle.dcm_base.specs.Steps.Steps.{outputs}
use Rattle.dcm_devices.specs.Device.{AppendsFront}
use Rattle.dcm_stream.specs.Tokens.{value_atoms}
use Rattle.dcm_stream.proofs.Runs.Wholes.{whole_goes, empty_goes, value_fails, end_fails, empty_fails}
use Rattle.dcm_stream.proofs.sink.Sink.take_whole_telling.Goals as goal
use Rattle.dcm_stream.proofs.sink.Sink.take_whole_telling.Goals.{then-not-is_empty+in-Ok-take, else-not-is_empty}

pub returns-in_default-take-clause-bytes : goal.returns-in_default-take-clause-bytes
returns-in_default-take-clause-bytes g c =
    let head : Atom = opens c.args.head.tag c.args.head.vr c.args.head.length c.args.syntax in
    value_fails g.Self.Sink.step g.Self.Sink.writes (g.Self.Sink.state c.args.self.now) (g.Self.Sink.contents c.args.self.now) (g.Self.Sink.state c.take.new.self) (g.Self.Sink.contents c.take.new.self) (g.Self.Sink.contents c.take-then-not-is_empty.new.self)
    head (map value_byte c.args.value.now) closes_leaf c.in-Ok.ensures.state c.in-Ok.ensures.bytes c.in_default-take.ensures.bytes

pub returns-in_default-take-2-clause-bytes : goal.returns-in_default-take-2-clause-bytes
returns-in_default-take-2-clause-bytes g c =
    let head : Atom = opens c.args.head.tag c.args.head.vr c.args.head.length c.args.syntax in
    let old = c.args.self.now in
    let s = g.Self.Sink.state old in
    let mid = c.if-not-is_empty.self in
    elim c.if-not-is_empty.branch [
      | then-not-is_empty+in-Ok-take w ↦
          end_fails g.Self.Sink.step g.Self.Sink.writes s (g.Self.Sink.contents old) (g.Self.Sink.state c.take.new.self) (g.Self.Sink.contents c.take.new.self) (g.Self.Sink.state mid) (g.Self.Sink.contents mid) (g.Self.Sink.contents c.take-2.new.self)
          head (map value_byte c.args.value.now) closes_leaf c.in-Ok.ensures.state c.in-Ok.ensures.bytes (ap g.Self.Sink.state w.self-is ∙ w.in-Ok-take.ensures.state) (ap g.Self.Sink.contents w.self-is ∙ w.in-Ok-take.ensures.bytes) c.in_default-take-2.ensures.bytes
      | else-not-is_empty w ↦
          let empty : c.args.value.now ≡ [] = nil_from_length c.args.value.now (eqb-true (length c.args.value.now) 0 (sym c.is_empty.ensures ∙ w.if-not-is_empty.false)) in
          subst (λ (v : List ℕ). AppendsFront (append_known (g.Self.Sink.contents old) (outputs g.Self.Sink.step g.Self.Sink.writes s (head ∷ []))) (g.Self.Sink.contents c.take-2.new.self) (outputs g.Self.Sink.step g.Self.Sink.writes (fold g.Self.Sink.step s (head ∷ [])) (value_atoms v))) (sym empty)
          (empty_fails g.Self.Sink.step g.Self.Sink.writes s (g.Self.Sink.contents old) (g.Self.Sink.state mid) (g.Self.Sink.contents mid) (g.Self.Sink.contents c.take-2.new.self)
          head closes_leaf (ap g.Self.Sink.state w.self-is ∙ c.in-Ok.ensures.state) (ap g.Self.Sink.contents w.self-is ∙ c.in-Ok.ensures.bytes) c.in_default-take-2.ensures.bytes)
    ]

pub returns-clause-bytes : goal.returns-clause-bytes
returns-clause-bytes g c =
    let head : Atom = opens c.args.head.tag c.args.head.vr c.args.head.length c.args.syntax in
    let old = c.args.self.now in
    let mid = c.if-not-is_empty.self in
    elim c.if-not-is_empty.branch [
      | then-not-is_empty+in-Ok-take w ↦
          whole_goes g.Self.Sink.step g.Self.Sink.writes {T = Unit {0}} {E = Unit {0}} (g.Self.Sink.state old) (g.Self.Sink.contents old) (g.Self.Sink.state c.take.new.self) (g.Self.Sink.contents c.take.new.self) (g.Self.Sink.state mid) (g.Self.Sink.contents mid) (g.Self.Sink.contents c.take-2.new.self)
          head (map value_byte c.args.value.now) closes_leaf (Ok tt) c.in-Ok.ensures.state c.in-Ok.ensures.bytes (ap g.Self.Sink.state w.self-is ∙ w.in-Ok-take.ensures.state) (ap g.Self.Sink.contents w.self-is ∙ w.in-Ok-take.ensures.bytes) c.in-Ok-take-2.ensures.bytes
      | else-not-is_empty w ↦
          let empty : c.args.value.now ≡ [] = nil_from_length c.args.value.now (eqb-true (length c.args.value.now) 0 (sym c.is_empty.ensures ∙ w.if-not-is_empty.false)) in
          subst (λ (v : List ℕ). g.Self.Sink.contents c.take-2.new.self ≡ append_known (g.Self.Sink.contents old) (outputs g.Self.Sink.step g.Self.Sink.writes (g.Self.Sink.state old) (head ∷ value_atoms v))) (sym empty)
          (empty_goes g.Self.Sink.step g.Self.Sink.writes {T = Unit {0}} {E = Unit {0}} (g.Self.Sink.state old) (g.Self.Sink.contents old) (g.Self.Sink.state mid) (g.Self.Sink.contents mid) (g.Self.Sink.contents c.take-2.new.self)
          head closes_leaf (Ok tt) (ap g.Self.Sink.state w.self-is ∙ c.in-Ok.ensures.state) (ap g.Self.Sink.contents w.self-is ∙ c.in-Ok.ensures.bytes) c.in-Ok-take-2.ensures.bytes)
    ]
