use Rattle.std.proofs.Common.{rules, ◌-◌, ◌+◌, ◌∙◌, ap, subst, map, length, ℕ, List, Option}
use Rattle.dcm_base.specs.Steps.Atoms.{Atom, value_byte}
use Rattle.dcm_stream.specs.Reading.{Reading, Sign, sign_reads, left_levels, left_sign, closing}
use Rattle.dcm_stream.specs.Machine.{reading, held_sign, Comes}
use Rattle.dcm_stream.proofs.Runs.Parts.{value_settles, comes_behind, fails_behind}
use Rattle.dcm_stream.proofs.cursor.Cursor.read_value.Goals as goal

pub settle_value-requires : goal.settle_value-requires
settle_value-requires g c = record { head = ap (λ (r : Reading). r.head) c.read_sign.ensures ∙ c.requires.head }

pub returns-in_err-take : goal.returns-in_err-take
returns-in_err-take g c =
    let cursor = c.args.self.now in
    let left : ℕ = cursor.left - length c.args.value.now in
    let sign : Option Sign = sign_reads c.args.value.now (held_sign cursor) in
    record { comes = fails_behind g.S.Sink.step g.S.Sink.writes (cursor.position + length c.args.value.now) left (left_levels left sign cursor.levels) (left_sign left sign) (g.S.Sink.state c.args.sink.now) (g.S.Sink.contents c.args.sink.now) (g.S.Sink.state c.take.new.self) (g.S.Sink.contents c.take.new.self) (reading cursor) (map value_byte c.args.value.now) (closing left) c.from_residual.result c.from_residual.ensures.1 c.in_err-take.ensures.bytes; failed = search rules; kept = search rules }

pub returns : goal.returns
returns g c =
    let cursor = c.args.self.now in
    let left : ℕ = cursor.left - length c.args.value.now in
    let sign : Option Sign = sign_reads c.args.value.now (held_sign cursor) in
    let comes = comes_behind g.S.Sink.step g.S.Sink.writes (cursor.position + length c.args.value.now) left (left_levels left sign cursor.levels) (left_sign left sign) (g.S.Sink.state c.args.sink.now) (g.S.Sink.contents c.args.sink.now)
    (g.S.Sink.state c.take.new.self) (g.S.Sink.contents c.take.new.self) (g.S.Sink.state c.settle_value.new.sink) (g.S.Sink.contents c.settle_value.new.sink) (reading c.settle_value.new.self)
    (map value_byte c.args.value.now) (closing left) c.settle_value.result c.in_ok-take.ensures.state c.in_ok-take.ensures.bytes
    (subst (λ (q : Reading × List Atom). Comes g.S.Sink.step g.S.Sink.writes (g.S.Sink.state c.take.new.self) (g.S.Sink.contents c.take.new.self) (g.S.Sink.state c.settle_value.new.sink) (g.S.Sink.contents c.settle_value.new.sink) (reading c.settle_value.new.self) q c.settle_value.result)
    (ap value_settles c.read_sign.ensures) c.settle_value.ensures.comes) in
    record { comes = comes; failed = search rules; kept = search rules }
