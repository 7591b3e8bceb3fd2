use Rattle.std.proofs.Common.{rules, ◌+◌, sym, refl, ℕ, Ok, Err, arith, length}
use Rattle.dcm_stream.specs.Machine.{reading}
use Rattle.dcm_stream.proofs.Heads.HeadBytes.{some_container}
use Rattle.dcm_stream.proofs.Runs.Pieces.{fails_first}
use Rattle.dcm_stream.proofs.Heads.PieceLeaves.{leaf_fits, leaf_read}
use Rattle.dcm_stream.proofs.Heads.PieceHeads.{piece_short, piece_waits, piece_refused, piece_fits, piece_few, piece_opens}
use Rattle.dcm_stream.proofs.cursor.Cursor.read_head.Goals as goal

pub unreachable-requires : goal.unreachable-requires
unreachable-requires g c = some_container c.args.self.now c.requires.stands c.in_default.ensures

pub read_head_bytes-requires : goal.read_head_bytes-requires
read_head_bytes-requires g c = piece_short g.S.Sink.bar g.S.Sink.step g.S.Sink.writes c.args.self.now c.in-Some.inner (g.S.Sink.state c.args.sink.now) c.args.bytes.now c.requires.head c.requires.left c.requires.within (sym c.in-Some.ensures) c.judge.result c.in-More.is c.judge.ensures.judges

pub returns-in-More-clause-fed : goal.returns-in-More-clause-fed
returns-in-More-clause-fed g c =
    record { feeds = piece_waits g.S.Sink.bar g.S.Sink.step g.S.Sink.writes c.args.self.now c.in-Some.inner (g.S.Sink.state c.args.sink.now) c.args.bytes.now c.requires.head c.requires.left c.requires.within (sym c.in-Some.ensures) (g.S.Sink.contents c.args.sink.now) c.read_head_bytes.new.self c.judge.result (tt {0}) c.judge.ensures.judges c.in-More.is c.read_head_bytes.ensures; failed = search rules; kept = search rules }

pub returns-in-Refused-clause-fed : goal.returns-in-Refused-clause-fed
returns-in-Refused-clause-fed g c =
    record { feeds = piece_refused g.S.Sink.bar g.S.Sink.step g.S.Sink.writes c.args.self.now c.in-Some.inner (g.S.Sink.state c.args.sink.now) c.args.bytes.now c.requires.head c.requires.left c.requires.within (sym c.in-Some.ensures) ℕ (g.S.Sink.contents c.args.sink.now) c.judge.result c.in-Refused.fault c.refused.result (omega (arith, c.requires.eight)) c.judge.ensures.judges c.in-Refused.is c.refused.ensures; failed = search rules; kept = search rules }

pub overflow_add-self : goal.overflow_add-self
overflow_add-self g c =
    let fits = piece_fits g.S.Sink.bar g.S.Sink.step g.S.Sink.writes c.args.self.now c.in-Some.inner (g.S.Sink.state c.args.sink.now) c.args.bytes.now c.requires.head c.requires.left c.requires.within (sym c.in-Some.ensures) c.judge.result c.in-Opens.opening c.in-Opens.size c.judge.ensures.judges c.in-Opens.is in
    omega (arith, fits.1, c.requires.within)

pub enter-requires-clause-within : goal.enter-requires-clause-within
enter-requires-clause-within g c =
    let fits = piece_fits g.S.Sink.bar g.S.Sink.step g.S.Sink.writes c.args.self.now c.in-Some.inner (g.S.Sink.state c.args.sink.now) c.args.bytes.now c.requires.head c.requires.left c.requires.within (sym c.in-Some.ensures) c.judge.result c.in-Opens.opening c.in-Opens.size c.judge.ensures.judges c.in-Opens.is in
    omega (arith, fits.1, c.requires.within)

pub enter-requires-clause-few : goal.enter-requires-clause-few
enter-requires-clause-few g c =
    piece_few g.S.Sink.bar g.S.Sink.step g.S.Sink.writes c.args.self.now c.in-Some.inner (g.S.Sink.state c.args.sink.now) c.args.bytes.now c.requires.head c.requires.left c.requires.within (sym c.in-Some.ensures) c.judge.result c.in-Opens.opening c.in-Opens.size (c.args.self.now.position + c.in-Opens.size) c.requires.stands c.judge.ensures.judges c.in-Opens.is

pub returns-in_err-enter-in-Opens-clause-fed : goal.returns-in_err-enter-in-Opens-clause-fed
returns-in_err-enter-in-Opens-clause-fed g c =
    let fed = piece_opens g.S.Sink.bar g.S.Sink.step g.S.Sink.writes c.args.self.now c.in-Some.inner (g.S.Sink.state c.args.sink.now) c.args.bytes.now c.requires.head c.requires.left c.requires.within (sym c.in-Some.ensures) {T = Unit {0}} (g.S.Sink.contents c.args.sink.now)
    (g.S.Sink.state c.enter.new.sink) (g.S.Sink.contents c.enter.new.sink) (reading c.enter.new.self) c.judge.result c.in-Opens.opening c.in-Opens.size (Err c.in_err-enter-in-Opens.field-0.0) c.judge.ensures.judges c.in-Opens.is c.in_err-enter-in-Opens.ensures.comes in
    record { feeds = fails_first g.S.Sink.bar g.S.Sink.step g.S.Sink.writes (Unit {0}) c.args.self.now (g.S.Sink.state c.args.sink.now) (g.S.Sink.contents c.args.sink.now) (g.S.Sink.state c.enter.new.sink) (g.S.Sink.contents c.enter.new.sink) c.enter.new.self _ c.args.bytes.now c.in-Opens.size c.in_err-enter-in-Opens.field-0.0 c.from_residual.result refl c.from_residual.ensures.1 fed; failed = search rules; kept = search rules }

pub returns-in_default-whole_leaf-clause-some : goal.returns-in_default-whole_leaf-clause-some
returns-in_default-whole_leaf-clause-some g c =
    piece_fits g.S.Sink.bar g.S.Sink.step g.S.Sink.writes c.args.self.now c.in-Some.inner (g.S.Sink.state c.args.sink.now) c.args.bytes.now c.requires.head c.requires.left c.requires.within (sym c.in-Some.ensures) c.judge.result c.in-Opens.opening c.in-Opens.size c.judge.ensures.judges c.in-Opens.is

pub returns-in_default-whole_leaf-clause-fed : goal.returns-in_default-whole_leaf-clause-fed
returns-in_default-whole_leaf-clause-fed g c =
    let feeds = piece_opens g.S.Sink.bar g.S.Sink.step g.S.Sink.writes c.args.self.now c.in-Some.inner (g.S.Sink.state c.args.sink.now) c.args.bytes.now c.requires.head c.requires.left c.requires.within (sym c.in-Some.ensures) {T = Unit {0}} (g.S.Sink.contents c.args.sink.now)
    (g.S.Sink.state c.enter.new.sink) (g.S.Sink.contents c.enter.new.sink) (reading c.enter.new.self) c.judge.result c.in-Opens.opening c.in-Opens.size (Ok (tt {0})) c.judge.ensures.judges c.in-Opens.is c.in_ok-enter-in-Opens.ensures.comes in
    record { feeds = feeds; failed = search rules; kept = search rules }

pub returns-in_err-read_leaf-in-Opens-clause-fed : goal.returns-in_err-read_leaf-in-Opens-clause-fed
returns-in_err-read_leaf-in-Opens-clause-fed g c =
    let leaf = c.in-Some-whole_leaf.leaf in
    let fed = leaf_read g.S.Sink.bar g.S.Sink.step g.S.Sink.writes c.args.self.now c.in-Some.inner (g.S.Sink.state c.args.sink.now) c.args.bytes.now c.requires.head c.requires.left c.requires.within (sym c.in-Some.ensures) {T = Unit {0}} (g.S.Sink.contents c.args.sink.now)
    (g.S.Sink.state c.read_leaf.new.sink) (g.S.Sink.contents c.read_leaf.new.sink) (reading c.read_leaf.new.self) c.judge.result c.in-Opens.opening leaf c.in-Opens.size c.split_at.result.1.now (Err c.in_err-read_leaf-in-Opens.field-0.0) c.judge.ensures.judges c.in-Opens.is c.in-Some-whole_leaf.ensures.whole c.in-Some-whole_leaf.ensures.front c.split_at.ensures.back c.in_err-read_leaf-in-Opens.ensures.comes in
    record { feeds = fails_first g.S.Sink.bar g.S.Sink.step g.S.Sink.writes (Unit {0}) c.args.self.now (g.S.Sink.state c.args.sink.now) (g.S.Sink.contents c.args.sink.now) (g.S.Sink.state c.read_leaf.new.sink) (g.S.Sink.contents c.read_leaf.new.sink) c.read_leaf.new.self _ c.args.bytes.now (c.in-Opens.size + length leaf.value.now) c.in_err-read_leaf-in-Opens.field-0.0 c.from_residual-in_err-read_leaf-in-Opens.result refl c.from_residual-in_err-read_leaf-in-Opens.ensures.1 fed; failed = search rules; kept = search rules }

pub returns-in_ok-read_leaf-in-Opens-clause-some : goal.returns-in_ok-read_leaf-in-Opens-clause-some
returns-in_ok-read_leaf-in-Opens-clause-some g c =
    leaf_fits g.S.Sink.bar g.S.Sink.step g.S.Sink.writes c.args.self.now c.in-Some.inner (g.S.Sink.state c.args.sink.now) c.args.bytes.now c.requires.head c.requires.left c.requires.within (sym c.in-Some.ensures) c.judge.result c.in-Opens.opening c.in-Some-whole_leaf.leaf c.in-Opens.size c.split_at.result.1.now c.judge.ensures.judges c.in-Opens.is c.in-Some-whole_leaf.ensures.front c.split_at.ensures.back

pub returns-in_ok-read_leaf-in-Opens-clause-fed : goal.returns-in_ok-read_leaf-in-Opens-clause-fed
returns-in_ok-read_leaf-in-Opens-clause-fed g c =
    let leaf = c.in-Some-whole_leaf.leaf in
    let feeds = leaf_read g.S.Sink.bar g.S.Sink.step g.S.Sink.writes c.args.self.now c.in-Some.inner (g.S.Sink.state c.args.sink.now) c.args.bytes.now c.requires.head c.requires.left c.requires.within (sym c.in-Some.ensures) {T = Unit {0}} (g.S.Sink.contents c.args.sink.now)
    (g.S.Sink.state c.read_leaf.new.sink) (g.S.Sink.contents c.read_leaf.new.sink) (reading c.read_leaf.new.self) c.judge.result c.in-Opens.opening leaf c.in-Opens.size c.split_at.result.1.now (Ok (tt {0})) c.judge.ensures.judges c.in-Opens.is c.in-Some-whole_leaf.ensures.whole c.in-Some-whole_leaf.ensures.front c.split_at.ensures.back c.in_ok-read_leaf-in-Opens.ensures.comes in
    record { feeds = feeds; failed = search rules; kept = search rules }
