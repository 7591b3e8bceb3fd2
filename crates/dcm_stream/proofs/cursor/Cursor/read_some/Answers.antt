use Rattle.std.proofs.Common.{rules, ◌≡◌, ◌∷◌, [], refl, length, get_or, ℕ, Ok, Err, arith}
use Rattle.dcm_stream.proofs.Runs.Pieces.{first_byte, limit_at, value_goes, fails_first, heads_at, within_piece}
use Rattle.dcm_stream.proofs.cursor.Cursor.read_some.Goals as goal

pub returns-then-read-ge-INPUT_LIMIT-clause-fed : goal.returns-then-read-ge-INPUT_LIMIT-clause-fed
returns-then-read-ge-INPUT_LIMIT-clause-fed g c =
    let cursor = c.args.self.now in
    let size : c.len.result ≡ length cursor.head.items = c.len.ensures.value in
    record { feeds = limit_at g.S.Sink.bar g.S.Sink.step g.S.Sink.writes ℕ cursor (record { position = cursor.position; head = c.clear.new.self; left = cursor.left; sign = cursor.sign; levels = cursor.levels }) (g.S.Sink.state c.args.sink.now) (g.S.Sink.contents c.args.sink.now) c.args.piece.now c.refused.result c.refused.ensures (omega arith) c.requires.some refl c.clear.ensures refl refl refl; failed = search rules; kept = search rules }

pub returns-in_err-read_value-clause-fed : goal.returns-in_err-read_value-clause-fed
returns-in_err-read_value-clause-fed g c =
    let cursor = c.args.self.now in
    let value = c.split_at.result.0.now in
    let size : length value ≡ c.min-n.result = c.split_at.ensures.front_len in
    let head_size : c.len.result ≡ length cursor.head.items = c.len.ensures.value in
    let fed = value_goes g.S.Sink.bar g.S.Sink.step g.S.Sink.writes {T = Unit {0}} cursor (g.S.Sink.state c.args.sink.now) (g.S.Sink.contents c.args.sink.now) (g.S.Sink.state c.read_value.new.sink) (g.S.Sink.contents c.read_value.new.sink) c.read_value.new.self value
    (Err c.in_err-read_value.field-0.0) (c.requires.stands.small.no_head c.if-self-gt0.true) (omega arith) (omega arith) (omega arith) c.in_err-read_value.ensures.comes in
    record { feeds = fails_first g.S.Sink.bar g.S.Sink.step g.S.Sink.writes (Unit {0}) cursor (g.S.Sink.state c.args.sink.now) (g.S.Sink.contents c.args.sink.now) (g.S.Sink.state c.read_value.new.sink) (g.S.Sink.contents c.read_value.new.sink) c.read_value.new.self value c.args.piece.now c.min-n.result c.in_err-read_value.field-0.0 c.from_residual.result c.split_at.ensures.front c.from_residual.ensures.1 fed; failed = search rules; kept = search rules }

pub returns-then-self-gt0-clause-fed : goal.returns-then-self-gt0-clause-fed
returns-then-self-gt0-clause-fed g c =
    let cursor = c.args.self.now in
    let value = c.split_at.result.0.now in
    let size : length value ≡ c.min-n.result = c.split_at.ensures.front_len in
    let head_size : c.len.result ≡ length cursor.head.items = c.len.ensures.value in
    let fed = value_goes g.S.Sink.bar g.S.Sink.step g.S.Sink.writes {T = Unit {0}} cursor (g.S.Sink.state c.args.sink.now) (g.S.Sink.contents c.args.sink.now) (g.S.Sink.state c.read_value.new.sink) (g.S.Sink.contents c.read_value.new.sink) c.read_value.new.self value
    (Ok (tt {0})) (c.requires.stands.small.no_head c.if-self-gt0.true) (omega arith) (omega arith) (omega arith) c.in_ok-read_value.ensures.comes in
    record { feeds = rw (← c.split_at.ensures.front) fed; failed = search rules; kept = search rules }

pub returns-then-n-gt0-clause-fed : goal.returns-then-n-gt0-clause-fed
returns-then-n-gt0-clause-fed g c =
    let cursor = c.args.self.now in
    let bytes = c.split_at-then-n-gt0.result.0.now in
    let size : length bytes ≡ c.min-n-2.result = c.split_at-then-n-gt0.ensures.front_len in
    let head_size : c.len.result ≡ length cursor.head.items = c.len.ensures.value in
    let head_again : c.len-2.result ≡ length cursor.head.items = c.len-2.ensures.value in
    let none : cursor.left ≡ 0 = omega arith in
    let fed = heads_at g.S.Sink.bar g.S.Sink.step g.S.Sink.writes {T = Unit {0}} cursor (g.S.Sink.state c.args.sink.now) (g.S.Sink.contents c.args.sink.now) c.read_head_bytes.new.self bytes (tt {0}) c.requires.stands none (omega arith) (omega arith) c.read_head_bytes.ensures in
    record { feeds = rw (← c.split_at-then-n-gt0.ensures.front) fed; failed = search rules; kept = search rules }

pub returns-in_err-read_head_byte-clause-fed : goal.returns-in_err-read_head_byte-clause-fed
returns-in_err-read_head_byte-clause-fed g c =
    let cursor = c.args.self.now in
    let feeds = fails_first g.S.Sink.bar g.S.Sink.step g.S.Sink.writes (Unit {0}) cursor (g.S.Sink.state c.args.sink.now) (g.S.Sink.contents c.args.sink.now) (g.S.Sink.state c.read_head_byte.new.sink) (g.S.Sink.contents c.read_head_byte.new.sink) c.read_head_byte.new.self
    (get_or c.args.piece.now 0 0 ∷ []) c.args.piece.now 1 c.in_err-read_head_byte.field-0.0 c.from_residual-in_err-read_head_byte.result (first_byte c.args.piece.now c.requires.some) c.from_residual-in_err-read_head_byte.ensures.1 c.in_err-read_head_byte.ensures.feeds in
    record { feeds = feeds; failed = search rules; kept = search rules }

pub returns-then-most-clause-fed : goal.returns-then-most-clause-fed
returns-then-most-clause-fed g c =
    record { feeds = within_piece g.S.Sink.bar g.S.Sink.step g.S.Sink.writes c.args.self.now (g.S.Sink.state c.args.sink.now) (g.S.Sink.contents c.args.sink.now) (g.S.Sink.state c.read_heads.new.sink) (g.S.Sink.contents c.read_heads.new.sink) c.read_heads.new.self c.split_at-then-most.result.0.now c.args.piece.now _ c.read_heads.result c.split_at-then-most.ensures.front c.read_heads.ensures.some c.read_heads.ensures.fed.feeds; failed = search rules; kept = search rules }
