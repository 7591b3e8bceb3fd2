use Rattle.std.proofs.Common.{rules, ◌∙◌, ◌+◌, ◌++◌, ◌∷◌, [], ap, sym, refl, length, ℕ}
use Rattle.dcm_stream.specs.Judging.{bars_head}
use Rattle.dcm_stream.specs.Machine.{reading}
use Rattle.dcm_stream.proofs.Heads.HeadBytes.{some_container, judged_at, feeds_refused, feeds_waiting, opens_few, feeds_opening}
use Rattle.dcm_stream.proofs.cursor.Cursor.read_head_byte.Goals as goal

pub unreachable-requires : goal.unreachable-requires
unreachable-requires g c = some_container c.args.self.now c.requires.stands c.in_default.ensures

pub returns-in-Refused : goal.returns-in-Refused
returns-in-Refused g c =
    let cursor = c.args.self.now in
    let s = g.S.Sink.state c.args.sink.now in
    let judged = judged_at (bars_head g.S.Sink.bar s) c.in-Some.inner cursor.position cursor.levels c.as_slice.result.now (cursor.head.items ++ c.args.byte ∷ []) c.judge.result (c.as_slice.ensures.value ∙ c.push.ensures.items) c.judge.ensures.judges in
    record { feeds = feeds_refused g.S.Sink.bar g.S.Sink.step g.S.Sink.writes cursor c.in-Some.inner s c.args.byte c.requires.left c.requires.within (sym c.in-Some.ensures) (Unit {0}) (g.S.Sink.contents c.args.sink.now) (record { position = cursor.position; head = c.clear.new.self; left = cursor.left; sign = cursor.sign; levels = cursor.levels }) c.judge.result c.in-Refused.fault c.refused.result judged c.in-Refused.is c.refused.ensures refl c.clear.ensures refl refl refl; failed = search rules; kept = search rules }

pub returns-in-More : goal.returns-in-More
returns-in-More g c =
    let cursor = c.args.self.now in
    let s = g.S.Sink.state c.args.sink.now in
    let judged = judged_at (bars_head g.S.Sink.bar s) c.in-Some.inner cursor.position cursor.levels c.as_slice.result.now (cursor.head.items ++ c.args.byte ∷ []) c.judge.result (c.as_slice.ensures.value ∙ c.push.ensures.items) c.judge.ensures.judges in
    record { feeds = feeds_waiting g.S.Sink.bar g.S.Sink.step g.S.Sink.writes cursor c.in-Some.inner s c.args.byte c.requires.left c.requires.within (sym c.in-Some.ensures) (g.S.Sink.contents c.args.sink.now) (record { position = cursor.position; head = c.push.new.self; left = cursor.left; sign = cursor.sign; levels = cursor.levels }) c.judge.result (tt {0}) judged c.in-More.is refl c.push.ensures.items refl refl refl; failed = search rules; kept = search rules }

pub enter-requires-clause-few : goal.enter-requires-clause-few
enter-requires-clause-few g c =
    let cursor = c.args.self.now in
    let s = g.S.Sink.state c.args.sink.now in
    let judged = judged_at (bars_head g.S.Sink.bar s) c.in-Some.inner cursor.position cursor.levels c.as_slice.result.now (cursor.head.items ++ c.args.byte ∷ []) c.judge.result (c.as_slice.ensures.value ∙ c.push.ensures.items) c.judge.ensures.judges in
    let begin = ap (λ (n : ℕ). cursor.position + n) (c.len.ensures.value ∙ ap length c.push.ensures.items) in
    opens_few g.S.Sink.bar g.S.Sink.step g.S.Sink.writes cursor c.in-Some.inner s c.args.byte c.requires.left c.requires.within (sym c.in-Some.ensures) c.judge.result c.in-Opens.opening c.in-Opens.field-1 (cursor.position + c.len.result) c.requires.stands judged c.in-Opens.is begin

pub returns-in-Opens : goal.returns-in-Opens
returns-in-Opens g c =
    let cursor = c.args.self.now in
    let s = g.S.Sink.state c.args.sink.now in
    let judged = judged_at (bars_head g.S.Sink.bar s) c.in-Some.inner cursor.position cursor.levels c.as_slice.result.now (cursor.head.items ++ c.args.byte ∷ []) c.judge.result (c.as_slice.ensures.value ∙ c.push.ensures.items) c.judge.ensures.judges in
    let begin = ap (λ (n : ℕ). cursor.position + n) (c.len.ensures.value ∙ ap length c.push.ensures.items) in
    let feeds = feeds_opening g.S.Sink.bar g.S.Sink.step g.S.Sink.writes cursor c.in-Some.inner s c.args.byte c.requires.left c.requires.within (sym c.in-Some.ensures) (g.S.Sink.contents c.args.sink.now) (g.S.Sink.state c.enter.new.sink) (g.S.Sink.contents c.enter.new.sink)
    (reading c.enter.new.self) c.judge.result c.in-Opens.opening c.in-Opens.field-1 (cursor.position + c.len.result) c.enter.result judged c.in-Opens.is begin c.enter.ensures.comes in
    record { feeds = feeds; failed = search rules; kept = search rules }
