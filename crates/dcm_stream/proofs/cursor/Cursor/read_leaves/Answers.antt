use Rattle.std.proofs.Common.{rules, ◌≡◌, ◌+◌, ◌++◌, ◌∙◌, ap, sym, refl, ℕ, take, append_assoc, List, length, None, Ok, arith}
use Rattle.std.proofs.lemmas.List.{take-append-drop}
use Rattle.dcm_base.specs.Reading.Place.{passes, room}
use Rattle.dcm_stream.specs.declared.cursor.Cursor.{Cursor}
use Rattle.dcm_stream.specs.Machine.{reading, held_sign}
use Rattle.dcm_stream.proofs.Containers.Room.{passes_later}
use Rattle.dcm_stream.proofs.Runs.Parts.{feeds_on}
use Rattle.dcm_stream.proofs.Heads.PlainLeaves.{is_whole, leaf_within, place_of, plain_taken, plain_failed, run_failed}
use Rattle.dcm_stream.proofs.cursor.Cursor.read_leaves.Goals as goal

pub take_whole-requires : goal.take_whole-requires
take_whole-requires g c = (is_whole c.args.dictionary c.loop-leaf.rest.now c.in-Some.leaf c.in-Some.ensures.plain).is_leaf

pub returns-in_err-take_whole-clause-fed : goal.returns-in_err-take_whole-clause-fed
returns-in_err-take_whole-clause-fed g c =
    let i = c.loop-leaf.invariant in
    let p = c.loop-leaf.self in
    let leaf = c.in-Some.leaf in
    let at = place_of g.S.Sink.bar g.S.Sink.step g.S.Sink.writes c.args.self.now p c.args.dictionary (g.S.Sink.state c.loop-leaf.sink) c.loop-leaf.rest.now leaf i.same c.requires.holds c.requires.left c.requires.head i.within i.room c.in-Some.ensures.plain c.in-Some.ensures.taken in
    let failed = plain_failed g.S.Sink.bar g.S.Sink.step g.S.Sink.writes p c.args.dictionary c.requires.holds.inner (g.S.Sink.state c.loop-leaf.sink) c.loop-leaf.rest.now leaf at p (g.S.Sink.contents c.loop-leaf.sink) (g.S.Sink.state c.take_whole.new.self) (g.S.Sink.contents c.take_whole.new.self) c.in_err-take_whole.ensures.bytes in
    record {
      feeds = run_failed g.S.Sink.bar g.S.Sink.step g.S.Sink.writes (reading c.args.self.now None) (g.S.Sink.state c.args.sink.now) (g.S.Sink.contents c.args.sink.now) p (g.S.Sink.state c.loop-leaf.sink) (g.S.Sink.contents c.loop-leaf.sink)
          p (g.S.Sink.state c.take_whole.new.self) (g.S.Sink.contents c.take_whole.new.self) i.front c.loop-leaf.rest.now c.args.run.now (8 + length leaf.value.now) c.from_residual.result c.from_residual.ensures.1 i.whole i.goes failed;
      failed = search rules;
      kept = search rules;
    }

pub loop-leaf-preserved : goal.loop-leaf-preserved
loop-leaf-preserved g c =
    let i = c.loop-leaf.invariant in
    let p = c.loop-leaf.self in
    let leaf = c.in-Some.leaf in
    let rest = c.loop-leaf.rest.now in
    let after = c.split_at.result.1.now in
    let n : ℕ = 8 + length leaf.value.now in
    let q : Cursor = record p { position = p.position + n } in
    let none : held_sign p ≡ None = ap held_sign i.same ∙ c.requires.sign in
    let at = place_of g.S.Sink.bar g.S.Sink.step g.S.Sink.writes c.args.self.now p c.args.dictionary (g.S.Sink.state c.loop-leaf.sink) rest leaf i.same c.requires.holds c.requires.left c.requires.head i.within i.room c.in-Some.ensures.plain c.in-Some.ensures.taken in
    let taken = plain_taken g.S.Sink.bar g.S.Sink.step g.S.Sink.writes p c.args.dictionary c.requires.holds.inner (g.S.Sink.state c.loop-leaf.sink) rest leaf at q (g.S.Sink.contents c.loop-leaf.sink) (g.S.Sink.state c.take_whole.new.self) (g.S.Sink.contents c.take_whole.new.self) refl none
    c.in_ok-take_whole.ensures.state c.in_ok-take_whole.ensures.bytes in
    let fits = leaf_within g.S.Sink.bar g.S.Sink.step g.S.Sink.writes p c.args.dictionary c.requires.holds.inner (g.S.Sink.state c.loop-leaf.sink) rest leaf at in
    let left = c.split_at.ensures.back_len in
    let size : n + (length after + 8) ≡ length rest + 8 = omega (arith, fits, left) in
    record {
      front = i.front ++ take n rest;
      whole = i.whole ∙ ap (λ (xs : List ℕ). i.front ++ xs) (sym (take-append-drop n rest) ∙ ap (λ (xs : List ℕ). take n rest ++ xs) (sym c.split_at.ensures.back)) ∙ sym (append_assoc i.front (take n rest) after);
      goes = feeds_on g.S.Sink.bar g.S.Sink.step g.S.Sink.writes (reading c.args.self.now None) (g.S.Sink.state c.args.sink.now) (g.S.Sink.contents c.args.sink.now) (reading p None) (g.S.Sink.state c.loop-leaf.sink) (g.S.Sink.contents c.loop-leaf.sink)
          (reading q) (g.S.Sink.state c.take_whole.new.self) (g.S.Sink.contents c.take_whole.new.self) i.front (take n rest) (Ok (tt {0})) i.goes.0 i.goes.1 taken;
      same = ap (λ (x : Cursor). record x { position = p.position + n }) i.same;
      within = omega (arith, size, i.within);
      room = passes_later n (length after + 8) p.position c.args.self.now.levels (ap (λ (k : ℕ). passes k (room p.position c.args.self.now.levels)) size ∙ i.room);
      failed = search rules;
      kept = search rules;
    }
