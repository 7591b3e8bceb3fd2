use Rattle.std.proofs.Common.{◌≡◌, ◌++◌, ◌∙◌, ap, sym, ℕ, length, take, [], append_assoc, refl, List, ◌+◌, length-append, arith, None}
use Rattle.std.proofs.lemmas.List.{take-append-drop, append-nil, length-take-le}
use Rattle.dcm_lemmas.proofs.Options.{known_nothing}
use Rattle.dcm_stream.proofs.Runs.Calls.{empty_by}
use Rattle.dcm_build.specs.Builder.{building}
use Rattle.dcm_build.proofs.Files.Calls.{fed_on, fed_halted, tells_halted}
use Rattle.dcm_build.proofs.line_reader.LineReader.read_all.Goals as goal

pub loop-rest-init : goal.loop-rest-init
loop-rest-init g c = record {
  front = [];
  whole = refl;
  feeds = (refl, sym (known_nothing (g.W.DeviceOut.contents c.args.out.now)));
  stands = c.requires;
  size = omega arith;
  within = λ le. le;
  failed = refl;
}

pub read_some-requires-clause-stands : goal.read_some-requires-clause-stands
read_some-requires-clause-stands g c = c.loop-rest.invariant.stands

pub returns-in_err-n-clause-fed : goal.returns-in_err-n-clause-fed
returns-in_err-n-clause-fed g c = record {
  feeds = rw c.loop-rest.invariant.whole
      (fed_halted (building c.args.self.now None) (g.W.DeviceOut.contents c.args.out.now) c.loop-rest.self (g.W.DeviceOut.contents c.loop-rest.out) c.read_some.new.self (g.W.DeviceOut.contents c.read_some.new.out) c.loop-rest.invariant.front c.loop-rest.rest.now
      c.in_err-n.field-0.0 c.from_residual.result c.loop-rest.invariant.feeds c.in_err-n.ensures.fed.feeds c.from_residual.ensures.1);
  failed = tells_halted _ _ _ c.in_err-n.field-0.0 c.from_residual.result c.loop-rest.invariant.failed c.in_err-n.ensures.fed.failed c.from_residual.ensures.1;
}

pub loop-rest-smaller : goal.loop-rest-smaller
loop-rest-smaller g c = let some = c.in_ok-n.ensures.some in let left = c.split_at.ensures.back_len in omega (arith, some, left)

pub loop-rest-preserved : goal.loop-rest-preserved
loop-rest-preserved g c =
    let n : ℕ = c.in_ok-n.n in
    let rest = c.loop-rest.rest.now in
    let front = c.loop-rest.invariant.front in
    let size : length (front ++ take n rest) ≡ length front + length (take n rest) = length-append front (take n rest) in
    let taken : length (take n rest) ≡ n = length-take-le n rest c.in_ok-n.ensures.some.1 in
    record {
      front = front ++ take n rest;
      whole = c.loop-rest.invariant.whole ∙ ap (λ (xs : List ℕ). front ++ xs) (sym (take-append-drop n rest) ∙ ap (λ (xs : List ℕ). take n rest ++ xs) (sym c.split_at.ensures.back)) ∙ sym (append_assoc front (take n rest) c.split_at.result.1.now);
      feeds = fed_on (building c.args.self.now None) (g.W.DeviceOut.contents c.args.out.now) c.loop-rest.self (g.W.DeviceOut.contents c.loop-rest.out) c.read_some.new.self (g.W.DeviceOut.contents c.read_some.new.out) front (take n rest) n c.loop-rest.invariant.feeds c.in_ok-n.ensures.fed.feeds;
      stands = c.in_ok-n.ensures.stands;
      size = let more = c.in_ok-n.ensures.size in let before = c.loop-rest.invariant.size in omega (arith, size, taken, more, before);
      within = λ le. c.in_ok-n.ensures.within;
      failed = c.in_ok-n.ensures.fed.failed ∙ c.loop-rest.invariant.failed;
    }

pub returns-clause-fed : goal.returns-clause-fed
returns-clause-fed g c =
    let none : c.loop-rest.rest.now ≡ [] = empty_by c.loop-rest.rest.now c.loop-rest-test.ensures in
    record { feeds = rw (c.loop-rest.invariant.whole, none, append-nil) c.loop-rest.invariant.feeds; failed = c.loop-rest.invariant.failed }

pub returns-clause-stands : goal.returns-clause-stands
returns-clause-stands g c = c.loop-rest.invariant.stands

pub returns-clause-size : goal.returns-clause-size
returns-clause-size g c =
    let front = c.loop-rest.invariant.front in
    let none : c.loop-rest.rest.now ≡ [] = empty_by c.loop-rest.rest.now c.loop-rest-test.ensures in
    let whole : length c.args.piece.now ≡ length front = ap length (c.loop-rest.invariant.whole ∙ ap (λ (xs : List ℕ). front ++ xs) none ∙ append-nil front) in
    let before = c.loop-rest.invariant.size in
    omega (arith, before, whole)

pub returns-clause-within : goal.returns-clause-within
returns-clause-within g c = c.loop-rest.invariant.within
