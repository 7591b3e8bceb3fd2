use Rattle.std.proofs.Common.{◌≡◌, ◌≢◌, ◌∙◌, ap, sym, refl, ℕ, ◌≤◌, ◌<◌, List, [], ◌++◌, append_assoc, length, take, drop, arith}
use Rattle.std.proofs.lemmas.Bool.{eqb-false}
use Rattle.std.proofs.lemmas.List.{length-append, length-take-le, take-append-drop}
use Rattle.dcm_cli.proofs.Passes.Readers.{members}
use Rattle.dcm_instance.proofs.Readings.{nothing_gave, failed_wanted, ended_wanted_by, gave_more, others_wanted}
use Rattle.dcm_instance.proofs.same.gives.Goals as goal

pub loop-rest-init : goal.loop-rest-init
loop-rest-init g c = record { front = []; whole = refl; gave = nothing_gave (members g.R.Device g.R.DeviceIn) c.args.input.now; size = refl }

pub returns-in-Err-clause-gives : goal.returns-in-Err-clause-gives
returns-in-Err-clause-gives g c =
    let i = c.loop-rest.invariant in
    failed_wanted (members g.R.Device g.R.DeviceIn) c.args.input.now c.loop-rest.input c.next_part.new.input i.front i.gave c.args.wanted.now c.loop-rest.rest.now i.whole
    c.in-Err.ensures.part c.in-Err.ensures.call c.in-Err.ensures.failed

pub returns-then-size-eq0-clause-gives : goal.returns-then-size-eq0-clause-gives
returns-then-size-eq0-clause-gives g c =
    let i = c.loop-rest.invariant in
    let left : length c.loop-rest.rest.now ≢ 0 = eqb-false (length c.loop-rest.rest.now) 0 (sym c.is_empty.ensures ∙ c.loop-rest-test.true) in
    let some : 0 < length c.loop-rest.rest.now = omega (arith, left) in
    ended_wanted_by (members g.R.Device g.R.DeviceIn) c.args.input.now c.loop-rest.input c.next_part.new.input i.front i.gave c.args.wanted.now c.loop-rest.rest.now i.whole
    some c.next_part.new.buffer c.in-Ok.size c.if-size-eq0.true c.in-Ok.ensures.part.1 c.in-Ok.ensures.part.2 c.in-Ok.ensures.call c.in-Ok.ensures.failed

pub returns-then-not-is_same-clause-gives : goal.returns-then-not-is_same-clause-gives
returns-then-not-is_same-clause-gives g c =
    let i = c.loop-rest.invariant in
    let size = c.in-Ok.size in
    let piece : List ℕ = take size c.next_part.new.buffer in
    let room = c.requires in
    let whole = ap length i.whole in
    let both = length-append i.front c.loop-rest.rest.now in
    let kept = c.in-Ok.ensures.kept in
    let before = i.size in
    let most = c.in-Ok.ensures.part.0 in
    let within : size ≤ length c.next_part.new.buffer = omega (arith, room, whole, both, kept, before, most) in
    let long = length-take-le size c.next_part.new.buffer within in
    let not_none = c.if-size-eq0.false in
    let some : 0 < length piece = omega (arith, long, not_none) in
    let fits : length piece ≤ length c.loop-rest.rest.now = omega (arith, long, most) in
    others_wanted (members g.R.Device g.R.DeviceIn) c.args.input.now c.loop-rest.input c.next_part.new.input i.front i.gave c.args.wanted.now c.loop-rest.rest.now i.whole
    piece some c.in-Ok.ensures.part.1 c.in-Ok.ensures.call c.in-Ok.ensures.failed fits
    (λ e. c.is_same.ensures.no c.if-not-is_same.true (c.split_at.ensures.front ∙ ap (λ (n : ℕ). take n c.loop-rest.rest.now) (sym long) ∙ e))

pub loop-rest-preserved : goal.loop-rest-preserved
loop-rest-preserved g c =
    let i = c.loop-rest.invariant in
    let size = c.in-Ok.size in
    let piece : List ℕ = take size c.next_part.new.buffer in
    let room = c.requires in
    let whole = ap length i.whole in
    let both = length-append i.front c.loop-rest.rest.now in
    let kept = c.in-Ok.ensures.kept in
    let before = i.size in
    let most = c.in-Ok.ensures.part.0 in
    let within : size ≤ length c.next_part.new.buffer = omega (arith, room, whole, both, kept, before, most) in
    let long = length-take-le size c.next_part.new.buffer within in
    let not_none = c.if-size-eq0.false in
    let some : 0 < length piece = omega (arith, long, not_none) in
    let same : take size c.loop-rest.rest.now ≡ piece = sym c.split_at.ensures.front ∙ c.is_same.ensures.yes c.if-not-is_same.false in
    let parts : c.loop-rest.rest.now ≡ piece ++ c.split_at.result.1.now =
    sym (take-append-drop size c.loop-rest.rest.now) ∙ ap (λ (bs : List ℕ). bs ++ drop size c.loop-rest.rest.now) same ∙ ap (λ (bs : List ℕ). piece ++ bs) (sym c.split_at.ensures.back) in
    record {
      front = i.front ++ piece;
      whole = i.whole ∙ ap (λ (bs : List ℕ). i.front ++ bs) parts ∙ sym (append_assoc i.front piece c.split_at.result.1.now);
      gave = gave_more (members g.R.Device g.R.DeviceIn) c.args.input.now c.loop-rest.input c.next_part.new.input i.front i.gave c.args.wanted.now c.loop-rest.rest.now i.whole
          piece some c.in-Ok.ensures.part.1 c.in-Ok.ensures.call c.in-Ok.ensures.failed;
      size = kept ∙ i.size;
    }
