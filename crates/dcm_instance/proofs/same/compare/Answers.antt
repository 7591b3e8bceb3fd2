use Rattle.std.proofs.Common.{◌∙◌, refl, ℕ, ◌<◌, ◌^◌, List, [], ◌++◌, length, take, arith}
use Rattle.std.proofs.lemmas.List.{length-append, length-take-le}
use Rattle.dcm_cli.proofs.Passes.Readers.{members}
use Rattle.dcm_instance.proofs.Readings.{nothing_gave, one_gave, gave_both, first_ended, first_failed_by, second_others, both_long}
use Rattle.dcm_instance.proofs.same.compare.Goals as goal

pub loop-compared-init : goal.loop-compared-init
loop-compared-init g c = record {
  front = [];
  first_gave = nothing_gave (members g.A.Device g.A.DeviceIn) c.args.first.now;
  second_gave = nothing_gave (members g.B.Device g.B.DeviceIn) c.args.second.now;
  count = refl;
  within = omega arith;
  of_first = refl;
  of_second = refl;
}

pub returns-in-Ok-None : goal.returns-in-Ok-None
returns-in-Ok-None g c =
    let i = c.loop-compared.invariant in
    first_ended (members g.A.Device g.A.DeviceIn) (members g.B.Device g.B.DeviceIn) c.args.first.now c.loop-compared.first c.next_piece.new.input c.args.second.now c.loop-compared.second c.has_ended.new.input i.front i.first_gave i.second_gave
    (rw c.in-Ok-None.field-0-is at c.in-Ok-None.ensures.bytes) (rw c.in-Ok-None.field-0-is at c.in-Ok-None.ensures.call) c.in-Ok-None.ensures.failed c.has_ended.result c.has_ended.ensures

pub returns-in-Err : goal.returns-in-Err
returns-in-Err g c =
    let i = c.loop-compared.invariant in
    first_failed_by (members g.A.Device g.A.DeviceIn) (members g.B.Device g.B.DeviceIn) c.args.first.now c.loop-compared.first c.next_piece.new.input c.args.second.now c.loop-compared.second c.loop-compared.second i.front i.first_gave i.second_gave
    c.in-Err.ensures.bytes c.in-Err.ensures.call c.in-Err.ensures.failed

pub returns-then-not-gives : goal.returns-then-not-gives
returns-then-not-gives g c =
    let i = c.loop-compared.invariant in
    let piece : List ℕ = take c.in-Ok-Some.size c.next_piece.new.buffer in
    let came = rw c.in-Ok-Some.field-0-is at c.in-Ok-Some.ensures.bytes in
    let long = length-take-le c.in-Ok-Some.size c.next_piece.new.buffer came.1 in
    let has = came.0 in
    let some : 0 < length piece = omega (arith, long, has) in
    second_others (members g.A.Device g.A.DeviceIn) (members g.B.Device g.B.DeviceIn) c.args.first.now c.loop-compared.first c.next_piece.new.input c.args.second.now c.loop-compared.second c.gives.new.input i.front i.first_gave i.second_gave
    piece (rw c.in-Ok-Some.field-0-is at c.in-Ok-Some.ensures.call) some came.2 c.in-Ok-Some.ensures.failed c.if-not-gives.ensures.gives

pub loop-compared-preserved : goal.loop-compared-preserved
loop-compared-preserved g c =
    let i = c.loop-compared.invariant in
    let piece : List ℕ = take c.in-Ok-Some.size c.next_piece.new.buffer in
    let came = rw c.in-Ok-Some.field-0-is at c.in-Ok-Some.ensures.bytes in
    let counted = rw c.in-Ok-Some.field-0-is at c.in-Ok-Some.ensures.count in
    let long = length-take-le c.in-Ok-Some.size c.next_piece.new.buffer came.1 in
    let has = came.0 in
    let fits = came.1 in
    let some : 0 < length piece = omega (arith, long, has) in
    let both = length-append i.front piece in
    let before = i.count in
    let test = c.loop-compared-test.true in
    let bound = c.requires.bound in
    let kept = c.next_piece.ensures.kept in
    let size = i.of_first in
    record {
      front = i.front ++ piece;
      first_gave = gave_both (members g.A.Device g.A.DeviceIn) c.args.first.now c.loop-compared.first c.next_piece.new.input i.front piece i.first_gave
          (one_gave (members g.A.Device g.A.DeviceIn) c.loop-compared.first c.next_piece.new.input piece (rw c.in-Ok-Some.field-0-is at c.in-Ok-Some.ensures.call) some came.2 c.in-Ok-Some.ensures.failed);
      second_gave = gave_both (members g.B.Device g.B.DeviceIn) c.args.second.now c.loop-compared.second c.gives.new.input i.front piece i.second_gave c.if-not-gives.ensures.gives;
      count = omega (arith, counted, before, both, long);
      within = omega (arith, counted, test, fits, kept, size, bound);
      of_first = kept ∙ i.of_first;
      of_second = c.gives.ensures.size ∙ i.of_second;
    }

pub returns : goal.returns
returns g c =
    let i = c.loop-compared.invariant in
    let test = c.loop-compared-test.false in
    let before = i.count in
    let long : 2 ^ 62 < length i.front = omega (arith, test, before) in
    both_long (members g.A.Device g.A.DeviceIn) (members g.B.Device g.B.DeviceIn) c.args.first.now c.loop-compared.first c.loop-compared.first c.args.second.now c.loop-compared.second c.loop-compared.second i.front i.first_gave i.second_gave long
