use Rattle.std.proofs.Common.{◌≡◌, ◌≢◌, ◌<◌, ◌≤◌, length, false, true, refl, sym, subst, arith}
use Rattle.std.proofs.lemmas.Bool.Decides.{nat_tests}
use Rattle.std.proofs.lemmas.List.{length-take-le}
use Rattle.dcm_cli.proofs.Passes.Readers.{members}
use Rattle.dcm_cli.proofs.Passes.KeyBytes.{is_more, KeySoFar, key_begun, key_failed, key_goes_on, key_too_long, key_too_short, key_whole}
use Rattle.dcm_cli.proofs.key.read_key.Goals as goal

pub loop-size-init : goal.loop-size-init
loop-size-init g c = record {
  so_far = subst (λ bytes. KeySoFar (members g.R.Device g.R.DeviceIn) c.args.input.now bytes c.args.input.now) (sym c.new-key.ensures) (key_begun (members g.R.Device g.R.DeviceIn) c.args.input.now);
}

pub returns-in-Err : goal.returns-in-Err
returns-in-Err g c = key_failed (members g.R.Device g.R.DeviceIn) _ c.loop-size.key.items c.loop-size.input _ c.loop-size.invariant.so_far c.in-Err.ensures.err c.in-Err.ensures.gives c.in-Err.ensures.failed

pub returns-then-len-lt-LEAST_OF_KEY : goal.returns-then-len-lt-LEAST_OF_KEY
returns-then-len-lt-LEAST_OF_KEY g c =
    let none : c.in-Ok.size ≡ 0 = grind (arith, nat_tests, c.if-size-eq0.true) in
    let short : length c.loop-size.key.items < 16 = grind (arith, nat_tests, c.if-len-lt-LEAST_OF_KEY.true, c.len.ensures.value) in
    key_too_short (members g.R.Device g.R.DeviceIn) _ c.loop-size.key.items c.loop-size.input _ c.loop-size.invariant.so_far _ c.in-Ok.size c.in-Ok.ensures.bound c.in-Ok.ensures.bytes c.in-Ok.ensures.gives c.in-Ok.ensures.failed none (c.in-Ok.ensures.end none) short

pub returns-else-len-lt-LEAST_OF_KEY : goal.returns-else-len-lt-LEAST_OF_KEY
returns-else-len-lt-LEAST_OF_KEY g c =
    let none : c.in-Ok.size ≡ 0 = grind (arith, nat_tests, c.if-size-eq0.true) in
    let long : 16 ≤ length c.loop-size.key.items = grind (arith, nat_tests, c.if-len-lt-LEAST_OF_KEY.false, c.len.ensures.value) in
    key_whole (members g.R.Device g.R.DeviceIn) _ c.loop-size.key.items c.loop-size.input _ c.loop-size.invariant.so_far _ c.in-Ok.size c.in-Ok.ensures.bound c.in-Ok.ensures.bytes c.in-Ok.ensures.gives c.in-Ok.ensures.failed none (c.in-Ok.ensures.end none) c.loop-size.key refl long

pub loop-size-preserved : goal.loop-size-preserved
loop-size-preserved g c =
    let some : c.in-Ok.size ≢ 0 = λ e. c.if-size-eq0.false e in
    let long = length-take-le c.in-Ok.size c.get_some.new.buf c.in-Ok.ensures.bound in
    record {
      so_far = subst (λ bytes. KeySoFar (members g.R.Device g.R.DeviceIn) c.args.input.now bytes c.get_some.new.input) (sym c.in-Ok-try_extend_from_slice.ensures.ok)
          (key_goes_on (members g.R.Device g.R.DeviceIn) _ c.loop-size.key.items c.loop-size.input _ c.loop-size.invariant.so_far c.get_some.new.buf c.in-Ok.size c.in-Ok.ensures.bound c.in-Ok.ensures.bytes c.in-Ok.ensures.gives c.in-Ok.ensures.failed some
          (let room = c.in-Ok-try_extend_from_slice.ensures.variant.0 refl in omega (arith, room, long)));
    }

pub returns-in-Err-try_extend_from_slice : goal.returns-in-Err-try_extend_from_slice
returns-in-Err-try_extend_from_slice g c =
    let some : c.in-Ok.size ≢ 0 = λ e. c.if-size-eq0.false e in
    let long = length-take-le c.in-Ok.size c.get_some.new.buf c.in-Ok.ensures.bound in
    let full = is_more _ 4096 (λ room. let wrong : false ≡ true = c.in-Err-try_extend_from_slice.ensures.variant.1 room in cc) in
    key_too_long (members g.R.Device g.R.DeviceIn) _ c.loop-size.key.items c.loop-size.input _ c.loop-size.invariant.so_far c.get_some.new.buf c.in-Ok.size c.in-Ok.ensures.bound c.in-Ok.ensures.bytes c.in-Ok.ensures.gives c.in-Ok.ensures.failed some
    (omega (arith, full, long))
