use Rattle.std.proofs.Common.{◌≡◌, ◌∙◌, ap, ◌+◌, ◌-◌, ◌≤◌, ◌<◌, ℕ, List, ◌++◌, length, take, arith}
use Rattle.dcm_lemmas.proofs.Options.{on_ok}
use Rattle.dcm_names.proofs.Kept.{all_kept, as_long, front_kept, longer_now}
use Rattle.dcm_names.proofs.list.OpenLine.keep.Goals as goal

pub returns-then-bytes-room : goal.returns-then-bytes-room
returns-then-bytes-room c = λ line held.
    let kept : List ℕ = c.args.self.now.kept.items in
    let bytes : List ℕ = c.args.bytes.now in
    let room : length kept + length bytes ≤ 4096 = omega (arith, c.if-bytes-room.true, c.len-room.ensures.value, c.len-room.ensures.fits) in
    record {
      kept = on_ok _ (c.try_extend_from_slice.ensures.variant.1 room) c.try_extend_from_slice.ensures.ok ∙ all_kept 4096 kept line bytes held.kept room;
      longer = held.longer ∙ as_long 4096 kept line bytes held.kept room;
    }

pub returns : goal.returns
returns c = λ line held.
    let kept : List ℕ = c.args.self.now.kept.items in
    let bytes : List ℕ = c.args.bytes.now in
    let over : 4096 < length kept + length bytes = omega (arith, c.if-bytes-room.false, c.len-room.ensures.value) in
    let size = c.split_at.ensures.front_len in
    let room : length kept + length c.split_at.result.0.now ≤ 4096 = omega (arith, size, c.len-room.ensures.value, c.len-room.ensures.fits) in
    let front : c.split_at.result.0.now ≡ take (4096 - length kept) bytes = c.split_at.ensures.front ∙ ap (λ n. take (4096 - n) bytes) c.len-room.ensures.value in
    record {
      kept = on_ok _ (c.try_extend_from_slice-2.ensures.variant.1 room) c.try_extend_from_slice-2.ensures.ok ∙ ap (λ l. kept ++ l) front ∙ front_kept 4096 kept line bytes held.kept;
      longer = longer_now 4096 kept line bytes held.kept over;
    }
