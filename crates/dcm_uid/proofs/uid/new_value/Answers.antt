use Rattle.std.proofs.Common.{rules, ◌≡◌, true, false, refl}
use Rattle.dcm_uid.specs.Uid.{new_value, new_uid}
use Rattle.dcm_uid.specs.Uid as spec
use Rattle.dcm_uid.proofs.Replaced.{own, anew, none}
use Rattle.dcm_uid.proofs.uid.new_value.Goals as goal

-- it is not one UID
pub returns-then-not-is_one_uid : goal.returns-then-not-is_one_uid
unfolding new_value
returns-then-not-is_one_uid c k held =
    let b = c.without_pads-b.result.now in
    let one : spec.is_one_uid b ≡ false = search rules in
    rw (← c.without_pads-b.ensures.value) (rw (none (spec.is_one_uid b) (spec.is_standard b) b (new_uid k b) one) c.new-out.ensures)

-- the standard's own
pub returns-then-is_standard : goal.returns-then-is_standard
unfolding new_value
returns-then-is_standard c k held =
    let b = c.without_pads-b.result.now in
    let one : spec.is_one_uid b ≡ true = search rules in
    let standard : spec.is_standard b ≡ true = search rules in
    let result : c.append.new.text.items ≡ b = rw (c.append.ensures, c.new-out.ensures) refl in
    rw (← c.without_pads-b.ensures.value) (rw (own (spec.is_one_uid b) (spec.is_standard b) b (new_uid k b) one standard) result)

-- a new one
pub returns-else-is_standard : goal.returns-else-is_standard
unfolding new_value
returns-else-is_standard c k held =
    let b = c.without_pads-b.result.now in
    let one : spec.is_one_uid b ≡ true = search rules in
    let standard : spec.is_standard b ≡ false = search rules in
    let result : c.append-else-is_standard.new.text.items ≡ new_uid k b =
    rw (c.append-else-is_standard.ensures, c.as_slice.ensures.value, c.new-out.ensures, c.new_uid.ensures.value k held) refl in
    rw (← c.without_pads-b.ensures.value) (rw (anew (spec.is_one_uid b) (spec.is_standard b) b (new_uid k b) one standard) result)
