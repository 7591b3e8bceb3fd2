use Rattle.std.proofs.Common.{◌≡◌, ◌++◌, ℤ, Some, true, false, drop, take, ◌∙◌, sym, ap, rules, refl, append_assoc, w32}
use Rattle.std.proofs.lemmas.Int.{to_z-of_z}
use Rattle.dcm_dates.specs.DateText.{is_nothing}
use Rattle.dcm_dates.specs.Moved.{may_follow, moved_date}
use Rattle.dcm_dates.proofs.Parts.{part_is_moved}
use Rattle.dcm_dates.proofs.moving.add_part.Goals as goal

pub returns : goal.returns
returns c =
    let part = c.args.part.now in
    let days = to_z-of_z w32 c.args.days c.ranges.days in
    let some : is_nothing part ≡ false = search rules in
    let follows : may_follow c.args.kind (drop 8 part) ≡ true = rw (← c.split_at.ensures.back) (search rules) in
    let moved : moved_date c.args.days (take 8 part) ≡ Some c.in_ok-moved.moved =
    rw (← c.split_at.ensures.front) (ap (λ (z : ℤ). moved_date z c.split_at.result.0.now) (sym days) ∙ sym c.in_ok-moved.ensures) in (
      c.in_ok-moved.moved ++ drop 8 part,
      part_is_moved c.args.kind c.args.days part c.in_ok-moved.moved some follows moved,
      rw (c.append-2.ensures, c.append.ensures, c.split_at.ensures.back, append_assoc) refl,
    )
