use Rattle.std.proofs.Common.{◌∙◌, sym, ap, ℤ, arith, w32}
use Rattle.std.proofs.lemmas.Int.{to_z-of_z}
use Rattle.dcm_dates.specs.Moved.{all_moved}
use Rattle.dcm_dates.proofs.Parts.{moved_long, moved_some, moved_none}
use Rattle.dcm_dates.proofs.moving.moved.Goals as goal

pub returns-then-text-gt-MOST_HELD : goal.returns-then-text-gt-MOST_HELD
returns-then-text-gt-MOST_HELD c =
    c.new-out.ensures ∙ sym (moved_long c.args.kind c.args.days c.args.text.now (omega (arith, c.if-text-gt-MOST_HELD.true)))

pub returns-in-Some : goal.returns-in-Some
returns-in-Some c =
    let days = to_z-of_z w32 c.args.days c.ranges.days in
    c.in-Some.ensures.2 ∙ sym (moved_some c.args.kind c.args.days c.args.text.now c.in-Some.ensures.0 (omega arith)
    (ap (λ (z : ℤ). all_moved c.args.kind z c.args.text.now) (sym days) ∙ c.in-Some.ensures.1))

pub returns-in-None : goal.returns-in-None
returns-in-None c =
    let days = to_z-of_z w32 c.args.days c.ranges.days in
    c.new.ensures ∙ sym (moved_none c.args.kind c.args.days c.args.text.now (omega arith)
    (ap (λ (z : ℤ). all_moved c.args.kind z c.args.text.now) (sym days) ∙ c.in-None.ensures))
