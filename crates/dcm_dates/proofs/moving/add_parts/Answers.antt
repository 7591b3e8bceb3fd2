use Rattle.std.proofs.Common.{◌≡◌, ◌+◌, ◌++◌, ◌∷◌, [], List, ℕ, ℤ, Some, None, Option, length, drop, take, ◌∙◌, sym, ap, arith, length-append, w32, drop-drop, of_z, to_z}
use Rattle.std.specs.Prelude.{◌==◌}
use Rattle.std.proofs.lemmas.Int.{to_z-of_z}
use Rattle.dcm_dates.specs.Moved.{all_moved, moved_part}
use Rattle.dcm_dates.proofs.Places.{found}
use Rattle.dcm_dates.proofs.Parts.{all_first, all_last, behind, took, failed, ends, fails, part_length}
use Rattle.dcm_dates.proofs.moving.add_parts.Goals as goal

pub returns-in_err-add_part : goal.returns-in_err-add_part
returns-in_err-add_part c =
    let z = to_z w32 (of_z w32 c.args.days) in
    let days : z ≡ c.args.days = to_z-of_z w32 c.args.days c.ranges.days in
    let rest : List ℕ = c.loop-at.rest.now in
    let others : Option (List ℕ) = all_moved c.args.kind z (drop (c.in-Some.at + 1) rest) in
    let first = all_first c.args.kind z rest c.in-Some.at (sym c.in-Some.ensures) in
    let part : moved_part c.args.kind z (take c.in-Some.at rest) ≡ None = ap (moved_part c.args.kind z) (sym c.split_at.ensures.front) ∙ c.in_err-add_part.ensures in
    let whole = c.loop-at.invariant.same ∙ ap (behind c.loop-at.out.items) first in
    let none = failed (all_moved c.args.kind z c.args.text.now) (moved_part c.args.kind z (take c.in-Some.at rest)) others c.loop-at.out.items whole part in
    fails (all_moved c.args.kind c.args.days c.args.text.now) c.add_part.new.out.items c.from_residual.result c.from_residual.ensures (ap (λ (d : ℤ). all_moved c.args.kind d c.args.text.now) (sym days) ∙ none)

pub append-requires : goal.append-requires
append-requires c =
    let part = c.in_ok-add_part.ensures in
    let same = part_length c.args.kind _ c.split_at.result.0.now part.0 part.1 in
    let place = found (λ b. b == 92) c.loop-at.rest.now c.in-Some.at (sym c.in-Some.ensures) in
    omega (arith, ap length part.2, length-append c.loop-at.out.items part.0, same, place.1, c.split_at.ensures.front_len, c.split_at.ensures.back_len)

pub loop-at-preserved : goal.loop-at-preserved
loop-at-preserved c =
    let z = to_z w32 (of_z w32 c.args.days) in
    let rest : List ℕ = c.loop-at.rest.now in
    let added = c.in_ok-add_part.ensures in
    let size = part_length c.args.kind z c.split_at.result.0.now added.0 added.1 in
    let next : drop (c.in-Some.at + 1) rest ≡ c.split_at-in-Some.result.1.now = sym (c.split_at-in-Some.ensures.back ∙ ap (drop 1) c.split_at.ensures.back ∙ drop-drop 1 c.in-Some.at rest) in
    let first = all_first c.args.kind z rest c.in-Some.at (sym c.in-Some.ensures) in
    let part : moved_part c.args.kind z (take c.in-Some.at rest) ≡ Some added.0 = ap (moved_part c.args.kind z) (sym c.split_at.ensures.front) ∙ added.1 in
    let whole = c.loop-at.invariant.same ∙ ap (behind c.loop-at.out.items) first in
    let out : c.append.new.text.items ≡ (c.loop-at.out.items ++ added.0) ++ 92 ∷ [] = c.append.ensures ∙ ap (λ (l : List ℕ). l ++ 92 ∷ []) added.2 in
    record {
      same = took (all_moved c.args.kind z c.args.text.now) (moved_part c.args.kind z (take c.in-Some.at rest)) (all_moved c.args.kind z (drop (c.in-Some.at + 1) rest)) c.loop-at.out.items added.0 whole part
          ∙ ap (λ (l : List ℕ). behind l (all_moved c.args.kind z (drop (c.in-Some.at + 1) rest))) (sym out)
          ∙ ap (λ (l : List ℕ). behind c.append.new.text.items (all_moved c.args.kind z l)) next;
      size = omega (arith, ap length c.append.ensures, length-append c.add_part.new.out.items (92 ∷ []), ap length added.2, length-append c.loop-at.out.items added.0, size, c.split_at.ensures.front_len, c.split_at.ensures.back_len, c.split_at-in-Some.ensures.back_len);
    }

pub returns : goal.returns
returns c =
    let z = to_z w32 (of_z w32 c.args.days) in
    let days : z ≡ c.args.days = to_z-of_z w32 c.args.days c.ranges.days in
    let rest : List ℕ = c.loop-at.rest.now in
    let last = all_last c.args.kind z rest (sym c.backslash.ensures ∙ c.in_default.is) in
    let whole = ap (λ (d : ℤ). all_moved c.args.kind d c.args.text.now) (sym days) ∙ c.loop-at.invariant.same ∙ ap (behind c.loop-at.out.items) last in
    ends (all_moved c.args.kind c.args.days c.args.text.now) (moved_part c.args.kind z rest) c.loop-at.out.items c.add_part-2.new.out.items c.add_part-2.result whole c.add_part-2.ensures
