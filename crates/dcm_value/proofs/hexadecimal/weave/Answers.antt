use Rattle.std.proofs.Common.{arith, ◌≡◌, length, ℕ, refl}
use Rattle.dcm_value.specs.declared.hexadecimal.TheConstants.{BYTES, BIG_PAIRS, LITTLE_PAIRS, BIG_FOURS, LITTLE_FOURS, BIG_EIGHTS, LITTLE_EIGHTS}
use Rattle.dcm_value.proofs.UnitOrder.Woven.{woven_by, weaves_big_pairs, weaves_little_pairs, weaves_big_fours, weaves_little_fours, weaves_big_eights, weaves_little_eights, weaves_bytes}
use Rattle.dcm_value.proofs.hexadecimal.weave.Goals.{in-2-true, in-2-false, in-4-true, in-4-false, in-8-true, in-8-false, in_default}
use Rattle.dcm_value.proofs.hexadecimal.weave.Goals as goal

pub returns : goal.returns
returns c =
    let size : ℕ = c.args.size in
    let v = c.args.bytes in
    let long : length v ≡ 16 = c.fits-bytes.0 in
    let shown = c.digits_of-digits.ensures in
    elim c.match-size.branch [
      | in-2-true w ↦ woven_by LITTLE_PAIRS size c.args.is_turned _ v _ weaves_little_pairs (omega arith) w.in-2-true.is-1 long shown w.result-is
      | in-2-false w ↦ woven_by BIG_PAIRS size c.args.is_turned _ v _ weaves_big_pairs (omega arith) w.in-2-false.is-1 long shown w.result-is
      | in-4-true w ↦ woven_by LITTLE_FOURS size c.args.is_turned _ v _ weaves_little_fours (omega arith) w.in-4-true.is-1 long shown w.result-is
      | in-4-false w ↦ woven_by BIG_FOURS size c.args.is_turned _ v _ weaves_big_fours (omega arith) w.in-4-false.is-1 long shown w.result-is
      | in-8-true w ↦ woven_by LITTLE_EIGHTS size c.args.is_turned _ v _ weaves_little_eights (omega arith) w.in-8-true.is-1 long shown w.result-is
      | in-8-false w ↦ woven_by BIG_EIGHTS size c.args.is_turned _ v _ weaves_big_eights (omega arith) w.in-8-false.is-1 long shown w.result-is
      | in_default w ↦ let others = w.in_default.is-0 in woven_by BYTES size c.args.is_turned _ v _ (weaves_bytes c.args.is_turned) (omega arith) refl long shown w.result-is
    ]
