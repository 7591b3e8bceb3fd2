use Rattle.std.proofs.Common.{arith, ◌≡◌, ◌^◌, length, map}
use Rattle.std.proofs.Math.Nat.{div-le_self}
use Rattle.dcm_edits.specs.Meaning.{edit_of}
use Rattle.dcm_editor.proofs.Masks.Skips.{lacking_skips, size_of_map}
use Rattle.dcm_editor.proofs.mask.rest_of.Goals as goal

pub returns-clause-skips : goal.returns-clause-skips
returns-clause-skips g c =
    let few = c.min-skipped.ensures in
    let small = c.ranges.mask.fits in
    let less = div-le_self c.args.mask (2 ^ c.args.place) in
    lacking_skips edit_of c.args.mask c.args.place c.min-skipped.result c.args.edits.now c.split_at.result.1.now (omega (arith, small, less)) (omega (arith, few)) (let same : length (map edit_of c.args.edits.now) ≡ length c.args.edits.now = size_of_map edit_of c.args.edits.now in omega (arith, few, same)) c.split_at.ensures.back
