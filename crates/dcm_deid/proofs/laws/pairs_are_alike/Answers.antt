use Rattle.std.proofs.Common.{◌∙◌}
use Rattle.dcm_deid.specs.Fate.{fate_as}
use Rattle.dcm_deid.specs.MadeNew.{left_of}
use Rattle.dcm_deid.specs.Alike.{moving, value_left}
use Rattle.dcm_deid.proofs.Trees.Again.{by_same_fates, same_fates}
use Rattle.dcm_deid.proofs.Trees.Paired.{same_left}
use Rattle.dcm_deid.proofs.Trees.Vanished.{same_vanished, vanished_by_same}
use Rattle.dcm_deid.proofs.laws.pairs_are_alike.Goals as goal

pub returns : goal.returns
returns c = λ options depth d e f g pairs. record {
  same_left = same_left (left_of (moving options d)) (left_of (moving options e)) (fate_as (moving options d)) depth f g pairs
      ∙ by_same_fates (fate_as (moving options d)) (fate_as (moving options e)) (value_left (left_of (moving options e))) (same_fates options d e) depth g;
  same_vanished = same_vanished (left_of (moving options d)) (left_of (moving options e)) (fate_as (moving options d)) depth f g pairs
      ∙ vanished_by_same (fate_as (moving options d)) (fate_as (moving options e)) (left_of (moving options e)) (same_fates options d e) depth g;
}
