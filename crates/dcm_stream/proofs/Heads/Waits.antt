-- A head that more bytes are wanted for is short.
use Rattle.std.proofs.Common.{◌≡◌, ap, subst, refl, ℕ, ◌+◌, ◌<◌, List, length, Option, Some, None, false}
use Rattle.dcm_base.specs.declared.fault.Fault.TheVariants.{EndsEarly}
use Rattle.dcm_base.specs.declared.level.Level.{Level}
use Rattle.dcm_base.specs.declared.tag.Tag.{Tag}
use Rattle.dcm_base.specs.declared.vr.Vr.{Vr}
use Rattle.dcm_base.specs.declared.length.Length.{Length}
use Rattle.dcm_base.specs.Reading.Stop.{refused, place_stop, is_undecided, is_early_bar}
use Rattle.dcm_head.specs.declared.head.Head.{Head}
use Rattle.dcm_stream.specs.declared.token.Bar.{Bar}
use Rattle.dcm_stream.specs.declared.token.Bar.TheVariants.{Order, Fragments, Identity, Patient}
use Rattle.dcm_stream.specs.declared.judge.Judged.{Judged}
use Rattle.dcm_stream.specs.declared.judge.Judged.TheVariants as judge
use Rattle.dcm_stream.specs.Judging.{bars_head, Judges}
use Rattle.dcm_stream.proofs.Heads.Stops.{place_short}

bar_not_early : {S : Type 0} (bars : S → Head → Option Bar) (s : S) (o : Option Bar) (tag : Tag) (vr : Vr) (l : Length) → bars s (record { tag = tag; vr = vr; length = l }) ≡ o → is_early_bar (bars_head bars s tag vr l) ≡ false
bar_not_early bars s None tag vr l e = rw e refl
bar_not_early bars s (Some Order) tag vr l e = rw e refl
bar_not_early bars s (Some Fragments) tag vr l e = rw e refl
bar_not_early bars s (Some Identity) tag vr l e = rw e refl
bar_not_early bars s (Some Patient) tag vr l e = rw e refl

-- no sink's bar is an early end
pub sinks_never_early : {S : Type 0} (bars : S → Head → Option Bar) (s : S) (tag : Tag) (vr : Vr) (l : Length) → is_early_bar (bars_head bars s tag vr l) ≡ false
sinks_never_early bars s tag vr l = bar_not_early bars s (bars s (record { tag = tag; vr = vr; length = l })) tag vr l refl

pub waits_short : {S : Type 0} (bars : S → Head → Option Bar) (s : S) (inner : Level) (around : List Level) (position : ℕ) (bytes : List ℕ)
    → place_stop (bars_head bars s) inner around position bytes ≡ Some (refused EndsEarly (position + length bytes)) → length bytes < 12
waits_short bars s inner around position bytes e = (place_short (bars_head bars s) inner around position bytes (sinks_never_early bars s) (ap is_undecided e)).small

pub judged_short : {S : Type 0} (bars : S → Head → Option Bar) (s : S) (inner : Level) (around : List Level) (position : ℕ) (bytes : List ℕ) (r : Judged)
    → r ≡ judge.More → Judges (bars_head bars s) inner around position bytes r → length bytes < 12
judged_short bars s inner around position bytes r e h = waits_short bars s inner around position bytes (subst (Judges (bars_head bars s) inner around position bytes) e h)
