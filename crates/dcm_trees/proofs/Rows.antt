-- A row that goes out and is flushed.
use Rattle.std.proofs.Common.{◌≡◌, ◌∙◌, refl, subst, inl, inr, ℕ, List, true, Result, Ok, Err, OnOk}
use Rattle.std.specs.Prelude.{IsErr, IsOk}
use Rattle.dcm_devices.specs.declared.device.WriteFailed.{WriteFailed}
use Rattle.dcm_devices.specs.Device.{KeepsRoom, Tells}
use Rattle.dcm_devices.specs.Writing.{Writer, Wrote}
use Rattle.dcm_walk.specs.Visits.{Named}
use Rattle.dcm_trees.specs.declared.fate.Fate.{Fate}
use Rattle.dcm_trees.specs.declared.progress.Stop.{Stop as RunStop}
use Rattle.dcm_trees.specs.File.{Manner, DoesPlaced}
use Rattle.dcm_cli.specs.Calls.{Reports}
use Rattle.dcm_trees.specs.World.{World}
use Rattle.dcm_trees.specs.Work.{PutsRow, put, not_put, not_flushed}

pub row_failed : {W E : Type 0} (w : Writer W) (text : List ℕ) (from to : W) (s : Result (Unit {0}) E) (r : Result (Unit {0}) WriteFailed) → IsErr s → Wrote w from to text s → IsErr r → PutsRow w text from r to
row_failed w text from to s (Ok x) broke wrote failed = absurd (cc)
row_failed w text from to (Ok y) (Err f) broke wrote failed = absurd (cc)
row_failed w text from to (Err e) (Err f) broke wrote failed = not_put f wrote.bytes wrote.failed refl

pub row_went : {W E : Type 0} (w : Writer W) (text : List ℕ) (from mid to : W) (s : Result (Unit {0}) E) (r : Result (Unit {0}) WriteFailed) → IsOk s → Wrote w from mid text s → w.contents to ≡ w.contents mid → OnOk r (w.is_flushed to ≡ true)
    → KeepsRoom (w.room mid) (w.room to) r → Tells (w.has_failed mid) (w.has_failed to) r → PutsRow w text from r to
row_went w text from mid to (Err e) r fine wrote bytes flushed room failed = absurd (cc)
row_went w text from mid to (Ok y) (Ok x) fine wrote bytes flushed room failed = put (bytes ∙ wrote.bytes) (failed ∙ wrote.failed) flushed refl
row_went w text from mid to (Ok y) (Err e) fine wrote bytes flushed room failed = not_flushed e (bytes ∙ wrote.bytes) failed (room.0 ∙ room.1) refl

-- a path by another form of it
pub placed_at : {S I O F E : Type 0} {w : World S I O F E} {m : Manner} {n : Named} {mode : ℕ} {from : E} {before : S} {r : Result Fate RunStop} {to : E} {after : S} (path other : List ℕ)
    → path ≡ other → DoesPlaced w m n mode path from before r to after → DoesPlaced w m n mode other from before r to after
placed_at {S} {I} {O} {F} {E} {w} {m} {n} {mode} {from} {before} {r} {to} {after} path other is does = subst (λ (p : List ℕ). DoesPlaced w m n mode p from before r to after) is does

-- where a list cannot be opened, that is told
pub told : {E : Type 0} (e : Writer E) (from to : E) (lines : List ℕ) (r : Result (Unit {0}) WriteFailed) → Wrote e from to lines r → Reports e from to lines
told e from to lines (Ok x) wrote = inl (wrote.bytes, wrote.failed)
told e from to lines (Err f) wrote = inr (wrote.bytes, wrote.failed)
