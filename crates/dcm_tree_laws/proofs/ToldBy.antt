-- What becomes of a file whose output is free is told by its bytes.
use Rattle.std.proofs.Common.{◌≡◌, ◌∙◌, refl, sym, ap, subst, ℕ, true, None, Result, Ok}
use Rattle.std.specs.Str.{IsUtf8}
use Rattle.dcm_lemmas.proofs.Truth.{true_false}
use Rattle.dcm_devices.specs.Writing.{Writer}
use Rattle.dcm_walk.specs.Visits.{Named}
use Rattle.dcm_walk.specs.declared.visitor.What.TheVariants.{File}
use Rattle.dcm_cli.specs.Calls.{Reader}
use Rattle.dcm_trees.specs.declared.fate.Fate.{Fate}
use Rattle.dcm_trees.specs.declared.fate.Fate.TheVariants as fates
use Rattle.dcm_trees.specs.declared.file.Done.{Done}
use Rattle.dcm_trees.specs.declared.progress.Stop.{Stop as RunStop}
use Rattle.dcm_trees.specs.File as files
use Rattle.dcm_trees.specs.File.{DoesFile, DoesName}
use Rattle.dcm_trees.specs.Manner.{Manner}
use Rattle.dcm_trees.specs.World.{World}
use Rattle.dcm_tree_laws.specs.Together.{FateIsTold, end_fate}
use Rattle.dcm_tree_laws.proofs.Fates.{Fated, fated}
use Rattle.dcm_tree_laws.proofs.MadeBy.{its_own}
use Rattle.dcm_tree_laws.proofs.Stages.{of_output, idle_at, own}
use Rattle.dcm_tree_laws.proofs.Working.{whole_gives}

file_own : {S I O F E : Type 0} (w : World S I O F E) (m : Manner) (n : Named) (mode : ℕ) (from : E) (before : S) (result : Result Done RunStop) (to : E) (after : S) (done : Done) → m.keeps_names ≡ true → DoesFile w m n mode from before result to after → result ≡ Ok done → done.instance ≡ None
file_own w m n mode from before result to after done keeps (files.an_index index told is same) ok = its_own (Ok fates.MediaIndex) result done is ok
file_own w m n mode from before result to after done keeps (files.keeps_name became index kept does is) ok = its_own became result done is ok
file_own w m n mode from before result to after done keeps (files.by_instance index not does) ok = true_false m.keeps_names keeps not

pub name_own : {S I O F E : Type 0} (w : World S I O F E) (m : Manner) (n : Named) (mode : ℕ) (from : E) (before : S) (done : Done) (to : E) (after : S) → m.keeps_names ≡ true → DoesName w m n (File mode) from before (Ok done) to after → done.instance ≡ None
name_own w m n mode from before done to after keeps (files.a_file other is does) = file_own w m n other from before (Ok done) to after done keeps does refl
name_own w m n mode from before done to after keeps (files.no_file other told is same) = absurd (other mode refl)

pub by_both : (done : Done) (fate : Fate) → done.fate ≡ fate → done.instance ≡ None → done ≡ record { fate = fate; instance = None }
by_both done fate is none = ap (λ (f : Fate). record done { fate = f }) is ∙ ap (λ (i : _). record done { fate = fate; instance = i }) none

pub fate_is_told : {I O F E : Type 0} (r : Reader I) (w : Writer O) (e : Writer E) → FateIsTold F r w e
fate_is_told {I} {O} {F} r w e h m number n mode bytes from before done to after tells keeps part_is none named free does =
    let told : Fated m.task bytes done.fate = fated {F = F} h r w e (whole_gives h r w tells) m n (own h m.part m.output number part_is n.relative named.own _ (λ it. it)) (subst IsUtf8 (sym part_is) (named.parts.text number)) (of_output h r w m number part_is) named.input.text bytes mode from before done to after keeps named.no_index
    (record { file = named.input.file; bytes_are = named.input.bytes_are }) (idle_at h r w m number part_is before none) free does in
    record { end = told.end; ends = told.ends; is = by_both done (end_fate told.end) told.is (name_own _ m n mode from before done to after keeps does) }
