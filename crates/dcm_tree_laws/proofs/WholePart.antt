-- The part of a run, when it is whole, before it gets a name.
use Rattle.std.proofs.Common.{◌≡◌, refl, inl, ℕ, List, [], Some, None}
use Rattle.dcm_files.specs.declared.folders.Found.{Found}
use Rattle.dcm_files.specs.declared.folders.FoundKind.TheVariants.{File}
use Rattle.dcm_tree_laws.specs.FileSystem.{FileSystem, Host, Tree, number_of, at_path}
use Rattle.dcm_tree_laws.proofs.Near.{IsNear, Stays}
use Rattle.dcm_tree_laws.proofs.Both.{Both}
use Rattle.dcm_tree_laws.proofs.Forgets.{after_any, with_past, steps_past}
use Rattle.dcm_tree_laws.proofs.StaysBy.{Keeps, each_keeps}
use Rattle.dcm_tree_laws.proofs.Steps.{Phase, idle, whole, Step, Steps, goes_on, all_keep}
use Rattle.dcm_tree_laws.proofs.WholeBy.{Holds, each_holds, no_folder}

-- a whole part, on the way from a state in which nothing was written
pub record IsReady {I O : Type 0} (h : Host I O) (IsWhole : ℕ → List ℕ → Type 0) (part output bytes : List ℕ) (start s : FileSystem) : Type 0 where
  pub none : start.written ≡ None
  pub of_output : IsNear output part
  pub steps : Steps h IsWhole part output idle start (whole bytes) s

-- its file
pub record Ready {I O : Type 0} (h : Host I O) (IsWhole : ℕ → List ℕ → Type 0) (part : List ℕ) (t : Tree) : Type 0 where
  pub file : Found
  pub is : at_path h t part ≡ Some file
  pub kind : file.kind ≡ File
  pub done : IsWhole file.mode (t.bytes (number_of file))

pub ready : {I O : Type 0} {h : Host I O} {IsWhole : ℕ → List ℕ → Type 0} {part output bytes : List ℕ} {start s : FileSystem} → IsReady h IsWhole part output bytes start s → Ready h IsWhole part s.now
ready {I} {O} {h} {IsWhole} {part} {output} {bytes} {start} {s} r =
    let x : (past : _) × Both h IsWhole part output start.now (whole bytes) (with_past past s) = after_any h IsWhole part output start r.none r.of_output (whole bytes) s r.steps in
    record { file = x.1.holds.part_at.has.file; is = x.1.holds.part_at.has.is; kind = x.1.holds.part_at.has.kind; done = x.1.holds.part_at.done }

pub then_steps : {I O : Type 0} {h : Host I O} {IsWhole : ℕ → List ℕ → Type 0} {part output bytes : List ℕ} {start s t : FileSystem} → IsReady h IsWhole part output bytes start s → Steps h IsWhole part output (whole bytes) s (whole bytes) t
    → IsReady h IsWhole part output bytes start t
then_steps r more = record { none = r.none; of_output = r.of_output; steps = goes_on r.steps more }

-- ---- what was there is there

pub stays_since : {I O : Type 0} {h : Host I O} {IsWhole : ℕ → List ℕ → Type 0} {part output bytes : List ℕ} {start s : FileSystem} → IsReady h IsWhole part output bytes start s → Stays h part output start.now s.now
stays_since {I} {O} {h} {IsWhole} {part} {output} {bytes} {start} {s} r =
    let x : (past : _) × Both h IsWhole part output start.now (whole bytes) (with_past past s) = after_any h IsWhole part output start r.none r.of_output (whole bytes) s r.steps in
    x.1.keeps.stays

-- since a state in which the part was whole, too
record Since {I O : Type 0} (h : Host I O) (IsWhole : ℕ → List ℕ → Type 0) (part output : List ℕ) (start whole_at : Tree) (at : Phase) (s : FileSystem) : Type 0 where
  keeps : Keeps h part (IsNear output) whole_at at s
  holds : Holds h IsWhole part start at s

each_since : {I O : Type 0} (h : Host I O) (IsWhole : ℕ → List ℕ → Type 0) (part output : List ℕ) (start whole_at : Tree) → IsNear output part → (at : Phase) (before : FileSystem) (then : Phase) (after : FileSystem)
    → Step h IsWhole part output at before then after → Since h IsWhole part output start whole_at at before → Since h IsWhole part output start whole_at then after
each_since h IsWhole part output start whole_at of_output at before then after step x = record {
  keeps = each_keeps h IsWhole part (IsNear output) whole_at of_output at before then after (λ rest other. no_folder h IsWhole part start at before x.holds rest other) step x.keeps;
  holds = each_holds h IsWhole part (IsNear output) start at before then after step x.holds;
}

pub stays_then : {I O : Type 0} {h : Host I O} {IsWhole : ℕ → List ℕ → Type 0} {part output bytes : List ℕ} {start s : FileSystem} (then : Phase) (after : FileSystem) → IsReady h IsWhole part output bytes start s → Steps h IsWhole part output (whole bytes) s then after
    → Stays h part output s.now after.now
stays_then {I} {O} {h} {IsWhole} {part} {output} {bytes} {start} {s} then after r steps =
    let x : (past : _) × Both h IsWhole part output start.now (whole bytes) (with_past past s) = after_any h IsWhole part output start r.none r.of_output (whole bytes) s r.steps in
    let y : (more : _) × Steps h IsWhole part output (whole bytes) (with_past [] s) then (with_past more after) = steps_past [] steps in
    (all_keep (Since h IsWhole part output start.now s.now) (each_since h IsWhole part output start.now s.now r.of_output) (whole bytes) (with_past [] s) then (with_past y.0 after) y.1 (record {
      keeps = record { stays = record { there = λ p f other is. is; bytes = λ p f other is. refl; new = λ p. inl refl }; earlier = tt; quiet = x.1.keeps.quiet };
      holds = record { none_half = x.1.holds.none_half; earlier = tt; part_at = record { has = x.1.holds.part_at.has; done = x.1.holds.part_at.done } };
    })).keeps.stays
