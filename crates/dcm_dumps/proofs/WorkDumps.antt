-- What the work on dumps does with files, by what goes from one file to the next.
use Rattle.std.proofs.Common.{◌≡◌, ◌∙◌, ap, subst, ℕ, List}
use Rattle.std.specs.Prelude.{Result}
use Rattle.dcm_devices.specs.declared.device.WriteFailed.{WriteFailed}
use Rattle.dcm_devices.specs.Writing.{Writer}
use Rattle.dcm_files.specs.declared.opened.Opened.{Opened}
use Rattle.dcm_files.specs.Devices.{MayDo}
use Rattle.dcm_table_words.specs.Table.{Name}
use Rattle.dcm_cli.specs.Calls.{Reader}
use Rattle.dcm_cli.specs.Change.{Change}
use Rattle.dcm_each.specs.Each.{DoesName, DoesAll}
use Rattle.dcm_each.proofs.Mapped.{all_as}
use Rattle.dcm_dumps.specs.declared.dumps.DumpWork.{DumpWork}
use Rattle.dcm_dumps.specs.Dumps.{Manner, Shown, DoesDump, dumps_into, next_number}
use Rattle.dcm_dumps.specs.Work.{manner, shown, work_of}

module _ {I W : Type 0} (r : Reader I) (w : Writer W) (m : Manner) where
  abbrev Keeps : DumpWork × W → Type 0
  Keeps x = manner x.0 ≡ m

  does_as : (name : List ℕ) (errors : Change) (from to : DumpWork × W) (before : Opened I) (result : Result ℕ WriteFailed) (after : I)
      → Keeps from → (work_of r w).does name errors from to before result after → Keeps to × (dumps_into r w m).does name errors (shown from) (shown to) before result after
  does_as name errors from to before result after keeps (does, same) =
      (same ∙ keeps, subst (λ (k : Manner). DoesDump r w k name errors (shown from) (shown to) before result after) keeps does)

  passes_as : (from to : DumpWork × W) → Keeps from → (work_of r w).passes from to → Keeps to × (dumps_into r w m).passes (shown from) (shown to)
  passes_as from to keeps (counts, same) = (same ∙ keeps, counts)

  pub dumps_done : {S O : Type 0} (may : MayDo S I O) (names : List Name) (errors : Change) (from to : DumpWork × W) (first : Shown W) (before : S) (result : Result ℕ WriteFailed) (after : S)
      → Keeps from → shown from ≡ first → DoesAll (DoesName may r (work_of r w)) names errors from to before result after → DoesAll (DoesName may r (dumps_into r w m)) names errors first (shown to) before result after
  dumps_done may names errors from to first before result after keeps begins does =
      subst (λ (x : Shown W). DoesAll (DoesName may r (dumps_into r w m)) names errors x (shown to) before result after) begins
      (all_as may r (work_of r w) (dumps_into r w m) shown Keeps does_as passes_as names errors from to before result after keeps does)
