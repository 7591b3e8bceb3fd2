-- What the making of a table comes to.
use Rattle.std.proofs.Common.{◌≡◌, List, ℕ, Some, subst}
use Rattle.dcm_devices.specs.Writing.{Writer}
use Rattle.dcm_cli.specs.Change.{Change}
use Rattle.dcm_cli.specs.Calls.{Reader}
use Rattle.dcm_files.specs.Devices.{MayDo}
use Rattle.dcm_tables.specs.TableProgram.{ObeysAny, Starts, TreeRuns, obeyed}

-- what is so of columns, a form and a result is so of the same ones by other names
pub alike : {A B C : Type 0} (P : A → B → C → Type 0) {a b : A} {f h : B} {r s : C} → a ≡ b → f ≡ h → r ≡ s → P a f r → P b h s
alike P {b = b} {f = f} {h = h} {r = r} {s = s} same form result holds =
    subst (λ z. P b h z) result (subst (λ y. P b y r) form (subst (λ x. P x f r) same holds))

-- words that the system gave were obeyed, lent
pub started : {S I O : Type 0} (may : MayDo S I O) (r : Reader I) (w : Writer O) (Trees : TreeRuns S) (e : Change) (old mid new : S) (status : ℕ) (words views : List (List ℕ)) → may.words old (Some words) mid → views ≡ words
    → ObeysAny may r w Trees views e mid status new → Starts may r w Trees e old status new
started may r w Trees e old mid new status words views gave same obeys = obeyed words mid gave (subst (λ (ws : List (List ℕ)). ObeysAny may r w Trees ws e mid status new) same obeys)
