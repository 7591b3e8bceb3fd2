-- The lines of a file's head.
use Rattle.std.specs.Prelude.{◌≡◌, ℕ, List, ◌++◌, length, Result}
use Rattle.dcm_base.specs.declared.form.Form.TheVariants.{Value as a_value}
use Rattle.dcm_base.specs.declared.length.Length.TheVariants.{Known}
use Rattle.dcm_base.specs.declared.mode.Mode.{Mode}
use Rattle.dcm_base.specs.Tables.Syntax.{Little}
use Rattle.dcm_base.specs.Dump.Dump.{leaf_line}
use Rattle.dcm_base.specs.Dump.Header.{meta_header, set_header}
use Rattle.dcm_base.specs.Steps.Outputs.{Puts, Tells, Writer}
use Rattle.dcm_base.specs.Bytes.Spelling.{form}
use Rattle.dcm_base.specs.Tree.Tree.{Trees}
use Rattle.dcm_base.specs.declared.dictionary.Dictionary.{Dictionary}
use Rattle.dcm_head.specs.MetaReading.{Reading, group_of, uid_of}
use Rattle.dcm_head.specs.Rewriting.{WroteElements}
use Rattle.dcm_head.specs.declared.element.MetaElement.{MetaElement}

-- an element of the meta group that is no sequence
abbrev pub IsValue : MetaElement → Type 0
IsValue e = form Little e.vr (Known (length e.value.now)) ≡ a_value

-- its line
abbrev pub meta_line : Dictionary → Mode → MetaElement → List ℕ
meta_line d mode e = leaf_line d mode 0 e.tag e.vr e.value.now

-- all that comes before the lines of the data set
abbrev pub file_header : Dictionary → Mode → Trees → List ℕ → List ℕ
file_header d mode elements uid = meta_header d mode elements ++ set_header uid

-- the line went out where there is one, or a beginning of it where the call failed; and the writer has failed exactly
-- where the call did
pub record WroteLine {W T E : Type 0} (w : Writer W) (old new : W) (d : Dictionary) (mode : Mode) (e : MetaElement)
    (r : Result T E) : Type 0 where
  pub bytes : IsValue e → Puts w old new (meta_line d mode e) r
  pub failed : Tells w old new r

-- the same of all that comes before the lines of the data set
abbrev pub WroteHeader : {W T E : Type 0} → Writer W → (old new : W) → Dictionary → Mode → Reading → Result T E
    → Type 0
WroteHeader w old new d mode meta r =
    WroteElements w old new (group_of meta) (λ elements. file_header d mode elements (uid_of meta)) r
