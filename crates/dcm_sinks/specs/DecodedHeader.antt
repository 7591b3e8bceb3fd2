-- What stands before the lines of a dump whose texts are shown by characters: all of it is read by the empty value.
use Rattle.std.specs.Prelude.{List, ℕ, [], ◌∷◌, ◌++◌, codes, Result}
use Rattle.std.specs.Option.{option_map_or}
use Rattle.dcm_base.specs.declared.dictionary.Dictionary.{Dictionary}
use Rattle.dcm_base.specs.declared.mode.Mode.{Mode}
use Rattle.dcm_base.specs.Steps.Outputs.{Puts, Tells, Writer}
use Rattle.dcm_base.specs.Tables.Uid.{uid_name}
use Rattle.dcm_base.specs.Tree.Tree.{Trees}
use Rattle.dcm_head.specs.MetaReading.{Reading, group_of, uid_of}
use Rattle.dcm_head.specs.Rewriting.{WroteElements}
use Rattle.dcm_head.specs.declared.element.MetaElement.{MetaElement}
use Rattle.dcm_text.specs.declared.set.TextKind.TheVariants.{OneValue}
use Rattle.dcm_text.specs.Shown.{dumped}
use Rattle.dcm_sinks.specs.InForce.{EMPTY}
use Rattle.dcm_sinks.specs.DecodedDump.{decoded_line, decoded_set}
use Rattle.dcm_sinks.specs.MetaLines.{IsValue}

-- a transfer syntax by its name, or its unique identifier, whose bytes from 80 on have no character
abbrev pub decoded_syntax_name : List ℕ → List ℕ
decoded_syntax_name uid = option_map_or (λ name. name) (uid_name uid) (dumped EMPTY OneValue uid)

-- its line
abbrev pub used_syntax : List ℕ → List ℕ
used_syntax uid = codes "# Used TransferSyntax: " ++ decoded_syntax_name uid ++ 10 ∷ []

-- the header of the lines of a file's data set
abbrev pub decoded_set_header : List ℕ → List ℕ
decoded_set_header uid = codes "# Dicom-Data-Set" ++ 10 ∷ [] ++ used_syntax uid

-- of a data set alone; the first line of a dump says that texts are shown as characters
abbrev pub decoded_alone_header : List ℕ → List ℕ
decoded_alone_header uid = codes "# Dicom-Data-Set (texts in UTF-8)" ++ 10 ∷ [] ++ used_syntax uid

-- the header of a file's lines, and its meta elements
abbrev pub decoded_meta_header : Dictionary → Mode → Trees → List ℕ
decoded_meta_header d mode elements =
    codes "# Dicom-File-Format (texts in UTF-8)" ++ 10 ∷ 10 ∷ [] ++ codes "# Dicom-Meta-Information-Header" ++ 10 ∷ []
    ++ codes "# Used TransferSyntax: LittleEndianExplicit" ++ 10 ∷ [] ++ decoded_set d mode EMPTY 0 elements ++ 10 ∷ []

-- all that comes before the lines of the data set
abbrev pub decoded_header : Dictionary → Mode → Trees → List ℕ → List ℕ
decoded_header d mode elements uid = decoded_meta_header d mode elements ++ decoded_set_header uid

-- the line of an element of the meta group
abbrev pub decoded_meta_line : Dictionary → Mode → MetaElement → List ℕ
decoded_meta_line d mode e = decoded_line d mode EMPTY 0 e.tag e.vr e.value.now

-- the line went out where there is one, or a beginning of it where the call failed; and the writer has failed exactly
-- where the call did
pub record WroteDecodedLine {W T E : Type 0} (w : Writer W) (old new : W) (d : Dictionary) (mode : Mode)
    (e : MetaElement) (r : Result T E) : Type 0 where
  pub bytes : IsValue e → Puts w old new (decoded_meta_line d mode e) r
  pub failed : Tells w old new r

-- the same of all that comes before the lines of the data set
abbrev pub WroteDecodedHeader : {W T E : Type 0} → Writer W → (old new : W) → Dictionary → Mode → Reading → Result T E
    → Type 0
WroteDecodedHeader w old new d mode meta r =
    WroteElements w old new (group_of meta) (λ elements. decoded_header d mode elements (uid_of meta)) r
