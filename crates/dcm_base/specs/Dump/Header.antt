-- What stands before the lines of a dump.
use Rattle.std.specs.Prelude.{List, ℕ, [], ◌∷◌, ◌++◌, ◌==◌, if◌then◌else◌, codes, flat_map}
use Rattle.std.specs.Option.{option_map_or}
use Rattle.std.specs.Str.{byte}
use Rattle.dcm_base.specs.declared.mode.Mode.{Mode}
use Rattle.dcm_base.specs.Tree.Tree.{Trees}
use Rattle.dcm_base.specs.Tables.Uid.{uid_name}
use Rattle.dcm_base.specs.Dump.ValueText as text
use Rattle.dcm_base.specs.Dump.Dump.{dump_set}
use Rattle.dcm_base.specs.declared.dictionary.Dictionary.{Dictionary}

-- a byte of a unique identifier; a closing parenthesis, which none has (PS3.5 9.1), is escaped too, so that no line of a
-- header says that texts are shown as characters
abbrev pub identifier_byte : ℕ → List ℕ
identifier_byte b = if b == byte ")" then codes "%29" else text.escape b

-- a transfer syntax by its name, or its unique identifier
abbrev pub syntax_name : List ℕ → List ℕ
syntax_name uid = option_map_or (λ name. name) (uid_name uid) (flat_map identifier_byte uid)

-- the header of a data set's lines
abbrev pub set_header : List ℕ → List ℕ
set_header uid = codes "# Dicom-Data-Set" ++ 10 ∷ [] ++ codes "# Used TransferSyntax: " ++ syntax_name uid ++ 10 ∷ []

-- the header of a file's lines, and its meta elements
abbrev pub meta_header : Dictionary → Mode → Trees → List ℕ
meta_header d mode elements =
    codes "# Dicom-File-Format" ++ 10 ∷ 10 ∷ [] ++ codes "# Dicom-Meta-Information-Header" ++ 10 ∷ []
    ++ codes "# Used TransferSyntax: LittleEndianExplicit" ++ 10 ∷ [] ++ dump_set d mode 0 elements ++ 10 ∷ []
