-- The files of names over files in memory.
use Rattle.std.specs.Prelude.{◌≤◌, ℕ, List, [], ◌∷◌, length, Option, None, IfSome, if◌then◌else◌}
use Rattle.dcm_files.specs.declared.memory.MemSystem.{MemSystem}
use Rattle.dcm_names.specs.Names.{can_be_opened}
use Rattle.dcm_names.specs.Reader.{READ_LIMIT}
use Rattle.dcm_table_words.specs.Table.{Name, file, list}
use Rattle.dcm_cli.specs.InMemory.{bytes_at}

-- the bytes of the file of a name, at a path: none where it cannot be opened
abbrev pub file_of : MemSystem → (name path : List ℕ) → Option (List ℕ)
file_of s name path = if can_be_opened name then bytes_at s path else None

-- a list among the words has at most as many bytes as are read of one
abbrev pub IsReadWhole : MemSystem → Name → Type 0
IsReadWhole s (file path) = Unit {0}
IsReadWhole s (list path) = IfSome (file_of s path path) (λ bytes. length bytes ≤ READ_LIMIT)

abbrev pub AreReadWhole : MemSystem → List Name → Type 0
AreReadWhole s [] = Unit {0}
AreReadWhole s (name ∷ names) = IsReadWhole s name × AreReadWhole s names
