-- The manifest of a run over a tree.
use Rattle.std.specs.Prelude.{ℕ, List, [], ◌++◌, codes, Option, Some, None}
use Rattle.dcm_table.specs.declared.quoted.TextForm.TheVariants.{ValidUtf8}
use Rattle.dcm_table.specs.Quoted.{quoted, text_in}

abbrev pub header : List ℕ
header = codes "\"File\",\"Output\",\"Status\"\n"

-- a text of it, between quotes; bytes that are no UTF-8 are escaped
abbrev pub cell : List ℕ → List ℕ
cell text = quoted (text_in ValidUtf8 text)

-- where there is no output its cell is empty
abbrev pub output_cell : Option (List ℕ) → List ℕ
output_cell None = []
output_cell (Some output) = cell output

abbrev pub last : (word : List ℕ) → List ℕ
last word = cell word ++ codes "\n"

-- what is behind the first cell
abbrev pub rest : (output : Option (List ℕ)) → (word : List ℕ) → List ℕ
rest output word = output_cell output ++ (codes "," ++ last word)

-- the row of a name
abbrev pub row : (name : List ℕ) → (output : Option (List ℕ)) → (word : List ℕ) → List ℕ
row name output word = cell name ++ (codes "," ++ rest output word)
