-- The heading before the dump of one of several files.
use Rattle.std.specs.Prelude.{ℕ, List, [], ◌∷◌, ◌++◌, Option, Some, None, Bool, true, false, codes, decimal}
use Rattle.dcm_names.specs.Names.{shown_name}

-- an empty line, unless it is the first heading
abbrev pub before_heading : (is_first : Bool) → List ℕ
before_heading true = []
before_heading false = 10 ∷ []

abbrev pub of_total : Option ℕ → List ℕ
of_total (Some total) = codes "/" ++ decimal total
of_total None = []

-- the number of the file's name, of how many where that is known; the name; and an empty line
abbrev pub heading : (is_first : Bool) → (number : ℕ) → (total : Option ℕ) → (name : List ℕ) → List ℕ
heading is_first number total name =
    before_heading is_first ++ (codes "# dcmdump (" ++ (decimal number ++ (of_total total ++ (codes "): "
    ++ (shown_name name ++ 10 ∷ 10 ∷ [])))))
