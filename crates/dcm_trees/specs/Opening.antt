-- The opening of a file of a tree.
use Rattle.std.specs.Prelude.{◌≡◌, ◌≢◌, ℕ, List, Option, Some, None, Ok, Err}
use Rattle.std.specs.Str.{IsUtf8}
use Rattle.std.specs.declared.io.Error.{Error}
use Rattle.dcm_files.specs.Devices.{MayDo}
use Rattle.dcm_files.specs.declared.opened.Opened.{Opened}
use Rattle.dcm_files.specs.declared.opened.FileKind.TheVariants.{Directory}

-- a file is opened; a folder in its place is given back
pub data OpensFile {S I O : Type 0} (may : MayDo S I O) (path : List ℕ) (before : S) (input : Option I) (after : S)
    : Type 0 where
  no_text : ¬ (IsUtf8 path) → input ≡ None → after ≡ before → OpensFile may path before input after
  not_opened : (e : Error) → IsUtf8 path → may.opens before path (Err e) after → input ≡ None
      → OpensFile may path before input after
  a_folder : (o : Opened I) (has_opened : S) → IsUtf8 path → may.opens before path (Ok o) has_opened
      → o.kind ≡ Directory → may.releases has_opened o.device after → input ≡ None
      → OpensFile may path before input after
  opened : (o : Opened I) → IsUtf8 path → may.opens before path (Ok o) after → o.kind ≢ Directory
      → input ≡ Some o.device → OpensFile may path before input after
