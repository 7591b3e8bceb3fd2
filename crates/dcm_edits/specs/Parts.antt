-- The parts of paths as the program holds them.
use Rattle.std.specs.Prelude.{ℕ, suc, List, [], ◌∷◌, length, nat_le, Option, Some, None, option_map, ◌==◌}
use Rattle.std.specs.Prelude.{if◌then◌else◌, bytes_eq}
use Rattle.std.specs.List.{slice_split}
use Rattle.std.specs.Str.{byte}
use Rattle.dcm_edits.specs.declared.path.Name.{Name}
use Rattle.dcm_edits.specs.declared.path.Name.TheVariants.{Number, Keyword}
use Rattle.dcm_edits.specs.declared.path.Part.{Part}
use Rattle.dcm_edits.specs.Edit.{Index}
use Rattle.dcm_edits.specs.EditWords as words
use Rattle.dcm_edits.specs.Meaning.{index_of}

abbrev pub name_as : Name → words.TagName
name_as (Number tag) = words.by_number tag
name_as (Keyword word) = words.by_keyword word.now

abbrev pub part_as : Part → words.PathPart
part_as p = record { name = name_as p.name; index = option_map index_of p.index }

-- an index that a bracket ends, and with it the part
abbrev pub index_in : List ℕ → Option Index
index_in inside =
    let k = words.cut_at (byte "]") inside in
    elim k.after [ None ↦ None | Some rest ↦ (if bytes_eq rest [] then words.index_of k.before else None) ]

-- the parts of a path that an edit may have at most
abbrev pub PART_LIMIT : ℕ
PART_LIMIT = 65

abbrev pub unless_many : List words.PathPart → Option (List words.PathPart)
unless_many ms = if nat_le (length ms) PART_LIMIT then Some ms else None

abbrev pub few : Option (List words.PathPart) → Option (List words.PathPart)
few None = None
few (Some ms) = unless_many ms

abbrev pub path_parts : List ℕ → Option (List words.PathPart)
path_parts path = words.parts_of (slice_split (λ c. c == byte ".") path)

-- parts before those to come
abbrev pub after_parts : List words.PathPart → Option (List words.PathPart) → Option (List words.PathPart)
after_parts [] o = o
after_parts (m ∷ ms) o = words.prepended m (after_parts ms o)

-- the parts of what is left of a path, and how long that is
abbrev pub rest_parts : Option (List ℕ) → Option (List words.PathPart)
rest_parts None = Some []
rest_parts (Some rest) = path_parts rest

abbrev pub rest_length : Option (List ℕ) → ℕ
rest_length None = 0
rest_length (Some rest) = suc (length rest)
