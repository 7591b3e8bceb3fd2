-- What the words of dcmdump mean that name several files.
use Rattle.std.specs.Prelude.{ℕ, ◌+◌, List, [], ◌∷◌, Option, Some, None, Result, Ok, Err, Bool, true, false}
use Rattle.std.specs.Prelude.{◌&&◌, ◌||◌, not, nat_lt, count_by, codes, bytes_eq, if◌then◌else◌, option_map}
use Rattle.std.specs.Option.{is_none}
use Rattle.std.specs.List.{list_any}
use Rattle.dcm_base.specs.declared.fault.WordFault.TheVariants.{UnknownTool, WrongPaths, OptionsApart}
use Rattle.dcm_words.specs.declared.usage.Usage.TheVariants.{AtWord, Whole}
use Rattle.dcm_words.specs.Topics.{asked}
use Rattle.dcm_words.specs.Words.{Job, dump_of_each}
use Rattle.dcm_table_words.specs.declared.saying.Tool.TheVariants.{Dump}
use Rattle.dcm_table_words.specs.Table.{Name, file, list, names_in, sayings, is_empty_name, is_standard}
use Rattle.dcm_dumps.specs.declared.plan.DumpsUsage.{DumpsUsage}
use Rattle.dcm_dumps.specs.declared.plan.DumpsUsage.TheVariants.{Words, StandardTwice}

-- how each file is shown, and the names of files and lists
pub record Dumps : Type 0 where
  pub job : Job
  pub names : List Name

-- the names among the words of dcmdump, as dcm2csv has them among its own
abbrev pub names_among : List (List ℕ) → List Name
names_among words = names_in (sayings Dump words)

-- ---- whether several files are shown

abbrev pub is_several : List ℕ → Bool
is_several w = bytes_eq w (codes "+F")

abbrev pub is_one_file : List Name → Bool
is_one_file (file path ∷ []) = true
is_one_file names = false

abbrev pub name_several : List (List ℕ) → Bool
name_several words = list_any is_several words || not (is_one_file (names_among words))

-- words ask for dumps of several files: they are those of dcmdump, and ask for no text about it; and they have `+F`, or
-- they do not have one name that is a file's
unfoldable pub asks_dumps : List (List ℕ) → Bool
asks_dumps [] = false
asks_dumps (tool ∷ words) = bytes_eq tool (codes "dcmdump") && is_none (asked (tool ∷ words)) && name_several words

-- ---- what they mean

-- there is no name, or an empty one
abbrev pub lacks_names : List Name → Bool
lacks_names [] = true
lacks_names (m ∷ ms) = list_any is_empty_name (m ∷ ms)

abbrev pub names_standard_twice : List Name → Bool
names_standard_twice names = nat_lt 1 (count_by is_standard names)

-- with these options, unless they do not go together
abbrev pub dumps_by : Option Job → List Name → Result Dumps DumpsUsage
dumps_by None names = Err (Words (Whole OptionsApart))
dumps_by (Some job) names =
    if names_standard_twice names then Err StandardTwice else Ok (record { job = job; names = names })

abbrev pub dumps_of : Option Job → List Name → Result Dumps DumpsUsage
dumps_of each names = if lacks_names names then Err (Words (Whole WrongPaths)) else dumps_by each names

abbrev pub dumps_said : List (List ℕ) → Result Dumps DumpsUsage
dumps_said words = elim (dump_of_each words) [
  | Err u ↦ Err (Words u)
  | Ok each ↦ dumps_of each (names_among words)
]

-- the dumps that the words of a command line mean, or the first refusal; the tool's name is word 1
unfoldable pub meant_dumps : List (List ℕ) → Result Dumps DumpsUsage
meant_dumps [] = Err (Words (AtWord UnknownTool 1))
meant_dumps (tool ∷ words) =
    if bytes_eq tool (codes "dcmdump") then dumps_said words else Err (Words (AtWord UnknownTool 1))

-- ---- how many there are

abbrev pub and_one : Option ℕ → Option ℕ
and_one total = option_map (λ n. n + 1) total

-- it is not known before a list is read
abbrev pub total_of : List Name → Option ℕ
total_of [] = Some 0
total_of (file path ∷ names) = and_one (total_of names)
total_of (list path ∷ names) = None
