-- What the words of a command line mean.
use Rattle.std.specs.Prelude.{ℕ, ℤ, pos, negsuc, suc, ◌+◌, ◌-◌, List, [], ◌∷◌, ◌++◌, length, Option, Some, None, Result, Ok, Err, Bool, true, false, ◌||◌}
use Rattle.std.specs.Prelude.{◌&&◌, not, ◌==◌, nat_le, if◌then◌else◌, codes, bytes_eq}
use Rattle.std.specs.Option.{is_some, option_map}
use Rattle.std.specs.Str.{byte}
use Rattle.dcm_base.specs.declared.dictionary.Dictionary.{Dictionary}
use Rattle.dcm_base.specs.declared.dictionary.Dictionary.TheVariants.{Extract}
use Rattle.dcm_base.specs.declared.syntax.Syntax.{Syntax}
use Rattle.dcm_base.specs.Tables.Syntax.{Implicit, Little, Big}
use Rattle.dcm_base.specs.declared.mode.Mode.{Mode}
use Rattle.dcm_base.specs.declared.mode.Mode.TheVariants.{Short, Full}
use Rattle.dcm_base.specs.declared.fault.WordFault.TheVariants.{UnknownTool, UnknownOption, BadOptionValue, WrongPaths}
use Rattle.dcm_base.specs.declared.fault.WordFault.TheVariants.{OptionsApart, SamePath, NoKey, ReadTwice}
use Rattle.dcm_words.specs.declared.tags.TheConstants.{MOST_NAMED}
use Rattle.dcm_words.specs.declared.job.Texts.{Texts}
use Rattle.dcm_words.specs.declared.job.Texts.TheVariants.{Bytes, Characters}
use Rattle.dcm_words.specs.declared.usage.Choice.{Choice}
use Rattle.dcm_words.specs.declared.usage.Move.{Move as Moved}
use Rattle.dcm_words.specs.declared.usage.Move.TheVariants.{Days, ByKey}
use Rattle.dcm_words.specs.declared.usage.Word.{Word}
use Rattle.dcm_words.specs.declared.usage.Word.TheVariants.{Read, Show, Decode, Element, Ways, WholeFile, DataSet, Bare}
use Rattle.dcm_words.specs.declared.usage.Word.TheVariants.{Target, Limit, Retain, Move, Pseudonyms, PixelsDealt, Key}
use Rattle.dcm_words.specs.declared.usage.Word.TheVariants.{Overwrite, Accepted, Path, Unknown}
use Rattle.dcm_deid.specs.declared.fate.Options.{Options}
use Rattle.dcm_deid.specs.declared.fate.Temporal.TheVariants.{Removed, Full as full_dates, Modified}
use Rattle.dcm_deid.specs.declared.fate.Retain.{Retain as Kept}
use Rattle.dcm_deid.specs.declared.fate.Retain.TheVariants.{Uids, Device, Institution, Patient, Dates}
use Rattle.dcm_words.specs.declared.usage.Usage.{Usage}
use Rattle.dcm_words.specs.declared.usage.Usage.TheVariants.{AtWord, Whole, InEdit, InElement, TooManyElements}
pub use Rattle.dcm_base.specs.Lines.Limits.{LINE_LIMIT as GREATEST_LIMIT}
use Rattle.dcm_base.specs.Lines.Limits.{LINE_LIMIT}
use Rattle.dcm_base.specs.Lines.ReadValue.{number_in}
use Rattle.dcm_edits.specs.Edit.{Edit}
use Rattle.dcm_edits.specs.declared.parse.Settings.{Settings}
use Rattle.dcm_edits.specs.EditWords.{dictionary_word, is_overwrite, settings_of, meant_edits_in}
use Rattle.dcm_edits.specs.TagWords.{tag_named}
use Rattle.dcm_base.specs.declared.tag.Tag.{Tag}

-- the elements that alone are shown, wherever they stand, and whether the way to each stands before it
pub record Named : Type 0 where
  pub tags : List Tag
  pub ways : Bool

-- what a tool is to do, with the dictionary that it reads with
pub data Job : Type 0 where
  dump : (dictionary : Dictionary) (mode : Mode) (bare : Option Syntax) → Job
  -- the same, with texts by Specific Character Set, in UTF-8
  dump_decoded : (dictionary : Dictionary) (mode : Mode) (bare : Option Syntax) → Job
  -- either, of these elements alone
  dump_named : (texts : Texts) (dictionary : Dictionary) (mode : Mode) (bare : Option Syntax) (named : Named) → Job
  convert : (dictionary : Dictionary) (target : Option Syntax) → Job
  build : (limit : ℕ) → Job
  modify : (dictionary : Dictionary) (edits : List Edit) → Job
  -- what more is kept, whether it is reported that pixels may show identity, and the key of new unique identifiers
  deidentify : (options : Options) (reports : Bool) (key : List ℕ) → Job

-- a job, and the paths of its input, its output and its key, which is not read so far
pub record Plan : Type 0 where
  pub input : List ℕ
  pub output : List ℕ
  pub key : Option (List ℕ)
  -- whether an output that is there is overwritten
  pub overwrites : Bool
  -- whether dates are moved by the days that the key makes of the patient whom the input names
  pub days_by_key : Bool
  pub job : Job

-- ---- words

-- standard input or output
abbrev pub standard : List ℕ
standard = codes "-"

abbrev pub is_option : List ℕ → Bool
is_option [] = false
is_option (c ∷ cs) = not (bytes_eq (c ∷ cs) standard) && (c == byte "-" || c == byte "+")

abbrev pub other_word : List ℕ → Word
other_word w = if is_option w then Unknown else Path

-- the dictionary that is read with
abbrev pub read_word : List ℕ → Word
read_word w = elim (dictionary_word w) [ Some d ↦ Read d | None ↦ other_word w ]

abbrev pub dump_word : List ℕ → Word
dump_word w =
    if bytes_eq w (codes "-L") then Show Short
    else if bytes_eq w (codes "+L") then Show Full
    else if bytes_eq w (codes "+u8") then Decode
    else if bytes_eq w (codes "+P") then Element
    else if bytes_eq w (codes "+p") then Ways true
    else if bytes_eq w (codes "-p") then Ways false
    else if bytes_eq w (codes "+fo") then WholeFile
    else if bytes_eq w (codes "-f") then DataSet
    else if bytes_eq w (codes "-ti") then Bare Implicit
    else if bytes_eq w (codes "-te") then Bare Little
    else if bytes_eq w (codes "-tb") then Bare Big
    else read_word w

-- to dcmdump of several files, where each file has a heading in any case
abbrev pub dumps_word : List ℕ → Word
dumps_word w = if bytes_eq w (codes "+F") then Accepted else dump_word w

abbrev pub convert_word : List ℕ → Word
convert_word w =
    if bytes_eq w (codes "+t=") then Target None
    else if bytes_eq w (codes "+ti") then Target (Some Implicit)
    else if bytes_eq w (codes "+te") then Target (Some Little)
    else if bytes_eq w (codes "+tb") then Target (Some Big)
    else if bytes_eq w (codes "-e") then Accepted
    else if bytes_eq w (codes "+fo") then Accepted
    else if is_overwrite w then Overwrite
    else read_word w

abbrev pub build_word : List ℕ → Word
build_word w =
    if bytes_eq w (codes "+l") then Limit
    else if bytes_eq w (codes "-e") then Accepted
    else if is_overwrite w then Overwrite
    else other_word w

abbrev pub deidentify_word : List ℕ → Word
deidentify_word w =
    if bytes_eq w (codes "+ru") then Retain Uids
    else if bytes_eq w (codes "+rd") then Retain Device
    else if bytes_eq w (codes "+ri") then Retain Institution
    else if bytes_eq w (codes "+rp") then Retain Patient
    else if bytes_eq w (codes "+rl") then Retain Dates
    else if bytes_eq w (codes "+rm") then Move
    else if bytes_eq w (codes "+pi") then Pseudonyms
    else if bytes_eq w (codes "+bi") then PixelsDealt
    else if bytes_eq w (codes "+k") then Key
    else if is_overwrite w then Overwrite
    else other_word w

-- the least limit that a line may be given, and the one that it has without an option; LINE_LIMIT is the greatest
abbrev pub LEAST_LIMIT : ℕ
LEAST_LIMIT = 80

abbrev pub USUAL_LIMIT : ℕ
USUAL_LIMIT = 4096

abbrev pub limit_within : Option ℕ → Option ℕ
limit_within None = None
limit_within (Some n) = if nat_le LEAST_LIMIT n && nat_le n LINE_LIMIT then Some n else None

-- the number that digits spell, leading zeros allowed
abbrev pub limit_of : List ℕ → Option ℕ
limit_of w = limit_within (number_in 10 0 w)

-- the most days by which dates may be moved: a century
abbrev pub MOST_DAYS : ℕ
MOST_DAYS = 36524

abbrev pub days_within : Option ℕ → Option ℕ
days_within None = None
days_within (Some n) = if nat_le 1 n && nat_le n MOST_DAYS then Some n else None

-- so many days into the past
abbrev pub earlier : ℕ → ℤ
earlier n = negsuc (n - 1)

-- the days by which dates are moved: perhaps a sign, and digits, leading zeros allowed
abbrev pub days_of : List ℕ → Option ℤ
days_of [] = None
days_of (c ∷ cs) =
    if c == byte "-" then option_map earlier (days_within (number_in 10 0 cs))
    else if c == byte "+" then option_map pos (days_within (number_in 10 0 cs))
    else option_map pos (days_within (number_in 10 0 (c ∷ cs)))

-- how dates are moved: by so many days, or by those that the key makes
abbrev pub move_of : List ℕ → Option Moved
move_of w = if bytes_eq w (codes "key") then Some ByKey else option_map Days (days_of w)

abbrev pub is_empty_word : List ℕ → Bool
is_empty_word [] = true
is_empty_word (c ∷ cs) = false

-- the path of a key: it is no standard stream
abbrev pub key_of : List ℕ → Option (List ℕ)
key_of w = if is_empty_word w || bytes_eq w standard then None else Some w

-- ---- elements that words name

-- so many words before these name one; the first refusal is that of the first word that has one
abbrev pub tags_after : ℕ → List (List ℕ) → Result (List Tag) Usage
tags_after n [] = Ok []
tags_after n (w ∷ words) = elim (tag_named w) [
  | Err refusal ↦ Err (InElement refusal (n + 1))
  | Ok tag ↦ elim (tags_after (n + 1) words) [ Ok tags ↦ Ok (tag ∷ tags) | Err u ↦ Err u ]
]

-- the tags that words name
abbrev pub elements_meant : List (List ℕ) → Result (List Tag) Usage
elements_meant words = elim (tags_after 0 words) [
  | Err u ↦ Err u
  | Ok tags ↦ if nat_le (length tags) MOST_NAMED then Ok tags else Err TooManyElements
]

-- ---- the words of dcmdump, dcmconv, dump2dcm and dcmdeid

-- what the words so far have said; of two that exclude each other the last counts
pub record Said : Type 0 where
  pub dictionary : Dictionary
  pub mode : Mode
  pub texts : Texts
  pub elements : List (List ℕ)
  pub ways : Bool
  pub data_set : Bool
  pub bare : Option Syntax
  pub target : Option Syntax
  pub limit : ℕ
  pub choice : Choice
  pub pixels_dealt : Bool
  pub key : Option (List ℕ)
  pub overwrites : Bool
  pub paths : List (List ℕ)

-- the options of dcmdeid that keep more
abbrev pub no_options : Options
no_options = record { uids = false; device = false; institution = false; patient = false; dates = Removed; pseudonyms = false }

abbrev pub with_option : Options → Kept → Options
with_option o Uids = record o { uids = true }
with_option o Device = record o { device = true }
with_option o Institution = record o { institution = true }
with_option o Patient = record o { patient = true }
with_option o Dates = record o { dates = full_dates }

abbrev pub with_days : Options → (days : ℤ) → Options
with_days o days = record o { dates = Modified days }

-- they, and whether dates are moved by the days that the key makes
abbrev pub no_choice : Choice
no_choice = record { options = no_options; days_by_key = false }

abbrev pub keeps_dates : Kept → Bool
keeps_dates Dates = true
keeps_dates _ = false

-- of those that keep dates or move them the last counts
abbrev pub and_option : Choice → Kept → Choice
and_option c kept = record { options = with_option c.options kept; days_by_key = c.days_by_key && not (keeps_dates kept) }

abbrev pub and_move : Choice → Moved → Choice
and_move c (Days days) = record { options = with_days c.options days; days_by_key = false }
and_move c ByKey = record { options = c.options; days_by_key = true }

abbrev pub and_pseudonyms : Choice → Choice
and_pseudonyms c = record { options = record c.options { pseudonyms = true }; days_by_key = c.days_by_key }

abbrev pub nothing_said : Said
nothing_said = record {
  dictionary = Extract;
  mode = Short;
  texts = Bytes;
  elements = [];
  ways = false;
  data_set = false;
  bare = None;
  target = None;
  limit = USUAL_LIMIT;
  choice = no_choice;
  pixels_dealt = false;
  key = None;
  overwrites = false;
  paths = [];
}

-- paths are kept in the order of the words
abbrev pub and_path : List (List ℕ) → List ℕ → List (List ℕ)
and_path [] w = w ∷ []
and_path (p ∷ ps) w = p ∷ and_path ps w

abbrev pub said_with : Word → List ℕ → Said → Said
said_with (Read dictionary) w s = record s { dictionary = dictionary }
said_with (Show mode) w s = record s { mode = mode }
said_with Decode w s = record s { texts = Characters }
said_with (Ways ways) w s = record s { ways = ways }
said_with WholeFile w s = record s { data_set = false }
said_with DataSet w s = record s { data_set = true }
said_with (Bare syntax) w s = record s { bare = Some syntax }
said_with (Target syntax) w s = record s { target = syntax }
said_with (Retain option) w s = record s { choice = and_option s.choice option }
said_with Pseudonyms w s = record s { choice = and_pseudonyms s.choice }
said_with PixelsDealt w s = record s { pixels_dealt = true }
said_with Overwrite w s = record s { overwrites = true }
said_with Path w s = record s { paths = and_path s.paths w }
said_with _ w s = s

-- a word that wants a value, and that value
abbrev pub said_with_value : Word → List ℕ → Said → Option Said
said_with_value Limit v s = option_map (λ limit. record s { limit = limit }) (limit_of v)
said_with_value Move v s = option_map (λ moved. record s { choice = and_move s.choice moved }) (move_of v)
said_with_value Key v s = option_map (λ key. record s { key = Some key }) (key_of v)
said_with_value Element v s = Some (record s { elements = s.elements ++ v ∷ [] })
said_with_value _ v s = None

-- a word alone says something, with the next one as its value, or nothing that the tool knows
pub data Kind : Type 0 where
  alone with_value unknown : Kind

abbrev pub kind : Word → Kind
kind Limit = with_value
kind Move = with_value
kind Key = with_value
kind Element = with_value
kind Unknown = unknown
kind _ = alone

-- the words from number n on, after what the ones before have said
abbrev pub said_after : (List ℕ → Word) → ℕ → Said → List (List ℕ) → Result Said Usage
said_after read n s [] = Ok s
said_after read n s (w ∷ []) = elim (kind (read w)) [
  | unknown ↦ Err (AtWord UnknownOption n)
  | with_value ↦ Err (AtWord BadOptionValue n)
  | alone ↦ Ok (said_with (read w) w s)
]
said_after read n s (w ∷ v ∷ words) = elim (kind (read w)) [
  | unknown ↦ Err (AtWord UnknownOption n)
  | with_value ↦ elim (said_with_value (read w) v s) [
    | None ↦ Err (AtWord BadOptionValue n)
    | Some t ↦ said_after read (n + 2) t words
  ]
  | alone ↦ said_after read (suc n) (said_with (read w) w s) (v ∷ words)
]

-- the tool's name is word 1
abbrev pub said_by : (List ℕ → Word) → List (List ℕ) → Result Said Usage
said_by read words = said_after read 2 nothing_said words

-- ---- plans

abbrev pub differ : List ℕ → List ℕ → Bool
differ input output = not (bytes_eq input output) || bytes_eq input standard

abbrev pub plan_if_apart : List ℕ → List ℕ → (overwrites : Bool) → Job → Result Plan Usage
plan_if_apart input output overwrites job = if differ input output
    then Ok (record {
      input = input;
      output = output;
      key = None;
      overwrites = overwrites;
      days_by_key = false;
      job = job;
    })
    else Err (Whole SamePath)

abbrev pub plan_with_two : List (List ℕ) → (overwrites : Bool) → Job → Result Plan Usage
plan_with_two (input ∷ output ∷ []) overwrites job =
    if is_empty_word input || is_empty_word output then Err (Whole WrongPaths)
    else plan_if_apart input output overwrites job
plan_with_two _ overwrites job = Err (Whole WrongPaths)

abbrev pub same : Bool → Bool → Bool
same true b = b
same false b = not b

-- a dump, by how texts are shown
abbrev pub dump_as : Texts → Dictionary → Mode → Option Syntax → Job
dump_as Bytes d mode bare = dump d mode bare
dump_as Characters d mode bare = dump_decoded d mode bare

-- of these elements alone, where there are any
abbrev pub dump_of : Named → Texts → Dictionary → Mode → Option Syntax → Job
dump_of named texts d mode bare = elim named.tags [
  | [] ↦ dump_as texts d mode bare
  | tag ∷ tags ↦ dump_named texts d mode bare named
]

-- that the words ask for
abbrev pub dump_said : Said → List Tag → Job
dump_said s tags = dump_of (record { tags = tags; ways = s.ways }) s.texts s.dictionary s.mode s.bare

-- a data set alone is read only in a syntax that the words name, which are for it alone
abbrev pub dump_plan_of : List ℕ → Said → List Tag → Result Plan Usage
dump_plan_of input s tags = if same s.data_set (is_some s.bare)
    then Ok (record {
      input = input;
      output = standard;
      key = None;
      overwrites = false;
      days_by_key = false;
      job = dump_said s tags;
    })
    else Err (Whole OptionsApart)

abbrev pub dump_plan_with : List (List ℕ) → Said → List Tag → Result Plan Usage
dump_plan_with (input ∷ []) s tags = if is_empty_word input then Err (Whole WrongPaths) else dump_plan_of input s tags
dump_plan_with _ s tags = Err (Whole WrongPaths)

-- the elements are refused behind each word, and before the paths
abbrev pub dump_plan_said : Said → Result Plan Usage
dump_plan_said s = elim (elements_meant s.elements) [ Ok tags ↦ dump_plan_with s.paths s tags | Err u ↦ Err u ]

abbrev pub dump_plan : List (List ℕ) → Result Plan Usage
dump_plan words = elim (said_by dump_word words) [ Ok s ↦ dump_plan_said s | Err u ↦ Err u ]

-- how dcmdump shows each of several files, by its options; none where they do not go together
abbrev pub dump_by : Said → List Tag → Option Job
dump_by s tags = if same s.data_set (is_some s.bare) then Some (dump_said s tags) else None

abbrev pub dump_each_said : Said → Result (Option Job) Usage
dump_each_said s = elim (elements_meant s.elements) [ Ok tags ↦ Ok (dump_by s tags) | Err u ↦ Err u ]

abbrev pub dump_of_each : List (List ℕ) → Result (Option Job) Usage
dump_of_each words = elim (said_by dumps_word words) [ Ok s ↦ dump_each_said s | Err u ↦ Err u ]

abbrev pub convert_plan : List (List ℕ) → Result Plan Usage
convert_plan words = elim (said_by convert_word words)
    [ Ok s ↦ plan_with_two s.paths s.overwrites (convert s.dictionary s.target) | Err u ↦ Err u ]

abbrev pub build_plan : List (List ℕ) → Result Plan Usage
build_plan words = elim (said_by build_word words)
    [ Ok s ↦ plan_with_two s.paths s.overwrites (build s.limit) | Err u ↦ Err u ]

-- the output does not have the path of the key
abbrev pub is_same_key : Option (List ℕ) → List ℕ → Bool
is_same_key None output = false
is_same_key (Some key) output = bytes_eq key output

-- and it is there where it is needed
abbrev pub is_missing : Option (List ℕ) → (is_needed : Bool) → Bool
is_missing key is_needed = is_needed && not (is_some key)

-- pseudonyms are made by it, and days
abbrev pub needs_key : Choice → Bool
needs_key c = c.options.pseudonyms || c.days_by_key

-- an input that names the patient by whom dates are moved is read twice
abbrev pub is_twice : List ℕ → Choice → Bool
is_twice input c = c.days_by_key && bytes_eq input standard

abbrev pub plan_with_key : Option (List ℕ) → Choice → Plan → Result Plan Usage
plan_with_key key c p = if is_same_key key p.output then Err (Whole SamePath)
    else if is_missing key (needs_key c) then Err (Whole NoKey)
    else if is_twice p.input c then Err (Whole ReadTwice)
    else Ok (record {
      input = p.input;
      output = p.output;
      key = key;
      overwrites = p.overwrites;
      days_by_key = c.days_by_key;
      job = p.job;
    })

abbrev pub deidentify_plan_of : Said → Result Plan Usage
deidentify_plan_of s = elim (plan_with_two s.paths s.overwrites (deidentify s.choice.options (not s.pixels_dealt) []))
    [ Ok p ↦ plan_with_key s.key s.choice p | Err u ↦ Err u ]

abbrev pub deidentify_plan : List (List ℕ) → Result Plan Usage
deidentify_plan words = elim (said_by deidentify_word words) [ Ok s ↦ deidentify_plan_of s | Err u ↦ Err u ]

-- the edits, and the last two words, which are the paths
pub record EditWords : Type 0 where
  pub edits : List (List ℕ)
  pub input : List ℕ
  pub output : List ℕ

abbrev pub and_edit_word : List ℕ → Option EditWords → Option EditWords
and_edit_word w None = None
and_edit_word w (Some e) = Some (record e { edits = w ∷ e.edits })

abbrev pub paths_apart : List (List ℕ) → Option EditWords
paths_apart [] = None
paths_apart (w ∷ []) = None
paths_apart (input ∷ output ∷ []) = Some (record { edits = []; input = input; output = output })
paths_apart (w ∷ v ∷ u ∷ words) = and_edit_word w (paths_apart (v ∷ u ∷ words))

abbrev pub is_path : List ℕ → Bool
is_path w = not (is_empty_word w) && not (is_option w)

abbrev pub modify_plan_in : Settings → EditWords → Result Plan Usage
modify_plan_in s e = elim (meant_edits_in s.dictionary e.edits) [
  | Ok edits ↦ plan_if_apart e.input e.output s.overwrites (modify s.dictionary edits)
  | Err u ↦ Err (InEdit u.refusal u.number)
]

-- by what its words say of all edits
abbrev pub modify_plan_with : EditWords → Result Plan Usage
modify_plan_with e = modify_plan_in (settings_of e.edits) e

abbrev pub modify_plan : List (List ℕ) → Result Plan Usage
modify_plan words = elim (paths_apart words) [
  | None ↦ Err (Whole WrongPaths)
  | Some e ↦ elim (is_path e.input && is_path e.output) [ true ↦ modify_plan_with e | false ↦ Err (Whole WrongPaths) ]
]

-- the tools
pub data Tool : Type 0 where
  dcmdump dcmconv dump2dcm dcmodify dcmdeid : Tool

abbrev pub tool_of : List ℕ → Option Tool
tool_of w =
    if bytes_eq w (codes "dcmdump") then Some dcmdump
    else if bytes_eq w (codes "dcmconv") then Some dcmconv
    else if bytes_eq w (codes "dump2dcm") then Some dump2dcm
    else if bytes_eq w (codes "dcmodify") then Some dcmodify
    else if bytes_eq w (codes "dcmdeid") then Some dcmdeid
    else None

abbrev pub tool_plan : Option Tool → List (List ℕ) → Result Plan Usage
tool_plan None words = Err (AtWord UnknownTool 1)
tool_plan (Some dcmdump) words = dump_plan words
tool_plan (Some dcmconv) words = convert_plan words
tool_plan (Some dump2dcm) words = build_plan words
tool_plan (Some dcmodify) words = modify_plan words
tool_plan (Some dcmdeid) words = deidentify_plan words

-- the plan that the words mean, or the first refusal
unfoldable pub meant : List (List ℕ) → Result Plan Usage
meant [] = Err (AtWord UnknownTool 1)
meant (tool ∷ words) = tool_plan (tool_of tool) words
