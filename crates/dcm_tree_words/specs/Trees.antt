-- What the words of runs over trees mean.
use Rattle.std.specs.Prelude.{ℕ, ◌+◌, List, [], ◌∷◌, Option, Some, None, Result, Ok, Err, Bool, true, false}
use Rattle.std.specs.Prelude.{◌&&◌, ◌||◌, not, ◌==◌, nat_lt, if◌then◌else◌, codes, bytes_eq}
use Rattle.std.specs.List.{list_any}
use Rattle.std.specs.Option.{option_or}
use Rattle.std.specs.Str.{byte}
use Rattle.dcm_base.specs.declared.fault.WordFault.TheVariants.{UnknownTool, BadOptionValue, WrongPaths, OptionsApart}
use Rattle.dcm_words.specs.declared.usage.Usage.{Usage}
use Rattle.dcm_words.specs.declared.usage.Usage.TheVariants.{AtWord, Whole, InEdit, Memory}
use Rattle.dcm_words.specs.Words.{Plan, standard, meant}
use Rattle.dcm_words.specs.Places.{TwoPaths, two_paths}
use Rattle.dcm_tree_words.specs.declared.word.TreeTool.{TreeTool}
use Rattle.dcm_tree_words.specs.declared.word.TreeTool.TheVariants.{Convert, Modify, Deidentify}
use Rattle.dcm_tree_words.specs.declared.word.TreeWord.{TreeWord}
use Rattle.dcm_tree_words.specs.declared.word.TreeWord.TheVariants.{OverTree, Continue, NoHeader, Counts, KeepNames}
use Rattle.dcm_tree_words.specs.Parts.{Part, whole}
use Rattle.dcm_tree_words.specs.TreeWords.{tree_tool, gives_names, Piece, tree, part, no_part, width, is_of_tree}
use Rattle.dcm_tree_words.specs.TreeWords.{pieces_among, others_alone, number_given}

-- ---- what the words of a tree say

pub record Options : Type 0 where
  -- the output may hold files
  pub continues : Bool
  pub part : Part
  pub has_header : Bool
  pub counts : Bool
  -- an output has the name of its input
  pub keeps_names : Bool

pub record Said : Type 0 where
  pub over_tree : Bool
  pub options : Options

abbrev pub nothing_said : TreeTool → Said
nothing_said t = record {
  over_tree = false;
  options = record {
    continues = false;
    part = whole;
    has_header = true;
    counts = false;
    keeps_names = not (gives_names t);
  };
}

abbrev pub and_word : TreeWord → Said → Said
and_word OverTree s = record s { over_tree = true }
and_word Continue s = record s { options = record s.options { continues = true } }
and_word NoHeader s = record s { options = record s.options { has_header = false } }
and_word Counts s = record s { options = record s.options { counts = true } }
and_word KeepNames s = record s { options = record s.options { keeps_names = true } }

-- a part may follow others of its run; the last one counts
abbrev pub and_part : Option Part → Said → Said
and_part None s = s
and_part (Some p) s = record s { options = record s.options { continues = true; part = p } }

abbrev pub said_with : Piece → Said → Said
said_with (tree word) s = and_word word s
said_with (part named) s = and_part named s
said_with _ s = s

abbrev pub said_after : Said → List Piece → Said
said_after s [] = s
said_after s (p ∷ ps) = said_after (said_with p s) ps

-- ---- what is refused

abbrev pub names_no_part : Piece → Bool
names_no_part no_part = true
names_no_part (part None) = true
names_no_part _ = false

-- the number of the first `+part` after which no part is named, where the first word of pieces has number n
abbrev pub unfit_from : (n : ℕ) → List Piece → Option ℕ
unfit_from n [] = None
unfit_from n (p ∷ ps) = if names_no_part p then Some n else unfit_from (n + width p) ps

-- what is known of words: whether they are over a tree, a `+part` after which no part is named, the paths, and the
-- refusal of the words of the tool
pub record Known : Type 0 where
  pub over_tree : Bool
  pub unfit : Option ℕ
  pub paths : Option TwoPaths
  pub refusal : Option Usage

abbrev pub part_fault : Option ℕ → Option Usage
part_fault None = None
part_fault (Some n) = Some (AtWord BadOptionValue n)

abbrev pub word_before : Option ℕ → Usage → (n : ℕ) → Option Usage
word_before None u n = Some u
word_before (Some m) u n = if nat_lt m n then Some (AtWord BadOptionValue m) else Some u

-- the first word that is refused, which is one of the tool or `+part`
abbrev pub word_fault : Option ℕ → Option Usage → Option Usage
word_fault unfit None = part_fault unfit
word_fault unfit (Some (AtWord fault n)) = word_before unfit (AtWord fault n) n
word_fault unfit (Some _) = part_fault unfit

-- there are no two paths, or the list over which a run goes has no name
abbrev pub path_fault : (over_tree : Bool) → Option TwoPaths → Option Usage
path_fault over_tree None = Some (Whole WrongPaths)
path_fault over_tree (Some p) = if over_tree && bytes_eq p.input (codes "@") then Some (Whole WrongPaths) else None

-- a word of a tree without `+r`; or with it a standard stream, or the word by which an output is overwritten
abbrev pub option_fault : (over_tree : Bool) → Option TwoPaths → Option Usage
option_fault over_tree None = None
option_fault over_tree (Some p) =
    if not over_tree || bytes_eq p.input standard || bytes_eq p.output standard || p.overwrites
    then Some (Whole OptionsApart)
    else None

abbrev pub edit_fault : Option Usage → Option Usage
edit_fault None = None
edit_fault (Some (InEdit refusal n)) = Some (InEdit refusal n)
edit_fault (Some _) = None

-- what is told of options and paths
abbrev pub fault_of_options : Known → Option Usage
fault_of_options k =
    option_or (word_fault k.unfit k.refusal)
    (option_or (path_fault k.over_tree k.paths) (option_fault k.over_tree k.paths))

-- and of edits and paths
abbrev pub fault_of_edits : Known → Option Usage
fault_of_edits k =
    option_or (path_fault k.over_tree k.paths)
    (option_or (part_fault k.unfit) (option_or (edit_fault k.refusal) (option_fault k.over_tree k.paths)))

-- the refusal that comes before those that are left to the tool
abbrev pub first_fault : TreeTool → Known → Option Usage
first_fault Convert k = fault_of_options k
first_fault Modify k = fault_of_edits k
first_fault Deidentify k = fault_of_options k

-- ---- what is meant

pub data Source : Type 0 where
  folder : (path : List ℕ) → Source
  list : (path : List ℕ) → Source

abbrev pub source_of : List ℕ → Source
source_of [] = folder []
source_of (c ∷ cs) = if c == byte "@" then list cs else folder (c ∷ cs)

-- a run over a tree, and the plan by which each file is done
pub record Tree : Type 0 where
  pub source : Source
  pub options : Options
  pub plan : Plan

abbrev pub tree_with : Options → Plan → Tree
tree_with options p = record { source = source_of p.input; options = options; plan = p }

-- a word that is refused has the number that was given
abbrev pub as_given : List Piece → Usage → Usage
as_given ps (AtWord fault n) = AtWord fault (number_given ps n)
as_given ps u = u

abbrev pub plan_given : List Piece → Result Plan Usage → Result Plan Usage
plan_given ps (Ok p) = Ok p
plan_given ps (Err u) = Err (as_given ps u)

abbrev pub refusal_of : Result Plan Usage → Option Usage
refusal_of (Ok p) = None
refusal_of (Err u) = Some u

abbrev pub unless : Option Usage → Options → Result Plan Usage → Result Tree Usage
unless (Some u) options plan = Err u
unless None options (Err u) = Err u
unless None options (Ok p) = Ok (tree_with options p)

abbrev pub said_of : TreeTool → List Piece → Said
said_of t ps = said_after (nothing_said t) ps

-- the refusal before those that are left to the tool: by the pieces of the words, by the words of the tool alone, and
-- by what these are refused for
abbrev pub fault_among : TreeTool → List Piece → List (List ℕ) → Option Usage → Option Usage
fault_among t ps one refusal = first_fault t (record {
  over_tree = (said_of t ps).over_tree;
  unfit = unfit_from 2 ps;
  paths = two_paths one;
  refusal = refusal;
})

-- want of memory, which no words mean, comes before all else
abbrev pub meant_by : TreeTool → List Piece → List (List ℕ) → Result Plan Usage → Result Tree Usage
meant_by t ps one (Err Memory) = Err Memory
meant_by t ps one plan = unless (fault_among t ps one (refusal_of plan)) (said_of t ps).options plan

abbrev pub meant_apart : TreeTool → List Piece → List (List ℕ) → Result Tree Usage
meant_apart t ps one = meant_by t ps one (plan_given ps (meant one))

-- ---- command lines

-- whether a word of a tree is where it is one
unfoldable pub asks_tree : List (List ℕ) → Bool
asks_tree [] = false
asks_tree (name ∷ others) = elim (tree_tool name)
    [ Some t ↦ list_any is_of_tree (pieces_among t others) | None ↦ false ]

-- the words without those of a tree, as for a run of one file
unfoldable pub words_of_one : List (List ℕ) → List (List ℕ)
words_of_one [] = []
words_of_one (name ∷ others) = name ∷ others_alone name others

-- the run over a tree that the words mean, or the first refusal
unfoldable pub meant_tree : List (List ℕ) → Result Tree Usage
meant_tree [] = Err (AtWord UnknownTool 1)
meant_tree (name ∷ others) = elim (tree_tool name) [
  | Some t ↦ meant_apart t (pieces_among t others) (name ∷ others_alone name others)
  | None ↦ Err (AtWord UnknownTool 1)
]
