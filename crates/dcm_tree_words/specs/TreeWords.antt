-- What the words of a run over a tree are.
use Rattle.std.specs.Prelude.{ℕ, ◌+◌, ◌-◌, List, [], ◌∷◌, ◌++◌, length, take, drop, Option, Some, None, Bool, true, false}
use Rattle.std.specs.Prelude.{◌&&◌, ◌||◌, nat_lt, if◌then◌else◌, codes, bytes_eq}
use Rattle.dcm_words.specs.Words as words
use Rattle.dcm_words.specs.Places.{tool_takes_next}
use Rattle.dcm_tree_words.specs.declared.word.TreeTool.{TreeTool}
use Rattle.dcm_tree_words.specs.declared.word.TreeTool.TheVariants.{Convert, Modify, Deidentify}
use Rattle.dcm_tree_words.specs.declared.word.TreeWord.{TreeWord}
use Rattle.dcm_tree_words.specs.declared.word.TreeWord.TheVariants.{OverTree, Continue, NoHeader, Counts, KeepNames}
use Rattle.dcm_tree_words.specs.Parts.{Part, part_of}

abbrev pub tool_as : TreeTool → words.Tool
tool_as Convert = words.dcmconv
tool_as Modify = words.dcmodify
tool_as Deidentify = words.dcmdeid

-- the tools that run over trees
abbrev pub tree_tool : List ℕ → Option TreeTool
tree_tool w =
    if bytes_eq w (codes "dcmconv") then Some Convert
    else if bytes_eq w (codes "dcmodify") then Some Modify
    else if bytes_eq w (codes "dcmdeid") then Some Deidentify
    else None

-- those that give files new names
abbrev pub gives_names : TreeTool → Bool
gives_names Convert = false
gives_names Modify = false
gives_names Deidentify = true

-- a word of a run over a tree that stands alone
abbrev pub tree_word : TreeTool → List ℕ → Option TreeWord
tree_word t w =
    if bytes_eq w (codes "+r") then Some OverTree
    else if bytes_eq w (codes "+c") then Some Continue
    else if bytes_eq w (codes "+nh") then Some NoHeader
    else if bytes_eq w (codes "+v") then Some Counts
    else if bytes_eq w (codes "+kn") && gives_names t then Some KeepNames
    else None

abbrev pub is_part : List ℕ → Bool
is_part w = bytes_eq w (codes "+part")

-- whether the next word is this one's, whatever it is
abbrev pub takes_next : TreeTool → List ℕ → Bool
takes_next t w = is_part w || tool_takes_next (Some (tool_as t)) w

-- ---- pieces

-- a word, or a word and the next one, which is its own
pub data Piece : Type 0 where
  tree : (word : TreeWord) → Piece
  -- `+part` and the next word, with the part that this names
  part : (named : Option Part) → Piece
  no_part : Piece
  -- of the tool
  own : (word : List ℕ) → Piece
  own_two : (word next : List ℕ) → Piece

-- how many words it has
abbrev pub width : Piece → ℕ
width (part named) = 2
width (own_two word next) = 2
width _ = 1

abbrev pub tree_or_own : Option TreeWord → List ℕ → Piece
tree_or_own (Some word) w = tree word
tree_or_own None w = own w

abbrev pub alone : TreeTool → List ℕ → Piece
alone t w = if is_part w then no_part else tree_or_own (tree_word t w) w

abbrev pub with_next : List ℕ → List ℕ → Piece
with_next w v = if is_part w then part (part_of v) else own_two w v

-- words, taken apart from the left
abbrev pub pieces : TreeTool → List (List ℕ) → List Piece
pieces t [] = []
pieces t (w ∷ []) = alone t w ∷ []
pieces t (w ∷ v ∷ words) =
    elim (takes_next t w) [ true ↦ with_next w v ∷ pieces t words | false ↦ alone t w ∷ pieces t (v ∷ words) ]

-- ---- the words of the tool

-- of the words after the tool's name those that words of a tree may be among: of dcmodify its edits, which end before
-- the last two, the paths
abbrev pub among : TreeTool → List (List ℕ) → List (List ℕ)
among Convert others = others
among Modify others = take (length others - 2) others
among Deidentify others = others

abbrev pub behind : TreeTool → List (List ℕ) → List (List ℕ)
behind Convert others = []
behind Modify others = drop (length others - 2) others
behind Deidentify others = []

abbrev pub pieces_among : TreeTool → List (List ℕ) → List Piece
pieces_among t others = pieces t (among t others)

-- whether a piece is none of the tool
abbrev pub is_of_tree : Piece → Bool
is_of_tree (own word) = false
is_of_tree (own_two word next) = false
is_of_tree _ = true

abbrev pub own_words : List Piece → List (List ℕ)
own_words [] = []
own_words (own w ∷ ps) = w ∷ own_words ps
own_words (own_two w v ∷ ps) = w ∷ v ∷ own_words ps
own_words (p ∷ ps) = own_words ps

abbrev pub tool_words : TreeTool → List (List ℕ) → List (List ℕ)
tool_words t others = own_words (pieces_among t others) ++ behind t others

-- the words after a tool's name
abbrev pub others_alone : (name : List ℕ) → List (List ℕ) → List (List ℕ)
others_alone name others = elim (tree_tool name) [ Some t ↦ tool_words t others | None ↦ others ]

-- the number of words that a piece leaves to the tool
abbrev pub own_width : Piece → ℕ
own_width (own word) = 1
own_width (own_two word next) = 2
own_width _ = 0

-- where the first word of pieces has number n, the number of that which has k words of the tool before it
abbrev pub number_from : (n : ℕ) → List Piece → (k : ℕ) → ℕ
number_from n [] k = n
number_from n (p ∷ ps) k =
    if nat_lt k (own_width p) then n + k else number_from (n + width p) ps (k - own_width p)

-- the number that a word of the tool had among all words; the name of the tool is word 1
abbrev pub number_given : List Piece → (n : ℕ) → ℕ
number_given ps n = if nat_lt n 2 then n else number_from 2 ps (n - 2)
