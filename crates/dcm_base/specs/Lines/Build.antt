-- The file that the lines of a dump build.
use Rattle.std.specs.Prelude.{ℕ, suc, List, [], ◌∷◌, ◌++◌, length, take, fold, replicate, reverse, Option, Some, None}
use Rattle.std.specs.Prelude.{unwrap_or, Result, Ok, Err, Bool, true, false, ◌&&◌, ◌||◌, not, ◌==◌, nat_le, nat_lt, ◌+◌}
use Rattle.std.specs.Prelude.{if◌then◌else◌}
use Rattle.std.specs.List.{slice_split}
use Rattle.std.specs.Option.{is_some, is_none}
use Rattle.std.specs.Result.{result_ok}
use Rattle.std.specs.Str.{byte}
use Rattle.dcm_base.specs.declared.tag.Tag.{Tag}
use Rattle.dcm_base.specs.declared.vr.Vr.{Vr}
use Rattle.dcm_base.specs.declared.syntax.Coding.{Coding}
use Rattle.dcm_base.specs.declared.syntax.Syntax.{Syntax}
use Rattle.dcm_base.specs.Tables.Syntax.{Little}
use Rattle.dcm_base.specs.declared.fault.LineFault.{LineFault}
use Rattle.dcm_base.specs.declared.fault.LineFault.TheVariants.{LineTooLong, NotALine, ValueDoesNotFit, NotAllowed}
use Rattle.dcm_base.specs.declared.fault.LineFault.TheVariants.{NotAscending, BadMetaGroup, NoTransferSyntax, TooDeep}
use Rattle.dcm_base.specs.declared.fault.LineFault.TheVariants.{EndsEarly, ByCharacters, TooLong}
use Rattle.dcm_base.specs.declared.fault.LineStop.{LineStop}
use Rattle.dcm_base.specs.declared.length.Length.TheVariants.{Undefined}
use Rattle.dcm_base.specs.Tables.Tag.{is_above}
use Rattle.dcm_base.specs.Tree.Tree.{Trees, no_tree, leaf, sequence, fragments, Items, no_item, item, then_trees}
use Rattle.dcm_base.specs.Tree.Tree.{then_items}
use Rattle.dcm_base.specs.Tree.Front.{Front, front, OpenTree, nothing_open, open_leaf, open_sequence, open_fragments}
use Rattle.dcm_base.specs.Tree.Front.{OpenItem, no_open_item, open_item}
use Rattle.dcm_base.specs.Tables.Transfer.{without_pads, coding_of}
use Rattle.dcm_base.specs.Reading.Size.{trees_size}
use Rattle.dcm_base.specs.Reading.Place.{Container, the_data_set, an_item, a_sequence, a_fragment_list, Level, levels}
use Rattle.dcm_base.specs.Reading.Place.{depth}
use Rattle.dcm_base.specs.Reading.Bars.{innermost_reached, holds_fragments}
use Rattle.dcm_base.specs.Reading.Reads.{INPUT_LIMIT}
use Rattle.dcm_base.specs.File.MetaGroup.{META_LIMIT}
use Rattle.dcm_base.specs.File.MetaReads.{PREFIX, syntax_value}
use Rattle.dcm_base.specs.Conversion.NewMeta.{new_meta}
use Rattle.dcm_base.specs.Conversion.Recode.{recode}
use Rattle.dcm_base.specs.Lines.ReadValue.{value_shown}
use Rattle.dcm_base.specs.Lines.Line.{Step, show_leaf, begin_sequence, begin_fragments, begin_item, show_fragment}
use Rattle.dcm_base.specs.Lines.Line.{end_item, end_sequence, Meaning, nothing, one, by_characters, no_line, means}

-- what the lines so far have shown: the meta group, whether it has ended, and the data set
pub record Built : Type 0 where
  pub meta : Trees
  pub meta_ended : Bool
  pub set : Front

abbrev pub no_elements : Front
no_elements = front no_tree nothing_open None false

abbrev pub nothing_built : Built
nothing_built = record { meta = no_tree; meta_ended = false; set = no_elements }

-- ---- the meta group (PS3.10 7.1)

abbrev pub usable : List ℕ → Option Coding
usable [] = None
usable (c ∷ uid) = result_ok (coding_of (c ∷ uid))

-- the transfer syntax that the group names, and the coding that it means, unless it is missing, empty or deflated
abbrev pub named_syntax : Trees → List ℕ
named_syntax meta = without_pads (syntax_value meta)

abbrev pub named_coding : Trees → Option Coding
named_coding meta = usable (named_syntax meta)

-- fragment lists stand in explicit little endian alone (PS3.5 A.4)
abbrev pub allows_fragments : Option Coding → Bool
allows_fragments None = false
allows_fragments (Some coding) = holds_fragments coding.syntax

-- ---- a step at the end of the innermost container

abbrev pub step_in_set : Step → Trees → Option Tag → Bool → Front
step_in_set (show_leaf tag vr value) whole reached closed =
    front (then_trees whole (leaf tag vr (unwrap_or value []) no_tree)) nothing_open (Some tag) closed
step_in_set (begin_sequence tag vr) whole reached closed =
    front whole (open_sequence tag vr Undefined no_item no_open_item) (Some tag) closed
step_in_set (begin_fragments tag vr) whole reached closed =
    front whole (open_fragments tag vr [] None) (Some tag) closed
step_in_set _ whole reached closed = front whole nothing_open reached closed

-- in a sequence without an open item
abbrev pub step_in_sequence : Step → Trees → Tag → Vr → Items → Option Tag → Bool → Front
step_in_sequence begin_item whole tag vr items reached closed =
    front whole (open_sequence tag vr Undefined items (open_item Undefined no_elements)) reached closed
step_in_sequence end_sequence whole tag vr items reached closed =
    front (then_trees whole (sequence tag vr Undefined items no_tree)) nothing_open reached closed
step_in_sequence _ whole tag vr items reached closed =
    front whole (open_sequence tag vr Undefined items no_open_item) reached closed

abbrev pub step_in_fragments : Step → Trees → Tag → Vr → List (List ℕ) → Option Tag → Bool → Front
step_in_fragments (show_fragment value) whole tag vr values reached closed =
    front whole (open_fragments tag vr (values ++ unwrap_or value [] ∷ []) None) reached closed
step_in_fragments end_sequence whole tag vr values reached closed =
    front (then_trees whole (fragments tag vr values no_tree)) nothing_open reached closed
step_in_fragments _ whole tag vr values reached closed = front whole (open_fragments tag vr values None) reached closed

-- what an item holds, where the step ends it
abbrev pub finished : Step → Front → Option Trees
finished end_item (front whole nothing_open reached closed) = Some whole
finished _ (front whole open_tree reached closed) = None

abbrev pub step_in_item : Option Trees → Trees → Option Tag → Bool → Tag → Vr → Items → Front → Front
step_in_item None whole reached closed tag vr items set =
    front whole (open_sequence tag vr Undefined items (open_item Undefined set)) reached closed
step_in_item (Some held) whole reached closed tag vr items set =
    front whole (open_sequence tag vr Undefined (then_items items (item Undefined held no_item)) no_open_item) reached
    closed

-- a data set with one step more, which has its place there
unfoldable mutual
  pub with_step : Step → Front → Front
  with_step s (front whole open_tree reached closed) = with_open_step s whole reached closed open_tree

  pub with_open_step : Step → Trees → Option Tag → Bool → OpenTree → Front
  with_open_step s whole reached closed nothing_open = step_in_set s whole reached closed
  with_open_step s whole reached closed (open_leaf tag vr size value) =
      front whole (open_leaf tag vr size value) reached closed
  with_open_step s whole reached closed (open_sequence tag vr declared items last) =
      with_item_step s whole reached closed tag vr items last
  with_open_step s whole reached closed (open_fragments tag vr values last) =
      step_in_fragments s whole tag vr values reached closed

  pub with_item_step : Step → Trees → Option Tag → Bool → Tag → Vr → Items → OpenItem → Front
  with_item_step s whole reached closed tag vr items no_open_item = step_in_sequence s whole tag vr items reached closed
  with_item_step s whole reached closed tag vr items (open_item declared set) =
      step_in_item (finished s set) whole reached closed tag vr items (with_step s set)

-- ---- checks on a step

-- the containers that stand open, the innermost first; offsets have no meaning here
abbrev pub open_levels : Front → List Level
open_levels f = levels Little 0 f

abbrev pub innermost : List Level → Container
innermost [] = the_data_set
innermost (inner ∷ outer) = inner.container

abbrev pub holds_elements : Container → Bool
holds_elements the_data_set = true
holds_elements an_item = true
holds_elements _ = false

-- whether a step may come where this container is the innermost open one
abbrev pub has_place_in : Container → Step → Bool
has_place_in c (show_leaf tag vr value) = holds_elements c
has_place_in c (begin_sequence tag vr) = holds_elements c
has_place_in c (begin_fragments tag vr) = holds_elements c
has_place_in a_sequence begin_item = true
has_place_in a_sequence end_sequence = true
has_place_in a_fragment_list (show_fragment value) = true
has_place_in a_fragment_list end_sequence = true
has_place_in an_item end_item = true
has_place_in c s = false

-- the tag of the element that a step shows or opens
abbrev pub element_tag : Step → Option Tag
element_tag (show_leaf tag vr value) = Some tag
element_tag (begin_sequence tag vr) = Some tag
element_tag (begin_fragments tag vr) = Some tag
element_tag _ = None

abbrev pub is_of_meta : Option Tag → Bool
is_of_meta None = false
is_of_meta (Some tag) = tag.group == 2

abbrev pub is_meta : Step → Bool
is_meta s = is_of_meta (element_tag s)

abbrev pub is_fragment_opening : Step → Bool
is_fragment_opening (begin_fragments tag vr) = true
is_fragment_opening _ = false

abbrev pub is_opening : Step → Bool
is_opening (begin_sequence tag vr) = true
is_opening (begin_fragments tag vr) = true
is_opening _ = false

-- it has no place there, or opens a list in the meta group, or fragments in a syntax that has none
abbrev pub is_misplaced : Step → Built → Bool
is_misplaced s b =
    not (has_place_in (innermost (open_levels b.set)) s)
    || (is_opening s && is_meta s)
    || (is_fragment_opening s && not (allows_fragments (named_coding b.meta)))

abbrev pub is_after : Option Tag → Option Tag → Bool
is_after reached None = true
is_after reached (Some tag) = is_above tag reached

-- the lines of the meta group may come in any order
abbrev pub is_out_of_order : Step → Built → Bool
is_out_of_order s b = not (is_meta s) && not (is_after (innermost_reached b.set) (element_tag s))

abbrev pub lacks_value : Step → Bool
lacks_value (show_leaf tag vr value) = is_none value
lacks_value (show_fragment value) = is_none value
lacks_value _ = false

abbrev pub is_too_deep : Step → Built → Bool
is_too_deep s b = is_opening s && nat_le 64 (depth (open_levels b.set))

abbrev pub with_meta : Step → Trees → Trees
with_meta (show_leaf tag vr value) meta = then_trees meta (leaf tag vr (unwrap_or value []) no_tree)
with_meta _ meta = meta

-- heads and values of the group without pad bytes, its length and all transfer syntaxes among them
abbrev pub is_meta_too_large : Step → Built → Bool
is_meta_too_large s b = is_meta s && nat_lt META_LIMIT (trees_size Little (with_meta s b.meta))

-- what the step adds, once no check refuses it
abbrev pub accepted : Step → Built → Built
accepted s b = if is_meta s then record b { meta = with_meta s b.meta } else record b { set = with_step s b.set }

-- the fault of the first check that fails
abbrev pub first_fault : List (Bool × LineFault) → Option LineFault
first_fault [] = None
first_fault (c ∷ more) = if c.0 then Some c.1 else first_fault more

-- a fault, and what was built before it
pub record Refused : Type 0 where
  pub fault : LineFault
  pub built : Built

abbrev pub refused : LineFault → Built → Result Built Refused
refused fault b = Err (record { fault = fault; built = b })

abbrev pub group_checks : Step → Built → List (Bool × LineFault)
group_checks s b =
    -- B6, the meta group has ended
    (is_meta s && b.meta_ended, BadMetaGroup)
    -- B7
    ∷ (not (is_meta s) && not b.meta_ended && is_none (named_coding b.meta), NoTransferSyntax)
    ∷ []

abbrev pub step_checks : Step → Built → List (Bool × LineFault)
step_checks s b =
    -- B4
    (is_misplaced s b, NotAllowed)
    -- B5
    ∷ (is_out_of_order s b, NotAscending)
    -- B3
    ∷ (lacks_value s, ValueDoesNotFit)
    -- B8
    ∷ (is_too_deep s b, TooDeep)
    -- B6, the meta group is too large
    ∷ (is_meta_too_large s b, BadMetaGroup)
    ∷ []

-- the first line of another group ends the meta group, whatever else is wrong with it
abbrev pub in_group : Step → Built → Built
in_group s b = record b { meta_ended = b.meta_ended || not (is_meta s) }

abbrev pub checked : Step → Built → Result Built Refused
checked s b = elim (first_fault (step_checks s b)) [ Some fault ↦ refused fault b | None ↦ Ok (accepted s b) ]

abbrev pub with_shown : Step → Built → Result Built Refused
with_shown s b = elim (first_fault (group_checks s b))
    [ Some fault ↦ refused fault b | None ↦ checked s (in_group s b) ]

-- ---- lines

abbrev pub without_return_reversed : List ℕ → List ℕ
without_return_reversed [] = []
without_return_reversed (c ∷ cs) = if c == byte "\r" then cs else c ∷ cs

-- a line without a carriage return at its end
abbrev pub without_return : List ℕ → List ℕ
without_return line = reverse (without_return_reversed (reverse line))

abbrev pub with_meaning : Meaning → Built → Result Built Refused
with_meaning nothing b = Ok b
with_meaning (one s) b = with_shown s b
-- B10
with_meaning by_characters b = refused ByCharacters b
-- B2
with_meaning no_line b = refused NotALine b

-- its bytes before the newline count against the limit: B1
abbrev pub line_built : (limit : ℕ) → List ℕ → Built → Result Built Refused
line_built limit line b = elim
    (nat_lt limit (length line)) [ true ↦ refused LineTooLong b | false ↦ with_meaning (means (without_return line)) b ]

-- what the lines so far have built, where the next one begins and which it is; or the first fault, which stays
pub record Progress : Type 0 where
  pub built : Built
  pub offset : ℕ
  pub line : ℕ
  pub told : Option LineStop

abbrev pub at_start : Progress
at_start = record { built = nothing_built; offset = 0; line = 1; told = None }

abbrev pub tell : LineFault → ℕ → ℕ → Progress → Progress
tell fault offset line p = record p { told = Some (record { fault = fault; offset = offset; line = line }) }

abbrev pub moved : (size : ℕ) → Progress → Result Built Refused → Progress
moved size p (Ok b) = record p { built = b; offset = p.offset + size + 1; line = suc p.line }
moved size p (Err r) = tell r.fault p.offset p.line (record p { built = r.built })

abbrev pub with_line : (limit : ℕ) → Progress → List ℕ → Progress
with_line limit p line = elim p.told [ Some t ↦ p | None ↦ moved (length line) p (line_built limit line p.built) ]

-- the lines that a newline ends, and the bytes behind the last newline
pub record Lines : Type 0 where
  pub ended : List (List ℕ)
  pub rest : List ℕ

abbrev pub lines : List (List ℕ) → List ℕ → Lines
lines ended rest = record { ended = ended; rest = rest }

abbrev pub more_lines : List ℕ → Lines → Lines
more_lines line l = lines (line ∷ l.ended) l.rest

abbrev pub last_apart : List (List ℕ) → Lines
last_apart [] = lines [] []
last_apart (rest ∷ []) = lines [] rest
last_apart (line ∷ next ∷ more) = more_lines line (last_apart (next ∷ more))

abbrev pub lines_of : List ℕ → Lines
lines_of bytes = last_apart (slice_split (λ c. c == byte "\n") bytes)

-- what the lines that a newline ends have built
abbrev pub built_by : (limit : ℕ) → List (List ℕ) → Progress
built_by limit ended = fold (with_line limit) at_start ended

-- ---- the end

-- the last line may lack its newline
abbrev pub with_rest : (limit : ℕ) → List ℕ → Progress → Progress
with_rest limit [] p = p
with_rest limit (c ∷ cs) p = with_line limit p (c ∷ cs)

abbrev pub is_the_top : Container → Bool
is_the_top the_data_set = true
is_the_top _ = false

-- the meta group ends where no line of another group came, and nothing may stand open
abbrev pub end_checks : Built → List (Bool × LineFault)
end_checks b =
    -- B7
    (not b.meta_ended && is_none (named_coding b.meta), NoTransferSyntax)
    -- B9
    ∷ (not (is_the_top (innermost (open_levels b.set))), EndsEarly)
    ∷ []

abbrev pub meta_has_ended : Built → Built
meta_has_ended b = record b { meta_ended = b.meta_ended || is_some (named_coding b.meta) }

abbrev pub at_input_end : (size : ℕ) → Progress → Progress
at_input_end size p = elim p.told [
  | Some t ↦ p
  | None ↦ elim (first_fault (end_checks p.built)) [
    | Some fault ↦ tell fault size p.line (record p { built = meta_has_ended p.built })
    | None ↦ record p { built = meta_has_ended p.built }
  ]
]

abbrev pub built_whole : (limit size : ℕ) → Lines → Progress
built_whole limit size l = at_input_end size (with_rest limit l.rest (built_by limit l.ended))

-- an input that is cut at the limit ends in the middle of a line: B1, or R15
abbrev pub at_the_cut : (limit : ℕ) → List ℕ → Progress → Progress
at_the_cut limit rest p = elim p.told [
  | Some t ↦ p
  | None ↦ if nat_lt limit (length rest) then tell LineTooLong p.offset p.line p else tell TooLong INPUT_LIMIT 0 p
]

abbrev pub built_cut : (limit : ℕ) → Lines → Progress
built_cut limit l = at_the_cut limit l.rest (built_by limit l.ended)

-- what the lines before the first fault have built, and that fault
unfoldable pub built : (limit : ℕ) → List ℕ → Progress
built limit bytes = elim (nat_lt INPUT_LIMIT (length bytes)) [
  | true ↦ built_cut limit (lines_of (take INPUT_LIMIT bytes))
  | false ↦ built_whole limit (length bytes) (lines_of bytes)
]

-- ---- what is written

abbrev pub coding_or_little : Option Coding → Syntax
coding_or_little None = Little
coding_or_little (Some coding) = coding.syntax

-- behind the end of the meta group: a preamble of zeros, the prefix, the group and the data set; and before it nothing
abbrev pub built_bytes : Built → List ℕ
built_bytes b =
    if b.meta_ended
    then replicate 128 0 ++ PREFIX ++ new_meta b.meta (named_syntax b.meta)
    ++ recode (coding_or_little (named_coding b.meta)) b.set
    else []

-- of the beginning of an input: what the lines that have ended have built
abbrev pub written_so_far : (limit : ℕ) → List ℕ → List ℕ
written_so_far limit bytes = built_bytes (built_by limit (lines_of bytes).ended).built

-- ---- what the lines of a full dump build of these trees: values as they are shown, and undefined lengths

unfoldable mutual
  pub rebuilt : Trees → Trees
  rebuilt no_tree = no_tree
  rebuilt (leaf tag vr value rest) = leaf tag vr (value_shown vr value) (rebuilt rest)
  rebuilt (sequence tag vr declared items rest) = sequence tag vr Undefined (rebuilt_items items) (rebuilt rest)
  rebuilt (fragments tag vr values rest) = fragments tag vr values (rebuilt rest)

  pub rebuilt_items : Items → Items
  rebuilt_items no_item = no_item
  rebuilt_items (item declared set rest) = item Undefined (rebuilt set) (rebuilt_items rest)
