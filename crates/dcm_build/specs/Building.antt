-- A file that is built byte by byte from the lines of a dump, in a fixed room.
use Rattle.std.specs.Prelude.{ℕ, suc, ◌+◌, ◌==◌, ◌&&◌, ◌||◌, not, nat_le, nat_lt, Bool, true, false, if◌then◌else◌}
use Rattle.std.specs.Prelude.{List, [], ◌∷◌, ◌++◌, length, map, fold, Option, Some, None, is_none, is_some, unwrap_or}
use Rattle.std.specs.Str.{byte}
use Rattle.dcm_base.specs.declared.level.TheConstants.{MOST_LISTS}
use Rattle.dcm_base.specs.declared.length.Length.TheVariants.{Known, Undefined}
use Rattle.dcm_base.specs.Tables.Syntax.{Little}
use Rattle.dcm_base.specs.declared.fault.LineFault.{LineFault}
use Rattle.dcm_base.specs.declared.fault.LineFault.TheVariants.{LineTooLong, NotALine, ValueDoesNotFit, NotAllowed}
use Rattle.dcm_base.specs.declared.fault.LineFault.TheVariants.{NotAscending, BadMetaGroup, NoTransferSyntax, TooDeep}
use Rattle.dcm_base.specs.declared.fault.LineFault.TheVariants.{EndsEarly, ByCharacters, TooLong}
use Rattle.dcm_base.specs.Steps.Atoms.{Atom, opens, value_byte, closes_leaf, opens_item, closes_item, closes_sequence}
use Rattle.dcm_base.specs.Steps.Atoms.{opens_fragment}
use Rattle.dcm_base.specs.Lines.Build.{named_coding, coding_or_little, allows_fragments, has_place_in, element_tag}
use Rattle.dcm_base.specs.Lines.Build.{is_meta, is_opening, is_fragment_opening, is_after, lacks_value, first_fault}
use Rattle.dcm_base.specs.Lines.Build.{without_return, is_the_top}
use Rattle.dcm_base.specs.declared.fault.LineStop.{LineStop}
use Rattle.dcm_base.specs.Bytes.Head.{head_size}
use Rattle.dcm_base.specs.Lines.Line.{Step, show_leaf, begin_sequence, begin_fragments, begin_item, show_fragment}
use Rattle.dcm_base.specs.Lines.Line.{end_item, end_sequence, Meaning, nothing, one, by_characters, no_line, means}
use Rattle.dcm_base.specs.File.MetaGroup.{META_LIMIT}
use Rattle.dcm_base.specs.Reading.Reads.{INPUT_LIMIT}
use Rattle.dcm_base.specs.Reading.Size.{trees_size}
use Rattle.dcm_base.specs.Steps.Steps.{outputs}
use Rattle.dcm_sinks.specs.EncodeSink.{EncodeState, encode_start, encode_step, encode_writes}
use Rattle.dcm_build.specs.NewGroup.{Shown, shown, trees_of, file_head}
use Rattle.dcm_build.specs.OpenContainers.{OpenContainers, at_top, container_of, reached_in, lists_open, standing_with}

pub record BuildState : Type 0 where
  pub limit : ℕ
  -- the bytes of the line that has not ended, where it begins and which it is
  pub line : List ℕ
  pub offset : ℕ
  pub number : ℕ
  -- the elements that the lines of the meta group have shown, and whether it has ended
  pub meta : List Shown
  pub meta_ended : Bool
  -- what is open of the data set, and how it is written
  pub standing : OpenContainers
  pub encoding : EncodeState
  -- the first fault, which stays
  pub told : Option LineStop

abbrev pub build_start : ℕ → BuildState
build_start limit = record {
  limit = limit;
  line = [];
  offset = 0;
  number = 1;
  meta = [];
  meta_ended = false;
  standing = at_top;
  encoding = encode_start Little;
  told = None;
}

-- ---- the meta group

-- what a line of the group shows, in bytes
abbrev pub shown_size : Step → ℕ
shown_size (show_leaf tag vr value) = head_size Little vr + length (unwrap_or value [])
shown_size _ = 0

abbrev pub with_meta : Step → BuildState → BuildState
with_meta (show_leaf tag vr value) s = record s { meta = s.meta ++ shown tag vr (unwrap_or value []) ∷ [] }
with_meta _ s = s

-- what is written when the group has ended
abbrev pub file_start : BuildState → List ℕ
file_start s = file_head s.meta

-- the first line of another group ends the meta group, whatever else is wrong with it
abbrev pub ends_meta : Step → BuildState → Bool
ends_meta step s = not (is_meta step) && not s.meta_ended

abbrev pub meta_over : BuildState → BuildState
meta_over s = record s {
  meta_ended = true;
  encoding = encode_start (coding_or_little (named_coding (trees_of s.meta)));
}

abbrev pub in_group : Step → BuildState → BuildState
in_group step s = if ends_meta step s then meta_over s else s

-- what a step writes of the group, which it ends or does not
abbrev pub leaving_writes : Step → BuildState → List ℕ
leaving_writes step s = if ends_meta step s then file_start s else []

-- ---- checks on a step

abbrev pub group_checks : Step → BuildState → List (Bool × LineFault)
group_checks step s =
    (is_meta step && s.meta_ended, BadMetaGroup)
    ∷ (ends_meta step s && is_none (named_coding (trees_of s.meta)), NoTransferSyntax)
    ∷ []

abbrev pub is_misplaced : Step → BuildState → Bool
is_misplaced step s =
    not (has_place_in (container_of s.standing.containers) step)
    || (is_opening step && is_meta step)
    || (is_fragment_opening step && not (allows_fragments (named_coding (trees_of s.meta))))

abbrev pub is_out_of_order : Step → BuildState → Bool
is_out_of_order step s = not (is_meta step)
    && not (is_after (reached_in s.standing.reached s.standing.containers) (element_tag step))

abbrev pub is_too_deep : Step → BuildState → Bool
is_too_deep step s = is_opening step && nat_le MOST_LISTS (lists_open s.standing.containers)

abbrev pub is_meta_too_large : Step → BuildState → Bool
is_meta_too_large step s = is_meta step && nat_lt META_LIMIT (trees_size Little (trees_of s.meta) + shown_size step)

abbrev pub step_checks : Step → BuildState → List (Bool × LineFault)
step_checks step s =
    (is_misplaced step s, NotAllowed)
    ∷ (is_out_of_order step s, NotAscending)
    ∷ (lacks_value step, ValueDoesNotFit)
    ∷ (is_too_deep step s, TooDeep)
    ∷ (is_meta_too_large step s, BadMetaGroup)
    ∷ []

-- ---- a step

-- values are written as those of explicit little endian elements
abbrev pub value_atoms : List ℕ → List Atom
value_atoms value = map value_byte value ++ closes_leaf ∷ []

abbrev pub step_atoms : Step → List Atom
step_atoms (show_leaf tag vr value) = opens tag vr (Known (length (unwrap_or value []))) Little ∷ value_atoms
    (unwrap_or value [])
step_atoms (begin_sequence tag vr) = opens tag vr Undefined Little ∷ []
step_atoms (begin_fragments tag vr) = opens tag vr Undefined Little ∷ []
step_atoms begin_item = opens_item Undefined ∷ []
step_atoms (show_fragment value) = opens_fragment (length (unwrap_or value [])) ∷ value_atoms (unwrap_or value [])
step_atoms end_item = closes_item ∷ []
step_atoms end_sequence = closes_sequence ∷ []

abbrev pub tells : LineFault → BuildState → BuildState
tells fault s = record s { told = Some (record { fault = fault; offset = s.offset; line = s.number }) }

abbrev pub with_set : Step → BuildState → BuildState
with_set step s = record s {
  standing = standing_with step s.standing;
  encoding = fold encode_step s.encoding (step_atoms step);
}

abbrev pub taken : Step → BuildState → BuildState
taken step s = if is_meta step then with_meta step s else with_set step s

abbrev pub taken_writes : Step → BuildState → List ℕ
taken_writes step s = if is_meta step then [] else outputs encode_step encode_writes s.encoding (step_atoms step)

abbrev pub placed : Step → BuildState → BuildState
placed step s = elim (first_fault (step_checks step s)) [ Some fault ↦ tells fault s | None ↦ taken step s ]

abbrev pub placed_writes : Step → BuildState → List ℕ
placed_writes step s = elim (first_fault (step_checks step s)) [ Some fault ↦ [] | None ↦ taken_writes step s ]

abbrev pub shows : Step → BuildState → BuildState
shows step s = elim (first_fault (group_checks step s))
    [ Some fault ↦ tells fault s | None ↦ placed step (in_group step s) ]

abbrev pub shows_writes : Step → BuildState → List ℕ
shows_writes step s = elim (first_fault (group_checks step s)) [
  | Some fault ↦ []
  | None ↦ (if ends_meta step s then file_start s else []) ++ placed_writes step (in_group step s)
]

-- ---- lines

abbrev pub meaning_taken : Meaning → BuildState → BuildState
meaning_taken nothing s = s
meaning_taken (one step) s = shows step s
meaning_taken by_characters s = tells ByCharacters s
meaning_taken no_line s = tells NotALine s

abbrev pub meaning_writes : Meaning → BuildState → List ℕ
meaning_writes nothing s = []
meaning_writes (one step) s = shows_writes step s
meaning_writes by_characters s = []
meaning_writes no_line s = []

-- the next line begins after so many bytes and a newline, unless this one is at fault
abbrev pub next_line : ℕ → BuildState → BuildState
next_line size s = elim s.told [
  | Some t ↦ s
  | None ↦ record s { line = []; offset = s.offset + size + 1; number = suc s.number }
]

-- the line has ended
abbrev pub line_taken : BuildState → BuildState
line_taken s = next_line (length s.line) (meaning_taken (means (without_return s.line)) s)

abbrev pub line_writes : BuildState → List ℕ
line_writes s = meaning_writes (means (without_return s.line)) s

-- one byte of a line
abbrev pub line_byte : ℕ → BuildState → BuildState
line_byte b s = if nat_lt (length s.line) s.limit then record s { line = s.line ++ b ∷ [] } else tells LineTooLong s

-- no byte is read past the limit of an input
abbrev pub is_cut : BuildState → Bool
is_cut s = nat_le INPUT_LIMIT (s.offset + length s.line)

abbrev pub cut_short : BuildState → BuildState
cut_short s = record s { told = Some (record { fault = TooLong; offset = INPUT_LIMIT; line = 0 }) }

abbrev pub going_step : BuildState → ℕ → BuildState
going_step s b = if is_cut s then cut_short s else if b == byte "\n" then line_taken s else line_byte b s

abbrev pub going_writes : BuildState → ℕ → List ℕ
going_writes s b = if is_cut s then [] else if b == byte "\n" then line_writes s else []

abbrev pub build_step : BuildState → ℕ → BuildState
build_step s b = elim s.told [ Some t ↦ s | None ↦ going_step s b ]

abbrev pub build_writes : BuildState → ℕ → List ℕ
build_writes s b = elim s.told [ Some t ↦ [] | None ↦ going_writes s b ]

-- ---- the end of the input

-- the last line may lack its newline
abbrev pub last_line : BuildState → BuildState
last_line s = elim s.line [ [] ↦ s | c ∷ cs ↦ line_taken s ]

abbrev pub last_writes : BuildState → List ℕ
last_writes s = elim s.line [ [] ↦ [] | c ∷ cs ↦ line_writes s ]

abbrev pub end_checks : BuildState → List (Bool × LineFault)
end_checks s =
    (not s.meta_ended && is_none (named_coding (trees_of s.meta)), NoTransferSyntax)
    ∷ (not (is_the_top (container_of s.standing.containers)), EndsEarly)
    ∷ []

-- reported at the input's size
abbrev pub tells_at_end : ℕ → LineFault → BuildState → BuildState
tells_at_end size fault s = record s { told = Some (record { fault = fault; offset = size; line = s.number }) }

-- the meta group ends where no line of another group came
abbrev pub ended_meta : BuildState → BuildState
ended_meta s = if not s.meta_ended && is_some (named_coding (trees_of s.meta)) then meta_over s else s

abbrev pub end_writes : BuildState → List ℕ
end_writes s = if not s.meta_ended && is_some (named_coding (trees_of s.meta)) then file_start s else []

abbrev pub closed : ℕ → BuildState → BuildState
closed size s = elim s.told [
  | Some t ↦ s
  | None ↦ elim (first_fault (end_checks s))
      [ Some fault ↦ tells_at_end size fault (ended_meta s) | None ↦ ended_meta s ]
]

abbrev pub closed_writes : BuildState → List ℕ
closed_writes s = elim s.told [ Some t ↦ [] | None ↦ end_writes s ]

-- how many bytes were read, where none was refused
abbrev pub read_size : BuildState → ℕ
read_size s = s.offset + length s.line

abbrev pub finishes : BuildState → BuildState
finishes s = elim s.told [ Some t ↦ s | None ↦ closed (read_size s) (last_line s) ]

abbrev pub finish_writes : BuildState → List ℕ
finish_writes s = elim s.told [ Some t ↦ [] | None ↦ last_writes s ++ closed_writes (last_line s) ]
