-- What the lines of a dump mean.
use Rattle.std.specs.Prelude.{◌≡◌, ℕ, List, [], ◌∷◌, ◌++◌, take, drop, Option, Some, None, Bool, true, false, ◌&&◌}
use Rattle.std.specs.Prelude.{◌==◌, nat_eq, nat_le, if◌then◌else◌, codes, bytes_eq, reverse}
use Rattle.std.specs.List.{list_all, starts_with, ends_with}
use Rattle.std.specs.Str.{byte}
use Rattle.dcm_base.specs.declared.tag.Tag.{Tag}
use Rattle.dcm_base.specs.declared.vr.Vr.{Vr}
use Rattle.dcm_base.specs.declared.vr.Vr.TheVariants.{SQ, UN, OB, OW}
use Rattle.dcm_base.specs.Tables.Tag.{is_item, is_item_end, is_sequence_end}
use Rattle.dcm_base.specs.Tables.Representation.{vr_of}
use Rattle.dcm_base.specs.Lines.ReadValue.{◌>>=◌, tag_of_text, value_of_text}

-- one thing that a line shows; a value is missing where its text does not stand for one
pub data Step : Type 0 where
  show_leaf : (tag : Tag) (vr : Vr) (value : Option (List ℕ)) → Step
  begin_sequence : (tag : Tag) (vr : Vr) → Step
  begin_fragments : (tag : Tag) (vr : Vr) → Step
  begin_item : Step
  show_fragment : (value : Option (List ℕ)) → Step
  end_item : Step
  end_sequence : Step

-- a line shows nothing or one thing, or says that texts are shown as characters, or is no line of a dump
pub data Meaning : Type 0 where
  nothing : Meaning
  one : (step : Step) → Meaning
  by_characters : Meaning
  no_line : Meaning

abbrev pub space : ℕ
space = 32

abbrev pub without_spaces : List ℕ → List ℕ
without_spaces [] = []
without_spaces (c ∷ cs) = if c == space then without_spaces cs else c ∷ cs

-- the rest behind one or more spaces
abbrev pub past_spaces : List ℕ → Option (List ℕ)
past_spaces [] = None
past_spaces (c ∷ cs) = if c == space then Some (without_spaces cs) else None

-- nothing, or a comment
abbrev pub is_end : List ℕ → Bool
is_end [] = true
is_end (c ∷ cs) = c == byte "#"

abbrev pub is_skipped : List ℕ → Bool
is_skipped line = is_end (without_spaces line)

-- how a comment ends that says that texts are shown as characters
abbrev pub CHARACTERS_MARK : List ℕ
CHARACTERS_MARK = codes "(texts in UTF-8)"

abbrev pub without_last_spaces : List ℕ → List ℕ
without_last_spaces line = reverse (without_spaces (reverse line))

abbrev pub is_marked : List ℕ → Bool
is_marked line = ends_with nat_eq (without_last_spaces line) CHARACTERS_MARK

-- a value field and what follows it
pub record Field : Type 0 where
  pub value : List ℕ
  pub rest : List ℕ

abbrev pub field : List ℕ → List ℕ → Field
field value rest = record { value = value; rest = rest }

abbrev pub with_front : ℕ → Field → Field
with_front c f = field (c ∷ f.value) f.rest

-- up to the first closing bracket, with it
abbrev pub through_bracket : List ℕ → Field
through_bracket [] = field [] []
through_bracket (c ∷ cs) = if c == byte "]" then field (c ∷ []) cs else with_front c (through_bracket cs)

abbrev pub at_space_or_end : List ℕ → Bool
at_space_or_end [] = true
at_space_or_end (c ∷ cs) = c == space

-- up to the first closing parenthesis that a space or the line's end follows, with it
abbrev pub through_parenthesis : List ℕ → Field
through_parenthesis [] = field [] []
through_parenthesis (c ∷ cs) = if c == byte ")" && at_space_or_end cs then field (c ∷ []) cs
    else with_front c (through_parenthesis cs)

abbrev pub up_to_space : List ℕ → Field
up_to_space [] = field [] []
up_to_space (c ∷ cs) = if c == space then field [] (c ∷ cs) else with_front c (up_to_space cs)

-- the value field at the front of bytes, which its first byte decides
abbrev pub value_field : List ℕ → Field
value_field [] = field [] []
value_field (c ∷ cs) =
    if c == byte "["
    then through_bracket (c ∷ cs)
    else (if c == byte "(" then through_parenthesis (c ∷ cs) else up_to_space (c ∷ cs))

abbrev pub begins : List ℕ → List ℕ → Bool
begins text cs = starts_with nat_eq cs text

-- what a value field shows, behind which nothing or a comment stands
abbrev pub with_value : (List ℕ → Step) → List ℕ → Meaning
with_value show cs = if is_skipped (value_field cs).rest then one (show (value_field cs).value) else no_line

abbrev pub only_where : Bool → Step → Meaning
only_where b step = if b then one step else no_line

abbrev pub is_item_group : Tag → Bool
is_item_group tag = tag.group == 0xFFFE

-- items, fragments and ends; behind a beginning that is named here the rest of the line has no meaning
abbrev pub item_meaning : Tag → List ℕ → List ℕ → Meaning
item_meaning tag letters cs =
    if is_item tag && bytes_eq letters (codes "pi") then with_value (λ v. show_fragment (value_of_text OB v)) cs
    else if is_item tag then only_where (bytes_eq letters (codes "na") && begins (codes "(Item with") cs) begin_item
    else if is_item_end tag then only_where (bytes_eq letters (codes "na")
    && begins (codes "(ItemDelimitationItem") cs) end_item
    else only_where (is_sequence_end tag && bytes_eq letters (codes "na")
    && begins (codes "(SequenceDelimitationItem") cs) end_sequence

abbrev pub may_be_sequence : Vr → Bool
may_be_sequence SQ = true
may_be_sequence UN = true
may_be_sequence _ = false

abbrev pub may_be_fragments : Vr → Bool
may_be_fragments OB = true
may_be_fragments OW = true
may_be_fragments _ = false

abbrev pub element_meaning : Tag → Option Vr → List ℕ → Meaning
element_meaning tag None cs = no_line
element_meaning tag (Some vr) cs =
    if may_be_sequence vr && begins (codes "(Sequence with") cs then one (begin_sequence tag vr)
    else if may_be_fragments vr && begins (codes "(PixelSequence") cs then one (begin_fragments tag vr)
    else with_value (λ v. show_leaf tag vr (value_of_text vr v)) cs

-- the tag, the letters, and all from the value field on
pub record Parts : Type 0 where
  pub tag : Tag
  pub letters : List ℕ
  pub rest : List ℕ

abbrev pub parts : List ℕ → Option Parts
parts line =
    let body = without_spaces line in
    tag_of_text (take 11 body) >>= λ tag. past_spaces (drop 11 body) >>= λ named.
    past_spaces (drop 2 named) >>= λ rest.
    if is_end rest then None else Some (record { tag = tag; letters = take 2 named; rest = rest })

abbrev pub meaning_of : Option Parts → Meaning
meaning_of None = no_line
meaning_of (Some p) = if is_item_group p.tag then item_meaning p.tag p.letters p.rest
    else element_meaning p.tag (vr_of p.letters) p.rest

abbrev pub comment_meaning : List ℕ → Meaning
comment_meaning line = if is_marked line then by_characters else nothing

-- what one line means, without its newline and a carriage return before it
abbrev pub means : List ℕ → Meaning
means line = if is_skipped line then comment_meaning line else meaning_of (parts line)

-- a line means this, whose bytes before its newline are no controls
pub record LineMeans (line : List ℕ) (m : Meaning) : Type 0 where
  pub body : List ℕ
  pub is : line ≡ body ++ 10 ∷ []
  pub printed : list_all (λ c. nat_le 32 c) body ≡ true
  pub means_is : means body ≡ m
