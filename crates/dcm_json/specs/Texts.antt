-- The values of a text as JSON has them (PS3.5 6.2, PS3.18 F.2).
use Rattle.std.specs.Prelude.{ℕ, Bool, true, false, ◌&&◌, ◌==◌, not, if◌then◌else◌, List, [], ◌∷◌, ◌++◌, filter, map, flat_map, codes}
use Rattle.std.specs.List.{concat, slice_split, before_first, after_first}
use Rattle.dcm_base.specs.declared.vr.Vr.{Vr}
use Rattle.dcm_text.specs.declared.sets.Sets.{Sets}
use Rattle.dcm_text.specs.Decoding.{decoded}
use Rattle.dcm_text.specs.Shown.{cell_piece}
use Rattle.dcm_value.specs.DecodedProgress.{kind_of, sets_for}
use Rattle.json.specs.Token.{Token, begin_object, end_object, begin_array, end_array, key, string, number, null}
use Rattle.dcm_json.specs.declared.shape.TextShape.{TextShape}
use Rattle.dcm_json.specs.declared.shape.Group.{Group}
use Rattle.dcm_json.specs.declared.shape.Group.TheVariants.{Alphabetic, Ideographic, Phonetic}
use Rattle.dcm_json.specs.NumberText.{is_number}
use Rattle.dcm_json.specs.Shape.{group_key, is_cut, is_names, is_numeric, shape_of}
use Rattle.dcm_json.specs.Values.{is_empty, is_one}

-- ---- a text

-- what is shown of a text, part by part: of each character its bytes in UTF-8, of a byte without one \xNN
abbrev pub Parts : Type 0
Parts = List (List ℕ)

-- one byte 00 at the end of a value does not count
abbrev pub without_nul : List ℕ → List ℕ
without_nul [] = []
without_nul (b ∷ []) = if b == 0 then [] else b ∷ []
without_nul (b ∷ c ∷ bytes) = b ∷ without_nul (c ∷ bytes)

-- by what is in force at its head; a designation shows nothing
abbrev pub parts_of : Sets → Vr → List ℕ → Parts
parts_of sets vr value =
    filter (λ x. not (is_empty x)) (map cell_piece (decoded (sets_for vr sets) (kind_of vr) (without_nul value)))

-- ---- its values

-- a character of its own, between values or within one
abbrev pub is_backslash : List ℕ → Bool
is_backslash x = is_one 92 x

abbrev pub is_equals : List ℕ → Bool
is_equals x = is_one 61 x

abbrev pub is_space : List ℕ → Bool
is_space x = is_one 32 x

-- cut at each backslash, but of LT ST UT UR
abbrev pub values_of : TextShape → Parts → List Parts
values_of shape parts = slice_split (λ x. is_backslash x && is_cut shape) parts

-- spaces at the end of a value do not count
abbrev pub before_end : List ℕ → Parts → Parts
before_end x [] = if is_space x then [] else x ∷ []
before_end x (y ∷ parts) = x ∷ y ∷ parts

abbrev pub without_end_spaces : Parts → Parts
without_end_spaces [] = []
without_end_spaces (x ∷ parts) = before_end x (without_end_spaces parts)

-- of DS and IS those at its beginning neither
abbrev pub without_first_spaces : Parts → Parts
without_first_spaces [] = []
without_first_spaces (x ∷ parts) = if is_space x then without_first_spaces parts else x ∷ parts

abbrev pub without_spaces : Bool → Parts → Parts
without_spaces true value = without_end_spaces (without_first_spaces value)
without_spaces false value = without_end_spaces value

abbrev pub text_of : Parts → List ℕ
text_of parts = concat (without_end_spaces parts)

-- ---- their tokens

-- an empty value is null; a number is one where JSON has it so
abbrev pub text_token : TextShape → List ℕ → Token
text_token shape text = if is_empty text then null else if is_number shape text then number text else string text

-- a group of a name that is not empty is a member
abbrev pub group_member : Group → Parts → List Token
group_member group parts = if is_empty (text_of parts) then [] else key (group_key group) ∷ string (text_of parts) ∷ []

-- a name is cut at its first two `=` (PS3.5 6.2.1.2)
abbrev pub phonetic_members : Parts → List Token
phonetic_members parts = group_member Phonetic parts

abbrev pub ideographic_members : Parts → List Token
ideographic_members parts = group_member Ideographic (before_first is_equals parts) ++ phonetic_members (after_first is_equals parts)

abbrev pub name_members : Parts → List Token
name_members parts = group_member Alphabetic (before_first is_equals parts) ++ ideographic_members (after_first is_equals parts)

-- a name without members is an empty value
abbrev pub name_of : List Token → List Token
name_of [] = null ∷ []
name_of (t ∷ members) = begin_object ∷ (t ∷ members) ++ end_object ∷ []

abbrev pub tokens_by : (is_names : Bool) → TextShape → Parts → List Token
tokens_by true shape value = name_of (name_members value)
tokens_by false shape value = text_token shape (concat (without_spaces (is_numeric shape) value)) ∷ []

abbrev pub value_tokens : TextShape → Parts → List Token
value_tokens shape value = tokens_by (is_names shape) shape value

abbrev pub is_null : List Token → Bool
is_null (null ∷ tokens) = true
is_null _ = false

abbrev pub array_of : List (List Token) → List Token
array_of values = key (codes "Value") ∷ begin_array ∷ (flat_map (λ (tokens : List Token). tokens) values ++ end_array ∷ [])

-- the values of an element; nothing where the only one is empty
abbrev pub member_of : List (List Token) → List Token
member_of [] = []
member_of (value ∷ []) = if is_null value then [] else array_of (value ∷ [])
member_of (value ∷ other ∷ values) = array_of (value ∷ other ∷ values)

abbrev pub values_tokens : TextShape → Parts → List Token
values_tokens shape parts = member_of (map (value_tokens shape) (values_of shape parts))

-- of a text, by its representation and by what is in force
abbrev pub text_tokens : Sets → Vr → List ℕ → List Token
text_tokens sets vr value = values_tokens (shape_of vr) (parts_of sets vr value)
