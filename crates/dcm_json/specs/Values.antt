-- The values of a text, written part by part: of each character what is shown of it, and of each byte without one.
use Rattle.std.specs.Prelude.{ℕ, ◌+◌, ◌==◌, Bool, true, false, ◌&&◌, ◌||◌, not, nat_le, if◌then◌else◌, List, [], ◌∷◌, ◌++◌, length, replicate}
use Rattle.std.specs.Prelude.{codes, fold, Option, Some, None}
use Rattle.std.specs.List.{list_all}
use Rattle.dcm_base.specs.Steps.Steps.{outputs}
use Rattle.json.specs.Print.{escape, quoted}
use Rattle.dcm_json.specs.declared.shape.TextShape.{TextShape}
use Rattle.dcm_json.specs.declared.shape.Group.{Group}
use Rattle.dcm_json.specs.declared.shape.Group.TheVariants.{Alphabetic}
use Rattle.dcm_json.specs.NumberText.{MOST_OF_NUMBER, is_number, is_of_number}
use Rattle.dcm_json.specs.Shape.{group_key, is_cut, is_names, is_numeric, next_group}

pub record Values : Type 0 where
  pub shape : TextShape
  -- whether the array stands, with a value before
  pub begun : Bool
  -- of the value on its way: the group of a name, and whether its object stands
  pub group : Group
  pub has_members : Bool
  -- what may still be a number
  pub digits : List ℕ
  -- whether its string stands open
  pub is_open : Bool
  -- spaces that count where something follows them
  pub spaces : ℕ

-- a value of which nothing came
abbrev pub blank : TextShape → (begun : Bool) → Values
blank shape begun = record {
  shape = shape;
  begun = begun;
  group = Alphabetic;
  has_members = false;
  digits = [];
  is_open = false;
  spaces = 0;
}

abbrev pub is_empty : List ℕ → Bool
is_empty [] = true
is_empty (b ∷ bytes) = false

-- one character of ASCII
abbrev pub is_one : (character : ℕ) → List ℕ → Bool
is_one c [] = false
is_one c (b ∷ []) = b == c
is_one c (b ∷ d ∷ bytes) = false

-- ---- what stands between values

-- before a value: the array's beginning before the first, and a comma before others
abbrev pub before : Bool → List ℕ
before true = codes ","
before false = codes ",\"Value\":["

-- the key of a group, and the quote of its string
abbrev pub group_opening : Group → List ℕ
group_opening group = codes "\"" ++ (group_key group ++ codes "\":\"")

abbrev pub name_opening : (has_members : Bool) → (begun : Bool) → Group → List ℕ
name_opening true begun group = codes "," ++ group_opening group
name_opening false begun group = before begun ++ (codes "{" ++ group_opening group)

-- up to the quote of a string
abbrev pub opening : Values → List ℕ
opening v = if is_names v.shape then name_opening v.has_members v.begun v.group else before v.begun ++ codes "\""

-- ---- what a part changes, and writes

-- what may still be a number goes on with it
abbrev pub may_be_number : Values → List ℕ → Bool
may_be_number v x =
    is_numeric v.shape && (v.spaces == 0 && (nat_le (length v.digits + length x) MOST_OF_NUMBER && list_all is_of_number x))

-- in a string
abbrev pub opened : Values → Values
opened v = record v { has_members = is_names v.shape; digits = []; is_open = true; spaces = 0 }

abbrev pub shown : Values → List ℕ → Values
shown v x =
    if v.is_open then record v { spaces = 0 }
    else if may_be_number v x then record v { digits = v.digits ++ x }
    else opened v

abbrev pub shown_writes : Values → List ℕ → List ℕ
shown_writes v x =
    if v.is_open then replicate v.spaces 32 ++ escape x
    else if may_be_number v x then []
    else (opening v ++ escape v.digits) ++ (replicate v.spaces 32 ++ escape x)

-- spaces at the beginning of what may be a number do not count
abbrev pub counts_spaces : Values → Bool
counts_spaces v = v.is_open || not (is_numeric v.shape && is_empty v.digits)

abbrev pub spaced : Values → ℕ → Values
spaced v n = if counts_spaces v then record v { spaces = v.spaces + n } else v

-- the end of a string
abbrev pub string_end : Bool → List ℕ
string_end true = codes "\""
string_end false = []

-- behind a `=` that ends a group
abbrev pub in_group : Values → Group → Values
in_group v group = record v { group = group; is_open = false; spaces = 0 }

-- what may be a number, at its end
abbrev pub digits_text : TextShape → List ℕ → List ℕ
digits_text shape digits = if is_number shape digits then digits else quoted digits

abbrev pub null_or_digits : TextShape → List ℕ → List ℕ
null_or_digits shape digits = if is_empty digits then codes "null" else digits_text shape digits

-- the end of a value
abbrev pub value_end : Values → List ℕ
value_end v =
    if v.has_members then string_end v.is_open ++ codes "}"
    else if v.is_open then codes "\""
    else before v.begun ++ null_or_digits v.shape v.digits

abbrev pub ended : Values → Values
ended v = blank v.shape true

abbrev pub group_behind : Values → List ℕ → Option Group
group_behind v x = if is_names v.shape && is_one 61 x then next_group v.group else None

-- a part that is no separator
abbrev pub plain_step : Values → List ℕ → Values
plain_step v x = if is_one 32 x then spaced v 1 else if is_empty x then v else shown v x

abbrev pub plain_writes : Values → List ℕ → List ℕ
plain_writes v x = if is_one 32 x then [] else if is_empty x then [] else shown_writes v x

abbrev pub step_by : Option Group → Values → List ℕ → Values
step_by (Some group) v x = in_group v group
step_by None v x = plain_step v x

abbrev pub writes_by : Option Group → Values → List ℕ → List ℕ
writes_by (Some group) v x = string_end v.is_open
writes_by None v x = plain_writes v x

abbrev pub step : Values → List ℕ → Values
step v x = if is_one 92 x && is_cut v.shape then ended v else step_by (group_behind v x) v x

abbrev pub writes : Values → List ℕ → List ℕ
writes v x = if is_one 92 x && is_cut v.shape then value_end v else writes_by (group_behind v x) v x

-- ---- the end of a text

-- nothing came of the value
abbrev pub is_blank : Values → Bool
is_blank v = not v.is_open && (not v.has_members && is_empty v.digits)

-- whether there is an array: nothing is written where the only value is empty
abbrev pub has_array : Values → Bool
has_array v = v.begun || not (is_blank v)

-- the end of the last value and of the array
abbrev pub finishes : Values → List ℕ
finishes v = if has_array v then value_end v ++ codes "]" else []

-- parts that are all there are
abbrev pub all_writes : TextShape → List (List ℕ) → List ℕ
all_writes shape parts =
    outputs step writes (blank shape false) parts ++ finishes (fold step (blank shape false) parts)
