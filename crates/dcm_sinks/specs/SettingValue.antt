-- What is in force, atom by atom.
use Rattle.std.specs.Prelude.{ℕ, nat_lt, Bool, true, false, not, ◌||◌, if◌then◌else◌, List, [], ◌∷◌, ◌++◌, length}
use Rattle.std.specs.Prelude.{Option, Some, None, option_map}
use Rattle.dcm_base.specs.declared.tag.Tag.{Tag}
use Rattle.dcm_base.specs.declared.vr.Vr.{Vr}
use Rattle.dcm_base.specs.declared.syntax.Syntax.{Syntax}
use Rattle.dcm_base.specs.declared.form.Form.{Form}
use Rattle.dcm_base.specs.declared.form.Form.TheVariants.{Value as a_value, Sequence as a_sequence}
use Rattle.dcm_base.specs.declared.form.Form.TheVariants.{FragmentList as a_fragment_list, Nothing as no_form}
use Rattle.dcm_base.specs.declared.level.TheConstants.{MOST_OPEN}
use Rattle.dcm_base.specs.Bytes.Spelling.{form, read_as}
use Rattle.dcm_base.specs.Steps.Atoms.{Atom, opens, value_byte, closes_leaf, opens_item, closes_item, closes_sequence}
use Rattle.dcm_base.specs.Steps.Atoms.{opens_fragment, ends}
use Rattle.dcm_head.specs.declared.head.Head.{Head}
use Rattle.dcm_text.specs.declared.sets.Sets.{Sets}
use Rattle.dcm_text.specs.Sets.{is_known, sets_of}
use Rattle.dcm_sinks.specs.InForce.{EMPTY, is_setting}
use Rattle.dcm_sinks.specs.declared.character_set.Setting.{Setting}

-- what is in force here, what is in force around each open item, the innermost first, and the value on its way of an
-- element that sets what is in force, where there is one; whether an earlier one named what is not known
pub record ForceState : Type 0 where
  pub sets : Sets
  pub around : List Sets
  pub setting : Option (List ℕ)
  pub unknown : Bool

-- before the outermost data set
abbrev pub force_start : ForceState
force_start = record { sets = EMPTY; around = []; setting = None; unknown = false }

-- ---- the value of an element that sets what is in force

-- whether a head is that of a leaf that does
abbrev pub opens_setting : Form → Tag → Vr → Bool
opens_setting a_value tag vr = is_setting tag vr
opens_setting a_sequence tag vr = false
opens_setting a_fragment_list tag vr = false
opens_setting no_form tag vr = false

abbrev pub head_sets : Head → Syntax → Bool
head_sets head syntax = opens_setting (form syntax (read_as syntax head.tag head.vr) head.length) head.tag head.vr

abbrev pub setting_opened : Bool → Option (List ℕ)
setting_opened true = Some []
setting_opened false = None

-- its bytes that are kept: of a longer value it counts that it is longer than 512 bytes
abbrev pub SETTING_LIMIT : ℕ
SETTING_LIMIT = 513

abbrev pub with_setting_byte : List ℕ → ℕ → List ℕ
with_setting_byte value b = if nat_lt (length value) SETTING_LIMIT then value ++ b ∷ [] else value

-- the value as the program holds it
abbrev pub setting_by : (is_open : Bool) → List ℕ → Option (List ℕ)
setting_by true value = Some value
setting_by false value = None

abbrev pub setting_of : Setting → Option (List ℕ)
setting_of setting = setting_by setting.is_open setting.value.items

abbrev pub force_by : Sets → (around : List Sets) → Setting → (unknown : Bool) → ForceState
force_by sets around setting unknown =
    record { sets = sets; around = around; setting = setting_of setting; unknown = unknown }

abbrev pub with_setting : ForceState → Option (List ℕ) → ForceState
with_setting f o = record f { setting = o }

-- what is in force behind the end of a value
abbrev pub sets_with : Option (List ℕ) → Sets → Sets
sets_with None sets = sets
sets_with (Some value) sets = sets_of value

-- whether that value names what is not known
abbrev pub names_unknown : Option (List ℕ) → Bool
names_unknown None = false
names_unknown (Some value) = not (is_known value)

-- ---- items

-- an item begins with what is in force around its sequence
abbrev pub entered : Sets → List Sets → List Sets
entered sets around = if nat_lt (length around) MOST_OPEN then sets ∷ around else around

-- what it sets ends with it
abbrev pub sets_left : Sets → List Sets → Sets
sets_left sets [] = sets
sets_left sets (outside ∷ others) = outside

abbrev pub around_left : List Sets → List Sets
around_left [] = []
around_left (outside ∷ others) = others

abbrev pub item_entered : ForceState → ForceState
item_entered f = record f { around = entered f.sets f.around }

-- ---- all of it

abbrev pub force_step : ForceState → Atom → ForceState
force_step f (opens tag vr declared s) =
    record f { setting = setting_opened (opens_setting (form s (read_as s tag vr) declared) tag vr) }
force_step f (value_byte b) =
    with_setting f (option_map (λ (value : List ℕ). with_setting_byte value b) f.setting)
force_step f closes_leaf = record f {
  sets = sets_with f.setting f.sets;
  setting = None;
  unknown = names_unknown f.setting || f.unknown;
}
force_step f (opens_item declared) = item_entered f
force_step f closes_item = record f { sets = sets_left f.sets f.around; around = around_left f.around }
force_step f closes_sequence = f
force_step f (opens_fragment size) = f
force_step f ends = f
