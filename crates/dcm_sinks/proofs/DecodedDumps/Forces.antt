-- What is in force, over the bytes of a value.
use Rattle.std.proofs.Common.{◌≡◌, ◌∙◌, ap, sym, refl, ℕ, List, [], ◌∷◌, ◌++◌, map, Option, Some, None, Bool, false, ◌&&◌, ◌||◌}
use Rattle.std.specs.Prelude.{fold, option_map}
use Rattle.dcm_base.specs.declared.tag.Tag.{Tag}
use Rattle.dcm_base.specs.declared.vr.Vr.{Vr}
use Rattle.dcm_base.specs.declared.syntax.Syntax.{Syntax}
use Rattle.dcm_base.specs.declared.form.Form.{Form}
use Rattle.dcm_base.specs.declared.form.Form.TheVariants.{Value as a_value, Sequence as a_sequence, FragmentList as a_fragment_list, Nothing as no_form}
use Rattle.dcm_base.specs.Bytes.Spelling.{form, read_as}
use Rattle.dcm_base.specs.Steps.Atoms.{opens, value_byte, closes_leaf}
use Rattle.dcm_head.specs.declared.head.Head.{Head}
use Rattle.dcm_stream.specs.Tokens.{whole_atoms}
use Rattle.dcm_sinks.specs.InForce.{is_character_set, may_set}
use Rattle.dcm_sinks.specs.SettingValue.{ForceState, force_step, names_unknown, with_setting, with_setting_byte, sets_with, opens_setting, setting_opened}

abbrev pub kept : List ℕ → Option (List ℕ) → Option (List ℕ)
kept v o = option_map (λ (value : List ℕ). fold with_setting_byte value v) o

kept_none : (o : Option (List ℕ)) → kept [] o ≡ o
kept_none None = refl
kept_none (Some value) = refl

kept_more : (b : ℕ) (v : List ℕ) (o : Option (List ℕ)) → kept (b ∷ v) o ≡ kept v (option_map (λ (value : List ℕ). with_setting_byte value b) o)
kept_more b v None = refl
kept_more b v (Some value) = refl

pub adds : (f : ForceState) (v : List ℕ) → with_setting f (kept v f.setting) ≡ fold force_step f (map value_byte v)
adds f [] = ap (with_setting f) (kept_none f.setting)
adds f (b ∷ v) = ap (with_setting f) (kept_more b v f.setting) ∙ adds (force_step f (value_byte b)) v

-- ---- an element whose value is whole

abbrev pub behind : ForceState → Option (List ℕ) → ForceState
behind f o = record { sets = sets_with o f.sets; around = f.around; setting = None; unknown = names_unknown o || f.unknown }

pub value_ends : (f : ForceState) (v : List ℕ) → behind f (kept v f.setting) ≡ fold force_step f (map value_byte v ++ closes_leaf ∷ [])
value_ends f [] = ap (behind f) (kept_none f.setting)
value_ends f (b ∷ v) = ap (behind f) (kept_more b v f.setting) ∙ value_ends (force_step f (value_byte b)) v

-- one that sets nothing
sets_none : (f : Form) (tag : Tag) (vr : Vr) → is_character_set tag ≡ false → opens_setting f tag vr ≡ false
sets_none a_value tag vr e = ap (λ (t : Bool). t && may_set vr) e
sets_none a_sequence tag vr e = refl
sets_none a_fragment_list tag vr e = refl
sets_none no_form tag vr e = refl

pub passes_whole : (f : ForceState) (head : Head) (syntax : Syntax) (v : List ℕ) → is_character_set head.tag ≡ false
    → with_setting f None ≡ fold force_step f (whole_atoms head syntax v)
passes_whole f head syntax v e =
    sym (ap (λ (t : Bool). behind (with_setting f (setting_opened t)) (kept v (setting_opened t))) (sets_none (form syntax (read_as syntax head.tag head.vr) head.length) head.tag head.vr e))
    ∙ value_ends (force_step f (opens head.tag head.vr head.length syntax)) v
