-- A meta group's elements, written anew one by one.
use Rattle.std.specs.Prelude.{◌≡◌, ◌≤◌, ℕ, ◌+◌, Bool, if◌then◌else◌, ◌||◌, List, [], length, Option, None, Some}
use Rattle.std.specs.Prelude.{Result}
use Rattle.dcm_base.specs.declared.tag.Tag.{Tag}
use Rattle.dcm_base.specs.declared.vr.Vr.{Vr}
use Rattle.dcm_base.specs.declared.vr.Vr.TheVariants.{UI}
use Rattle.dcm_base.specs.Tables.Syntax.{Little}
use Rattle.dcm_base.specs.Tables.Tag.{is_tag}
use Rattle.dcm_base.specs.Tree.Tree.{Trees, no_tree, leaf}
use Rattle.dcm_base.specs.Bytes.Spelling.{Spells}
use Rattle.dcm_base.specs.File.MetaGroup.{AreMeta}
use Rattle.dcm_base.specs.Conversion.Recode.{recoded_leaf, recode_set, unless_dropped}
use Rattle.dcm_base.specs.Conversion.NewMeta.{new_meta, with_syntax, without_syntax, NamesNoSyntax, Renewing, renewed}
use Rattle.dcm_base.specs.Steps.Outputs.{Puts, Tells, Writer}
use Rattle.dcm_head.specs.declared.element.MetaElement.{MetaElement}
use Rattle.dcm_head.specs.declared.renewal.Renewed.{Renewed}
use Rattle.dcm_head.specs.declared.renewal.Renewed.TheVariants.{Gone, Same, New}

-- what is left of the elements, where the transfer syntax is written or not
abbrev pub left : Bool → List ℕ → Trees → Trees
left named uid elements = if named then without_syntax elements else with_syntax uid elements

-- what one element is written as
abbrev pub written_element : Bool → List ℕ → Tag → Vr → List ℕ → List ℕ
written_element named uid tag vr value =
    if is_tag 2 0x10 tag then (if named then [] else unless_dropped tag (recoded_leaf Little tag UI uid))
    else unless_dropped tag (recoded_leaf Little tag vr value)

-- of its new value, if it stays
abbrev pub written_renewed : Option (List ℕ) → Bool → List ℕ → Tag → Vr → List ℕ
written_renewed None named uid tag vr = []
written_renewed (Some value) named uid tag vr = written_element named uid tag vr value

-- and whether the transfer syntax is written after it
abbrev pub named_after : Option (List ℕ) → Bool → Tag → Bool
named_after None named tag = named
named_after (Some value) named tag = named || is_tag 2 0x10 tag

abbrev pub written_as : Bool → List ℕ → MetaElement → List ℕ
written_as named uid element = written_element named uid element.tag element.vr element.value.now

-- what an answer makes of an old value
abbrev pub renewed_value : Renewed → List ℕ → Option (List ℕ)
renewed_value Gone value = None
renewed_value Same value = Some value
renewed_value (New new) value = Some new.items

-- an element stays as this one
pub record StaysAs (renewed : Renewed) (old new : MetaElement) : Type 0 where
  pub value : renewed_value renewed old.value.now ≡ Some new.value.now
  pub tag : new.tag ≡ old.tag
  pub vr : new.vr ≡ old.vr
  pub after : new.after.now ≡ old.after.now

-- what is written of it
abbrev pub written_stay : Renewed → Bool → List ℕ → MetaElement → List ℕ
written_stay renewed named uid element =
    written_renewed (renewed_value renewed element.value.now) named uid element.tag element.vr

-- all stays as it was
abbrev pub all_stays : Renewing
all_stays tag vr value = Some value

-- what a group becomes
abbrev pub renewed_meta : Renewing → (own : Trees) → List ℕ → Trees → List ℕ
renewed_meta new own uid elements = new_meta (renewed new own elements) uid

-- these bytes are elements, of which none names a transfer syntax
pub record AreOwn (own : Trees) (bytes : List ℕ) : Type 0 where
  pub bytes_are : bytes ≡ recode_set Little own
  pub no_syntax : NamesNoSyntax own
  pub few : length bytes ≤ 65536

-- the first of the elements that bytes spell, with its value and the bytes after it
abbrev pub FirstIs : List ℕ → Tag → Vr → List ℕ → List ℕ → Type 0
FirstIs bytes tag vr value after =
    (8 + length after ≤ length bytes) × (length value ≤ length bytes)
    × ((elements : Trees) → Spells Little elements bytes → AreMeta elements → (rest : Trees)
    × (elements ≡ leaf tag vr value rest) × Spells Little rest after × AreMeta rest)

-- the bytes spell no element
abbrev pub NoneIs : List ℕ → Type 0
NoneIs bytes = (elements : Trees) → Spells Little elements bytes → AreMeta elements → elements ≡ no_tree

-- of any elements that the bytes spell
abbrev pub OfElements : List ℕ → (Trees → Type 0) → Type 0
OfElements bytes Holds = (elements : Trees) → Spells Little elements bytes → AreMeta elements → Holds elements

-- the same of what went out, or a beginning of it where the call failed; and the writer has failed exactly where the
-- call did
pub record WroteElements {W T E : Type 0} (w : Writer W) (old new : W) (group : List ℕ) (text : Trees → List ℕ)
    (r : Result T E) : Type 0 where
  pub bytes : OfElements group (λ elements. Puts w old new (text elements) r)
  pub failed : Tells w old new r

-- a group was written anew
abbrev pub WroteGroup : {W T E : Type 0} → Writer W → (old new : W) → (group uid : List ℕ) → Result T E → Type 0
WroteGroup w old new group uid r = WroteElements w old new group (λ elements. new_meta elements uid) r

-- a group was written anew, with what stays of it
abbrev pub WroteRenewed : {W T E : Type 0} → Writer W → (old new : W) → Renewing → (own : Trees) → (group uid : List ℕ)
    → Result T E → Type 0
WroteRenewed w old new renewing own group uid r = WroteElements w old new group (renewed_meta renewing own uid) r
