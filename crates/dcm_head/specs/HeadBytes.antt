-- The bytes that a head is written as (PS3.5 7.1.2, 7.1.3, 7.5).
use Rattle.std.specs.Prelude.{◌≡◌, ℕ, ◌<◌, Bool, true, false, ◌&&◌, ◌||◌, not, if◌then◌else◌, List}
use Rattle.dcm_base.specs.declared.syntax.Syntax.{Syntax}
use Rattle.dcm_base.specs.declared.length.Length.{Length}
use Rattle.dcm_base.specs.declared.length.Length.TheVariants.{Known, Undefined}
use Rattle.std.specs.Bool.{MatchBool}
use Rattle.dcm_base.specs.declared.vr.Vr.TheVariants.{UN}
use Rattle.dcm_base.specs.Tables.Number.{IsTag}
use Rattle.dcm_base.specs.Tables.Dictionary.{vr_in}
use Rattle.dcm_base.specs.Tables.Syntax.{dictionary_of}
use Rattle.dcm_base.specs.Tables.Tag.{is_item}
use Rattle.dcm_base.specs.Tables.Representation.{is_long}
use Rattle.dcm_base.specs.Conversion.Recode.{head, plain_head, is_explicit}
use Rattle.dcm_head.specs.declared.head.Head.{Head}
use Rattle.dcm_head.specs.HeadRead.{is_delimiter}

-- an item has its length and no representation, a delimiter the length 0
abbrev pub head_bytes : Syntax → Head → List ℕ
head_bytes s h =
    if is_item h.tag then plain_head s h.tag h.length
    else if is_delimiter h.tag then plain_head s h.tag (Known 0)
    else head s h.tag h.vr h.length

-- whether the length has two bytes
abbrev pub is_short_form : Syntax → Head → Bool
is_short_form s h = is_explicit s && not (is_item h.tag || (is_delimiter h.tag || is_long h.vr))

-- two bytes hold this length
abbrev pub FitsShort : Length → Type 0
FitsShort (Known n) = n < 65536
FitsShort Undefined = ⊥

-- four bytes hold this length, and FFFFFFFF is the undefined one
abbrev pub FitsLong : Length → Type 0
FitsLong (Known n) = n < 0xFFFFFFFF
FitsLong Undefined = Unit {0}

-- the representation and the length are those that the head's bytes can say
abbrev pub IsTold : Syntax → Head → Type 0
IsTold s h =
    MatchBool (is_item h.tag) (h.vr ≡ UN)
    (MatchBool (is_delimiter h.tag) ((h.vr ≡ UN) × (h.length ≡ Known 0))
    (MatchBool (is_explicit s) (Unit {0}) (h.vr ≡ vr_in (dictionary_of s) h.tag)))

-- a head that has a spelling
pub record HasSpelling (s : Syntax) (h : Head) : Type 0 where
  pub tag : IsTag h.tag
  pub told : IsTold s h
  pub short : is_short_form s h ≡ true → FitsShort h.length
  pub long : is_short_form s h ≡ false → FitsLong h.length
