-- A conversion by way of another syntax that loses nothing on its way (PS3.5 6.2, 7.1, 7.3).
use Rattle.std.specs.Prelude.{◌≡◌, ◌⊎◌, ℕ, Bool, true, false, not, ◌&&◌, ◌==◌, ◌%◌, length}
use Rattle.dcm_base.specs.declared.tag.Tag.{Tag}
use Rattle.dcm_base.specs.declared.vr.Vr.{Vr}
use Rattle.dcm_base.specs.declared.syntax.Syntax.{Syntax}
use Rattle.dcm_base.specs.Tree.Tree.{Trees, no_tree, leaf, sequence, fragments, Items, no_item, item}
use Rattle.dcm_base.specs.Tree.Front.{Front, front}
use Rattle.dcm_base.specs.Tables.Representation.{unit}
use Rattle.dcm_base.specs.Tables.Syntax.{is_big}
use Rattle.dcm_base.specs.Bytes.Spelling.{after}
use Rattle.dcm_base.specs.Conversion.Recode.{even}
use Rattle.dcm_base.specs.Conversion.Normal.{normal_vr, normal_value, UnlessGroupLength}

-- the target writes the representation that comes back of the way as it writes the one that was read. An implicit
-- target writes none, and an explicit way gives each one back, but for UN of what is too long in the target too. So it
-- is asked of an implicit way to an explicit target alone: there the dictionary has to give the representation back
abbrev pub KeepsVr : (way target : Syntax) → Tag → Vr → ℕ → Type 0
KeepsVr way target t vr size = normal_vr target t (normal_vr way t vr size) size ≡ normal_vr target t vr size

-- whether the pad byte of an odd value makes its last unit whole; in big endian order it is then turned with that unit
-- where it was there before, and is not where it comes last
abbrev pub pad_completes : Vr → ℕ → Bool
pad_completes vr size = not (unit vr == 1) && (not (size % 2 == 0) && (even size % unit vr == 0))

abbrev pub KeepsPad : (way target : Syntax) → Vr → ℕ → Type 0
KeepsPad way target vr size = (is_big way ≡ is_big target) ⊎ (pad_completes vr size ≡ false)

-- so it is with all elements of a data set that are written; the representations after a leaf are those that its
-- normal form leads to
unfoldable mutual
  pub KeepsForms : (way target : Syntax) → Trees → Type 0
  KeepsForms s target no_tree = Unit {0}
  KeepsForms s target (leaf t vr v rest) =
      UnlessGroupLength t (KeepsVr s target t vr (length v) × KeepsPad s target vr (length v))
      × KeepsForms (after s t (normal_vr s t vr (length v)) (normal_value s t vr v)) target rest
  KeepsForms s target (sequence t vr size items rest) = UnlessGroupLength t (ItemsKeep s target items)
      × KeepsForms s target rest
  KeepsForms s target (fragments t vr values rest) = KeepsForms s target rest

  pub ItemsKeep : (way target : Syntax) → Items → Type 0
  ItemsKeep s target no_item = Unit {0}
  ItemsKeep s target (item size set rest) = KeepsForms s target set × ItemsKeep s target rest

abbrev pub FrontKeeps : (way target : Syntax) → Front → Type 0
FrontKeeps s target (front whole open_tree reached closed) = KeepsForms s target whole

-- no value has an odd length, which the standard does not allow (PS3.5 7.1.1)
unfoldable mutual
  pub AreEven : Trees → Type 0
  AreEven no_tree = Unit {0}
  AreEven (leaf t vr v rest) = ((length v % 2 == 0) ≡ true) × AreEven rest
  AreEven (sequence t vr size items rest) = ItemsEven items × AreEven rest
  AreEven (fragments t vr values rest) = AreEven rest

  pub ItemsEven : Items → Type 0
  ItemsEven no_item = Unit {0}
  ItemsEven (item size set rest) = AreEven set × ItemsEven rest
