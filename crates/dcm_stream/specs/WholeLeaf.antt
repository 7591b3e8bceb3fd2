-- An element whose value is whole in a piece.
use Rattle.std.specs.Prelude.{◌≡◌, ℕ, ◌+◌, ◌≤◌, List, length, take, drop, Bool, true, false, Some, None}
use Rattle.dcm_base.specs.declared.dictionary.Dictionary.{Dictionary}
use Rattle.dcm_base.specs.declared.length.Length.TheVariants.{Known}
use Rattle.dcm_base.specs.declared.level.Container.{Container}
use Rattle.dcm_base.specs.declared.level.Container.TheVariants.{DataSet, Item}
use Rattle.dcm_base.specs.declared.level.Level.{Level}
use Rattle.dcm_base.specs.declared.syntax.Syntax.{Syntax}
use Rattle.dcm_base.specs.declared.syntax.Syntax.TheVariants.{Little as little_in}
use Rattle.dcm_base.specs.declared.tag.Tag.{Tag}
use Rattle.dcm_base.specs.Bytes.Spelling.{says_sign}
use Rattle.dcm_base.specs.Reading.Place.{is_allowed, is_data}
use Rattle.dcm_base.specs.Steps.Atoms.{Atom}
use Rattle.dcm_stream.specs.declared.cursor.Cursor.{Cursor}
use Rattle.dcm_stream.specs.declared.whole_leaf.WholeLeaf.{WholeLeaf}
use Rattle.dcm_stream.specs.declared.judge.Opening.{Opening}
use Rattle.dcm_stream.specs.declared.judge.Opening.TheVariants as opening
use Rattle.dcm_head.specs.HeadRead.{BeginsShort}
use Rattle.dcm_stream.specs.Places.{innermost}
use Rattle.dcm_stream.specs.Reading.{Reading, settled}
use Rattle.dcm_stream.specs.Tokens.{IsLeaf, whole_atoms}

-- some bytes are the front of others
pub record IsFront (value rest : List ℕ) : Type 0 where
  pub fits : length value ≤ length rest
  pub front : take (length value) rest ≡ value

-- of so many bytes
pub record IsFrontOf (size : ℕ) (value rest : List ℕ) : Type 0 where
  pub long : length value ≡ size
  pub is_front : IsFront value rest

-- it opens as this leaf, which is no PixelRepresentation
pub record IsWhole (o : Opening) (leaf : WholeLeaf) : Type 0 where
  pub opens : o ≡ opening.Leaf leaf.head leaf.syntax (length leaf.value.now)
  pub is_leaf : IsLeaf leaf.head leaf.syntax leaf.value.now
  pub no_sign : says_sign leaf.head.tag ≡ false

-- bytes begin with this element, whose head has a length of two bytes, and which is no PixelRepresentation
pub record IsPlain (s : Syntax) (bytes : List ℕ) (leaf : WholeLeaf) : Type 0 where
  pub eight : 8 ≤ length bytes
  pub head : BeginsShort s bytes leaf.head
  pub syntax_is : leaf.syntax ≡ s
  pub length_is : leaf.head.length ≡ Known (length leaf.value.now)
  pub no_sign : says_sign leaf.head.tag ≡ false
  pub front : IsFront leaf.value.now (drop 8 bytes)

-- whether elements may come in it
abbrev pub holds_elements : Container → Bool
holds_elements DataSet = true
holds_elements Item = true
holds_elements _ = false

-- elements in explicit little endian may come in the innermost container
pub record HoldsLittle (d : Dictionary) (levels : List Level) : Type 0 where
  pub inner : Level
  pub inner_is : innermost levels ≡ Some inner
  pub syntax_is : inner.syntax ≡ little_in d
  pub may_come : (tag : Tag) → is_data tag ≡ true → is_allowed inner.container inner.declared tag ≡ true

-- after its bytes, behind a place after its head
abbrev pub reads_leaf : Cursor → WholeLeaf → Reading × List Atom
reads_leaf p leaf = settled (p.position + length leaf.value.now) (record {
  levels = p.levels;
  left = 0;
  sign = None;
  atoms = whole_atoms leaf.head leaf.syntax leaf.value.now;
}) 0
