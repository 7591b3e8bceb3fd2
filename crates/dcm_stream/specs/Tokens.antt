-- Tokens as atoms, in which cuts of values are not seen.
use Rattle.std.specs.Prelude.{◌≡◌, ℕ, ◌<◌, length, List, [], ◌∷◌, ◌++◌, map, Option, None, Some, Result, Ok, Err, ⊤}
use Rattle.dcm_base.specs.Steps.Atoms.{Atom, opens, value_byte, closes_leaf, opens_item, closes_item, closes_sequence}
use Rattle.dcm_base.specs.Steps.Atoms.{opens_fragment, ends}
use Rattle.dcm_base.specs.declared.length.Length.TheVariants.{Known}
use Rattle.dcm_base.specs.declared.form.Form.TheVariants.{Value as a_value}
use Rattle.dcm_base.specs.declared.syntax.Syntax.{Syntax}
use Rattle.dcm_base.specs.Bytes.Spelling.{form, read_as}
use Rattle.dcm_head.specs.declared.head.Head.{Head}
use Rattle.dcm_base.specs.Tables.Syntax.{Little}
use Rattle.dcm_base.specs.declared.tag.Tag.{Tag}
use Rattle.dcm_base.specs.declared.vr.Vr.{Vr}
use Rattle.dcm_stream.specs.declared.token.Token.{Token}
use Rattle.dcm_stream.specs.declared.token.Token.TheVariants.{Open, Bytes, CloseLeaf, OpenItem, CloseItem, CloseSeq}
use Rattle.dcm_stream.specs.declared.token.Token.TheVariants.{OpenFragment, End}
use Rattle.dcm_stream.specs.declared.token.Bar.{Bar}

-- one atom for each token, and one for each byte of a value
abbrev pub atoms_of : Token → List Atom
atoms_of (Open head syntax) = opens head.tag head.vr head.length syntax ∷ []
atoms_of (Bytes bytes) = map value_byte bytes.now
atoms_of CloseLeaf = closes_leaf ∷ []
atoms_of (OpenItem declared) = opens_item declared ∷ []
atoms_of CloseItem = closes_item ∷ []
atoms_of CloseSeq = closes_sequence ∷ []
atoms_of (OpenFragment size) = opens_fragment size ∷ []
atoms_of End = ends ∷ []

-- a whole element in explicit little endian, and a whole fragment
abbrev pub leaf_atoms : Tag → Vr → List ℕ → List Atom
leaf_atoms tag vr value = opens tag vr (Known (length value)) Little ∷ (map value_byte value ++ closes_leaf ∷ [])

abbrev pub fragment_atoms : List ℕ → List Atom
fragment_atoms value = opens_fragment (length value) ∷ (map value_byte value ++ closes_leaf ∷ [])

-- an element with its whole value, in two parts and as one, and the head of one
abbrev pub head_atoms : Head → Syntax → List Atom
head_atoms head syntax = opens head.tag head.vr head.length syntax ∷ []

abbrev pub value_atoms : List ℕ → List Atom
value_atoms value = map value_byte value ++ closes_leaf ∷ []

abbrev pub whole_atoms : Head → Syntax → List ℕ → List Atom
whole_atoms head syntax value = opens head.tag head.vr head.length syntax ∷ (map value_byte value ++ closes_leaf ∷ [])

pub record IsLeaf (head : Head) (syntax : Syntax) (value : List ℕ) : Type 0 where
  pub length_is : head.length ≡ Known (length value)
  pub form_is : form syntax (read_as syntax head.tag head.vr) head.length ≡ a_value

-- bytes of a value in a token are at least one byte
abbrev pub IsFilled : Token → Type 0
IsFilled (Open head syntax) = ⊤
IsFilled (Bytes bytes) = 0 < length bytes.now
IsFilled CloseLeaf = ⊤
IsFilled (OpenItem declared) = ⊤
IsFilled CloseItem = ⊤
IsFilled CloseSeq = ⊤
IsFilled (OpenFragment size) = ⊤
IsFilled End = ⊤

-- what a test of a head answers
abbrev pub Bars : {T : Type 0} → Option Bar → Result T Bar → Type 0
Bars None (Ok x) = ⊤
Bars None (Err b) = ⊥
Bars (Some a) (Ok x) = ⊥
Bars (Some a) (Err b) = b ≡ a
