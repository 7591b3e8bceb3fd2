-- The elements of the meta group as a row of atoms.
use Rattle.std.specs.Prelude.{ℕ, List, [], ◌∷◌, ◌++◌, length, map}
use Rattle.dcm_base.specs.declared.tag.Tag.{Tag}
use Rattle.dcm_base.specs.declared.vr.Vr.{Vr}
use Rattle.dcm_base.specs.declared.length.Length.TheVariants.{Known}
use Rattle.dcm_base.specs.declared.syntax.Syntax.{Syntax}
use Rattle.dcm_base.specs.declared.syntax.Syntax.TheVariants.{Little as little_in}
use Rattle.dcm_base.specs.declared.dictionary.Dictionary.TheVariants.{Standard}
use Rattle.dcm_base.specs.Tree.Tree.{Trees, no_tree, leaf, sequence, fragments}
use Rattle.dcm_base.specs.Steps.Atoms.{Atom, opens, value_byte, closes_leaf}

-- explicit little endian, read by the whole dictionary
abbrev pub META_SYNTAX : Syntax
META_SYNTAX = little_in Standard

abbrev pub element_atoms : Tag → Vr → List ℕ → List Atom
element_atoms tag vr value = opens tag vr (Known (length value)) META_SYNTAX ∷ (map value_byte value ++ closes_leaf ∷ [])

-- a meta group has leaves alone
abbrev pub meta_atoms : Trees → List Atom
meta_atoms no_tree = []
meta_atoms (leaf tag vr value rest) = element_atoms tag vr value ++ meta_atoms rest
meta_atoms (sequence tag vr declared items rest) = meta_atoms rest
meta_atoms (fragments tag vr values rest) = meta_atoms rest
