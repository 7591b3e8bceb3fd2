-- The elements that a new meta group holds, and the bytes that spell them (PS3.10 7.1).
use Rattle.std.specs.Prelude.{ℕ, zero, suc, ◌+◌, List, [], ◌∷◌, ◌++◌, length, take, drop, replicate}
use Rattle.dcm_base.specs.declared.tag.Tag.{Tag}
use Rattle.dcm_base.specs.declared.vr.Vr.{Vr}
use Rattle.dcm_base.specs.Tables.Syntax.{Little}
use Rattle.dcm_base.specs.Lines.Build.{named_syntax}
use Rattle.dcm_base.specs.File.MetaReads.{PREFIX}
use Rattle.dcm_base.specs.Conversion.NewMeta.{new_meta}
use Rattle.dcm_base.specs.Tree.Tree.{Trees, no_tree, leaf}
use Rattle.dcm_base.specs.Bytes.Spelling.{Spells}
use Rattle.dcm_base.specs.File.MetaGroup.{an_element, the_end, too_few, a_fault, group_place, AreMeta}

-- an element as its line shows it
pub record Shown : Type 0 where
  pub tag : Tag
  pub vr : Vr
  pub value : List ℕ

abbrev pub shown : Tag → Vr → List ℕ → Shown
shown tag vr value = record { tag = tag; vr = vr; value = value }

abbrev pub trees_of : List Shown → Trees
trees_of [] = no_tree
trees_of (s ∷ more) = leaf s.tag s.vr s.value (trees_of more)

-- what is before a data set: a preamble of zeros, the prefix, and the group with its length
abbrev pub file_head : List Shown → List ℕ
file_head group = replicate 128 0 ++ PREFIX ++ new_meta (trees_of group) (named_syntax (trees_of group))

-- the elements at the front of bytes, at most so many
unfoldable pub elements_by : ℕ → List ℕ → List Shown
elements_by zero bytes = []
elements_by (suc n) bytes = elim (group_place 0 bytes) [
  | an_element tag vr head size ↦ shown tag vr (take size (drop head bytes)) ∷ elements_by n (drop (head + size) bytes)
  | the_end ↦ []
  | too_few ↦ []
  | a_fault fault ↦ []
]

-- each element has more than one byte
abbrev pub elements_of : List ℕ → List Shown
elements_of bytes = elements_by (length bytes) bytes

-- the bytes are a group, from its first element to its last
pub record IsGroup (bytes : List ℕ) : Type 0 where
  pub spelled : Spells Little (trees_of (elements_of bytes)) bytes
  pub meta : AreMeta (trees_of (elements_of bytes))
