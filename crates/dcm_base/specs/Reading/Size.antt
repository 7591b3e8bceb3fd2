-- How many bytes trees take in a syntax.
use Rattle.std.specs.Prelude.{ℕ, ◌+◌, List, [], ◌∷◌, length}
use Rattle.dcm_base.specs.declared.syntax.Syntax.{Syntax}
use Rattle.dcm_base.specs.declared.length.Length.{Length}
use Rattle.dcm_base.specs.declared.length.Length.TheVariants.{Known, Undefined}
use Rattle.dcm_base.specs.Tree.Tree.{Trees, no_tree, leaf, sequence, fragments, Items, no_item, item}
use Rattle.dcm_base.specs.Bytes.Head.{head_size}
use Rattle.dcm_base.specs.Bytes.Spelling.{inside, after}

-- a delimiter stands behind an undefined length
abbrev pub end_size : Length → ℕ
end_size (Known size) = 0
end_size Undefined = 8

unfoldable pub fragments_size : List (List ℕ) → ℕ
fragments_size [] = 0
fragments_size (value ∷ rest) = 8 + length value + fragments_size rest

unfoldable mutual
  pub trees_size : Syntax → Trees → ℕ
  trees_size s no_tree = 0
  trees_size s (leaf tag vr value rest) = head_size s vr + length value + trees_size (after s tag vr value) rest
  trees_size s (sequence tag vr declared items rest) =
      head_size s vr + items_size (inside s vr) items + end_size declared + trees_size s rest
  trees_size s (fragments tag vr values rest) = head_size s vr + fragments_size values + 8 + trees_size s rest

  pub items_size : Syntax → Items → ℕ
  items_size s no_item = 0
  items_size s (item declared set rest) = 8 + trees_size s set + end_size declared + items_size s rest
