-- What a function made of the words of a run over a tree.
use Rattle.std.specs.Prelude.{◌≡◌, ℕ, Option, Some, Result, Ok, Err}
use Rattle.std.specs.Option.{option_map}
use Rattle.dcm_words.specs.declared.usage.Usage.{Usage}
use Rattle.dcm_words.specs.declared.usage.Usage.TheVariants.{AtWord, Whole, InEdit, InElement, TooManyElements, Memory}
use Rattle.dcm_words.specs.Plans.{planned}
use Rattle.dcm_words.specs.PlacesAs.{two_as}
use Rattle.dcm_tree_words.specs.declared.part.Part.{Part}
use Rattle.dcm_tree_words.specs.declared.said.TreeOptions.{TreeOptions}
use Rattle.dcm_tree_words.specs.declared.said.Said.{Said}
use Rattle.dcm_tree_words.specs.declared.refusal.Known.{Known}
use Rattle.dcm_tree_words.specs.declared.plan.Source.{Source}
use Rattle.dcm_tree_words.specs.declared.plan.Source.TheVariants as sources
use Rattle.dcm_tree_words.specs.declared.plan.TreePlan.{TreePlan}
use Rattle.dcm_tree_words.specs.Parts as parts
use Rattle.dcm_tree_words.specs.Trees as spec

abbrev pub part_as : Part → parts.Part
part_as p = record { number = p.number; count = p.count }

abbrev pub part_with : (number count : ℕ) → Option parts.Part
part_with number count = parts.part_with (Some number) (Some count)

abbrev pub options_as : TreeOptions → spec.Options
options_as o = record {
  continues = o.continues;
  part = part_as o.part;
  has_header = o.has_header;
  counts = o.counts;
  keeps_names = o.keeps_names;
}

abbrev pub said_as : Said → spec.Said
said_as s = record { over_tree = s.over_tree; options = options_as s.options }

abbrev pub known_as : Known → spec.Known
known_as k = record {
  over_tree = k.over_tree;
  unfit = k.unfit;
  paths = option_map two_as k.paths;
  refusal = k.refusal;
}

abbrev pub source_as : Source → spec.Source
source_as (sources.Folder path) = spec.folder path.now
source_as (sources.List path) = spec.list path.now

abbrev pub tree_as : {A : Type 0} → TreePlan A → spec.Tree
tree_as p = record {
  source = source_as p.source;
  options = options_as p.options;
  plan = planned p.planned;
}

-- what a function returned is what the words mean
abbrev pub GivesTree : {A : Type 0} → Result (TreePlan A) Usage → Result spec.Tree Usage → Type 0
GivesTree (Ok p) meant = meant ≡ Ok (tree_as p)
GivesTree (Err u) meant = meant ≡ Err u

-- the same, but where the memory for edits was refused
abbrev pub GivesTreeUnlessMemory : {A : Type 0} → Result (TreePlan A) Usage → Result spec.Tree Usage → Type 0
GivesTreeUnlessMemory (Ok p) meant = meant ≡ Ok (tree_as p)
GivesTreeUnlessMemory (Err Memory) meant = Unit {0}
GivesTreeUnlessMemory (Err (AtWord fault n)) meant = meant ≡ Err (AtWord fault n)
GivesTreeUnlessMemory (Err (Whole fault)) meant = meant ≡ Err (Whole fault)
GivesTreeUnlessMemory (Err (InEdit refusal n)) meant = meant ≡ Err (InEdit refusal n)
GivesTreeUnlessMemory (Err (InElement refusal n)) meant = meant ≡ Err (InElement refusal n)
GivesTreeUnlessMemory (Err TooManyElements) meant = meant ≡ Err TooManyElements
