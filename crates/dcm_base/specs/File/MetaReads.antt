-- What stands before a data set, or why it cannot be read (PS3.10 7.1).
use Rattle.std.specs.Prelude.{◌≡◌, ◌≢◌, ◌<◌, ◌+◌, ◌==◌, ℕ, Bool, true, false, List, [], ◌∷◌, ◌++◌, length, codes}
use Rattle.std.specs.Prelude.{Result, Ok, Err, if◌then◌else◌}
use Rattle.dcm_base.specs.declared.fault.Fault.{Fault}
use Rattle.dcm_base.specs.declared.fault.Fault.TheVariants.{EndsEarly, NoPrefix, NoTransferSyntax, Deflated}
use Rattle.dcm_base.specs.declared.syntax.Coding.{Coding}
use Rattle.dcm_base.specs.declared.transfer.Deflated.{Deflated as DeflatedSyntax}
use Rattle.dcm_base.specs.Tables.Tag.{is_tag}
use Rattle.dcm_base.specs.Tree.Tree.{Trees, no_tree, leaf, sequence, fragments}
use Rattle.dcm_base.specs.Tables.Transfer.{without_pads, coding_of}
use Rattle.dcm_base.specs.File.MetaGroup.{GroupPlace, an_element, the_end, too_few, a_fault, GroupReads}

-- the preamble, the elements of the group, and the transfer syntax without the bytes 00 and 20 at its end
pub record Meta : Type 0 where
  pub preamble : List ℕ
  pub elements : Trees
  pub uid : List ℕ

-- a data set follows this meta group, or a fault at an offset
pub data MetaAnswer : Type 0 where
  begins : (meta : Meta) (group : List ℕ) (coding : Coding) → MetaAnswer
  refused : (fault : Fault) (offset : ℕ) → MetaAnswer

-- the value of the first (0002,0010)
abbrev pub syntax_value : Trees → List ℕ
syntax_value no_tree = []
syntax_value (leaf tag vr value rest) = if is_tag 2 0x10 tag then value else syntax_value rest
syntax_value (sequence tag vr declared items rest) = syntax_value rest
syntax_value (fragments tag vr values rest) = syntax_value rest

abbrev pub coded : Meta → List ℕ → Result Coding DeflatedSyntax → MetaAnswer
coded meta group (Ok coding) = begins meta group coding
coded meta group (Err deflated) = refused Deflated (132 + length group)

-- where the group has ended, its transfer syntax decides
abbrev pub named : Meta → List ℕ → List ℕ → MetaAnswer
named meta group [] = refused NoTransferSyntax (132 + length group)
named meta group (byte ∷ uid) = coded meta group (coding_of meta.uid)

abbrev pub ended : List ℕ → Trees → List ℕ → MetaAnswer
ended preamble elements group =
    let uid = without_pads (syntax_value elements) in
    named (record { preamble = preamble; elements = elements; uid = uid }) group uid

-- the answer behind the elements of the group, in an input of this size
abbrev pub answer_behind : (size : ℕ) → List ℕ → Trees → List ℕ → GroupPlace → MetaAnswer
answer_behind size preamble elements group the_end = ended preamble elements group
answer_behind size preamble elements group too_few = refused EndsEarly size
answer_behind size preamble elements group (a_fault fault) = refused fault (132 + length group)
answer_behind size preamble elements group (an_element tag vr head value) = refused EndsEarly size

abbrev pub PREFIX : List ℕ
PREFIX = codes "DICM"

-- how a file begins: too short, without the prefix, or with a group
pub data MetaReads (file : List ℕ) (answer : MetaAnswer) : Type 0 where
  too_short : length file < 132 → answer ≡ refused EndsEarly (length file) → MetaReads file answer
  no_prefix : (preamble prefix bytes : List ℕ) → file ≡ preamble ++ (prefix ++ bytes) → length preamble ≡ 128
      → length prefix ≡ 4 → prefix ≢ PREFIX → answer ≡ refused NoPrefix 128 → MetaReads file answer
  with_group : (preamble bytes group : List ℕ) (elements : Trees) (behind : GroupPlace)
      → file ≡ preamble ++ (PREFIX ++ bytes) → length preamble ≡ 128 → GroupReads bytes elements group behind
      → answer ≡ answer_behind (length file) preamble elements group behind → MetaReads file answer

abbrev pub is_at : ℕ → Fault → ℕ → Bool
is_at size EndsEarly offset = true
is_at size NoTransferSyntax offset = offset == size
is_at size Deflated offset = offset == size
is_at size fault offset = false

-- whether more bytes can still change the answer to an input of this size
abbrev pub is_undecided : ℕ → MetaAnswer → Bool
is_undecided size (refused fault offset) = is_at size fault offset
is_undecided size (begins meta group coding) = 132 + length group == size
