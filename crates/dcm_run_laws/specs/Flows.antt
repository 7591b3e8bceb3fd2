-- That nothing of what is taken out of a file is in the answer to it.
use Rattle.std.specs.Prelude.{◌≡◌, ℕ, ℤ, List, Bool, Option, None, Some}
use Rattle.dcm_base.specs.declared.syntax.Coding.{Coding}
use Rattle.dcm_base.specs.Conversion.NewMeta.{Renewing, renewed}
use Rattle.dcm_base.specs.File.MetaReads.{Meta}
use Rattle.dcm_base.specs.Reading.Stop.{complete}
use Rattle.dcm_base.specs.Tables.Transfer.{without_pads}
use Rattle.dcm_base.specs.Tree.Front.{Front}
use Rattle.dcm_base.specs.Tree.Tree.{Trees, no_tree}
use Rattle.dcm_deid.specs.Alike.{Alike, moving}
use Rattle.dcm_deid.specs.declared.fate.Depth.TheVariants.{Outermost}
use Rattle.dcm_deid.specs.declared.fate.Options.{Options}
use Rattle.dcm_deid.specs.declared.meta.MetaFate.{MetaFate}
use Rattle.dcm_deid.specs.declared.meta.MetaFate.TheVariants.{Remove, Keep, Uid}
use Rattle.dcm_deid.specs.Meta.{meta_fate}
use Rattle.dcm_deid.specs.Saying.{whole_of}
use Rattle.dcm_words.specs.Words.{deidentify}
use Rattle.dcm_cli.specs.Answer.{Answer, ReadAnswers, file}

-- what is asked of a meta element: nothing of one that goes, and all but its pads of a unique identifier that becomes
-- another
abbrev pub value_left : MetaFate → List ℕ → Option (List ℕ)
value_left Remove value = None
value_left Keep value = Some value
value_left Uid value = Some (without_pads value)

abbrev pub leaves : Options → Renewing
leaves options tag vr value = value_left (meta_fate options tag) value

-- the meta elements that stay
abbrev pub meta_left : Options → Meta → Trees
meta_left options m = renewed (leaves options) no_tree m.elements

-- the answer of dcmdeid to a file that was read without fault
pub record IsDeidentified (options : Options) (reports : Bool) (key input : List ℕ) (a : Answer) (m : Meta)
    (set : Front) : Type 0 where
  pub answers : ReadAnswers (deidentify options reports key) input a
  pub coding : Coding
  pub source_is : answers.source ≡ file m coding set complete

-- two files of which the same meta elements stay, and whose data sets differ only in what is taken, have one answer, be
-- the dates of the second moved by other days
abbrev pub NothingFlows : Type 0
NothingFlows =
    (options : Options) (reports : Bool) (key first second : List ℕ) (d e : ℤ) (a b : Answer) (m n : Meta)
    (f g : Front) → IsDeidentified (moving options d) reports key first a m f
    → IsDeidentified (moving options e) reports key second b n g → meta_left options m ≡ meta_left options n
    → Alike options Outermost d e (whole_of f) (whole_of g) → a ≡ b
