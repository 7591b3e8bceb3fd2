-- What is left of a data set without identity, as it is written and read again.
use Rattle.std.specs.Prelude.{◌≡◌, ℕ, List, []}
use Rattle.dcm_base.specs.declared.vr.Vr.{Vr}
use Rattle.dcm_base.specs.Tables.Representation.{pad}
use Rattle.dcm_base.specs.Tree.Front.{Front}
use Rattle.dcm_base.specs.Tree.Value.{evened}
use Rattle.dcm_deid.specs.declared.fate.Fate.{Fate}
use Rattle.dcm_deid.specs.declared.fate.Fate.TheVariants.{Remove, Empty, Replace, Anew, Keep}
use Rattle.dcm_deid.specs.declared.fate.Options.{Options}
use Rattle.dcm_deid.specs.declared.fate.Depth.TheVariants.{Outermost}
use Rattle.dcm_deid.specs.Deidentify.{dummy}
use Rattle.dcm_deid.specs.Fate.{fate_as}
use Rattle.dcm_deid.specs.Remains.{AreClean, IsMadeAnew}
use Rattle.dcm_deid.specs.Saying.{unsaid, whole_of}

-- nothing that was taken is in a value, by the fate of its element; what was put in its place has its pad byte, and what
-- was made of it has the form that is made
abbrev pub WrittenIsClean : Options → (key : List ℕ) → Fate → Vr → List ℕ → Type 0
WrittenIsClean options key Remove vr value = ⊥
WrittenIsClean options key Empty vr value = value ≡ []
WrittenIsClean options key Replace vr value = value ≡ evened (pad vr) (dummy vr)
WrittenIsClean options key (Anew made) vr value = IsMadeAnew options key made vr value
WrittenIsClean options key Keep vr value = Unit {0}

-- nor in a data set, at any depth, the elements that say what was done aside
abbrev pub NothingIsLeft : Options → (key : List ℕ) → Front → Type 0
NothingIsLeft options key f =
    AreClean (WrittenIsClean options key) (fate_as options) Outermost (unsaid (whole_of f))
