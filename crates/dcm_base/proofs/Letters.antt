-- The letters of a value representation name it.
use Rattle.std.proofs.Common.{◌≡◌, ℕ, List, Some, refl, sym, ap, ◌∙◌}
use Rattle.dcm_base.specs.declared.vr.Vr.{Vr}
use Rattle.dcm_base.specs.declared.vr.Vr.TheVariants.{AE}
use Rattle.dcm_base.specs.Tables.Representation.{letters, vr_of}

named_by_letters : (vr : Vr) → vr_of (letters vr) ≡ Some vr
unfolding letters vr_of
named_by_letters AE = refl
named_by_letters _ = refl

-- the value representation whose letters these are
pub named_by : (vr : Vr) (l : List ℕ) → letters vr ≡ l → Some vr ≡ vr_of l
named_by vr l e = sym (named_by_letters vr) ∙ ap vr_of e
