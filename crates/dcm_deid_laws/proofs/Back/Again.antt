-- Moved dates, moved back and moved again, among the elements that say what was done.
use Rattle.std.proofs.Common.{◌≡◌, ◌∙◌, ap, sym, subst, ℕ, ℤ, List}
use Rattle.std.specs.Prelude.{neg_ℤ}
use Rattle.dcm_base.specs.declared.syntax.Syntax.{Syntax}
use Rattle.dcm_base.specs.Conversion.Normal.{normal}
use Rattle.dcm_base.specs.Conversion.Recode.{recode_set}
use Rattle.dcm_base.specs.Tables.Syntax.{dictionary_of}
use Rattle.dcm_base.specs.Tree.Tree.{Trees}
use Rattle.dcm_base.proofs.Conversions.NormalForm.{own_dictionary}
use Rattle.dcm_deid.specs.Alike.{moving}
use Rattle.dcm_deid.specs.MadeNew.{made_new}
use Rattle.dcm_deid.specs.declared.fate.Options.{Options}
use Rattle.dcm_deid.specs.declared.fate.Depth.TheVariants.{Outermost}
use Rattle.dcm_deid.specs.declared.fate.ReadAs.TheVariants.{AsBytes}
use Rattle.dcm_deid.specs.Fate.{fate_as}
use Rattle.dcm_deid.specs.Deidentify.{deidentified_set, value_by}
use Rattle.dcm_deid.specs.Saying.{said}
use Rattle.dcm_deid.proofs.Trees.Again.{by_same_fates, same_fates}
use Rattle.dcm_deid.proofs.Trees.Clean.{clean}
use Rattle.dcm_deid.proofs.Trees.Said.{same_said, set_with_all}
use Rattle.dcm_deid_laws.specs.Laws.{MovesDatesAlone}
use Rattle.dcm_deid_laws.proofs.Named.{AreNamed}
use Rattle.dcm_deid_laws.proofs.Ready.{renamed_short}
use Rattle.dcm_deid_laws.proofs.Back.Dates.{made_again, made_size, not_full}
use Rattle.dcm_deid_laws.proofs.Back.Framed.{IsAsLong, IsFramed, framed_joins, framed_self, goes_away}
use Rattle.dcm_deid_laws.proofs.Back.Left.{MadeAgain, again_both}
use Rattle.dcm_deid_laws.proofs.Twice.Again.{left_named, said_goes}
use Rattle.dcm_deid_laws.proofs.Twice.Alike.{ArePaired, all_alike, all_paired, recodes_alike, recodes_paired}
use Rattle.dcm_deid_laws.proofs.Twice.Fates.{dates_alone}

module _ (options : Options) (key : List ℕ) (days : ℤ) (given : MovesDatesAlone options) (s : Syntax) where
  abbrev there : Options
  there = moving options days

  abbrev back : Options
  back = moving options (neg_ℤ days)

  -- without identity, with the dates moved there, or back
  abbrev without : Options → Trees → Trees
  without by x = deidentified_set by (made_new by key) Outermost x

  abbrev with_said : Options → Trees → Trees
  with_said by x = set_with_all (said by) x

  can : MadeAgain there (made_new there key) (made_new back key)
  can = record {
    short = λ made vr b. renamed_short there key made vr b;
    short_back = λ made vr b. renamed_short back key made vr b;
    again = λ depth t made b e. made_again options key days given.2 made b (dates_alone there given.0 given.1 made depth AsBytes t e);
  }

  -- the same elements stay, there and back
  same_stay : (x : Trees) → without back x ≡ deidentified_set there (made_new back key) Outermost x
  same_stay x = by_same_fates (fate_as back) (fate_as there) (value_by (made_new back key)) (same_fates options (neg_ℤ days) days) Outermost x

  -- what says what was done goes each time
  said_goes_there : (x : Trees) → without there (normal s (with_said there x)) ≡ without there (normal s x)
  said_goes_there x = said_goes there key (not_full options.dates days given.2) s x

  said_goes_back : (x : Trees) → without back (normal s (with_said back x)) ≡ without back (normal s x)
  said_goes_back x = said_goes back key (not_full options.dates (neg_ℤ days) given.2) s x

  -- and is the same
  says_same : (x : Trees) → with_said back x ≡ with_said there x
  says_same x = ap (λ news. set_with_all news x) (same_said options (neg_ℤ days) days)

  -- back again
  pub taken_back : (x : Trees) → without back (normal s (with_said there x)) ≡ deidentified_set there (made_new back key) Outermost (normal s x)
  taken_back x =
      ap (λ (z : Trees). without back (normal s z)) (sym (says_same x)) ∙ said_goes_back x ∙ same_stay (normal s x)

  once_more : (x : Trees) → without there (normal s (with_said back (without back (normal s (with_said there x))))) ≡ without there (normal s (deidentified_set there (made_new back key) Outermost (normal s x)))
  once_more x =
      let y : Trees = without back (normal s (with_said there x)) in
      ap (λ (z : Trees). without there (normal s z)) (says_same y) ∙ said_goes_there y ∙ ap (λ (z : Trees). without there (normal s z)) (taken_back x)

  -- what was left is left again, with what says what was done
  pub left_there_again : (x : Trees) → AreNamed s x
      → recode_set s (with_said there (without there (normal s (with_said back (without back (normal s (with_said there (without there x)))))))) ≡ recode_set s (with_said there (without there x))
  left_there_again x named =
      let left : Trees = without there x in
      let again = again_both there (made_new there key) (made_new back key) can s s Outermost left (dictionary_of s, sym (own_dictionary s)) (left_named there key s Outermost x named) (clean (fate_as there) (made_new there key) Outermost x) in
      ap (λ (z : Trees). recode_set s (with_said there z)) (once_more left) ∙ recodes_alike s _ _ (all_alike s (said there) _ left again)

  -- moved back it is as long, and begins alike
  long : IsAsLong there (made_new there key) (made_new back key)
  long = λ depth t made b e. made_size options key days given.2 made b (dates_alone there given.0 given.1 made depth AsBytes t e)

  pub moved_back_framed : (x : Trees) → AreNamed s x
      → IsFramed (recode_set s (with_said back (without back (normal s (with_said there (without there x)))))) (recode_set s (with_said there (without there x)))
  moved_back_framed x named =
      let left : Trees = without there x in
      let framed : ArePaired IsFramed s (deidentified_set there (made_new back key) Outermost (normal s left)) left =
      goes_away there (made_new there key) (made_new back key) can long s s Outermost left (dictionary_of s, sym (own_dictionary s)) (left_named there key s Outermost x named) (clean (fate_as there) (made_new there key) Outermost x)
      in
      subst (λ (z : Trees). IsFramed (recode_set s z) (recode_set s (with_said there left))) (sym (says_same (without back (normal s (with_said there left))) ∙ ap (with_said there) (taken_back left)))
      (recodes_paired IsFramed framed_joins s _ _ (all_paired IsFramed framed_self s (said there) _ left framed))
