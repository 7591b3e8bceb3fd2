-- Whether a value of dates is emptied, by what was held of it.
use Rattle.std.proofs.Common.{◌≡◌, ◌<◌, ℕ, List, [], ◌∷◌, ◌++◌, length, take, drop, fold, Bool, true, false, ◌&&◌, ◌||◌, not, refl, sym, ap, subst, ◌∙◌, arith}
use Rattle.std.specs.Prelude.{◌==◌, ◌%◌, if◌then◌else◌}
use Rattle.std.proofs.lemmas.Bool.Decides.{nat_tests}
use Rattle.std.proofs.lemmas.List.{length-take, length-drop, take-append-drop}
use Rattle.dcm_base.specs.declared.tag.Tag.{Tag}
use Rattle.dcm_base.specs.declared.vr.Vr.{Vr}
use Rattle.dcm_base.specs.declared.syntax.Syntax.{Syntax}
use Rattle.dcm_base.specs.Tables.Representation.{pad}
use Rattle.dcm_base.specs.Tables.Transfer.{without_pads}
use Rattle.dcm_base.specs.Tree.Value.{evened, order}
use Rattle.dcm_base.proofs.Conversions.Order.{order_twice}
use Rattle.dcm_deid.specs.declared.fate.Fate.{Fate}
use Rattle.dcm_deid.specs.declared.fate.Fate.TheVariants.{Remove, Empty, Replace, Anew, Keep}
use Rattle.dcm_deid.specs.declared.fate.NewValue.{NewValue}
use Rattle.dcm_deid.specs.declared.fate.NewValue.TheVariants.{Uid, Pseudonym, MovedDate, MovedDateTime}
use Rattle.dcm_deid.specs.declared.fate.Options.{Options}
use Rattle.dcm_deid.specs.DeidentifySink.{come_to_nothing, held_with, is_emptied as held_emptied, nothing_held, vanish, vanish_by}
use Rattle.dcm_deid.specs.Emptied.{empties, has_bytes, is_emptied, is_moved}
use Rattle.dcm_deid.specs.MadeNew.{left_of, made_new}
use Rattle.dcm_deid.proofs.HeldValues.{held_whole, longer_after, more_left, pads_after, pads_gone, some_left, some_more}
use Rattle.dcm_deid.proofs.MadeValues.{nothing_of_long}

-- ---- bytes

some_bytes : (v : List ℕ) → 0 < length v → has_bytes v ≡ true
some_bytes v h = let none : (length v == 0) ≡ false = grind (arith, nat_tests, h) in ap not none

one_or_more : (b : ℕ) (v : List ℕ) → has_bytes (b ∷ v) ≡ true
one_or_more b v = some_bytes (b ∷ v) (omega arith)

even_or_not : (p b : ℕ) (v : List ℕ) (t : Bool) → has_bytes (if t then b ∷ v else (b ∷ v) ++ p ∷ []) ≡ true
even_or_not p b v true = one_or_more b v
even_or_not p b v false = one_or_more b (v ++ p ∷ [])

-- a pad byte comes behind some bytes alone
evened_has : (p : ℕ) (v : List ℕ) → has_bytes (evened p v) ≡ has_bytes v
evened_has p [] = refl
evened_has p (b ∷ v) = even_or_not p b v (length (b ∷ v) % 2 == 0) ∙ sym (one_or_more b v)

-- ---- what was held

module _ (o : Options) (k : List ℕ) (vr : Vr) where
  -- dates are moved to nothing exactly where nothing is written
  nothing_written : (made : NewValue) (b : List ℕ) → is_moved made ≡ true → come_to_nothing o made b ≡ not (has_bytes (evened (pad vr) (made_new o k made b)))
  unfolding made_new left_of
  nothing_written Uid b e = absurd (cc)
  nothing_written Pseudonym b e = absurd (cc)
  nothing_written MovedDate b e = ap not (sym (evened_has (pad vr) _))
  nothing_written MovedDateTime b e = ap not (sym (evened_has (pad vr) _))

  vanish_or : (made : NewValue) (v : List ℕ) (moves : Bool) → moves ≡ is_moved made → (moves && vanish o made v) ≡ (moves && (has_bytes (without_pads v) && not (has_bytes (evened (pad vr) (made_new o k made (without_pads v))))))
  vanish_or made v true e = ap (λ (b : Bool). has_bytes (without_pads v) && b) (nothing_written made (without_pads v) (sym e))
  vanish_or made v false e = refl

  -- one that is longer than is held is emptied
  long_gone : (made : NewValue) (v : List ℕ) → 256 < length (without_pads v) → (has_bytes (without_pads v) && not (has_bytes (evened (pad vr) (made_new o k made (without_pads v))))) ≡ true
  long_gone made v h =
      ap (λ (b : Bool). b && not (has_bytes (evened (pad vr) (made_new o k made (without_pads v))))) (some_bytes (without_pads v) (omega (arith, h)))
      ∙ ap (λ (x : List ℕ). not (has_bytes (evened (pad vr) x))) (nothing_of_long o k made (without_pads v) h)

  by_length : (made : NewValue) (v : List ℕ) (longer : Bool) → longer ≡ longer_after false (drop 256 v)
      → (is_moved made && (longer || vanish o made (take 256 v))) ≡ (is_moved made && (has_bytes (without_pads v) && not (has_bytes (evened (pad vr) (made_new o k made (without_pads v))))))
  by_length made v false e =
      let same : without_pads (take 256 v) ≡ without_pads v =
      sym (pads_after (take 256 v) (drop 256 v) (pads_gone (drop 256 v) false (sym e)).1) ∙ ap without_pads (take-append-drop 256 v) in
      ap (λ (b : List ℕ). is_moved made && (has_bytes b && come_to_nothing o made b)) same ∙ vanish_or made v (is_moved made) refl
  by_length made v true e =
      let some : 0 < length (drop 256 v) = some_more (drop 256 v) (sym e) in
      let full : length (take 256 v) ≡ 256 = omega (arith, length-take 256 v, length-drop 256 v, some) in
      let long : length (take 256 v) < length (without_pads v) =
      subst (λ (x : List ℕ). length (take 256 v) < length (without_pads x)) (take-append-drop 256 v) (more_left (take 256 v) (drop 256 v) (some_left (drop 256 v) (sym e))) in
      ap (λ (b : Bool). is_moved made && b) (sym (long_gone made v (omega (arith, full, long))))

-- the value of an element of some fate is emptied
pub emptied_is : (o : Options) (k : List ℕ) (fate : Fate) (tag : Tag) (vr : Vr) (s : Syntax) (v : List ℕ)
    → held_emptied o (fold held_with (nothing_held fate tag vr s) (order s vr v)) ≡ empties (made_new o k) fate vr v
emptied_is o k fate tag vr s v =
    ap (held_emptied o) (held_whole fate tag vr s v)
    ∙ ap (vanish_by o fate (longer_after false (drop 256 v))) (order_twice s vr (take 256 v))
    ∙ by_fate fate
  where
    by_fate : (f : Fate) → vanish_by o f (longer_after false (drop 256 v)) (take 256 v) ≡ empties (made_new o k) f vr v
    by_fate Remove = refl
    by_fate Empty = refl
    by_fate Replace = refl
    by_fate (Anew made) = by_length o k vr made v (longer_after false (drop 256 v)) refl
    by_fate Keep = refl
