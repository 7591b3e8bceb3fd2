-- The input and the output among words.
use Rattle.std.proofs.Common.{◌≡◌, ◌≢◌, ◌==◌, ℕ, ◌-◌, ◌<◌, ◌≤◌, List, [], ◌∷◌, length, get_or, Option, Some, None, Bool, true, false, ◌&&◌, refl, sym, ◌∙◌, ap, subst, arith, Bor}
use Rattle.std.specs.Prelude.{if◌then◌else◌}
use Rattle.dcm_lemmas.proofs.Numbers.{after_is_not_zero}
use Rattle.dcm_edits.specs.declared.parse.Settings.{Settings}
use Rattle.dcm_edits.specs.EditWords.{settings_of}
use Rattle.dcm_words.specs.declared.words.Paths.{Paths}
use Rattle.dcm_words.specs.declared.words.Paths.TheVariants as paths
use Rattle.dcm_words.specs.Plans.{PathsAre}
use Rattle.dcm_words.specs.Places.{TwoPaths, two_of, paths_at_end}
use Rattle.dcm_words.specs.Words.{EditWords, is_path, paths_apart}
use Rattle.dcm_words.proofs.ModifyWords.{texts, words_end, between, both, not_first, not_second}

-- ---- among options

module _ (overwrites : Bool) where
  abbrev pub AreNot : List (List ℕ) → Type 0
  AreNot ps = None ≡ two_of ps overwrites

  pub empty_first : (input output : List ℕ) → (length input == 0) ≡ true → AreNot (input ∷ output ∷ [])
  empty_first [] output p = refl
  empty_first (c ∷ cs) output p = absurd (after_is_not_zero (length cs) p)

  pub empty_second : (input output : List ℕ) → (length output == 0) ≡ true → AreNot (input ∷ output ∷ [])
  empty_second [] output p = refl
  empty_second (c ∷ cs) [] p = refl
  empty_second (c ∷ cs) (b ∷ bs) p = absurd (after_is_not_zero (length bs) p)

  too_many : (ps : List (List ℕ)) → 2 < length ps → AreNot ps
  too_many [] h = absurd (omega (arith, h))
  too_many (p ∷ []) h = absurd (omega (arith, h))
  too_many (p ∷ q ∷ []) h = absurd (omega (arith, h))
  too_many (p ∷ q ∷ r ∷ ps) h = refl

  pub not_two : (p : Paths) (ps : List (List ℕ)) → ((x y : Bor (List ℕ)) → p ≢ paths.Two x y) → PathsAre p ps → AreNot ps
  not_two paths.None ps n are = subst AreNot (sym are) refl
  not_two (paths.One first) ps n are = subst AreNot (sym are) refl
  not_two (paths.Two first second) ps n are = absurd (n first second refl)
  not_two paths.More ps n are = too_many ps are

-- ---- behind edits

pub few_words : (ws : List (Bor (List ℕ))) → length ws < 2 → None ≡ paths_at_end (paths_apart (texts ws))
few_words [] h = refl
few_words (w ∷ []) h = refl
few_words (w ∷ v ∷ ws) h = absurd (omega (arith, h))

abbrev pub with_settings : EditWords → Settings → Option TwoPaths
with_settings e s = Some (record { input = e.input; output = e.output; overwrites = s.overwrites })

abbrev ends_by : Bool → EditWords → Option TwoPaths
ends_by b e = if b then with_settings e (settings_of e.edits) else None

module _ (ws : List (Bor (List ℕ))) (d : Bor (List ℕ)) (h : 2 ≤ length ws) where
  abbrev input : List ℕ
  input = (get_or ws (length ws - 2) d).now

  abbrev output : List ℕ
  output = (get_or ws (length ws - 1) d).now

  abbrev at_end : Bool → Type 0
  at_end b = is_path input && is_path output ≡ b → ends_by b (between ws d h) ≡ paths_at_end (paths_apart (texts ws))

  ends : (b : Bool) → at_end b
  ends b is = sym (ap paths_at_end (words_end ws d h) ∙ ap (λ t. ends_by t (between ws d h)) is)

  pub two_here : true ≡ is_path input → true ≡ is_path output → ends_by true (between ws d h) ≡ paths_at_end (paths_apart (texts ws))
  two_here i o = ends true (both (is_path input) (is_path output) i o)

  pub no_input : false ≡ is_path input → None ≡ paths_at_end (paths_apart (texts ws))
  no_input i = ends false (not_first (is_path input) (is_path output) i)

  pub no_output : false ≡ is_path output → None ≡ paths_at_end (paths_apart (texts ws))
  no_output o = ends false (not_second (is_path input) (is_path output) o)
