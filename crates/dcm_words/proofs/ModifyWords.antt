-- The words of dcmodify: its edits, and the two paths at their end.
use Rattle.std.proofs.Common.{◌≡◌, ℕ, zero, suc, ◌-◌, ◌<◌, ◌≤◌, List, [], ◌∷◌, length, map, take, get_or, Some, None, Result, Err, Bool, true, false, ◌&&◌, refl, sym, ◌∙◌, ap, arith, Bor}
use Rattle.dcm_base.specs.declared.fault.WordFault.TheVariants.{WrongPaths}
use Rattle.dcm_words.specs.declared.usage.Usage.{Usage}
use Rattle.dcm_words.specs.declared.usage.Usage.TheVariants.{Whole}
use Rattle.dcm_words.specs.Words.{Plan, EditWords, and_edit_word, paths_apart, is_path, modify_plan, modify_plan_with}
use Rattle.dcm_words.specs.Plans.{edits_between, has_paths}

abbrev pub texts : List (Bor (List ℕ)) → List (List ℕ)
texts ws = map (λ w. w.now) ws

one_before : (w : List ℕ) (vs : List (List ℕ)) → 2 ≤ length vs → paths_apart (w ∷ vs) ≡ and_edit_word w (paths_apart vs)
one_before w [] h = absurd (omega (arith, h))
one_before w (v ∷ []) h = absurd (omega (arith, h))
one_before w (v ∷ u ∷ vs) h = refl

two_texts : (ws : List (Bor (List ℕ))) (n : ℕ) → length ws ≡ suc (suc n) → 2 ≤ length (texts ws)
two_texts [] n e = absurd (omega (arith, e))
two_texts (w ∷ []) n e = absurd (omega (arith, e))
two_texts (w ∷ v ∷ ws) n e = omega arith

ends : (ws : List (Bor (List ℕ))) (n : ℕ) (d : Bor (List ℕ)) → length ws ≡ suc (suc n)
    → paths_apart (texts ws) ≡ Some (edits_between (texts (take n ws)) (get_or ws n d).now (get_or ws (suc n) d).now)
ends [] n d e = absurd (omega (arith, e))
ends (a ∷ []) n d e = absurd (omega (arith, e))
ends (a ∷ b ∷ []) zero d e = refl
ends (a ∷ b ∷ c ∷ ws) zero d e = absurd (omega (arith, e))
ends (w ∷ v ∷ ws) (suc n) d e =
    let shorter : length (v ∷ ws) ≡ suc (suc n) = omega (arith, e) in
    one_before w.now (texts (v ∷ ws)) (two_texts (v ∷ ws) n shorter) ∙ ap (λ o. and_edit_word w.now o) (ends (v ∷ ws) n d shorter)

-- the last two words are apart from the edits
pub words_end : (ws : List (Bor (List ℕ))) (d : Bor (List ℕ)) → 2 ≤ length ws
    → paths_apart (texts ws) ≡ Some (edits_between (texts (take (length ws - 2) ws)) (get_or ws (length ws - 2) d).now (get_or ws (length ws - 1) d).now)
words_end ws d h =
    let all : length ws ≡ suc (suc (length ws - 2)) = omega (arith, h) in
    let last : suc (length ws - 2) ≡ length ws - 1 = omega (arith, h) in
    ends ws (length ws - 2) d all ∙ ap (λ i. Some (edits_between (texts (take (length ws - 2) ws)) (get_or ws (length ws - 2) d).now (get_or ws i d).now)) last

abbrev judged : Bool → EditWords → Result Plan Usage
judged are_paths e = elim are_paths [ true ↦ modify_plan_with e | false ↦ Err (Whole WrongPaths) ]

judged_as : (words : List (List ℕ)) (e : EditWords) (are_paths : Bool) → paths_apart words ≡ Some e → is_path e.input && is_path e.output ≡ are_paths → modify_plan words ≡ judged are_paths e
judged_as words e are_paths is are =
    ap (λ o. elim o [ None ↦ Err (Whole WrongPaths) | Some e ↦ elim (is_path e.input && is_path e.output) [ true ↦ modify_plan_with e | false ↦ Err (Whole WrongPaths) ] ]) is
    ∙ ap (λ b. judged b e) are

pub both : (a b : Bool) → true ≡ a → true ≡ b → a && b ≡ true
both a b p q = rw (← p, ← q) refl

pub not_first : (a b : Bool) → false ≡ a → a && b ≡ false
not_first a b p = rw (← p) refl

pub not_second : (a b : Bool) → false ≡ b → a && b ≡ false
not_second true b q = sym q
not_second false b q = refl

pub few_words : (ws : List (Bor (List ℕ))) → length ws < 2 → modify_plan (texts ws) ≡ Err (Whole WrongPaths)
few_words [] h = refl
few_words (w ∷ []) h = refl
few_words (w ∷ v ∷ ws) h = absurd (omega (arith, h))

module _ (ws : List (Bor (List ℕ))) (d : Bor (List ℕ)) (h : 2 ≤ length ws) where
  abbrev input : List ℕ
  input = (get_or ws (length ws - 2) d).now

  abbrev output : List ℕ
  output = (get_or ws (length ws - 1) d).now

  abbrev pub between : EditWords
  between = edits_between (texts (take (length ws - 2) ws)) input output

  pub two_paths : true ≡ is_path input → true ≡ is_path output → modify_plan (texts ws) ≡ modify_plan_with between
  two_paths i o = judged_as (texts ws) between true (words_end ws d h) (both (is_path input) (is_path output) i o)

  pub paths_here : true ≡ is_path input → true ≡ is_path output → has_paths (texts ws) ≡ true
  paths_here i o = ap (λ p. elim p [ None ↦ false | Some e ↦ is_path e.input && is_path e.output ]) (words_end ws d h) ∙ both (is_path input) (is_path output) i o

  pub no_input : false ≡ is_path input → modify_plan (texts ws) ≡ Err (Whole WrongPaths)
  no_input i = judged_as (texts ws) between false (words_end ws d h) (not_first (is_path input) (is_path output) i)

  pub no_output : false ≡ is_path output → modify_plan (texts ws) ≡ Err (Whole WrongPaths)
  no_output o = judged_as (texts ws) between false (words_end ws d h) (not_second (is_path input) (is_path output) o)
