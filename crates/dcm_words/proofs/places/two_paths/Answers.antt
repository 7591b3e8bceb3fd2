use Rattle.std.proofs.Common.{◌≡◌, ◌∙◌, ap, sym, refl, ℕ, ◌≤◌, ◌-◌, take, List, [], ◌∷◌, length, get_or, drop, map, Option, Some, None, Bool, true, false, arith, Bor}
use Rattle.std.proofs.lemmas.List.{take_all}
use Rattle.std.specs.Prelude.{codes, bytes_eq, if◌then◌else◌}
use Rattle.dcm_words.specs.Words.{Tool, dcmdump, dcmconv, dump2dcm, dcmodify, dcmdeid, deidentify_word, tool_of}
use Rattle.dcm_words.specs.Places.{TwoPaths, paths_said, tool_paths, two_paths}
use Rattle.dcm_words.proofs.places.two_paths.Goals as goal

abbrev no_word : Bor (List ℕ)
no_word = record { ref_ptr = (0, 0); now = [] }

fifth : (a b c d e : Bool) → a ≡ false → b ≡ false → c ≡ false → d ≡ false → e ≡ true
    → (if a then Some dcmdump else if b then Some dcmconv else if c then Some dump2dcm else if d then Some dcmodify else if e then Some dcmdeid else None) ≡ Some dcmdeid
fifth a b c d e p q r s t = rw (p, q, r, s, t) refl

module _ (words : List (Bor (List ℕ))) where
  abbrev tool : List ℕ
  tool = (get_or words 0 no_word).now

  abbrev is_not : List ℕ → Type 0
  is_not name = bytes_eq tool name ≡ false

  so : (name said : List ℕ) (b : Bool) → said ≡ name → b ≡ bytes_eq tool said → bytes_eq tool name ≡ b
  so name said b is e = ap (bytes_eq tool) (sym is) ∙ sym e

  named : is_not (codes "dcmdump") → is_not (codes "dcmconv") → is_not (codes "dump2dcm") → is_not (codes "dcmodify") → bytes_eq tool (codes "dcmdeid") ≡ true → tool_of tool ≡ Some dcmdeid
  named a b c d e = fifth (bytes_eq tool (codes "dcmdump")) (bytes_eq tool (codes "dcmconv")) (bytes_eq tool (codes "dump2dcm")) (bytes_eq tool (codes "dcmodify")) (bytes_eq tool (codes "dcmdeid")) a b c d e

of_words : (words : List (Bor (List ℕ))) (r : Option TwoPaths) → 1 ≤ length words → tool_of (get_or words 0 no_word).now ≡ Some dcmdeid → r ≡ paths_said deidentify_word (map (λ w. w.now) (take (length words - 1) (drop 1 words)))
    → r ≡ two_paths (map (λ w. w.now) words)
unfolding two_paths
of_words [] r h t is = absurd (omega (arith, h))
of_words (w ∷ words) r h t is =
    is ∙ ap (λ ws. paths_said deidentify_word (map (λ w. w.now) ws)) (take_all (length (w ∷ words) - 1) words (omega arith))
    ∙ ap (λ o. tool_paths o (map (λ w. w.now) words)) (sym t)

pub returns-in-len1-up-5 : goal.returns-in-len1-up-5
returns-in-len1-up-5 c =
    of_words c.args.words.now _ c.in-len1-up.len_at_least
    (named c.args.words.now (so c.args.words.now _ _ _ c.as_slice.ensures c.if-eq.ensures)
    (so c.args.words.now _ _ _ c.as_slice-2.ensures c.if-eq-2.ensures)
    (so c.args.words.now _ _ _ c.as_slice-3.ensures c.if-eq-3.ensures)
    (so c.args.words.now _ _ _ c.as_slice-4.ensures c.if-eq-4.ensures)
    (so c.args.words.now _ _ _ c.as_slice-5.ensures c.if-eq-5.ensures))
    c.paths_said-in-len1-up-5.ensures
