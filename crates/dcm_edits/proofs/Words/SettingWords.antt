-- The words that say something of all edits, among those of edits.
use Rattle.std.proofs.Common.{◌≡◌, ℕ, zero, suc, ◌<◌, ◌+◌, List, [], ◌∷◌, length, drop, get_or, Option, Some, None, Result, Ok, Err, Bool, true, false, refl, sym, ◌∙◌, ap, subst, arith, drop-cons, add-one, Bor}
use Rattle.std.specs.Prelude.{if◌then◌else◌, ◌||◌, bytes_eq, codes}
use Rattle.std.specs.Option.{is_some}
use Rattle.std.proofs.lemmas.Slice.Eq.{bytes_eq-Decides}
use Rattle.dcm_base.specs.declared.dictionary.Dictionary.{Dictionary}
use Rattle.dcm_base.specs.declared.dictionary.Dictionary.TheVariants.{Extract, Standard}
use Rattle.dcm_base.specs.declared.fault.EditRefusal.{EditRefusal}
use Rattle.dcm_edits.specs.declared.parse.Settings.{Settings}
use Rattle.dcm_edits.specs.Edit.{Edit}
use Rattle.dcm_edits.specs.EditWords.{◌>>=◌, OptionWord, takes_word, private_word, unknown_word, option_word, takes_next, is_setting, and_setting, settings_after, without_settings, meant_word}
use Rattle.dcm_edits.specs.Making.{edit_after, first_edit, texts}

-- ---- one word

-- such a word takes no other
named_alone : (w : List ℕ) → is_setting w ≡ true → takes_next (option_word w) ≡ false
named_alone w p = by_tests (bytes_eq w (codes "-dict")) (bytes_eq w (codes "+dict")) (bytes_eq w (codes "+ow")) refl refl refl p
  where
    alone : (v : List ℕ) → w ≡ v → takes_next (option_word v) ≡ false → takes_next (option_word w) ≡ false
    alone v is h = subst (λ (x : List ℕ). takes_next (option_word x) ≡ false) (sym is) h

    by_tests : (a b c : Bool) → bytes_eq w (codes "-dict") ≡ a → bytes_eq w (codes "+dict") ≡ b → bytes_eq w (codes "+ow") ≡ c
        → (is_some (if a then Some Extract else (if b then Some Standard else None)) || c) ≡ true → takes_next (option_word w) ≡ false
    by_tests true b c p q r h = alone (codes "-dict") ((bytes_eq-Decides w (codes "-dict")).0 p) refl
    by_tests false true c p q r h = alone (codes "+dict") ((bytes_eq-Decides w (codes "+dict")).0 q) refl
    by_tests false false true p q r h = alone (codes "+ow") ((bytes_eq-Decides w (codes "+ow")).0 r) refl
    by_tests false false false p q r h = absurd cc

-- ---- the words without it

left_out : (w : List ℕ) (words : List (List ℕ)) → is_setting w ≡ true → without_settings (w ∷ words) ≡ without_settings words
left_out w [] p = unless (is_setting w) [] p
  where
    unless : (t : Bool) (rest : List (List ℕ)) → t ≡ true → (if t then rest else w ∷ rest) ≡ rest
    unless true rest h = refl
    unless false rest h = absurd cc
left_out w (v ∷ words) p = unless (takes_next (option_word w)) (is_setting w) (w ∷ v ∷ without_settings words) (without_settings (v ∷ words)) (named_alone w p) p
  where
    unless : (s t : Bool) (two rest : List (List ℕ)) → s ≡ false → t ≡ true → (let l : List (List ℕ) = elim s [ true ↦ two | false ↦ if t then rest else w ∷ rest ] in l ≡ rest)
    unless true t two rest g h = absurd cc
    unless false true two rest g h = refl
    unless false false two rest g h = absurd cc

-- what is kept behind a word
abbrev kept_behind : OptionWord → List (List ℕ) → List (List ℕ)
kept_behind o [] = []
kept_behind o (v ∷ words) = elim (takes_next o) [ true ↦ v ∷ without_settings words | false ↦ without_settings (v ∷ words) ]

kept : (w : List ℕ) (words : List (List ℕ)) → is_setting w ≡ false → without_settings (w ∷ words) ≡ w ∷ kept_behind (option_word w) words
kept w [] p = unless (is_setting w) [] p
  where
    unless : (t : Bool) (rest : List (List ℕ)) → t ≡ false → (if t then rest else w ∷ rest) ≡ w ∷ rest
    unless true rest h = absurd cc
    unless false rest h = refl
kept w (v ∷ words) p = unless (takes_next (option_word w)) (is_setting w) (v ∷ without_settings words) (without_settings (v ∷ words)) p
  where
    unless : (s t : Bool) (two rest : List (List ℕ)) → t ≡ false → (let l : List (List ℕ) = elim s [ true ↦ w ∷ two | false ↦ if t then rest else w ∷ rest ] in l ≡ w ∷ elim s [ true ↦ two | false ↦ rest ])
    unless true t two rest h = refl
    unless false true two rest h = absurd cc
    unless false false two rest h = refl

-- an edit, and the words behind it alone
abbrev pub with_kept : Edit × List (List ℕ) → Result (Edit × List (List ℕ)) EditRefusal
with_kept r = Ok (r.0, without_settings r.1)

module _ (d : Dictionary) where
  value_kept : (r : Result Edit EditRefusal) (words : List (List ℕ)) → (let s : Result (Edit × List (List ℕ)) EditRefusal = r >>= λ e. Ok (e, without_settings words) in s ≡ (r >>= λ e. Ok (e, words)) >>= with_kept)
  value_kept (Ok e) words = refl
  value_kept (Err u) words = refl

  after_kept : (o : OptionWord) (words : List (List ℕ)) → edit_after d o (kept_behind o words) ≡ (edit_after d o words >>= with_kept)
  after_kept private_word [] = refl
  after_kept private_word (v ∷ words) = refl
  after_kept (takes_word kind) [] = refl
  after_kept (takes_word kind) (v ∷ words) = value_kept (meant_word d kind v) words
  after_kept unknown_word [] = refl
  after_kept unknown_word (v ∷ words) = refl

  -- the first edit is the same without them
  first_kept : (w : List ℕ) (words : List (List ℕ)) → is_setting w ≡ false → first_edit d (without_settings (w ∷ words)) ≡ (first_edit d (w ∷ words) >>= with_kept)
  first_kept w words p = ap (first_edit d) (kept w words p) ∙ after_kept (option_word w) words

-- ---- words from a place on

-- what no word is
abbrev pub no_word : Bor (List ℕ)
no_word = record { ref_ptr = (0, 0); now = [] }

next_word : (k : ℕ) (ws : List (Bor (List ℕ))) (b : Bor (List ℕ)) → k < length ws → texts (drop k ws) ≡ (get_or ws k b).now ∷ texts (drop (k + 1) ws)
next_word k ws b h = rw (add-one, drop-cons ws k b)

behind_next : (k : ℕ) (ws : List (Bor (List ℕ))) → drop 1 (texts (drop k ws)) ≡ texts (drop (suc k) ws)
behind_next zero [] = refl
behind_next zero (w ∷ ws) = refl
behind_next (suc k) [] = refl
behind_next (suc k) (w ∷ ws) = behind_next k ws

pub left_out_at : (k : ℕ) (ws : List (Bor (List ℕ))) (b : Bor (List ℕ)) → k < length ws → is_setting (get_or ws k b).now ≡ true
    → without_settings (texts (drop k ws)) ≡ without_settings (texts (drop (k + 1) ws))
left_out_at k ws b h p = ap without_settings (next_word k ws b h) ∙ left_out (get_or ws k b).now (texts (drop (k + 1) ws)) p

pub first_kept_at : (d : Dictionary) (k : ℕ) (ws : List (Bor (List ℕ))) (b : Bor (List ℕ)) → k < length ws → is_setting (get_or ws k b).now ≡ false
    → first_edit d (without_settings (texts (drop k ws))) ≡ (first_edit d (texts (drop k ws)) >>= with_kept)
first_kept_at d k ws b h p =
    let words = next_word k ws b h in
    ap (λ (l : List (List ℕ)). first_edit d (without_settings l)) words
    ∙ first_kept d (get_or ws k b).now (texts (drop (k + 1) ws)) p
    ∙ ap (λ (l : List (List ℕ)). first_edit d l >>= with_kept) (sym words)

pub some_kept_at : (k : ℕ) (ws : List (Bor (List ℕ))) (b : Bor (List ℕ)) → k < length ws → is_setting (get_or ws k b).now ≡ false
    → 0 < length (without_settings (texts (drop k ws)))
some_kept_at k ws b h p =
    let is = ap without_settings (next_word k ws b h) ∙ kept (get_or ws k b).now (texts (drop (k + 1) ws)) p in
    subst (λ (l : List (List ℕ)). 0 < length l) (sym is) (omega arith)

-- ---- what they say

said_behind : (s : Settings) (w : List ℕ) (words : List (List ℕ)) → takes_next (option_word w) ≡ true → settings_after s (w ∷ words) ≡ settings_after s (drop 1 words)
said_behind s w [] p = first (takes_next (option_word w)) s _ p
  where
    first : (t : Bool) (x y : Settings) → t ≡ true → (let z : Settings = elim t [ true ↦ x | false ↦ y ] in z ≡ x)
    first true x y h = refl
    first false x y h = absurd cc
said_behind s w (v ∷ words) p = first (takes_next (option_word w)) (settings_after s words) _ p
  where
    first : (t : Bool) (x y : Settings) → t ≡ true → (let z : Settings = elim t [ true ↦ x | false ↦ y ] in z ≡ x)
    first true x y h = refl
    first false x y h = absurd cc

said_here : (s : Settings) (w : List ℕ) (words : List (List ℕ)) → takes_next (option_word w) ≡ false → settings_after s (w ∷ words) ≡ settings_after (and_setting s w) words
said_here s w [] p = second (takes_next (option_word w)) s _ p
  where
    second : (t : Bool) (x y : Settings) → t ≡ false → (let z : Settings = elim t [ true ↦ x | false ↦ y ] in z ≡ y)
    second true x y h = absurd cc
    second false x y h = refl
said_here s w (v ∷ words) p = second (takes_next (option_word w)) (settings_after s words) _ p
  where
    second : (t : Bool) (x y : Settings) → t ≡ false → (let z : Settings = elim t [ true ↦ x | false ↦ y ] in z ≡ y)
    second true x y h = absurd cc
    second false x y h = refl

pub said_behind_at : (s : Settings) (k : ℕ) (ws : List (Bor (List ℕ))) (b : Bor (List ℕ)) → k < length ws → takes_next (option_word (get_or ws k b).now) ≡ true
    → settings_after s (texts (drop k ws)) ≡ settings_after s (texts (drop (k + 2) ws))
said_behind_at s k ws b h p =
    let two : suc (k + 1) ≡ k + 2 = omega arith in
    ap (settings_after s) (next_word k ws b h)
    ∙ said_behind s (get_or ws k b).now (texts (drop (k + 1) ws)) p
    ∙ ap (settings_after s) (behind_next (k + 1) ws ∙ ap (λ n. texts (drop n ws)) two)

pub said_here_at : (s : Settings) (k : ℕ) (ws : List (Bor (List ℕ))) (b : Bor (List ℕ)) → k < length ws → takes_next (option_word (get_or ws k b).now) ≡ false
    → settings_after s (texts (drop k ws)) ≡ settings_after (and_setting s (get_or ws k b).now) (texts (drop (k + 1) ws))
said_here_at s k ws b h p = ap (settings_after s) (next_word k ws b h) ∙ said_here s (get_or ws k b).now (texts (drop (k + 1) ws)) p
