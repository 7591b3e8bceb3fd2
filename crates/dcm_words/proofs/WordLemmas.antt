-- The words of a tool, one after another.
use Rattle.std.proofs.Common.{◌≡◌, ◌≢◌, ◌==◌, ℕ, ℤ, zero, suc, ◌<◌, ◌+◌, List, [], ◌∷◌, ◌++◌, length, map, drop, get_or, Option, None, Some, option_map, Bool, true, false, Result, Ok, Err, refl, sym, ◌∙◌, ap, subst, arith, drop-cons, add-one, Bor}
use Rattle.dcm_lemmas.proofs.Numbers.{after_is_not_zero}
use Rattle.dcm_words.specs.declared.usage.Word.{Word}
use Rattle.dcm_words.specs.declared.usage.Word.TheVariants.{Read, Show, Decode, Element, Ways, WholeFile, DataSet, Bare, Target, Limit, Retain, Move, Pseudonyms, PixelsDealt, Key, Overwrite, Accepted, Path, Unknown}
use Rattle.dcm_words.specs.declared.usage.Move.{Move as Moved}
use Rattle.dcm_words.specs.declared.usage.Usage.{Usage}
use Rattle.dcm_words.specs.declared.usage.Usage.TheVariants.{AtWord, Whole}
use Rattle.dcm_base.specs.declared.fault.WordFault.TheVariants.{UnknownOption, BadOptionValue, WrongPaths}
use Rattle.dcm_words.specs.Words.{Said, Kind, alone, with_value, unknown, kind, said_with, said_with_value, said_after, and_path, and_move, limit_of, move_of, key_of, Job, plan_with_two}
use Rattle.dcm_words.specs.declared.words.Paths.{Paths}
use Rattle.dcm_words.specs.declared.words.Paths.TheVariants as paths
use Rattle.dcm_words.specs.Plans.{given, value_after, limit_after, move_after, key_after, element_after, PathsAre, SaidAs}
use Rattle.std.specs.Prelude.{IsErrAnd}
use Rattle.dcm_words.specs.declared.words.Said.{Said as Words}

abbrev texts : List (Bor (List ℕ)) → List (List ℕ)
texts ws = map (λ w. w.now) ws

next_word : (i : ℕ) (ws : List (Bor (List ℕ))) (d : Bor (List ℕ)) → i < length ws → texts (drop i ws) ≡ (get_or ws i d).now ∷ texts (drop (i + 1) ws)
next_word i ws d h = rw (add-one, drop-cons ws i d)

behind_one_more : (i : ℕ) (ws : List (Bor (List ℕ))) → drop 1 (texts (drop i ws)) ≡ texts (drop (suc i) ws)
behind_one_more zero [] = refl
behind_one_more zero (w ∷ ws) = refl
behind_one_more (suc i) [] = refl
behind_one_more (suc i) (w ∷ ws) = behind_one_more i ws

behind_one : (i : ℕ) (ws : List (Bor (List ℕ))) → drop 1 (texts (drop i ws)) ≡ texts (drop (i + 1) ws)
behind_one i ws = behind_one_more i ws ∙ ap (λ k. texts (drop k ws)) (sym (add-one i))

module _ (read : List ℕ → Word) where
  one_alone : (n : ℕ) (s : Said) (w : List ℕ) → kind (read w) ≡ alone → said_after read n s (w ∷ []) ≡ said_after read (suc n) (said_with (read w) w s) []
  one_alone n s w k = rw (k, said_after) refl

  one_before : (n : ℕ) (s : Said) (w v : List ℕ) (words : List (List ℕ)) → kind (read w) ≡ alone → said_after read n s (w ∷ v ∷ words) ≡ said_after read (suc n) (said_with (read w) w s) (v ∷ words)
  one_before n s w v words k = rw (k, said_after) refl

  alone_first : (n : ℕ) (s : Said) (w : List ℕ) (words : List (List ℕ)) → kind (read w) ≡ alone → said_after read n s (w ∷ words) ≡ said_after read (suc n) (said_with (read w) w s) words
  alone_first n s w [] k = one_alone n s w k
  alone_first n s w (v ∷ words) k = one_before n s w v words k

  one_word : (n : ℕ) (s : Said) (w : List ℕ) (words : List (List ℕ)) (x : Word) → read w ≡ x → kind x ≡ alone → said_after read n s (w ∷ words) ≡ said_after read (suc n) (said_with x w s) words
  one_word n s w words x e g = alone_first n s w words (ap kind e ∙ g) ∙ ap (λ y. said_after read (suc n) (said_with y w s) words) e

  no_word : (n : ℕ) (s : Said) (w : List ℕ) (words : List (List ℕ)) → read w ≡ Unknown → said_after read n s (w ∷ words) ≡ Err (AtWord UnknownOption n)
  no_word n s w [] e = rw (e, said_after) refl
  no_word n s w (v ∷ words) e = rw (e, said_after) refl

  pub goes_on : (i : ℕ) (ws : List (Bor (List ℕ))) (d : Bor (List ℕ)) (s : Said) (x : Word) → i < length ws → x ≡ read (get_or ws i d).now → kind x ≡ alone
      → said_after read (i + 2) s (texts (drop i ws)) ≡ said_after read (i + 1 + 2) (said_with x (get_or ws i d).now s) (texts (drop (i + 1) ws))
  goes_on i ws d s x h p g =
      let n : suc (i + 2) ≡ i + 1 + 2 = omega arith in
      ap (λ (l : List (List ℕ)). said_after read (i + 2) s l) (next_word i ws d h)
      ∙ (one_word (i + 2) s (get_or ws i d).now (texts (drop (i + 1) ws)) x (sym p) g
      ∙ ap (λ (m : ℕ). said_after read m (said_with x (get_or ws i d).now s) (texts (drop (i + 1) ws))) n)

  -- the word after one that wants a value is that
  value_alone : (n : ℕ) (s : Said) (w : List ℕ) → kind (read w) ≡ with_value → said_after read n s (w ∷ []) ≡ Err (AtWord BadOptionValue n)
  value_alone n s w k = rw (k, said_after) refl

  -- the next word, by what it comes to
  abbrev by_value : ℕ → List (List ℕ) → Option Said → Result Said Usage
  by_value n words None = Err (AtWord BadOptionValue n)
  by_value n words (Some t) = said_after read (n + 2) t words

  value_is : (n : ℕ) (s : Said) (w v : List ℕ) (words : List (List ℕ)) → kind (read w) ≡ with_value → said_after read n s (w ∷ v ∷ words) ≡ by_value n words (said_with_value (read w) v s)
  value_is n s w v words k = by_said (said_with_value (read w) v s) refl
    where
      by_said : (o : Option Said) → said_with_value (read w) v s ≡ o → said_after read n s (w ∷ v ∷ words) ≡ by_value n words (said_with_value (read w) v s)
      by_said None e = rw (k, e, said_after) refl
      by_said (Some t) e = rw (k, e, said_after) refl

  value_by : (n : ℕ) (s : Said) (w v : List ℕ) (words : List (List ℕ)) (x : Word) (o : Option Said) → read w ≡ x → kind x ≡ with_value → said_with_value x v s ≡ o → said_after read n s (w ∷ v ∷ words) ≡ by_value n words o
  value_by n s w v words x o e k is = value_is n s w v words (ap kind e ∙ k) ∙ ap (λ y. by_value n words (said_with_value y v s)) e ∙ ap (by_value n words) is

  module _ {A : Type 0} (x : Word) (of : List ℕ → Option A) (set : A → Said → Said) (wants : kind x ≡ with_value)
      (is : (v : List ℕ) (s : Said) → said_with_value x v s ≡ option_map (λ a. set a s) (of v)) where
    value_goes : (n : ℕ) (s : Said) (w : List ℕ) (vs : List (List ℕ)) (a : A) → read w ≡ x → value_after of n vs ≡ Ok a → said_after read n s (w ∷ vs) ≡ said_after read (n + 2) (set a s) (drop 1 vs)
    value_goes n s w [] a e l = absurd (cc)
    value_goes n s w (v ∷ words) a e l = goes_by (of v) refl l
      where
        goes_by : (o : Option A) → of v ≡ o → given n o ≡ Ok a → said_after read n s (w ∷ v ∷ words) ≡ said_after read (n + 2) (set a s) words
        goes_by None from l = absurd (cc)
        goes_by (Some k) from l =
            let same : k ≡ a = cc in
            value_by n s w v words x (Some (set a s)) e wants (is v s ∙ ap (option_map (λ b. set b s)) from ∙ ap (λ b. Some (set b s)) same)

    value_stops : (n : ℕ) (s : Said) (w : List ℕ) (vs : List (List ℕ)) (u : Usage) → read w ≡ x → value_after of n vs ≡ Err u → said_after read n s (w ∷ vs) ≡ Err u
    value_stops n s w [] u e l = let same : AtWord BadOptionValue n ≡ u = cc in value_alone n s w (ap kind e ∙ wants) ∙ ap Err same
    value_stops n s w (v ∷ words) u e l = stops_by (of v) refl l
      where
        stops_by : (o : Option A) → of v ≡ o → given n o ≡ Err u → said_after read n s (w ∷ v ∷ words) ≡ Err u
        stops_by None from l =
            let same : AtWord BadOptionValue n ≡ u = cc in
            value_by n s w v words x None e wants (is v s ∙ ap (option_map (λ b. set b s)) from) ∙ ap Err same
        stops_by (Some k) from l = absurd (cc)

    -- the turn of the loop that takes such a word and its value
    value_turn : {M : Result Said Usage} (i : ℕ) (ws : List (Bor (List ℕ))) (d : Bor (List ℕ)) (s t : Said) (a : A) → i < length ws → x ≡ read (get_or ws i d).now → value_after of (i + 2) (texts (drop (i + 1) ws)) ≡ Ok a
        → set a s ≡ t → said_after read (i + 2) s (texts (drop i ws)) ≡ M → said_after read (i + 1 + 1 + 2) t (texts (drop (i + 1 + 1) ws)) ≡ M
    value_turn i ws d s t a h p l e v =
        let n : i + 1 + 1 + 2 ≡ i + 2 + 2 = omega arith in
        ap (λ m. said_after read m t (texts (drop (i + 1 + 1) ws))) n
        ∙ ap (λ r. said_after read (i + 2 + 2) t r) (sym (behind_one (i + 1) ws))
        ∙ ap (λ u. said_after read (i + 2 + 2) u (drop 1 (texts (drop (i + 1) ws)))) (sym e)
        ∙ sym (value_goes (i + 2) s (get_or ws i d).now (texts (drop (i + 1) ws)) a (sym p) l)
        ∙ sym (ap (λ (r : List (List ℕ)). said_after read (i + 2) s r) (next_word i ws d h))
        ∙ v

    value_refused : (i : ℕ) (ws : List (Bor (List ℕ))) (d : Bor (List ℕ)) (s : Said) (u : Usage) → i < length ws → x ≡ read (get_or ws i d).now → value_after of (i + 2) (texts (drop (i + 1) ws)) ≡ Err u
        → said_after read (i + 2) s (texts (drop i ws)) ≡ Err u
    value_refused i ws d s u h p l =
        ap (λ (r : List (List ℕ)). said_after read (i + 2) s r) (next_word i ws d h)
        ∙ value_stops (i + 2) s (get_or ws i d).now (texts (drop (i + 1) ws)) u (sym p) l

  limit_is : (v : List ℕ) (s : Said) → said_with_value Limit v s ≡ option_map (λ limit. record s { limit = limit }) (limit_of v)
  limit_is v s = refl

  key_is : (v : List ℕ) (s : Said) → said_with_value Key v s ≡ option_map (λ key. record s { key = Some key }) (key_of v)
  key_is v s = refl

  move_is : (v : List ℕ) (s : Said) → said_with_value Move v s ≡ option_map (λ moved. record s { choice = and_move s.choice moved }) (move_of v)
  move_is v s = refl

  pub limit_turn : {M : Result Said Usage} (i : ℕ) (ws : List (Bor (List ℕ))) (d : Bor (List ℕ)) (s t : Said) (limit : ℕ) → i < length ws → Limit ≡ read (get_or ws i d).now → limit_after (i + 2) (texts (drop (i + 1) ws)) ≡ Ok limit
      → record s { limit = limit } ≡ t → said_after read (i + 2) s (texts (drop i ws)) ≡ M → said_after read (i + 1 + 1 + 2) t (texts (drop (i + 1 + 1) ws)) ≡ M
  limit_turn i ws d s t limit h p l e v = value_turn Limit limit_of (λ a s. record s { limit = a }) refl limit_is i ws d s t limit h p l e v

  pub limit_refused : (i : ℕ) (ws : List (Bor (List ℕ))) (d : Bor (List ℕ)) (s : Said) (u : Usage) → i < length ws → Limit ≡ read (get_or ws i d).now → limit_after (i + 2) (texts (drop (i + 1) ws)) ≡ Err u
      → said_after read (i + 2) s (texts (drop i ws)) ≡ Err u
  limit_refused i ws d s u h p l = value_refused Limit limit_of (λ a s. record s { limit = a }) refl limit_is i ws d s u h p l

  pub key_turn : {M : Result Said Usage} (i : ℕ) (ws : List (Bor (List ℕ))) (d : Bor (List ℕ)) (s t : Said) (key : List ℕ) → i < length ws → Key ≡ read (get_or ws i d).now → key_after (i + 2) (texts (drop (i + 1) ws)) ≡ Ok key
      → record s { key = Some key } ≡ t → said_after read (i + 2) s (texts (drop i ws)) ≡ M → said_after read (i + 1 + 1 + 2) t (texts (drop (i + 1 + 1) ws)) ≡ M
  key_turn i ws d s t key h p l e v = value_turn Key key_of (λ a s. record s { key = Some a }) refl key_is i ws d s t key h p l e v

  pub key_refused : (i : ℕ) (ws : List (Bor (List ℕ))) (d : Bor (List ℕ)) (s : Said) (u : Usage) → i < length ws → Key ≡ read (get_or ws i d).now → key_after (i + 2) (texts (drop (i + 1) ws)) ≡ Err u
      → said_after read (i + 2) s (texts (drop i ws)) ≡ Err u
  key_refused i ws d s u h p l = value_refused Key key_of (λ a s. record s { key = Some a }) refl key_is i ws d s u h p l

  element_is : (v : List ℕ) (s : Said) → said_with_value Element v s ≡ option_map (λ w. record s { elements = s.elements ++ w ∷ [] }) (Some v)
  element_is v s = refl

  pub element_turn : {M : Result Said Usage} (i : ℕ) (ws : List (Bor (List ℕ))) (d : Bor (List ℕ)) (s t : Said) (w : List ℕ) → i < length ws → Element ≡ read (get_or ws i d).now → element_after (i + 2) (texts (drop (i + 1) ws)) ≡ Ok w
      → record s { elements = s.elements ++ w ∷ [] } ≡ t → said_after read (i + 2) s (texts (drop i ws)) ≡ M → said_after read (i + 1 + 1 + 2) t (texts (drop (i + 1 + 1) ws)) ≡ M
  element_turn i ws d s t w h p l e v = value_turn Element Some (λ a s. record s { elements = s.elements ++ a ∷ [] }) refl element_is i ws d s t w h p l e v

  pub element_refused : (i : ℕ) (ws : List (Bor (List ℕ))) (d : Bor (List ℕ)) (s : Said) (u : Usage) → i < length ws → Element ≡ read (get_or ws i d).now → element_after (i + 2) (texts (drop (i + 1) ws)) ≡ Err u
      → said_after read (i + 2) s (texts (drop i ws)) ≡ Err u
  element_refused i ws d s u h p l = value_refused Element Some (λ a s. record s { elements = s.elements ++ a ∷ [] }) refl element_is i ws d s u h p l

  pub move_turn : {M : Result Said Usage} (i : ℕ) (ws : List (Bor (List ℕ))) (d : Bor (List ℕ)) (s t : Said) (moved : Moved) → i < length ws → Move ≡ read (get_or ws i d).now → move_after (i + 2) (texts (drop (i + 1) ws)) ≡ Ok moved
      → record s { choice = and_move s.choice moved } ≡ t → said_after read (i + 2) s (texts (drop i ws)) ≡ M → said_after read (i + 1 + 1 + 2) t (texts (drop (i + 1 + 1) ws)) ≡ M
  move_turn i ws d s t moved h p l e v = value_turn Move move_of (λ a s. record s { choice = and_move s.choice a }) refl move_is i ws d s t moved h p l e v

  pub move_refused : (i : ℕ) (ws : List (Bor (List ℕ))) (d : Bor (List ℕ)) (s : Said) (u : Usage) → i < length ws → Move ≡ read (get_or ws i d).now → move_after (i + 2) (texts (drop (i + 1) ws)) ≡ Err u
      → said_after read (i + 2) s (texts (drop i ws)) ≡ Err u
  move_refused i ws d s u h p l = value_refused Move move_of (λ a s. record s { choice = and_move s.choice a }) refl move_is i ws d s u h p l

  pub stops : (i : ℕ) (ws : List (Bor (List ℕ))) (d : Bor (List ℕ)) (s : Said) → i < length ws → Unknown ≡ read (get_or ws i d).now
      → said_after read (i + 2) s (texts (drop i ws)) ≡ Err (AtWord UnknownOption (i + 2))
  stops i ws d s h p =
      ap (λ (l : List (List ℕ)). said_after read (i + 2) s l) (next_word i ws d h)
      ∙ no_word (i + 2) s (get_or ws i d).now (texts (drop (i + 1) ws)) (sym p)

pub length-and_path : (ps : List (List ℕ)) (w : List ℕ) → length (and_path ps w) ≡ length ps + 1
length-and_path [] w = refl
length-and_path (p ∷ ps) w = omega (arith, length-and_path ps w)

-- there were more than two paths
pub more_than_two : (p : Paths) (ps : List (List ℕ)) → p ≡ paths.More → PathsAre p ps → 2 < length ps
more_than_two paths.None ps e h = cc
more_than_two (paths.One first) ps e h = cc
more_than_two (paths.Two first second) ps e h = cc
more_than_two paths.More ps e h = h

-- one turn of the loop
pub turn : {M : Result Said Usage} (read : List ℕ → Word) (i : ℕ) (ws : List (Bor (List ℕ))) (d : Bor (List ℕ)) (s t : Said) (x : Word) → i < length ws → x ≡ read (get_or ws i d).now → kind x ≡ alone
    → said_with x (get_or ws i d).now s ≡ t → said_after read (i + 2) s (texts (drop i ws)) ≡ M → said_after read (i + 1 + 2) t (texts (drop (i + 1) ws)) ≡ M
turn read i ws d s t x h p g e v = ap (λ (u : Said). said_after read (i + 1 + 2) u (texts (drop (i + 1) ws))) (sym e) ∙ (sym (goes_on read i ws d s x h p g) ∙ v)

-- the place that the next turn begins behind
pub placed : {M : Result Said Usage} (read : List ℕ → Word) (k i : ℕ) (ws : List (Bor (List ℕ))) (s : Said) → k ≡ i → said_after read (i + 1 + 2) s (texts (drop (i + 1) ws)) ≡ M → said_after read (k + 1 + 2) s (texts (drop (k + 1) ws)) ≡ M
placed read k i ws s e h = ap (λ j. said_after read (j + 1 + 2) s (texts (drop (j + 1) ws))) e ∙ h

-- ---- paths that are not two, or empty

module _ (overwrites : Bool) (job : Job) where
  abbrev pub AreWrong : List (List ℕ) → Type 0
  AreWrong ps = plan_with_two ps overwrites job ≡ Err (Whole WrongPaths)

  pub empty_first : (input output : List ℕ) → (length input == 0) ≡ true → AreWrong (input ∷ output ∷ [])
  empty_first [] output p = refl
  empty_first (c ∷ cs) output p = absurd (after_is_not_zero (length cs) p)

  pub empty_second : (input output : List ℕ) → (length output == 0) ≡ true → AreWrong (input ∷ output ∷ [])
  empty_second [] output p = refl
  empty_second (c ∷ cs) [] p = refl
  empty_second (c ∷ cs) (b ∷ bs) p = absurd (after_is_not_zero (length bs) p)

  too_many : (ps : List (List ℕ)) → 2 < length ps → AreWrong ps
  too_many [] h = absurd (omega (arith, h))
  too_many (p ∷ []) h = absurd (omega (arith, h))
  too_many (p ∷ q ∷ []) h = absurd (omega (arith, h))
  too_many (p ∷ q ∷ r ∷ ps) h = refl

  pub not_two : (p : Paths) (ps : List (List ℕ)) → ((x y : Bor (List ℕ)) → p ≢ paths.Two x y) → PathsAre p ps → AreWrong ps
  not_two paths.None ps n are = subst AreWrong (sym are) refl
  not_two (paths.One first) ps n are = subst AreWrong (sym are) refl
  not_two (paths.Two first second) ps n are = absurd (n first second refl)
  not_two paths.More ps n are = too_many ps are

-- ---- what was refused

pub refused_as : (r : Result Words Usage) (u : Usage) (meant : Result Said Usage) (R : Usage → Type 0) → IsErrAnd r R → ((e : Usage) → R e → e ≡ u)
    → meant ≡ Err u → SaidAs r meant
refused_as (Ok s) u meant R h same m = absurd h
refused_as (Err e) u meant R h same m = m ∙ ap (λ (v : Usage). Err v) (sym (same e h))
