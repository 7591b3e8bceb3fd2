-- What words say, one after another.
use Rattle.std.proofs.Common.{◌≡◌, ◌∙◌, ap, sym, refl, ℕ, ◌+◌, ◌<◌, List, [], ◌∷◌, length, drop, get_or, None, Bool, true, false, arith, drop-cons, add-one, Bor}
use Rattle.std.specs.Prelude.{codes, bytes_eq, ◌==◌, if◌then◌else◌}
use Rattle.std.specs.Str.{byte}
use Rattle.dcm_table_words.specs.Table.{Saying, unknown, no_header, as_is, decoded, name, file, list, sayings, word_says, other_word, is_option, has_value, width, word_fault, refused}
use Rattle.dcm_table_words.specs.declared.saying.Tool.{Tool}
use Rattle.dcm_table_words.specs.Said.{texts, sayings_of, Says}

-- the word at a place, and those after it
next_word : (i : ℕ) (ws : List (Bor (List ℕ))) (d : Bor (List ℕ)) → i < length ws → texts (drop i ws) ≡ (get_or ws i d).now ∷ texts (drop (i + 1) ws)
next_word i ws d h = rw (add-one, drop-cons ws i d)

-- ---- a word without a value

one_wide : (b : Bool) (s t : Saying) → width s ≡ 1 → width t ≡ 1 → width (if b then s else t) ≡ 1
one_wide true s t one other = one
one_wide false s t one other = other

other_wide : (w : List ℕ) → width (other_word w) ≡ 1
other_wide [] = refl
other_wide (c ∷ cs) =
    one_wide (bytes_eq (c ∷ cs) (codes "-")) (name (file (c ∷ cs))) _ refl
    (one_wide (is_option c) unknown _ refl (one_wide (c == byte "@") (name (list cs)) (name (file (c ∷ cs))) refl refl))

pub says_wide : (w : List ℕ) → width (word_says w) ≡ 1
says_wide w = one_wide (bytes_eq w (codes "+nh")) no_header _ refl (one_wide (bytes_eq w (codes "+by")) as_is _ refl (one_wide (bytes_eq w (codes "+u8")) decoded (other_word w) refl (other_wide w)))

other_said : (tool : Tool) (w : List ℕ) (words : List (List ℕ)) → has_value tool w ≡ false → sayings tool (w ∷ words) ≡ word_says w ∷ sayings tool words
other_said tool w [] e = rw (e, sayings) refl
other_said tool w (v ∷ words) e = rw (e, sayings) refl

pub word_at : (tool : Tool) (s : Saying) (at : ℕ) (ws : List (Bor (List ℕ))) (d : Bor (List ℕ)) → at < length ws → has_value tool (get_or ws at d).now ≡ false → s ≡ word_says (get_or ws at d).now → Says tool s (at + 1) at ws
word_at tool s at ws d h other is =
    let w : List ℕ = (get_or ws at d).now in
    record {
      said = ap (sayings tool) (next_word at ws d h) ∙ other_said tool w (texts (drop (at + 1) ws)) other ∙ ap (λ x. x ∷ sayings_of tool (drop (at + 1) ws)) (sym is);
      place = ap (λ k. at + k) (sym (ap width is ∙ says_wide w));
      within = omega (arith, h);
    }

-- ---- a refusal

not_refused : (n : ℕ) (s : Saying) (others : List Saying) → word_fault s ≡ None → refused n (s ∷ others) ≡ refused (n + width s) others
not_refused n s others e = rw (e, refused) refl

pub refused_later : (at next : ℕ) (s : Saying) (said others : List Saying) → said ≡ s ∷ others → word_fault s ≡ None → next ≡ at + width s → refused (at + 2) said ≡ refused (next + 2) others
refused_later at next s said others is none place =
    let number : at + 2 + width s ≡ next + 2 = omega (arith, place) in
    ap (refused (at + 2)) is ∙ not_refused (at + 2) s others none ∙ ap (λ n. refused n others) number
