-- No line of a header says that texts are shown as characters.
use Rattle.std.proofs.Common.{◌≡◌, ap, sym, refl, subst, ℕ, zero, suc, ◌/◌, ◌%◌, ◌<◌, List, [], ◌∷◌, ◌++◌, length, drop, reverse, codes, cond, Option, Some, None, Bool, true, false, ◌&&◌, ◌||◌, not, arith}
use Rattle.std.specs.Prelude.{◌==◌, ◌-◌, nat_eq, nat_lt, find, flat_map, bytes_eq}
use Rattle.std.specs.Cmp.Lexicographic.{pointwise}
use Rattle.std.specs.List.{list_all}
use Rattle.std.specs.Option.{option_map_or}
use Rattle.std.specs.Str.{byte}
use Rattle.std.proofs.lemmas.Bool.Decides.{nat_tests}
use Rattle.std.proofs.lemmas.List.{reverse-append}
use Rattle.dcm_lemmas.proofs.Options.{mapped}
use Rattle.dcm_lemmas.proofs.Truth.{and_first, and_second, and_second_false, not_true}
use Rattle.dcm_base.specs.Dump.Header.{identifier_byte, syntax_name}
use Rattle.dcm_base.specs.Dump.ValueText.{upper, escape}
use Rattle.dcm_base.specs.Lines.Line.{space, without_spaces, without_last_spaces, CHARACTERS_MARK, is_marked, by_characters, nothing, means}
use Rattle.dcm_base.specs.Tables.Uid.{Named, uids, uid_name}
use Rattle.dcm_base.proofs.DumpsBack.Texts.{Bytes}
use Rattle.dcm_base.proofs.DumpsBack.Values.{found}
use Rattle.dcm_base_laws.proofs.DumpsBack.Fields.{Bytewise, Bytewise-append, IsNot, IsPrinted, escape_is_printed}

-- ---- what has no closing parenthesis is not marked

abbrev HasNone : List ℕ → Type 0
HasNone text = Bytewise (IsNot 41) text

reversed : (text : List ℕ) → HasNone text → HasNone (reverse text)
reversed [] h = tt
reversed (c ∷ cs) h = subst HasNone (sym (reverse-append (c ∷ []) cs)) (Bytewise-append (IsNot 41) (reverse cs) (c ∷ []) (reversed cs h.1) (h.0, tt))

unspaced : (text : List ℕ) → HasNone text → HasNone (without_spaces text)
unspaced [] h = tt
unspaced (c ∷ cs) h = by_test (c == space) (unspaced cs h.1)
  where
    by_test : (t : Bool) → HasNone (without_spaces cs) → HasNone (cond t (without_spaces cs) (c ∷ cs))
    by_test true k = k
    by_test false k = h

dropped : (n : ℕ) (text : List ℕ) → HasNone text → HasNone (drop n text)
dropped zero text h = h
dropped (suc n) [] h = tt
dropped (suc n) (c ∷ cs) h = dropped n cs h.1

other_way : (c : ℕ) → (c == 41) ≡ false → (41 == c) ≡ false
other_way c e = grind (arith, nat_tests, e)

unlike : (before text : List ℕ) → HasNone text → pointwise nat_eq (before ++ 41 ∷ []) text ≡ false
unlike [] [] h = refl
unlike [] (c ∷ cs) h = ap (λ (t : Bool). t && pointwise nat_eq [] cs) (other_way c h.0)
unlike (b ∷ before) [] h = refl
unlike (b ∷ before) (c ∷ cs) h = and_second_false (b == c) (pointwise nat_eq (before ++ 41 ∷ []) cs) (unlike before cs h.1)

no_mark : (line : List ℕ) → HasNone line → is_marked line ≡ false
no_mark line h =
    let kept = without_last_spaces line in
    unlike (codes "(texts in UTF-8") (drop (length kept - length CHARACTERS_MARK) kept)
    (dropped (length kept - length CHARACTERS_MARK) kept (reversed (without_spaces (reverse line)) (unspaced (reverse line) (reversed line h))))

-- ---- a transfer syntax has none

without_any : List ℕ → Bool
without_any text = list_all (λ c. not (c == 41)) text

none_of : (text : List ℕ) → without_any text ≡ true → HasNone text
unfolding without_any
none_of [] e = tt
none_of (c ∷ cs) e = (not_true (c == 41) (and_first (not (c == 41)) _ e), none_of cs (and_second (not (c == 41)) _ e))

is_named_without : Named → Bool
is_named_without u = without_any u.1

all_names : list_all is_named_without uids ≡ true
unfolding uids is_named_without without_any
all_names = refl

name_has_none : (uid name : List ℕ) → uid_name uid ≡ Some name → HasNone name
unfolding uid_name is_named_without
name_has_none uid name p =
    let m = mapped (λ (u : Named). u.1) (find (λ (u : Named). bytes_eq u.0 uid) uids) name p in
    let q = found (λ u. bytes_eq u.0 uid) is_named_without uids m.0 all_names m.1 in
    none_of name (subst (λ n. without_any n ≡ true) m.2 q.0)

digit_is_not : (d : ℕ) → d < 16 → IsNot 41 (upper d)
digit_is_not d l = grind (arith, nat_tests)

escape_has_none : (b : ℕ) → b < 256 → (b == 41) ≡ false → HasNone (escape b)
escape_has_none b l e = by_test (nat_lt b 32 || b == 127 || b == 37 || b == 93)
  where
    by_test : (t : Bool) → HasNone (cond t (37 ∷ upper (b / 16) ∷ upper (b % 16) ∷ []) (b ∷ []))
    by_test true = (refl, (digit_is_not (b / 16) (omega (arith, l)), (digit_is_not (b % 16) (omega arith), tt)))
    by_test false = (e, tt)

byte_has_none : (b : ℕ) → b < 256 → HasNone (identifier_byte b)
byte_has_none b l = by_test (b == byte ")") refl
  where
    by_test : (t : Bool) → (b == byte ")") ≡ t → HasNone (cond t (codes "%29") (escape b))
    by_test true e = (refl, (refl, (refl, tt)))
    by_test false e = escape_has_none b l e

bytes_have_none : (uid : List ℕ) → Bytes uid → HasNone (flat_map identifier_byte uid)
bytes_have_none [] h = tt
bytes_have_none (b ∷ uid) h = Bytewise-append (IsNot 41) (identifier_byte b) (flat_map identifier_byte uid) (byte_has_none b h.0) (bytes_have_none uid h.1)

syntax_has_none : (uid : List ℕ) → Bytes uid → HasNone (syntax_name uid)
syntax_has_none uid h = by_name (uid_name uid) refl
  where
    by_name : (o : Option (List ℕ)) → uid_name uid ≡ o → HasNone (option_map_or (λ name. name) o (flat_map identifier_byte uid))
    by_name None e = bytes_have_none uid h
    by_name (Some name) e = name_has_none uid name e

used_has_none : HasNone (codes "# Used TransferSyntax: ")
unfolding without_any
used_has_none = none_of (codes "# Used TransferSyntax: ") refl

pub used_is_silent : (uid : List ℕ) → Bytes uid → means (codes "# Used TransferSyntax: " ++ syntax_name uid) ≡ nothing
used_is_silent uid h =
    ap (λ (t : Bool). cond t by_characters nothing)
    (no_mark (codes "# Used TransferSyntax: " ++ syntax_name uid) (Bytewise-append (IsNot 41) (codes "# Used TransferSyntax: ") (syntax_name uid) used_has_none (syntax_has_none uid h)))

-- ---- and no control

byte_is_printed : (b : ℕ) → b < 256 → Bytewise IsPrinted (identifier_byte b)
byte_is_printed b l = by_test (b == byte ")")
  where
    by_test : (t : Bool) → Bytewise IsPrinted (cond t (codes "%29") (escape b))
    by_test true = (omega arith, (omega arith, (omega arith, tt)))
    by_test false = escape_is_printed b l

pub identifier_is_printed : (uid : List ℕ) → Bytes uid → Bytewise IsPrinted (flat_map identifier_byte uid)
identifier_is_printed [] h = tt
identifier_is_printed (b ∷ uid) h = Bytewise-append IsPrinted (identifier_byte b) (flat_map identifier_byte uid) (byte_is_printed b h.0) (identifier_is_printed uid h.1)
