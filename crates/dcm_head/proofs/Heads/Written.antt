-- The bytes of a head spell it.
use Rattle.std.proofs.Common.{◌≡◌, ℕ, ◌+◌, ◌≤◌, ◌<◌, List, [], ◌∷◌, ◌++◌, length, drop, get_or, Some, Bool, true, false, cond, ◌&&◌, ◌||◌, not, refl, sym, ap, ◌∙◌, subst, arith, append_assoc}
use Rattle.std.specs.Bool.{MatchBool}
use Rattle.std.specs.Int.{w16, w32}
use Rattle.std.proofs.lemmas.Bool.{ne_eqb}
use Rattle.std.proofs.lemmas.List.{append-nil}
use Rattle.byteorder.specs.Numbers.{big_number-reads_back, little_number-reads_back}
use Rattle.dcm_lemmas.proofs.Lists.{nothing_behind}
use Rattle.dcm_lemmas.proofs.Truth.{and_false}
use Rattle.dcm_base.specs.declared.tag.Tag.{Tag}
use Rattle.dcm_base.specs.declared.vr.Vr.{Vr}
use Rattle.dcm_base.specs.declared.vr.Vr.TheVariants.{AE, UN}
use Rattle.dcm_base.specs.declared.syntax.Syntax.{Syntax}
use Rattle.dcm_base.specs.declared.syntax.Syntax.TheVariants.{Implicit as implicit_in, Little as little_in, Big as big_in}
use Rattle.dcm_base.specs.declared.length.Length.{Length}
use Rattle.dcm_base.specs.declared.length.Length.TheVariants.{Known, Undefined}
use Rattle.dcm_base.specs.Tables.Number.{number, IsTag}
use Rattle.dcm_base.specs.Tables.Representation.{is_long, letters, vr_of, vr_read}
use Rattle.dcm_base.specs.Tables.Tag.{is_item, item_tag}
use Rattle.dcm_base.specs.Bytes.Head.{PlainHead, ItemHead, Delimiter, HeadSpells, tag_at, vr_at, length_at, long_length}
use Rattle.dcm_base.specs.Conversion.Recode.{number_bytes, tag_bytes, length_number, plain_head, head, is_explicit}
use Rattle.dcm_base.specs.Tables.Dictionary.{vr_in}
use Rattle.dcm_base.proofs.DataSets.Heads.{is_tag_true}
use Rattle.dcm_base.specs.Tables.Syntax.{dictionary_of}
use Rattle.dcm_base.specs.declared.dictionary.Dictionary.{Dictionary}
use Rattle.dcm_head.specs.declared.head.Head.{Head}
use Rattle.dcm_head.specs.HeadRead.{is_delimiter}
use Rattle.dcm_head.specs.HeadBytes.{head_bytes, FitsShort, FitsLong, HasSpelling}
use Rattle.dcm_head.proofs.Heads.Explicit.{head_is}
use Rattle.dcm_head.proofs.Heads.Laws.{head_at}

-- ---- numbers and tags

short_back : (s : Syntax) (n : ℕ) (rest : List ℕ) → n < 65536 → number s 2 (number_bytes s w16 n ++ rest) ≡ n
short_back (implicit_in d) n rest h = little_number-reads_back 2 n rest h
short_back (little_in d) n rest h = little_number-reads_back 2 n rest h
short_back (big_in d) n rest h = big_number-reads_back 2 n rest h

long_back : (s : Syntax) (n : ℕ) (rest : List ℕ) → n < 4294967296 → number s 4 (number_bytes s w32 n ++ rest) ≡ n
long_back (implicit_in d) n rest h = little_number-reads_back 4 n rest h
long_back (little_in d) n rest h = little_number-reads_back 4 n rest h
long_back (big_in d) n rest h = big_number-reads_back 4 n rest h

behind_short : (s : Syntax) (n : ℕ) (rest : List ℕ) → drop 2 (number_bytes s w16 n ++ rest) ≡ rest
behind_short (implicit_in d) n rest = refl
behind_short (little_in d) n rest = refl
behind_short (big_in d) n rest = refl

tag_back : (s : Syntax) (t : Tag) (rest : List ℕ) → IsTag t → t ≡ tag_at s (tag_bytes s t ++ rest)
tag_back s t rest h =
    let whole = append_assoc (number_bytes s w16 t.group) (number_bytes s w16 t.element) rest in
    let group = ap (number s 2) whole ∙ short_back s t.group (number_bytes s w16 t.element ++ rest) h.0 in
    let element = ap (λ (x : List ℕ). number s 2 (drop 2 x)) whole ∙ ap (number s 2) (behind_short s t.group (number_bytes s w16 t.element ++ rest)) ∙ short_back s t.element rest h.1 in
    λ i. record { group = sym group i; element = sym element i }

behind_tag : (s : Syntax) (t : Tag) (rest : List ℕ) → drop 4 (tag_bytes s t ++ rest) ≡ rest
behind_tag (implicit_in d) t rest = refl
behind_tag (little_in d) t rest = refl
behind_tag (big_in d) t rest = refl

tag_size : (s : Syntax) (t : Tag) (rest : List ℕ) → length (tag_bytes s t ++ rest) ≡ 4 + length rest
tag_size (implicit_in d) t rest = omega arith
tag_size (little_in d) t rest = omega arith
tag_size (big_in d) t rest = omega arith

-- ---- lengths

long_length_back : (l : Length) → FitsLong l → long_length (length_number l) ≡ l
long_length_back (Known n) h = ap (λ (b : Bool). cond b Undefined (Known n)) (ne_eqb n 4294967295 (λ e. omega arith))
long_length_back Undefined h = refl

long_number : (l : Length) → FitsLong l → length_number l < 4294967296
long_number (Known n) h = omega arith
long_number Undefined h = omega arith

long_told : (s : Syntax) (l : Length) → FitsLong l → l ≡ long_length (number s 4 (number_bytes s w32 (length_number l)))
long_told s l h =
    sym (ap long_length (ap (number s 4) (sym (append-nil (number_bytes s w32 (length_number l)))) ∙ long_back s (length_number l) [] (long_number l h)) ∙ long_length_back l h)

short_told : (s : Syntax) (l : Length) → FitsShort l → l ≡ Known (number s 2 (number_bytes s w16 (length_number l)))
short_told s (Known n) h = ap Known (sym (ap (number s 2) (sym (append-nil (number_bytes s w16 n))) ∙ short_back s n [] h))
short_told s Undefined h = absurd h

four_long : (s : Syntax) (n : ℕ) → number_bytes s w32 n ≡ number_bytes s w32 n → length (number_bytes s w32 n) ≡ 4
four_long (implicit_in d) n e = refl
four_long (little_in d) n e = refl
four_long (big_in d) n e = refl

two_short : (s : Syntax) (n : ℕ) → length (number_bytes s w16 n) ≡ 2
two_short (implicit_in d) n = refl
two_short (little_in d) n = refl
two_short (big_in d) n = refl

-- ---- heads without letters

plain_size : (s : Syntax) (t : Tag) (l : Length) → length (plain_head s t l) ≡ 8
plain_size s t l = tag_size s t (number_bytes s w32 (length_number l)) ∙ ap (λ (n : ℕ). 4 + n) (four_long s (length_number l) refl)

plain_told : (s : Syntax) (t : Tag) (l : Length) → FitsLong l → l ≡ long_length (number s 4 (drop 4 (plain_head s t l)))
plain_told s t l h = long_told s l h ∙ ap (λ (x : List ℕ). long_length (number s 4 x)) (sym (behind_tag s t (number_bytes s w32 (length_number l))))

eight : (bytes : List ℕ) → length bytes ≡ 8 → 8 ≤ length bytes
eight bytes e = omega arith

pub item_spelled : (s : Syntax) (t : Tag) (l : Length) → IsTag t → t ≡ item_tag → FitsLong l → ItemHead s l (plain_head s t l) []
item_spelled s t l h e fits =
    let size = plain_size s t l in
    record {
      tag_is = sym e ∙ tag_back s t (number_bytes s w32 (length_number l)) h;
      whole = eight (plain_head s t l) size;
      length_is = plain_told s t l fits;
      after_is = nothing_behind 8 (plain_head s t l) size;
    }

pub delimiter_spelled : (s : Syntax) (t : Tag) (l : Length) → IsTag t → Delimiter s t (plain_head s t l) []
delimiter_spelled s t l h =
    let size = plain_size s t l in
    record {
      tag_is = tag_back s t (number_bytes s w32 (length_number l)) h;
      whole = eight (plain_head s t l) size;
      after_is = nothing_behind 8 (plain_head s t l) size;
    }

-- ---- heads with letters

-- the two letters, which tell the representation
two_letters : (vr : Vr) → letters vr ≡ get_or (letters vr) 0 0 ∷ get_or (letters vr) 1 0 ∷ []
unfolding letters
two_letters AE = refl
two_letters _ = refl

letters_tell : (vr : Vr) → Some vr ≡ vr_read (get_or (letters vr) 0 0) (get_or (letters vr) 1 0)
unfolding letters vr_of
letters_tell AE = refl
letters_tell _ = refl

abbrev with_letters : Syntax → Tag → Length → Bool → List ℕ → List ℕ
with_letters s t l long two = tag_bytes s t ++ two ++ cond long (0 ∷ 0 ∷ number_bytes s w32 (length_number l)) (number_bytes s w16 (length_number l))

letters_spelled : (s : Syntax) (t : Tag) (vr : Vr) (l : Length) (long : Bool) (a c : ℕ) → is_explicit s ≡ true → IsTag t → is_long vr ≡ long → Some vr ≡ vr_read a c
    → (long ≡ false → FitsShort l) → (long ≡ true → FitsLong l) → PlainHead s t vr l (with_letters s t l long (a ∷ c ∷ [])) []
letters_spelled (implicit_in d) t vr l long a c h tag e r short wide = absurd (cc)
letters_spelled (little_in d) t vr l true a c h tag e r short wide =
    head_is (little_in d) t vr l true (with_letters (little_in d) t l true (a ∷ c ∷ [])) h e (tag_back (little_in d) t (a ∷ c ∷ 0 ∷ 0 ∷ number_bytes (little_in d) w32 (length_number l)) tag) r (omega arith) (long_told (little_in d) l (wide refl))
letters_spelled (little_in d) t vr l false a c h tag e r short wide =
    head_is (little_in d) t vr l false (with_letters (little_in d) t l false (a ∷ c ∷ [])) h e (tag_back (little_in d) t (a ∷ c ∷ number_bytes (little_in d) w16 (length_number l)) tag) r (omega arith) (short_told (little_in d) l (short refl))
letters_spelled (big_in d) t vr l true a c h tag e r short wide =
    head_is (big_in d) t vr l true (with_letters (big_in d) t l true (a ∷ c ∷ [])) h e (tag_back (big_in d) t (a ∷ c ∷ 0 ∷ 0 ∷ number_bytes (big_in d) w32 (length_number l)) tag) r (omega arith) (long_told (big_in d) l (wide refl))
letters_spelled (big_in d) t vr l false a c h tag e r short wide =
    head_is (big_in d) t vr l false (with_letters (big_in d) t l false (a ∷ c ∷ [])) h e (tag_back (big_in d) t (a ∷ c ∷ number_bytes (big_in d) w16 (length_number l)) tag) r (omega arith) (short_told (big_in d) l (short refl))

explicit_spelled : (s : Syntax) (t : Tag) (vr : Vr) (l : Length) → is_explicit s ≡ true → IsTag t → (is_long vr ≡ false → FitsShort l) → (is_long vr ≡ true → FitsLong l)
    → PlainHead s t vr l (with_letters s t l (is_long vr) (letters vr)) []
explicit_spelled s t vr l h tag short wide =
    subst (λ (two : List ℕ). PlainHead s t vr l (with_letters s t l (is_long vr) two) []) (sym (two_letters vr))
    (letters_spelled s t vr l (is_long vr) (get_or (letters vr) 0 0) (get_or (letters vr) 1 0) h tag refl (letters_tell vr) short wide)

implicit_spelled : (d : Dictionary) (t : Tag) (vr : Vr) (l : Length) → IsTag t → vr ≡ vr_in d t → FitsLong l → PlainHead (implicit_in d) t vr l (plain_head (implicit_in d) t l) []
unfolding vr_at length_at
implicit_spelled d t vr l h v fits =
    let tag = tag_back (implicit_in d) t (number_bytes (implicit_in d) w32 (length_number l)) h in
    let size = plain_size (implicit_in d) t l in
    record {
      tag_is = tag;
      vr_is = ap Some v ∙ ap (λ (x : Tag). Some (vr_in d x)) tag;
      whole = eight (plain_head (implicit_in d) t l) size;
      length_is = plain_told (implicit_in d) t l fits;
      after_is = nothing_behind 8 (plain_head (implicit_in d) t l) size;
    }

-- ---- any head

pub element_spelled : (s : Syntax) (t : Tag) (vr : Vr) (l : Length) → IsTag t → MatchBool (is_explicit s) (Unit {0}) (vr ≡ vr_in (dictionary_of s) t)
    → ((is_explicit s && not (is_long vr)) ≡ true → FitsShort l) → ((is_explicit s && not (is_long vr)) ≡ false → FitsLong l) → PlainHead s t vr l (head s t vr l) []
element_spelled (implicit_in d) t vr l tag told short wide = implicit_spelled d t vr l tag told (wide refl)
element_spelled (little_in d) t vr l tag told short wide = explicit_spelled (little_in d) t vr l refl tag (λ e. short (ap not e)) (λ e. wide (ap not e))
element_spelled (big_in d) t vr l tag told short wide = explicit_spelled (big_in d) t vr l refl tag (λ e. short (ap not e)) (λ e. wide (ap not e))

by_kind : (x y : Bool) (s : Syntax) (t : Tag) (vr : Vr) (l : Length) → is_item t ≡ x → is_delimiter t ≡ y → IsTag t
    → MatchBool x (vr ≡ UN) (MatchBool y ((vr ≡ UN) × (l ≡ Known 0)) (MatchBool (is_explicit s) (Unit {0}) (vr ≡ vr_in (dictionary_of s) t)))
    → ((is_explicit s && not (x || (y || is_long vr))) ≡ true → FitsShort l) → ((is_explicit s && not (x || (y || is_long vr))) ≡ false → FitsLong l)
    → HeadSpells s t vr l (cond x (plain_head s t l) (cond y (plain_head s t (Known 0)) (head s t vr l)))
by_kind true y s t vr l e f tag told short wide =
    head_at true y s t vr l (plain_head s t l) [] e f (told, item_spelled s t l tag (is_tag_true 0xFFFE 0xE000 t e) (wide (and_false (is_explicit s))))
by_kind false true s t vr l e f tag told short wide =
    head_at false true s t vr l (plain_head s t (Known 0)) [] e f (told.0, told.1, delimiter_spelled s t (Known 0) tag)
by_kind false false s t vr l e f tag told short wide =
    head_at false false s t vr l (head s t vr l) [] e f (element_spelled s t vr l tag told short wide)

pub head_spelled : (s : Syntax) (h : Head) → HasSpelling s h → HeadSpells s h.tag h.vr h.length (head_bytes s h)
head_spelled s h has = by_kind (is_item h.tag) (is_delimiter h.tag) s h.tag h.vr h.length refl refl has.tag has.told has.short has.long
