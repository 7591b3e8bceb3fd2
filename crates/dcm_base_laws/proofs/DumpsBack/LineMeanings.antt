-- A line of a dump means what it shows.
use Rattle.std.proofs.Common.{◌≡◌, ℕ, zero, suc, ◌<◌, ◌-◌, ◌*◌, ◌^◌, List, [], ◌∷◌, ◌++◌, length, Option, Some, None, Bool, true, false, refl, sym, ◌∙◌, ap, subst, arith, codes, replicate, append_assoc, decimal}
use Rattle.std.specs.Prelude.{◌==◌, if◌then◌else◌, nat_le, find, option_map}
use Rattle.std.specs.List.{list_all}
use Rattle.std.specs.Option.{option_map_or}
use Rattle.dcm_base.specs.declared.tag.Tag.{Tag}
use Rattle.dcm_base.specs.declared.vr.Vr.{Vr}
use Rattle.dcm_base.specs.declared.length.Length.TheVariants.{Known, Undefined}
use Rattle.dcm_base.specs.Tables.Tag.{tag_number, is_item, is_item_end, is_sequence_end}
use Rattle.dcm_base.specs.declared.length.Length.{Length}
use Rattle.dcm_base.specs.Tables.Dictionary.{Element, elements, elements_in, entries, keywords, element_in, keyword_in, is_group_length, is_private_creator, other_keyword, ambiguous, ambiguous_in, numbered, signed_vr}
use Rattle.dcm_base.proofs.Dictionaries.Lines.{standard_keywords, standard_has}
use Rattle.dcm_base.specs.Dump.ValueText.{tag_text}
use Rattle.dcm_base.specs.Dump.Dump.{length_text, line}
use Rattle.dcm_base.specs.Lines.Line.{is_end, is_skipped, meaning_of, means}
use Rattle.dcm_base_laws.proofs.DumpsBack.Fields.{Bytewise, Bytewise-append, Bytewise-decimal, IsPrinted, printed_text, tag_is_printed}
use Rattle.dcm_base.proofs.Dictionaries.KeywordLengths.{found_has}
use Rattle.dcm_base_laws.proofs.DumpsBack.LineParts.{past_indent, line_means, tag_from}
use Rattle.dcm_base.specs.declared.dictionary.Dictionary.{Dictionary}
use Rattle.dcm_base.specs.declared.dictionary.Dictionary.TheVariants.{Extract, Standard, Signed}

-- spaces, one space more and a comment are a space and what is skipped
pub record Behind (w : List ℕ) : Type 0 where
  pub tail : List ℕ
  pub is : w ≡ 32 ∷ tail
  pub skipped : is_skipped (32 ∷ tail) ≡ true

spaces_then : (m : ℕ) (c : List ℕ) → Behind (replicate m 32 ++ 32 ∷ 35 ∷ c)
spaces_then zero c = record { tail = 35 ∷ c; is = refl; skipped = refl }
spaces_then (suc m) c = record { tail = replicate m 32 ++ 32 ∷ 35 ∷ c; is = refl; skipped = ap is_end (past_indent m (32 ∷ 35 ∷ c)) }

-- a line up to its newline, and what it means
pub record Meant (l : List ℕ) (g e x y : ℕ) (d : List ℕ) : Type 0 where
  pub body : List ℕ
  pub is : l ≡ body ++ 10 ∷ []
  pub tail : List ℕ
  pub skipped : is_skipped (32 ∷ tail) ≡ true
  pub printed : Bytewise IsPrinted body
  pub means_is : means body ≡ meaning_of (Some (record { tag = tag_from g e; letters = x ∷ y ∷ []; rest = d ++ 32 ∷ tail }))

-- ---- printed bytes

spaces_are_printed : (n : ℕ) (r : List ℕ) → Bytewise IsPrinted r → Bytewise IsPrinted (replicate n 32 ++ r)
spaces_are_printed zero r h = h
spaces_are_printed (suc n) r h = (omega arith, spaces_are_printed n r h)

decimal_is_printed : (n : ℕ) → n < 2 ^ 64 → Bytewise IsPrinted (decimal n)
decimal_is_printed n l = Bytewise-decimal IsPrinted (λ d m. omega (arith, m)) n l

abbrev pub IsSmall : Length → Type 0
IsSmall (Known n) = n < 2 ^ 64
IsSmall Undefined = Unit {0}

size_is_printed : (size : Length) → IsSmall size → Bytewise IsPrinted (length_text size)
size_is_printed (Known n) l =
    subst (Bytewise IsPrinted) refl (spaces_are_printed (3 - length (decimal n)) (decimal n) (decimal_is_printed n l))
size_is_printed Undefined l = printed_text (codes "u/l") refl

is_printed_keyword : List ℕ → Bool
is_printed_keyword keyword = list_all (λ c. nat_le 32 c) keyword

extract_printed : list_all (λ (e : Element). is_printed_keyword e.2) elements ≡ true
unfolding elements is_printed_keyword
extract_printed = refl

standard_printed : list_all is_printed_keyword standard_keywords ≡ true
unfolding entries keywords is_printed_keyword
standard_printed = refl

all_printed_keywords : (k : Dictionary) → list_all (λ (e : Element). is_printed_keyword e.2) (elements_in k) ≡ true
unfolding elements_in
all_printed_keywords Extract = extract_printed
all_printed_keywords Standard = standard_has is_printed_keyword standard_printed
all_printed_keywords Signed = standard_has is_printed_keyword standard_printed

ambiguous_printed : list_all (λ (e : Element). is_printed_keyword e.2) ambiguous ≡ true
unfolding ambiguous is_printed_keyword
ambiguous_printed = refl

-- what a row says is printed, or else what is said where there is none
row_is_printed : (es : List Element) → list_all (λ (e : Element). is_printed_keyword e.2) es ≡ true → (n : ℕ) (other : List ℕ) → Bytewise IsPrinted other
    → Bytewise IsPrinted (option_map_or (λ (e : Vr × List ℕ). e.1) (numbered es n) other)
unfolding is_printed_keyword
row_is_printed es all n other h = by_row (find (λ (e : Element). e.0 == n) es) refl
  where
    by_row : (o : Option Element) → find (λ (e : Element). e.0 == n) es ≡ o → Bytewise IsPrinted (option_map_or (λ (e : Vr × List ℕ). e.1) (option_map (λ (e : Element). (e.1, e.2)) o) other)
    by_row (Some e) p = printed_text e.2 (found_has (λ x. x.0 == n) (λ x. is_printed_keyword x.2) es e all p)
    by_row None p = h

-- the sign changes no keyword
signed_keyword : (o : Option (Vr × List ℕ)) (other : List ℕ)
    → option_map_or (λ (e : Vr × List ℕ). e.1) (option_map (λ (e : Vr × List ℕ). (signed_vr e.0, e.1)) o) other ≡ option_map_or (λ (e : Vr × List ℕ). e.1) o other
signed_keyword None other = refl
signed_keyword (Some e) other = refl

ambiguous_is_printed : (k : Dictionary) (t : Tag) (other : List ℕ) → Bytewise IsPrinted other → Bytewise IsPrinted (option_map_or (λ (e : Vr × List ℕ). e.1) (ambiguous_in k t) other)
ambiguous_is_printed Extract t other h = h
ambiguous_is_printed Standard t other h = row_is_printed ambiguous ambiguous_printed (tag_number t) other h
ambiguous_is_printed Signed t other h =
    subst (Bytewise IsPrinted) (sym (signed_keyword (numbered ambiguous (tag_number t)) other)) (row_is_printed ambiguous ambiguous_printed (tag_number t) other h)

keyword_is_printed : (k : Dictionary) (t : Tag) → Bytewise IsPrinted (keyword_in k t)
unfolding keyword_in element_in
keyword_is_printed k t =
    row_is_printed (elements_in k) (all_printed_keywords k) (tag_number t) _
    (ambiguous_is_printed k t _ (by_kind (is_group_length t) (is_private_creator t) (other_keyword t) (by_number (is_item t) (is_item_end t) (is_sequence_end t))))
  where
    by_number : (a b c : Bool) → Bytewise IsPrinted (if a then codes "Item" else if b then codes "ItemDelimitationItem" else if c then codes "SequenceDelimitationItem" else codes "Unknown Tag & Data")
    by_number true b c = printed_text (codes "Item") refl
    by_number false true c = printed_text (codes "ItemDelimitationItem") refl
    by_number false false true = printed_text (codes "SequenceDelimitationItem") refl
    by_number false false false = printed_text (codes "Unknown Tag & Data") refl

    by_kind : (a b : Bool) (other : List ℕ) → Bytewise IsPrinted other → Bytewise IsPrinted (if a then codes "GenericGroupLength" else if b then codes "PrivateCreator" else other)
    by_kind true b other h = printed_text (codes "GenericGroupLength") refl
    by_kind false true other h = printed_text (codes "PrivateCreator") refl
    by_kind false false other h = h

-- behind the display
abbrev comment : List ℕ → ℕ → List ℕ → List ℕ
comment size n name = 32 ∷ (size ++ (44 ∷ 32 ∷ (decimal n ++ 32 ∷ name)))

-- the pieces of a line, each before all that follows it
regroup : (indent tag l d spaces size number name : List ℕ)
    → indent ++ tag ++ 32 ∷ [] ++ l ++ 32 ∷ [] ++ (d ++ spaces) ++ 32 ∷ 35 ∷ 32 ∷ [] ++ size ++ 44 ∷ 32 ∷ [] ++ number ++ 32 ∷ [] ++ name
    ≡ indent ++ (tag ++ 32 ∷ (l ++ 32 ∷ (d ++ (spaces ++ 32 ∷ 35 ∷ 32 ∷ (size ++ (44 ∷ 32 ∷ (number ++ 32 ∷ name)))))))
regroup indent tag l d spaces size number name = simp append_assoc

module _ (k : Dictionary) (level g e x y c : ℕ) (more : List ℕ) (g_small : g < 65536) (e_small : e < 65536) (x_letter : (x == 32) ≡ false) (c_field : (c == 32) ≡ false) (c_shows : (c == 35) ≡ false) (x_printed : IsPrinted x) (y_printed : IsPrinted y) (d_printed : Bytewise IsPrinted (c ∷ more)) (size : Length) (n : ℕ) (size_small : IsSmall size) (n_small : n < 2 ^ 64) where
  abbrev d : List ℕ
  d = c ∷ more

  abbrev spaces : List ℕ
  spaces = replicate (40 - length d) 32

  abbrev told : List ℕ
  told = comment (length_text size) n (keyword_in k (tag_from g e))

  abbrev up_to : List ℕ
  up_to = replicate (2 * level) 32 ++ (tag_text g e ++ 32 ∷ x ∷ y ∷ 32 ∷ (d ++ (spaces ++ 32 ∷ 35 ∷ told)))

  -- without its newline
  line_is : line k level (tag_from g e) (x ∷ y ∷ []) d size n ≡ up_to ++ 10 ∷ []
  line_is = ap (λ z. z ++ 10 ∷ []) (regroup (replicate (2 * level) 32) (tag_text g e) (x ∷ y ∷ []) d spaces (length_text size) (decimal n) (keyword_in k (tag_from g e)))

  told_is_printed : Bytewise IsPrinted told
  told_is_printed = (
    omega arith,
    Bytewise-append IsPrinted (length_text size) (44 ∷ 32 ∷ (decimal n ++ 32 ∷ keyword_in k (tag_from g e))) (size_is_printed size size_small)
        (omega arith, (omega arith, Bytewise-append IsPrinted (decimal n) (32 ∷ keyword_in k (tag_from g e)) (decimal_is_printed n n_small) (omega arith, keyword_is_printed k (tag_from g e)))),
  )

  abbrev behind_tag : List ℕ
  behind_tag = 32 ∷ x ∷ y ∷ 32 ∷ (d ++ (spaces ++ 32 ∷ 35 ∷ told))

  behind_is_printed : Bytewise IsPrinted behind_tag
  behind_is_printed =
      (omega arith, (x_printed, (y_printed, (omega arith, Bytewise-append IsPrinted d (spaces ++ 32 ∷ 35 ∷ told) d_printed (spaces_are_printed (40 - length d) (32 ∷ 35 ∷ told) (omega arith, (omega arith, told_is_printed)))))))

  up_to_is_printed : Bytewise IsPrinted up_to
  up_to_is_printed = spaces_are_printed (2 * level) (tag_text g e ++ behind_tag) (tag_is_printed g e behind_tag g_small e_small behind_is_printed)

  pub line_meant : Meant (line k level (tag_from g e) (x ∷ y ∷ []) d size n) g e x y d
  line_meant =
      let b = spaces_then (40 - length d) told in
      record {
        body = up_to;
        is = line_is;
        tail = b.tail;
        skipped = b.skipped;
        printed = up_to_is_printed;
        means_is =
            line_means g e x y c (more ++ (spaces ++ 32 ∷ 35 ∷ told)) g_small e_small x_letter c_field c_shows (2 * level)
            ∙ ap (λ z. meaning_of (Some (record { tag = tag_from g e; letters = x ∷ y ∷ []; rest = d ++ z }))) b.is;
      }
