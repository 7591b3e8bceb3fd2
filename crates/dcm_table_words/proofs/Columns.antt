-- The columns of words, one after another.
use Rattle.std.proofs.Common.{◌≡◌, ◌∙◌, ap, sym, refl, ℕ, ◌+◌, ◌<◌, ◌≤◌, Bool, true, false, Option, None, List, [], ◌∷◌, ◌++◌, append_assoc, length, take, map, Some, Result, Ok, Err, arith, inl, inr, ◌⊎◌, length-append}
use Rattle.std.specs.Prelude.{filter_map, IsOk, OnOk, OnErr, nat_le, ◌==◌, ◌&&◌, if◌then◌else◌}
use Rattle.std.proofs.lemmas.Bool.Decides.{nat_tests}
use Rattle.std.proofs.lemmas.List.{append-nil, take_all, take-append-le, length-map, length-take, map-append}
use Rattle.std.proofs.lemmas.Bool.{cases_lt}
use Rattle.dcm_lemmas.proofs.Options.{on_ok}
use Rattle.std.specs.Str.{byte}
use Rattle.dcm_base.specs.declared.tag.Tag.{Tag}
use Rattle.dcm_base.specs.declared.fault.EditRefusal.{EditRefusal}
use Rattle.dcm_base.specs.declared.fault.EditRefusal.TheVariants.{BadOption, UnknownTag}
use Rattle.dcm_base.specs.Lines.ReadValue.{tag_of_text}
use Rattle.dcm_edits.specs.EditWords.{or_refuse}
use Rattle.dcm_edits.specs.TagWords.{tag_named, tag_called, begins_number}
use Rattle.dcm_table_words.specs.declared.usage.TableUsage.{TableUsage}
use Rattle.dcm_table_words.specs.declared.usage.TableUsage.TheVariants.{NumberOfColumns}
use Rattle.dcm_table_words.specs.Table.{Column, Saying, columns_after, columns_meant, column_said, column_of, within_limit, width, column, no_column, no_header, as_is, decoded, name, unknown}

-- columns, and those after them
abbrev pub after_columns : List Column → Result (List Column) TableUsage → Result (List Column) TableUsage
after_columns cs (Ok others) = Ok (cs ++ others)
after_columns cs (Err u) = Err u

-- one column, and those after it
abbrev onto_columns : Column → Result (List Column) TableUsage → Result (List Column) TableUsage
onto_columns c r = elim r [ Ok cs ↦ Ok (c ∷ cs) | Err u ↦ Err u ]

onto_after : (read : List Column) (c : Column) (r : Result (List Column) TableUsage) → after_columns read (onto_columns c r) ≡ after_columns (read ++ c ∷ []) r
onto_after read c (Ok others) = ap Ok (sym (append_assoc read (c ∷ []) others))
onto_after read c (Err u) = refl

first_column : (n : ℕ) (w : List ℕ) (words : List (List ℕ)) (c : Column) → column_of w ≡ Ok c → columns_after n (w ∷ words) ≡ onto_columns c (columns_after (n + 1) words)
first_column n w words c e = rw (e, columns_after) refl

said_column : (s : Saying) (others : List Saying) (w : List ℕ) → column_said s ≡ Some w → filter_map column_said (s ∷ others) ≡ w ∷ filter_map column_said others
said_column s others w e = rw (e, filter_map {X = Saying} {Y = List ℕ}) refl

-- one column more
pub column_more : (n : ℕ) (read : List Column) (s : Saying) (said others : List Saying) (w : List ℕ) (c : Column) → said ≡ s ∷ others → column_said s ≡ Some w → column_of w ≡ Ok c
    → after_columns read (columns_after n (filter_map column_said said)) ≡ after_columns (read ++ c ∷ []) (columns_after (n + 1) (filter_map column_said others))
column_more n read s said others w c is gives means =
    ap (λ ss. after_columns read (columns_after n (filter_map column_said ss))) is
    ∙ ap (λ ws. after_columns read (columns_after n ws)) (said_column s others w gives)
    ∙ ap (after_columns read) (first_column n w (filter_map column_said others) c means)
    ∙ onto_after read c (columns_after (n + 1) (filter_map column_said others))

-- ---- the first ones are kept

on_err : {T E P : Type 0} (r : Result T E) → (IsOk r → ⊥) → OnErr r P → P
on_err (Ok x) is p = absurd (is refl)
on_err (Err x) is p = p

-- a vector that stays has the same items
pub on_same : {X T E : Type 0} {V : Type 0} (items : V → List X) (new old : V) (r : Result T E) → OnErr r (new ≡ old) → OnErr r (items new ≡ items old)
on_same items new old (Ok x) e = tt
on_same items new old (Err x) e = ap items e

pub kept_more : {X T E : Type 0} (f : X → Column) (limit : ℕ) (read : List Column) (items new : List X) (x : X) (r : Result T E) → map f items ≡ take limit read
    → (IsOk r → length items < limit) × (length items < limit → IsOk r) → OnOk r (new ≡ items ++ x ∷ []) → OnErr r (new ≡ items) → map f new ≡ take limit (read ++ f x ∷ [])
kept_more f limit read items new x r is variant ok err = by_length (cases_lt (length items) limit)
  where
    by_length : (length items < limit) ⊎ (limit ≤ length items) → map f new ≡ take limit (read ++ f x ∷ [])
    by_length (inl less) =
        let size = ap length is ∙ length-take limit read in
        let same = length-map items f in
        let few : length read < limit = omega (arith, less, size, same) in
        let more = length-append read (f x ∷ []) in
        ap (map f) (on_ok r (variant.1 less) ok)
        ∙ map-append f items (x ∷ [])
        ∙ ap (λ l. l ++ f x ∷ []) (is ∙ take_all limit read (omega (arith, few)))
        ∙ sym (take_all limit (read ++ f x ∷ []) (omega (arith, few, more)))
    by_length (inr full) =
        let size = ap length is ∙ length-take limit read in
        let same = length-map items f in
        ap (map f) (on_err r (λ o. let less = variant.0 o in omega (arith, less, full)) err)
        ∙ is
        ∙ sym (take-append-le limit read (f x ∷ []) (omega (arith, full, size, same)))

pub some_wide : (s : Saying) → 1 ≤ width s
some_wide (column w) = omega arith
some_wide no_column = omega arith
some_wide no_header = omega arith
some_wide as_is = omega arith
some_wide decoded = omega arith
some_wide (name m) = omega arith
some_wide unknown = omega arith

-- ---- all of them

pub all_columns : (said : List Saying) (read : List Column) → columns_after 0 (filter_map column_said said) ≡ Ok read → columns_meant said ≡ within_limit read
all_columns said read e = ap (λ (r : Result (List Column) TableUsage). elim r [ Ok cs ↦ within_limit cs | Err u ↦ Err u ]) e

within : (a b : Bool) (cs : List Column) → a ≡ true → b ≡ true → (if a && b then Ok cs else Err NumberOfColumns) ≡ Ok cs
within a b cs p q = rw (p, q) refl

few_columns : (read : List Column) → 1 ≤ length read → length read ≤ 64 → within_limit read ≡ Ok read
few_columns read some few = within (nat_le 1 (length read)) (nat_le (length read) 64) read (grind (arith, nat_tests, some)) (grind (arith, nat_tests, few))

pub all_meant : (said none : List Saying) (read kept : List Column) (number : ℕ) → columns_after 0 (filter_map column_said said) ≡ after_columns read (columns_after number (filter_map column_said none)) → none ≡ []
    → length read ≡ number → kept ≡ take 64 read → (number ≡ 0 → ⊥) → number ≤ 64 → columns_meant said ≡ Ok kept
all_meant said none read kept number same is counted keeps some few =
    all_columns said read (same ∙ ap (λ ss. after_columns read (columns_after number (filter_map column_said ss))) is ∙ ap Ok (append-nil read))
    ∙ few_columns read (omega (arith, counted, some)) (omega (arith, counted, few))
    ∙ ap Ok (sym (keeps ∙ take_all 64 read (omega (arith, counted, few))))

-- ---- a number

by_tests : (a b c d : Bool) (o : Option Tag) (t : Tag) → (if a && b && c && d then o else None) ≡ Some t → a ≡ true
by_tests true b c d o t e = refl
by_tests false b c d o t e = absurd (cc)

of_text : (w : List ℕ) (t : Tag) → tag_of_text w ≡ Some t → length w ≡ 11
of_text w t e =
    let same : (length w == 11) ≡ true = by_tests (length w == 11) _ _ _ _ t e in
    grind (arith, nat_tests, same)

or_refused : (refusal : EditRefusal) (o : Option Tag) (t : Tag) → or_refuse refusal o ≡ Ok t → o ≡ Some t
or_refused refusal None t e = absurd (cc)
or_refused refusal (Some u) t e = let same : u ≡ t = cc in ap Some same

number_first : (b : Bool) (w : List ℕ) (o : Option Tag) (t : Tag) → b ≡ true → (if b then or_refuse BadOption (tag_of_text w) else or_refuse UnknownTag o) ≡ Ok t → length w ≡ 11
number_first true w o t is e = of_text w t (or_refused BadOption (tag_of_text w) t e)
number_first false w o t is e = absurd (cc)

pub number_size : (w : List ℕ) (t : Tag) → tag_named w ≡ Ok t → begins_number w ≡ true → length w ≡ 11
number_size [] t e is = absurd (cc)
number_size (c ∷ cs) t e is = number_first (c == byte "(") (c ∷ cs) (tag_called (c ∷ cs)) t is e
