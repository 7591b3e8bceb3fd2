-- The numbers of elements that are always kept: of each the dictionary has an element of a plain representation, and the table none.
use Rattle.std.proofs.Common.{◌≡◌, ℕ, zero, suc, ◌<◌, ◌+◌, ◌*◌, ◌%◌, Bool, true, false, ◌&&◌, ◌||◌, not, ◌==◌, if◌then◌else◌, List, [], ◌∷◌, length, Option, Some, None, refl, sym, ap, ◌∙◌, arith}
use mathlib.Core.Bool.{false≢true}
use Rattle.std.specs.Prelude.{find}
use Rattle.std.specs.List.{slice_index, list_all}
use Rattle.std.proofs.lemmas.Bool.Decides.{nat_tests}
use Rattle.dcm_lemmas.proofs.Truth.{and_first, and_second}
use Rattle.dcm_base.specs.declared.tag.Tag.{Tag}
use Rattle.dcm_base.specs.declared.vr.Vr.{Vr}
use Rattle.dcm_base.specs.declared.vr.Vr.TheVariants.{DA, TM, DT, PN, SQ}
use Rattle.dcm_base.specs.declared.dictionary.Dictionary.TheVariants.{Standard}
use Rattle.dcm_base.specs.Tables.Tag.{tag_number, is_tag}
use Rattle.dcm_base.specs.Tables.Representation.{is_sequence}
use Rattle.dcm_base.specs.Tables.Dictionary.{Entry, ambiguous_in, element_in, entries, entry_of, first_vr, keywords, known_vr_in}
use Rattle.dcm_base.proofs.Dictionaries.Entries.{element_is}
use Rattle.dcm_deid.specs.declared.fate.Fate.{Fate}
use Rattle.dcm_deid.specs.declared.fate.Fate.TheVariants.{Remove, Keep}
use Rattle.dcm_deid.specs.declared.fate.Options.{Options}
use Rattle.dcm_deid.specs.declared.fate.Depth.{Depth}
use Rattle.dcm_deid.specs.declared.fate.Depth.TheVariants.{Outermost, Inside}
use Rattle.dcm_deid.specs.declared.fate.ReadAs.{ReadAs}
use Rattle.dcm_deid.specs.declared.fate.ReadAs.TheVariants.{AsBytes, AsItems}
use Rattle.dcm_deid.specs.Fate.{Action, IsAlwaysKept, actions, are_full, are_modified, fate_as, fate_by_vr, fate_in_table, fate_of_vr, is_opaque, is_put, is_put_at, moved_if}
use Rattle.dcm_deid.specs.Marks.{always_kept}
use Rattle.dcm_deid.proofs.Known.{known_fate}
use Rattle.dcm_deid.proofs.InParts.{part, parts, found_in_part}

-- what is neither emptied nor moved, nor removed where it was read as bytes
abbrev is_plain : Vr → Bool
is_plain DA = false
is_plain TM = false
is_plain DT = false
is_plain PN = false
is_plain SQ = false
is_plain _ = true

-- what is kept that was read so
abbrev suits : ReadAs → Vr → Bool
suits AsBytes vr = is_plain vr
suits AsItems vr = is_sequence vr

abbrev has_suited : ReadAs → Option Entry → Bool
has_suited read None = false
has_suited read (Some e) = suits read e.1

abbrev is_missing : Option Action → Bool
is_missing None = true
is_missing (Some action) = false

-- a number of no length of a group, of no PatientID, and of nothing that says what was done
abbrev is_other : ℕ → Bool
is_other n = not (n % 65536 == 0) && (not (n == 0x00100020) && (not (n == 0x00120062) && (not (n == 0x00120063) && (not (n == 0x00120064) && not (n == 0x00280303)))))

abbrev is_kept : ReadAs → ℕ → Bool
is_kept read n = has_suited read (entry_of entries n) && (is_missing (find (λ (a : Action). a.0 == n) actions) && is_other n)

-- the same, where both tables are in parts by the remainders of their numbers, so that it is soon computed
abbrev is_kept_by : List (List Entry) → List (List Action) → ReadAs → ℕ → Bool
is_kept_by rows actions read n =
    has_suited read (find (λ (e : Entry). e.0 == n) (part rows n)) && (is_missing (find (λ (a : Action). a.0 == n) (part actions n)) && is_other n)

all_kept_by : (read : ReadAs) → list_all (is_kept_by (parts (λ (e : Entry). e.0) entries) (parts (λ (a : Action). a.0) actions) read) (always_kept read) ≡ true
unfolding entries actions always_kept
all_kept_by AsBytes = refl
all_kept_by AsItems = refl

-- which is the same
by_parts : (read : ReadAs) (n : ℕ) → is_kept_by (parts (λ (e : Entry). e.0) entries) (parts (λ (a : Action). a.0) actions) read n ≡ is_kept read n
by_parts read n =
    ap (λ row. has_suited read row && (is_missing (find (λ (a : Action). a.0 == n) (part (parts (λ (a : Action). a.0) actions) n)) && is_other n)) (found_in_part (λ (e : Entry). e.0) n entries)
    ∙ ap (λ row. has_suited read (entry_of entries n) && (is_missing row && is_other n)) (found_in_part (λ (a : Action). a.0) n actions)

how_many : (read : ReadAs) → length (always_kept read) ≡ 2048
unfolding always_kept
how_many AsBytes = refl
how_many AsItems = refl

-- ---- representations

plain_is_no_sequence : (vr : Vr) → is_plain vr ≡ true → is_sequence vr ≡ false
plain_is_no_sequence SQ p = absurd (false≢true p)
plain_is_no_sequence _ p = refl

plain_is_kept : (options : Options) (vr : Vr) → is_plain vr ≡ true → moved_if (are_modified options.dates) vr (fate_of_vr options vr) ≡ Keep
plain_is_kept options DA p = absurd (false≢true p)
plain_is_kept options TM p = absurd (false≢true p)
plain_is_kept options DT p = absurd (false≢true p)
plain_is_kept options PN p = absurd (false≢true p)
plain_is_kept options SQ p = absurd (false≢true p)
plain_is_kept options _ p = refl

sequence_is_kept : (options : Options) (vr : Vr) → is_sequence vr ≡ true → moved_if (are_modified options.dates) vr (fate_of_vr options vr) ≡ Keep
sequence_is_kept options SQ p = refl
sequence_is_kept options _ p = absurd (false≢true p)

suited_is_kept : (options : Options) (read : ReadAs) (vr : Vr) → suits read vr ≡ true → moved_if (are_modified options.dates) vr (fate_of_vr options vr) ≡ Keep
suited_is_kept options AsBytes vr p = plain_is_kept options vr p
suited_is_kept options AsItems vr p = sequence_is_kept options vr p

no_opaque : (read : ReadAs) (vr : Vr) → suits read vr ≡ true → is_opaque read vr ≡ false
no_opaque AsBytes vr p = plain_is_no_sequence vr p
no_opaque AsItems vr p = refl

-- ---- tags and their numbers

other_tag : (group element : ℕ) (tag : Tag) → not (tag_number tag == group * 65536 + element) ≡ true → is_tag group element tag ≡ false
other_tag group element tag p = grind (arith, nat_tests)

no_length : (tag : Tag) → not (tag_number tag % 65536 == 0) ≡ true → (tag.element == 0) ≡ false
no_length tag p = grind (arith, nat_tests)

no_put : (a b c d full : Bool) → a ≡ false → b ≡ false → c ≡ false → d ≡ false → (a || b || c || (d && not full)) ≡ false
no_put a b c d full p q r s = rw (p, q, r, s) refl

put_nowhere : (options : Options) (depth : Depth) (tag : Tag) → is_put options tag ≡ false → is_put_at options depth tag ≡ false
put_nowhere options Outermost tag p = p
put_nowhere options Inside tag p = refl

-- ---- an element that has none of what the others have

not_removed : (is_length opaque put : Bool) (f : Fate) → is_length ≡ false → opaque ≡ false → put ≡ false → (if is_length || (opaque || put) then Remove else f) ≡ f
not_removed is_length opaque put f p q r = rw (p, q, r) refl

not_named : (is_it asked : Bool) (f g : Fate) → is_it ≡ false → (if is_it && asked then f else g) ≡ g
not_named is_it asked f g p = rw p refl

missing_is_none : (o : Option Action) → is_missing o ≡ true → o ≡ None
missing_is_none None p = refl
missing_is_none (Some action) p = absurd (false≢true p)

module _ (options : Options) (depth : Depth) (read : ReadAs) (tag : Tag) (others : is_other (tag_number tag) ≡ true) where
  not_put : is_put options tag ≡ false
  not_put =
      let after_length = and_second _ _ others in
      let after_patient = and_second _ _ after_length in
      let after_first = and_second _ _ after_patient in
      let after_second = and_second _ _ after_first in
      no_put _ _ _ _ (are_full options.dates) (other_tag 0x0012 0x0062 tag (and_first _ _ after_patient)) (other_tag 0x0012 0x0063 tag (and_first _ _ after_first))
      (other_tag 0x0012 0x0064 tag (and_first _ _ after_second)) (other_tag 0x0028 0x0303 tag (and_second _ _ after_second))

  no_patient : is_tag 0x0010 0x0020 tag ≡ false
  no_patient = other_tag 0x0010 0x0020 tag (and_first _ _ (and_second _ _ others))

  by_vr : (vr : Vr) → suits read vr ≡ true → find (λ (a : Action). a.0 == tag_number tag) actions ≡ None → fate_by_vr options tag vr ≡ Keep
  by_vr vr suited none =
      not_named (is_tag 0x0010 0x0020 tag) options.pseudonyms _ _ no_patient
      ∙ ap (λ row. moved_if (are_modified options.dates) vr (fate_in_table options row vr)) none
      ∙ suited_is_kept options read vr suited

  of_entry : (row : Option Entry) → row ≡ entry_of entries (tag_number tag) → has_suited read row ≡ true → find (λ (a : Action). a.0 == tag_number tag) actions ≡ None
      → fate_as options depth read tag ≡ Keep
  unfolding element_in
  of_entry None is suited none = absurd (false≢true suited)
  of_entry (Some e) is suited none =
      let known : known_vr_in Standard tag ≡ Some e.1 =
      ap (λ o. first_vr o (ambiguous_in Standard tag)) (sym (element_is keywords entries (tag_number tag) (Some e) refl refl is)) in
      sym (known_fate options depth read tag e.1 known)
      ∙ not_removed (tag.element == 0) (is_opaque read e.1) (is_put_at options depth tag) (fate_by_vr options tag e.1) (no_length tag (and_first _ _ others))
      (no_opaque read e.1 suited) (put_nowhere options depth tag not_put)
      ∙ by_vr e.1 suited none

  of_kept : is_kept read (tag_number tag) ≡ true → fate_as options depth read tag ≡ Keep
  of_kept kept =
      of_entry (entry_of entries (tag_number tag)) refl (and_first _ _ kept) (missing_is_none _ (and_first _ _ (and_second _ _ kept)))

kept_is_kept : (read : ReadAs) (n : ℕ) → is_kept read n ≡ true → IsAlwaysKept read n
kept_is_kept read n kept options depth tag same =
    let here : is_kept read (tag_number tag) ≡ true = ap (is_kept read) same ∙ kept in
    of_kept options depth read tag (and_second _ _ (and_second _ _ here)) here

-- ---- the numbers of the table

at_place : (passes : ℕ → Bool) (ns : List ℕ) → list_all passes ns ≡ true → (place : ℕ) → place < length ns → passes (slice_index ns place) ≡ true
at_place passes [] all place within = absurd (omega arith)
at_place passes (n ∷ ns) all zero within = and_first _ _ all
at_place passes (n ∷ ns) all (suc place) within = at_place passes ns (and_second _ _ all) place (omega (arith, within))

pub found : (read : ReadAs) (ns : List ℕ) (place n : ℕ) → ns ≡ always_kept read → place < 2048 → (slice_index ns place == n) ≡ true → IsAlwaysKept read n
found read ns place n is within same =
    let long : length ns ≡ 2048 = ap length is ∙ how_many read in
    let here : slice_index ns place ≡ n = grind (arith, nat_tests) in
    let passes : ℕ → Bool = is_kept_by (parts (λ (e : Entry). e.0) entries) (parts (λ (a : Action). a.0) actions) read in
    let kept : passes (slice_index ns place) ≡ true = at_place passes ns (ap (list_all passes) is ∙ all_kept_by read) place (omega (arith, long, within)) in
    kept_is_kept read n (sym (by_parts read n) ∙ ap passes (sym here) ∙ kept)
