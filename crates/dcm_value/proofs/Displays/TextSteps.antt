-- The laws of a value that is fed byte by byte.
use Rattle.std.proofs.Common.{◌≡◌, ◌≤◌, ◌<◌, ℕ, ◌+◌, ◌-◌, ◌/◌, ◌%◌, ◌==◌, ◌&&◌, List, [], ◌∷◌, ◌++◌, length, take, codes, ap, sym, ◌∙◌, arith, refl, cond, true, false, Bool, nat_lt, slice_index}
use Rattle.std.specs.Prelude.{count_by, bytes_eq, find, Some, None, option_map}
use Rattle.std.specs.Option.{option_map_or}
use Rattle.std.proofs.lemmas.Bool.{ltb-true, le-leb, lt-leb}
use Rattle.std.proofs.lemmas.Bool.Decides.{leb_tells}
use mathlib.Core.Logic.{⊎_elim}
use Rattle.std.proofs.lemmas.List.{length-append, length-take}
use Rattle.dcm_lemmas.proofs.Truth.{and_parts}
use Rattle.dcm_base.specs.declared.vr.Vr.{Vr}
use Rattle.dcm_base.specs.declared.vr.Vr.TheVariants.{AE, AS, AT, CS, DA, DS, DT, FD, FL, IS, LO, LT, OB, OD, OF, OL, OV, OW, PN, SH, SL, SQ, SS, ST, SV, TM, UC, UI, UL, UN, UR, US, UT, UV}
use Rattle.dcm_base.specs.declared.syntax.Syntax.{Syntax}
use Rattle.dcm_base.specs.declared.syntax.Syntax.TheVariants.{Implicit as implicit_in, Little as little_in, Big as big_in}
use Rattle.dcm_base.specs.declared.mode.Mode.{Mode}
use Rattle.dcm_base.specs.Tables.Representation.{unit, pad}
use Rattle.dcm_base.specs.Tables.Uid.{Named, uid_name, uids, name_in}
use Rattle.dcm_base.specs.Tree.Value.{order, turned}
use Rattle.dcm_base.specs.Dump.ValueText.{Shape, text, identifier, unsigned, signed, tags, hexadecimal, shape, text_of, padded, shortened, display, shown, count, counted, is_single, shown_so_far, shown_unit, escaped, bracketed, identified, unpadded, units_text}
use Rattle.dcm_base.proofs.Conversions.OrderLaws.{turned_bytes}
use Rattle.dcm_base.proofs.Conversions.Order.{length-order, order_none}
use Rattle.dcm_value.specs.declared.way.Way.TheVariants.{InBrackets, ByName, InUnits}
use Rattle.dcm_value.specs.Way.{way_of}
use Rattle.dcm_value.specs.Display.{at_once}
use Rattle.dcm_value.specs.Progress.{finishes, multiplicity, started, opening, is_bracketed}
use Rattle.dcm_value.proofs.Displays.Written.{begun, tells_state, tells_whole}
use Rattle.dcm_value.proofs.Displays.Steps.{leads_nowhere}
use Rattle.dcm_value.specs.Laws.{after, written, WholeText, WholeCount, TextSoFar}
use Rattle.dcm_value.proofs.Displays.TextLaws.{brackets_whole, brackets_count, brackets_so_far, name_whole, name_count, name_so_far}
use Rattle.dcm_value.proofs.Displays.WholeUnits.{units_whole, units_count, units_so_far}

-- shown in units
abbrev pub IsNumber : Shape → Type 0
IsNumber text = ⊥
IsNumber identifier = ⊥
IsNumber _ = Unit {0}

pub data Sort (vr : Vr) : Type 0 where
  of_text : (is : shape vr ≡ text) (one : unit vr ≡ 1) → Sort vr
  of_name : (is : shape vr ≡ identifier) (one : unit vr ≡ 1) → Sort vr
  of_number : (is : IsNumber (shape vr)) → Sort vr

pub sort : (vr : Vr) → Sort vr
sort AE = of_text refl refl
sort AS = of_text refl refl
sort AT = of_number tt
sort CS = of_text refl refl
sort DA = of_text refl refl
sort DS = of_text refl refl
sort DT = of_text refl refl
sort FD = of_number tt
sort FL = of_number tt
sort IS = of_text refl refl
sort LO = of_text refl refl
sort LT = of_text refl refl
sort OB = of_number tt
sort OD = of_number tt
sort OF = of_number tt
sort OL = of_number tt
sort OV = of_number tt
sort OW = of_number tt
sort PN = of_text refl refl
sort SH = of_text refl refl
sort SL = of_number tt
sort SQ = of_number tt
sort SS = of_number tt
sort ST = of_text refl refl
sort SV = of_number tt
sort TM = of_text refl refl
sort UC = of_text refl refl
sort UI = of_name refl refl
sort UL = of_number tt
sort UN = of_number tt
sort UR = of_text refl refl
sort US = of_number tt
sort UT = of_text refl refl
sort UV = of_number tt

pub number_way : (s : Shape) (size : ℕ) → IsNumber s → way_of s size ≡ InUnits
number_way text size h = absurd h
number_way identifier size h = absurd h
number_way unsigned size h = refl
number_way signed size h = refl
number_way tags size h = refl
number_way hexadecimal size h = refl

pub number_shown : (s : Shape) (vr : Vr) (v : List ℕ) → IsNumber s → shown s vr v ≡ units_text s (shown_unit vr) v
number_shown text vr v h = absurd h
number_shown identifier vr v h = absurd h
number_shown unsigned vr v h = refl
number_shown signed vr v h = refl
number_shown tags vr v h = refl
number_shown hexadecimal vr v h = refl

number_so_far : (s : Shape) (vr : Vr) (size : ℕ) (v : List ℕ) → IsNumber s → shown_so_far s vr size v ≡ units_text s (shown_unit vr) v
number_so_far text vr size v h = absurd h
number_so_far identifier vr size v h = absurd h
number_so_far unsigned vr size v h = refl
number_so_far signed vr size v h = refl
number_so_far tags vr size v h = refl
number_so_far hexadecimal vr size v h = refl

number_counted : (s : Shape) (vr : Vr) (v : List ℕ) → IsNumber s → counted s vr v ≡ length v / shown_unit vr
number_counted text vr v h = absurd h
number_counted identifier vr v h = absurd h
number_counted unsigned vr v h = refl
number_counted signed vr v h = refl
number_counted tags vr v h = refl
number_counted hexadecimal vr v h = refl

-- single bytes have one order
one_order : (syntax : Syntax) (vr : Vr) (v : List ℕ) → unit vr ≡ 1 → order syntax vr v ≡ v
one_order (implicit_in d) vr v e = refl
one_order (little_in d) vr v e = refl
one_order (big_in d) vr v e = ap (λ k. turned k v) e ∙ turned_bytes v

-- the bytes before the last, and the last
pub record Last (v : List ℕ) : Type 0 where
  pub init : List ℕ
  pub last : ℕ
  pub is : v ≡ init ++ last ∷ []

pub last_of : (b : ℕ) (bs : List ℕ) → Last (b ∷ bs)
last_of b [] = record { init = []; last = b; is = refl }
last_of b (c ∷ cs) = let r = last_of c cs in record { init = b ∷ r.init; last = r.last; is = ap (λ zs. b ∷ zs) r.is }

-- a value that is not empty
pub display_some : (vr : Vr) (v : List ℕ) → 0 < length v → display vr v ≡ shown (shape vr) vr v
display_some vr [] l = absurd (omega arith)
display_some vr (b ∷ bs) l = refl

count_some : (vr : Vr) (v : List ℕ) → 0 < length v → count vr v ≡ cond (is_single vr) 1 (counted (shape vr) vr v)
count_some vr [] l = absurd (omega arith)
count_some vr (b ∷ bs) l = refl

-- no long value has a name
shorter : (xs ys : List ℕ) → length xs < length ys → bytes_eq xs ys ≡ false
shorter xs [] l = absurd (omega arith)
shorter [] (y ∷ ys) l = refl
shorter (x ∷ xs) (y ∷ ys) l = ap (λ t. (x == y) && t) (shorter xs ys (omega arith)) ∙ and_none (x == y)
  where
    and_none : (t : Bool) → t && false ≡ false
    and_none true = refl
    and_none false = refl

abbrev are_short : List Named → Bool
are_short [] = true
are_short (u ∷ us) = nat_lt (length u.0) 64 && are_short us

short_uids : are_short uids ≡ true
unfolding uids
short_uids = refl

none_named : (us : List Named) (uid : List ℕ) → are_short us ≡ true → 64 ≤ length uid → name_in us uid ≡ None
none_named [] uid e l = refl
none_named (u ∷ us) uid e l =
    let parts = and_parts (nat_lt (length u.0) 64) (are_short us) e in
    let short : length u.0 < 64 = ltb-true (length u.0) 64 parts.0 in
    ap (λ t. option_map (λ (x : Named). x.1) (cond t (Some u) (find (λ x. bytes_eq x.0 uid) us))) (shorter u.0 uid (omega arith))
    ∙ none_named us uid parts.1 l

pub long_unnamed : (uid : List ℕ) → 64 ≤ length uid → identified uid ≡ bracketed uid
unfolding uid_name
long_unnamed uid l = ap (λ n. option_map_or (λ name. codes "=" ++ name) n (bracketed uid)) (none_named uids uid short_uids l)

pub length_unpadded : (vr : Vr) (v : List ℕ) → length v ≤ length (unpadded vr v) + 1
length_unpadded vr v = of_test (length v % 2 == 0 && slice_index v (length v - 1) == pad vr)
  where
    of_test : (t : Bool) → length v ≤ length (cond t (take (length v - 1) v) v) + 1
    of_test true = omega (arith, length-take (length v - 1) v)
    of_test false = omega arith

-- what an identifier of this size shows
data NameWay (size : ℕ) : Type 0 where
  short_name : (is : way_of identifier size ≡ ByName) (few : size ≤ 64) → NameWay size
  long_name : (is : way_of identifier size ≡ InBrackets) (many : 64 < size) → NameWay size

name_way : (size : ℕ) → NameWay size
name_way size =
    ⊎_elim
    (λ t. short_name (ap (λ b. cond b ByName InBrackets) t.0) t.1)
    (λ t. long_name (ap (λ b. cond b ByName InBrackets) t.0) t.1)
    (leb_tells size 64)

module _ (vr : Vr) (syntax : Syntax) (mode : Mode) where
  -- a value that is shown in brackets as it comes
  whole_brackets : (b : ℕ) (bs : List ℕ) → unit vr ≡ 1 → way_of (shape vr) (length (b ∷ bs)) ≡ InBrackets → shown (shape vr) vr (b ∷ bs) ≡ bracketed (unpadded vr (b ∷ bs))
      → written vr syntax (length (b ∷ bs)) mode (b ∷ bs) ++ finishes (after vr syntax (length (b ∷ bs)) mode (b ∷ bs)) ≡ text_of mode vr (order syntax vr (b ∷ bs))
  whole_brackets b bs one way is =
      let r = last_of b bs in
      let size : length r.init + 1 ≡ length (b ∷ bs) = sym (ap length r.is ∙ length-append r.init (r.last ∷ [])) in
      ap (λ v. written vr syntax (length (b ∷ bs)) mode v ++ finishes (after vr syntax (length (b ∷ bs)) mode v)) r.is
      ∙ brackets_whole vr syntax (length (b ∷ bs)) mode way r.init r.last size
      ∙ ap (λ v. padded (shortened mode (bracketed (unpadded vr v)))) (sym r.is)
      ∙ ap (λ x. padded (shortened mode x)) (sym is)
      ∙ ap (λ v. text_of mode vr v) (sym (one_order syntax vr (b ∷ bs) one))

  whole_some : (b : ℕ) (bs : List ℕ) → written vr syntax (length (b ∷ bs)) mode (b ∷ bs) ++ finishes (after vr syntax (length (b ∷ bs)) mode (b ∷ bs)) ≡ text_of mode vr (order syntax vr (b ∷ bs))
  whole_some b bs = go (sort vr)
    where
      as_name : shape vr ≡ identifier → unit vr ≡ 1 → NameWay (length (b ∷ bs)) → written vr syntax (length (b ∷ bs)) mode (b ∷ bs) ++ finishes (after vr syntax (length (b ∷ bs)) mode (b ∷ bs)) ≡ text_of mode vr (order syntax vr (b ∷ bs))
      as_name is one (short_name way few) =
          name_whole vr syntax (length (b ∷ bs)) mode (ap (λ s. way_of s (length (b ∷ bs))) is ∙ way) (b ∷ bs) (omega arith)
          ∙ ap (λ s. padded (shortened mode (shown s vr (b ∷ bs)))) (sym is)
          ∙ ap (λ v. text_of mode vr v) (sym (one_order syntax vr (b ∷ bs) one))
      as_name is one (long_name way many) =
          whole_brackets b bs one (ap (λ s. way_of s (length (b ∷ bs))) is ∙ way)
          (ap (λ s. shown s vr (b ∷ bs)) is ∙ long_unnamed (unpadded vr (b ∷ bs)) (omega (arith, length_unpadded vr (b ∷ bs))))

      go : Sort vr → written vr syntax (length (b ∷ bs)) mode (b ∷ bs) ++ finishes (after vr syntax (length (b ∷ bs)) mode (b ∷ bs)) ≡ text_of mode vr (order syntax vr (b ∷ bs))
      go (of_text is one) = whole_brackets b bs one (ap (λ s. way_of s (length (b ∷ bs))) is) (ap (λ s. shown s vr (b ∷ bs)) is)
      go (of_name is one) = as_name is one (name_way (length (b ∷ bs)))
      go (of_number is) =
          let v : List ℕ = b ∷ bs in
          units_whole vr syntax (length v) mode (number_way (shape vr) (length v) is) v (omega arith)
          ∙ ap (λ x. padded (shortened mode x)) (sym (number_shown (shape vr) vr (order syntax vr v) is))
          ∙ ap (λ x. padded (shortened mode x)) (sym (display_some vr (order syntax vr v) (omega (arith, length-order syntax vr v))))

  -- no bytes
  pub unopened_none : opening (started vr syntax 0 mode) ≡ []
  unopened_none = none (is_bracketed (way_of (shape vr) 0))
    where
      none : (t : Bool) → cond (t && (nat_lt 0 0 && true)) (codes "[") [] ≡ []
      none true = refl
      none false = refl

  pub whole_none : written vr syntax 0 mode [] ++ finishes (after vr syntax 0 mode []) ≡ text_of mode vr (order syntax vr [])
  whole_none =
      tells_whole vr syntax 0 mode [] unopened_none [] (begun vr syntax 0 mode []) [] (leads_nowhere (begun vr syntax 0 mode [])) refl
      ∙ ap (λ v. text_of mode vr v) (sym (order_none syntax vr))

  pub count_none : multiplicity (after vr syntax 0 mode []) ≡ count vr (order syntax vr [])
  count_none =
      ap multiplicity (tells_state vr syntax 0 mode [] unopened_none [] (begun vr syntax 0 mode []) [] (leads_nowhere (begun vr syntax 0 mode [])))
      ∙ ap (count vr) (sym (order_none syntax vr))

  -- how many values there are
  count_one : (b : ℕ) (bs : List ℕ) → multiplicity (after vr syntax (length (b ∷ bs)) mode (b ∷ bs)) ≡ count vr (order syntax vr (b ∷ bs))
  count_one b bs = go (sort vr)
    where
      of_slashes : unit vr ≡ 1 → counted (shape vr) vr (b ∷ bs) ≡ 1 + count_by (λ x. x == 92) (b ∷ bs) → cond (is_single vr) 1 (1 + count_by (λ x. x == 92) (b ∷ bs)) ≡ count vr (order syntax vr (b ∷ bs))
      of_slashes one e =
          ap (cond (is_single vr) 1) (sym e)
          ∙ sym (count_some vr (b ∷ bs) (omega arith))
          ∙ ap (count vr) (sym (one_order syntax vr (b ∷ bs) one))

      in_brackets : way_of (shape vr) (length (b ∷ bs)) ≡ InBrackets → multiplicity (after vr syntax (length (b ∷ bs)) mode (b ∷ bs)) ≡ cond (is_single vr) 1 (1 + count_by (λ x. x == 92) (b ∷ bs))
      in_brackets way =
          let r = last_of b bs in
          let size : length r.init + 1 ≡ length (b ∷ bs) = sym (ap length r.is ∙ length-append r.init (r.last ∷ [])) in
          ap (λ v. multiplicity (after vr syntax (length (b ∷ bs)) mode v)) r.is
          ∙ brackets_count vr syntax (length (b ∷ bs)) mode way r.init r.last size
          ∙ ap (λ v. cond (is_single vr) 1 (1 + count_by (λ x. x == 92) v)) (sym r.is)

      as_name : shape vr ≡ identifier → NameWay (length (b ∷ bs)) → multiplicity (after vr syntax (length (b ∷ bs)) mode (b ∷ bs)) ≡ cond (is_single vr) 1 (1 + count_by (λ x. x == 92) (b ∷ bs))
      as_name is (short_name way few) = name_count vr syntax (length (b ∷ bs)) mode (ap (λ s. way_of s (length (b ∷ bs))) is ∙ way) (b ∷ bs) (omega arith)
      as_name is (long_name way many) = in_brackets (ap (λ s. way_of s (length (b ∷ bs))) is ∙ way)

      go : Sort vr → multiplicity (after vr syntax (length (b ∷ bs)) mode (b ∷ bs)) ≡ count vr (order syntax vr (b ∷ bs))
      go (of_text is one) = in_brackets (ap (λ s. way_of s (length (b ∷ bs))) is) ∙ of_slashes one (ap (λ s. counted s vr (b ∷ bs)) is)
      go (of_name is one) = as_name is (name_way (length (b ∷ bs))) ∙ of_slashes one (ap (λ s. counted s vr (b ∷ bs)) is)
      go (of_number is) =
          let v : List ℕ = b ∷ bs in
          let w : List ℕ = order syntax vr v in
          units_count vr syntax (length v) mode (number_way (shape vr) (length v) is) v (omega arith)
          ∙ ap (λ n. cond (is_single vr) 1 (n / shown_unit vr)) (sym (length-order syntax vr v))
          ∙ ap (cond (is_single vr) 1) (sym (number_counted (shape vr) vr w is))
          ∙ sym (count_some vr w (omega (arith, length-order syntax vr v)))

  -- while bytes are missing
  so_far : (size : ℕ) (v : List ℕ) → length v < size → written vr syntax size mode v ≡ at_once mode (shown_so_far (shape vr) vr size (order syntax vr v))
  so_far size v l = go (sort vr)
    where
      as_name : shape vr ≡ identifier → unit vr ≡ 1 → NameWay size → written vr syntax size mode v ≡ at_once mode (shown_so_far (shape vr) vr size (order syntax vr v))
      as_name is one (short_name way few) =
          name_so_far vr syntax size mode (ap (λ s. way_of s size) is ∙ way) v
          ∙ ap (λ b. at_once mode (cond b [] (codes "[" ++ escaped (order syntax vr v)))) (sym (le-leb size 64 few))
          ∙ ap (λ s. at_once mode (shown_so_far s vr size (order syntax vr v))) (sym is)
      as_name is one (long_name way many) =
          brackets_so_far vr syntax size mode (ap (λ s. way_of s size) is ∙ way) v l
          ∙ ap (λ x. at_once mode (codes "[" ++ escaped x)) (sym (one_order syntax vr v one))
          ∙ ap (λ b. at_once mode (cond b [] (codes "[" ++ escaped (order syntax vr v)))) (sym (lt-leb size 64 many))
          ∙ ap (λ s. at_once mode (shown_so_far s vr size (order syntax vr v))) (sym is)

      go : Sort vr → written vr syntax size mode v ≡ at_once mode (shown_so_far (shape vr) vr size (order syntax vr v))
      go (of_text is one) =
          brackets_so_far vr syntax size mode (ap (λ s. way_of s size) is) v l
          ∙ ap (λ x. at_once mode (codes "[" ++ escaped x)) (sym (one_order syntax vr v one))
          ∙ ap (λ s. at_once mode (shown_so_far s vr size (order syntax vr v))) (sym is)
      go (of_name is one) = as_name is one (name_way size)
      go (of_number is) =
          units_so_far vr syntax size mode (number_way (shape vr) size is) v
          ∙ ap (at_once mode) (sym (number_so_far (shape vr) vr size (order syntax vr v) is))

pub whole_text : WholeText
whole_text vr syntax mode [] = whole_none vr syntax mode
whole_text vr syntax mode (b ∷ bs) = whole_some vr syntax mode b bs

pub whole_count : WholeCount
whole_count vr syntax mode [] = count_none vr syntax mode
whole_count vr syntax mode (b ∷ bs) = count_one vr syntax mode b bs

pub text_so_far : TextSoFar
text_so_far vr syntax size mode v l = so_far vr syntax mode size v l
