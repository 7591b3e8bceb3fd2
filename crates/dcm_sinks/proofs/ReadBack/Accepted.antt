-- Each element that a machine shows was accepted: its tag is one of a data set, and nothing bars it.
use Rattle.std.proofs.Common.{◌≡◌, ◌∙◌, ap, sym, refl, subst, ℕ, zero, suc, ◌+◌, List, [], ◌∷◌, ◌++◌, length, drop, Option, Some, None, Bool, true, false, cond, not}
use Rattle.std.specs.Prelude.{fold, ◌==◌, ◌&&◌, ◌||◌, nat_lt, nat_le}
use Rattle.dcm_base.specs.declared.tag.Tag.{Tag}
use Rattle.dcm_base.specs.declared.vr.Vr.{Vr}
use Rattle.dcm_base.specs.declared.syntax.Syntax.{Syntax}
use Rattle.dcm_base.specs.declared.fault.Fault.{Fault}
use Rattle.dcm_base.specs.declared.fault.Fault.TheVariants.{EndsEarly, UndefinedLength, PassesEnd, TooDeep}
use Rattle.dcm_base.specs.declared.length.Length.{Length}
use Rattle.dcm_base.specs.declared.form.Form.{Form}
use Rattle.dcm_base.specs.declared.form.Form.TheVariants.{Value as a_value, Sequence as sequence_form, FragmentList as fragment_form, Nothing as no_form}
use Rattle.dcm_base.specs.declared.level.Container.{Container}
use Rattle.dcm_base.specs.declared.level.Level.{Level}
use Rattle.dcm_base.specs.declared.level.Container.TheVariants.{DataSet as the_data_set, Item as an_item, Sequence as a_sequence, FragmentList as a_fragment_list}
use Rattle.dcm_base.specs.Tables.Number.{number}
use Rattle.dcm_base.specs.Tables.Tag.{is_item, is_item_end, is_sequence_end}
use Rattle.dcm_base.specs.Bytes.Head.{tag_at, vr_at, length_at, long_length, head_size}
use Rattle.dcm_base.specs.Bytes.Spelling.{form, read_as}
use Rattle.dcm_base.specs.Reading.Place.{room, passes, depth, is_data, is_undefined, is_allowed}
use Rattle.dcm_base.specs.Reading.Stop.{Stop, complete, refused, HeadBar, first_case, is_empty, is_the_data_set, opens_list, has_no_form, with_length, barred, element_stop, item_stop, head_stop, place_stop, innermost_stop, is_undecided}
use Rattle.dcm_base.specs.Reading.Reads.{INPUT_LIMIT}
use Rattle.dcm_base.specs.Steps.Atoms.{Atom, opens, value_byte, closes_leaf, opens_item, closes_item, closes_sequence, opens_fragment, ends}
use Rattle.dcm_stream.specs.Reading.{Reading, start_of, Opened, closing, size_of, ends_at, closes, element_opens, item_opens, head_opens, full_closed, settled, head_read, byte_read, read_byte, reads_byte, read_all, end_shows, sign_reads, value_left}
use Rattle.dcm_stream.proofs.Steps.StopsStay.{tests}
use Rattle.dcm_stream.proofs.Heads.Stops.{FitsHead, fits_element, fits_item, fits_delimiter, Fits, place_none}
use Rattle.dcm_stream.proofs.Heads.Opening.{opens_element, opens_other}

-- ---- atoms

abbrev pub Accepted : HeadBar → Atom → Type 0
Accepted bar (opens tag vr declared s) = (is_data tag ≡ true) × (bar tag vr declared ≡ None)
Accepted bar (value_byte b) = Unit {0}
Accepted bar closes_leaf = Unit {0}
Accepted bar (opens_item declared) = Unit {0}
Accepted bar closes_item = Unit {0}
Accepted bar closes_sequence = Unit {0}
Accepted bar (opens_fragment size) = Unit {0}
Accepted bar ends = Unit {0}

abbrev pub AllAccepted : HeadBar → List Atom → Type 0
AllAccepted bar [] = Unit {0}
AllAccepted bar (a ∷ atoms) = Accepted bar a × AllAccepted bar atoms

all_both : (bar : HeadBar) (xs ys : List Atom) → AllAccepted bar xs → AllAccepted bar ys → AllAccepted bar (xs ++ ys)
all_both bar [] ys h k = k
all_both bar (x ∷ xs) ys h k = (h.0, all_both bar xs ys h.1 k)

module _ (bar : HeadBar) where
  closing_accepted : (size : ℕ) → AllAccepted bar (closing size)
  closing_accepted zero = (tt, tt)
  closing_accepted (suc n) = tt

  closes_accepted : (c : Container) → Accepted bar (closes c)
  closes_accepted the_data_set = tt
  closes_accepted an_item = tt
  closes_accepted a_sequence = tt
  closes_accepted a_fragment_list = tt

  closed_accepted : (position : ℕ) (ls : List Level) → AllAccepted bar (full_closed position ls).1
  unfolding full_closed
  closed_accepted position [] = tt
  closed_accepted position (inner ∷ outer) = by_end (ends_at position inner.end_offset) (closed_accepted position outer)
    where
      by_end : (e : Bool) → AllAccepted bar (full_closed position outer).1 → AllAccepted bar (cond {A = List Level × List Atom} e ((full_closed position outer).0, closes inner.container ∷ (full_closed position outer).1) (inner ∷ outer, [])).1
      by_end true h = (closes_accepted inner.container, h)
      by_end false h = tt

  settled_accepted : (position : ℕ) (o : Opened) (left : ℕ) → AllAccepted bar o.atoms → AllAccepted bar (settled position o left).1
  settled_accepted position o zero h = all_both bar o.atoms (full_closed position o.levels).1 h (closed_accepted position o.levels)
  settled_accepted position o (suc n) h = h

  -- ---- heads

  element_accepted : (f : Form) (s : Syntax) (tag : Tag) (vr : Vr) (l : Length) (begin : ℕ) (around : List Level) → Accepted bar (opens tag vr l s) → AllAccepted bar (element_opens f s tag vr l begin around).atoms
  element_accepted a_value s tag vr l begin around h = (h, closing_accepted (size_of l))
  element_accepted sequence_form s tag vr l begin around h = (h, tt)
  element_accepted fragment_form s tag vr l begin around h = (h, tt)
  element_accepted no_form s tag vr l begin around h = tt

  item_accepted : (c : Container) (s : Syntax) (l : Length) (begin : ℕ) (around : List Level) → AllAccepted bar (item_opens c s l begin around).atoms
  item_accepted the_data_set s l begin around = (tt, tt)
  item_accepted an_item s l begin around = (tt, tt)
  item_accepted a_sequence s l begin around = (tt, tt)
  item_accepted a_fragment_list s l begin around = (tt, closing_accepted (size_of l))

  -- elements come in data sets alone
  left_of : (a b : Bool) → b ≡ false → (a || b) ≡ true → a ≡ true
  left_of true b e h = refl
  left_of false b e h = absurd (cc)

  none_of : (a b : Bool) → a ≡ false → b ≡ false → (a || b) ≡ true → ⊥
  none_of true b e f h = cc
  none_of false true e f h = cc
  none_of false false e f h = cc

  and_false : (a b : Bool) → b ≡ false → (a && b) ≡ false
  and_false true b e = e
  and_false false b e = refl

  allowed_data : (c : Container) (declared : Length) (tag : Tag) → (tag.group == 0xFFFE) ≡ false → is_allowed c declared tag ≡ true → is_data tag ≡ true
  unfolding is_allowed
  allowed_data the_data_set declared tag g h = h
  allowed_data an_item declared tag g h = left_of (is_data tag) (is_undefined declared && is_item_end tag) (and_false (is_undefined declared) (is_item_end tag) (ap (λ (x : Bool). x && (tag.element == 0xE00D)) g)) h
  allowed_data a_sequence declared tag g h =
      absurd (none_of (is_item tag) (is_undefined declared && is_sequence_end tag) (ap (λ (x : Bool). x && (tag.element == 0xE000)) g) (and_false (is_undefined declared) (is_sequence_end tag) (ap (λ (x : Bool). x && (tag.element == 0xE0DD)) g)) h)
  allowed_data a_fragment_list declared tag g h =
      absurd (none_of (is_item tag) (is_sequence_end tag) (ap (λ (x : Bool). x && (tag.element == 0xE000)) g) (ap (λ (x : Bool). x && (tag.element == 0xE0DD)) g) h)

  head_untold : (c1 c2 c3 c4 : Bool) (position size : ℕ) (h : Option Stop) → tests c1 c2 c3 c4 position size h ≡ None → h ≡ None
  head_untold true c2 c3 c4 position size h e = absurd (cc)
  head_untold false true c3 c4 position size h e = absurd (cc)
  head_untold false false true c4 position size h e = absurd (cc)
  head_untold false false false true position size h e = absurd (cc)
  head_untold false false false false position size h e = e

  bar_untold : (c1 c2 c3 c4 c5 : Bool) (s1 s2 s3 s4 s5 : Stop) (position : ℕ) (b : Option Fault) → first_case ((c1, s1) ∷ (c2, s2) ∷ (c3, s3) ∷ (c4, s4) ∷ (c5, s5) ∷ barred b position) ≡ None → b ≡ None
  bar_untold true c2 c3 c4 c5 s1 s2 s3 s4 s5 position b e = absurd (cc)
  bar_untold false true c3 c4 c5 s1 s2 s3 s4 s5 position b e = absurd (cc)
  bar_untold false false true c4 c5 s1 s2 s3 s4 s5 position b e = absurd (cc)
  bar_untold false false false true c5 s1 s2 s3 s4 s5 position b e = absurd (cc)
  bar_untold false false false false true s1 s2 s3 s4 s5 position b e = absurd (cc)
  bar_untold false false false false false s1 s2 s3 s4 s5 position None e = refl
  bar_untold false false false false false s1 s2 s3 s4 s5 position (Some fault) e = absurd (cc)

  element_unbarred : (inner : Level) (around : List Level) (position : ℕ) (z : List ℕ) (vr : Vr) → place_stop bar inner around position z ≡ None → ((tag_at inner.syntax z).group == 0xFFFE) ≡ false → vr_at inner.syntax z ≡ Some vr
      → bar (tag_at inner.syntax z) vr (length_at inner.syntax vr z) ≡ None
  element_unbarred inner around position z vr e g v =
      let s : Syntax = inner.syntax in
      let l : Length = length_at s vr z in
      let h = head_untold (passes 8 (room position around)) (is_the_data_set inner.container && is_empty z) (nat_lt (length z) 8) (not (is_allowed inner.container inner.declared (tag_at s z))) position (length z) (head_stop bar inner around position z) e in
      let k : element_stop bar s around position z (Some vr) ≡ None =
      ap (λ (x : Option Vr). element_stop bar s around position z x) (sym v)
      ∙ sym (ap (λ (x : Bool). cond (not x) (element_stop bar s around position z (vr_at s z)) (cond (is_item (tag_at s z)) (item_stop inner.container around position (long_length (number s 4 (drop 4 z)))) None)) g)
      ∙ h in
      bar_untold (passes (head_size s vr) (room position around)) (nat_lt (length z) (head_size s vr)) (has_no_form (form s (read_as s (tag_at s z) vr) l)) (passes (with_length (head_size s vr) l) (room position around)) (opens_list (form s (read_as s (tag_at s z) vr) l) && nat_le 64 (depth around))
      (refused PassesEnd position) (refused EndsEarly (position + length z)) (refused UndefinedLength position) (refused PassesEnd position) (refused TooDeep position) position (bar (tag_at s z) vr l) k

  head_accepted : (begin : ℕ) (inner : Level) (outer : List Level) (position : ℕ) (z : List ℕ) → place_stop bar inner (inner ∷ outer) position z ≡ None → Fits inner (inner ∷ outer) position z → FitsHead inner (inner ∷ outer) position z
      → AllAccepted bar (head_opens begin z (inner ∷ outer)).atoms
  head_accepted begin inner outer position z e fits (fits_element vr g f) =
      let l = length_at inner.syntax vr z in
      subst (λ (o : Opened). AllAccepted bar o.atoms) (sym (opens_element begin z inner outer vr g f.vr_is))
      (element_accepted (form inner.syntax (read_as inner.syntax (tag_at inner.syntax z) vr) l) inner.syntax (tag_at inner.syntax z) vr l begin (inner ∷ outer)
      (allowed_data inner.container inner.declared (tag_at inner.syntax z) g fits.allowed, element_unbarred inner (inner ∷ outer) position z vr e g f.vr_is))
  head_accepted begin inner outer position z e fits (fits_item g i u f) =
      subst (λ (o : Opened). AllAccepted bar o.atoms) (sym (opens_other begin z inner outer true g i)) (item_accepted inner.container inner.syntax (long_length (number inner.syntax 4 (drop 4 z))) begin (inner ∷ outer))
  head_accepted begin inner outer position z e fits (fits_delimiter g i) =
      subst (λ (o : Opened). AllAccepted bar o.atoms) (sym (opens_other begin z inner outer false g i)) (closes_accepted inner.container, tt)

  levels_accepted : (begin : ℕ) (ls : List Level) (position : ℕ) (z : List ℕ) → innermost_stop bar ls position z ≡ None → AllAccepted bar (head_opens begin z ls).atoms
  levels_accepted begin [] position z e = tt
  levels_accepted begin (inner ∷ outer) position z e = let fits = place_none bar inner (inner ∷ outer) position z e in head_accepted begin inner outer position z e fits fits.head

  -- ---- bytes

  read_accepted : (r : Reading) (z : List ℕ) (stop : Option Stop) → innermost_stop bar r.levels r.position z ≡ stop → AllAccepted bar (head_read r z stop).1
  read_accepted r z None e =
      let o = head_opens (r.position + length z) z r.levels in
      settled_accepted (r.position + length z) o o.left (levels_accepted (r.position + length z) r.levels r.position z e)
  read_accepted r z (Some stop) e = by_test (is_undecided (Some stop))
    where
      by_test : (u : Bool) → AllAccepted bar (cond {A = Reading × List Atom} u (record r { head = z }, []) (record r { head = []; halt = Some stop }, [])).1
      by_test true = tt
      by_test false = tt

  pub byte_accepted : (r : Reading) (b : ℕ) (halt : Option Stop) (within : Bool) (n : ℕ) → AllAccepted bar (byte_read bar r b halt within n).1
  byte_accepted r b (Some stop) within n = tt
  byte_accepted r b None false n = tt
  byte_accepted r b None true (suc n) = settled_accepted (r.position + 1) (value_left n (sign_reads (b ∷ []) r.sign) r.levels (value_byte b ∷ [])) n (tt, closing_accepted n)
  byte_accepted r b None true zero = read_accepted r (r.head ++ b ∷ []) (innermost_stop bar r.levels r.position (r.head ++ b ∷ [])) refl

  all_read : (bytes : List ℕ) (r : Reading) (atoms : List Atom) → AllAccepted bar atoms → AllAccepted bar (fold (reads_byte (λ xs. bar)) (r, atoms) bytes).1
  unfolding read_byte
  all_read [] r atoms h = h
  all_read (b ∷ bytes) r atoms h =
      all_read bytes (read_byte bar r b).0 (atoms ++ (read_byte bar r b).1) (all_both bar atoms (read_byte bar r b).1 h (byte_accepted r b r.halt (nat_lt (r.position + length r.head) INPUT_LIMIT) r.left))

  end_accepted : (stop : Stop) → AllAccepted bar (end_shows stop)
  end_accepted complete = (tt, tt)
  end_accepted (refused fault offset) = tt

  -- over any bytes, and at their end
  pub machine_accepted : (s : Syntax) (start : ℕ) (bytes : List ℕ) (stop : Stop) → AllAccepted bar ((read_all (λ xs. bar) s start bytes).1 ++ end_shows stop)
  machine_accepted s start bytes stop = all_both bar (read_all (λ xs. bar) s start bytes).1 (end_shows stop) (all_read bytes (start_of s start) [] tt) (end_accepted stop)
