-- Each head that a machine shows under a bar on tags that do not ascend is above the last one of its data set.
use Rattle.std.proofs.Common.{◌≡◌, refl, ℕ, zero, suc, ◌+◌, List, [], ◌∷◌, ◌++◌, length, Option, Some, None, Bool, true, false, cond, drop}
use Rattle.std.specs.Prelude.{fold, nat_lt, ◌==◌}
use Rattle.dcm_base.specs.declared.tag.Tag.{Tag}
use Rattle.dcm_base.specs.declared.vr.Vr.{Vr}
use Rattle.dcm_base.specs.declared.syntax.Syntax.{Syntax}
use Rattle.dcm_base.specs.declared.fault.Fault.{Fault}
use Rattle.dcm_base.specs.declared.fault.Fault.TheVariants.{NotAscending}
use Rattle.dcm_base.specs.declared.length.Length.{Length}
use Rattle.dcm_base.specs.declared.form.Form.{Form}
use Rattle.dcm_base.specs.declared.form.Form.TheVariants.{Value as a_value, Sequence as sequence_form, FragmentList as fragment_form, Nothing as no_form}
use Rattle.dcm_base.specs.declared.level.Container.{Container}
use Rattle.dcm_base.specs.declared.level.Level.{Level}
use Rattle.dcm_base.specs.declared.level.Container.TheVariants.{DataSet as the_data_set, Item as an_item, Sequence as a_sequence, FragmentList as a_fragment_list}
use Rattle.dcm_base.specs.Tables.Number.{number}
use Rattle.dcm_base.specs.Tables.Tag.{is_above, is_item}
use Rattle.dcm_base.specs.Bytes.Head.{tag_at, vr_at, length_at, long_length}
use Rattle.dcm_base.specs.Bytes.Spelling.{form, read_as}
use Rattle.dcm_base.specs.Reading.Stop.{Stop, Bar, HeadBar, innermost_stop, is_undecided}
use Rattle.dcm_base.specs.Reading.Bars.{ascending_bar}
use Rattle.dcm_base.specs.Reading.Reads.{INPUT_LIMIT}
use Rattle.dcm_base.specs.Steps.Atoms.{Atom, opens, value_byte, closes_leaf, opens_item, closes_item, closes_sequence, opens_fragment, ends}
use Rattle.dcm_stream.specs.Ascending.{reached_after, innermost, ascending}
use Rattle.dcm_stream.specs.Follows.{BarsAs}
use Rattle.dcm_stream.proofs.Heads.Stops.{NeverEarly}
use Rattle.dcm_stream.proofs.Steps.Ascending.{ascending_bars, never}
use Rattle.dcm_stream.specs.Reading.{Reading, start_of, Opened, closing, size_of, ends_at, closes, element_opens, item_opens, plain_opens, head_opens, full_closed, settled, head_read, byte_read, read_byte, reads_byte, read_all, without_value, value_left, sign_reads}
use Rattle.dcm_sinks.proofs.ReadBack.Accepted.{Accepted, AllAccepted, byte_accepted}

-- ---- heads that are above the last ones

abbrev pub RisesAt : List (Option Tag) → Atom → Type 0
RisesAt st (opens tag vr declared s) = is_above tag (innermost st) ≡ true
RisesAt st (value_byte b) = Unit {0}
RisesAt st closes_leaf = Unit {0}
RisesAt st (opens_item declared) = Unit {0}
RisesAt st closes_item = Unit {0}
RisesAt st closes_sequence = Unit {0}
RisesAt st (opens_fragment size) = Unit {0}
RisesAt st ends = Unit {0}

abbrev pub Rises : List (Option Tag) → List Atom → Type 0
Rises st [] = Unit {0}
Rises st (a ∷ atoms) = RisesAt st a × Rises (reached_after st a) atoms

rises_both : (st : List (Option Tag)) (xs ys : List Atom) → Rises st xs → Rises (fold reached_after st xs) ys → Rises st (xs ++ ys)
rises_both st [] ys h k = k
rises_both st (x ∷ xs) ys h k = (h.0, rises_both (reached_after st x) xs ys h.1 k)

-- ---- a byte shows one head at most, and first

abbrev pub NoHead : Atom → Type 0
NoHead (opens tag vr declared s) = true ≡ false
NoHead (value_byte b) = Unit {0}
NoHead closes_leaf = Unit {0}
NoHead (opens_item declared) = Unit {0}
NoHead closes_item = Unit {0}
NoHead closes_sequence = Unit {0}
NoHead (opens_fragment size) = Unit {0}
NoHead ends = Unit {0}

abbrev pub NoHeads : List Atom → Type 0
NoHeads [] = Unit {0}
NoHeads (a ∷ atoms) = NoHead a × NoHeads atoms

abbrev pub OneHead : List Atom → Type 0
OneHead [] = Unit {0}
OneHead (a ∷ atoms) = NoHeads atoms

none_rises : (st : List (Option Tag)) (a : Atom) → NoHead a → RisesAt st a
none_rises st (opens tag vr declared s) h = absurd cc
none_rises st (value_byte b) h = tt
none_rises st closes_leaf h = tt
none_rises st (opens_item declared) h = tt
none_rises st closes_item h = tt
none_rises st closes_sequence h = tt
none_rises st (opens_fragment size) h = tt
none_rises st ends h = tt

none_rise : (st : List (Option Tag)) (atoms : List Atom) → NoHeads atoms → Rises st atoms
none_rise st [] h = tt
none_rise st (a ∷ atoms) h = (none_rises st a h.0, none_rise (reached_after st a) atoms h.1)

tail_of : (atoms : List Atom) → NoHeads atoms → OneHead atoms
tail_of [] h = tt
tail_of (a ∷ atoms) h = h.1

none_both : (xs ys : List Atom) → NoHeads xs → NoHeads ys → NoHeads (xs ++ ys)
none_both [] ys h k = k
none_both (x ∷ xs) ys h k = (h.0, none_both xs ys h.1 k)

one_both : (xs ys : List Atom) → OneHead xs → NoHeads ys → OneHead (xs ++ ys)
one_both [] ys h k = tail_of ys k
one_both (x ∷ xs) ys h k = none_both xs ys h k

closing_none : (size : ℕ) → NoHeads (closing size)
closing_none zero = (tt, tt)
closing_none (suc n) = tt

closes_none : (c : Container) → NoHead (closes c)
closes_none the_data_set = tt
closes_none an_item = tt
closes_none a_sequence = tt
closes_none a_fragment_list = tt

closed_none : (position : ℕ) (ls : List Level) → NoHeads (full_closed position ls).1
unfolding full_closed
closed_none position [] = tt
closed_none position (inner ∷ outer) = by_end (ends_at position inner.end_offset) (closed_none position outer)
  where
    by_end : (e : Bool) → NoHeads (full_closed position outer).1 → NoHeads (cond {A = List Level × List Atom} e ((full_closed position outer).0, closes inner.container ∷ (full_closed position outer).1) (inner ∷ outer, [])).1
    by_end true h = (closes_none inner.container, h)
    by_end false h = tt

settled_one : (position : ℕ) (o : Opened) (left : ℕ) → OneHead o.atoms → OneHead (settled position o left).1
settled_one position o zero h = one_both o.atoms (full_closed position o.levels).1 h (closed_none position o.levels)
settled_one position o (suc n) h = h

element_one : (f : Form) (s : Syntax) (tag : Tag) (vr : Vr) (l : Length) (begin : ℕ) (around : List Level) → OneHead (element_opens f s tag vr l begin around).atoms
element_one a_value s tag vr l begin around = closing_none (size_of l)
element_one sequence_form s tag vr l begin around = tt
element_one fragment_form s tag vr l begin around = tt
element_one no_form s tag vr l begin around = tt

item_one : (c : Container) (s : Syntax) (l : Length) (begin : ℕ) (around : List Level) → OneHead (item_opens c s l begin around).atoms
item_one the_data_set s l begin around = tt
item_one an_item s l begin around = tt
item_one a_sequence s l begin around = tt
item_one a_fragment_list s l begin around = closing_none (size_of l)

plain_one : (v : Option Vr) (s : Syntax) (begin : ℕ) (z : List ℕ) (around : List Level) → OneHead (plain_opens v s begin z around).atoms
plain_one None s begin z around = tt
plain_one (Some vr) s begin z around = element_one (form s (read_as s (tag_at s z) vr) (length_at s vr z)) s (tag_at s z) vr (length_at s vr z) begin around

head_one : (begin : ℕ) (z : List ℕ) (ls : List Level) → OneHead (head_opens begin z ls).atoms
head_one begin z [] = tt
head_one begin z (inner ∷ outer) = by_tests ((tag_at inner.syntax z).group == 0xFFFE) (is_item (tag_at inner.syntax z))
  where
    by_tests : (b c : Bool)
        → OneHead (cond {A = Opened} b (cond {A = Opened} c (item_opens inner.container inner.syntax (long_length (number inner.syntax 4 (drop 4 z))) begin (inner ∷ outer)) (without_value outer (closes inner.container))) (plain_opens (vr_at inner.syntax z) inner.syntax begin z (inner ∷ outer))).atoms
    by_tests true true = item_one inner.container inner.syntax (long_length (number inner.syntax 4 (drop 4 z))) begin (inner ∷ outer)
    by_tests true false = tt
    by_tests false c = plain_one (vr_at inner.syntax z) inner.syntax begin z (inner ∷ outer)

read_one : (r : Reading) (z : List ℕ) (stop : Option Stop) → OneHead (head_read r z stop).1
read_one r z None =
    let o = head_opens (r.position + length z) z r.levels in
    settled_one (r.position + length z) o o.left (head_one (r.position + length z) z r.levels)
read_one r z (Some stop) = by_test (is_undecided (Some stop))
  where
    by_test : (u : Bool) → OneHead (cond {A = Reading × List Atom} u (record r { head = z }, []) (record r { head = []; halt = Some stop }, [])).1
    by_test true = tt
    by_test false = tt

pub byte_one : (bar : HeadBar) (r : Reading) (b : ℕ) (halt : Option Stop) (within : Bool) (n : ℕ) → OneHead (byte_read bar r b halt within n).1
byte_one bar r b (Some stop) within n = tt
byte_one bar r b None false n = tt
byte_one bar r b None true (suc n) = settled_one (r.position + 1) (value_left n (sign_reads (b ∷ []) r.sign) r.levels (value_byte b ∷ [])) n (closing_none n)
byte_one bar r b None true zero = read_one r (r.head ++ b ∷ []) (innermost_stop bar r.levels r.position (r.head ++ b ∷ []))

-- ---- all bytes

-- a bar that a tag passes only above the last one of its data set, and that is no early end
pub record KeepsOrder (bars : List Atom → HeadBar) (bar : Bar) : Type 0 where
  pub same : BarsAs bars bar
  pub late : (atoms : List Atom) → NeverEarly (bars atoms)
  pub above : (atoms : List Atom) (tag : Tag) (vr : Vr) (declared : Length) → bars atoms tag vr declared ≡ None → is_above tag (innermost (fold reached_after (None ∷ []) atoms)) ≡ true

module _ (bars : List Atom → HeadBar) (bar : Bar) (k : KeepsOrder bars bar) where
  accepted_rises : (before : List Atom) (a : Atom) → Accepted (bars before) a → RisesAt (fold reached_after (None ∷ []) before) a
  accepted_rises before (opens tag vr declared s) h = k.above before tag vr declared h.1
  accepted_rises before (value_byte b) h = tt
  accepted_rises before closes_leaf h = tt
  accepted_rises before (opens_item declared) h = tt
  accepted_rises before closes_item h = tt
  accepted_rises before closes_sequence h = tt
  accepted_rises before (opens_fragment size) h = tt
  accepted_rises before ends h = tt

  one_rises : (before atoms : List Atom) → AllAccepted (bars before) atoms → OneHead atoms → Rises (fold reached_after (None ∷ []) before) atoms
  one_rises before [] h o = tt
  one_rises before (a ∷ atoms) h o = (accepted_rises before a h.0, none_rise _ atoms o)

  byte_rises : (before : List Atom) (r : Reading) (b : ℕ) → Rises (fold reached_after (None ∷ []) before) (read_byte (bars before) r b).1
  unfolding read_byte
  byte_rises before r b =
      one_rises before (read_byte (bars before) r b).1
      (byte_accepted (bars before) r b r.halt (nat_lt (r.position + length r.head) INPUT_LIMIT) r.left)
      (byte_one (bars before) r b r.halt (nat_lt (r.position + length r.head) INPUT_LIMIT) r.left)

  all_rise : (bytes : List ℕ) (r : Reading) (atoms : List Atom) → Rises (None ∷ []) atoms → Rises (None ∷ []) (fold (reads_byte bars) (r, atoms) bytes).1
  all_rise [] r atoms h = h
  all_rise (b ∷ bytes) r atoms h =
      let q = read_byte (bars atoms) r b in
      all_rise bytes q.0 (atoms ++ q.1) (rises_both (None ∷ []) atoms q.1 h (byte_rises atoms r b))

  pub machine_rises : (s : Syntax) (start : ℕ) (bytes : List ℕ) → Rises (None ∷ []) (read_all bars s start bytes).1
  machine_rises s start bytes = all_rise bytes (start_of s start) [] tt

-- ---- the bar on tags that do not ascend

unbarred : (b : Bool) → cond {A = Option Fault} b None (Some NotAscending) ≡ None → b ≡ true
unbarred true e = refl
unbarred false e = absurd cc

pub in_order : KeepsOrder ascending ascending_bar
in_order = record {
  same = ascending_bars;
  late = λ atoms tag vr declared. never (is_above tag (innermost (fold reached_after (None ∷ []) atoms)));
  above = λ atoms tag vr declared. unbarred (is_above tag (innermost (fold reached_after (None ∷ []) atoms)));
}
