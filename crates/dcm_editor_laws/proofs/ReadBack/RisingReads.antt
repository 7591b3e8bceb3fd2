-- A data set whose tags ascend is read the same under the bar on tags that do not.
use Rattle.std.proofs.Common.{◌≡◌, ◌∙◌, ap, sym, refl, subst, ℕ, zero, suc, ◌+◌, ◌≤◌, List, [], ◌∷◌, ◌++◌, length, Option, Some, None, Bool, true, false, not}
use Rattle.std.specs.Prelude.{fold, map, nat_le, nat_lt, ◌==◌, ◌&&◌, if◌then◌else◌}
use Rattle.dcm_base.specs.declared.tag.Tag.{Tag}
use Rattle.dcm_base.specs.declared.vr.Vr.{Vr}
use Rattle.dcm_base.specs.declared.syntax.Syntax.{Syntax}
use Rattle.dcm_base.specs.declared.fault.Fault.TheVariants.{EndsEarly, NotAscending, PassesEnd, TooDeep, UndefinedLength}
use Rattle.dcm_base.specs.declared.length.Length.{Length}
use Rattle.dcm_base.specs.declared.form.Form.{Form}
use Rattle.dcm_base.specs.declared.form.Form.TheVariants.{Value as a_value, Sequence as sequence_form, FragmentList as fragment_form, Nothing as no_form}
use Rattle.dcm_base.specs.declared.level.Level.{Level}
use Rattle.dcm_base.specs.Tables.Tag.{is_above}
use Rattle.dcm_base.specs.Tree.Tree.{Trees, no_tree, leaf, sequence, fragments, Items, no_item, item}
use Rattle.dcm_base.specs.Tree.Front.{Front}
use Rattle.dcm_base.specs.Lines.Ascending.{Ascend, ItemsAscend}
use Rattle.dcm_base.specs.Tree.Value.{order}
use Rattle.dcm_base.specs.Bytes.Head.{head_size, tag_at, vr_at, length_at}
use Rattle.dcm_base.specs.Reading.Place.{depth, passes, room}
use Rattle.dcm_base.specs.Bytes.Spelling.{form, inside, last_tag, after, read_as}
use Rattle.dcm_base.specs.Reading.Stop.{Stop, complete, refused, HeadBar, barred, opens_list, with_length, first_case, has_no_form, element_stop, head_stop, innermost_stop, or_else}
use Rattle.dcm_base.specs.Reading.Bars.{ascending_bar, no_bar, target_bar}
use Rattle.dcm_base.specs.Reading.Reads.{INPUT_LIMIT, Reads}
use Rattle.dcm_base.specs.Conversion.Normal.{whole_front}
use Rattle.dcm_base.specs.Steps.Atoms.{Atom, value_byte, closes_leaf, closes_item, closes_sequence, ends, fragments_then, front_atoms, trees_then, items_then}
use Rattle.dcm_base.proofs.DataSets.OneAnswer.{reads_once}
use Rattle.dcm_base.proofs.DataSets.OwnSyntax.{own_reads}
use Rattle.dcm_base_laws.proofs.DataSets.InOrder.{unbarred_reads}
use Rattle.dcm_stream.specs.Ascending.{reached_after, innermost, ascending}
use Rattle.dcm_stream.specs.Follows.{BarsAs}
use Rattle.dcm_stream.specs.Reading.{Reading, start_of, Opened, settled, full_closed, element_opens, plain_opens, head_opens, head_read, byte_read, read_byte, reads_byte, read_all, finish, end_shows}
use Rattle.dcm_stream.proofs.Steps.Ascending.{ascending_bars}
use Rattle.dcm_stream.proofs.Steps.Follows.{answers}
use Rattle.dcm_editor.proofs.ReadBack.Rises.{Rises}

-- ---- parts of what rises

rises_left : (st : List (Option Tag)) (xs ys : List Atom) → Rises st (xs ++ ys) → Rises st xs
rises_left st [] ys h = tt
rises_left st (x ∷ xs) ys h = (h.0, rises_left (reached_after st x) xs ys h.1)

rises_right : (st : List (Option Tag)) (xs ys : List Atom) → Rises st (xs ++ ys) → Rises (fold reached_after st xs) ys
rises_right st [] ys h = h
rises_right st (x ∷ xs) ys h = rises_right (reached_after st x) xs ys h.1

-- ---- the atoms of a data set whose tags ascend

bytes_rise : (r : Option Tag) (st : List (Option Tag)) (v : List ℕ) (others : List Atom) → Rises (r ∷ st) others → Rises (r ∷ st) (map value_byte v ++ others)
bytes_rise r st [] others h = h
bytes_rise r st (b ∷ v) others h = (tt, bytes_rise r st v others h)

fragments_rise : (r : Option Tag) (st : List (Option Tag)) (values : List (List ℕ)) (others : List Atom) → Rises (r ∷ st) others → Rises (r ∷ st) (fragments_then values others)
unfolding fragments_then
fragments_rise r st [] others h = h
fragments_rise r st (v ∷ values) others h = (tt, bytes_rise r st v (closes_leaf ∷ fragments_then values others) (tt, fragments_rise r st values others h))

mutual
  unfolding trees_then last_tag

  trees_rise : (s : Syntax) (x : Trees) (others : List Atom) (r : Option Tag) (st : List (Option Tag)) → Ascend r x → Rises (last_tag r x ∷ st) others → Rises (r ∷ st) (trees_then s x others)
  trees_rise s no_tree others r st a h = h
  trees_rise s (leaf tag vr value rest) others r st a h =
      (a.0, bytes_rise (Some tag) st (order s vr value) (closes_leaf ∷ trees_then (after s tag vr value) rest others) (tt, trees_rise (after s tag vr value) rest others (Some tag) st a.1 h))
  trees_rise s (sequence tag vr declared items rest) others r st a h =
      (a.0, items_rise (inside s vr) items (closes_sequence ∷ trees_then s rest others) (Some tag) st a.1 (tt, trees_rise s rest others (Some tag) st a.2 h))
  trees_rise s (fragments tag vr values rest) others r st a h =
      (a.0, fragments_rise (Some tag) st values (closes_sequence ∷ trees_then s rest others) (tt, trees_rise s rest others (Some tag) st a.1 h))

  items_rise : (s : Syntax) (x : Items) (others : List Atom) (r : Option Tag) (st : List (Option Tag)) → ItemsAscend x → Rises (r ∷ st) others → Rises (r ∷ st) (items_then s x others)
  items_rise s no_item others r st a h = h
  items_rise s (item declared set rest) others r st a h =
      (tt, trees_rise s set (closes_item ∷ items_then s rest others) None (r ∷ st) a.0 (tt, items_rise s rest others r st a.1 h))

whole_rises : (s : Syntax) (x : Trees) → Ascend None x → Rises (None ∷ []) (front_atoms s (whole_front x))
unfolding front_atoms
whole_rises s x a = trees_rise s x (ends ∷ []) None [] a (tt, tt)

-- ---- a head that is shown where nothing is barred, and rises, is shown under the bar

-- nothing is barred
abbrev free : HeadBar
free tag vr declared = None

-- a tag that is not above the last one
abbrev above : Option Tag → HeadBar
above last tag vr declared = if is_above tag last then None else Some NotAscending

pub case_alike : (t : Bool) (stop : Stop) (a b : Option Stop) (P : Type 0) → ((b ≡ None → P) → a ≡ b) → ((if t then Some stop else b) ≡ None → P) → (if t then Some stop else a) ≡ (if t then Some stop else b)
case_alike true stop a b P h k = refl
case_alike false stop a b P h k = h k

last_alike : (position : ℕ) (c : Bool) → (first_case (barred None position) ≡ None → c ≡ true) → first_case (barred (if c then None else Some NotAscending) position) ≡ first_case (barred None position)
last_alike position true k = refl
last_alike position false k = absurd (let e : false ≡ true = k refl in cc)

pub after_alike : (before a b : Option Stop) (P : Type 0) → ((b ≡ None → P) → a ≡ b) → (or_else before b ≡ None → P) → or_else before a ≡ or_else before b
after_alike None a b P h k = h k
after_alike (Some stop) a b P h k = refl

pub third_false : (a b c : Bool) (x y z : Stop) (more : Option Stop) → (if a then Some x else (if b then Some y else (if c then Some z else more))) ≡ None → c ≡ false
third_false true b c x y z more e = absurd (cc)
third_false false true c x y z more e = absurd (cc)
third_false false false true x y z more e = absurd (cc)
third_false false false false x y z more e = refl

element_rises : (st : List (Option Tag)) (f : Form) (s : Syntax) (tag : Tag) (vr : Vr) (l : Length) (begin : ℕ) (around : List Level) → has_no_form f ≡ false → Rises st (element_opens f s tag vr l begin around).atoms → is_above tag (innermost st) ≡ true
element_rises st a_value s tag vr l begin around e h = h.0
element_rises st sequence_form s tag vr l begin around e h = h.0
element_rises st fragment_form s tag vr l begin around e h = h.0
element_rises st no_form s tag vr l begin around e h = absurd (cc)

module _ (st : List (Option Tag)) where
  element_alike : (s : Syntax) (around : List Level) (position : ℕ) (z : List ℕ) (v : Option Vr) → (element_stop free s around position z v ≡ None → is_above (tag_at s z) (innermost st) ≡ true)
      → element_stop (above (innermost st)) s around position z v ≡ element_stop free s around position z v
  element_alike s around position z None k = refl
  element_alike s around position z (Some vr) k =
      let declared = length_at s vr z in
      let P : Type 0 = is_above (tag_at s z) (innermost st) ≡ true in
      case_alike (passes (head_size s vr) (room position around)) (refused PassesEnd position) _ _ P
      (case_alike (nat_lt (length z) (head_size s vr)) (refused EndsEarly (position + length z)) _ _ P
      (case_alike (has_no_form (form s (read_as s (tag_at s z) vr) declared)) (refused UndefinedLength position) _ _ P
      (case_alike (passes (with_length (head_size s vr) declared) (room position around)) (refused PassesEnd position) _ _ P
      (case_alike (opens_list (form s (read_as s (tag_at s z) vr) declared) && nat_le 64 (depth around)) (refused TooDeep position) _ _ P
      (last_alike position (is_above (tag_at s z) (innermost st))))))) k

  plain_rises : (s : Syntax) (around : List Level) (position begin : ℕ) (z : List ℕ) (v : Option Vr) → element_stop free s around position z v ≡ None → Rises st (plain_opens v s begin z around).atoms
      → is_above (tag_at s z) (innermost st) ≡ true
  plain_rises s around position begin z None e h = absurd (cc)
  plain_rises s around position begin z (Some vr) e h =
      let declared = length_at s vr z in
      element_rises st (form s (read_as s (tag_at s z) vr) declared) s (tag_at s z) vr declared begin around
      (third_false (passes (head_size s vr) (room position around)) (nat_lt (length z) (head_size s vr)) (has_no_form (form s (read_as s (tag_at s z) vr) declared)) _ _ _ _ e) h

  -- by whether it is of the group of items and delimiters
  group_alike : (s : Syntax) (around : List Level) (position begin : ℕ) (z : List ℕ) (v : Option Vr) (g : Bool) (d : Option Stop) (x : Opened)
      → ((if not g then element_stop free s around position z v else d) ≡ None → Rises st (if g then x else plain_opens v s begin z around).atoms)
      → (if not g then element_stop (above (innermost st)) s around position z v else d) ≡ (if not g then element_stop free s around position z v else d)
  group_alike s around position begin z v true d x h = refl
  group_alike s around position begin z v false d x h = element_alike s around position z v (λ e. plain_rises s around position begin z v e (h e))

  head_alike : (inner : Level) (outer : List Level) (position begin : ℕ) (z : List ℕ) → (head_stop free inner (inner ∷ outer) position z ≡ None → Rises st (head_opens begin z (inner ∷ outer)).atoms)
      → head_stop (above (innermost st)) inner (inner ∷ outer) position z ≡ head_stop free inner (inner ∷ outer) position z
  head_alike inner outer position begin z h =
      group_alike inner.syntax (inner ∷ outer) position begin z (vr_at inner.syntax z) ((tag_at inner.syntax z).group == 0xFFFE) _ _ h

  place_alike : (ls : List Level) (position begin : ℕ) (z : List ℕ) → (innermost_stop free ls position z ≡ None → Rises st (head_opens begin z ls).atoms)
      → innermost_stop (above (innermost st)) ls position z ≡ innermost_stop free ls position z
  place_alike [] position begin z h = refl
  place_alike (inner ∷ outer) position begin z h = after_alike _ _ _ (Rises st (head_opens begin z (inner ∷ outer)).atoms) (head_alike inner outer position begin z) h

  settled_rises : (position : ℕ) (o : Opened) (left : ℕ) → Rises st (settled position o left).1 → Rises st o.atoms
  settled_rises position o zero h = rises_left st o.atoms (full_closed position o.levels).1 h
  settled_rises position o (suc n) h = h

  read_rises : (r : Reading) (z : List ℕ) (stop : Option Stop) → Rises st (head_read r z stop).1 → stop ≡ None → Rises st (head_opens (r.position + length z) z r.levels).atoms
  read_rises r z None h e = let o = head_opens (r.position + length z) z r.levels in settled_rises (r.position + length z) o o.left h
  read_rises r z (Some stop) h e = absurd (cc)

  byte_alike : (r : Reading) (b : ℕ) (halt : Option Stop) (within : Bool) (n : ℕ) → Rises st (byte_read free r b halt within n).1 → byte_read (above (innermost st)) r b halt within n ≡ byte_read free r b halt within n
  byte_alike r b (Some stop) within n h = refl
  byte_alike r b None false n h = refl
  byte_alike r b None true (suc n) h = refl
  byte_alike r b None true zero h =
      let z : List ℕ = r.head ++ b ∷ [] in
      ap (head_read r z) (place_alike r.levels r.position (r.position + length z) z (read_rises r z (innermost_stop free r.levels r.position z) h))

-- ---- all bytes

abbrev none : List Atom → HeadBar
none atoms = free

none_bars : BarsAs none no_bar
none_bars = record { agree = λ f atoms shows tag vr declared. refl; never_early = λ f tag vr declared. refl }

rises_before : (bars : List Atom → HeadBar) (bytes : List ℕ) (r : Reading) (atoms : List Atom) → Rises (None ∷ []) (fold (reads_byte bars) (r, atoms) bytes).1 → Rises (None ∷ []) atoms
rises_before bars [] r atoms h = h
rises_before bars (b ∷ bytes) r atoms h =
    let q = read_byte (bars atoms) r b in
    rises_left (None ∷ []) atoms q.1 (rises_before bars bytes q.0 (atoms ++ q.1) h)

read_alike : (atoms : List Atom) (r : Reading) (b : ℕ) → Rises (fold reached_after (None ∷ []) atoms) (read_byte free r b).1 → read_byte (ascending atoms) r b ≡ read_byte free r b
unfolding read_byte
read_alike atoms r b h = byte_alike (fold reached_after (None ∷ []) atoms) r b r.halt (nat_lt (r.position + length r.head) INPUT_LIMIT) r.left h

all_alike : (bytes : List ℕ) (r : Reading) (atoms : List Atom) → Rises (None ∷ []) (fold (reads_byte none) (r, atoms) bytes).1 → fold (reads_byte ascending) (r, atoms) bytes ≡ fold (reads_byte none) (r, atoms) bytes
all_alike [] r atoms h = refl
all_alike (b ∷ bytes) r atoms h =
    let q = read_byte free r b in
    let same : read_byte (ascending atoms) r b ≡ q = read_alike atoms r b (rises_right (None ∷ []) atoms q.1 (rises_before none bytes q.0 (atoms ++ q.1) h)) in
    ap (λ (x : Reading × List Atom). fold (reads_byte ascending) (x.0, atoms ++ x.1) bytes) same ∙ all_alike bytes q.0 (atoms ++ q.1) h

-- ---- a whole input

pub ascending_reads : (s : Syntax) (start : ℕ) (bytes : List ℕ) (x : Trees) → start ≤ INPUT_LIMIT → Ascend None x → Reads (target_bar s) s start bytes (whole_front x) complete → Reads ascending_bar s start bytes (whole_front x) complete
ascending_reads s start bytes x le a reads =
    let plain = read_all none s start bytes in
    let p = answers none no_bar none_bars s start bytes le in
    let one = reads_once (target_bar s) s start bytes p.f (whole_front x) (finish plain.0) complete (own_reads s start bytes p.f (finish plain.0) p.reads) reads in
    let shown : plain.1 ++ end_shows (finish plain.0) ≡ front_atoms s (whole_front x) = p.shown ∙ ap (front_atoms s) one.0 in
    let rises : Rises (None ∷ []) plain.1 = rises_left (None ∷ []) plain.1 (end_shows (finish plain.0)) (subst (λ (y : List Atom). Rises (None ∷ []) y) (sym shown) (whole_rises s x a)) in
    let same : read_all ascending s start bytes ≡ plain = all_alike bytes (start_of s start) [] rises in
    let q = answers ascending ascending_bar ascending_bars s start bytes le in
    let ends_well : finish (read_all ascending s start bytes).0 ≡ complete = ap (λ (y : Reading × List Atom). finish y.0) same ∙ one.1 in
    let done : Reads ascending_bar s start bytes q.f complete = subst (λ (y : Stop). Reads ascending_bar s start bytes q.f y) ends_well q.reads in
    let again : Reads (target_bar s) s start bytes q.f complete = own_reads s start bytes q.f complete (unbarred_reads s start bytes q.f complete (λ offset e. cc) done) in
    subst (λ (y : Front). Reads ascending_bar s start bytes y complete) (reads_once (target_bar s) s start bytes q.f (whole_front x) complete complete again reads).0 done
