-- A data set of which nothing is barred where identity is taken out is read the same under that bar.
use Rattle.std.proofs.Common.{◌≡◌, ◌∙◌, ap, sym, refl, subst, ℕ, zero, suc, ◌+◌, ◌≤◌, List, [], ◌∷◌, ◌++◌, length, Option, Some, None, Bool, true, false, not}
use Rattle.std.specs.Prelude.{fold, map, nat_le, nat_lt, ◌==◌, ◌&&◌, if◌then◌else◌}
use Rattle.dcm_base.specs.declared.tag.Tag.{Tag}
use Rattle.dcm_base.specs.declared.vr.Vr.{Vr}
use Rattle.dcm_base.specs.declared.syntax.Syntax.{Syntax}
use Rattle.dcm_base.specs.declared.fault.Fault.{Fault}
use Rattle.dcm_base.specs.declared.fault.Fault.TheVariants.{EndsEarly, PassesEnd, TooDeep, UndefinedLength}
use Rattle.dcm_base.specs.declared.length.Length.{Length}
use Rattle.dcm_base.specs.declared.form.Form.{Form}
use Rattle.dcm_base.specs.declared.form.Form.TheVariants.{Value as a_value, Sequence as sequence_form, FragmentList as fragment_form, Nothing as no_form}
use Rattle.dcm_base.specs.declared.level.Level.{Level}
use Rattle.dcm_base.specs.Tree.Tree.{Trees, no_tree, leaf, sequence, fragments, Items, no_item, item}
use Rattle.dcm_base.specs.Tree.Front.{Front}
use Rattle.dcm_base.specs.Tree.Value.{order}
use Rattle.dcm_base.specs.Bytes.Head.{head_size, tag_at, vr_at, length_at}
use Rattle.dcm_base.specs.Reading.Place.{depth, passes, room}
use Rattle.dcm_base.specs.Bytes.Spelling.{form, inside, last_tag, after, read_as}
use Rattle.dcm_base.specs.Reading.Stop.{Stop, complete, refused, HeadBar, barred, opens_list, with_length, first_case, has_no_form, element_stop, head_stop, innermost_stop}
use Rattle.dcm_base.specs.Reading.Bars.{identity_bar, no_bar, target_bar}
use Rattle.dcm_base.specs.Reading.Reads.{INPUT_LIMIT, Reads}
use Rattle.dcm_base.specs.Conversion.Normal.{whole_front}
use Rattle.dcm_base.specs.Steps.Atoms.{Atom, value_byte, closes_leaf, closes_item, closes_sequence, ends, fragments_then, front_atoms, trees_then, items_then}
use Rattle.dcm_base.proofs.DataSets.OneAnswer.{reads_once}
use Rattle.dcm_base.proofs.DataSets.OwnSyntax.{own_reads}
use Rattle.dcm_editor_laws.proofs.ReadBack.RisingReads.{after_alike, case_alike, third_false}
use Rattle.dcm_stream.specs.Ascending.{reached_after, innermost}
use Rattle.dcm_stream.specs.Follows.{BarsAs}
use Rattle.dcm_stream.specs.Reading.{Reading, start_of, Opened, settled, full_closed, element_opens, plain_opens, head_opens, head_read, byte_read, read_byte, reads_byte, read_all, finish, end_shows}
use Rattle.dcm_stream.proofs.Steps.Follows.{answers}
use Rattle.dcm_editor.proofs.ReadBack.IdentityBar.{identity, identity_in_order}
use Rattle.dcm_deid_laws.proofs.Allowed.{Free, ItemsPass, Passes, barred_at}
use Rattle.dcm_deid_laws.proofs.NotBarred.{not_barred}

-- ---- parts of what is allowed

free_left : (st : List (Option Tag)) (xs ys : List Atom) → Free st (xs ++ ys) → Free st xs
free_left st [] ys h = tt
free_left st (x ∷ xs) ys h = (h.0, free_left (reached_after st x) xs ys h.1)

free_right : (st : List (Option Tag)) (xs ys : List Atom) → Free st (xs ++ ys) → Free (fold reached_after st xs) ys
free_right st [] ys h = h
free_right st (x ∷ xs) ys h = free_right (reached_after st x) xs ys h.1

-- ---- the atoms of a data set

bytes_free : (r : Option Tag) (st : List (Option Tag)) (v : List ℕ) (others : List Atom) → Free (r ∷ st) others → Free (r ∷ st) (map value_byte v ++ others)
bytes_free r st [] others h = h
bytes_free r st (b ∷ v) others h = (tt, bytes_free r st v others h)

fragments_free : (r : Option Tag) (st : List (Option Tag)) (values : List (List ℕ)) (others : List Atom) → Free (r ∷ st) others → Free (r ∷ st) (fragments_then values others)
unfolding fragments_then
fragments_free r st [] others h = h
fragments_free r st (v ∷ values) others h = (tt, bytes_free r st v (closes_leaf ∷ fragments_then values others) (tt, fragments_free r st values others h))

mutual
  unfolding trees_then last_tag

  trees_free : (s : Syntax) (x : Trees) (others : List Atom) (r : Option Tag) (st : List (Option Tag)) → Passes r x → Free (last_tag r x ∷ st) others → Free (r ∷ st) (trees_then s x others)
  trees_free s no_tree others r st a h = h
  trees_free s (leaf tag vr value rest) others r st a h =
      (a.0, bytes_free (Some tag) st (order s vr value) (closes_leaf ∷ trees_then (after s tag vr value) rest others) (tt, trees_free (after s tag vr value) rest others (Some tag) st a.1 h))
  trees_free s (sequence tag vr declared items rest) others r st a h =
      (a.0, items_free (inside s vr) items (closes_sequence ∷ trees_then s rest others) (Some tag) st a.1 (tt, trees_free s rest others (Some tag) st a.2 h))
  trees_free s (fragments tag vr values rest) others r st a h =
      (a.0, fragments_free (Some tag) st values (closes_sequence ∷ trees_then s rest others) (tt, trees_free s rest others (Some tag) st a.1 h))

  items_free : (s : Syntax) (x : Items) (others : List Atom) (r : Option Tag) (st : List (Option Tag)) → ItemsPass x → Free (r ∷ st) others → Free (r ∷ st) (items_then s x others)
  items_free s no_item others r st a h = h
  items_free s (item declared set rest) others r st a h =
      (tt, trees_free s set (closes_item ∷ items_then s rest others) None (r ∷ st) a.0 (tt, items_free s rest others r st a.1 h))

whole_free : (s : Syntax) (x : Trees) → Passes None x → Free (None ∷ []) (front_atoms s (whole_front x))
unfolding front_atoms
whole_free s x a = trees_free s x (ends ∷ []) None [] a (tt, tt)

-- ---- a head that is shown where nothing is barred, and may come, is shown under the bar

-- nothing is barred
abbrev free : HeadBar
free tag vr declared = None

-- what is barred after the last tag
abbrev barring : Option Tag → HeadBar
barring last tag vr declared = barred_at last tag

last_alike : (position : ℕ) (o : Option Fault) → (first_case (barred None position) ≡ None → o ≡ None) → first_case (barred o position) ≡ first_case (barred None position)
last_alike position o k = ap (λ (x : Option Fault). first_case (barred x position)) (k refl)

element_free : (st : List (Option Tag)) (f : Form) (s : Syntax) (tag : Tag) (vr : Vr) (l : Length) (begin : ℕ) (around : List Level) → has_no_form f ≡ false → Free st (element_opens f s tag vr l begin around).atoms → barred_at (innermost st) tag ≡ None
element_free st a_value s tag vr l begin around e h = h.0
element_free st sequence_form s tag vr l begin around e h = h.0
element_free st fragment_form s tag vr l begin around e h = h.0
element_free st no_form s tag vr l begin around e h = absurd (cc)

module _ (st : List (Option Tag)) where
  element_alike : (s : Syntax) (around : List Level) (position : ℕ) (z : List ℕ) (v : Option Vr) → (element_stop free s around position z v ≡ None → barred_at (innermost st) (tag_at s z) ≡ None)
      → element_stop (barring (innermost st)) s around position z v ≡ element_stop free s around position z v
  element_alike s around position z None k = refl
  element_alike s around position z (Some vr) k =
      let declared = length_at s vr z in
      let P : Type 0 = barred_at (innermost st) (tag_at s z) ≡ None in
      case_alike (passes (head_size s vr) (room position around)) (refused PassesEnd position) _ _ P
      (case_alike (nat_lt (length z) (head_size s vr)) (refused EndsEarly (position + length z)) _ _ P
      (case_alike (has_no_form (form s (read_as s (tag_at s z) vr) declared)) (refused UndefinedLength position) _ _ P
      (case_alike (passes (with_length (head_size s vr) declared) (room position around)) (refused PassesEnd position) _ _ P
      (case_alike (opens_list (form s (read_as s (tag_at s z) vr) declared) && nat_le 64 (depth around)) (refused TooDeep position) _ _ P
      (last_alike position (barred_at (innermost st) (tag_at s z))))))) k

  plain_free : (s : Syntax) (around : List Level) (position begin : ℕ) (z : List ℕ) (v : Option Vr) → element_stop free s around position z v ≡ None → Free st (plain_opens v s begin z around).atoms
      → barred_at (innermost st) (tag_at s z) ≡ None
  plain_free s around position begin z None e h = absurd (cc)
  plain_free s around position begin z (Some vr) e h =
      let declared = length_at s vr z in
      element_free st (form s (read_as s (tag_at s z) vr) declared) s (tag_at s z) vr declared begin around
      (third_false (passes (head_size s vr) (room position around)) (nat_lt (length z) (head_size s vr)) (has_no_form (form s (read_as s (tag_at s z) vr) declared)) _ _ _ _ e) h

  -- by whether it is of the group of items and delimiters
  group_alike : (s : Syntax) (around : List Level) (position begin : ℕ) (z : List ℕ) (v : Option Vr) (g : Bool) (d : Option Stop) (x : Opened)
      → ((if not g then element_stop free s around position z v else d) ≡ None → Free st (if g then x else plain_opens v s begin z around).atoms)
      → (if not g then element_stop (barring (innermost st)) s around position z v else d) ≡ (if not g then element_stop free s around position z v else d)
  group_alike s around position begin z v true d x h = refl
  group_alike s around position begin z v false d x h = element_alike s around position z v (λ e. plain_free s around position begin z v e (h e))

  head_alike : (inner : Level) (outer : List Level) (position begin : ℕ) (z : List ℕ) → (head_stop free inner (inner ∷ outer) position z ≡ None → Free st (head_opens begin z (inner ∷ outer)).atoms)
      → head_stop (barring (innermost st)) inner (inner ∷ outer) position z ≡ head_stop free inner (inner ∷ outer) position z
  head_alike inner outer position begin z h =
      group_alike inner.syntax (inner ∷ outer) position begin z (vr_at inner.syntax z) ((tag_at inner.syntax z).group == 0xFFFE) _ _ h

  place_alike : (ls : List Level) (position begin : ℕ) (z : List ℕ) → (innermost_stop free ls position z ≡ None → Free st (head_opens begin z ls).atoms)
      → innermost_stop (barring (innermost st)) ls position z ≡ innermost_stop free ls position z
  place_alike [] position begin z h = refl
  place_alike (inner ∷ outer) position begin z h = after_alike _ _ _ (Free st (head_opens begin z (inner ∷ outer)).atoms) (head_alike inner outer position begin z) h

  settled_free : (position : ℕ) (o : Opened) (left : ℕ) → Free st (settled position o left).1 → Free st o.atoms
  settled_free position o zero h = free_left st o.atoms (full_closed position o.levels).1 h
  settled_free position o (suc n) h = h

  read_free : (r : Reading) (z : List ℕ) (stop : Option Stop) → Free st (head_read r z stop).1 → stop ≡ None → Free st (head_opens (r.position + length z) z r.levels).atoms
  read_free r z None h e = let o = head_opens (r.position + length z) z r.levels in settled_free (r.position + length z) o o.left h
  read_free r z (Some stop) h e = absurd (cc)

  byte_alike : (r : Reading) (b : ℕ) (halt : Option Stop) (within : Bool) (n : ℕ) → Free st (byte_read free r b halt within n).1 → byte_read (barring (innermost st)) r b halt within n ≡ byte_read free r b halt within n
  byte_alike r b (Some stop) within n h = refl
  byte_alike r b None false n h = refl
  byte_alike r b None true (suc n) h = refl
  byte_alike r b None true zero h =
      let z : List ℕ = r.head ++ b ∷ [] in
      ap (head_read r z) (place_alike r.levels r.position (r.position + length z) z (read_free r z (innermost_stop free r.levels r.position z) h))

-- ---- all bytes

abbrev none : List Atom → HeadBar
none atoms = free

none_bars : BarsAs none no_bar
none_bars = record { agree = λ f atoms shows tag vr declared. refl; never_early = λ f tag vr declared. refl }

free_before : (bars : List Atom → HeadBar) (bytes : List ℕ) (r : Reading) (atoms : List Atom) → Free (None ∷ []) (fold (reads_byte bars) (r, atoms) bytes).1 → Free (None ∷ []) atoms
free_before bars [] r atoms h = h
free_before bars (b ∷ bytes) r atoms h =
    let q = read_byte (bars atoms) r b in
    free_left (None ∷ []) atoms q.1 (free_before bars bytes q.0 (atoms ++ q.1) h)

read_alike : (atoms : List Atom) (r : Reading) (b : ℕ) → Free (fold reached_after (None ∷ []) atoms) (read_byte free r b).1 → read_byte (identity atoms) r b ≡ read_byte free r b
unfolding read_byte
read_alike atoms r b h = byte_alike (fold reached_after (None ∷ []) atoms) r b r.halt (nat_lt (r.position + length r.head) INPUT_LIMIT) r.left h

all_alike : (bytes : List ℕ) (r : Reading) (atoms : List Atom) → Free (None ∷ []) (fold (reads_byte none) (r, atoms) bytes).1 → fold (reads_byte identity) (r, atoms) bytes ≡ fold (reads_byte none) (r, atoms) bytes
all_alike [] r atoms h = refl
all_alike (b ∷ bytes) r atoms h =
    let q = read_byte free r b in
    let same : read_byte (identity atoms) r b ≡ q = read_alike atoms r b (free_right (None ∷ []) atoms q.1 (free_before none bytes q.0 (atoms ++ q.1) h)) in
    ap (λ (x : Reading × List Atom). fold (reads_byte identity) (x.0, atoms ++ x.1) bytes) same ∙ all_alike bytes q.0 (atoms ++ q.1) h

-- ---- a whole input

pub identity_reads : (s : Syntax) (start : ℕ) (bytes : List ℕ) (x : Trees) → start ≤ INPUT_LIMIT → Passes None x → Reads (target_bar s) s start bytes (whole_front x) complete → Reads identity_bar s start bytes (whole_front x) complete
identity_reads s start bytes x le a reads =
    let plain = read_all none s start bytes in
    let p = answers none no_bar none_bars s start bytes le in
    let one = reads_once (target_bar s) s start bytes p.f (whole_front x) (finish plain.0) complete (own_reads s start bytes p.f (finish plain.0) p.reads) reads in
    let shown : plain.1 ++ end_shows (finish plain.0) ≡ front_atoms s (whole_front x) = p.shown ∙ ap (front_atoms s) one.0 in
    let free_all : Free (None ∷ []) plain.1 = free_left (None ∷ []) plain.1 (end_shows (finish plain.0)) (subst (λ (y : List Atom). Free (None ∷ []) y) (sym shown) (whole_free s x a)) in
    let same : read_all identity s start bytes ≡ plain = all_alike bytes (start_of s start) [] free_all in
    let q = answers identity identity_bar identity_in_order.same s start bytes le in
    let ends_well : finish (read_all identity s start bytes).0 ≡ complete = ap (λ (y : Reading × List Atom). finish y.0) same ∙ one.1 in
    let done : Reads identity_bar s start bytes q.f complete = subst (λ (y : Stop). Reads identity_bar s start bytes q.f y) ends_well q.reads in
    let again : Reads (target_bar s) s start bytes q.f complete = own_reads s start bytes q.f complete (not_barred identity_bar s start bytes q.f done) in
    subst (λ (y : Front). Reads identity_bar s start bytes y complete) (reads_once (target_bar s) s start bytes q.f (whole_front x) complete complete again reads).0 done
