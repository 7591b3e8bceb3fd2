-- What was read without fault has room in a target syntax.
use Rattle.std.proofs.Common.{◌≡◌, ◌∙◌, ◌≢◌, ap, sym, refl, subst, ℕ, zero, suc, ◌≤◌, ◌<◌, List, [], ◌∷◌, ◌++◌, length, drop, map, Some, None, Bool, true, false, cond, arith}
use Rattle.std.specs.Prelude.{◌==◌, slice_index}
use Rattle.std.proofs.lemmas.Bool.{eqb-false}
use Rattle.dcm_base.proofs.DumpsBack.Parts.{Bytes-drop}
use Rattle.dcm_base.specs.Reading.Place.{is_data}
use Rattle.dcm_base.specs.declared.tag.Tag.{Tag}
use Rattle.dcm_base.specs.declared.vr.Vr.{Vr}
use Rattle.dcm_base.specs.declared.vr.Vr.TheVariants.{SQ, UN, OB, OW}
use Rattle.dcm_base.specs.declared.syntax.Syntax.{Syntax}
use Rattle.dcm_base.specs.declared.syntax.Syntax.TheVariants.{Implicit as implicit_in, Little as little_in, Big as big_in}
use Rattle.dcm_base.specs.Tables.Syntax.{Little}
use Rattle.dcm_base.specs.declared.fault.Fault.{Fault}
use Rattle.dcm_base.specs.declared.fault.Fault.TheVariants.{FragmentsBarred}
use Rattle.dcm_base.specs.declared.length.Length.{Length}
use Rattle.dcm_base.specs.declared.length.Length.TheVariants.{Known, Undefined}
use Rattle.dcm_base.specs.declared.form.Form.{Form}
use Rattle.dcm_base.specs.declared.form.Form.TheVariants.{Value as a_value, Sequence as a_sequence, FragmentList as a_fragment_list}
use Rattle.dcm_base.specs.Tree.Tree.{Trees, no_tree, leaf, sequence, fragments, Items, no_item, item}
use Rattle.dcm_base.specs.Tables.Number.{number, IsTag}
use Rattle.dcm_base.specs.Tables.Tag.{item_end_tag, sequence_end_tag}
use Rattle.dcm_base.specs.Tables.Dictionary.{vr_in}
use Rattle.dcm_base.specs.Tables.Representation.{is_long}
use Rattle.dcm_base.specs.Tree.Value.{order}
use Rattle.dcm_base.specs.Bytes.Head.{ElementHead, tag_at, length_at, long_length, head_size}
use Rattle.dcm_base.specs.Bytes.Spelling.{form, inside, Enclosed, FragmentsAt, TreesAt, ItemsAt, read_as, after}
use Rattle.dcm_base.specs.Reading.Stop.{HeadBar, opens_list}
use Rattle.dcm_base.specs.Reading.Bars.{is_fragment_form, holds_fragments}
use Rattle.dcm_base.specs.Conversion.Recode.{even, too_long}
use Rattle.dcm_base.specs.Conversion.Normal.{normal_vr, normal_sequence_vr, TellsValue, TellsSequence, FitsTarget, ItemsFit}
use Rattle.dcm_base.specs.Steps.Atoms.{Atom, opens, value_byte, closes_leaf, closes_item, closes_sequence, fragments_then, trees_then, items_then}
use Rattle.dcm_base.proofs.DumpsBack.Texts.{Bytes}
use Rattle.dcm_sinks.specs.Laws.{lists_behind, StaysShallow}
use Rattle.dcm_sinks.proofs.Dumps.OpenLists.{stays_on}
use Rattle.dcm_sinks.proofs.ReadBack.Accepted.{Accepted, AllAccepted}
use Rattle.dcm_sinks.proofs.ReadBack.HasRoom.{AreShort, Ready, ReadyItems}
use Rattle.dcm_sinks.proofs.ReadBack.WrittenRead.{target_heads}
use Rattle.dcm_base.proofs.DataSets.Alike.{read_sequence, undefined_same}

-- ---- bytes

pub bytes_parts : (x y : List ℕ) → Bytes (x ++ y) → Bytes x × Bytes y
bytes_parts [] y h = (tt, h)
bytes_parts (b ∷ x) y h = let k = bytes_parts x y h.1 in ((h.0, k.0), k.1)

pub a_byte : (b : List ℕ) (i : ℕ) → Bytes b → slice_index b i < 256
a_byte [] zero h = omega arith
a_byte [] (suc i) h = omega arith
a_byte (x ∷ b) zero h = h.0
a_byte (x ∷ b) (suc i) h = a_byte b i h.1

two_bytes : (s : Syntax) (b : List ℕ) → Bytes b → number s 2 b < 65536
two_bytes (implicit_in d) b h = let x = a_byte b 0 h in let y = a_byte b 1 h in omega (arith, x, y)
two_bytes (little_in d) b h = let x = a_byte b 0 h in let y = a_byte b 1 h in omega (arith, x, y)
two_bytes (big_in d) b h = let x = a_byte b 0 h in let y = a_byte b 1 h in omega (arith, x, y)

pub four_bytes : (s : Syntax) (b : List ℕ) → Bytes b → number s 4 b < 4294967296
four_bytes (implicit_in d) b h = let x = a_byte b 0 h in let y = a_byte b 1 h in let z = a_byte b 2 h in let w = a_byte b 3 h in omega (arith, x, y, z, w)
four_bytes (little_in d) b h = let x = a_byte b 0 h in let y = a_byte b 1 h in let z = a_byte b 2 h in let w = a_byte b 3 h in omega (arith, x, y, z, w)
four_bytes (big_in d) b h = let x = a_byte b 0 h in let y = a_byte b 1 h in let z = a_byte b 2 h in let w = a_byte b 3 h in omega (arith, x, y, z, w)

tag_of_bytes : (s : Syntax) (b : List ℕ) → Bytes b → IsTag (tag_at s b)
tag_of_bytes s b h = (two_bytes s b h, two_bytes s (drop 2 b) (Bytes-drop 2 b h))

long_by : (n m : ℕ) (e : Bool) → (n == 0xFFFFFFFF) ≡ e → n < 4294967296 → Known m ≡ cond e Undefined (Known n) → m < 0xFFFFFFFF
long_by n m true e h k = absurd (cc)
long_by n m false e h k = let ne : n ≢ 0xFFFFFFFF = eqb-false n 0xFFFFFFFF e in let same : m ≡ n = cc in omega (arith, ne, h, same)

pub long_known : (n m : ℕ) → n < 4294967296 → Known m ≡ long_length n → m < 0xFFFFFFFF
long_known n m h k = long_by n m (n == 0xFFFFFFFF) refl h k

short_known : (n m : ℕ) → n < 65536 → Known m ≡ Known n → m < 0xFFFFFFFF
short_known n m h k = let same : m ≡ n = cc in omega (arith, h, same)

explicit_known : (s : Syntax) (long : Bool) (b : List ℕ) (m : ℕ) → Bytes b → Known m ≡ cond long (long_length (number s 4 (drop 8 b))) (Known (number s 2 (drop 6 b))) → m < 0xFFFFFFFF
explicit_known s true b m h e = long_known (number s 4 (drop 8 b)) m (four_bytes s (drop 8 b) (Bytes-drop 8 b h)) e
explicit_known s false b m h e = short_known (number s 2 (drop 6 b)) m (two_bytes s (drop 6 b) (Bytes-drop 6 b h)) e

pub length_known : (s : Syntax) (vr : Vr) (b : List ℕ) (m : ℕ) → Bytes b → Known m ≡ length_at s vr b → m < 0xFFFFFFFF
unfolding length_at
length_known (implicit_in d) vr b m h e = long_known (number (implicit_in d) 4 (drop 4 b)) m (four_bytes (implicit_in d) (drop 4 b) (Bytes-drop 4 b h)) e
length_known (little_in d) vr b m h e = explicit_known (little_in d) (is_long vr) b m h e
length_known (big_in d) vr b m h e = explicit_known (big_in d) (is_long vr) b m h e

pub bytes_of_head : (s : Syntax) (t : Tag) (vr : Vr) (l : Length) (b c : List ℕ) → ElementHead s t vr l b c → Bytes b → Bytes c
bytes_of_head s t vr l b c h k = subst Bytes (sym h.after_is) (Bytes-drop (head_size s vr) b k)

-- ---- forms

value_of : (s : Syntax) (vr : Vr) (n m : ℕ) → vr ≢ SQ → form s vr (Known m) ≡ a_value
unfolding form
value_of s SQ n m h = absurd (h refl)
value_of s vr n m h = refl

pub no_sequence : (s : Syntax) (vr : Vr) (n : ℕ) → form s vr (Known n) ≡ a_value → vr ≢ SQ
unfolding form
no_sequence s SQ n e = absurd (cc)
no_sequence s vr n e = λ k. cc

explicit_value : (s : Syntax) (vr : Vr) (m : ℕ) (c : Bool) → vr ≢ SQ → form s (cond c UN vr) (Known m) ≡ a_value
unfolding form
explicit_value s vr m true h = refl
explicit_value s vr m false h = value_of s vr m m h

-- what is read as a value is no SQ
pub spelled_no_sequence : (s : Syntax) (t : Tag) (vr : Vr) (n : ℕ) → form s (read_as s t vr) (Known n) ≡ a_value → vr ≢ SQ
spelled_no_sequence s t vr n fo = λ k. no_sequence s (read_as s t vr) n fo (ap (read_as s t) k ∙ read_sequence s t)

pub target_value : (target s : Syntax) (t : Tag) (vr : Vr) (n : ℕ) → form s (read_as s t vr) (Known n) ≡ a_value → TellsValue target t vr n → form target (read_as target t (normal_vr target t vr n)) (Known (even n)) ≡ a_value
target_value (implicit_in d) s t vr n fo tells = value_of (implicit_in d) (vr_in d t) n (even n) tells
target_value (little_in d) s t vr n fo tells = ap (λ (v : Vr). form (little_in d) v (Known (even n))) tells ∙ explicit_value (little_in d) vr (even n) (too_long (little_in d) vr n) (spelled_no_sequence s t vr n fo)
target_value (big_in d) s t vr n fo tells = ap (λ (v : Vr). form (big_in d) v (Known (even n))) tells ∙ explicit_value (big_in d) vr (even n) (too_long (big_in d) vr n) (spelled_no_sequence s t vr n fo)

pub target_sequence : (target : Syntax) (t : Tag) → TellsSequence target t → form target (normal_sequence_vr target t) Undefined ≡ a_sequence
unfolding form
target_sequence (implicit_in d) t tells = tells
target_sequence (little_in d) t tells = refl
target_sequence (big_in d) t tells = refl

pub fragments_little : (s : Syntax) (vr : Vr) → form s vr Undefined ≡ a_fragment_list → (holds_fragments s ≡ true) × (is_fragment_form (form Little vr Undefined) ≡ true)
unfolding form
fragments_little s SQ e = absurd (cc)
fragments_little s UN e = absurd (cc)
fragments_little (little_in d) OB e = (refl, refl)
fragments_little (little_in d) OW e = (refl, refl)
fragments_little s vr e = absurd (cc)

fragments_form : (s target : Syntax) (vr : Vr) → holds_fragments s ≡ true → holds_fragments target ≡ true → form s vr Undefined ≡ a_fragment_list → form target vr Undefined ≡ a_fragment_list
unfolding form
fragments_form (implicit_in d) target vr h k f = absurd cc
fragments_form (big_in d) target vr h k f = absurd cc
fragments_form s (implicit_in e) vr h k f = absurd cc
fragments_form s (big_in e) vr h k f = absurd cc
fragments_form (little_in d) (little_in e) OB h k f = refl
fragments_form (little_in d) (little_in e) OW h k f = refl
fragments_form (little_in d) (little_in e) SQ h k f = absurd cc
fragments_form (little_in d) (little_in e) UN h k f = absurd cc
fragments_form (little_in d) (little_in e) vr h k f = f

some_barred : (c : Bool) (fault : Fault) → c ≡ true → cond c (Some fault) None ≡ None → ⊥
some_barred true fault h e = cc
some_barred false fault h e = cc

target_little : (target : Syntax) (t : Tag) (vr : Vr) → is_fragment_form (form Little vr Undefined) ≡ true → target_heads target t vr Undefined ≡ None → holds_fragments target ≡ true
target_little (little_in d) t vr h e = refl
target_little (implicit_in d) t vr h e = absurd (some_barred (is_fragment_form (form Little vr Undefined)) FragmentsBarred h e)
target_little (big_in d) t vr h e = absurd (some_barred (is_fragment_form (form Little vr Undefined)) FragmentsBarred h e)

-- ---- atoms

-- each is accepted, and no more than 64 sequences and fragment lists are open behind it
abbrev pub Fine : HeadBar → ℕ → List Atom → Type 0
Fine bar n [] = Unit {0}
Fine bar n (a ∷ atoms) = Accepted bar a × (lists_behind n a ≤ 64) × Fine bar (lists_behind n a) atoms

pub all_fine : (bar : HeadBar) (n : ℕ) (atoms : List Atom) → AllAccepted bar atoms → StaysShallow n atoms → Fine bar n atoms
all_fine bar n [] h k = tt
all_fine bar n (a ∷ atoms) h k = (h.0, k (a ∷ []) atoms refl, all_fine bar (lists_behind n a) atoms h.1 (stays_on n a atoms k))

pub fine_bytes : (bar : HeadBar) (n : ℕ) (v : List ℕ) (others : List Atom) → Fine bar n (map value_byte v ++ others) → Fine bar n others
fine_bytes bar n [] others h = h
fine_bytes bar n (b ∷ v) others h = fine_bytes bar n v others h.2

pub lists_of : (n : ℕ) (f : Form) (t : Tag) (vr : Vr) (l : Length) (s : Syntax) → form s (read_as s t vr) l ≡ f → lists_behind n (opens t vr l s) ≡ cond (opens_list f) (suc n) n
lists_of n f t vr l s e = ap (λ (g : Form). cond (opens_list g) (suc n) n) e

-- behind a head
pub record GoesInto (bar : HeadBar) (n m : ℕ) (t : Tag) (vr : Vr) (l : Length) (atoms : List Atom) : Type 0 where
  pub accepted : (is_data t ≡ true) × (bar t vr l ≡ None)
  pub few : m ≤ 64
  pub more : Fine bar m atoms

pub begun : (bar : HeadBar) (n m : ℕ) (t : Tag) (vr : Vr) (l : Length) (s : Syntax) (atoms : List Atom) → lists_behind n (opens t vr l s) ≡ m → Fine bar n (opens t vr l s ∷ atoms) → GoesInto bar n m t vr l atoms
begun bar n m t vr l s atoms e h = record { accepted = h.0; few = subst (λ (k : ℕ). k ≤ 64) e h.1; more = subst (λ (k : ℕ). Fine bar k atoms) e h.2 }

-- ---- trees

pub enclosed_ready : (s : Syntax) (end_tag : Tag) (declared : Length) (R : List ℕ → List ℕ → Type 0) (c e : List ℕ) (P : Type 0) → Bytes c → ((b p : List ℕ) → Bytes b → R b p → P × Bytes p) → Enclosed s end_tag declared R c e → P × Bytes e
enclosed_ready s end_tag (Known size) R c e P h ready (i, ci, li, r) =
    let k = bytes_parts i e (subst Bytes ci h) in
    ((ready i [] k.0 r).0, k.1)
enclosed_ready s end_tag Undefined R c e P h ready (d, r, x) =
    let k = ready c d h r in
    (k.0, subst Bytes (sym x.after_is) (Bytes-drop 8 d k.1))

fragments_ready : (s : Syntax) (values : List (List ℕ)) (b p : List ℕ) (bar : HeadBar) (n : ℕ) (others : List Atom) → FragmentsAt s values b p → Bytes b → Fine bar n (fragments_then values others) → (AreShort values × Fine bar n others) × Bytes p
unfolding FragmentsAt fragments_then
fragments_ready s [] b p bar n others h k f = ((tt, f), subst Bytes h k)
fragments_ready s (v ∷ values) b p bar n others (o, head, more) k f =
    let behind : Bytes (v ++ o) = subst Bytes (sym head.after_is) (Bytes-drop 8 b k) in
    let rest = fragments_ready s values o p bar n others more (bytes_parts v o behind).1 (fine_bytes bar n v (closes_leaf ∷ fragments_then values others) f.2).2 in
    (((long_known (number s 4 (drop 4 b)) (length v) (four_bytes s (drop 4 b) (Bytes-drop 4 b k)) head.length_is, rest.0.0), rest.0.1), rest.1)

pub element_tag : (s : Syntax) (t : Tag) (vr : Vr) (l : Length) (b c : List ℕ) → ElementHead s t vr l b c → Bytes b → IsTag t
element_tag s t vr l b c h k = subst IsTag (sym h.tag_is) (tag_of_bytes s b k)

mutual
  unfolding TreesAt trees_then Ready FitsTarget

  pub trees_ready : (target s : Syntax) (n : ℕ) (x : Trees) (b p : List ℕ) (others : List Atom) → TreesAt s x b p → Bytes b → Fine (target_heads target) n (trees_then s x others)
      → ((FitsTarget target x → Ready target n x) × Fine (target_heads target) n others) × Bytes p
  trees_ready target s n no_tree b p others h k f = ((λ fits. tt, f), subst Bytes h k)
  trees_ready target s n (leaf t vr v rest) b p others (o, fo, head, more) k f =
      let bar : HeadBar = target_heads target in
      let g = begun bar n n t vr (Known (length v)) s (map value_byte (order s vr v) ++ closes_leaf ∷ trees_then (after s t vr v) rest others) (lists_of n a_value t vr (Known (length v)) s fo) f in
      let behind = bytes_parts (order s vr v) o (bytes_of_head s t vr (Known (length v)) b (order s vr v ++ o) head k) in
      let later = trees_ready target (after s t vr v) n rest o p others more behind.1 (fine_bytes bar n (order s vr v) (closes_leaf ∷ trees_then (after s t vr v) rest others) g.more).2 in (
        (
          λ fits. (λ e. ((element_tag s t vr (Known (length v)) b (order s vr v ++ o) head k, g.accepted.0), length_known s vr b (length v) k head.length_is, target_value target s t vr (length v) fo (fits.0 e)), later.0.0 fits.1),
          later.0.1,
        ),
        later.1,
      )
  trees_ready target s n (sequence t vr declared items rest) b p others (contents, o, fo, head, inner, more) k f =
      let bar : HeadBar = target_heads target in
      let g = begun bar n (suc n) t vr declared s (items_then (inside s vr) items (closes_sequence ∷ trees_then s rest others)) (lists_of n a_sequence t vr declared s fo) f in
      let held = enclosed_ready (inside s vr) sequence_end_tag declared (ItemsAt (inside s vr) items) contents o ((ItemsFit target items → ReadyItems target (suc n) items) × Fine bar (suc n) (closes_sequence ∷ trees_then s rest others))
      (bytes_of_head s t vr declared b contents head k)
      (λ c d kc r. items_ready target (inside s vr) (suc n) items c d (closes_sequence ∷ trees_then s rest others) r kc g.more) inner in
      let after = trees_ready target s n rest o p others more held.1 held.0.1.2 in
      let few = g.few in (
        (
          λ fits. (λ e. ((element_tag s t vr declared b contents head k, g.accepted.0), omega (arith, few), target_sequence target t (fits.0 e).0, held.0.0 (fits.0 e).1), after.0.0 fits.1),
          after.0.1,
        ),
        after.1,
      )
  trees_ready target s n (fragments t vr values rest) b p others (contents, o, fo, head, inner, more) k f =
      let bar : HeadBar = target_heads target in
      let g = begun bar n (suc n) t vr Undefined s (fragments_then values (closes_sequence ∷ trees_then s rest others)) (lists_of n a_fragment_list t vr Undefined s fo) f in
      let fo' = sym (undefined_same s t vr) ∙ fo in
      let two = fragments_little s vr fo' in
      let little : holds_fragments target ≡ true = target_little target t vr two.1 g.accepted.1 in
      let held = enclosed_ready s sequence_end_tag Undefined (FragmentsAt s values) contents o (AreShort values × Fine bar (suc n) (closes_sequence ∷ trees_then s rest others)) (bytes_of_head s t vr Undefined b contents head k)
      (λ c d kc r. fragments_ready s values c d bar (suc n) (closes_sequence ∷ trees_then s rest others) r kc g.more) inner in
      let after = trees_ready target s n rest o p others more held.1 held.0.1.2 in
      let few = g.few in (
        (
          λ fits. (λ e. ((element_tag s t vr Undefined b contents head k, g.accepted.0), omega (arith, few), little, fragments_form s target vr two.0 little fo', held.0.0), after.0.0 fits),
          after.0.1,
        ),
        after.1,
      )

  pub items_ready : (target s : Syntax) (n : ℕ) (x : Items) (b p : List ℕ) (others : List Atom) → ItemsAt s x b p → Bytes b → Fine (target_heads target) n (items_then s x others)
      → ((ItemsFit target x → ReadyItems target n x) × Fine (target_heads target) n others) × Bytes p
  items_ready target s n no_item b p others h k f = ((λ fits. tt, f), subst Bytes h k)
  items_ready target s n (item declared set rest) b p others (contents, o, head, inner, more) k f =
      let bar : HeadBar = target_heads target in
      let held = enclosed_ready s item_end_tag declared (TreesAt s set) contents o ((FitsTarget target set → Ready target n set) × Fine bar n (closes_item ∷ items_then s rest others)) (subst Bytes (sym head.after_is) (Bytes-drop 8 b k))
      (λ c d kc r. trees_ready target s n set c d (closes_item ∷ items_then s rest others) r kc f.2) inner in
      let after = items_ready target s n rest o p others more held.1 held.0.1.2 in
      ((λ fits. (held.0.0 fits.0, after.0.0 fits.1), after.0.1), after.1)
