-- A file that is read without fault can be built from its full dump.
use Rattle.std.proofs.Common.{◌≡◌, ◌≢◌, ◌∙◌, ap, sym, refl, subst, ℕ, zero, suc, ◌+◌, ◌/◌, ◌%◌, ◌≤◌, ◌<◌, List, [], ◌∷◌, ◌++◌, length, take, drop, map, flat_map, reverse, Some, None, Bool, true, false, ◌&&◌, not, cond, Result, Ok, Err, inl, inr, ◌⊎◌, arith}
use Rattle.std.specs.Prelude.{◌==◌}
use Rattle.std.specs.Result.{result_ok}
use Rattle.dcm_base.specs.declared.tag.Tag.{Tag}
use Rattle.dcm_base.specs.declared.vr.Vr.{Vr}
use Rattle.dcm_base.specs.declared.vr.Vr.TheVariants.{SQ, UN, OB, OW}
use Rattle.dcm_base.specs.declared.syntax.Coding.{Coding}
use Rattle.dcm_base.specs.declared.syntax.Syntax.{Syntax}
use Rattle.dcm_base.specs.declared.syntax.Syntax.TheVariants.{Implicit as implicit_in, Little as little_in, Big as big_in}
use Rattle.dcm_base.specs.Tables.Syntax.{Little, read_by, dictionary_of}
use Rattle.dcm_base.specs.declared.transfer.Deflated.{Deflated as DeflatedSyntax}
use Rattle.dcm_base.specs.declared.length.Length.{Length}
use Rattle.dcm_base.specs.declared.length.Length.TheVariants.{Known, Undefined}
use Rattle.dcm_base.specs.declared.form.Form.TheVariants.{Value as a_value, Sequence as a_sequence, FragmentList as a_fragment_list}
use Rattle.dcm_base.specs.Tree.Tree.{Trees, no_tree, leaf, sequence, fragments, Items, no_item, item}
use Rattle.dcm_base.specs.Tables.Number.{number, AreBytes, HasLength}
use Rattle.dcm_base.specs.Tables.Tag.{is_tag, item_end_tag, sequence_end_tag}
use Rattle.dcm_base.specs.Tables.Representation.{is_sequence, unit}
use Rattle.dcm_base.specs.Dump.ValueText.{shown_unit}
use Rattle.dcm_base.specs.Tree.Value.{pieces, order}
use Rattle.dcm_base.specs.Bytes.Head.{length_at, long_length}
use Rattle.dcm_base.specs.Reading.Reads.{INPUT_LIMIT}
use Rattle.dcm_base.specs.Reading.Size.{trees_size}
use Rattle.dcm_base.specs.Bytes.Spelling.{form, inside, FragmentsAt, TreesAt, ItemsAt, read_as, read_in, after, dictionary_after}
use Rattle.dcm_base.specs.Reading.Place.{is_data}
use Rattle.dcm_base.specs.Reading.Stop.{HeadBar}
use Rattle.dcm_base.specs.Tables.Transfer.{is_pad, before_pads, without_pads, coding_of}
use Rattle.dcm_base.specs.File.MetaGroup.{META_LIMIT, AreMeta, GroupPlace, an_element, the_end, too_few, a_fault}
use Rattle.dcm_base.specs.File.MetaReads.{PREFIX, Meta, MetaAnswer, MetaReads, begins, coded, named, answer_behind, syntax_value, too_short, no_prefix, with_group}
use Rattle.dcm_base.specs.Steps.Atoms.{Atom, ends, value_byte, closes_leaf, closes_item, closes_sequence, fragments_then, trees_then, items_then}
use Rattle.dcm_base.specs.Conversion.Normal.{whole_front}
use Rattle.dcm_base.specs.Lines.Ascending.{Ascend}
use Rattle.dcm_base.specs.Lines.Line.{may_be_sequence, may_be_fragments}
use Rattle.dcm_base.specs.Lines.Build.{usable, named_syntax, named_coding}
use Rattle.dcm_base.proofs.DumpsBack.Numbers.{Bytes-append, Bytes-reverse}
use Rattle.dcm_base.proofs.Conversions.Order.{order_twice}
use Rattle.dcm_base.proofs.DumpsBack.Parts.{Bytes-take, Bytes-drop, Bytes-drop as bytes_behind}
use Rattle.dcm_base.proofs.DataSets.Sizes.{trees_take}
use Rattle.dcm_base.proofs.DumpsBack.Texts.{Bytes, bytes_of}
use Rattle.dcm_base.specs.declared.dictionary.Dictionary.{Dictionary}
use Rattle.dcm_base.specs.declared.dictionary.Dictionary.TheVariants.{Extract, Standard, Signed}
use Rattle.dcm_base.specs.Reading.Bars.{holds_fragments}
use Rattle.dcm_base_laws.proofs.DataSets.ImplicitLengths.{is_no_sequence}
use Rattle.dcm_sinks.proofs.ReadBack.RecodeReads.{source_whole, source_fine}
use Rattle.dcm_sinks.proofs.ReadBack.Sources.{bytes_parts, a_byte, four_bytes, long_known, length_known, bytes_of_head, spelled_no_sequence, fragments_little, Fine, fine_bytes, lists_of, begun, enclosed_ready, element_tag}
use Rattle.dcm_sinks.proofs.ReadBack.WrittenRead.{target_heads}
use Rattle.dcm_build_laws.specs.DumpBuilds.{full_dump, CanBuild, FitsLines, BuildsFile, FileRead, WholeUnits, ItemsOfWholeUnits}
use Rattle.dcm_base.specs.Lines.Limits.{LINE_LIMIT}
use Rattle.dcm_build_laws.specs.DumpLines.{ReadsBack, AllReadBack, SetReadsBack, ItemsReadBack}
use Rattle.dcm_build_laws.specs.StepsBuild.{MayStand, ItemsMayStand}
use Rattle.dcm_build_laws.proofs.Rebuilds.DumpBuilds.{dump_builds}
use Rattle.dcm_base.proofs.DataSets.Alike.{undefined_same}
use Rattle.dcm_base.proofs.DataSets.After.{read_by_twice}

-- ---- bytes

are_bytes : (v : List ℕ) → Bytes v → AreBytes v
are_bytes v h = λ i. a_byte v i h

pieces_bytes : (n k : ℕ) (v : List ℕ) → Bytes v → Bytes (flat_map reverse (pieces n k v))
pieces_bytes zero k v h = tt
pieces_bytes (suc n) k v h = Bytes-append (reverse (take k v)) (flat_map reverse (pieces n k (drop k v))) (Bytes-reverse (take k v) (Bytes-take k v h)) (pieces_bytes n k (drop k v) (Bytes-drop k v h))

order_bytes : (s : Syntax) (vr : Vr) (v : List ℕ) → Bytes v → Bytes (order s vr v)
order_bytes (implicit_in d) vr v h = h
order_bytes (little_in d) vr v h = h
order_bytes (big_in d) vr v h = Bytes-append _ _ (pieces_bytes (length v / unit vr) (unit vr) v h) (Bytes-drop _ v h)

value_bytes : (s : Syntax) (vr : Vr) (v : List ℕ) → Bytes (order s vr v) → Bytes v
value_bytes s vr v h = subst Bytes (order_twice s vr v) (order_bytes s vr (order s vr v) h)

-- ---- heads

neither : (a b : Bool) → (not a && not b) ≡ true → (a ≡ false) × (b ≡ false)
neither false false h = (refl, refl)
neither a b h = absurd (cc)

data_group : (t : Tag) → is_data t ≡ true → (t.group ≢ 0xFFFE) × (t.group ≢ 2)
data_group t h =
    let k = neither (t.group == 0xFFFE) (t.group == 2) h in (
      λ e. (let f : (t.group == 0xFFFE) ≡ true = ap (λ (g : ℕ). g == 0xFFFE) e in let no = k.0 in cc),
      λ e. (let f : (t.group == 2) ≡ true = ap (λ (g : ℕ). g == 2) e in let no = k.1 in cc),
    )

sequence_vr : (s : Syntax) (vr : Vr) (l : Length) → form s vr l ≡ a_sequence → may_be_sequence vr ≡ true
unfolding form
sequence_vr s SQ l e = refl
sequence_vr s UN l e = refl
sequence_vr s vr (Known n) e = absurd (cc)
sequence_vr (little_in d) OB Undefined e = absurd (cc)
sequence_vr (little_in d) OW Undefined e = absurd (cc)
sequence_vr s vr Undefined e = absurd (cc)

read_sequence_vr : (s : Syntax) (d : Dictionary) (t : Tag) (vr : Vr) (l : Length) → form s (read_in d t vr) l ≡ a_sequence → may_be_sequence vr ≡ true
read_sequence_vr s Extract t vr l e = sequence_vr s vr l e
read_sequence_vr s Standard t UN l e = refl
read_sequence_vr s Standard t vr l e = sequence_vr s vr l e
read_sequence_vr s Signed t UN l e = refl
read_sequence_vr s Signed t vr l e = sequence_vr s vr l e

spelled_sequence : (s : Syntax) (t : Tag) (vr : Vr) (l : Length) → form s (read_as s t vr) l ≡ a_sequence → may_be_sequence vr ≡ true
spelled_sequence (implicit_in d) t vr l e = sequence_vr (implicit_in d) vr l e
spelled_sequence (little_in d) t vr l e = read_sequence_vr (little_in d) d t vr l e
spelled_sequence (big_in d) t vr l e = read_sequence_vr (big_in d) d t vr l e

fragments_vr : (s : Syntax) (vr : Vr) → form s vr Undefined ≡ a_fragment_list → may_be_fragments vr ≡ true
unfolding form
fragments_vr s SQ e = absurd (cc)
fragments_vr s UN e = absurd (cc)
fragments_vr (little_in d) OB e = refl
fragments_vr (little_in d) OW e = refl
fragments_vr s vr e = absurd (cc)

declared_length : (s : Syntax) (vr : Vr) (b : List ℕ) (l : Length) → Bytes b → l ≡ length_at s vr b → HasLength l
declared_length s vr b (Known n) h e = let k = length_known s vr b n h e in omega (arith, k)
declared_length s vr b Undefined h e = tt

item_length : (s : Syntax) (b : List ℕ) (l : Length) → Bytes b → l ≡ long_length (number s 4 (drop 4 b)) → HasLength l
item_length s b (Known n) h e = let k = long_known (number s 4 (drop 4 b)) n (four_bytes s (drop 4 b) (bytes_behind 4 b h)) e in omega (arith, k)
item_length s b Undefined h e = tt

reads_back : (vr : Vr) (v : List ℕ) → is_sequence vr ≡ false → Bytes v → length v < 0xFFFFFFFF → length v % shown_unit vr ≡ 0 → ReadsBack vr v
reads_back vr v plain h l w = record { no_sequence = plain; bytes = are_bytes v h; size = omega (arith, l); units = w }

of_bytes : (v : List ℕ) → length v % shown_unit OB ≡ 0
of_bytes v = omega arith

-- ---- data sets

holds_alike : (d : Dictionary) (s : Syntax) → holds_fragments (read_by d s) ≡ holds_fragments s
holds_alike d (implicit_in e) = refl
holds_alike d (little_in e) = refl
holds_alike d (big_in e) = refl

module _ (d : Dictionary) (coding : Coding) where
  -- the syntax of a data set, or of what an unknown sequence holds
  abbrev Right : Syntax → Type 0
  Right s = ((e : Dictionary) × (s ≡ read_by e coding.syntax)) ⊎ (holds_fragments s ≡ false)

  right_inside : (s : Syntax) (vr : Vr) → Right s → Right (inside s vr)
  unfolding inside
  right_inside s UN r = inr refl
  right_inside s vr r = r

  holds_read_by : (e : Dictionary) (s : Syntax) → holds_fragments s ≡ false → holds_fragments (read_by e s) ≡ false
  holds_read_by e (implicit_in f) h = refl
  holds_read_by e (little_in f) h = absurd cc
  holds_read_by e (big_in f) h = refl

  right_after : (s : Syntax) (t : Tag) (vr : Vr) (v : List ℕ) → Right s → Right (after s t vr v)
  right_after s t vr v (inl (e, is)) = let k = dictionary_after (dictionary_of s) t vr v in inl (k, ap (read_by k) is ∙ read_by_twice k e coding.syntax)
  right_after s t vr v (inr h) = inr (holds_read_by (dictionary_after (dictionary_of s) t vr v) s h)

  right_little : (s : Syntax) → Right s → holds_fragments s ≡ true → holds_fragments coding.syntax ≡ true
  right_little s (inl (e, is)) l = sym (holds_alike e coding.syntax) ∙ ap holds_fragments (sym is) ∙ l
  right_little s (inr e) l = absurd cc

  fragments_can : (s : Syntax) (values : List (List ℕ)) (b p : List ℕ) (n : ℕ) (others : List Atom) → FragmentsAt s values b p → Bytes b → Fine (target_heads Little) n (fragments_then values others)
      → (AllReadBack values × Fine (target_heads Little) n others) × Bytes p
  unfolding FragmentsAt fragments_then
  fragments_can s [] b p n others h k f = ((tt, f), subst Bytes h k)
  fragments_can s (v ∷ values) b p n others (o, head, more) k f =
      let behind : Bytes (v ++ o) = subst Bytes (sym head.after_is) (bytes_behind 8 b k) in
      let parts = bytes_parts v o behind in
      let rest = fragments_can s values o p n others more parts.1 (fine_bytes (target_heads Little) n v (closes_leaf ∷ fragments_then values others) f.2).2 in
      let known = long_known (number s 4 (drop 4 b)) (length v) (four_bytes s (drop 4 b) (bytes_behind 4 b k)) head.length_is in
      (((reads_back OB v refl parts.0 known (of_bytes v), rest.0.0), rest.0.1), rest.1)

  mutual
    unfolding TreesAt trees_then SetReadsBack MayStand WholeUnits

    set_can : (s : Syntax) (n : ℕ) (x : Trees) (b p : List ℕ) (others : List Atom) → Right s → TreesAt s x b p → Bytes b → Fine (target_heads Little) n (trees_then s x others) → WholeUnits x
        → ((SetReadsBack x × MayStand coding n x) × Fine (target_heads Little) n others) × Bytes p
    set_can s n no_tree b p others r h k f w = (((tt, tt), f), subst Bytes h k)
    set_can s n (leaf t vr v rest) b p others r (o, fo, head, more) k f w =
        let bar : HeadBar = target_heads Little in
        let g = begun bar n n t vr (Known (length v)) s (map value_byte (order s vr v) ++ closes_leaf ∷ trees_then (after s t vr v) rest others) (lists_of n a_value t vr (Known (length v)) s fo) f in
        let behind = bytes_parts (order s vr v) o (bytes_of_head s t vr (Known (length v)) b (order s vr v ++ o) head k) in
        let later = set_can (after s t vr v) n rest o p others (right_after s t vr v r) more behind.1 (fine_bytes bar n (order s vr v) (closes_leaf ∷ trees_then (after s t vr v) rest others) g.more).2 w.1 in
        let apart = data_group t g.accepted.0 in (
          (
            (
              ((element_tag s t vr (Known (length v)) b (order s vr v ++ o) head k, apart.0), reads_back vr v (is_no_sequence vr (spelled_no_sequence s t vr (length v) fo)) (value_bytes s vr v behind.0) (length_known s vr b (length v) k head.length_is) w.0, later.0.0.0),
              (apart.1, later.0.0.1),
            ),
            later.0.1,
          ),
          later.1,
        )
    set_can s n (sequence t vr declared items rest) b p others r (contents, o, fo, head, inner, more) k f w =
        let bar : HeadBar = target_heads Little in
        let g = begun bar n (suc n) t vr declared s (items_then (inside s vr) items (closes_sequence ∷ trees_then s rest others)) (lists_of n a_sequence t vr declared s fo) f in
        let held = enclosed_ready (inside s vr) sequence_end_tag declared (ItemsAt (inside s vr) items) contents o ((ItemsReadBack items × ItemsMayStand coding (suc n) items) × Fine bar (suc n) (closes_sequence ∷ trees_then s rest others))
        (bytes_of_head s t vr declared b contents head k)
        (λ c d kc rd. items_can (inside s vr) (suc n) items c d (closes_sequence ∷ trees_then s rest others) (right_inside s vr r) rd kc g.more w.0) inner in
        let after = set_can s n rest o p others r more held.1 held.0.1.2 w.1 in
        let apart = data_group t g.accepted.0 in
        let few = g.few in (
          (
            (
              ((element_tag s t vr declared b contents head k, apart.0), spelled_sequence s t vr declared fo, declared_length s vr b declared k head.length_is, held.0.0.0, after.0.0.0),
              (apart.1, omega (arith, few), held.0.0.1, after.0.0.1),
            ),
            after.0.1,
          ),
          after.1,
        )
    set_can s n (fragments t vr values rest) b p others r (contents, o, fo, head, inner, more) k f w =
        let bar : HeadBar = target_heads Little in
        let g = begun bar n (suc n) t vr Undefined s (fragments_then values (closes_sequence ∷ trees_then s rest others)) (lists_of n a_fragment_list t vr Undefined s fo) f in
        let held = enclosed_ready s sequence_end_tag Undefined (FragmentsAt s values) contents o (AllReadBack values × Fine bar (suc n) (closes_sequence ∷ trees_then s rest others)) (bytes_of_head s t vr Undefined b contents head k)
        (λ c d kc rd. fragments_can s values c d (suc n) (closes_sequence ∷ trees_then s rest others) rd kc g.more) inner in
        let after = set_can s n rest o p others r more held.1 held.0.1.2 w in
        let apart = data_group t g.accepted.0 in
        let few = g.few in (
          (
            (
              ((element_tag s t vr Undefined b contents head k, apart.0), fragments_vr s vr (sym (undefined_same s t vr) ∙ fo), held.0.0, after.0.0.0),
              (apart.1, omega (arith, few), right_little s r (fragments_little s vr (sym (undefined_same s t vr) ∙ fo)).0, after.0.0.1),
            ),
            after.0.1,
          ),
          after.1,
        )

    items_can : (s : Syntax) (n : ℕ) (x : Items) (b p : List ℕ) (others : List Atom) → Right s → ItemsAt s x b p → Bytes b → Fine (target_heads Little) n (items_then s x others) → ItemsOfWholeUnits x
        → ((ItemsReadBack x × ItemsMayStand coding n x) × Fine (target_heads Little) n others) × Bytes p
    items_can s n no_item b p others r h k f w = (((tt, tt), f), subst Bytes h k)
    items_can s n (item declared set rest) b p others r (contents, o, head, inner, more) k f w =
        let bar : HeadBar = target_heads Little in
        let held = enclosed_ready s item_end_tag declared (TreesAt s set) contents o ((SetReadsBack set × MayStand coding n set) × Fine bar n (closes_item ∷ items_then s rest others)) (subst Bytes (sym head.after_is) (bytes_behind 8 b k))
        (λ c d kc rd. set_can s n set c d (closes_item ∷ items_then s rest others) r rd kc f.2 w.0) inner in
        let after = items_can s n rest o p others r more held.1 held.0.1.2 w.1 in
        (((((item_length s b declared k head.length_is, held.0.0.0, after.0.0.0)), (held.0.0.1, after.0.0.1)), after.0.1), after.1)

-- ---- the meta group

group_can : (x : Trees) (b p : List ℕ) → AreMeta x → TreesAt Little x b p → Bytes b → WholeUnits x → SetReadsBack x × Bytes p
unfolding TreesAt AreMeta SetReadsBack WholeUnits
group_can no_tree b p m h k w = (tt, subst Bytes h k)
group_can (leaf t vr v rest) b p m (o, fo, head, more) k w =
    let behind = bytes_parts v o (bytes_of_head Little t vr (Known (length v)) b (v ++ o) head k) in
    let after = group_can rest o p m.1 more behind.1 w.1 in (
      ((element_tag Little t vr (Known (length v)) b (v ++ o) head k, head.no_item), reads_back vr v (is_no_sequence vr (spelled_no_sequence Little t vr (length v) fo)) behind.0 (length_known Little vr b (length v) k head.length_is) w.0, after.0),
      after.1,
    )
group_can (sequence t vr declared items rest) b p m h k w = absurd m
group_can (fragments t vr values rest) b p m h k w = absurd m

kept_bytes : (b : ℕ) (v : List ℕ) → b < 256 → Bytes v → Bytes (before_pads b v)
kept_bytes b [] h k = by_pad (is_pad b)
  where
    by_pad : (t : Bool) → Bytes (cond t [] (b ∷ []))
    by_pad true = tt
    by_pad false = (h, tt)
kept_bytes b (c ∷ v) h k = (h, k)

unpadded_bytes : (v : List ℕ) → Bytes v → Bytes (without_pads v)
unfolding without_pads
unpadded_bytes [] h = tt
unpadded_bytes (b ∷ v) h = kept_bytes b (without_pads v) h.0 (unpadded_bytes v h.1)

named_bytes : (x : Trees) → AreMeta x → SetReadsBack x → Bytes (syntax_value x)
unfolding AreMeta SetReadsBack
named_bytes no_tree m h = tt
named_bytes (leaf t vr v rest) m h = by_tag (is_tag 2 0x10 t) (named_bytes rest m.1 h.2)
  where
    by_tag : (x : Bool) → Bytes (syntax_value rest) → Bytes (cond x v (syntax_value rest))
    by_tag true k = bytes_of v h.1.bytes
    by_tag false k = k
named_bytes (sequence t vr declared items rest) m h = absurd m
named_bytes (fragments t vr values rest) m h = absurd m

-- ---- the head of the file

pub record Headed (file : List ℕ) (meta : Meta) (group : List ℕ) (coding : Coding) : Type 0 where
  pub preamble_size : length meta.preamble ≡ 128
  pub uid_is : meta.uid ≡ named_syntax meta.elements
  pub spelled : TreesAt Little meta.elements group []
  pub of_meta : AreMeta meta.elements
  pub within : length group ≤ META_LIMIT
  pub names : named_coding meta.elements ≡ Some coding
  pub bytes : Bytes file → Bytes group

by_coding : (m meta : Meta) (g group : List ℕ) (c : Coding) (r : Result Coding DeflatedSyntax) → begins m g c ≡ coded meta group r → (m ≡ meta) × (g ≡ group) × (result_ok r ≡ Some c)
by_coding m meta g group c (Ok d) e = (cc, cc, cc)
by_coding m meta g group c (Err x) e = cc

by_uid : (m meta : Meta) (g group : List ℕ) (c : Coding) (uid : List ℕ) → meta.uid ≡ uid → begins m g c ≡ named meta group uid → (m ≡ meta) × (g ≡ group) × (usable uid ≡ Some c)
by_uid m meta g group c [] is e = cc
by_uid m meta g group c (x ∷ uid) is e = let k = by_coding m meta g group c (coding_of meta.uid) e in (k.0, k.1, ap (λ (u : List ℕ). result_ok (coding_of u)) (sym is) ∙ k.2)

by_place : (m : Meta) (g : List ℕ) (c : Coding) (size : ℕ) (preamble : List ℕ) (elements : Trees) (group : List ℕ) (behind : GroupPlace) → begins m g c ≡ answer_behind size preamble elements group behind
    → (m ≡ record { preamble = preamble; elements = elements; uid = without_pads (syntax_value elements) }) × (g ≡ group) × (named_coding elements ≡ Some c)
by_place m g c size preamble elements group the_end e =
    let uid = without_pads (syntax_value elements) in
    let meta : Meta = record { preamble = preamble; elements = elements; uid = uid } in
    let k = by_uid m meta g group c uid refl e in (k.0, k.1, k.2)
by_place m g c size preamble elements group too_few e = cc
by_place m g c size preamble elements group (a_fault fault) e = cc
by_place m g c size preamble elements group (an_element tag vr head value) e = cc

pub headed : (file : List ℕ) (meta : Meta) (group : List ℕ) (coding : Coding) → MetaReads file (begins meta group coding) → Headed file meta group coding
headed file meta group coding (too_short l e) = absurd (let no : begins meta group coding ≡ MetaAnswer.refused _ _ = e in cc)
headed file meta group coding (no_prefix preamble prefix bytes parts l m other e) = absurd (cc)
headed file meta group coding (with_group preamble bytes others elements behind parts l reads e) =
    let k = by_place meta group coding (length file) preamble elements others behind e in
    let same : meta.elements ≡ elements = ap (λ (x : Meta). x.elements) k.0 in
    record {
      preamble_size = ap (λ (x : Meta). length x.preamble) k.0 ∙ l;
      uid_is = ap (λ (x : Meta). x.uid) k.0 ∙ ap (λ (x : Trees). without_pads (syntax_value x)) (sym same);
      spelled = subst (λ (x : Trees). TreesAt Little x group []) (sym same) (subst (λ (g : List ℕ). TreesAt Little elements g []) (sym k.1) reads.spelled);
      of_meta = subst AreMeta (sym same) reads.meta;
      within = subst (λ (g : List ℕ). length g ≤ META_LIMIT) (sym k.1) reads.within;
      names = ap named_coding same ∙ k.2;
      bytes = λ h. (
          let behind_prefix = (bytes_parts preamble (PREFIX ++ bytes) (subst Bytes parts h)).1 in
          let of_group = (bytes_parts others reads.rest (subst Bytes reads.parts (bytes_parts PREFIX bytes behind_prefix).1)).0 in
          subst Bytes (sym k.1) of_group
          );
    }

-- ---- the file

same_trees : (x y : Trees) → whole_front x ≡ whole_front y → x ≡ y
same_trees x y e = cc

pub can_build : (d : Dictionary) (file : List ℕ) (meta : Meta) (coding : Coding) (set : Trees) → FileRead d file meta coding set → WholeUnits meta.elements → WholeUnits set → Ascend None set → CanBuild meta.elements coding set
can_build d file meta coding set h units_group units ascends =
    let group = h.group in
    let head = headed file meta group coding h.head in
    let file_bytes : Bytes file = bytes_of file h.bytes in
    let elements = group_can meta.elements group [] head.of_meta head.spelled (head.bytes file_bytes) units_group in
    let takes : length group ≡ trees_size Little meta.elements + 0 = trees_take Little meta.elements group [] head.spelled in
    let within = head.within in
    let at : ℕ = 132 + length group in
    let few : at ≤ INPUT_LIMIT = omega (arith, within) in
    let rest : List ℕ = drop at file in
    let rest_bytes : Bytes rest = bytes_behind at file file_bytes in
    let whole = source_whole Little (read_by d coding.syntax) at rest (whole_front set) few (are_bytes rest rest_bytes) h.reads in
    let fine = source_fine Little (read_by d coding.syntax) at rest (whole_front set) few (are_bytes rest rest_bytes) h.reads in
    let is : whole.trees ≡ set = same_trees whole.trees set (sym whole.is) in
    let can = set_can d coding (read_by d coding.syntax) 0 set rest [] (ends ∷ []) (inl (d, refl))
    (subst (λ (x : Trees). TreesAt (read_by d coding.syntax) x rest []) is whole.spelled) rest_bytes
    (subst (λ (x : Trees). Fine (target_heads Little) 0 (trees_then (read_by d coding.syntax) x (ends ∷ []))) is fine) units in
    record {
      group = head.of_meta;
      size = omega (arith, takes, within);
      group_reads = elements.0;
      named = head.names;
      syntax = are_bytes (named_syntax meta.elements) (unpadded_bytes (syntax_value meta.elements) (named_bytes meta.elements head.of_meta elements.0));
      reads = can.0.0.0;
      ascends = ascends;
      stands = can.0.0.1;
    }

pub file_builds : (d : Dictionary) (limit : ℕ) (file : List ℕ) (meta : Meta) (coding : Coding) (set : Trees) → limit ≤ LINE_LIMIT → FileRead d file meta coding set → WholeUnits meta.elements → WholeUnits set → Ascend None set
    → FitsLines limit (full_dump d meta.elements set) → BuildsFile limit (full_dump d meta.elements set) meta.elements coding set
file_builds d limit file meta coding set allowed h units_group units ascends fits = dump_builds d limit meta.elements coding set allowed (can_build d file meta coding set h units_group units ascends) fits
