-- Data sets of which nothing is barred where identity is taken out.
use Rattle.std.proofs.Common.{◌≡◌, refl, ℕ, List, [], ◌∷◌, ◌++◌, length, map, Option, Some, None, Bool, true, false, ◌||◌, if◌then◌else◌}
use Rattle.std.specs.Prelude.{◌==◌, codes}
use Rattle.dcm_base.specs.declared.fault.Fault.{Fault}
use Rattle.dcm_base.specs.declared.fault.Fault.TheVariants.{IdentityStays, NotAscending}
use Rattle.dcm_base.specs.declared.length.Length.TheVariants.{Undefined}
use Rattle.dcm_base.specs.declared.syntax.Syntax.{Syntax}
use Rattle.dcm_base.specs.declared.tag.Tag.{Tag}
use Rattle.dcm_base.specs.declared.vr.Vr.{Vr}
use Rattle.dcm_base.specs.declared.vr.Vr.TheVariants.{SQ}
use Rattle.dcm_base.specs.Bytes.Spelling.{after, inside}
use Rattle.dcm_base.specs.Conversion.Normal.{normal, normal_items, normal_value, normal_vr}
use Rattle.dcm_base.specs.Lines.Ascending.{Ascend, ItemsAscend}
use Rattle.dcm_base.specs.Reading.Bars.{holds_identity, identity_fault}
use Rattle.dcm_base.specs.Reading.Stop.{HeadBar}
use Rattle.dcm_base.specs.Steps.Atoms.{Atom, opens, value_byte, closes_leaf, opens_item, closes_item, closes_sequence, opens_fragment, ends, fragments_then, items_then, trees_then}
use Rattle.dcm_base.specs.Tables.Tag.{below, is_above, same_tag}
use Rattle.dcm_base.specs.Tree.Tree.{Trees, no_tree, leaf, sequence, fragments, Items, no_item, item, then_trees}
use Rattle.dcm_base.specs.Tree.Value.{order}
use Rattle.dcm_base.proofs.Dictionaries.TagOrder.{below_other, is_above_below}
use Rattle.dcm_stream.specs.Ascending.{reached_after, innermost}
use Rattle.dcm_sinks.proofs.ReadBack.Accepted.{AllAccepted}
use Rattle.dcm_edits.specs.Edit.{has}
use Rattle.dcm_deid.specs.MadeNew.{made_new}
use Rattle.dcm_deid.specs.declared.fate.Fate.{Fate}
use Rattle.dcm_deid.specs.declared.fate.Fate.TheVariants.{Remove, Empty, Replace, Anew, Keep}
use Rattle.dcm_deid.specs.declared.fate.Options.{Options}
use Rattle.dcm_deid.specs.declared.fate.Depth.{Depth}
use Rattle.dcm_deid.specs.declared.fate.Depth.TheVariants.{Outermost, Inside}
use Rattle.dcm_deid.specs.declared.fate.ReadAs.TheVariants.{AsBytes, AsItems}
use Rattle.dcm_deid.specs.Fate.{fate_as, are_left}
use Rattle.dcm_deid.specs.Deidentify.{value_by, leaf_by, sequence_by, fragments_by, deidentified_set, items_by_fate}
use Rattle.dcm_deid.specs.Saying.{code_if, methods, put_in, said, tag_at}
use Rattle.dcm_deid.proofs.Trees.Said.{set_with, set_with_all}

-- what is barred after the last tag
abbrev pub barred_at : Option Tag → Tag → Option Fault
barred_at last tag = if is_above tag last then identity_fault tag else Some NotAscending

-- ---- atoms

abbrev pub FreeAt : List (Option Tag) → Atom → Type 0
FreeAt st (opens tag vr declared s) = barred_at (innermost st) tag ≡ None
FreeAt st (value_byte b) = Unit {0}
FreeAt st closes_leaf = Unit {0}
FreeAt st (opens_item declared) = Unit {0}
FreeAt st closes_item = Unit {0}
FreeAt st closes_sequence = Unit {0}
FreeAt st (opens_fragment size) = Unit {0}
FreeAt st ends = Unit {0}

abbrev pub Free : List (Option Tag) → List Atom → Type 0
Free st [] = Unit {0}
Free st (a ∷ atoms) = FreeAt st a × Free (reached_after st a) atoms

-- ---- data sets

abbrev mutual
  pub Passes : Option Tag → Trees → Type 0
  Passes last no_tree = Unit {0}
  Passes last (leaf t vr v rest) = (barred_at last t ≡ None) × Passes (Some t) rest
  Passes last (sequence t vr declared items rest) = (barred_at last t ≡ None) × ItemsPass items × Passes (Some t) rest
  Passes last (fragments t vr parts rest) = (barred_at last t ≡ None) × Passes (Some t) rest

  pub ItemsPass : Items → Type 0
  ItemsPass no_item = Unit {0}
  ItemsPass (item declared set rest) = Passes None set × ItemsPass rest

may_come : (a b : Bool) → a ≡ true → b ≡ false → (if a then (if b then Some IdentityStays else None) else Some NotAscending) ≡ None
may_come true true e f = absurd (cc)
may_come true false e f = refl
may_come false b e f = absurd (cc)

comes_above : (a : Bool) (x : Option Fault) → (if a then x else Some NotAscending) ≡ None → a ≡ true
comes_above true x e = refl
comes_above false x e = absurd (cc)

comes_free : (a b : Bool) → (if a then (if b then Some IdentityStays else None) else Some NotAscending) ≡ None → b ≡ false
comes_free true true e = absurd (cc)
comes_free true false e = refl
comes_free false b e = absurd (cc)

no_fault : (b : Bool) → (if b then Some IdentityStays else None) ≡ None → b ≡ false
no_fault true e = absurd (cc)
no_fault false e = refl

passes_at : (last : Option Tag) (t : Tag) → is_above t last ≡ true → holds_identity t ≡ false → barred_at last t ≡ None
passes_at last t e f = may_come (is_above t last) (holds_identity t) e f

is_passed_above : (last : Option Tag) (t : Tag) → barred_at last t ≡ None → is_above t last ≡ true
is_passed_above last t e = comes_above (is_above t last) (identity_fault t) e

is_passed_free : (last : Option Tag) (t : Tag) → barred_at last t ≡ None → holds_identity t ≡ false
is_passed_free last t e = comes_free (is_above t last) (holds_identity t) e

-- ---- what was read

abbrev pub identity_heads : HeadBar
identity_heads tag vr declared = identity_fault tag

past_bytes : (v : List ℕ) (others : List Atom) → AllAccepted identity_heads (map value_byte v ++ others) → AllAccepted identity_heads others
past_bytes [] others h = h
past_bytes (b ∷ v) others h = past_bytes v others h.1

past_fragments : (parts : List (List ℕ)) (others : List Atom) → AllAccepted identity_heads (fragments_then parts others) → AllAccepted identity_heads others
unfolding fragments_then
past_fragments [] others h = h
past_fragments (v ∷ parts) others h = past_fragments parts others (past_bytes v _ h.1).1

mutual
  unfolding trees_then

  pub read_passes : (s : Syntax) (x : Trees) (others : List Atom) (last : Option Tag) → Ascend last x → AllAccepted identity_heads (trees_then s x others) → Passes last x × AllAccepted identity_heads others
  read_passes s no_tree others last a h = (tt, h)
  read_passes s (leaf t vr v rest) others last a h =
      let more = read_passes (after s t vr v) rest others (Some t) a.1 (past_bytes (order s vr v) _ h.1).1 in
      ((passes_at last t a.0 (no_fault (holds_identity t) h.0.1), more.0), more.1)
  read_passes s (sequence t vr declared items rest) others last a h =
      let inner = read_items_pass (inside s vr) items (closes_sequence ∷ trees_then s rest others) a.1 h.1 in
      let more = read_passes s rest others (Some t) a.2 inner.1.1 in
      ((passes_at last t a.0 (no_fault (holds_identity t) h.0.1), inner.0, more.0), more.1)
  read_passes s (fragments t vr parts rest) others last a h =
      let more = read_passes s rest others (Some t) a.1 (past_fragments parts (closes_sequence ∷ trees_then s rest others) h.1).1 in
      ((passes_at last t a.0 (no_fault (holds_identity t) h.0.1), more.0), more.1)

  read_items_pass : (s : Syntax) (x : Items) (others : List Atom) → ItemsAscend x → AllAccepted identity_heads (items_then s x others) → ItemsPass x × AllAccepted identity_heads others
  read_items_pass s no_item others a h = (tt, h)
  read_items_pass s (item declared set rest) others a h =
      let inner = read_passes s set (closes_item ∷ items_then s rest others) None a.0 h.1 in
      let more = read_items_pass s rest others a.1 inner.1.1 in
      ((inner.0, more.0), more.1)

-- ---- what is left of it

weaker : (last : Option Tag) (t : Tag) (x : Trees) → is_above t last ≡ true → Passes (Some t) x → Passes last x
weaker last t no_tree e h = tt
weaker last t (leaf u vr v rest) e h = (passes_at last u (is_above_below last t u e (is_passed_above (Some t) u h.0)) (is_passed_free (Some t) u h.0), h.1)
weaker last t (sequence u vr declared items rest) e h = (passes_at last u (is_above_below last t u e (is_passed_above (Some t) u h.0)) (is_passed_free (Some t) u h.0), h.1, h.2)
weaker last t (fragments u vr parts rest) e h = (passes_at last u (is_above_below last t u e (is_passed_above (Some t) u h.0)) (is_passed_free (Some t) u h.0), h.1)

module _ (options : Options) (key : List ℕ) where
  abbrev without : Depth → Trees → Trees
  without depth x = deidentified_set options (made_new options key) depth x

  abbrev without_items : Items → Items
  without_items x = items_by_fate (fate_as options) (value_by (made_new options key)) x

  leaf_left : (last : Option Tag) (fate : Fate) (t : Tag) (vr : Vr) (v : List ℕ) (left : Trees) → barred_at last t ≡ None → Passes (Some t) left → Passes last (leaf_by fate t vr v left)
  leaf_left last Remove t vr v left e h = weaker last t left (is_passed_above last t e) h
  leaf_left last Empty t vr v left e h = (e, h)
  leaf_left last Replace t vr v left e h = (e, h)
  leaf_left last (Anew made) t vr v left e h = (e, h)
  leaf_left last Keep t vr v left e h = (e, h)

  sequence_left : (last : Option Tag) (fate : Fate) (t : Tag) (vr : Vr) (items : Items) (left : Trees) → barred_at last t ≡ None → ItemsPass items → Passes (Some t) left → Passes last (sequence_by fate t vr items left)
  sequence_left last Remove t vr items left e i h = weaker last t left (is_passed_above last t e) h
  sequence_left last Empty t vr items left e i h = (e, tt, h)
  sequence_left last Replace t vr items left e i h = (e, tt, h)
  sequence_left last (Anew made) t vr items left e i h = (e, tt, h)
  sequence_left last Keep t vr items left e i h = (e, i, h)

  fragments_left : (last : Option Tag) (fate : Fate) (t : Tag) (vr : Vr) (parts : List (List ℕ)) (left : Trees) → barred_at last t ≡ None → Passes (Some t) left → Passes last (fragments_by fate t vr parts left)
  fragments_left last Remove t vr parts left e h = weaker last t left (is_passed_above last t e) h
  fragments_left last Empty t vr parts left e h = weaker last t left (is_passed_above last t e) h
  fragments_left last Replace t vr parts left e h = weaker last t left (is_passed_above last t e) h
  fragments_left last (Anew made) t vr parts left e h = weaker last t left (is_passed_above last t e) h
  fragments_left last Keep t vr parts left e h = (e, h)

  mutual
    left_passes : (last : Option Tag) (depth : Depth) (x : Trees) → Passes last x → Passes last (without depth x)
    left_passes last depth no_tree h = tt
    left_passes last depth (leaf t vr v rest) h = leaf_left last (fate_as options depth AsBytes t) t vr _ (without depth rest) h.0 (left_passes (Some t) depth rest h.1)
    left_passes last depth (sequence t vr declared items rest) h =
        sequence_left last (fate_as options depth AsItems t) t vr (without_items items) (without depth rest) h.0 (left_items_pass items h.1) (left_passes (Some t) depth rest h.2)
    left_passes last depth (fragments t vr parts rest) h = fragments_left last (fate_as options depth AsBytes t) t vr parts (without depth rest) h.0 (left_passes (Some t) depth rest h.1)

    left_items_pass : (x : Items) → ItemsPass x → ItemsPass (without_items x)
    left_items_pass no_item h = tt
    left_items_pass (item declared set rest) h = (left_passes None Inside set h.0, left_items_pass rest h.1)

  -- ---- with what is put

  -- an element of a tag, alone
  record IsElement (t : Tag) (e : Trees) : Type 0 where
    before : (last : Option Tag) (x : Trees) → is_above t last ≡ true → Passes (Some t) x → Passes last (then_trees e x)
    alone : (last : Option Tag) → is_above t last ≡ true → Passes last e

  passes_if : (last : Option Tag) (c : Bool) (x y : Trees) → (c ≡ true → Passes last x) → (c ≡ false → Passes last y) → Passes last (if c then x else y)
  passes_if last true x y h k = h refl
  passes_if last false x y h k = k refl

  neither : (a b : Bool) → (a || b) ≡ false → (a ≡ false) × (b ≡ false)
  neither true b e = absurd (cc)
  neither false b e = (refl, e)

  put_passes : (t : Tag) (e : Trees) → IsElement t e → (last : Option Tag) (x : Trees) → is_above t last ≡ true → has t x ≡ false → Passes last x → Passes last (put_in t e x)
  put_passes t e k last no_tree above none h = k.alone last above
  put_passes t e k last (leaf u vr v rest) above none h =
      let two = neither (same_tag t u) (has t rest) none in
      passes_if last (below t u) _ _ (λ c. k.before last (leaf u vr v rest) above (passes_at (Some t) u c (is_passed_free last u h.0), h.1))
      (λ c. (h.0, put_passes t e k (Some u) rest (below_other t u c two.0) two.1 h.1))
  put_passes t e k last (sequence u vr declared items rest) above none h =
      let two = neither (same_tag t u) (has t rest) none in
      passes_if last (below t u) _ _ (λ c. k.before last (sequence u vr declared items rest) above (passes_at (Some t) u c (is_passed_free last u h.0), h.1, h.2))
      (λ c. (h.0, h.1, put_passes t e k (Some u) rest (below_other t u c two.0) two.1 h.2))
  put_passes t e k last (fragments u vr parts rest) above none h =
      let two = neither (same_tag t u) (has t rest) none in
      passes_if last (below t u) _ _ (λ c. k.before last (fragments u vr parts rest) above (passes_at (Some t) u c (is_passed_free last u h.0), h.1))
      (λ c. (h.0, put_passes t e k (Some u) rest (below_other t u c two.0) two.1 h.1))

  abbrev AreElements : List (Tag × Trees) → Type 0
  AreElements [] = Unit {0}
  AreElements (new ∷ news) = IsElement new.0 new.1 × AreElements news

  all_pass : (news : List (Tag × Trees)) (x : Trees) → AreElements news → Passes None x → Passes None (set_with_all news x)
  all_pass [] x k h = h
  all_pass (new ∷ news) x k h = all_pass news (set_with new x) k.1 (passes_if None (has new.0 x) x (put_in new.0 new.1 x) (λ c. h) (λ c. put_passes new.0 new.1 k.0 None x refl c h))

  leaf_element : (t : Tag) (vr : Vr) (v : List ℕ) → holds_identity t ≡ false → IsElement t (leaf t vr v no_tree)
  leaf_element t vr v e = record { before = λ last x above h. (passes_at last t above e, h); alone = λ last above. (passes_at last t above e, tt) }

  code_passes : (b : Bool) (code meaning : List ℕ) (rest : Items) → ItemsPass rest → ItemsPass (code_if b code meaning rest)
  code_passes true code meaning rest h = ((refl, (refl, (refl, tt))), h)
  code_passes false code meaning rest h = h

  methods_pass : ItemsPass (methods options)
  methods_pass =
      code_passes true (codes "113100") (codes "Basic Application Confidentiality Profile") _ (code_passes (are_left options.dates) _ _ _ (code_passes options.patient _ _ _ (code_passes options.device _ _ _ (code_passes options.uids _ _ _ (code_passes options.institution _ _ no_item tt)))))

  method_element : IsElement (tag_at 0x0012 0x0064) (sequence (tag_at 0x0012 0x0064) SQ Undefined (methods options) no_tree)
  method_element = record {
    before = λ last x above h. (passes_at last (tag_at 0x0012 0x0064) above refl, methods_pass, h);
    alone = λ last above. (passes_at last (tag_at 0x0012 0x0064) above refl, methods_pass, tt);
  }

  said_elements : AreElements (said options)
  said_elements = (leaf_element _ _ _ refl, (leaf_element _ _ _ refl, (method_element, (leaf_element _ _ _ refl, tt))))

  pub all_left_passes : (x : Trees) → Passes None x → Passes None (set_with_all (said options) (without Outermost x))
  all_left_passes x h = all_pass (said options) (without Outermost x) said_elements (left_passes None Outermost x h)

-- ---- the normal form

either_passes : (last : Option Tag) (t : Tag) (c : Bool) (x y : Trees) → is_above t last ≡ true → Passes (Some t) x → Passes last y → Passes last (if c then x else y)
either_passes last t true x y e h k = weaker last t x e h
either_passes last t false x y e h k = k

mutual
  unfolding normal

  pub normal_passes : (s : Syntax) (last : Option Tag) (x : Trees) → Passes last x → Passes last (normal s x)
  normal_passes s last no_tree h = tt
  normal_passes s last (leaf t vr v rest) h =
      let more = normal_passes (after s t (normal_vr s t vr (length v)) (normal_value s t vr v)) (Some t) rest h.1 in
      either_passes last t (t.element == 0) _ _ (is_passed_above last t h.0) more (h.0, more)
  normal_passes s last (sequence t vr declared items rest) h =
      let more = normal_passes s (Some t) rest h.2 in
      either_passes last t (t.element == 0) _ _ (is_passed_above last t h.0) more (h.0, normal_items_pass s items h.1, more)
  normal_passes s last (fragments t vr parts rest) h =
      let more = normal_passes s (Some t) rest h.1 in
      either_passes last t (t.element == 0) _ _ (is_passed_above last t h.0) more (h.0, more)

  normal_items_pass : (s : Syntax) (x : Items) → ItemsPass x → ItemsPass (normal_items s x)
  normal_items_pass s no_item h = tt
  normal_items_pass s (item declared set rest) h = (normal_passes s None set h.0, normal_items_pass s rest h.1)
