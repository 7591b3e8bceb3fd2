-- The bytes that a data set is converted to are read without fault.
use Rattle.std.proofs.Common.{◌≡◌, ℕ, suc, ◌+◌, ◌<◌, List, [], ◌∷◌, ◌++◌, length, map, flat_map, Option, Some, None, Bool, true, false, cond, refl, sym, ap, ◌∙◌, subst, arith}
use Rattle.std.specs.Prelude.{◌==◌, ◌&&◌, ◌||◌, if◌then◌else◌, nat_le}
use Rattle.std.proofs.lemmas.Bool.Decides.{nat_tests}
use Rattle.dcm_base.specs.declared.tag.Tag.{Tag}
use Rattle.dcm_base.specs.declared.vr.Vr.{Vr}
use Rattle.dcm_base.specs.declared.vr.Vr.TheVariants.{SQ, UN}
use Rattle.dcm_base.specs.declared.syntax.Syntax.{Syntax}
use Rattle.dcm_base.specs.declared.syntax.Syntax.TheVariants.{Implicit as implicit_in, Little as little_in, Big as big_in}
use Rattle.dcm_base.specs.Tables.Syntax.{Little, dictionary_of, read_by}
use Rattle.dcm_base.specs.declared.fault.Fault.TheVariants.{FragmentsBarred}
use Rattle.dcm_base.specs.declared.length.Length.{Length}
use Rattle.dcm_base.specs.declared.length.Length.TheVariants.{Known, Undefined}
use Rattle.dcm_base.specs.declared.form.Form.{Form}
use Rattle.dcm_base.specs.declared.form.Form.TheVariants.{Value as a_value, Sequence as a_sequence, FragmentList as a_fragment_list}
use Rattle.dcm_base.specs.Tree.Tree.{Trees, no_tree, leaf, sequence, fragments, Items, no_item, item}
use Rattle.dcm_base.specs.Tree.Front.{front, nothing_open}
use Rattle.dcm_base.specs.Tables.Tag.{item_end_tag, sequence_end_tag, is_item_end}
use Rattle.dcm_base.specs.Tables.Dictionary.{vr_in}
use Rattle.dcm_base.specs.Tables.Representation.{pad}
use Rattle.dcm_base.specs.Tree.Value.{evened}
use Rattle.dcm_base.specs.Bytes.Head.{Delimiter}
use Rattle.dcm_base.specs.Bytes.Spelling.{form, read_as, after, after_trees, dictionary_after}
use Rattle.dcm_base.specs.declared.level.Container.{Container}
use Rattle.dcm_base.specs.declared.level.Level.{Level}
use Rattle.dcm_base.specs.declared.level.Container.TheVariants.{DataSet as the_data_set, Item as an_item, Sequence as sequence_container, FragmentList as fragment_container}
use Rattle.dcm_base.specs.Reading.Place.{depth, is_data, is_allowed}
use Rattle.dcm_base.specs.Reading.Stop.{HeadBar, opens_list, has_no_form}
use Rattle.dcm_base.specs.Reading.Bars.{is_fragment_form, target_bar, holds_fragments}
use Rattle.dcm_base.specs.Steps.Atoms.{opens, opens_item, opens_fragment}
use Rattle.dcm_base.specs.Conversion.Recode.{head, even, leaf_head, leaf_bytes, item_head, item_delimiter, sequence_delimiter, recoded_leaf, recoded_fragment, recode_set, recode_items}
use Rattle.dcm_base.specs.Conversion.Normal.{normal, normal_items, normal_vr, normal_value, normal_sequence_vr, UnlessGroupLength}
use Rattle.dcm_stream.proofs.Heads.PlainLeaves.{no_item as no_special}
use Rattle.dcm_stream.specs.Reading.{value_opens, container_opens, element_opens, Sign, sign_of, sign_ends, left_sign, left_levels}
use Rattle.dcm_base.proofs.Conversions.NormalForm.{recode_by, dropped_own, evened_size, leaf_size}
use Rattle.dcm_base.specs.declared.dictionary.Dictionary.{Dictionary}
use Rattle.dcm_sinks.proofs.ReadBack.HasRoom.{ready_after, IsElement, AreShort, Ready, ReadyItems}
use Rattle.dcm_sinks.proofs.ReadBack.Written.{leaf_told, sequence_told, fragments_told, item_told, fragment_told, item_end_told, sequence_end_told, inside_target}
use Rattle.dcm_sinks.proofs.ReadBack.KnownEnds.{endless_left, Leads, Passes, passes_none, passes_both, Endless, value_passes, element_leads, item_leads, delimiter_passes}
use Rattle.dcm_base.proofs.Conversions.Order.{order_twice}
use Rattle.dcm_base.proofs.DataSets.Alike.{undefined_same}
use Rattle.dcm_base.proofs.DataSets.After.{tag_at_after}
use Rattle.dcm_stream.proofs.Containers.Signs.{sign_so_far, sign_told, reads_more, none_read}

-- ---- what a conversion bars

abbrev pub target_heads : Syntax → HeadBar
target_heads s tag vr declared = target_bar s (front no_tree nothing_open None false) tag vr declared

unbarred : (s : Syntax) (t : Tag) (vr : Vr) (l : Length) → is_fragment_form (form Little vr l) ≡ false → target_heads s t vr l ≡ None
unbarred (little_in d) t vr l h = refl
unbarred (implicit_in d) t vr l h = ap (λ (c : Bool). cond c (Some FragmentsBarred) None) h
unbarred (big_in d) t vr l h = ap (λ (c : Bool). cond c (Some FragmentsBarred) None) h

known_form : (vr : Vr) (n : ℕ) → is_fragment_form (form Little vr (Known n)) ≡ false
unfolding form
known_form SQ n = refl
known_form vr n = refl

implicit_form : (d : Dictionary) (vr : Vr) → form (implicit_in d) vr Undefined ≡ a_sequence → is_fragment_form (form Little vr Undefined) ≡ false
unfolding form
implicit_form d SQ e = refl
implicit_form d UN e = refl
implicit_form d vr e = absurd (cc)

sequence_form : (s : Syntax) (t : Tag) → form s (normal_sequence_vr s t) Undefined ≡ a_sequence → is_fragment_form (form Little (normal_sequence_vr s t) Undefined) ≡ false
unfolding form
sequence_form (implicit_in d) t e = implicit_form d (vr_in d t) e
sequence_form (little_in d) t e = refl
sequence_form (big_in d) t e = refl

fragments_unbarred : (s : Syntax) (t : Tag) (vr : Vr) (l : Length) → holds_fragments s ≡ true → target_heads s t vr l ≡ None
fragments_unbarred (little_in d) t vr l h = refl
fragments_unbarred (implicit_in d) t vr l h = absurd cc
fragments_unbarred (big_in d) t vr l h = absurd cc

-- ---- containers with no known end

abbrev pub endless_level : Container → Syntax → Length → Level
endless_level c s declared = record { container = c; syntax = s; declared = declared; end_offset = None }

-- elements may come in it
abbrev pub TakesElements : Container → Length → Type 0
TakesElements c declared = (t : Tag) → is_data t ≡ true → is_allowed c declared t ≡ true

pub set_takes : TakesElements the_data_set Undefined
unfolding is_allowed
set_takes t h = h

item_takes : TakesElements an_item Undefined
unfolding is_allowed
item_takes t h = ap (λ (x : Bool). x || (true && is_item_end t)) h

below_64 : (n : ℕ) → n < 64 → nat_le 64 n ≡ false
below_64 n h = grind (arith, nat_tests)

-- a delimiter is one in the syntax after trees too
delimiter_after : (s : Syntax) (x : Trees) {t : Tag} {b c : List ℕ} → Delimiter s t b c → Delimiter (after_trees s x) t b c
delimiter_after s x {t} {b} {c} h = record { tag_is = h.tag_is ∙ sym (tag_at_after s x b); whole = h.whole; after_is = h.after_is }

-- ---- elements

module _ (s : Syntax) (c : Container) (declared : Length) (outer : List Level) (takes : TakesElements c declared) (free : Endless outer) where
  abbrev bar : HeadBar
  bar = target_heads s

  abbrev around : List Level
  around = endless_level c s declared ∷ outer

  abbrev kept : Tag → Vr → ℕ → List ℕ → Option Sign
  kept t vr n w = sign_so_far t (normal_vr s t vr n) w

  leaf_leads : (t : Tag) (vr : Vr) (n : ℕ) → IsElement t → n < 0xFFFFFFFF → form s (read_as s t (normal_vr s t vr n)) (Known (even n)) ≡ a_value
      → Leads bar around (leaf_head s t vr n) (even n) (left_sign (even n) (kept t vr n [])) (left_levels (even n) (kept t vr n []) around)
  leaf_leads t vr n h fits fo p le =
      let v : Vr = normal_vr s t vr n in
      let z : List ℕ = leaf_head s t vr n in
      let none : sign_of t v ≡ kept t vr n [] = sym (none_read t v) in
      element_leads bar (endless_level c s declared) outer p z t v (Known (even n)) (value_opens around (kept t vr n []) (opens t v (Known (even n)) s) (even n)) (refl, free) (leaf_told s t vr n h fits) (no_special t h.1) (takes t h.1)
      (ap has_no_form fo) (ap (λ (f : Form). opens_list f && nat_le 64 (depth around)) fo) (unbarred s t v (Known (even n)) (known_form v (even n))) le
      (ap (λ (f : Form). element_opens f s t v (Known (even n)) (p + length z) around) fo ∙ ap (λ (x : Option Sign). value_opens around x (opens t v (Known (even n)) s) (even n)) none)
      (endless_left (even n) (kept t vr n []) around (refl, free))

  -- the container after a leaf
  abbrev after_leaf : Tag → Vr → List ℕ → List Level
  after_leaf t vr v = endless_level c (after s t (normal_vr s t vr (length v)) (normal_value s t vr v)) declared ∷ outer

  pub leaf_passes : (t : Tag) (vr : Vr) (v : List ℕ) → IsElement t → length v < 0xFFFFFFFF → form s (read_as s t (normal_vr s t vr (length v))) (Known (even (length v))) ≡ a_value → Passes bar around (recoded_leaf s t vr v) (after_leaf t vr v)
  leaf_passes t vr v h fits fo =
      let w : Vr = normal_vr s t vr (length v) in
      let u : List ℕ = evened (pad vr) (leaf_bytes s vr (length v) v) in
      subst (λ (ls : List Level). Passes bar around (recoded_leaf s t vr v) ls)
      (ap (λ (y : List ℕ). sign_ends (sign_so_far t w y) around) (sym (order_twice s w u)) ∙ sign_told c declared None s outer t w (normal_value s t vr v))
      (value_passes (kept t vr (length v)) (λ x b. reads_more x (b ∷ []) (sign_of t w)) bar around around (leaf_head s t vr (length v)) u (even (length v)) (leaf_leads t vr (length v) h fits fo) (refl, free)
      (evened_size (pad vr) (leaf_bytes s vr (length v) v) ∙ ap even (leaf_size s vr (length v) v)))

  abbrev in_sequence : List Level
  in_sequence = endless_level sequence_container s Undefined ∷ around

  pub sequence_opens : (t : Tag) (n : ℕ) → IsElement t → depth around ≡ n → n < 64 → form s (normal_sequence_vr s t) Undefined ≡ a_sequence → Passes bar around (head s t SQ Undefined) in_sequence
  sequence_opens t n h d few fo p le =
      let v : Vr = normal_sequence_vr s t in
      let z : List ℕ = head s t SQ Undefined in
      let fo' = undefined_same s t v ∙ fo in
      element_leads bar (endless_level c s declared) outer p z t v Undefined (container_opens (endless_level sequence_container s Undefined) around (opens t v Undefined s)) (refl, free) (sequence_told s t h) (no_special t h.1) (takes t h.1)
      (ap has_no_form fo') (ap (λ (f : Form). opens_list f && nat_le 64 (depth around)) fo' ∙ ap (nat_le 64) d ∙ below_64 n few) (unbarred s t v Undefined (sequence_form s t fo)) le
      (ap (λ (f : Form). element_opens f s t v Undefined (p + length z) around) fo' ∙ ap (λ (x : Syntax). container_opens (endless_level sequence_container x Undefined) around (opens t v Undefined s)) (inside_target s t)) (refl, (refl, free))

  pub sequence_ends : Passes bar in_sequence (sequence_delimiter s) around
  unfolding is_allowed
  sequence_ends = delimiter_passes bar (endless_level sequence_container s Undefined) around (sequence_delimiter s) sequence_end_tag (refl, (refl, free)) (sequence_end_told s) refl refl refl

  abbrev in_item : Syntax → List Level
  in_item k = endless_level an_item k Undefined ∷ in_sequence

  pub item_opens_set : Passes bar in_sequence (item_head s Undefined) (in_item s)
  unfolding is_allowed
  item_opens_set p le =
      item_leads bar (endless_level sequence_container s Undefined) around p (item_head s Undefined) Undefined (container_opens (endless_level an_item s Undefined) in_sequence (opens_item Undefined)) (refl, (refl, free)) (item_told s) refl refl le refl (refl, (refl, (refl, free)))

  -- whatever the syntax is after its elements
  pub item_ends : (x : Trees) → Passes bar (in_item (after_trees s x)) (item_delimiter s) in_sequence
  unfolding is_allowed
  item_ends x = delimiter_passes bar (endless_level an_item (after_trees s x) Undefined) in_sequence (item_delimiter s) item_end_tag (refl, (refl, (refl, free))) (delimiter_after s x (item_end_told s)) refl refl refl

  abbrev in_fragments : List Level
  in_fragments = endless_level fragment_container s Undefined ∷ around

  pub fragments_open : (t : Tag) (vr : Vr) (n : ℕ) → holds_fragments s ≡ true → IsElement t → depth around ≡ n → n < 64 → form s vr Undefined ≡ a_fragment_list → Passes bar around (head s t vr Undefined) in_fragments
  fragments_open t vr n little h d few fo p le =
      let z : List ℕ = head s t vr Undefined in
      let told = fragments_told s t vr little h fo in
      let fo' = undefined_same s t vr ∙ fo in
      element_leads bar (endless_level c s declared) outer p z t vr Undefined (container_opens (endless_level fragment_container s Undefined) around (opens t vr Undefined s)) (refl, free)
      told (no_special t h.1) (takes t h.1)
      (ap has_no_form fo') (ap (λ (f : Form). opens_list f && nat_le 64 (depth around)) fo' ∙ ap (nat_le 64) d ∙ below_64 n few) (fragments_unbarred s t vr Undefined little) le
      (ap (λ (f : Form). element_opens f s t vr Undefined (p + length z) around) fo') (refl, (refl, free))

  fragment_leads : (n : ℕ) → n < 0xFFFFFFFF → Leads bar in_fragments (item_head s (Known (even n))) (even n) (left_sign (even n) None) (left_levels (even n) None in_fragments)
  unfolding is_allowed
  fragment_leads n fits p le =
      item_leads bar (endless_level fragment_container s Undefined) around p (item_head s (Known (even n))) (Known (even n)) (value_opens in_fragments None (opens_fragment (even n)) (even n)) (refl, (refl, free)) (fragment_told s n fits) refl refl le refl (endless_left (even n) None in_fragments (refl, (refl, free)))

  pub fragments_pass : (values : List (List ℕ)) → AreShort values → Passes bar in_fragments (flat_map (recoded_fragment s) values) in_fragments
  fragments_pass [] h = passes_none bar in_fragments
  fragments_pass (v ∷ values) h =
      passes_both bar in_fragments in_fragments in_fragments (recoded_fragment s v) (flat_map (recoded_fragment s) values)
      (value_passes (λ w. None) (λ w b. refl) bar in_fragments in_fragments (item_head s (Known (even (length v)))) (evened 0 v) (even (length v)) (fragment_leads (length v) h.0) (refl, (refl, free)) (evened_size 0 v))
      (fragments_pass values h.1)

  pub fragments_end : Passes bar in_fragments (sequence_delimiter s) around
  unfolding is_allowed
  fragments_end = delimiter_passes bar (endless_level fragment_container s Undefined) around (sequence_delimiter s) sequence_end_tag (refl, (refl, free)) (sequence_end_told s) refl refl refl

  -- ---- or nothing, where it is dropped

  pub leaf_read : (t : Tag) (vr : Vr) (v : List ℕ) (d : Bool) → (t.element == 0) ≡ d → UnlessGroupLength t (IsElement t × (length v < 0xFFFFFFFF) × (form s (read_as s t (normal_vr s t vr (length v))) (Known (even (length v))) ≡ a_value))
      → Passes bar around (if d then [] else recoded_leaf s t vr v) (after_leaf t vr v)
  leaf_read t vr v true e h =
      subst (λ (k : Syntax). Passes bar around [] (endless_level c k declared ∷ outer)) (sym (dropped_own s t (normal_vr s t vr (length v)) (normal_value s t vr v) e)) (passes_none bar around)
  leaf_read t vr v false e h = let k = h e in leaf_passes t vr v k.0 k.1 k.2

  pub sequence_read : (t : Tag) (n : ℕ) (inner : List ℕ) (P : Type 0) (d : Bool) → (t.element == 0) ≡ d → depth around ≡ n
      → UnlessGroupLength t (IsElement t × (n < 64) × (form s (normal_sequence_vr s t) Undefined ≡ a_sequence) × P)
      → ((t.element == 0) ≡ false → Passes bar in_sequence inner in_sequence) → Passes bar around (if d then [] else head s t SQ Undefined ++ inner ++ sequence_delimiter s) around
  sequence_read t n inner P true e deep h contents = passes_none bar around
  sequence_read t n inner P false e deep h contents =
      let k = h e in
      passes_both bar around in_sequence around (head s t SQ Undefined ++ inner) (sequence_delimiter s)
      (passes_both bar around in_sequence in_sequence (head s t SQ Undefined) inner (sequence_opens t n k.0 deep k.1 k.2) (contents e)) sequence_ends

  pub fragments_read : (t : Tag) (vr : Vr) (n : ℕ) (values : List (List ℕ)) (d : Bool) → (t.element == 0) ≡ d → depth around ≡ n
      → UnlessGroupLength t (IsElement t × (n < 64) × (holds_fragments s ≡ true) × (form s vr Undefined ≡ a_fragment_list) × AreShort values)
      → Passes bar around (if d then [] else head s t vr Undefined ++ flat_map (recoded_fragment s) values ++ sequence_delimiter s) around
  fragments_read t vr n values true e deep h = passes_none bar around
  fragments_read t vr n values false e deep h =
      let k = h e in
      passes_both bar around in_fragments around (head s t vr Undefined ++ flat_map (recoded_fragment s) values) (sequence_delimiter s)
      (passes_both bar around in_fragments in_fragments (head s t vr Undefined) (flat_map (recoded_fragment s) values) (fragments_open t vr n k.2 k.0 deep k.1 k.3) (fragments_pass values k.4)) fragments_end

-- ---- data sets

deeper : (s : Syntax) (around : List Level) (n : ℕ) → depth around ≡ n → depth (endless_level sequence_container s Undefined ∷ around) ≡ suc n
unfolding depth
deeper s around n h = omega (arith, h)

in_set : (s : Syntax) (around : List Level) (n : ℕ) → depth around ≡ n → depth (endless_level an_item s Undefined ∷ around) ≡ n
unfolding depth
in_set s around n h = omega (arith, h)

as_deep : (c : Container) (s k : Syntax) (declared : Length) (outer : List Level) (n : ℕ) → depth (endless_level c s declared ∷ outer) ≡ n → depth (endless_level c k declared ∷ outer) ≡ n
unfolding depth
as_deep c s k declared outer n h = h

-- no bar is by a dictionary
heads_by : (d : Dictionary) (s : Syntax) → target_heads (read_by d s) ≡ target_heads s
heads_by d (implicit_in e) = refl
heads_by d (little_in e) = refl
heads_by d (big_in e) = refl

-- the syntax after a tree and others, where it is dropped and where it is not
leaf_then : (s k : Syntax) (t : Tag) (w : Vr) (x : List ℕ) (more : Trees) (c : Bool) → (t.element == 0) ≡ c → after s t w x ≡ k → after_trees k more ≡ after_trees s (if c then more else leaf t w x more)
leaf_then s k t w x more true e is = ap (λ (z : Syntax). after_trees z more) (sym is ∙ dropped_own s t w x e)
leaf_then s k t w x more false e is = ap (λ (z : Syntax). after_trees z more) (sym is)

sequence_then : (s : Syntax) (t : Tag) (vr : Vr) (l : Length) (items : Items) (more : Trees) (c : Bool) → after_trees s more ≡ after_trees s (if c then more else sequence t vr l items more)
sequence_then s t vr l items more true = refl
sequence_then s t vr l items more false = refl

fragments_then_same : (s : Syntax) (t : Tag) (vr : Vr) (values : List (List ℕ)) (more : Trees) (c : Bool) → after_trees s more ≡ after_trees s (if c then more else fragments t vr values more)
fragments_then_same s t vr values more true = refl
fragments_then_same s t vr values more false = refl

mutual
  unfolding recode_set Ready normal

  pub trees_read : (s : Syntax) (c : Container) (declared : Length) (outer : List Level) (takes : TakesElements c declared) (free : Endless outer) (n : ℕ) (x : Trees) → depth (endless_level c s declared ∷ outer) ≡ n → Ready s n x
      → Passes (target_heads s) (endless_level c s declared ∷ outer) (recode_set s x) (endless_level c (after_trees s (normal s x)) declared ∷ outer)
  trees_read s c declared outer takes free n no_tree deep h = passes_none (target_heads s) (endless_level c s declared ∷ outer)
  trees_read s c declared outer takes free n (leaf t vr v rest) deep h =
      let w : Vr = normal_vr s t vr (length v) in
      let x : List ℕ = normal_value s t vr v in
      let d : Dictionary = dictionary_after (dictionary_of s) t w x in
      let k : Syntax = after s t w x in
      let ls : List Level = endless_level c s declared ∷ outer in
      let ms : List Level = endless_level c k declared ∷ outer in
      let ns : List Level = endless_level c (after_trees k (normal k rest)) declared ∷ outer in
      let later : Passes (target_heads s) ms (recode_set s rest) ns =
      subst (λ (b : HeadBar). Passes b ms (recode_set s rest) ns) (heads_by d s)
      (subst (λ (z : List ℕ). Passes (target_heads k) ms z ns) (recode_by d s rest)
      (trees_read k c declared outer takes free n rest (as_deep c s k declared outer n deep) (ready_after s t w x n rest h.1))) in
      subst (λ (z : Syntax). Passes (target_heads s) ls (recode_set s (leaf t vr v rest)) (endless_level c z declared ∷ outer)) (leaf_then s k t w x (normal k rest) (t.element == 0) refl refl)
      (passes_both (target_heads s) ls ms ns _ (recode_set s rest) (leaf_read s c declared outer takes free t vr v (t.element == 0) refl h.0) later)
  trees_read s c declared outer takes free n (sequence t vr size items rest) deep h =
      let ls : List Level = endless_level c s declared ∷ outer in
      let ns : List Level = endless_level c (after_trees s (normal s rest)) declared ∷ outer in
      subst (λ (z : Syntax). Passes (target_heads s) ls (recode_set s (sequence t vr size items rest)) (endless_level c z declared ∷ outer)) (sequence_then s t (normal_sequence_vr s t) Undefined (normal_items s items) (normal s rest) (t.element == 0))
      (passes_both (target_heads s) ls ls ns _ (recode_set s rest)
      (sequence_read s c declared outer takes free t n (recode_items s items) (ReadyItems s (suc n) items) (t.element == 0) refl deep h.0
      (λ e. items_read s c declared outer takes free n items deep (h.0 e).3)) (trees_read s c declared outer takes free n rest deep h.1))
  trees_read s c declared outer takes free n (fragments t vr values rest) deep h =
      let ls : List Level = endless_level c s declared ∷ outer in
      let ns : List Level = endless_level c (after_trees s (normal s rest)) declared ∷ outer in
      subst (λ (z : Syntax). Passes (target_heads s) ls (recode_set s (fragments t vr values rest)) (endless_level c z declared ∷ outer)) (fragments_then_same s t vr (map (evened 0) values) (normal s rest) (t.element == 0))
      (passes_both (target_heads s) ls ls ns _ (recode_set s rest) (fragments_read s c declared outer takes free t vr n values (t.element == 0) refl deep h.0) (trees_read s c declared outer takes free n rest deep h.1))

  items_read : (s : Syntax) (c : Container) (declared : Length) (outer : List Level) (takes : TakesElements c declared) (free : Endless outer) (n : ℕ) (x : Items) → depth (endless_level c s declared ∷ outer) ≡ n → ReadyItems s (suc n) x
      → Passes (target_heads s) (endless_level sequence_container s Undefined ∷ endless_level c s declared ∷ outer) (recode_items s x) (endless_level sequence_container s Undefined ∷ endless_level c s declared ∷ outer)
  items_read s c declared outer takes free n no_item deep h = passes_none (target_heads s) (endless_level sequence_container s Undefined ∷ endless_level c s declared ∷ outer)
  items_read s c declared outer takes free n (item size set rest) deep h =
      let ls : List Level = endless_level sequence_container s Undefined ∷ endless_level c s declared ∷ outer in
      let ms : List Level = endless_level an_item s Undefined ∷ ls in
      let ns : List Level = endless_level an_item (after_trees s (normal s set)) Undefined ∷ ls in
      passes_both (target_heads s) ls ls ls (item_head s Undefined ++ recode_set s set ++ item_delimiter s) (recode_items s rest)
      (passes_both (target_heads s) ls ns ls (item_head s Undefined ++ recode_set s set) (item_delimiter s)
      (passes_both (target_heads s) ls ms ns (item_head s Undefined) (recode_set s set) (item_opens_set s c declared outer takes free)
      (trees_read s an_item Undefined ls item_takes (refl, (refl, free)) (suc n) set (in_set s ls (suc n) (deeper s (endless_level c s declared ∷ outer) n deep)) h.0))
      (item_ends s c declared outer takes free (normal s set)))
      (items_read s c declared outer takes free n rest deep h.1)
