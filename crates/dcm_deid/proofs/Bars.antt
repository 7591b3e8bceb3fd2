-- The sink knows the last tag of the innermost open data set.
use Rattle.std.proofs.Common.{◌≡◌, ◌≤◌, ◌<◌, ℕ, suc, ◌+◌, List, [], ◌∷◌, ◌++◌, length, map, fold, Option, Some, None, Bool, true, false, refl, sym, ◌∙◌, ap, arith, cond, zero}
use Rattle.std.specs.Prelude.{option_map, nat_lt}
use Rattle.std.proofs.lemmas.Bool.{lt-ltb}
use Rattle.dcm_lemmas.proofs.Numbers.{added_to_nothing}
use Rattle.dcm_lemmas.proofs.Choice.{if_true}
use Rattle.dcm_base.specs.declared.tag.Tag.{Tag}
use Rattle.dcm_base.specs.declared.vr.Vr.{Vr}
use Rattle.dcm_base.specs.declared.length.Length.{Length}
use Rattle.dcm_base.specs.declared.length.Length.TheVariants.{Known, Undefined}
use Rattle.dcm_base.specs.declared.syntax.Syntax.{Syntax}
use Rattle.dcm_base.specs.declared.fault.Fault.{Fault}
use Rattle.dcm_base.specs.declared.fault.Fault.TheVariants.{NotAscending, IdentityStays}
use Rattle.dcm_base.specs.declared.form.Form.TheVariants.{Value as a_value, Sequence as a_sequence, FragmentList as a_fragment_list}
use Rattle.dcm_base.specs.Tree.Front.{Front, front, OpenTree, nothing_open, open_leaf, open_sequence, open_fragments, OpenItem, no_open_item, open_item}
use Rattle.dcm_base.specs.Tree.Tree.{Trees, no_tree, leaf, sequence, fragments, Items, no_item, item}
use Rattle.dcm_base.specs.Tables.Tag.{is_above}
use Rattle.dcm_base.specs.Reading.Bars.{innermost_reached, reached_in_tree, reached_in_item, holds_identity, identity_fault, identity_bar, items_open, items_open_in, items_open_at}
use Rattle.dcm_base.specs.Bytes.Spelling.{last_tag, reached_tag}
use Rattle.dcm_base.specs.Tree.Value.{order}
use Rattle.dcm_base.specs.Steps.Atoms.{Atom, opens, value_byte, closes_leaf, opens_item, closes_item, closes_sequence, opens_fragment, fragments_then, open_fragment_atoms, end_atoms, ShowTrees, ShowItems, Shows, ShowsOpen, ShowsOpenItem}
use Rattle.dcm_sinks.proofs.Dumps.OpenLists.{stays_bytes, stays_on, stays_same}
use Rattle.dcm_stream.specs.Judging.{fault_of}
use Rattle.dcm_stream.specs.declared.token.Bar.{Bar as SinkBar}
use Rattle.dcm_stream.specs.declared.token.Bar.TheVariants.{Order, Identity}
use Rattle.dcm_stream.specs.Driven.{bars_by}
use Rattle.dcm_sinks.specs.Laws.{StaysShallow}
use Rattle.dcm_deid.specs.declared.fate.Options.{Options}
use Rattle.dcm_deid.specs.DeidentifySink.{Place, State, begun, next, judged_by_depth, after_item, deidentify_bar}
use Rattle.dcm_deid.proofs.Dropped.{stays_here, head_stays, fragments_stay, trees_stay, items_stay}

-- the last tags of the open data sets
pub record At (s : State) (last : Option Tag) (outer : List (Option Tag)) : Type 0 where
  pub is_last : s.place.last ≡ last
  pub is_outer : s.place.outer ≡ outer

-- the same state comes of a row of atoms as of another state and the rest of it
abbrev pub Comes : State → List Atom → List Atom → Option Tag → List (Option Tag) → Type 0
Comes s atoms after last outer = (t : State) × (fold next s atoms ≡ fold next t after) × At t last outer

comes_then : (s t : State) (x y z : List Atom) (last : Option Tag) (outer : List (Option Tag)) → fold next s x ≡ fold next t y → Comes t y z last outer → Comes s x z last outer
comes_then s t x y z last outer e c = (c.0, e ∙ c.1, c.2)

judged_outer : (d : ℕ) (o : Options) (p : Place) (tag : Tag) (vr : Vr) (declared : Length) (s : Syntax) → (judged_by_depth d o p tag vr declared s).outer ≡ p.outer
judged_outer zero o p tag vr declared s = refl
judged_outer (suc n) o p tag vr declared s = refl

at_head : (s : State) (last : Option Tag) (outer : List (Option Tag)) (tag : Tag) (vr : Vr) (declared : Length) (syntax : Syntax) → At s last outer → At (next s (opens tag vr declared syntax)) (Some tag) outer
at_head s last outer tag vr declared syntax a = record { is_last = refl; is_outer = judged_outer s.place.dropped s.options s.place tag vr declared syntax ∙ a.is_outer }

at_bytes : (s : State) (last : Option Tag) (outer : List (Option Tag)) (v : List ℕ) (after : List Atom) → At s last outer → Comes s (map value_byte v ++ after) after last outer
at_bytes s last outer [] after a = (s, refl, a)
at_bytes s last outer (b ∷ v) after a = at_bytes (next s (value_byte b)) last outer v after (record { is_last = a.is_last; is_outer = a.is_outer })

at_value : (s : State) (last : Option Tag) (outer : List (Option Tag)) (v : List ℕ) (after : List Atom) → At s last outer → Comes s (map value_byte v ++ closes_leaf ∷ after) after last outer
at_value s last outer v after a =
    let c = at_bytes s last outer v (closes_leaf ∷ after) a in
    (next c.0 closes_leaf, c.1, record { is_last = c.2.is_last; is_outer = c.2.is_outer })

at_fragments : (s : State) (last : Option Tag) (outer : List (Option Tag)) (values : List (List ℕ)) (after : List Atom) → At s last outer → Comes s (fragments_then values after) after last outer
unfolding fragments_then
at_fragments s last outer [] after a = (s, refl, a)
at_fragments s last outer (v ∷ values) after a =
    let c = at_value (next s (opens_fragment (length v))) last outer v (fragments_then values after) (record { is_last = a.is_last; is_outer = a.is_outer }) in
    let d = at_fragments c.0 last outer values after c.2 in
    (d.0, c.1 ∙ d.1, d.2)

at_item : (s : State) (last : Option Tag) (outer : List (Option Tag)) (declared : Length) → length outer < 64 → At s last outer → At (next s (opens_item declared)) None (last ∷ outer)
at_item s last outer declared room a =
    let is = if_true (nat_lt (length s.place.outer) 64) _ s.place (ap (λ (x : List (Option Tag)). nat_lt (length x) 64) a.is_outer ∙ lt-ltb (length outer) 64 room) in
    record { is_last = ap (λ (p : Place). p.last) is; is_outer = ap (λ (p : Place). p.outer) is ∙ ap (λ (l : Option Tag). l ∷ s.place.outer) a.is_last ∙ ap (λ (x : List (Option Tag)). last ∷ x) a.is_outer }

at_item_end : (s : State) (inner last : Option Tag) (outer : List (Option Tag)) → At s inner (last ∷ outer) → At (next s closes_item) last outer
at_item_end s inner last outer a =
    let is = ap (λ (x : List (Option Tag)). after_item s.place x) a.is_outer in
    record { is_last = ap (λ (p : Place). p.last) is; is_outer = ap (λ (p : Place). p.outer) is }

mutual
  unfolding ShowTrees last_tag

  trees_at : (t : Trees) (lists : ℕ) (s : State) (last : Option Tag) (outer : List (Option Tag)) (atoms after : List Atom) → ShowTrees t atoms after → StaysShallow lists atoms → length outer ≡ lists → At s last outer → Comes s atoms after (last_tag last t) outer
  trees_at no_tree lists s last outer atoms after e h same a = (s, ap (fold next s) e, a)
  trees_at (leaf tag vr value rest) lists s last outer atoms after (syntax, others, fo, is, more) h same a =
      let there = stays_on lists closes_leaf others (stays_bytes lists (order syntax vr value) (closes_leaf ∷ others) (head_stays lists tag vr (Known (length value)) syntax a_value _ fo (stays_same lists atoms _ is h))) in
      let c = at_value (next s (opens tag vr (Known (length value)) syntax)) (Some tag) outer (order syntax vr value) others (at_head s last outer tag vr (Known (length value)) syntax a) in
      comes_then s c.0 atoms others after _ outer (ap (fold next s) is ∙ c.1) (trees_at rest lists c.0 (Some tag) outer others after more there same c.2)
  trees_at (sequence tag vr declared items rest) lists s last outer atoms after (syntax, contents, others, fo, is, inner, more) h same a =
      let within = head_stays lists tag vr declared syntax a_sequence contents fo (stays_same lists atoms _ is h) in
      let there = stays_on (suc lists) closes_sequence others (items_stay items (suc lists) contents (closes_sequence ∷ others) inner within) in
      let c = items_at items (suc lists) (next s (opens tag vr declared syntax)) (Some tag) outer contents (closes_sequence ∷ others) inner within (omega (arith, same)) (at_head s last outer tag vr declared syntax a) in
      comes_then s (next c.0 closes_sequence) atoms others after _ outer (ap (fold next s) is ∙ c.1) (trees_at rest lists (next c.0 closes_sequence) (Some tag) outer others after more there same (record { is_last = c.2.is_last; is_outer = c.2.is_outer }))
  trees_at (fragments tag vr values rest) lists s last outer atoms after (syntax, others, fo, is, more) h same a =
      let within = head_stays lists tag vr Undefined syntax a_fragment_list (fragments_then values (closes_sequence ∷ others)) fo (stays_same lists atoms _ is h) in
      let there = stays_on (suc lists) closes_sequence others (fragments_stay (suc lists) values (closes_sequence ∷ others) within) in
      let c = at_fragments (next s (opens tag vr Undefined syntax)) (Some tag) outer values (closes_sequence ∷ others) (at_head s last outer tag vr Undefined syntax a) in
      comes_then s (next c.0 closes_sequence) atoms others after _ outer (ap (fold next s) is ∙ c.1) (trees_at rest lists (next c.0 closes_sequence) (Some tag) outer others after more there same (record { is_last = c.2.is_last; is_outer = c.2.is_outer }))

  items_at : (t : Items) (lists : ℕ) (s : State) (last : Option Tag) (outer : List (Option Tag)) (atoms after : List Atom) → ShowItems t atoms after → StaysShallow lists atoms → suc (length outer) ≡ lists → At s last outer → Comes s atoms after last outer
  items_at no_item lists s last outer atoms after e h same a = (s, ap (fold next s) e, a)
  items_at (item declared set rest) lists s last outer atoms after (contents, others, is, inner, more) h same a =
      let most : lists ≤ 64 = stays_here lists atoms h in
      let within = stays_on lists (opens_item declared) contents (stays_same lists atoms _ is h) in
      let there = stays_on lists closes_item others (trees_stay set lists contents (closes_item ∷ others) inner within) in
      let c = trees_at set lists (next s (opens_item declared)) None (last ∷ outer) contents (closes_item ∷ others) inner within (omega (arith, same)) (at_item s last outer declared (omega (arith, same, most)) a) in
      comes_then s (next c.0 closes_item) atoms others after _ outer (ap (fold next s) is ∙ c.1) (items_at rest lists (next c.0 closes_item) last outer others after more there same (at_item_end c.0 _ last outer c.2))

abbrev last_of : State → List Atom → Option Tag
last_of s atoms = (fold next s atoms).place.last

value_keeps : (u : List ℕ) (s : State) → last_of s (map value_byte u) ≡ s.place.last
value_keeps [] s = refl
value_keeps (b ∷ u) s = value_keeps u (next s (value_byte b))

fragment_keeps : (l : Option (ℕ × List ℕ)) (s : State) → last_of s (open_fragment_atoms l) ≡ s.place.last
fragment_keeps None s = refl
fragment_keeps (Some f) s = value_keeps f.1 (next s (opens_fragment f.0))

mutual
  unfolding Shows innermost_reached

  pub last_front : (f : Front) (lists : ℕ) (s : State) (outer : List (Option Tag)) (atoms : List Atom) → Shows f atoms → StaysShallow lists atoms → length outer ≡ lists → At s None outer → last_of s atoms ≡ innermost_reached f
  last_front (front whole p r c) lists s outer atoms (others, shown, more, may, re) h same a =
      let t = trees_at whole lists s None outer atoms others shown h same a in
      ap (λ (u : State). u.place.last) t.1
      ∙ last_open p whole lists t.0 outer c others more (trees_stay whole lists atoms others shown h) same t.2
      ∙ ap (λ (x : Option Tag). reached_in_tree x p) (sym re)

  last_open : (p : OpenTree) (whole : Trees) (lists : ℕ) (s : State) (outer : List (Option Tag)) (c : Bool) (atoms : List Atom) → ShowsOpen p (end_atoms c) atoms → StaysShallow lists atoms → length outer ≡ lists → At s (last_tag None whole) outer
      → last_of s atoms ≡ reached_in_tree (reached_tag whole p) p
  last_open nothing_open whole lists s outer false atoms e h same a = ap (last_of s) e ∙ a.is_last
  last_open nothing_open whole lists s outer true atoms e h same a = ap (last_of s) e ∙ a.is_last
  last_open (open_leaf tag vr size value) whole lists s outer c atoms (syntax, fo, le, is) h same a = ap (last_of s) is ∙ value_keeps (order syntax vr value) (next s (opens tag vr (Known size) syntax))
  last_open (open_sequence tag vr declared items last') whole lists s outer c atoms (syntax, contents, others, fo, is, inner, more) h same a =
      let within = head_stays lists tag vr declared syntax a_sequence contents fo (stays_same lists atoms _ is h) in
      let t = items_at items (suc lists) (next s (opens tag vr declared syntax)) (Some tag) outer contents others inner within (omega (arith, same)) (at_head s _ outer tag vr declared syntax a) in
      ap (last_of s) is
      ∙ ap (λ (u : State). u.place.last) t.1
      ∙ last_item last' tag (suc lists) t.0 outer others more (items_stay items (suc lists) contents others inner within) (omega (arith, same)) t.2
  last_open (open_fragments tag vr values last') whole lists s outer c atoms (syntax, fo, mi, is) h same a =
      let t = at_fragments (next s (opens tag vr Undefined syntax)) (Some tag) outer values (open_fragment_atoms last') (at_head s _ outer tag vr Undefined syntax a) in
      ap (last_of s) is ∙ ap (λ (u : State). u.place.last) t.1 ∙ fragment_keeps last' t.0 ∙ t.2.is_last

  last_item : (p : OpenItem) (tag : Tag) (lists : ℕ) (s : State) (outer : List (Option Tag)) (atoms : List Atom) → ShowsOpenItem p atoms → StaysShallow lists atoms → suc (length outer) ≡ lists → At s (Some tag) outer → last_of s atoms ≡ reached_in_item (Some tag) p
  last_item no_open_item tag lists s outer atoms e h same a = ap (last_of s) e ∙ a.is_last
  last_item (open_item declared set) tag lists s outer atoms (contents, is, still, more) h same a =
      let most : lists ≤ 64 = stays_here lists atoms h in
      ap (last_of s) is
      ∙ last_front set lists (next s (opens_item declared)) (Some tag ∷ outer) contents more (stays_on lists (opens_item declared) contents (stays_same lists atoms _ is h)) (omega (arith, same)) (at_item s (Some tag) outer declared (omega (arith, same, most)) a)

-- ---- so many items are open

abbrev outer_of : State → List Atom → ℕ
outer_of s atoms = length (fold next s atoms).place.outer

value_outer : (u : List ℕ) (s : State) → outer_of s (map value_byte u) ≡ length s.place.outer
value_outer [] s = refl
value_outer (b ∷ u) s = value_outer u (next s (value_byte b))

fragment_outer : (l : Option (ℕ × List ℕ)) (s : State) → outer_of s (open_fragment_atoms l) ≡ length s.place.outer
fragment_outer None s = refl
fragment_outer (Some f) s = value_outer f.1 (next s (opens_fragment f.0))

mutual
  unfolding Shows items_open

  pub outer_front : (f : Front) (lists : ℕ) (s : State) (outer : List (Option Tag)) (atoms : List Atom) → Shows f atoms → StaysShallow lists atoms → length outer ≡ lists → At s None outer → outer_of s atoms ≡ items_open f + length outer
  outer_front (front whole p r c) lists s outer atoms (others, shown, more, may, re) h same a =
      let t = trees_at whole lists s None outer atoms others shown h same a in
      ap (λ (u : State). length u.place.outer) t.1 ∙ outer_open p whole lists t.0 outer c others more (trees_stay whole lists atoms others shown h) same t.2

  outer_open : (p : OpenTree) (whole : Trees) (lists : ℕ) (s : State) (outer : List (Option Tag)) (c : Bool) (atoms : List Atom) → ShowsOpen p (end_atoms c) atoms → StaysShallow lists atoms → length outer ≡ lists → At s (last_tag None whole) outer
      → outer_of s atoms ≡ items_open_in p + length outer
  outer_open nothing_open whole lists s outer false atoms e h same a = ap (outer_of s) e ∙ ap length a.is_outer ∙ added_to_nothing (length outer)
  outer_open nothing_open whole lists s outer true atoms e h same a = ap (outer_of s) e ∙ ap length a.is_outer ∙ added_to_nothing (length outer)
  outer_open (open_leaf tag vr size value) whole lists s outer c atoms (syntax, fo, le, is) h same a =
      ap (outer_of s) is ∙ value_outer (order syntax vr value) (next s (opens tag vr (Known size) syntax)) ∙ ap length (at_head s _ outer tag vr (Known size) syntax a).is_outer ∙ added_to_nothing (length outer)
  outer_open (open_sequence tag vr declared items last') whole lists s outer c atoms (syntax, contents, others, fo, is, inner, more) h same a =
      let within = head_stays lists tag vr declared syntax a_sequence contents fo (stays_same lists atoms _ is h) in
      let t = items_at items (suc lists) (next s (opens tag vr declared syntax)) (Some tag) outer contents others inner within (omega (arith, same)) (at_head s _ outer tag vr declared syntax a) in
      ap (outer_of s) is
      ∙ ap (λ (u : State). length u.place.outer) t.1
      ∙ outer_item last' tag (suc lists) t.0 outer others more (items_stay items (suc lists) contents others inner within) (omega (arith, same)) t.2
  outer_open (open_fragments tag vr values last') whole lists s outer c atoms (syntax, fo, mi, is) h same a =
      let t = at_fragments (next s (opens tag vr Undefined syntax)) (Some tag) outer values (open_fragment_atoms last') (at_head s _ outer tag vr Undefined syntax a) in
      ap (outer_of s) is ∙ ap (λ (u : State). length u.place.outer) t.1 ∙ fragment_outer last' t.0 ∙ ap length t.2.is_outer ∙ added_to_nothing (length outer)

  outer_item : (p : OpenItem) (tag : Tag) (lists : ℕ) (s : State) (outer : List (Option Tag)) (atoms : List Atom) → ShowsOpenItem p atoms → StaysShallow lists atoms → suc (length outer) ≡ lists → At s (Some tag) outer → outer_of s atoms ≡ items_open_at p + length outer
  outer_item no_open_item tag lists s outer atoms e h same a = ap (outer_of s) e ∙ ap length a.is_outer ∙ added_to_nothing (length outer)
  outer_item (open_item declared set) tag lists s outer atoms (contents, is, still, more) h same a =
      let most : lists ≤ 64 = stays_here lists atoms h in
      let inside = outer_front set lists (next s (opens_item declared)) (Some tag ∷ outer) contents more (stays_on lists (opens_item declared) contents (stays_same lists atoms _ is h)) (omega (arith, same)) (at_item s (Some tag) outer declared (omega (arith, same, most)) a) in
      ap (outer_of s) is ∙ (let e = inside in omega (arith, e))

by_test : (a b : Bool) → option_map fault_of (cond {A = Option SinkBar} a (cond {A = Option SinkBar} b (Some Identity) None) (Some Order)) ≡ cond {A = Option Fault} a (cond {A = Option Fault} b (Some IdentityStays) None) (Some NotAscending)
by_test true true = refl
by_test true false = refl
by_test false b = refl

-- the law
pub bar_steps : (o : Options) (k : List ℕ) (f : Front) (atoms : List Atom) (tag : Tag) (vr : Vr) (declared : Length) → StaysShallow 0 atoms → Shows f atoms
    → bars_by deidentify_bar next (begun o k) atoms tag vr declared ≡ identity_bar f tag vr declared
bar_steps o k f atoms tag vr declared h shown =
    by_test (is_above tag (last_of (begun o k) atoms)) (holds_identity tag)
    ∙ ap (λ (l : Option Tag). cond {A = Option Fault} (is_above tag l) (identity_fault tag) (Some NotAscending)) (last_front f 0 (begun o k) [] atoms shown h refl (record { is_last = refl; is_outer = refl }))
