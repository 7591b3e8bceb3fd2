-- What the sink makes of the atoms of whole elements: those of what they become.
use Rattle.std.proofs.Common.{◌≡◌, ℕ, zero, suc, List, [], ◌∷◌, ◌++◌, length, map, fold, Option, Some, None, Bool, true, false, ◌||◌, not, refl, sym, ap, subst, ◌∙◌, append_assoc}
use Rattle.std.specs.Prelude.{option_map, if◌then◌else◌, nat_lt}
use Rattle.dcm_base.specs.declared.tag.Tag.{Tag}
use Rattle.dcm_base.specs.declared.vr.Vr.{Vr}
use Rattle.dcm_base.specs.declared.syntax.Syntax.{Syntax}
use Rattle.dcm_base.specs.Tables.Syntax.{Little}
use Rattle.dcm_base.specs.declared.length.Length.{Length}
use Rattle.dcm_base.specs.declared.length.Length.TheVariants.{Known, Undefined}
use Rattle.dcm_base.specs.declared.form.Form.{Form}
use Rattle.dcm_base.specs.declared.form.Form.TheVariants.{Value as a_value, Sequence as a_sequence, FragmentList as a_fragment_list}
use Rattle.dcm_base.specs.Bytes.Spelling.{form, read_as}
use Rattle.dcm_base.specs.Tree.Tree.{Trees, Items}
use Rattle.dcm_base.specs.Tree.Value.{order}
use Rattle.dcm_base.specs.Steps.Atoms.{Atom, opens, value_byte, closes_leaf, opens_item, closes_item, closes_sequence, opens_fragment, ends, fragments_then, ShowTrees, ShowItems}
use Rattle.dcm_base.specs.Steps.Steps.{outputs}
use Rattle.dcm_stream.specs.Tokens.{leaf_atoms}
use Rattle.dcm_deid.specs.MadeNew.{made_new}
use Rattle.dcm_deid.specs.declared.deidentifier.Seen.{Seen}
use Rattle.dcm_deid.specs.declared.fate.Options.{Options}
use Rattle.dcm_deid.specs.declared.fate.Fate.{Fate}
use Rattle.dcm_deid.specs.declared.fate.Fate.TheVariants.{Remove, Empty, Replace, Anew, Keep}
use Rattle.dcm_deid.specs.declared.fate.NewValue.{NewValue}
use Rattle.dcm_deid.specs.Fate.{fate_as, is_kept}
use Rattle.dcm_deid.specs.Deidentify.{Renaming, dummy, value_by, leaf_by, sequence_by, fragments_by}
use Rattle.dcm_deid.specs.DeidentifySink.{Held, Place, State, next, passed, passed_by_depth, nothing_held, held_with, new_of, seen_after, nothing_seen, held_if, is_held, head_by, read_by, depth_of, said_before, judged_by_depth, after_item, next_place}
use Rattle.dcm_stream.specs.Skip.{opened}
use Rattle.dcm_deid.proofs.HeldValues.{held_whole, new_is}
use Rattle.dcm_deid.proofs.MadeValues.{nothing_of_long}
use Rattle.dcm_deid.proofs.Forms.{value_alone, undefined_sequence, sequence_alone}
use Rattle.dcm_deid.proofs.Dropped.{at, place_at, state_at, Same, drop_value, drop_close}

abbrev pub out : State → List Atom → List Atom
out s atoms = outputs next passed s atoms

-- ---- what is passed on does not depend on what was seen

abbrev showing : Place → Seen → Place
showing p m = record { last = p.last; outer = p.outer; dropped = p.dropped; held = p.held; seen = m }

passed_showing : (d : ℕ) (o : Options) (k : List ℕ) (p : Place) (m : Seen) (a : Atom) → passed_by_depth d o k (showing p m) a ≡ passed_by_depth d o k p a
passed_showing zero o k p m (opens tag vr declared s) = refl
passed_showing zero o k p m (value_byte b) = refl
passed_showing zero o k p m closes_leaf = refl
passed_showing zero o k p m (opens_item declared) = refl
passed_showing zero o k p m closes_item = refl
passed_showing zero o k p m closes_sequence = refl
passed_showing zero o k p m (opens_fragment size) = refl
passed_showing zero o k p m ends = refl
passed_showing (suc n) o k p m (opens tag vr declared s) = refl
passed_showing (suc n) o k p m (value_byte b) = refl
passed_showing (suc n) o k p m closes_leaf = refl
passed_showing (suc n) o k p m (opens_item declared) = refl
passed_showing (suc n) o k p m closes_item = refl
passed_showing (suc n) o k p m closes_sequence = refl
passed_showing (suc n) o k p m (opens_fragment size) = refl
passed_showing (suc n) o k p m ends = refl

judged_showing : (d : ℕ) (o : Options) (p : Place) (m : Seen) (tag : Tag) (vr : Vr) (declared : Length) (s : Syntax) → judged_by_depth d o (showing p m) tag vr declared s ≡ showing (judged_by_depth d o p tag vr declared s) m
judged_showing zero o p m tag vr declared s = refl
judged_showing (suc n) o p m tag vr declared s = refl

abbrev last_at : Place → Tag → Place
last_at p tag = record { last = Some tag; outer = p.outer; dropped = p.dropped; held = p.held; seen = p.seen }

room_showing : (t : Bool) (p q : Place) (m : Seen) → (if t then showing p m else showing q m) ≡ showing (if t then p else q) m
room_showing true p q m = refl
room_showing false p q m = refl

item_showing : (p : Place) (m : Seen) (outer : List (Option Tag)) → after_item (showing p m) outer ≡ showing (after_item p outer) m
item_showing p m [] = refl
item_showing p m (l ∷ outer) = refl

abbrev Shows : Options → Place → Seen → Atom → Type 0
Shows o p m a = (m2 : Seen) × (next_place o (showing p m) a ≡ showing (next_place o p a) m2)

next_showing : (o : Options) (p : Place) (m : Seen) (a : Atom) → Shows o p m a
next_showing o p m (opens tag vr declared s) = (m, ap (λ (q : Place). last_at q tag) (judged_showing p.dropped o p m tag vr declared s))
next_showing o p m (value_byte b) = (m, refl)
next_showing o p m closes_leaf = (seen_after o p.dropped p.held m, refl)
next_showing o p m (opens_item declared) = (m, room_showing (nat_lt (length p.outer) 64) _ p m)
next_showing o p m closes_item = (m, item_showing p m p.outer)
next_showing o p m closes_sequence = (m, refl)
next_showing o p m (opens_fragment size) = (m, refl)
next_showing o p m ends = (m, refl)

join : (a b x y : List Atom) → a ≡ b → x ≡ y → a ++ x ≡ b ++ y
join a b x y e f = ap (λ (z : List Atom). z ++ x) e ∙ ap (λ (z : List Atom). b ++ z) f

out_showing : (o : Options) (k : List ℕ) (p : Place) (m : Seen) (atoms : List Atom) → out (state_at o k (showing p m)) atoms ≡ out (state_at o k p) atoms
out_showing o k p m [] = refl
out_showing o k p m (a ∷ atoms) =
    let n = next_showing o p m a in
    join _ _ _ _ (passed_showing p.dropped o k p m a) (ap (λ (q : Place). out (state_at o k q) atoms) n.1 ∙ out_showing o k (next_place o p a) n.0 atoms)

pub out_any : (o : Options) (k : List ℕ) (last : Option Tag) (outer : List (Option Tag)) (d : ℕ) (m n : Seen) (atoms : List Atom) → out (at o k last outer d m) atoms ≡ out (at o k last outer d n) atoms
out_any o k last outer d m n atoms = out_showing o k (place_at last outer d n) m atoms

-- ---- one element, by its fate

abbrev pub judged_state : Options → List ℕ → List (Option Tag) → Seen → Tag → Vr → Syntax → Fate → Form → State
judged_state o k outer m tag vr s fate f =
    state_at o k (record { last = Some tag; outer = outer; dropped = opened 0 (not (is_kept fate)); held = held_if (is_held fate f tag) fate tag vr s; seen = m })

abbrev pub fate_here : Options → List (Option Tag) → Form → Tag → Fate
fate_here o outer f tag = fate_as o (depth_of outer) (read_by f) tag

pub head_out : (o : Options) (k : List ℕ) (last : Option Tag) (outer : List (Option Tag)) (m : Seen) (tag : Tag) (vr : Vr) (declared : Length) (s : Syntax) (x : List Atom) (f : Form) → form s (read_as s tag vr) declared ≡ f
    → out (at o k last outer 0 m) (opens tag vr declared s ∷ x)
    ≡ (said_before o (place_at last outer 0 m) (Some tag) ++ head_by (fate_here o outer f tag) f tag vr declared s) ++ out (judged_state o k outer m tag vr s (fate_here o outer f tag) f) x
head_out o k last outer m tag vr declared s x f e =
    ap (λ (g : Form). (said_before o (place_at last outer 0 m) (Some tag) ++ head_by (fate_here o outer g tag) g tag vr declared s) ++ out (judged_state o k outer m tag vr s (fate_here o outer g tag) g) x) e

pub leaf_then : (tag : Tag) (vr : Vr) (v : List ℕ) (x : List Atom) → leaf_atoms tag vr v ++ x ≡ opens tag vr (Known (length v)) Little ∷ (map value_byte v ++ closes_leaf ∷ x)
leaf_then tag vr v x = ap (λ (y : List Atom). opens tag vr (Known (length v)) Little ∷ y) (append_assoc (map value_byte v) (closes_leaf ∷ []) x)

abbrev pub held_at : Options → List ℕ → Option Tag → List (Option Tag) → ℕ → Option Held → Seen → State
held_at o k last outer d h m = state_at o k (record { last = last; outer = outer; dropped = d; held = h; seen = m })

pub uid_bytes : (o : Options) (k : List ℕ) (last : Option Tag) (outer : List (Option Tag)) (h : Held) (m : Seen) (v : List ℕ) (x : List Atom)
    → out (held_at o k last outer 1 (Some h) m) (map value_byte v ++ x) ≡ out (held_at o k last outer 1 (Some (fold held_with h v)) m) x
uid_bytes o k last outer h m [] x = refl
uid_bytes o k last outer h m (b ∷ v) x = uid_bytes o k last outer (held_with h b) m v x

new_value_put : (o : Options) (k : List ℕ) (outer : List (Option Tag)) (m : Seen) (made : NewValue) (tag : Tag) (vr : Vr) (s : Syntax) (value : List ℕ) (x : List Atom)
    → out (held_at o k (Some tag) outer 1 (Some (nothing_held (Anew made) tag vr s)) m) (map value_byte (order s vr value) ++ closes_leaf ∷ x) ≡ leaf_atoms tag vr (value_by (made_new o k) (Anew made) vr value) ++ out (at o k (Some tag) outer 0 m) x
new_value_put o k outer m made tag vr s value x =
    let new : Renaming = made_new o k in
    let h : Held = fold held_with (nothing_held (Anew made) tag vr s) (order s vr value) in
    let whole = held_whole (Anew made) tag vr s value in
    uid_bytes o k (Some tag) outer (nothing_held (Anew made) tag vr s) m (order s vr value) (closes_leaf ∷ x)
    ∙ ap (λ (y : List Atom). leaf_atoms h.tag h.vr (new_of new h) ++ y) (out_any o k (Some tag) outer 0 (seen_after o 1 (Some h) m) m x)
    ∙ ap (λ (y : List Atom). y ++ out (at o k (Some tag) outer 0 m) x)
    (ap (λ (g : Held). leaf_atoms g.tag g.vr (new_of new g)) whole ∙ ap (leaf_atoms tag vr) (sym (ap (new_of new) whole) ∙ new_is new made tag vr s value (nothing_of_long o k)))

pub keep_value : (o : Options) (k : List ℕ) (last : Option Tag) (outer : List (Option Tag)) (h : Option Held) (m : Seen) (v : List ℕ) (x : List Atom)
    → out (held_at o k last outer 0 h m) (map value_byte v ++ closes_leaf ∷ x) ≡ map value_byte v ++ closes_leaf ∷ out (at o k last outer 0 nothing_seen) x
keep_value o k last outer h m [] x = ap (λ (y : List Atom). closes_leaf ∷ y) (out_any o k last outer 0 (seen_after o 0 h m) nothing_seen x)
keep_value o k last outer h m (b ∷ v) x = ap (λ (y : List Atom). value_byte b ∷ y) (keep_value o k last outer (option_map (λ g. held_with g b) h) m v x)

pub keep_fragments : (o : Options) (k : List ℕ) (last : Option Tag) (outer : List (Option Tag)) (m : Seen) (values : List (List ℕ)) (x : List Atom)
    → out (at o k last outer 0 m) (fragments_then values (closes_sequence ∷ x)) ≡ fragments_then values (closes_sequence ∷ out (at o k last outer 0 nothing_seen) x)
unfolding fragments_then
keep_fragments o k last outer m [] x = ap (λ (y : List Atom). closes_sequence ∷ y) (out_any o k last outer 0 m nothing_seen x)
keep_fragments o k last outer m (v ∷ values) x =
    ap (λ (y : List Atom). opens_fragment (length v) ∷ y)
    (keep_value o k last outer None m v (fragments_then values (closes_sequence ∷ x))
    ∙ ap (λ (y : List Atom). map value_byte v ++ closes_leaf ∷ y) (keep_fragments o k last outer nothing_seen values x))

pub shown_at : (t : Trees) (x y after : List Atom) → x ≡ y → ShowTrees t y after → ShowTrees t x after
shown_at t x y after e h = subst (λ (z : List Atom). ShowTrees t z after) (sym e) h

module _ (o : Options) (k : List ℕ) (outer : List (Option Tag)) (m : Seen) (tag : Tag) (vr : Vr) (s : Syntax) (others after : List Atom) (rest : Trees) (more : ShowTrees rest (out (at o k (Some tag) outer 0 nothing_seen) others) after) where
  after_value_left : (value : List ℕ) → ShowTrees rest (out (at o k (Some tag) outer 1 m) (map value_byte (order s vr value) ++ closes_leaf ∷ others)) after
  after_value_left value = shown_at rest _ _ after ((drop_value o k (Some tag) outer 0 m (order s vr value) others).outs ∙ out_any o k (Some tag) outer 0 m nothing_seen others) more

  pub leaf_shown : (fate : Fate) (value : List ℕ) → form s (read_as s tag vr) (Known (length value)) ≡ a_value
      → ShowTrees (leaf_by fate tag vr (value_by (made_new o k) fate vr value) rest) (head_by fate a_value tag vr (Known (length value)) s ++ out (judged_state o k outer m tag vr s fate a_value) (map value_byte (order s vr value) ++ closes_leaf ∷ others)) after
  unfolding ShowTrees
  leaf_shown Remove value fo = after_value_left value
  leaf_shown Empty value fo = (Little, _, value_alone s tag vr (length value) 0 fo, refl, after_value_left value)
  leaf_shown Replace value fo = (Little, _, value_alone s tag vr (length value) (length (dummy vr)) fo, leaf_then tag vr (dummy vr) _, after_value_left value)
  leaf_shown (Anew made) value fo =
      let new : List ℕ = value_by (made_new o k) (Anew made) vr value in (
        Little,
        out (at o k (Some tag) outer 0 m) others,
        value_alone s tag vr (length value) (length new) fo,
        new_value_put o k outer m made tag vr s value others ∙ leaf_then tag vr new (out (at o k (Some tag) outer 0 m) others),
        shown_at rest _ _ after (out_any o k (Some tag) outer 0 m nothing_seen others) more,
      )
  leaf_shown Keep value fo =
      (s, out (at o k (Some tag) outer 0 nothing_seen) others, fo, ap (λ (y : List Atom). opens tag vr (Known (length value)) s ∷ y) (keep_value o k (Some tag) outer _ m (order s vr value) others), more)

  after_list_left : (contents : List Atom) → Same (at o k (Some tag) outer 1 m) contents (at o k (Some tag) outer 1 m) (closes_sequence ∷ others) → ShowTrees rest (out (at o k (Some tag) outer 1 m) contents) after
  after_list_left contents dropped = shown_at rest _ _ after (dropped.outs ∙ (drop_close o k (Some tag) outer 0 m others).outs ∙ out_any o k (Some tag) outer 0 m nothing_seen others) more

  pub sequence_shown : (fate : Fate) (declared : Length) (items : Items) (contents : List Atom) → form s (read_as s tag vr) declared ≡ a_sequence
      → Same (at o k (Some tag) outer 1 m) contents (at o k (Some tag) outer 1 m) (closes_sequence ∷ others)
      → ShowItems items (out (at o k (Some tag) outer 0 m) contents) (closes_sequence ∷ out (at o k (Some tag) outer 0 nothing_seen) others)
      → ShowTrees (sequence_by fate tag vr items rest) (head_by fate a_sequence tag vr declared s ++ out (judged_state o k outer m tag vr s fate a_sequence) contents) after
  unfolding ShowTrees
  sequence_shown Remove declared items contents fo dropped kept = after_list_left contents dropped
  sequence_shown Empty declared items contents fo dropped kept = (Little, _, _, sequence_alone s tag vr declared fo, refl, refl, after_list_left contents dropped)
  sequence_shown Replace declared items contents fo dropped kept = (Little, _, _, sequence_alone s tag vr declared fo, refl, refl, after_list_left contents dropped)
  sequence_shown (Anew made) declared items contents fo dropped kept = (Little, _, _, sequence_alone s tag vr declared fo, refl, refl, after_list_left contents dropped)
  sequence_shown Keep declared items contents fo dropped kept =
      (s, out (at o k (Some tag) outer 0 m) contents, out (at o k (Some tag) outer 0 nothing_seen) others, undefined_sequence s (read_as s tag vr) declared fo, refl, kept, more)

  pub fragments_shown : (fate : Fate) (values : List (List ℕ)) → form s (read_as s tag vr) Undefined ≡ a_fragment_list
      → Same (at o k (Some tag) outer 1 m) (fragments_then values (closes_sequence ∷ others)) (at o k (Some tag) outer 1 m) (closes_sequence ∷ others)
      → ShowTrees (fragments_by fate tag vr values rest) (head_by fate a_fragment_list tag vr Undefined s ++ out (judged_state o k outer m tag vr s fate a_fragment_list) (fragments_then values (closes_sequence ∷ others))) after
  unfolding ShowTrees
  fragments_shown Remove values fo dropped = after_list_left _ dropped
  fragments_shown Empty values fo dropped = after_list_left _ dropped
  fragments_shown Replace values fo dropped = after_list_left _ dropped
  fragments_shown (Anew made) values fo dropped = after_list_left _ dropped
  fragments_shown Keep values fo dropped = (s, out (at o k (Some tag) outer 0 nothing_seen) others, fo, ap (λ (y : List Atom). opens tag vr Undefined s ∷ y) (keep_fragments o k (Some tag) outer m values others), more)
