-- The unique identifiers after what was read of a data set.
use Rattle.std.proofs.Common.{◌≡◌, ◌∙◌, sym, ap, refl, subst, ℕ, suc, List, ◌∷◌, ◌++◌, length, map, fold, arith, Option, Some, None, Bool, true, false, ◌&&◌, ◌||◌}
use Rattle.std.specs.Prelude.{if◌then◌else◌}
use Rattle.std.proofs.lemmas.List.Sums.{fold-append}
use Rattle.dcm_lemmas.proofs.Choice.{if_false}
use Rattle.dcm_lemmas.proofs.Truth.{or_after_false, or_first}
use Rattle.dcm_base.specs.declared.tag.Tag.{Tag}
use Rattle.dcm_base.specs.declared.vr.Vr.{Vr}
use Rattle.dcm_base.specs.declared.length.Length.TheVariants.{Known, Undefined}
use Rattle.dcm_base.specs.declared.syntax.Syntax.{Syntax}
use Rattle.dcm_base.specs.declared.form.Form.{Form}
use Rattle.dcm_base.specs.declared.form.Form.TheVariants.{Value as a_value, Sequence as a_sequence, FragmentList as a_fragment_list}
use Rattle.dcm_base.specs.Tables.Tag.{sequence_end_tag, same_tag}
use Rattle.dcm_base.specs.Tree.Tree.{Trees, no_tree, leaf, sequence, fragments}
use Rattle.dcm_base.specs.Tree.Front.{Front, front, OpenTree, nothing_open, open_leaf, open_sequence, open_fragments}
use Rattle.dcm_base.specs.Tree.Value.{order}
use Rattle.dcm_base.specs.Bytes.Spelling.{TreesAt, ItemsAt, SpellsFront, inside, after, after_trees, form, read_as}
use Rattle.dcm_base.specs.Reading.Reads.{Reads, ended as ended_front}
use Rattle.dcm_base.specs.Reading.Stop.{Bar, Stop, complete, refused}
use Rattle.dcm_base.specs.Steps.Atoms.{Atom, value_byte, closes_leaf, closes_sequence, fragments_then, open_fragment_atoms, end_atoms, ShowItems, ShowsOpen, trees_then, items_then, front_atoms, open_atoms}
use Rattle.dcm_base.proofs.DataSets.Shown.{items_shown, trees_shown, open_shown, enclosed_shown}
use Rattle.dcm_sinks.specs.Laws.{StaysShallow}
use Rattle.dcm_sinks.proofs.Dumps.OpenLists.{stays_on, stays_opened, stays_bytes, stays_fragments, stays_same, stays_trees, stays_items}
use Rattle.dcm_instance.specs.declared.names.InstanceUid.{InstanceUid}
use Rattle.dcm_instance.specs.declared.names.InstanceUid.TheVariants.{Study, Series, Instance}
use Rattle.dcm_instance.specs.declared.value.Progress.{Progress}
use Rattle.dcm_instance.specs.declared.value.Progress.TheVariants.{Missing, Open, Ended}
use Rattle.dcm_instance.specs.UidSink.{Held, UidState, Value, after_bytes, after_end, after_head, held_uid, held_with, is_decided, is_own, is_value, no_value, nothing_held, outcome, step, uid_of, uids_at, uids_begun, uids_next as next, with_bytes}
use Rattle.dcm_instance.specs.Uids.{fit_of, instance_in, is_behind, is_known, is_open_behind, is_past_series, named, uid_tag, up_to_series, value_in}
use Rattle.dcm_instance.proofs.HeldValues.{held_is_fit}
use Rattle.dcm_instance.proofs.Inside.{at, is_settled, items_inside, item_inside, fragments_inside, fragment_inside}
use Rattle.dcm_instance.proofs.Steps.{bytes_step, decided_atoms, undecided_bytes}

-- ---- one value

-- that of an element that has not come, or has ended
abbrev value_at : Option Held → Value
value_at None = no_value
value_at (Some h) = record { progress = Ended; held = h }

settles : (x : Option Held) → is_settled (value_at x).progress ≡ true
settles None = refl
settles (Some h) = refl

-- what it has, or what comes first
abbrev first_or : Option Held → Option (List ℕ) → Option (List ℕ)
first_or None o = fit_of o
first_or (Some h) o = held_uid h

first_none : (x : Option Held) → uid_of (value_at x) ≡ first_or x None
first_none None = refl
first_none (Some h) = refl

head_uid : (x : Option Held) (own : Bool) → uid_of (after_head (value_at x) own) ≡ uid_of (value_at x)
head_uid None true = refl
head_uid None false = refl
head_uid (Some h) own = refl

head_same : (x : Option Held) → after_head (value_at x) false ≡ value_at x
head_same None = refl
head_same (Some h) = refl

abbrev leaf_after : Option Held → (own : Bool) → List ℕ → Option Held
leaf_after None own bytes = if own then Some (fold held_with nothing_held bytes) else None
leaf_after (Some h) own bytes = Some h

leaf_value : (x : Option Held) (own : Bool) (bytes : List ℕ) → after_end (after_bytes (after_head (value_at x) own) bytes) ≡ value_at (leaf_after x own bytes)
leaf_value None true bytes = refl
leaf_value None false bytes = refl
leaf_value (Some h) own bytes = refl

leaf_first : (x : Option Held) (own : Bool) (bytes : List ℕ) (o : Option (List ℕ)) → first_or (leaf_after x own bytes) o ≡ first_or x (if own then Some bytes else o)
leaf_first None true bytes o = held_is_fit bytes
leaf_first None false bytes o = refl
leaf_first (Some h) own bytes o = refl

-- ---- one element

-- after the head of one of the outermost level
abbrev head_state : (past a b c : Bool) → (x y : Option Held) → UidState
head_state past a b c x y = record { depth = 1; is_past = past; study = after_head (value_at x) a; series = after_head no_value b; instance = after_head (value_at y) c }

-- and after its value
abbrev leaf_state : (a b c : Bool) → (x y : Option Held) → List ℕ → UidState
leaf_state a b c x y bytes = record { depth = 0; is_past = false; study = value_at (leaf_after x a bytes); series = value_at (leaf_after None b bytes); instance = value_at (leaf_after y c bytes) }

past_decided : (past : Bool) (a b c : Bool) (x y : Option Held) → past ≡ true → is_decided (head_state past a b c x y) ≡ true
past_decided past a b c x y e = rw e refl

series_decided : (a b c : Bool) (x y : Option Held) (bytes : List ℕ) → b ≡ true → is_decided (leaf_state a b c x y bytes) ≡ true
series_decided a b c x y bytes e = rw e refl

head_open : (a b c : Bool) (x y : Option Held) → is_decided (head_state false a b c x y) ≡ false
head_open a true c x y = refl
head_open a false c x y = refl

still_open : (a b c : Bool) (x y : Option Held) (bytes : List ℕ) → is_decided (with_bytes (head_state false a b c x y) bytes) ≡ false
still_open a true c x y bytes = refl
still_open a false c x y bytes = refl

state_at : ℕ → Value → Value → Value → UidState
state_at d a b c = record { depth = d; is_past = false; study = a; series = b; instance = c }

alike : (d : ℕ) (a b c x y z : Value) → a ≡ x → b ≡ y → c ≡ z → state_at d a b c ≡ state_at d x y z
alike d a b c x y z e f g = ap (λ (v : Value). state_at d v b c) e ∙ ap (λ (v : Value). state_at d x v c) f ∙ ap (λ (v : Value). state_at d x y v) g

leaf_closed : (a b c : Bool) (x y : Option Held) (bytes : List ℕ) → next (with_bytes (head_state false a b c x y) bytes) closes_leaf ≡ leaf_state a b c x y bytes
unfolding state_at
leaf_closed a b c x y bytes =
    if_false (is_decided (with_bytes (head_state false a b c x y) bytes)) _ (step (with_bytes (head_state false a b c x y) bytes) closes_leaf) (still_open a b c x y bytes)
    ∙ alike 0 _ _ _ _ _ _ (leaf_value x a bytes) (leaf_value None b bytes) (leaf_value y c bytes)

leaf_read : (a b c : Bool) (x y : Option Held) (bytes : List ℕ) (more : List Atom) → fold next (head_state false a b c x y) (map value_byte bytes ++ closes_leaf ∷ more) ≡ fold next (leaf_state a b c x y bytes) more
leaf_read a b c x y bytes more =
    fold-append next (head_state false a b c x y) (map value_byte bytes) (closes_leaf ∷ more)
    ∙ ap (λ (q : UidState). fold next q (closes_leaf ∷ more)) (undecided_bytes bytes (head_state false a b c x y) (head_open a b c x y) ∙ bytes_step bytes (head_state false a b c x y))
    ∙ ap (λ (q : UidState). fold next q more) (leaf_closed a b c x y bytes)

-- which element it is
own_value : (w : InstanceUid) (tag : Tag) (f : Form) → f ≡ a_value → is_own (uid_tag w) tag f ≡ same_tag tag (uid_tag w)
own_value w tag f e = ap (is_own (uid_tag w) tag) e ∙ with_true (same_tag tag (uid_tag w))
  where
    with_true : (t : Bool) → (t && true) ≡ t
    with_true true = refl
    with_true false = refl

not_own : (w : InstanceUid) (tag : Tag) (f : Form) → is_value f ≡ false → is_own (uid_tag w) tag f ≡ false
not_own w tag f e = ap (λ (v : Bool). same_tag tag (uid_tag w) && v) e ∙ with_false (same_tag tag (uid_tag w))
  where
    with_false : (t : Bool) → (t && false) ≡ false
    with_false true = refl
    with_false false = refl

head_alike : (p a b c q x y z : Bool) (u v : Option Held) → p ≡ q → a ≡ x → b ≡ y → c ≡ z → head_state p a b c u v ≡ head_state q x y z u v
head_alike p a b c q x y z u v e f g h =
    ap (λ (t : Bool). head_state t a b c u v) e ∙ ap (λ (t : Bool). head_state q t b c u v) f
    ∙ ap (λ (t : Bool). head_state q x t c u v) g ∙ ap (λ (t : Bool). head_state q x y t u v) h

-- ---- what is behind the three

behind_trees : (t : Bool) (rest : Trees) → t ≡ true → (if t then no_tree else rest) ≡ no_tree
behind_trees t rest e = rw e refl

before_trees : (t : Bool) (rest : Trees) → t ≡ false → (if t then no_tree else rest) ≡ rest
before_trees t rest e = rw e refl

-- ---- trees

abbrev start_at : Option Held → Option Held → UidState
start_at x y = at 0 (value_at x) (value_at y)

-- the values of the three in trees, up to SeriesInstanceUID
abbrev there : InstanceUid → Syntax → Trees → Option (List ℕ)
there w s t = value_in (uid_tag w) s (up_to_series t)

-- what the sink holds of them: all that counts; or they go on
data Named (x y : Option Held) (study series instance : Option (List ℕ)) (passed : Bool) (others : List Atom) (p : UidState) : Type 0 where
  over : passed ≡ true → is_decided p ≡ true → uid_of p.study ≡ first_or x study → uid_of p.series ≡ fit_of series → uid_of p.instance ≡ first_or y instance → Named x y study series instance passed others p
  goes_on : (u v : Option Held) → passed ≡ false → p ≡ fold next (start_at u v) others → uid_of (value_at u) ≡ first_or x study → series ≡ None → uid_of (value_at v) ≡ first_or y instance → Named x y study series instance passed others p

-- where the state is another's, and the values are those of other trees
named_as : (x y : Option Held) (a b c k l m : Option (List ℕ)) (t d : Bool) (others : List Atom) (p q : UidState) → p ≡ q → k ≡ a → l ≡ b → m ≡ c → d ≡ t → Named x y a b c t others q → Named x y k l m d others p
named_as x y a b c k l m t d others p q e f g h i n =
    subst (λ (u : Bool). Named x y k l m u others p) (sym i)
    (subst (λ (o : Option (List ℕ)). Named x y o l m t others p) (sym f)
    (subst (λ (o : Option (List ℕ)). Named x y a o m t others p) (sym g)
    (subst (λ (o : Option (List ℕ)). Named x y a b o t others p) (sym h)
    (subst (λ (z : UidState). Named x y a b c t others z) (sym e) n))))

-- an element behind them
behind_named : (x y : Option Held) (a b c : Bool) (more others : List Atom) (past : Bool) → past ≡ true → Named x y None None None true others (fold next (head_state past a b c x y) more)
behind_named x y a b c more others past e =
    named_as x y None None None None None None true true others _ (head_state past a b c x y) (decided_atoms more (head_state past a b c x y) (past_decided past a b c x y e)) refl refl refl refl
    (over refl (past_decided past a b c x y e) (head_uid x a ∙ first_none x) (head_uid None b) (head_uid y c ∙ first_none y))

if_some : Bool → List ℕ → Option (List ℕ) → Option (List ℕ)
if_some t bytes o = if t then Some bytes else o

-- a leaf of SeriesInstanceUID, or another
leaf_named : (x y : Option Held) (a b c : Bool) (bytes : List ℕ) (study series instance : Option (List ℕ)) (passed : Bool) (more others : List Atom)
    → (b ≡ true → (study ≡ None) × (series ≡ None) × (instance ≡ None))
    → (b ≡ false → Named (leaf_after x a bytes) (leaf_after y c bytes) study series instance passed others (fold next (start_at (leaf_after x a bytes) (leaf_after y c bytes)) more))
    → Named x y (if_some a bytes study) (if_some b bytes series) (if_some c bytes instance) (b || passed) others (fold next (head_state false a b c x y) (map value_byte bytes ++ closes_leaf ∷ more))
unfolding if_some
leaf_named x y a true c bytes study series instance passed more others ends rest =
    let none = ends refl in
    named_as x y (if a then Some bytes else None) (Some bytes) (if c then Some bytes else None) _ _ _ true true others _ (leaf_state a true c x y bytes)
    (leaf_read a true c x y bytes more ∙ decided_atoms more (leaf_state a true c x y bytes) (series_decided a true c x y bytes refl))
    (ap (λ (o : Option (List ℕ)). if a then Some bytes else o) none.0) refl (ap (λ (o : Option (List ℕ)). if c then Some bytes else o) none.2) refl
    (over refl refl (first_none (leaf_after x a bytes) ∙ leaf_first x a bytes None) (leaf_first None true bytes None) (first_none (leaf_after y c bytes) ∙ leaf_first y c bytes None))
leaf_named x y a false c bytes study series instance passed more others ends rest = by_rest (fold next (start_at (leaf_after x a bytes) (leaf_after y c bytes)) more) (leaf_read a false c x y bytes more) (rest refl)
  where
    by_rest : (q : UidState) → fold next (head_state false a false c x y) (map value_byte bytes ++ closes_leaf ∷ more) ≡ q → Named (leaf_after x a bytes) (leaf_after y c bytes) study series instance passed others q
        → Named x y (if a then Some bytes else study) series (if c then Some bytes else instance) passed others (fold next (head_state false a false c x y) (map value_byte bytes ++ closes_leaf ∷ more))
    by_rest q e (over known decided f g h) =
        named_as x y _ _ _ _ _ _ passed passed others _ q e refl refl refl refl (over known decided (f ∙ leaf_first x a bytes study) g (h ∙ leaf_first y c bytes instance))
    by_rest q e (goes_on u v known is f g h) =
        named_as x y _ _ _ _ _ _ passed passed others _ q e refl refl refl refl (goes_on u v known is (f ∙ leaf_first x a bytes study) g (h ∙ leaf_first y c bytes instance))

-- a leaf
leaf_case : (x y : Option Held) (tag : Tag) (vr : Vr) (value : List ℕ) (rest : Trees) (s : Syntax) (f : Form) (tail others : List Atom) → f ≡ a_value
    → ((u v : Option Held) → Named u v (there Study (after s tag vr value) rest) (there Series (after s tag vr value) rest) (there Instance (after s tag vr value) rest) (is_past_series rest) others (fold next (start_at u v) tail))
    → Named x y (there Study s (leaf tag vr value rest)) (there Series s (leaf tag vr value rest)) (there Instance s (leaf tag vr value rest)) (is_past_series (leaf tag vr value rest)) others
    (fold next (head_state (is_behind tag) (is_own (uid_tag Study) tag f) (is_own (uid_tag Series) tag f) (is_own (uid_tag Instance) tag f) x y) (map value_byte (order s vr value) ++ closes_leaf ∷ tail))
unfolding value_in up_to_series is_past_series if_some
leaf_case x y tag vr value rest s f tail others fo goes = by_place (is_behind tag) refl
  where
    t : Syntax
    t = after s tag vr value

    counted : Trees
    counted = if same_tag tag (uid_tag Series) then no_tree else up_to_series rest

    none_there : (w : InstanceUid) → is_behind tag ≡ true → there w s (leaf tag vr value rest) ≡ None
    none_there w e = ap (value_in (uid_tag w) s) (behind_trees (is_behind tag) (leaf tag vr value counted) e)

    some_there : (w : InstanceUid) → is_behind tag ≡ false → there w s (leaf tag vr value rest) ≡ if_some (same_tag tag (uid_tag w)) (order s vr value) (value_in (uid_tag w) t counted)
    some_there w e = ap (value_in (uid_tag w) s) (before_trees (is_behind tag) (leaf tag vr value counted) e)

    none_left : (w : InstanceUid) → same_tag tag (uid_tag Series) ≡ true → value_in (uid_tag w) t counted ≡ None
    none_left w e = ap (value_in (uid_tag w) t) (behind_trees (same_tag tag (uid_tag Series)) (up_to_series rest) e)

    all_left : (w : InstanceUid) → same_tag tag (uid_tag Series) ≡ false → value_in (uid_tag w) t counted ≡ there w t rest
    all_left w e = ap (value_in (uid_tag w) t) (before_trees (same_tag tag (uid_tag Series)) (up_to_series rest) e)

    by_place : (past : Bool) → is_behind tag ≡ past → Named x y (there Study s (leaf tag vr value rest)) (there Series s (leaf tag vr value rest)) (there Instance s (leaf tag vr value rest)) (is_past_series (leaf tag vr value rest)) others
        (fold next (head_state (is_behind tag) (is_own (uid_tag Study) tag f) (is_own (uid_tag Series) tag f) (is_own (uid_tag Instance) tag f) x y) (map value_byte (order s vr value) ++ closes_leaf ∷ tail))
    by_place true e =
        named_as x y None None None _ _ _ true _ others _ _ refl (none_there Study e) (none_there Series e) (none_there Instance e) (or_first (is_behind tag) _ e)
        (behind_named x y _ _ _ (map value_byte (order s vr value) ++ closes_leaf ∷ tail) others (is_behind tag) e)
    by_place false e =
        named_as x y
        (if_some (same_tag tag (uid_tag Study)) (order s vr value) (value_in (uid_tag Study) t counted))
        (if_some (same_tag tag (uid_tag Series)) (order s vr value) (value_in (uid_tag Series) t counted))
        (if_some (same_tag tag (uid_tag Instance)) (order s vr value) (value_in (uid_tag Instance) t counted))
        _ _ _ (same_tag tag (uid_tag Series) || is_past_series rest) _ others _
        (fold next (head_state false (same_tag tag (uid_tag Study)) (same_tag tag (uid_tag Series)) (same_tag tag (uid_tag Instance)) x y) (map value_byte (order s vr value) ++ closes_leaf ∷ tail))
        (ap (λ (q : UidState). fold next q (map value_byte (order s vr value) ++ closes_leaf ∷ tail))
        (head_alike (is_behind tag) _ _ _ false _ _ _ x y e (own_value Study tag f fo) (own_value Series tag f fo) (own_value Instance tag f fo)))
        (some_there Study e) (some_there Series e) (some_there Instance e) (or_after_false (is_behind tag) _ e)
        (leaf_named x y (same_tag tag (uid_tag Study)) (same_tag tag (uid_tag Series)) (same_tag tag (uid_tag Instance)) (order s vr value)
        (value_in (uid_tag Study) t counted) (value_in (uid_tag Series) t counted) (value_in (uid_tag Instance) t counted) (is_past_series rest) tail others
        (λ is. (none_left Study is, none_left Series is, none_left Instance is))
        (λ is. named_as _ _ (there Study t rest) (there Series t rest) (there Instance t rest) _ _ _ (is_past_series rest) _ others _ _ refl (all_left Study is) (all_left Series is) (all_left Instance is) refl (goes _ _)))

head_plain : (x y : Option Held) → head_state false false false false x y ≡ at 1 (value_at x) (value_at y)
head_plain x y = ap (λ (v : Value). at 1 v (after_head (value_at y) false)) (head_same x) ∙ ap (λ (v : Value). at 1 (value_at x) v) (head_same y)

list_state : (x y : Option Held) (tag : Tag) (f : Form) → is_value f ≡ false → is_behind tag ≡ false
    → head_state (is_behind tag) (is_own (uid_tag Study) tag f) (is_own (uid_tag Series) tag f) (is_own (uid_tag Instance) tag f) x y ≡ at 1 (value_at x) (value_at y)
list_state x y tag f none e =
    head_alike (is_behind tag) _ _ _ false false false false x y e (not_own Study tag f none) (not_own Series tag f none) (not_own Instance tag f none) ∙ head_plain x y

-- a sequence or fragments
list_case : (x y : Option Held) (tag : Tag) (f : Form) (more others : List Atom) (whole rest : InstanceUid → Option (List ℕ)) (passed : Bool) → is_value f ≡ false
    → ((w : InstanceUid) → is_behind tag ≡ true → whole w ≡ None) → ((w : InstanceUid) → is_behind tag ≡ false → whole w ≡ rest w)
    → Named x y (rest Study) (rest Series) (rest Instance) passed others (fold next (at 1 (value_at x) (value_at y)) more)
    → Named x y (whole Study) (whole Series) (whole Instance) (is_behind tag || passed) others (fold next (head_state (is_behind tag) (is_own (uid_tag Study) tag f) (is_own (uid_tag Series) tag f) (is_own (uid_tag Instance) tag f) x y) more)
list_case x y tag f more others whole rest passed none_value none all goes = by_place (is_behind tag) refl
  where
    by_place : (past : Bool) → is_behind tag ≡ past → Named x y (whole Study) (whole Series) (whole Instance) (is_behind tag || passed) others (fold next (head_state (is_behind tag) (is_own (uid_tag Study) tag f) (is_own (uid_tag Series) tag f) (is_own (uid_tag Instance) tag f) x y) more)
    by_place true e =
        named_as x y None None None (whole Study) (whole Series) (whole Instance) true (is_behind tag || passed) others (fold next (head_state (is_behind tag) (is_own (uid_tag Study) tag f) (is_own (uid_tag Series) tag f) (is_own (uid_tag Instance) tag f) x y) more) (fold next (head_state (is_behind tag) (is_own (uid_tag Study) tag f) (is_own (uid_tag Series) tag f) (is_own (uid_tag Instance) tag f) x y) more) refl (none Study e) (none Series e) (none Instance e) (or_first (is_behind tag) passed e)
        (behind_named x y (is_own (uid_tag Study) tag f) (is_own (uid_tag Series) tag f) (is_own (uid_tag Instance) tag f) more others (is_behind tag) e)
    by_place false e =
        named_as x y (rest Study) (rest Series) (rest Instance) (whole Study) (whole Series) (whole Instance) passed (is_behind tag || passed) others (fold next (head_state (is_behind tag) (is_own (uid_tag Study) tag f) (is_own (uid_tag Series) tag f) (is_own (uid_tag Instance) tag f) x y) more) (fold next (at 1 (value_at x) (value_at y)) more)
        (ap (λ (q : UidState). fold next q more) (list_state x y tag f none_value e)) (all Study e) (all Series e) (all Instance e) (or_after_false (is_behind tag) passed e) goes

trees_named : (t : Trees) (s : Syntax) (x y : Option Held) (b p : List ℕ) (others : List Atom) → TreesAt s t b p → StaysShallow 0 (trees_then s t others)
    → Named x y (there Study s t) (there Series s t) (there Instance s t) (is_past_series t) others (fold next (start_at x y) (trees_then s t others))
unfolding TreesAt trees_then value_in up_to_series is_past_series
trees_named no_tree s x y b p others h low = goes_on x y refl refl (first_none x) refl (first_none y)
trees_named (leaf tag vr value rest) s x y b p others (b', fo, head, more) low =
    let t : Syntax = after s tag vr value in
    let low_rest = stays_on 0 closes_leaf (trees_then t rest others) (stays_bytes 0 (order s vr value) (closes_leaf ∷ trees_then t rest others) (stays_opened 0 a_value tag vr (Known (length value)) s _ fo low)) in
    leaf_case x y tag vr value rest s (form s (read_as s tag vr) (Known (length value))) (trees_then t rest others) others fo (λ u v. trees_named rest t u v b' p others more low_rest)
trees_named (sequence tag vr declared items rest) s x y b p others (contents, b', fo, head, inner, more) low =
    let behind : List Atom = closes_sequence ∷ trees_then s rest others in
    let atoms : List Atom = items_then (inside s vr) items behind in
    let shown : ShowItems items atoms behind = enclosed_shown (inside s vr) sequence_end_tag declared (ItemsAt (inside s vr) items) contents b' (ShowItems items atoms behind) (λ c d r. items_shown (inside s vr) items c d behind r) inner in
    let within = stays_opened 0 a_sequence tag vr declared s atoms fo low in
    let low_rest = stays_on 1 closes_sequence (trees_then s rest others) (stays_items 1 items atoms behind shown within) in
    list_case x y tag (form s (read_as s tag vr) declared) atoms others (λ w. there w s (sequence tag vr declared items rest)) (λ w. there w s rest) (is_past_series rest) (ap is_value fo)
    (λ w e. ap (value_in (uid_tag w) s) (behind_trees (is_behind tag) (sequence tag vr declared items (up_to_series rest)) e))
    (λ w e. ap (value_in (uid_tag w) s) (before_trees (is_behind tag) (sequence tag vr declared items (up_to_series rest)) e))
    (named_as x y (there Study s rest) (there Series s rest) (there Instance s rest) _ _ _ (is_past_series rest) _ others _ (fold next (start_at x y) (trees_then s rest others))
    (items_inside (value_at x) (value_at y) (settles x) (settles y) items 1 0 atoms behind shown within (omega arith)) refl refl refl refl
    (trees_named rest s x y b' p others more low_rest))
trees_named (fragments tag vr values rest) s x y b p others (contents, b', fo, head, inner, more) low =
    let behind : List Atom = closes_sequence ∷ trees_then s rest others in
    let within = stays_opened 0 a_fragment_list tag vr Undefined s (fragments_then values behind) fo low in
    let low_rest = stays_on 1 closes_sequence (trees_then s rest others) (stays_fragments 1 values behind within) in
    list_case x y tag (form s (read_as s tag vr) Undefined) (fragments_then values behind) others (λ w. there w s (fragments tag vr values rest)) (λ w. there w s rest) (is_past_series rest) (ap is_value fo)
    (λ w e. ap (value_in (uid_tag w) s) (behind_trees (is_behind tag) (fragments tag vr values (up_to_series rest)) e))
    (λ w e. ap (value_in (uid_tag w) s) (before_trees (is_behind tag) (fragments tag vr values (up_to_series rest)) e))
    (named_as x y (there Study s rest) (there Series s rest) (there Instance s rest) _ _ _ (is_past_series rest) _ others _ (fold next (start_at x y) (trees_then s rest others))
    (fragments_inside (value_at x) (value_at y) (settles x) (settles y) 0 values behind (omega arith)) refl refl refl refl
    (trees_named rest s x y b' p others more low_rest))

-- ---- what is open

-- no value has ended in it
record Keeps (x y : Option Held) (passed : Bool) (p : UidState) : Type 0 where
  decided : is_decided p ≡ passed
  study : uid_of p.study ≡ uid_of (value_at x)
  series : uid_of p.series ≡ None
  instance : uid_of p.instance ≡ uid_of (value_at y)

keeps_as : (x y : Option Held) (passed : Bool) (p q : UidState) → p ≡ q → Keeps x y passed q → Keeps x y passed p
keeps_as x y passed p q e k = subst (Keeps x y passed) (sym e) k

bytes_uid : (v : Value) (g : Progress) (bytes : List ℕ) → v.progress ≡ g → uid_of (after_bytes v bytes) ≡ uid_of v
bytes_uid v Missing bytes e = no_uid v bytes e
  where
    no_uid : (v : Value) (bytes : List ℕ) → v.progress ≡ Missing → uid_of (after_bytes v bytes) ≡ uid_of v
    no_uid v bytes e = rw e refl
bytes_uid v Open bytes e = rw e refl
bytes_uid v Ended bytes e = rw e refl

head_keeps : (past a b c : Bool) (x y : Option Held) → past ≡ true → Keeps x y past (head_state past a b c x y)
head_keeps past a b c x y e = record { decided = past_decided past a b c x y e ∙ sym e; study = head_uid x a; series = head_uid None b; instance = head_uid y c }

bytes_keep : (past a b c : Bool) (x y : Option Held) (bytes : List ℕ) → Keeps x y past (fold next (head_state past a b c x y) (map value_byte bytes))
bytes_keep true a b c x y bytes = keeps_as x y true _ _ (decided_atoms (map value_byte bytes) (head_state true a b c x y) refl) (head_keeps true a b c x y refl)
bytes_keep false a b c x y bytes =
    keeps_as x y false _ (with_bytes (head_state false a b c x y) bytes) (undecided_bytes bytes (head_state false a b c x y) (head_open a b c x y) ∙ bytes_step bytes (head_state false a b c x y))
    (record {
      decided = still_open a b c x y bytes;
      study = bytes_uid (after_head (value_at x) a) _ bytes refl ∙ head_uid x a;
      series = bytes_uid (after_head no_value b) _ bytes refl ∙ head_uid None b;
      instance = bytes_uid (after_head (value_at y) c) _ bytes refl ∙ head_uid y c;
    })

at_keeps : (d : ℕ) (x y : Option Held) (passed : Bool) → passed ≡ false → Keeps x y passed (at d (value_at x) (value_at y))
at_keeps d x y passed e = record { decided = sym e; study = refl; series = refl; instance = refl }

list_keeps : (x y : Option Held) (tag : Tag) (f : Form) (more : List Atom) (d : ℕ) → is_value f ≡ false → fold next (at 1 (value_at x) (value_at y)) more ≡ at (suc d) (value_at x) (value_at y)
    → Keeps x y (is_behind tag) (fold next (head_state (is_behind tag) (is_own (uid_tag Study) tag f) (is_own (uid_tag Series) tag f) (is_own (uid_tag Instance) tag f) x y) more)
list_keeps x y tag f more d none comes = by_place (is_behind tag) refl
  where
    by_place : (past : Bool) → is_behind tag ≡ past → Keeps x y (is_behind tag) (fold next (head_state (is_behind tag) (is_own (uid_tag Study) tag f) (is_own (uid_tag Series) tag f) (is_own (uid_tag Instance) tag f) x y) more)
    by_place true e =
        keeps_as x y (is_behind tag) (fold next (head_state (is_behind tag) (is_own (uid_tag Study) tag f) (is_own (uid_tag Series) tag f) (is_own (uid_tag Instance) tag f) x y) more) (head_state (is_behind tag) (is_own (uid_tag Study) tag f) (is_own (uid_tag Series) tag f) (is_own (uid_tag Instance) tag f) x y) (decided_atoms more (head_state (is_behind tag) (is_own (uid_tag Study) tag f) (is_own (uid_tag Series) tag f) (is_own (uid_tag Instance) tag f) x y) (past_decided (is_behind tag) (is_own (uid_tag Study) tag f) (is_own (uid_tag Series) tag f) (is_own (uid_tag Instance) tag f) x y e))
        (head_keeps (is_behind tag) (is_own (uid_tag Study) tag f) (is_own (uid_tag Series) tag f) (is_own (uid_tag Instance) tag f) x y e)
    by_place false e =
        keeps_as x y (is_behind tag) (fold next (head_state (is_behind tag) (is_own (uid_tag Study) tag f) (is_own (uid_tag Series) tag f) (is_own (uid_tag Instance) tag f) x y) more) (at (suc d) (value_at x) (value_at y)) (ap (λ (q : UidState). fold next q more) (list_state x y tag f none e) ∙ comes) (at_keeps (suc d) x y (is_behind tag) e)

open_keeps : (o : OpenTree) (closed : Bool) (x y : Option Held) (atoms : List Atom) → ShowsOpen o (end_atoms closed) atoms → StaysShallow 0 atoms → Keeps x y (is_open_behind o) (fold next (start_at x y) atoms)
unfolding ShowsOpen
open_keeps nothing_open true x y atoms e low = keeps_as x y false _ (start_at x y) (ap (fold next (start_at x y)) e) (at_keeps 0 x y false refl)
open_keeps nothing_open false x y atoms e low = keeps_as x y false _ (start_at x y) (ap (fold next (start_at x y)) e) (at_keeps 0 x y false refl)
open_keeps (open_leaf tag vr size value) closed x y atoms (s, fo, le, is) low =
    keeps_as x y (is_behind tag) _ _ (ap (fold next (start_at x y)) is) (bytes_keep (is_behind tag) _ _ _ x y (order s vr value))
open_keeps (open_sequence tag vr declared items last) closed x y atoms (s, contents, others, fo, is, inner, more) low =
    let within = stays_opened 0 a_sequence tag vr declared s contents fo (stays_same 0 atoms _ is low) in
    let last_one = item_inside (value_at x) (value_at y) (settles x) (settles y) last 1 0 others more (stays_items 1 items contents others inner within) (omega arith) in
    keeps_as x y (is_behind tag) _ _ (ap (fold next (start_at x y)) is)
    (list_keeps x y tag (form s (read_as s tag vr) declared) contents last_one.depth (ap is_value fo)
    (items_inside (value_at x) (value_at y) (settles x) (settles y) items 1 0 contents others inner within (omega arith) ∙ last_one.comes))
open_keeps (open_fragments tag vr values last) closed x y atoms (s, fo, mi, is) low =
    let last_one = fragment_inside (value_at x) (value_at y) (settles x) (settles y) 0 last (omega arith) in
    keeps_as x y (is_behind tag) _ _ (ap (fold next (start_at x y)) is)
    (list_keeps x y tag (form s (read_as s tag vr) Undefined) (fragments_then values (open_fragment_atoms last)) last_one.depth (ap is_value fo)
    (fragments_inside (value_at x) (value_at y) (settles x) (settles y) 0 values (open_fragment_atoms last) (omega arith) ∙ last_one.comes))

-- ---- a data set

three_alike : (a b c x y z : Option (List ℕ)) → a ≡ x → b ≡ y → c ≡ z → named a b c ≡ named x y z
three_alike a b c x y z e f g = ap (λ (o : Option (List ℕ)). named o b c) e ∙ ap (λ (o : Option (List ℕ)). named x o c) f ∙ ap (λ (o : Option (List ℕ)). named x y o) g

-- what the sink comes to is what the data set names, and whether that is known
abbrev pub Says : Syntax → Front → Type 0
Says s f = (outcome (uids_at s f) ≡ instance_in s f) × (is_decided (uids_at s f) ≡ is_known f)

front_named : (trees : Trees) (o : OpenTree) (r r' : Option Tag) (c c' : Bool) (s : Syntax) (read : List ℕ) → SpellsFront s (front trees o r c) read → StaysShallow 0 (front_atoms s (front trees o r' c'))
    → Says s (front trees o r' c')
unfolding SpellsFront front_atoms
front_named trees o r r' c c' s read (others, placed, op, re, cl) low =
    let atoms : List Atom = open_atoms (after_trees s trees) o (end_atoms c') in
    by_trees atoms (fold next uids_begun (trees_then s trees atoms)) (open_shown (after_trees s trees) o others (end_atoms c') op)
    (stays_trees 0 trees (trees_then s trees atoms) atoms (trees_shown s trees read others atoms placed) low) (trees_named trees s None None read others atoms placed low)
  where
    by_trees : (atoms : List Atom) (p : UidState) → ShowsOpen o (end_atoms c') atoms → StaysShallow 0 atoms → Named None None (there Study s trees) (there Series s trees) (there Instance s trees) (is_past_series trees) atoms p
        → (outcome p ≡ named (fit_of (there Study s trees)) (fit_of (there Series s trees)) (fit_of (there Instance s trees))) × (is_decided p ≡ (is_past_series trees || is_open_behind o))
    by_trees atoms p shown low_open (over known decided f g h) = (three_alike _ _ _ _ _ _ f g h, decided ∙ sym (or_first (is_past_series trees) (is_open_behind o) known))
    by_trees atoms p shown low_open (goes_on u v known is f g h) =
        let k = open_keeps o c' u v atoms shown low_open in (
          ap outcome is ∙ three_alike _ _ _ _ _ _ (k.study ∙ f) (k.series ∙ sym (ap fit_of g)) (k.instance ∙ h),
          ap is_decided is ∙ k.decided ∙ sym (or_after_false (is_past_series trees) (is_open_behind o) known),
        )

read_named : (stop : Stop) (f : Front) (s : Syntax) (read : List ℕ) → SpellsFront s f read → StaysShallow 0 (front_atoms s (ended_front stop f)) → Says s (ended_front stop f)
read_named complete (front trees o r c) s read spelled low = front_named trees o r r c true s read spelled low
read_named (refused fault offset) (front trees o r c) s read spelled low = front_named trees o r r c c s read spelled low

pub set_names : (bar : Bar) (s : Syntax) (start : ℕ) (bytes : List ℕ) (f : Front) (stop : Stop) → StaysShallow 0 (front_atoms s f) → Reads bar s start bytes f stop → Says s f
set_names bar s start bytes f stop low (reached, why, first, told, is) =
    subst (Says s) (sym is)
    (read_named stop reached s first.read first.spelled (subst (λ (x : Front). StaysShallow 0 (front_atoms s x)) is low))
