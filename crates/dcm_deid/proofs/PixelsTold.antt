-- The sink knows whether what it passed on says that the pixels may show identity.
use Rattle.std.proofs.Common.{◌≡◌, ◌≤◌, ◌<◌, ℕ, suc, List, [], ◌∷◌, ◌++◌, length, map, take, drop, fold, Option, Some, None, Bool, true, false, ◌||◌, ◌&&◌, not, refl, sym, ap, subst, ◌∙◌, arith}
use Rattle.std.proofs.lemmas.Bool.{cases_Bool}
use Rattle.std.proofs.lemmas.List.{length-take, length-drop, take-append-drop}
use mathlib.Core.Logic.{⊎_elim}
use Rattle.std.specs.Prelude.{if◌then◌else◌, codes, bytes_eq}
use Rattle.dcm_lemmas.proofs.Lists.{bytes_same}
use Rattle.dcm_base.specs.declared.tag.Tag.{Tag}
use Rattle.dcm_base.specs.declared.vr.Vr.{Vr}
use Rattle.dcm_base.specs.declared.syntax.Syntax.{Syntax}
use Rattle.dcm_base.specs.declared.length.Length.{Length}
use Rattle.dcm_base.specs.declared.length.Length.TheVariants.{Known, Undefined}
use Rattle.dcm_base.specs.declared.form.Form.{Form}
use Rattle.dcm_base.specs.declared.form.Form.TheVariants.{Value as a_value, Sequence as a_sequence, FragmentList as a_fragment_list}
use Rattle.dcm_base.specs.Tables.Dictionary as D
use Rattle.dcm_base.specs.Tables.Tag.{is_tag, below}
use Rattle.dcm_base.specs.Tables.Transfer.{without_pads}
use Rattle.dcm_base.specs.Bytes.Spelling.{form, read_as, last_tag}
use Rattle.dcm_base.specs.Tree.Tree.{Trees, no_tree, leaf, sequence, fragments, Items, no_item, item, then_trees}
use Rattle.dcm_base.specs.Tree.Front.{Front, front, OpenTree}
use Rattle.dcm_base.specs.Tree.Value.{order}
use Rattle.dcm_base.specs.Steps.Atoms.{Atom, opens, value_byte, closes_leaf, opens_item, closes_item, closes_sequence, fragments_then, ShowTrees, ShowItems, Shows}
use Rattle.dcm_base.proofs.Conversions.Order.{order_twice}
use Rattle.dcm_base.proofs.Dictionaries.TagOrder.{tag_is}
use Rattle.dcm_sinks.proofs.Dumps.OpenLists.{stays_bytes, stays_on, stays_same}
use Rattle.dcm_sinks.specs.Laws.{StaysShallow}
use Rattle.dcm_deid.specs.MadeNew.{made_new}
use Rattle.dcm_deid.specs.declared.fate.Options.{Options}
use Rattle.dcm_deid.specs.declared.fate.Fate.{Fate}
use Rattle.dcm_deid.specs.declared.fate.Fate.TheVariants.{Remove, Empty, Replace, Anew, Keep}
use Rattle.dcm_deid.specs.declared.fate.Depth.{Depth}
use Rattle.dcm_deid.specs.declared.fate.Depth.TheVariants.{Outermost, Inside}
use Rattle.dcm_deid.specs.declared.fate.ReadAs.TheVariants.{AsBytes}
use Rattle.dcm_deid.specs.Fate.{actions, fate_as, are_left}
use Rattle.dcm_deid.specs.Deidentify.{value_by, leaf_by, sequence_by, fragments_by, by_fate, items_by_fate}
use Rattle.dcm_deid.specs.Emptied.{emptied}
use Rattle.dcm_deid.specs.DeidentifySink.{State, begun, next, nothing_seen}
use Rattle.dcm_deid.specs.Pixels.{says_of_pixels, means_yes, may_show, may_show_in}
use Rattle.dcm_deid.specs.Saying.{put_in, with_put, all_put, said, code_if, methods, front_by_fate, deidentified, read_whole, whole_of}
use Rattle.dcm_deid.proofs.Dropped.{at, Same, drop_value, drop_close, drop_fragments, drop_items, stays_here, head_stays, fragments_stay, trees_stay, items_stay, entered}
use Rattle.dcm_deid.proofs.HeldValues.{longer_after, held_whole, pads_gone, pads_after, some_left, more_left, some_more}
use Rattle.dcm_deid.proofs.Kept.{judged_state, fate_here, held_at}
use Rattle.dcm_deid.proofs.SeenValues.{seen_by, trees_tell}

-- ---- what says what was done says nothing of the pixels

either_shows : (b m : Bool) (x y : Trees) → may_show x ≡ m → may_show y ≡ m → may_show (if b then x else y) ≡ m
either_shows true m x y p q = p
either_shows false m x y p q = q

or_assoc : (a b c : Bool) → (a || (b || c)) ≡ ((a || b) || c)
or_assoc true b c = refl
or_assoc false b c = refl

then_shows : (e x : Trees) → may_show (then_trees e x) ≡ (may_show e || may_show x)
then_shows no_tree x = refl
then_shows (leaf tag vr value rest) x = ap (λ (b : Bool). (says_of_pixels tag && means_yes value) || b) (then_shows rest x) ∙ or_assoc (says_of_pixels tag && means_yes value) (may_show rest) (may_show x)
then_shows (sequence tag vr declared items rest) x = ap (λ (b : Bool). may_show_in items || b) (then_shows rest x) ∙ or_assoc (may_show_in items) (may_show rest) (may_show x)
then_shows (fragments tag vr values rest) x = then_shows rest x

silent_first : (e x : Trees) → may_show e ≡ false → may_show (then_trees e x) ≡ may_show x
silent_first e x silent = then_shows e x ∙ ap (λ (b : Bool). b || may_show x) silent

put_shows : (t : Tag) (e w : Trees) → may_show e ≡ false → may_show (put_in t e w) ≡ may_show w
put_shows t e no_tree silent = silent
put_shows t e (leaf tag vr value rest) silent =
    either_shows (below t tag) _ _ _ (silent_first e (leaf tag vr value rest) silent) (ap (λ (b : Bool). (says_of_pixels tag && means_yes value) || b) (put_shows t e rest silent))
put_shows t e (sequence tag vr declared items rest) silent =
    either_shows (below t tag) _ _ _ (silent_first e (sequence tag vr declared items rest) silent) (ap (λ (b : Bool). may_show_in items || b) (put_shows t e rest silent))
put_shows t e (fragments tag vr values rest) silent = either_shows (below t tag) _ _ _ (silent_first e (fragments tag vr values rest) silent) (put_shows t e rest silent)

abbrev AllSilent : List (Tag × Trees) → Type 0
AllSilent [] = Unit {0}
AllSilent (n ∷ news) = (may_show n.1 ≡ false) × AllSilent news

either_whole : (b : Bool) (w v : Trees) (p : OpenTree) (r : Option Tag) (c m : Bool) → may_show w ≡ m → may_show v ≡ m → may_show (whole_of (if b then front w p r c else front v p r c)) ≡ m
either_whole true w v p r c m e f = e
either_whole false w v p r c m e f = f

one_shows : (n : Tag × Trees) (f : Front) → may_show n.1 ≡ false → may_show (whole_of (with_put n f)) ≡ may_show (whole_of f)
one_shows n (front whole p r c) silent = either_whole _ whole (put_in n.0 n.1 whole) p r c (may_show whole) refl (put_shows n.0 n.1 whole silent)

all_show : (news : List (Tag × Trees)) (f : Front) → AllSilent news → may_show (whole_of (all_put news f)) ≡ may_show (whole_of f)
all_show [] f a = refl
all_show (n ∷ news) f a = all_show news (with_put n f) a.1 ∙ one_shows n f a.0

code_if_silent : (given : Bool) (code meaning : List ℕ) (rest : Items) → may_show_in rest ≡ false → may_show_in (code_if given code meaning rest) ≡ false
code_if_silent true code meaning rest e = e
code_if_silent false code meaning rest e = e

methods_silent : (o : Options) → may_show_in (methods o) ≡ false
methods_silent o =
    code_if_silent (are_left o.dates) _ _ _
    (code_if_silent o.patient _ _ _ (code_if_silent o.device _ _ _ (code_if_silent o.uids _ _ _ (code_if_silent o.institution _ _ no_item refl))))

none_or : (a b : Bool) → a ≡ b → (a || false) ≡ b
none_or true b e = e
none_or false b e = e

said_silent : (o : Options) → AllSilent (said o)
said_silent o = (refl, (refl, (none_or (may_show_in (methods o)) false (methods_silent o), (refl, tt))))

-- ---- the law

pub pixel_steps : (o : Options) (k : List ℕ) (reached : Option Tag) (set : Trees) (atoms : List Atom) → StaysShallow 0 atoms → Shows (read_whole reached set) atoms
    → (fold next (begun o k) atoms).place.seen.may_show ≡ may_show (whole_of (deidentified o (made_new o k) (read_whole reached set)))
unfolding Shows deidentified
pixel_steps o k reached set atoms h (others, shown, more, may, re) =
    let left : Trees = by_fate (fate_as o) (value_by (made_new o k)) Outermost set in
    ap (λ (s : State). s.place.seen.may_show) (trees_tell set 0 o k None [] nothing_seen atoms others shown h refl)
    ∙ ap (λ (x : List Atom). (fold next (at o k (last_tag None set) [] 0 (seen_by nothing_seen (may_show left) (emptied (fate_as o) (made_new o k) Outermost set))) x).place.seen.may_show) more
    ∙ sym
    (all_show (said o) (front_by_fate (fate_as o) (value_by (made_new o k)) Outermost (read_whole reached set)) (said_silent o)
    ∙ then_shows left no_tree)
