-- A data set without identity is no deeper than it was, or than the elements that say what was done.
use Rattle.std.proofs.Common.{ℕ, suc, ◌≤◌, List, [], ◌∷◌, Bool, true, false, arith}
use Rattle.std.specs.Prelude.{if◌then◌else◌, ◌||◌, not}
use Rattle.dcm_base.specs.declared.tag.Tag.{Tag}
use Rattle.dcm_base.specs.declared.vr.Vr.{Vr}
use Rattle.dcm_base.specs.Tables.Tag.{below}
use Rattle.dcm_base.specs.Tree.Tree.{Trees, no_tree, leaf, sequence, fragments, Items, no_item, item, then_trees}
use Rattle.dcm_base.specs.Tree.Front.{Front, front, OpenTree, nothing_open, open_leaf, open_sequence, open_fragments, OpenItem, no_open_item, open_item}
use Rattle.dcm_edits.specs.Edit.{has, has_open, is_passed}
use Rattle.dcm_edits.proofs.Trees.Depths.{IsShallow, AreShallow, FrontShallow, OpenShallow, ItemShallow}
use Rattle.dcm_deid.specs.declared.fate.Fate.{Fate}
use Rattle.dcm_deid.specs.declared.fate.Fate.TheVariants.{Remove, Empty, Replace, Anew, Keep}
use Rattle.dcm_deid.specs.declared.fate.Options.{Options}
use Rattle.dcm_deid.specs.declared.fate.Depth.{Depth}
use Rattle.dcm_deid.specs.declared.fate.Depth.TheVariants.{Outermost, Inside}
use Rattle.dcm_deid.specs.declared.fate.ReadAs.TheVariants.{AsBytes, AsItems}
use Rattle.dcm_deid.specs.Fate.{fate_as, are_left}
use Rattle.dcm_deid.specs.Deidentify.{Renaming, value_by, leaf_by, sequence_by, fragments_by, Fates, Values, by_fate, items_by_fate}
use Rattle.dcm_deid.specs.Saying.{open_leaf_by, open_sequence_by, made_whole, while_kept, front_by_fate, open_by_fate, open_item_by_fate, put_in, with_put, all_put, code_if, methods, said, deidentified}

-- ---- an element by its fate

leaf_stays : (n : ℕ) (fate : Fate) (tag : Tag) (vr : Vr) (value : List ℕ) (rest : Trees) → IsShallow n rest → IsShallow n (leaf_by fate tag vr value rest)
leaf_stays n Remove tag vr value rest h = h
leaf_stays n Empty tag vr value rest h = h
leaf_stays n Replace tag vr value rest h = h
leaf_stays n (Anew made) tag vr value rest h = h
leaf_stays n Keep tag vr value rest h = h

sequence_stays : (n : ℕ) (fate : Fate) (tag : Tag) (vr : Vr) (items : Items) (rest : Trees) → suc n ≤ 64 → AreShallow (suc n) items → IsShallow n rest → IsShallow n (sequence_by fate tag vr items rest)
sequence_stays n Remove tag vr items rest p h k = k
sequence_stays n Empty tag vr items rest p h k = (p, tt, k)
sequence_stays n Replace tag vr items rest p h k = (p, tt, k)
sequence_stays n (Anew made) tag vr items rest p h k = (p, tt, k)
sequence_stays n Keep tag vr items rest p h k = (p, h, k)

fragments_stay : (n : ℕ) (fate : Fate) (tag : Tag) (vr : Vr) (parts : List (List ℕ)) (rest : Trees) → suc n ≤ 64 → IsShallow n rest → IsShallow n (fragments_by fate tag vr parts rest)
fragments_stay n Remove tag vr parts rest p k = k
fragments_stay n Empty tag vr parts rest p k = k
fragments_stay n Replace tag vr parts rest p k = k
fragments_stay n (Anew made) tag vr parts rest p k = k
fragments_stay n Keep tag vr parts rest p k = (p, k)

leaf_made : (n : ℕ) (fate : Fate) (values : Values) (tag : Tag) (vr : Vr) → IsShallow n (open_leaf_by fate values tag vr)
leaf_made n Remove values tag vr = tt
leaf_made n Empty values tag vr = tt
leaf_made n Replace values tag vr = tt
leaf_made n (Anew made) values tag vr = tt
leaf_made n Keep values tag vr = tt

sequence_made : (n : ℕ) (fate : Fate) (tag : Tag) (vr : Vr) → suc n ≤ 64 → IsShallow n (open_sequence_by fate tag vr)
sequence_made n Remove tag vr p = tt
sequence_made n Empty tag vr p = (p, tt, tt)
sequence_made n Replace tag vr p = (p, tt, tt)
sequence_made n (Anew made) tag vr p = (p, tt, tt)
sequence_made n Keep tag vr p = tt

open_stays : (n : ℕ) (fate : Fate) (o : OpenTree) → OpenShallow n o → OpenShallow n (while_kept fate o)
open_stays n Remove o h = tt
open_stays n Empty o h = tt
open_stays n Replace o h = tt
open_stays n (Anew made) o h = tt
open_stays n Keep o h = h

then_shallow : (n : ℕ) (a b : Trees) → IsShallow n a → IsShallow n b → IsShallow n (then_trees a b)
then_shallow n no_tree b h k = k
then_shallow n (leaf tag vr value rest) b h k = then_shallow n rest b h k
then_shallow n (sequence tag vr declared items rest) b h k = (h.0, h.1, then_shallow n rest b h.2 k)
then_shallow n (fragments tag vr values rest) b h k = (h.0, then_shallow n rest b h.1 k)

-- ---- all elements

module _ (fates : Fates) (values : Values) where
  mutual
    trees_shallow : (set : Trees) (n : ℕ) (depth : Depth) → IsShallow n set → IsShallow n (by_fate fates values depth set)
    trees_shallow no_tree n depth h = tt
    trees_shallow (leaf tag vr value rest) n depth h = leaf_stays n (fates depth AsBytes tag) tag vr _ _ (trees_shallow rest n depth h)
    trees_shallow (sequence tag vr declared items rest) n depth h = sequence_stays n (fates depth AsItems tag) tag vr _ _ h.0 (items_shallow items (suc n) h.1) (trees_shallow rest n depth h.2)
    trees_shallow (fragments tag vr parts rest) n depth h = fragments_stay n (fates depth AsBytes tag) tag vr parts _ h.0 (trees_shallow rest n depth h.1)

    items_shallow : (items : Items) (n : ℕ) → AreShallow n items → AreShallow n (items_by_fate fates values items)
    items_shallow no_item n h = tt
    items_shallow (item declared set rest) n h = (trees_shallow set n Inside h.0, items_shallow rest n h.1)

  made_shallow : (o : OpenTree) (n : ℕ) (depth : Depth) → OpenShallow n o → IsShallow n (made_whole fates values depth o)
  made_shallow nothing_open n depth h = tt
  made_shallow (open_leaf tag vr size value) n depth h = leaf_made n (fates depth AsBytes tag) values tag vr
  made_shallow (open_sequence tag vr declared items last) n depth h = sequence_made n (fates depth AsItems tag) tag vr h.0
  made_shallow (open_fragments tag vr parts last) n depth h = tt

  mutual
    front_shallow : (f : Front) (n : ℕ) (depth : Depth) → FrontShallow n f → FrontShallow n (front_by_fate fates values depth f)
    front_shallow (front whole o reached closed) n depth h =
        (then_shallow n (by_fate fates values depth whole) (made_whole fates values depth o) (trees_shallow whole n depth h.0) (made_shallow o n depth h.1), open_shallow o n depth h.1)

    open_shallow : (o : OpenTree) (n : ℕ) (depth : Depth) → OpenShallow n o → OpenShallow n (open_by_fate fates values depth o)
    open_shallow nothing_open n depth h = tt
    open_shallow (open_leaf tag vr size value) n depth h = open_stays n (fates depth AsBytes tag) (open_leaf tag vr size value) tt
    open_shallow (open_sequence tag vr declared items last) n depth h =
        open_stays n (fates depth AsItems tag) _ (h.0, items_shallow items (suc n) h.1, item_shallow last (suc n) h.2)
    open_shallow (open_fragments tag vr parts last) n depth h = open_stays n (fates depth AsBytes tag) (open_fragments tag vr parts last) h

    item_shallow : (last : OpenItem) (n : ℕ) → ItemShallow n last → ItemShallow n (open_item_by_fate fates values last)
    item_shallow no_open_item n h = tt
    item_shallow (open_item declared set) n h = front_shallow set n Inside h

-- ---- what is put

either_shallow : (n : ℕ) (b : Bool) (x y : Trees) → IsShallow n x → IsShallow n y → IsShallow n (if b then x else y)
either_shallow n true x y h k = h
either_shallow n false x y h k = k

put_shallow : (n : ℕ) (t : Tag) (e set : Trees) → IsShallow n e → IsShallow n set → IsShallow n (put_in t e set)
put_shallow n t e no_tree h k = h
put_shallow n t e (leaf tag vr value rest) h k = either_shallow n (below t tag) _ _ (then_shallow n e (leaf tag vr value rest) h k) (put_shallow n t e rest h k)
put_shallow n t e (sequence tag vr declared items rest) h k =
    either_shallow n (below t tag) _ _ (then_shallow n e (sequence tag vr declared items rest) h k) (k.0, k.1, put_shallow n t e rest h k.2)
put_shallow n t e (fragments tag vr parts rest) h k =
    either_shallow n (below t tag) _ _ (then_shallow n e (fragments tag vr parts rest) h k) (k.0, put_shallow n t e rest h k.1)

either_front : (n : ℕ) (b : Bool) (f g : Front) → FrontShallow n f → FrontShallow n g → FrontShallow n (if b then f else g)
either_front n true f g h k = h
either_front n false f g h k = k

with_shallow : (n : ℕ) (new : Tag × Trees) (f : Front) → IsShallow n new.1 → FrontShallow n f → FrontShallow n (with_put new f)
with_shallow n new (front whole o reached closed) h k =
    either_front n (has new.0 whole || has_open new.0 o || not (is_passed new.0 reached closed)) _ _ k (put_shallow n new.0 new.1 whole h k.0, k.1)

abbrev AllShallow : ℕ → List (Tag × Trees) → Type 0
AllShallow n [] = Unit {0}
AllShallow n (new ∷ news) = IsShallow n new.1 × AllShallow n news

all_shallow : (n : ℕ) (news : List (Tag × Trees)) (f : Front) → AllShallow n news → FrontShallow n f → FrontShallow n (all_put news f)
all_shallow n [] f h k = k
all_shallow n (new ∷ news) f h k = all_shallow n news (with_put new f) h.1 (with_shallow n new f h.0 k)

code_shallow : (given : Bool) (code meaning : List ℕ) (rest : Items) → AreShallow 1 rest → AreShallow 1 (code_if given code meaning rest)
code_shallow true code meaning rest h = (tt, h)
code_shallow false code meaning rest h = h

methods_shallow : (options : Options) → AreShallow 1 (methods options)
methods_shallow options = (
  tt,
  code_shallow (are_left options.dates) _ _ _
      (code_shallow options.patient _ _ _ (code_shallow options.device _ _ _ (code_shallow options.uids _ _ _ (code_shallow options.institution _ _ no_item tt)))),
)

said_shallow : (options : Options) → AllShallow 0 (said options)
said_shallow options = (tt, (tt, ((omega arith, methods_shallow options, tt), (tt, tt))))

-- ---- the whole

pub deidentified_shallow : (options : Options) (new : Renaming) (f : Front) → FrontShallow 0 f → FrontShallow 0 (deidentified options new f)
unfolding deidentified
deidentified_shallow options new f h =
    all_shallow 0 (said options) (front_by_fate (fate_as options) (value_by new) Outermost f) (said_shallow options) (front_shallow (fate_as options) (value_by new) f 0 Outermost h)
