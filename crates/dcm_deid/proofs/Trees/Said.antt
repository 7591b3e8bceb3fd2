-- The elements that say what was done.
use Rattle.std.proofs.Common.{◌≡◌, ◌∙◌, ap, sym, refl, List, [], ◌∷◌, Bool, true, false, Option, Some, None, ℕ, ℤ}
use Rattle.std.specs.Prelude.{◌||◌, not, if◌then◌else◌}
use Rattle.dcm_lemmas.proofs.Truth.{or_true}
use Rattle.dcm_base.specs.declared.tag.Tag.{Tag}
use Rattle.dcm_base.specs.declared.syntax.Syntax.{Syntax}
use Rattle.dcm_base.specs.Tables.Tag.{below}
use Rattle.dcm_base.specs.Tree.Tree.{Trees, no_tree, leaf, sequence, fragments, then_trees}
use Rattle.dcm_base.specs.Tree.Front.{Front}
use Rattle.dcm_base.specs.Conversion.Recode.{recode}
use Rattle.dcm_edits.specs.Edit.{has, is_passed}
use Rattle.dcm_deid.specs.declared.fate.Options.{Options}
use Rattle.dcm_deid.specs.declared.fate.Depth.TheVariants.{Outermost}
use Rattle.dcm_deid.specs.Deidentify.{Renaming, deidentified_set}
use Rattle.dcm_deid.specs.declared.fate.Temporal.{Temporal}
use Rattle.dcm_deid.specs.declared.fate.Temporal.TheVariants.{Removed, Full, Modified}
use Rattle.dcm_deid.specs.MadeNew.{made_new}
use Rattle.dcm_deid.specs.Alike.{moved_by, moving, Alike}
use Rattle.dcm_deid.specs.Saying.{put_in, with_put, all_put, said, deidentified, says, unsaid, whole_of, read_whole}
use Rattle.dcm_deid.proofs.Trees.Again.{nothing_flows}

-- ---- in a whole data set

abbrev pub set_with : Tag × Trees → Trees → Trees
set_with new set = if has new.0 set then set else put_in new.0 new.1 set

abbrev pub set_with_all : List (Tag × Trees) → Trees → Trees
set_with_all [] set = set
set_with_all (new ∷ news) set = set_with_all news (set_with new set)

passed : (tag : Tag) (reached : Option Tag) → is_passed tag reached true ≡ true
passed tag None = refl
passed tag (Some r) = or_true (below tag r)

either : (has_it is_passed : Bool) (x y : Trees) (reached : Option Tag) → is_passed ≡ true
    → (if has_it || false || not is_passed then read_whole reached x else read_whole reached y) ≡ read_whole reached (if has_it then x else y)
either true p x y reached e = refl
either false true x y reached e = refl
either false false x y reached e = absurd (cc)

with_whole : (new : Tag × Trees) (reached : Option Tag) (set : Trees) → with_put new (read_whole reached set) ≡ read_whole reached (set_with new set)
with_whole new reached set = either (has new.0 set) (is_passed new.0 reached true) set (put_in new.0 new.1 set) reached (passed new.0 reached)

all_whole : (news : List (Tag × Trees)) (reached : Option Tag) (set : Trees) → all_put news (read_whole reached set) ≡ read_whole reached (set_with_all news set)
all_whole [] reached set = refl
all_whole (new ∷ news) reached set = ap (all_put news) (with_whole new reached set) ∙ all_whole news reached (set_with new set)

then_none : (set : Trees) → then_trees set no_tree ≡ set
then_none no_tree = refl
then_none (leaf tag vr value rest) = ap (leaf tag vr value) (then_none rest)
then_none (sequence tag vr declared items rest) = ap (sequence tag vr declared items) (then_none rest)
then_none (fragments tag vr parts rest) = ap (fragments tag vr parts) (then_none rest)

pub of_whole : (options : Options) (new : Renaming) (reached : Option Tag) (set : Trees)
    → deidentified options new (read_whole reached set) ≡ read_whole reached (set_with_all (said options) (deidentified_set options new Outermost set))
unfolding deidentified
of_whole options new reached set =
    ap (λ (x : Trees). all_put (said options) (read_whole reached x)) (then_none (deidentified_set options new Outermost set))
    ∙ all_whole (said options) reached (deidentified_set options new Outermost set)

-- ---- nothing else is put

either_unsaid : (b : Bool) (x y set : Trees) → unsaid x ≡ unsaid set → unsaid y ≡ unsaid set → unsaid (if b then x else y) ≡ unsaid set
either_unsaid true x y set h k = h
either_unsaid false x y set h k = k

-- an element that says what was done, alone
abbrev pub Says : Trees → Type 0
Says element = (set : Trees) → unsaid (then_trees element set) ≡ unsaid set

put_unsaid : (t : Tag) (element set : Trees) → Says element → unsaid (put_in t element set) ≡ unsaid set
put_unsaid t element no_tree h = ap unsaid (sym (then_none element)) ∙ h no_tree
put_unsaid t element (leaf tag vr value rest) h =
    either_unsaid (below t tag) _ _ (leaf tag vr value rest) (h (leaf tag vr value rest)) (ap (λ (r : Trees). if says tag then r else leaf tag vr value r) (put_unsaid t element rest h))
put_unsaid t element (sequence tag vr declared items rest) h =
    either_unsaid (below t tag) _ _ (sequence tag vr declared items rest) (h (sequence tag vr declared items rest)) (ap (λ (r : Trees). if says tag then r else sequence tag vr declared items r) (put_unsaid t element rest h))
put_unsaid t element (fragments tag vr parts rest) h =
    either_unsaid (below t tag) _ _ (fragments tag vr parts rest) (h (fragments tag vr parts rest)) (ap (λ (r : Trees). if says tag then r else fragments tag vr parts r) (put_unsaid t element rest h))

abbrev pub AllSay : List (Tag × Trees) → Type 0
AllSay [] = Unit {0}
AllSay (new ∷ news) = Says new.1 × AllSay news

all_unsaid : (news : List (Tag × Trees)) (set : Trees) → AllSay news → unsaid (set_with_all news set) ≡ unsaid set
all_unsaid [] set h = refl
all_unsaid (new ∷ news) set h =
    all_unsaid news (set_with new set) h.1 ∙ either_unsaid (has new.0 set) set (put_in new.0 new.1 set) set refl (put_unsaid new.0 new.1 set h.0)

said_all : (options : Options) → AllSay (said options)
said_all options = (λ set. refl, (λ set. refl, (λ set. refl, (λ set. refl, tt))))

pub only_said_is_put : (options : Options) (new : Renaming) (reached : Option Tag) (set : Trees)
    → unsaid (whole_of (deidentified options new (read_whole reached set))) ≡ unsaid (deidentified_set options new Outermost set)
only_said_is_put options new reached set =
    ap (λ (f : Front). unsaid (whole_of f)) (of_whole options new reached set) ∙ all_unsaid (said options) (deidentified_set options new Outermost set) (said_all options)

-- ---- nothing flows

same_bytes : (target : Syntax) (reached other : Option Tag) (set : Trees) → recode target (read_whole reached set) ≡ recode target (read_whole other set)
unfolding recode
same_bytes target reached other set = refl

-- what is said does not depend on by how many days dates are moved
pub same_said : (options : Options) (d e : ℤ) → said (moving options d) ≡ said (moving options e)
same_said options d e = by_dates options.dates
  where
    by_dates : (t : Temporal) → said (record options { dates = moved_by d t }) ≡ said (record options { dates = moved_by e t })
    by_dates Removed = refl
    by_dates Full = refl
    by_dates (Modified days) = refl

pub nothing_flows_out : (options : Options) (key : List ℕ) (target : Syntax) (reached other : Option Tag) (d e : ℤ) (f g : Trees) → Alike options Outermost d e f g
    → recode target (deidentified (moving options d) (made_new (moving options d) key) (read_whole reached f))
    ≡ recode target (deidentified (moving options e) (made_new (moving options e) key) (read_whole other g))
nothing_flows_out options key target reached other d e f g alike =
    let one : Options = moving options d in
    let two : Options = moving options e in
    let left : Trees = deidentified_set two (made_new two key) Outermost g in
    ap (recode target) (of_whole one (made_new one key) reached f)
    ∙ ap (λ (x : Trees). recode target (read_whole reached (set_with_all (said one) x))) (nothing_flows options key Outermost d e f g alike)
    ∙ ap (λ (news : List (Tag × Trees)). recode target (read_whole reached (set_with_all news left))) (same_said options d e)
    ∙ same_bytes target reached other (set_with_all (said two) left)
    ∙ ap (recode target) (sym (of_whole two (made_new two key) other g))
