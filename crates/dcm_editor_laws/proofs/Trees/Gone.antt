-- What an edit of all depths leaves of a data set, and what reads back of it.
use Rattle.std.proofs.Common.{◌≡◌, sym, refl, subst, ℕ, ◌+◌, ◌≤◌, List, [], ◌∷◌, length, Bool, true, false, Ok, inl, inr, ◌∙◌}
use Rattle.std.specs.Prelude.{◌==◌, not, if◌then◌else◌}
use Rattle.dcm_lemmas.proofs.Truth.{and_parts, not_true, or_parts}
use Rattle.dcm_base.specs.declared.tag.Tag.{Tag}
use Rattle.dcm_base.specs.declared.vr.Vr.{Vr}
use Rattle.dcm_base.specs.declared.syntax.Syntax.{Syntax}
use Rattle.dcm_base.specs.Tables.Tag.{same_tag, is_private}
use Rattle.dcm_base.specs.Tree.Tree.{Trees, no_tree, leaf, sequence, fragments, Items, no_item, item}
use Rattle.dcm_base.specs.Tree.Front.{Front, front}
use Rattle.dcm_base.specs.Tables.Number.{AreBytes}
use Rattle.dcm_base.specs.Reading.Stop.{Stop, complete}
use Rattle.dcm_base.specs.Reading.Bars.{ascending_bar, target_bar}
use Rattle.dcm_base.specs.Reading.Reads.{INPUT_LIMIT, Reads}
use Rattle.dcm_base.specs.Conversion.Recode.{recode}
use Rattle.dcm_base.specs.Conversion.Normal.{normal, normal_items, normal_front, normal_vr, normal_value, FrontStays}
use Rattle.dcm_base.proofs.DataSets.OneAnswer.{reads_once}
use Rattle.dcm_base.proofs.Dictionaries.TagOrder.{tag_is}
use Rattle.dcm_base.specs.Tables.Syntax.{dictionary_of}
use Rattle.dcm_edits.specs.Edit.{PathEdit, step, insert, modify, erase, erase_item, Edit, on_path, modify_all, erase_all, erase_private, elsewhere, within, stays, becomes, goes, erases, element_of, no_element, edited_by, edited}
use Rattle.dcm_edits.specs.EditWords.{meant_edits_in}
use Rattle.dcm_editor_laws.specs.Everywhere.{Content, a_value, a_list, Everywhere, InEachItem, EverywhereIn, IsOther, IsPublic, HasJust, IsWrittenJust, Among}
use Rattle.dcm_edits.specs.Overlap.{path, is_on, is_named, ApartFrom, AreApart, is_public_path, is_public, ArePublic}
use Rattle.dcm_editor_laws.proofs.ReadBack.EditedReads.{edited_reads, front_ready}
use Rattle.dcm_editor_laws.proofs.ReadBack.StaysReady.{FrontReady, Steady, EditReady, AreReady}
use Rattle.dcm_edits.proofs.Words.EditWordLemmas.{edits_are_apart}
use Rattle.dcm_editor_laws.proofs.Trees.Everywhere.{WholeWith, PathFits, Fits, AllFit, SettledAs, Settles, edited_by_fits, edited_fits, edited_by_so}
use Rattle.dcm_base.specs.Bytes.Spelling.{after, dictionary_after, sign_after, says_sign, is_one}
use Rattle.dcm_editor_laws.proofs.ReadBack.Plain.{plain}
use Rattle.dcm_base.specs.Tables.Dictionary.{vr_in, if_signed}
use Rattle.dcm_base.specs.declared.dictionary.Dictionary.{Dictionary}
use Rattle.dcm_base.specs.declared.dictionary.Dictionary.TheVariants.{Extract, Standard, Signed}
use Rattle.dcm_base.specs.declared.syntax.Syntax.TheVariants.{Implicit as implicit_in, Little as little_in, Big as big_in}
use Rattle.dcm_editor_laws.proofs.Words.WordsReady.{edits_ready}

-- ---- after the edit, whatever the others do

abbrev pub Anything : Tag → Content → Type 0
Anything t c = Unit {0}

any_path : (edit : PathEdit) → PathFits Anything edit
any_path (step tag index edit) = (tt, any_path edit)
any_path (insert tag vr value) = tt
any_path (modify tag vr value) = tt
any_path (erase tag) = tt
any_path (erase_item tag index) = tt

pub any_fits : (e : Edit) → Fits Anything e
any_fits (on_path edit) = any_path edit
any_fits (modify_all tag vr value) = tt
any_fits (erase_all tag) = tt
any_fits erase_private = tt
any_fits elsewhere = tt

module _ (P : Tag → Content → Type 0) (e : Edit) (same : (tag : Tag) (i : ℕ) → within e tag i ≡ e) (keeps : (tag : Tag) (i : ℕ) → erases e tag i ≡ false) (puts_none : element_of e ≡ no_element) (so : Settles P e)
    (fits : (later : List Edit) → ApartFrom e later → ArePublic later → AllFit P later) where
  done_after : (es : List Edit) (f : Front) → Among e es → AreApart es → ArePublic es → WholeWith Anything f → WholeWith P (edited es f)
  done_after [] f among apart public w = absurd (among)
  done_after (x ∷ es) f (inl is) apart public w =
      edited_fits P es (edited_by x f) (fits es (subst (λ (y : Edit). ApartFrom y es) is apart.0) public.1) (subst (λ (y : Edit). WholeWith P (edited_by y f)) (sym is) (edited_by_so P e same keeps puts_none so f w))
  done_after (x ∷ es) f (inr more) apart public w = done_after es (edited_by x f) more apart.1 public.1 (edited_by_fits Anything x f (any_fits x) w)

-- ---- the others name other tags

module _ (P : Tag → Content → Type 0) (t : Tag) (others : (tag : Tag) (c : Content) → same_tag t tag ≡ false → P tag c) where
  path_fits : (edit : PathEdit) → is_on t (path edit) ≡ false → PathFits P edit
  path_fits (step tag index edit) h = let two = or_parts (same_tag t tag) (is_on t (path edit)) h in (others tag a_list two.0, path_fits edit two.1)
  path_fits (insert tag vr value) h = others tag (a_value vr value) (or_parts (same_tag t tag) false h).0
  path_fits (modify tag vr value) h = others tag (a_value vr value) (or_parts (same_tag t tag) false h).0
  path_fits (erase tag) h = tt
  path_fits (erase_item tag index) h = tt

  named_fits : (e : Edit) → is_named t e ≡ false → Fits P e
  named_fits (on_path edit) h = path_fits edit h
  named_fits (modify_all tag vr value) h = others tag (a_value vr value) h
  named_fits (erase_all tag) h = tt
  named_fits erase_private h = tt
  named_fits elsewhere h = tt

-- ---- each element of the tag is erased

erased_settles : (t : Tag) → Settles (IsOther t) (erase_all t)
erased_settles t tag c = by_test (same_tag t tag) refl
  where
    by_test : (b : Bool) → same_tag t tag ≡ b → SettledAs (IsOther t) tag c (if b then goes else stays)
    by_test true h = tt
    by_test false h = h

erased_fits : (t : Tag) (later : List Edit) → ApartFrom (erase_all t) later → ArePublic later → AllFit (IsOther t) later
erased_fits t [] h p = tt
erased_fits t (e ∷ later) h p = (named_fits (IsOther t) t (λ tag c other. other) e h.0, erased_fits t later h.1 p.1)

pub erased_all : (t : Tag) (es : List Edit) (f : Front) → Among (erase_all t) es → AreApart es → ArePublic es → WholeWith Anything f → WholeWith (IsOther t) (edited es f)
erased_all t es f among apart public w = done_after (IsOther t) (erase_all t) (λ tag i. refl) (λ tag i. refl) refl (erased_settles t) (erased_fits t) es f among apart public w

-- ---- each private element is erased

private_settles : Settles IsPublic erase_private
private_settles tag c = by_test (is_private tag) refl
  where
    by_test : (b : Bool) → is_private tag ≡ b → SettledAs IsPublic tag c (if b then goes else stays)
    by_test true h = tt
    by_test false h = h

public_path : (edit : PathEdit) → is_public_path (path edit) ≡ true → PathFits IsPublic edit
public_path (step tag index edit) h = let two = and_parts (not (is_private tag)) (is_public_path (path edit)) h in (not_true (is_private tag) two.0, public_path edit two.1)
public_path (insert tag vr value) h = not_true (is_private tag) (and_parts (not (is_private tag)) true h).0
public_path (modify tag vr value) h = not_true (is_private tag) (and_parts (not (is_private tag)) true h).0
public_path (erase tag) h = tt
public_path (erase_item tag index) h = tt

public_fits : (e : Edit) → is_public e ≡ true → Fits IsPublic e
public_fits (on_path edit) h = public_path edit h
public_fits (modify_all tag vr value) h = not_true (is_private tag) h
public_fits (erase_all tag) h = tt
public_fits erase_private h = tt
public_fits elsewhere h = tt

private_fits : (later : List Edit) → ApartFrom erase_private later → ArePublic later → AllFit IsPublic later
private_fits [] h p = tt
private_fits (e ∷ later) h p = (public_fits e p.0, private_fits later h.1 p.1)

pub erased_private : (es : List Edit) (f : Front) → Among erase_private es → AreApart es → ArePublic es → WholeWith Anything f → WholeWith IsPublic (edited es f)
erased_private es f among apart public w = done_after IsPublic erase_private (λ tag i. refl) (λ tag i. refl) refl private_settles private_fits es f among apart public w

-- ---- each element of the tag has the value

module _ (t : Tag) (vr : Vr) (value : List ℕ) where
  other_has : (tag : Tag) (c : Content) → same_tag t tag ≡ false → HasJust t vr value tag c
  other_has tag (a_value w v) other = λ same. absurd (cc)
  other_has tag a_list other = other

  modified_settles : Settles (HasJust t vr value) (modify_all t vr value)
  modified_settles tag c = by_test (same_tag t tag) refl
    where
      by_test : (b : Bool) → same_tag t tag ≡ b → SettledAs (HasJust t vr value) tag c (if b then becomes vr value else stays)
      by_test true h = λ same. (refl, refl)
      by_test false h = other_has tag c h

  modified_fits : (later : List Edit) → ApartFrom (modify_all t vr value) later → ArePublic later → AllFit (HasJust t vr value) later
  modified_fits [] h p = tt
  modified_fits (e ∷ later) h p = (named_fits (HasJust t vr value) t other_has e h.0, modified_fits later h.1 p.1)

  pub modified_all : (es : List Edit) (f : Front) → Among (modify_all t vr value) es → AreApart es → ArePublic es → WholeWith Anything f → WholeWith (HasJust t vr value) (edited es f)
  modified_all es f among apart public w = done_after (HasJust t vr value) (modify_all t vr value) (λ tag i. refl) (λ tag i. refl) refl modified_settles modified_fits es f among apart public w

-- ---- the normal form

module _ (R : Syntax → Type 0) (later : (s : Syntax) (t : Tag) (vr : Vr) (v : List ℕ) → R s → R (after s t vr v)) (P Q : Tag → Content → Type 0)
    (values : (s : Syntax) (t : Tag) (vr : Vr) (v : List ℕ) → R s → P t (a_value vr v) → Q t (a_value (normal_vr s t vr (length v)) (normal_value s t vr v))) (lists : (t : Tag) → P t a_list → Q t a_list) where
  if_kept : (b : Bool) (x y : Trees) → Everywhere Q x → Everywhere Q y → Everywhere Q (if b then x else y)
  if_kept true x y h k = h
  if_kept false x y h k = k

  mutual
    unfolding normal

    normal_has : (s : Syntax) (x : Trees) → R s → Everywhere P x → Everywhere Q (normal s x)
    normal_has s no_tree r h = tt
    normal_has s (leaf t vr v rest) r h =
        let w : Vr = normal_vr s t vr (length v) in
        let x : List ℕ = normal_value s t vr v in
        let more = normal_has (after s t w x) rest (later s t w x r) h.1 in
        if_kept (t.element == 0) _ _ more (values s t vr v r h.0, more)
    normal_has s (sequence t vr size items rest) r h = let more = normal_has s rest r h.2 in if_kept (t.element == 0) _ _ more (lists t h.0, normal_items_have s items r h.1, more)
    normal_has s (fragments t vr vs rest) r h = let more = normal_has s rest r h.1 in if_kept (t.element == 0) _ _ more (lists t h.0, more)

    normal_items_have : (s : Syntax) (x : Items) → R s → InEachItem P x → InEachItem Q (normal_items s x)
    normal_items_have s no_item r h = tt
    normal_items_have s (item size set rest) r h = (normal_has s set r h.0, normal_items_have s rest r h.1)

  pub front_has_by : (s : Syntax) (f : Front) → R s → WholeWith P f → EverywhereIn Q (normal_front s f)
  front_has_by s (front whole o reached closed) r h = normal_has s whole r h.0

-- what does not hang on the representation
pub front_has : (s : Syntax) (P Q : Tag → Content → Type 0) → ((t : Tag) (vr w : Vr) (v x : List ℕ) → P t (a_value vr v) → Q t (a_value w x)) → ((t : Tag) → P t a_list → Q t a_list) → (f : Front) → WholeWith P f → EverywhereIn Q (normal_front s f)
front_has s P Q values lists f h = front_has_by (λ k. Unit {0}) (λ k t vr v r. tt) P Q (λ k t vr v r p. values t vr _ v _ p) lists s f tt h

-- the value in the normal form
written_alike : (s : Syntax) (t tag : Tag) (vr w : Vr) (value v : List ℕ) → tag ≡ t → (w ≡ vr) × (v ≡ value) → (normal_vr s tag w (length v) ≡ normal_vr s t vr (length value)) × (normal_value s tag w v ≡ normal_value s t vr value)
written_alike s t tag vr w value v same h = (cc, cc)

-- after any leaf it is written as it was, if the tag has one representation
vr_signed : (tag : Tag) (c b : Bool) (d : Dictionary) → Steady tag → vr_in (if c then if_signed b d else d) tag ≡ vr_in d tag
vr_signed tag false b d steady = refl
vr_signed tag true b Extract steady = refl
vr_signed tag true true Standard steady = steady
vr_signed tag true false Standard steady = refl
vr_signed tag true true Signed steady = refl
vr_signed tag true false Signed steady = sym steady

vr_after : (d : Dictionary) (t : Tag) (vr : Vr) (v : List ℕ) (tag : Tag) → Steady tag → vr_in (dictionary_after d t vr v) tag ≡ vr_in d tag
unfolding sign_after
vr_after Extract t vr v tag steady = refl
vr_after Standard t vr v tag steady = vr_signed tag (says_sign t) (is_one vr v) Standard steady
vr_after Signed t vr v tag steady = vr_signed tag (says_sign t) (is_one vr v) Signed steady

normal_after : (s : Syntax) (t : Tag) (vr : Vr) (v : List ℕ) (tag : Tag) (w : Vr) (x : List ℕ) → Steady tag → (normal_vr (after s t vr v) tag w (length x) ≡ normal_vr s tag w (length x)) × (normal_value (after s t vr v) tag w x ≡ normal_value s tag w x)
normal_after (implicit_in d) t vr v tag w x steady = (vr_after d t vr v tag steady, refl)
normal_after (little_in d) t vr v tag w x steady = (refl, refl)
normal_after (big_in d) t vr v tag w x steady = (refl, refl)

-- the syntaxes in which it is so
abbrev WritesAs : Syntax → Tag → Vr → List ℕ → Syntax → Type 0
WritesAs s t vr value k = (normal_vr k t vr (length value) ≡ normal_vr s t vr (length value)) × (normal_value k t vr value ≡ normal_value s t vr value)

writes_later : (s : Syntax) (t : Tag) (vr : Vr) (value : List ℕ) → Steady t → (k : Syntax) (u : Tag) (w : Vr) (v : List ℕ) → WritesAs s t vr value k → WritesAs s t vr value (after k u w v)
writes_later s t vr value steady k u w v h = let n = normal_after k u w v t vr value steady in (n.0 ∙ h.0, n.1 ∙ h.1)

written_just : (s : Syntax) (t : Tag) (vr : Vr) (value : List ℕ) (k : Syntax) (tag : Tag) (w : Vr) (v : List ℕ) → WritesAs s t vr value k → HasJust t vr value tag (a_value w v) → IsWrittenJust s t vr value tag (a_value (normal_vr k tag w (length v)) (normal_value k tag w v))
written_just s t vr value k tag w v so h = λ same. let n = written_alike k t tag vr w value v (sym (tag_is t tag same)) (h same) in (n.0 ∙ so.0, n.1 ∙ so.1)

pub values_written : (s : Syntax) (t : Tag) (vr : Vr) (value : List ℕ) (f : Front) → Steady t → WholeWith (HasJust t vr value) f → EverywhereIn (IsWrittenJust s t vr value) (normal_front s f)
values_written s t vr value f steady h = front_has_by (WritesAs s t vr value) (writes_later s t vr value steady) (HasJust t vr value) (IsWrittenJust s t vr value) (written_just s t vr value) (λ tag k. k) s f (refl, refl) h

-- an edit of words names such a tag
pub steady_edit : (s : Syntax) (t : Tag) (vr : Vr) (value : List ℕ) (edits : List Edit) → Among (modify_all t vr value) edits → AreReady s edits → Steady t
steady_edit s t vr value [] among h = absurd among
steady_edit s t vr value (e ∷ edits) (inl is) h = (let r : EditReady s (modify_all t vr value) = subst (EditReady s) is h.0 in r.1)
steady_edit s t vr value (e ∷ edits) (inr more) h = steady_edit s t vr value edits more h.1

-- ---- what reads back

mutual
  anywhere : (x : Trees) → Everywhere Anything x
  anywhere no_tree = tt
  anywhere (leaf t vr v rest) = (tt, anywhere rest)
  anywhere (sequence t vr size items rest) = (tt, in_items items, anywhere rest)
  anywhere (fragments t vr vs rest) = (tt, anywhere rest)

  in_items : (x : Items) → InEachItem Anything x
  in_items no_item = tt
  in_items (item size set rest) = (anywhere set, in_items rest)

pub anything : (s : Syntax) (f : Front) → FrontReady s f → WholeWith Anything f
anything s (front whole o reached closed) h = (anywhere whole, h.1)

module _ (s : Syntax) (words : List (List ℕ)) (edits : List Edit) (mean : meant_edits_in (dictionary_of s) words ≡ Ok edits) (start : ℕ) (bytes : List ℕ) (f : Front) (le : start ≤ INPUT_LIMIT) (are : AreBytes bytes) (reads : Reads ascending_bar s start bytes f complete) (stay : FrontStays s f)
    (at : ℕ) (limit : at + length (recode s (edited edits f)) ≤ INPUT_LIMIT) (g : Front) (stop : Stop) (again : Reads (target_bar s) s at (recode s (edited edits f)) g stop) where
  read_back : (Q : Tag → Content → Type 0) → EverywhereIn Q (normal_front s (edited edits f)) → (stop ≡ complete) × EverywhereIn Q g
  read_back Q h =
      let one = reads_once (target_bar s) s at (recode s (edited edits f)) (normal_front s (edited edits f)) g complete stop (edited_reads s words edits mean start bytes f le are reads stay at limit) again in
      (sym one.1, subst (EverywhereIn Q) one.0 h)

  pub whole_set : WholeWith Anything f
  whole_set = anything (plain s) f (front_ready s start bytes f le are reads)

  apart : AreApart edits × ArePublic edits
  apart = edits_are_apart (dictionary_of s) words edits mean

  pub erased_all_is_gone : (t : Tag) → Among (erase_all t) edits → (stop ≡ complete) × EverywhereIn (IsOther t) g
  erased_all_is_gone t among = read_back (IsOther t) (front_has s (IsOther t) (IsOther t) (λ tag vr w v x h. h) (λ tag h. h) (edited edits f) (erased_all t edits f among apart.0 apart.1 whole_set))

  pub erased_private_is_gone : Among erase_private edits → (stop ≡ complete) × EverywhereIn IsPublic g
  erased_private_is_gone among = read_back IsPublic (front_has s IsPublic IsPublic (λ tag vr w v x h. h) (λ tag h. h) (edited edits f) (erased_private edits f among apart.0 apart.1 whole_set))

  pub modified_all_is_so : (t : Tag) (vr : Vr) (value : List ℕ) → Among (modify_all t vr value) edits → (stop ≡ complete) × EverywhereIn (IsWrittenJust s t vr value) g
  modified_all_is_so t vr value among = read_back (IsWrittenJust s t vr value) (values_written s t vr value (edited edits f) (steady_edit s t vr value edits among (edits_ready s words edits mean)) (modified_all t vr value edits f among apart.0 apart.1 whole_set))
