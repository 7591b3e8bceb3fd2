-- The edits outside of the candidates for a tag leave an element of this tag as it is, and put nothing.
use Rattle.std.proofs.Common.{◌≡◌, ℕ, zero, suc, ◌<◌, List, [], ◌∷◌, map, Option, Bool, true, false, not, ◌||◌, ◌&&◌, refl, sym, ◌∙◌, ap, ◌⊎◌, inl, inr, min, arith}
use Rattle.std.specs.Prelude.{if◌then◌else◌, ◌==◌, slice_index}
use Rattle.std.specs.Int.{bit_at}
use Rattle.std.specs.Int.Bits.{bit_and, bit_or}
use Rattle.std.proofs.lemmas.Bool.{eqb-true, false≢true}
use Rattle.std.proofs.lemmas.Nat.Bits.{bit_at_and, bit_at-lt}
use Rattle.dcm_editor.proofs.Masks.Skips.{none_set}
use Rattle.dcm_edits.proofs.Trees.Selection.{new_off}
use Rattle.dcm_lemmas.proofs.Lists.{bits_alike}
use Rattle.dcm_lemmas.proofs.Truth.{and_parts, or_alike, or_others_false, or_parts}
use Rattle.dcm_base.specs.declared.tag.Tag.{Tag}
use Rattle.dcm_base.specs.Tables.Tag.{same_tag, is_private}
use Rattle.dcm_base.specs.Tree.Tree.{Trees}
use Rattle.dcm_edits.specs.Edit.{Index, number, every, selects, erases, within, PathEdit, step, insert, modify, erase, erase_item, new_element, around}
use Rattle.dcm_edits.specs.Edit.{Edit, on_path, modify_all, erase_all, erase_private, elsewhere, Fate, stays, becomes, goes, fate, acts}
use Rattle.dcm_edits.specs.Edit.{no_element, element_of}
use Rattle.dcm_edits.specs.Together.{any_erases, first_fate, or_else}
use Rattle.dcm_edits.specs.NewOnes.{is_between, passes_new, puts}
use Rattle.dcm_editor.specs.EditSink.{either, has_place, makes}
use Rattle.dcm_editor.specs.Asking.{answer_of, any_answer, asked_one, is_everywhere}
use Rattle.dcm_editor.specs.Indexes.{bucket_of_item, mask_at, item_mask_at, holds, names, names_step, has_path, has_edit, has_all, named, candidates}
use Rattle.dcm_editor.specs.Masks.{is_set, at_depth, rest_of_path, asked, bits, goes_along, GoAlong}
use Rattle.dcm_editor.specs.declared.asked.Question.TheVariants.{AtHead, Meets}
use Rattle.dcm_editor.specs.declared.index.TagIndex.{TagIndex}
use Rattle.dcm_editor.specs.declared.index.TagMasks.{TagMasks}
use Rattle.dcm_editor.proofs.Masks.Answering.{set_in_either}

-- ---- bits

or_unset : (a b k : ℕ) → is_set (bit_or a b) k ≡ false → (is_set a k ≡ false) × (is_set b k ≡ false)
or_unset a b k e = or_parts (is_set a k) (is_set b k) (sym (set_in_either a b k) ∙ e)

both_bit : (a b : ℕ) → a < 2 → b < 2 → (min a b == 1) ≡ ((a == 1) && (b == 1))
both_bit a b p q = by (small a p) (small b q)
  where
    small : (n : ℕ) → n < 2 → (n ≡ 0) ⊎ (n ≡ 1)
    small zero l = inl refl
    small (suc zero) l = inr refl
    small (suc (suc n)) l = absurd (omega (arith, l))

    by : ((a ≡ 0) ⊎ (a ≡ 1)) → ((b ≡ 0) ⊎ (b ≡ 1)) → (min a b == 1) ≡ ((a == 1) && (b == 1))
    by (inl x) (inl y) = rw x (rw y refl)
    by (inl x) (inr y) = rw x (rw y refl)
    by (inr x) (inl y) = rw x (rw y refl)
    by (inr x) (inr y) = rw x (rw y refl)

set_in_both : (a b k : ℕ) → is_set (bit_and a b) k ≡ (is_set a k && is_set b k)
set_in_both a b k = ap (λ (n : ℕ). n == 1) (bit_at_and a b k) ∙ both_bit (bit_at a k) (bit_at b k) (bit_at-lt a k) (bit_at-lt b k)

-- ---- one edit

-- it leaves an element of this tag as it is, and puts nothing
abbrev pub Still : Tag → Edit → Type 0
Still tag e = (fate e tag ≡ stays) × (element_of e ≡ no_element)

abbrev among : (b : Bool) (named private : ℕ) → ℕ
among b named private = if b then bit_or named private else named

among_parts : (b : Bool) (n p k : ℕ) → is_set (among b n p) k ≡ false → (is_set n k ≡ false) × (b ≡ true → is_set p k ≡ false)
among_parts true n p k e = let x = or_unset n p k e in (x.0, λ _. x.1)
among_parts false n p k e = (e, λ t. absurd (false≢true t))

private_stays : (b c : Bool) → (b ≡ true → c ≡ false) → c ≡ true → (if b then goes else stays) ≡ stays
private_stays false c h s = refl
private_stays true c h s = absurd (false≢true (sym (h refl) ∙ s))

module _ (index : TagIndex) (k : ℕ) where
  abbrev Unmade : Type 0
  Unmade = is_set index.makers k ≡ false

  no_new : (p : PathEdit) → has_path index k p ≡ true → Unmade → new_element p ≡ no_element
  no_new (step tag (number zero) p) h u = ap (around tag) (no_new p (and_parts (names_step index.steps k tag (number zero)) (has_path index k p) h).1 u)
  no_new (step tag (number (suc n)) p) h u = refl
  no_new (step tag every p) h u = refl
  no_new (insert tag vr value) h u = absurd (false≢true (sym u ∙ h))
  no_new (modify tag vr value) h u = refl
  no_new (erase tag) h u = refl
  no_new (erase_item tag i) h u = refl

  no_new_left : (d : ℕ) (p : PathEdit) → has_path index k p ≡ true → Unmade → new_element (rest_of_path d p) ≡ no_element
  no_new_left zero p h u = no_new p h u
  no_new_left (suc d) (step tag i p) h u = no_new_left d p (and_parts (names_step index.steps k tag i) (has_path index k p) h).1 u
  no_new_left (suc d) (insert tag vr value) h u = no_new (insert tag vr value) h u
  no_new_left (suc d) (modify tag vr value) h u = refl
  no_new_left (suc d) (erase tag) h u = refl
  no_new_left (suc d) (erase_item tag i) h u = refl

  no_element_of : (d : ℕ) (e : Edit) → has_edit index k e ≡ true → Unmade → element_of (at_depth d e) ≡ no_element
  no_element_of d (on_path p) h u = no_new_left d p h u
  no_element_of d (modify_all tag vr value) h u = refl
  no_element_of d (erase_all tag) h u = refl
  no_element_of d erase_private h u = refl
  no_element_of d elsewhere h u = refl

  module _ (tag : Tag) where
    abbrev Unnamed : Type 0
    Unnamed = is_set (mask_at index.ends tag) k ≡ false

    same : (t : Tag) → same_tag t tag ≡ true → t ≡ tag
    same t e = let x = and_parts (t.group == tag.group) (t.element == tag.element) e in alike t.group t.element tag.group tag.element (eqb-true t.group tag.group x.0) (eqb-true t.element tag.element x.1)
      where
        tag_of : ℕ → ℕ → Tag
        tag_of a b = record { group = a; element = b }

        alike : (a b c d : ℕ) → a ≡ c → b ≡ d → tag_of a b ≡ tag_of c d
        alike a b c d p q = cc

    other_tag : (masks : TagMasks) (t : Tag) → names masks k t ≡ true → is_set (mask_at masks tag) k ≡ false → same_tag t tag ≡ false
    other_tag masks t n u = by_test (same_tag t tag) refl
      where
        by_test : (b : Bool) → same_tag t tag ≡ b → same_tag t tag ≡ false
        by_test false e = e
        by_test true e = absurd (false≢true (sym u ∙ ap (λ (x : Tag). names masks k x) (sym (same t e)) ∙ n))

    path_stays : (p : PathEdit) → has_path index k p ≡ true → Unnamed → Unmade → fate (on_path p) tag ≡ stays
    path_stays (step t i p) h n u = refl
    path_stays (insert t vr value) h n u = absurd (false≢true (sym u ∙ h))
    path_stays (modify t vr value) h n u = ap (λ (b : Bool). if b then becomes vr value else stays) (other_tag index.ends t h n)
    path_stays (erase t) h n u = ap (λ (b : Bool). if b then goes else stays) (other_tag index.ends t h n)
    path_stays (erase_item t i) h n u = refl

    path_left_stays : (d : ℕ) (p : PathEdit) → has_path index k p ≡ true → Unnamed → Unmade → fate (on_path (rest_of_path d p)) tag ≡ stays
    path_left_stays zero p h n u = path_stays p h n u
    path_left_stays (suc d) (step t i p) h n u = path_left_stays d p (and_parts (names_step index.steps k t i) (has_path index k p) h).1 n u
    path_left_stays (suc d) (insert t vr value) h n u = path_stays (insert t vr value) h n u
    path_left_stays (suc d) (modify t vr value) h n u = path_stays (modify t vr value) h n u
    path_left_stays (suc d) (erase t) h n u = path_stays (erase t) h n u
    path_left_stays (suc d) (erase_item t i) h n u = refl

    edit_stays : (d : ℕ) (e : Edit) → has_edit index k e ≡ true → Unnamed → Unmade → (is_private tag ≡ true → is_set index.private k ≡ false) → fate (at_depth d e) tag ≡ stays
    edit_stays d (on_path p) h n u o = path_left_stays d p h n u
    edit_stays d (modify_all t vr value) h n u o = ap (λ (b : Bool). if b then becomes vr value else stays) (other_tag index.ends t h n)
    edit_stays d (erase_all t) h n u o = ap (λ (b : Bool). if b then goes else stays) (other_tag index.ends t h n)
    edit_stays d erase_private h n u o = private_stays (is_private tag) (is_set index.private k) o h
    edit_stays d elsewhere h n u o = refl

    -- the edits that may be asked at an element of the tag
    abbrev kept : ℕ
    kept = among (is_private tag) (named index tag) index.private

    pub still : (d : ℕ) (e : Edit) → has_edit index k e ≡ true → is_set kept k ≡ false → Still tag (at_depth d e)
    still d e h unset =
        let x = among_parts (is_private tag) (named index tag) index.private k unset in
        let y = or_unset (mask_at index.ends tag) index.makers k x.0 in
        (edit_stays d e h y.0 y.1 x.1, no_element_of d e h y.1)

    -- an edit that does not name item n of the sequence with this tag
    abbrev Unentered : ℕ → Type 0
    Unentered n = is_set (item_mask_at index.steps tag n) k ≡ false

    and_false : (a : Bool) → (a && false) ≡ false
    and_false true = refl
    and_false false = refl

    other_item : (t : Tag) (i : Index) (n : ℕ) → names_step index.steps k t i ≡ true → Unentered n → (same_tag t tag && selects i n) ≡ false
    other_item t every n h u = ap (λ (b : Bool). b && true) (other_tag index.steps t h (or_unset (mask_at index.steps tag) (slice_index index.steps.buckets (bucket_of_item tag n)) k u).0)
    other_item t (number m) n h u = by_test (same_tag t tag) (m == n) refl refl
      where
        by_test : (a b : Bool) → same_tag t tag ≡ a → (m == n) ≡ b → (same_tag t tag && (m == n)) ≡ false
        by_test false b e f = ap (λ (x : Bool). x && (m == n)) e
        by_test true false e f = ap (λ (x : Bool). same_tag t tag && x) f ∙ and_false (same_tag t tag)
        by_test true true e f =
            absurd (false≢true (sym (or_unset (mask_at index.steps tag) (slice_index index.steps.buckets (bucket_of_item tag n)) k u).1
            ∙ ap (λ (x : ℕ). holds index.steps k (bucket_of_item tag x)) (sym (eqb-true m n f)) ∙ ap (λ (x : Tag). holds index.steps k (bucket_of_item x m)) (sym (same t e)) ∙ h))

    left_has : (d : ℕ) (p : PathEdit) → has_path index k p ≡ true → has_path index k (rest_of_path d p) ≡ true
    left_has zero p h = h
    left_has (suc d) (step t i p) h = left_has d p (and_parts (names_step index.steps k t i) (has_path index k p) h).1
    left_has (suc d) (insert t vr value) h = h
    left_has (suc d) (modify t vr value) h = h
    left_has (suc d) (erase t) h = h
    left_has (suc d) (erase_item t i) h = h

    path_along : (p : PathEdit) (n : ℕ) → has_path index k p ≡ true → Unentered n → goes_along (on_path p) tag n ≡ false
    path_along (step t i p) n h u = other_item t i n (and_parts (names_step index.steps k t i) (has_path index k p) h).0 u
    path_along (insert t vr value) n h u = refl
    path_along (modify t vr value) n h u = refl
    path_along (erase t) n h u = refl
    path_along (erase_item t i) n h u = refl

    path_erases : (p : PathEdit) (n : ℕ) → has_path index k p ≡ true → Unentered n → erases (on_path p) tag n ≡ false
    path_erases (step t i p) n h u = refl
    path_erases (insert t vr value) n h u = refl
    path_erases (modify t vr value) n h u = refl
    path_erases (erase t) n h u = refl
    path_erases (erase_item t i) n h u = other_item t i n h u

    path_place : (p : PathEdit) (n : ℕ) → has_path index k p ≡ true → Unentered n → has_place (element_of (within (on_path p) tag n)) ≡ false
    path_place (step t i p) n h u = ap (λ (b : Bool). has_place (element_of (if b then on_path p else elsewhere))) (other_item t i n (and_parts (names_step index.steps k t i) (has_path index k p) h).0 u)
    path_place (insert t vr value) n h u = refl
    path_place (modify t vr value) n h u = refl
    path_place (erase t) n h u = refl
    path_place (erase_item t i) n h u = refl

    -- it asks nothing of an item
    abbrev pub Ignores : ℕ → Edit → Type 0
    Ignores n e = (erases e tag n ≡ false) × (has_place (element_of (within e tag n)) ≡ false)

    pub ignores : (d : ℕ) (e : Edit) (n : ℕ) → has_edit index k e ≡ true → Unentered n → Ignores n (at_depth d e)
    ignores d (on_path p) n h u = (path_erases (rest_of_path d p) n (left_has d p h) u, path_place (rest_of_path d p) n (left_has d p h) u)
    ignores d (modify_all t vr value) n h u = (refl, refl)
    ignores d (erase_all t) n h u = (refl, refl)
    ignores d erase_private n h u = (refl, refl)
    ignores d elsewhere n h u = (refl, refl)

    -- and goes along into it if it does so into each
    pub along : (d : ℕ) (e : Edit) (n : ℕ) → has_edit index k e ≡ true → Unentered n → is_everywhere e ≡ goes_along (at_depth d e) tag n
    along d (on_path p) n h u = sym (path_along (rest_of_path d p) n (left_has d p h) u)
    along d (modify_all t vr value) n h u = refl
    along d (erase_all t) n h u = refl
    along d erase_private n h u = refl
    along d elsewhere n h u = refl

-- ---- all edits

abbrev AlikeAt : Tag → Edit → Edit → Type 0
AlikeAt tag e f = (e ≡ f) ⊎ (Still tag e × (f ≡ elsewhere))

fates_alike : (a b c d : Fate) → a ≡ b → c ≡ d → or_else a c ≡ or_else b d
fates_alike a b c d p q = cc

module _ (tag : Tag) (last : Option Tag) where
  meets_alike : (e f : Edit) → AlikeAt tag e f → answer_of (Meets tag last) f ≡ answer_of (Meets tag last) e
  meets_alike e f (inl s) = ap (answer_of (Meets tag last)) (sym s)
  meets_alike e f (inr (quiet, s)) =
      ap (answer_of (Meets tag last)) s
      ∙ sym (ap (λ (x : Fate). acts x || passes_new (is_between last tag) (element_of e)) quiet.0 ∙ ap (passes_new (is_between last tag)) quiet.1)

  heads_alike : (e f : Edit) → AlikeAt tag e f → answer_of (AtHead tag last) f ≡ answer_of (AtHead tag last) e
  heads_alike e f (inl s) = ap (answer_of (AtHead tag last)) (sym s)
  heads_alike e f (inr (quiet, s)) =
      ap (answer_of (AtHead tag last)) s
      ∙ sym (ap (λ (x : Fate). acts x || makes (is_between last tag) (element_of e)) quiet.0 ∙ ap (makes (is_between last tag)) quiet.1)

fate_alike : (tag : Tag) (e f : Edit) → AlikeAt tag e f → fate f tag ≡ fate e tag
fate_alike tag e f (inl s) = ap (λ (x : Edit). fate x tag) (sym s)
fate_alike tag e f (inr (quiet, s)) = ap (λ (x : Edit). fate x tag) s ∙ sym quiet.0

abbrev masked : Bool → ℕ → Edit → Edit
masked b d e = if b then at_depth d e else elsewhere

one_alike : (tag : Tag) (d : ℕ) (e : Edit) (a b c : Bool) → c ≡ (a && b) → (b ≡ false → Still tag (at_depth d e)) → AlikeAt tag (masked a d e) (masked c d e)
one_alike tag d e false b c is h = inl (ap (λ (x : Bool). masked x d e) (sym is))
one_alike tag d e true true c is h = inl (ap (λ (x : Bool). masked x d e) (sym is))
one_alike tag d e true false c is h = inr (h refl, ap (λ (x : Bool). masked x d e) is)

module _ (index : TagIndex) (d mask : ℕ) (tag : Tag) where
  here_alike : (k : ℕ) (e : Edit) → has_edit index k e ≡ true → AlikeAt tag (asked_one d mask k e) (asked_one d (candidates index mask tag) k e)
  here_alike k e h = one_alike tag d e (is_set mask k) (is_set (kept index k tag) k) (is_set (candidates index mask tag) k) (set_in_both mask (kept index k tag) k) (λ unset. still index k tag d e h unset)

  pub any_narrowed : (last : Option Tag) (k : ℕ) (es : List Edit) → has_all index k es ≡ true → any_answer (Meets tag last) (asked d (candidates index mask tag) k es) ≡ any_answer (Meets tag last) (asked d mask k es)
  any_narrowed last k [] h = refl
  any_narrowed last k (e ∷ es) h =
      let x = and_parts (has_edit index k e) (has_all index (suc k) es) h in
      or_alike _ _ _ _ (meets_alike tag last _ _ (here_alike k e x.0)) (any_narrowed last (suc k) es x.1)

  pub fate_narrowed : (k : ℕ) (es : List Edit) → has_all index k es ≡ true → first_fate (asked d (candidates index mask tag) k es) tag ≡ first_fate (asked d mask k es) tag
  fate_narrowed k [] h = refl
  fate_narrowed k (e ∷ es) h =
      let x = and_parts (has_edit index k e) (has_all index (suc k) es) h in
      fates_alike _ _ _ _ (fate_alike tag _ _ (here_alike k e x.0)) (fate_narrowed (suc k) es x.1)

  pub heads_narrowed : (last : Option Tag) (k : ℕ) (es : List Edit) → has_all index k es ≡ true → map (answer_of (AtHead tag last)) (asked d (candidates index mask tag) k es) ≡ map (answer_of (AtHead tag last)) (asked d mask k es)
  heads_narrowed last k [] h = refl
  heads_narrowed last k (e ∷ es) h =
      let x = and_parts (has_edit index k e) (has_all index (suc k) es) h in
      bits_alike _ _ _ _ (heads_alike tag last _ _ (here_alike k e x.0)) (heads_narrowed last (suc k) es x.1)

-- no edit of an empty mask is asked
pub none_asked : (last : Option Tag) (tag : Tag) (d mask k : ℕ) (es : List Edit) → mask ≡ 0 → any_answer (Meets tag last) (asked d mask k es) ≡ false
none_asked last tag d mask k [] m = refl
none_asked last tag d mask k (e ∷ es) m =
    ap (λ (b : Bool). answer_of (Meets tag last) (masked b d e) || any_answer (Meets tag last) (asked d mask (suc k) es)) (ap (λ (n : ℕ). is_set n k) m ∙ none_set k)
    ∙ none_asked last tag d mask (suc k) es m

-- ---- nothing is put

no_maker : (index : TagIndex) (d k : ℕ) (e : Edit) (b : Bool) → has_edit index k e ≡ true → (b ≡ true → is_set index.makers k ≡ false) → element_of (masked b d e) ≡ no_element
no_maker index d k e false h u = refl
no_maker index d k e true h u = no_element_of index k d e h (u refl)

not_both : (mask other k : ℕ) → bit_and mask other ≡ 0 → is_set mask k ≡ true → is_set other k ≡ false
not_both mask other k nothing set = by_left (is_set mask k) set (sym (set_in_both mask other k) ∙ ap (λ (n : ℕ). is_set n k) nothing ∙ none_set k)
  where
    by_left : (b : Bool) → b ≡ true → (b && is_set other k) ≡ false → is_set other k ≡ false
    by_left true e f = f
    by_left false e f = absurd (false≢true e)

or_same : (a b : Bool) → b ≡ false → a ≡ (a || b)
or_same true b e = refl
or_same false b e = sym e

module _ (index : TagIndex) (d mask : ℕ) (nothing : bit_and mask index.makers ≡ 0) where
  made_here : (k : ℕ) (e : Edit) → has_edit index k e ≡ true → element_of (asked_one d mask k e) ≡ no_element
  made_here k e h = no_maker index d k e (is_set mask k) h (not_both mask index.makers k nothing)

  pub none_made : (passes : Tag → Bool) (k : ℕ) (es : List Edit) (set : Trees) → has_all index k es ≡ true → puts passes (asked d mask k es) set ≡ set
  none_made passes k [] set h = refl
  none_made passes k (e ∷ es) set h =
      let x = and_parts (has_edit index k e) (has_all index (suc k) es) h in
      ap (puts passes (asked d mask (suc k) es)) (new_off passes (asked d mask (suc k) es) (element_of (asked_one d mask k e)) set (ap (passes_new passes) (made_here k e x.0)))
      ∙ none_made passes (suc k) es set x.1

  pub none_found : (passes : Tag → Bool) (found : List Bool) (k : ℕ) (es : List Edit) → has_all index k es ≡ true → found ≡ either found (map (λ e. makes passes (element_of e)) (asked d mask k es))
  none_found passes [] k es h = refl
  none_found passes (a ∷ found) k [] h = refl
  none_found passes (a ∷ found) k (e ∷ es) h =
      let x = and_parts (has_edit index k e) (has_all index (suc k) es) h in
      bits_alike _ _ _ _ (or_same a (makes passes (element_of (asked_one d mask k e))) (ap (makes passes) (made_here k e x.0))) (none_found passes found (suc k) es x.1)

-- ---- no edit names an item

ignored : (index : TagIndex) (k : ℕ) (tag : Tag) (d : ℕ) (e : Edit) (n : ℕ) (b : Bool) → has_edit index k e ≡ true → (b ≡ true → Unentered index k tag n) → Ignores index k tag n (masked b d e)
ignored index k tag d e n false h u = (refl, refl)
ignored index k tag d e n true h u = ignores index k tag d e n h (u refl)

both_alike : (a b g : Bool) → (a ≡ true → b ≡ g) → (a && b) ≡ (a && g)
both_alike true b g h = h refl
both_alike false b g h = refl

first_alike : (a b : Bool) (xs ys : List Bool) → a ∷ xs ≡ b ∷ ys → (a ≡ b) × (xs ≡ ys)
first_alike a b xs ys e = (cc, cc)

module _ (index : TagIndex) (d mask : ℕ) (tag : Tag) (n : ℕ) (nothing : bit_and mask (item_mask_at index.steps tag n) ≡ 0) where
  ignored_here : (k : ℕ) (e : Edit) → has_edit index k e ≡ true → Ignores index k tag n (asked_one d mask k e)
  ignored_here k e h = ignored index k tag d e n (is_set mask k) h (not_both mask (item_mask_at index.steps tag n) k nothing)

  pub none_erased : (k : ℕ) (es : List Edit) → has_all index k es ≡ true → any_erases (asked d mask k es) tag n ≡ false
  none_erased k [] h = refl
  none_erased k (e ∷ es) h =
      let x = and_parts (has_edit index k e) (has_all index (suc k) es) h in
      ap (λ (b : Bool). b || any_erases (asked d mask (suc k) es) tag n) (ignored_here k e x.0).0 ∙ none_erased (suc k) es x.1

  pub none_placed : (found : List Bool) (k : ℕ) (es : List Edit) → has_all index k es ≡ true → found ≡ either found (map (λ e. erases e tag n || has_place (element_of (within e tag n))) (asked d mask k es))
  none_placed [] k es h = refl
  none_placed (a ∷ found) k [] h = refl
  none_placed (a ∷ found) k (e ∷ es) h =
      let x = and_parts (has_edit index k e) (has_all index (suc k) es) h in
      let y = ignored_here k e x.0 in
      bits_alike _ _ _ _ (or_others_false a (erases (asked_one d mask k e) tag n) (has_place (element_of (within (asked_one d mask k e) tag n))) y.0 y.1) (none_placed found (suc k) es x.1)

  pub others_along : (k : ℕ) (es : List Edit) → has_all index k es ≡ true → bits index.everywhere k es ≡ map is_everywhere es → GoAlong d mask (bit_and mask index.everywhere) tag n k es
  others_along k [] h t = tt
  others_along k (e ∷ es) h t =
      let x = and_parts (has_edit index k e) (has_all index (suc k) es) h in
      let y = first_alike (is_set index.everywhere k) (is_everywhere e) (bits index.everywhere (suc k) es) (map is_everywhere es) t in (
        set_in_both mask index.everywhere k
            ∙ both_alike (is_set mask k) (is_set index.everywhere k) (goes_along (at_depth d e) tag n) (λ set. y.0 ∙ along index k tag d e n x.0 (not_both mask (item_mask_at index.steps tag n) k nothing set)),
        others_along (suc k) es x.1 y.1,
      )

-- ---- whether an element is left as it is

pub open_or_met : (dropped met left : Bool) → false ≡ dropped → left ≡ not met → left ≡ (not dropped && not met)
open_or_met false met left d e = e
open_or_met true met left d e = absurd (false≢true d)
