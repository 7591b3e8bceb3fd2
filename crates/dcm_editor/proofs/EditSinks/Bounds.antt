-- The sink's steps within their bounds are those without.
use Rattle.std.proofs.Common.{◌≡◌, ℕ, zero, suc, ◌<◌, ◌≤◌, List, [], ◌∷◌, ◌++◌, length, Option, Some, None, Bool, true, false, ◌||◌, ◌&&◌, refl, sym, ◌∙◌, ap, subst, arith, ◌⊎◌, inl, inr}
use Rattle.std.specs.Prelude.{map, fold, min, nat_lt, ◌==◌, if◌then◌else◌}
use Rattle.std.proofs.lemmas.Bool.{lt-ltb}
use Rattle.std.proofs.lemmas.List.{length-map}
use Rattle.dcm_lemmas.proofs.Lists.{bits_alike, cons_alike}
use Rattle.dcm_lemmas.proofs.Numbers.{below_not_equal}
use Rattle.dcm_lemmas.proofs.Truth.{or_alike}
use Rattle.dcm_base.specs.declared.tag.Tag.{Tag}
use Rattle.dcm_base.specs.Tables.Tag.{same_tag}
use Rattle.dcm_base.specs.Steps.Steps.{outputs}
use Rattle.dcm_base.specs.Steps.Atoms.{Atom, opens, value_byte, closes_leaf, opens_item, closes_item, closes_sequence, opens_fragment, ends}
use Rattle.dcm_edits.specs.Edit.{Index, number, every, selects, step, insert, modify, erase, erase_item, Edit, on_path, modify_all, erase_all, erase_private, elsewhere, within, erases, element_of}
use Rattle.dcm_edits.specs.Together.{any_erases, all_within}
use Rattle.dcm_editor.specs.EditSink.{Level, State, either, MOST_COUNTED, dropped_after_head, dropped_after_end, has_place, one_more_item, item_in, after_item, item_head_by, unless_dropped, next, passed}
use Rattle.dcm_edits.specs.Bounds.{HasShortIndex, HasShortIndexes, HaveShortIndexes}
use Rattle.dcm_editor.proofs.EditSinks.Unbounded.{dropped_unbounded, item_unbounded, next_unbounded}

-- ---- counts that have come to their most

abbrev pub clip : ℕ → ℕ
clip n = min MOST_COUNTED n

pub clipped : (n : ℕ) → (clip n ≡ n) ⊎ ((clip n ≡ MOST_COUNTED) × (MOST_COUNTED < n))
clipped n = grind (arith)

past : (k n : ℕ) → k < 1000000000 → clip n ≡ MOST_COUNTED → MOST_COUNTED < n → (k == clip n) ≡ (k == n)
past k n h e g = ap (λ (m : ℕ). k == m) e ∙ below_not_equal k MOST_COUNTED (omega arith) ∙ sym (below_not_equal k n (omega arith))

selects_clipped : (i : Index) (n : ℕ) → HasShortIndex i → selects i (clip n) ≡ selects i n
selects_clipped (number k) n h = elim (clipped n) [ inl e ↦ ap (λ (m : ℕ). k == m) e | inr e ↦ past k n h e.0 e.1 ]
selects_clipped every n h = refl

erases_clipped : (e : Edit) (t : Tag) (n : ℕ) → HasShortIndexes e → erases e t (clip n) ≡ erases e t n
erases_clipped (on_path (step tag index edit)) t n h = refl
erases_clipped (on_path (insert tag vr value)) t n h = refl
erases_clipped (on_path (modify tag vr value)) t n h = refl
erases_clipped (on_path (erase tag)) t n h = refl
erases_clipped (on_path (erase_item tag index)) t n h = ap (λ (b : Bool). same_tag tag t && b) (selects_clipped index n h)
erases_clipped (modify_all tag vr value) t n h = refl
erases_clipped (erase_all tag) t n h = refl
erases_clipped erase_private t n h = refl
erases_clipped elsewhere t n h = refl

within_clipped : (e : Edit) (t : Tag) (n : ℕ) → HasShortIndexes e → within e t (clip n) ≡ within e t n
within_clipped (on_path (step tag index edit)) t n h = ap (λ (b : Bool). if same_tag tag t && b then on_path edit else elsewhere) (selects_clipped index n h.0)
within_clipped (on_path (insert tag vr value)) t n h = refl
within_clipped (on_path (modify tag vr value)) t n h = refl
within_clipped (on_path (erase tag)) t n h = refl
within_clipped (on_path (erase_item tag index)) t n h = refl
within_clipped (modify_all tag vr value) t n h = refl
within_clipped (erase_all tag) t n h = refl
within_clipped erase_private t n h = refl
within_clipped elsewhere t n h = refl

any_erases_clipped : (es : List Edit) (t : Tag) (n : ℕ) → HaveShortIndexes es → any_erases es t (clip n) ≡ any_erases es t n
any_erases_clipped [] t n h = refl
any_erases_clipped (e ∷ es) t n h = or_alike _ _ _ _ (erases_clipped e t n h.0) (any_erases_clipped es t n h.1)

all_within_clipped : (es : List Edit) (t : Tag) (n : ℕ) → HaveShortIndexes es → all_within es t (clip n) ≡ all_within es t n
all_within_clipped [] t n h = refl
all_within_clipped (e ∷ es) t n h = cons_alike _ _ _ _ (within_clipped e t n h.0) (all_within_clipped es t n h.1)

abbrev item_finds : Tag → ℕ → Edit → Bool
item_finds t n e = erases e t n || has_place (element_of (within e t n))

found_clipped : (es : List Edit) (t : Tag) (n : ℕ) → HaveShortIndexes es → map (item_finds t (clip n)) es ≡ map (item_finds t n) es
found_clipped [] t n h = refl
found_clipped (e ∷ es) t n h =
    bits_alike _ _ _ _ (or_alike _ _ _ _ (erases_clipped e t n h.0) (ap (λ (x : Edit). has_place (element_of x)) (within_clipped e t n h.0))) (found_clipped es t n h.1)

within_short : (e : Edit) (t : Tag) (n : ℕ) → HasShortIndexes e → HasShortIndexes (within e t n)
within_short (on_path (step tag index edit)) t n h = by_test (same_tag tag t && selects index n)
  where
    by_test : (b : Bool) → HasShortIndexes (if b then on_path edit else elsewhere)
    by_test true = h.1
    by_test false = tt
within_short (on_path (insert tag vr value)) t n h = tt
within_short (on_path (modify tag vr value)) t n h = tt
within_short (on_path (erase tag)) t n h = tt
within_short (on_path (erase_item tag index)) t n h = tt
within_short (modify_all tag vr value) t n h = tt
within_short (erase_all tag) t n h = tt
within_short erase_private t n h = tt
within_short elsewhere t n h = tt

all_within_short : (es : List Edit) (t : Tag) (n : ℕ) → HaveShortIndexes es → HaveShortIndexes (all_within es t n)
all_within_short [] t n h = tt
all_within_short (e ∷ es) t n h = (within_short e t n h.0, all_within_short es t n h.1)

-- ---- states

abbrev pub clip_level : Level → Level
clip_level l = record { edits = l.edits; last = l.last; count = clip l.count }

abbrev pub clip_state : State → State
clip_state s = record { level = clip_level s.level; outer = map clip_level s.outer; dropped = s.dropped; found = s.found }

abbrev pub AllShort : List Level → Type 0
AllShort [] = Unit {0}
AllShort (l ∷ ls) = HaveShortIndexes l.edits × AllShort ls

-- no more than so many data sets around, and no more than so many dropped things
pub record Fits (m k : ℕ) (s : State) : Type 0 where
  pub few : length s.outer ≤ m
  pub dropped : s.dropped ≤ k
  pub short : HaveShortIndexes s.level.edits
  pub all_short : AllShort s.outer

abbrev pub one_less : ℕ → ℕ
one_less zero = zero
one_less (suc n) = n

-- how many data sets are open around the innermost one, and how many things are open, after an atom
abbrev pub around_after : ℕ → Atom → ℕ
around_after m (opens tag vr declared s) = m
around_after m (value_byte b) = m
around_after m closes_leaf = m
around_after m (opens_item declared) = suc m
around_after m closes_item = one_less m
around_after m closes_sequence = m
around_after m (opens_fragment size) = m
around_after m ends = m

abbrev pub things_after : ℕ → Atom → ℕ
things_after k (opens tag vr declared s) = suc k
things_after k (value_byte b) = k
things_after k closes_leaf = one_less k
things_after k (opens_item declared) = suc k
things_after k closes_item = one_less k
things_after k closes_sequence = one_less k
things_after k (opens_fragment size) = suc k
things_after k ends = k

-- there is room for each of these atoms
abbrev pub HasRoom : ℕ → ℕ → List Atom → Type 0
HasRoom m k [] = Unit {0}
HasRoom m k (a ∷ atoms) = (around_after m a ≤ 64) × (things_after k a ≤ 200) × HasRoom (around_after m a) (things_after k a) atoms

dropped_head : (d k : ℕ) (b : Bool) → d ≤ k → suc k ≤ 200 → dropped_after_head d b ≡ dropped_unbounded d b
dropped_head zero k b h g = refl
dropped_head (suc d) k b h g = omega arith

dropped_more : (d k : ℕ) (b : Bool) → d ≤ k → dropped_unbounded d b ≤ suc k
dropped_more zero k true h = omega arith
dropped_more zero k false h = omega arith
dropped_more (suc d) k b h = omega arith

dropped_less : (d k : ℕ) → d ≤ k → dropped_after_end d ≤ one_less k
dropped_less zero k h = omega arith
dropped_less (suc d) zero h = absurd (omega arith)
dropped_less (suc d) (suc k) h = omega arith

abbrev state_of : Level → List Level → ℕ → List Bool → State
state_of l o d f = record { level = l; outer = o; dropped = d; found = f }

abbrev level_of : List Edit → Option Tag → ℕ → Level
level_of es last n = record { edits = es; last = last; count = n }

state_alike : (l l' : Level) (o o' : List Level) (d d' : ℕ) (f f' : List Bool) → l ≡ l' → o ≡ o' → d ≡ d' → f ≡ f' → state_of l o d f ≡ state_of l' o' d' f'
state_alike l l' o o' d d' f f' p q r s = cc

outer_alike : (l l' : Level) (o : List Level) → l ≡ l' → l ∷ o ≡ l' ∷ o
outer_alike l l' o p = cc

clip_more : (n : ℕ) → min MOST_COUNTED (suc (clip n)) ≡ clip (suc n)
clip_more n = grind (arith)

-- ---- one step

-- after an atom the states agree, and there is room again
pub record Same (m k : ℕ) (s : State) (a : Atom) : Type 0 where
  pub state : next (clip_state s) a ≡ clip_state (next_unbounded s a)
  pub output : passed (clip_state s) a ≡ passed s a
  pub fits : Fits (around_after m a) (things_after k a) (next_unbounded s a)

less_outer : (m : ℕ) (l : Level) (o : List Level) → length (l ∷ o) ≤ m → length o ≤ one_less m
less_outer zero l o h = absurd (omega arith)
less_outer (suc m) l o h = omega arith

head_fits : (l l' : Level) (o : List Level) (d m k : ℕ) (f g : List Bool) (b : Bool) → Fits m k (state_of l o d f) → l'.edits ≡ l.edits
    → Fits m (suc k) (state_of l' o (dropped_unbounded d b) g)
head_fits l l' o d m k f g b h e =
    record { few = h.few; dropped = dropped_more d k b h.dropped; short = subst HaveShortIndexes (sym e) h.short; all_short = h.all_short }

item_same : (es : List Edit) (last : Option Tag) (n : ℕ) (o : List Level) (d m k : ℕ) (f : List Bool) → Fits m k (state_of (level_of es last n) o d f) → suc m ≤ 64 → suc k ≤ 200
    → (item_in (state_of (level_of es last (clip n)) (map clip_level o) d f) last ≡ clip_state (item_unbounded (state_of (level_of es last n) o d f) last))
    × Fits (suc m) (suc k) (item_unbounded (state_of (level_of es last n) o d f) last)
item_same es None n o d m k f h r q =
    let few = h.few in
    let less = h.dropped in
    (refl, record { few = omega arith; dropped = omega arith; short = h.short; all_short = h.all_short })
item_same es (Some tag) n o d m k f h r q =
    let few = h.few in
    let s : State = state_of (level_of es (Some tag) (clip n)) (map clip_level o) d f in
    let room : nat_lt (length (map clip_level o)) 64 ≡ true = lt-ltb _ _ (omega (arith, length-map o clip_level)) in (
      ap (λ (b : Bool). if b then record {
        level = level_of (all_within es tag (clip n)) None 0;
        outer = one_more_item (level_of es (Some tag) (clip n)) ∷ map clip_level o;
        dropped = dropped_after_head d (any_erases es tag (clip n));
        found = either f (map (item_finds tag (clip n)) es);
      } else s) room
          ∙ state_alike _ _ _ _ _ _ _ _
          (ap (λ (x : List Edit). level_of x None 0) (all_within_clipped es tag n h.short))
          (outer_alike _ _ (map clip_level o) (ap (λ (c : ℕ). level_of es (Some tag) c) (clip_more n)))
          (ap (λ (b : Bool). dropped_after_head d b) (any_erases_clipped es tag n h.short) ∙ dropped_head d k (any_erases es tag n) h.dropped q)
          (ap (λ (x : List Bool). either f x) (found_clipped es tag n h.short)),
      record { few = omega arith; dropped = dropped_more d k (any_erases es tag n) h.dropped; short = all_within_short es tag n h.short; all_short = (h.short, h.all_short) },
    )

item_output : (es : List Edit) (last : Option Tag) (n d : ℕ) (head : Atom) → HaveShortIndexes es
    → unless_dropped d (item_head_by es last (clip n) head) ≡ unless_dropped d (item_head_by es last n head)
item_output es None n d head h = refl
item_output es (Some tag) n d head h = ap (λ (b : Bool). unless_dropped d (if b then [] else head ∷ [])) (any_erases_clipped es tag n h)

end_same : (l : Level) (o : List Level) (d m k : ℕ) (f : List Bool) → Fits m k (state_of l o d f)
    → (after_item (clip_state (state_of l o d f)) (map clip_level o) ≡ clip_state (after_item (state_of l o d f) o)) × Fits (one_less m) (one_less k) (after_item (state_of l o d f) o)
end_same l [] d m k f h = (refl, record { few = omega arith; dropped = dropped_less d k h.dropped; short = h.short; all_short = tt })
end_same l (l' ∷ o) d m k f h =
    (refl, record { few = less_outer m l' o h.few; dropped = dropped_less d k h.dropped; short = h.all_short.0; all_short = h.all_short.1 })

one_step : (a : Atom) (es : List Edit) (last : Option Tag) (n : ℕ) (o : List Level) (d m k : ℕ) (f : List Bool) → Fits m k (state_of (level_of es last n) o d f) → around_after m a ≤ 64 → things_after k a ≤ 200
    → Same m k (state_of (level_of es last n) o d f) a
one_step (opens tag vr declared s) es last n o d m k f h r q =
    record { state = state_alike _ _ _ _ _ _ _ _ refl refl (dropped_head d k _ h.dropped q) refl; output = refl; fits = head_fits _ _ o d m k f _ _ h refl }
one_step (value_byte b) es last n o d m k f h r q = record { state = refl; output = refl; fits = h }
one_step closes_leaf es last n o d m k f h r q =
    record { state = refl; output = refl; fits = record { few = h.few; dropped = dropped_less d k h.dropped; short = h.short; all_short = h.all_short } }
one_step (opens_item declared) es last n o d m k f h r q =
    let both = item_same es last n o d m k f h r q in
    record { state = both.0; output = item_output es last n d (opens_item declared) h.short; fits = both.1 }
one_step closes_item es last n o d m k f h r q =
    let both = end_same (level_of es last n) o d m k f h in
    record { state = both.0; output = refl; fits = both.1 }
one_step closes_sequence es last n o d m k f h r q =
    record { state = refl; output = refl; fits = record { few = h.few; dropped = dropped_less d k h.dropped; short = h.short; all_short = h.all_short } }
one_step (opens_fragment size) es last n o d m k f h r q =
    record { state = state_alike _ _ _ _ _ _ _ _ refl refl (dropped_head d k _ h.dropped q) refl; output = refl; fits = head_fits _ _ o d m k f _ _ h refl }
one_step ends es last n o d m k f h r q = record { state = refl; output = refl; fits = record { few = h.few; dropped = h.dropped; short = h.short; all_short = h.all_short } }

-- ---- all steps

pub same_output : (atoms : List Atom) (s : State) (m k : ℕ) → Fits m k s → HasRoom m k atoms → outputs next passed (clip_state s) atoms ≡ outputs next_unbounded passed s atoms
same_output [] s m k h r = refl
same_output (a ∷ atoms) s m k h r =
    let one : Same m k s a = one_step a s.level.edits s.level.last s.level.count s.outer s.dropped m k s.found h r.0 r.1 in
    both (passed (clip_state s) a) (passed s a) _ _ one.output
    (ap (λ (x : State). outputs next passed x atoms) one.state ∙ same_output atoms (next_unbounded s a) (around_after m a) (things_after k a) one.fits r.2)
  where
    both : (x y z w : List Atom) → x ≡ y → z ≡ w → x ++ z ≡ y ++ w
    both x y z w p q = cc

pub same_state : (atoms : List Atom) (s : State) (m k : ℕ) → Fits m k s → HasRoom m k atoms → fold next (clip_state s) atoms ≡ clip_state (fold next_unbounded s atoms)
same_state [] s m k h r = refl
same_state (a ∷ atoms) s m k h r =
    let one : Same m k s a = one_step a s.level.edits s.level.last s.level.count s.outer s.dropped m k s.found h r.0 r.1 in
    ap (λ (x : State). fold next x atoms) one.state ∙ same_state atoms (next_unbounded s a) (around_after m a) (things_after k a) one.fits r.2
