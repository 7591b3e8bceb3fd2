-- The state of the edits, as the program holds it, at each step.
use Rattle.std.proofs.Common.{◌≡◌, ℕ, suc, ◌+◌, ◌<◌, ◌≤◌, min, List, [], ◌∷◌, ◌++◌, map, length, reverse, Option, Some, None, Bool, true, sym, ◌∙◌, ap, arith}
use Rattle.std.proofs.lemmas.List.{reverse-append, length-reverse, length-map}
use Rattle.std.proofs.lemmas.Bool.{lt-ltb, le-ltb}
use Rattle.std.proofs.Math.Nat.{min_comm}
use Rattle.dcm_base.specs.declared.tag.Tag.{Tag}
use Rattle.dcm_base.specs.declared.length.Length.{Length}
use Rattle.dcm_base.specs.Steps.Atoms.{opens_item}
use Rattle.dcm_edits.specs.Edit.{Edit}
use Rattle.dcm_edits.specs.Together.{any_erases}
use Rattle.dcm_editor.specs.EditSink.{MOST_AROUND, MOST_COUNTED, dropped_after_head, either, next, begun}
use Rattle.dcm_editor.specs.Editing.{level_of}
use Rattle.dcm_editor.specs.declared.editor.Level.{Level}
use Rattle.dcm_editor.specs.Asking.{answer_of}
use Rattle.dcm_editor.specs.declared.asked.Question.TheVariants.{AtTop, AtItem, GoesAlong}
use Rattle.dcm_editor.specs.Masks.{MaskLevel, MaskState, meant, asked, bits, is_set, AllSet}
use Rattle.dcm_editor.proofs.Masks.Meaning.{meant_begun, meant_opens_item, meant_stays_full, asked_first}
use Rattle.dcm_editor.proofs.Masks.Answering.{all_set, going_along}

-- ---- the levels

abbrev pub around : List Level → List MaskLevel
around items = map level_of (reverse items)

around_size : (items : List Level) → length (around items) ≡ length items
around_size items = length-map (reverse items) level_of ∙ length-reverse items

around_more : (items : List Level) (l : Level) (more : List Level) → more ≡ items ++ l ∷ [] → around more ≡ level_of l ∷ around items
around_more items l more e = ap (λ (x : List Level). map level_of (reverse x)) e ∙ ap (map level_of) (reverse-append items (l ∷ []))

abbrev pub state_of : MaskLevel → List MaskLevel → ℕ → ℕ → MaskState
state_of l outer d f = record { level = l; outer = outer; dropped = d; found = f }

alike : (l k : MaskLevel) (o p : List MaskLevel) (d e f : ℕ) → l ≡ k → o ≡ p → d ≡ e → state_of l o d f ≡ state_of k p e f
alike l k o p d e f x y z = cc

-- ---- before the first atom

pub begins : (edits : List Edit) (mask found d : ℕ) (level : MaskLevel) (items : List Level) → level ≡ record { mask = mask; last = None; count = 0 } → items ≡ [] → d ≡ 0
    → ((j : ℕ) → j < length edits → is_set mask j ≡ true) → bits found 0 edits ≡ map (answer_of AtTop) (asked 0 mask 0 edits) → meant edits (state_of level (around items) d found) ≡ begun edits
begins edits mask found d level items l e none all p =
    let set : AllSet mask 0 edits = all_set mask 0 edits (λ j k. all j (omega (arith, k))) in
    ap (meant edits) (alike _ _ _ _ d 0 found l (ap around e) none)
    ∙ meant_begun edits mask found set (p ∙ ap (λ (es : List Edit). map (answer_of AtTop) es) (asked_first mask 0 edits set))

-- ---- the head of an item

pub full_stays : (edits : List Edit) (level : MaskLevel) (items : List Level) (d f : ℕ) (declared : Length) → 64 ≤ length items
    → meant edits (state_of level (around items) d f) ≡ next (meant edits (state_of level (around items) d f)) (opens_item declared)
full_stays edits level items d f declared l =
    let size = around_size items in
    meant_stays_full edits (state_of level (around items) d f) declared (le-ltb (length (around items)) MOST_AROUND (omega (arith, size, l)))

counted : (n : ℕ) → min (n + 1) MOST_COUNTED ≡ min MOST_COUNTED (suc n)
counted n = min_comm (n + 1) MOST_COUNTED ∙ ap (min MOST_COUNTED) (let e : n + 1 ≡ suc n = omega arith in e)

abbrev pub mask_level : ℕ → Option Tag → ℕ → MaskLevel
mask_level mask last n = record { mask = mask; last = last; count = n }

pub enters : (edits : List Edit) (level new pushed : Level) (items more : List Level) (d e f found inner : ℕ) (tag : Tag) (b : Bool) (depth : ℕ) (declared : Length)
    → level.last ≡ Some tag → length items < 64 → level_of new ≡ record { mask = inner; last = None; count = 0 } → more ≡ items ++ pushed ∷ []
    → level_of pushed ≡ record { mask = level.mask; last = level.last; count = min (level.items + 1) MOST_COUNTED }
    → e ≡ dropped_after_head d b → b ≡ any_erases (asked (length (reverse items)) level.mask 0 edits) tag level.items
    → depth ≡ length (reverse items) → bits inner 0 edits ≡ map (answer_of (GoesAlong tag level.items)) (asked depth level.mask 0 edits)
    → bits found 0 edits ≡ either (bits f 0 edits) (map (answer_of (AtItem tag level.items)) (asked (length (reverse items)) level.mask 0 edits))
    → meant edits (state_of (level_of new) (around more) e found) ≡ next (meant edits (state_of (level_of level) (around items) d f)) (opens_item declared)
enters edits level new pushed items more d e f found inner tag b depth declared last room fresh pushes put drops erased deep along here =
    let s = state_of (level_of level) (around items) d f in
    let size = around_size items in
    let same : length (reverse items) ≡ length (around items) = sym (length-map (reverse items) level_of) in
    let asked_at = λ (n : ℕ). asked n level.mask 0 edits in
    let is = alike _ _ _ _ _ _ found fresh
    (around_more items pushed more pushes ∙ ap (λ (l : MaskLevel). l ∷ around items) (put ∙ ap (mask_level level.mask level.last) (counted level.items)))
    (drops ∙ ap (dropped_after_head d) (erased ∙ ap (λ (n : ℕ). any_erases (asked_at n) tag level.items) same)) in
    ap (meant edits) is
    ∙ meant_opens_item edits s tag declared inner found last (lt-ltb (length (around items)) MOST_AROUND (omega (arith, size, room)))
    (going_along (length (around items)) level.mask inner 0 tag level.items edits (along ∙ ap (λ (n : ℕ). map (answer_of (GoesAlong tag level.items)) (asked_at n)) (deep ∙ same)))
    (here ∙ ap (λ (n : ℕ). either (bits f 0 edits) (map (answer_of (AtItem tag level.items)) (asked_at n))) same)
