-- The index of the edits, as one edit after another is added.
use Rattle.std.proofs.Common.{◌≡◌, ◌≢◌, ℕ, suc, ◌+◌, ◌<◌, length, List, [], ◌∷◌, map, Bool, true, false, refl, sym, ◌∙◌, ap, arith}
use Rattle.std.specs.Prelude.{◌==◌}
use Rattle.std.proofs.lemmas.Bool.{eqb-true, eqb-false}
use Rattle.std.proofs.lemmas.List.{get_or-set_same, get_or-set_other}
use Rattle.std.proofs.Math.ListN.{set, get_or}
use Rattle.dcm_lemmas.proofs.Truth.{and_both, and_parts}
use Rattle.dcm_base.specs.declared.tag.Tag.{Tag}
use Rattle.dcm_edits.specs.Edit.{Index, number, every, PathEdit, step, insert, modify, erase, erase_item}
use Rattle.dcm_edits.specs.Edit.{Edit, on_path, modify_all, erase_all, erase_private, elsewhere}
use Rattle.dcm_edits.specs.Meaning.{index_of, along}
use Rattle.dcm_edits.specs.declared.edit.Step.{Step}
use Rattle.dcm_editor.specs.Indexes.{bucket_of, bucket_of_item, names_step, names_steps, MasksGrow, has_path, has_edit, has_all, Grows, tells_everywhere}
use Rattle.dcm_editor.specs.Masks.{is_set, bits}
use Rattle.dcm_editor.specs.declared.index.TagIndex.{TagIndex}
use Rattle.dcm_editor.specs.declared.index.TagMasks.{TagMasks}

-- ---- one edit

pub along_has : (index : TagIndex) (k : ℕ) (steps : List Step) (edit : PathEdit) → names_steps index.steps k steps ≡ true → has_path index k edit ≡ true → has_path index k (along steps edit) ≡ true
along_has index k [] edit n h = h
along_has index k (s ∷ steps) edit n h =
    let x = and_parts (names_step index.steps k s.tag (index_of s.index)) (names_steps index.steps k steps) n in
    and_both (names_step index.steps k s.tag (index_of s.index)) (has_path index k (along steps edit)) x.0 (along_has index k steps edit x.1 h)

step_grows : (old new : TagMasks) → MasksGrow old new → (k : ℕ) (tag : Tag) (i : Index) → names_step old k tag i ≡ true → names_step new k tag i ≡ true
step_grows old new g k tag (number n) h = g k (bucket_of_item tag n) h
step_grows old new g k tag every h = g k (bucket_of tag) h

module _ (old new : TagIndex) (ends : MasksGrow old.ends new.ends) (steps : MasksGrow old.steps new.steps) (makers : (k : ℕ) → is_set old.makers k ≡ true → is_set new.makers k ≡ true) (private : (k : ℕ) → is_set old.private k ≡ true → is_set new.private k ≡ true) where
  pub path_grows : (k : ℕ) (p : PathEdit) → has_path old k p ≡ true → has_path new k p ≡ true
  path_grows k (step tag i p) h =
      let x = and_parts (names_step old.steps k tag i) (has_path old k p) h in
      and_both (names_step new.steps k tag i) (has_path new k p) (step_grows old.steps new.steps steps k tag i x.0) (path_grows k p x.1)
  path_grows k (insert tag vr value) h = makers k h
  path_grows k (modify tag vr value) h = ends k (bucket_of tag) h
  path_grows k (erase tag) h = ends k (bucket_of tag) h
  path_grows k (erase_item tag i) h = step_grows old.steps new.steps steps k tag i h

  pub grows : Grows old new
  grows k (on_path p) h = path_grows k p h
  grows k (modify_all tag vr value) h = ends k (bucket_of tag) h
  grows k (erase_all tag) h = ends k (bucket_of tag) h
  grows k erase_private h = private k h
  grows k elsewhere h = refl

-- as one part of it grows
abbrev pub with_ends : TagIndex → TagMasks → TagIndex
with_ends index ends = record { ends = ends; steps = index.steps; makers = index.makers; private = index.private; everywhere = index.everywhere }

abbrev pub with_steps : TagIndex → TagMasks → TagIndex
with_steps index steps = record { ends = index.ends; steps = steps; makers = index.makers; private = index.private; everywhere = index.everywhere }

abbrev pub with_makers : TagIndex → ℕ → TagIndex
with_makers index makers = record { ends = index.ends; steps = index.steps; makers = makers; private = index.private; everywhere = index.everywhere }

abbrev pub with_private : TagIndex → ℕ → TagIndex
with_private index private = record { ends = index.ends; steps = index.steps; makers = index.makers; private = private; everywhere = index.everywhere }

module _ (index : TagIndex) where
  pub ends_grow : (new : TagMasks) → MasksGrow index.ends new → Grows index (with_ends index new)
  ends_grow new g = grows index (with_ends index new) g (λ k t h. h) (λ k h. h) (λ k h. h)

  pub steps_grow : (new : TagMasks) → MasksGrow index.steps new → Grows index (with_steps index new)
  steps_grow new g = grows index (with_steps index new) (λ k t h. h) g (λ k h. h) (λ k h. h)

  pub makers_grow : (new : ℕ) → ((k : ℕ) → is_set index.makers k ≡ true → is_set new k ≡ true) → Grows index (with_makers index new)
  makers_grow new g = grows index (with_makers index new) (λ k t h. h) (λ k t h. h) g (λ k h. h)

  pub private_grow : (new : ℕ) → ((k : ℕ) → is_set index.private k ≡ true → is_set new k ≡ true) → Grows index (with_private index new)
  private_grow new g = grows index (with_private index new) (λ k t h. h) (λ k t h. h) (λ k h. h) g

  -- an edit on a path is there with its end and its steps
  pub path_there : (new : TagMasks) (k : ℕ) (steps : List Step) (edit : PathEdit) → MasksGrow index.steps new → names_steps new k steps ≡ true → has_path index k edit ≡ true → has_path (with_steps index new) k (along steps edit) ≡ true
  path_there new k steps edit g n h = along_has (with_steps index new) k steps edit n (path_grows index (with_steps index new) (λ i t x. x) g (λ i x. x) (λ i x. x) k edit h)

-- the steps of a path, one after another
abbrev pub StepsSoFar : TagMasks → ℕ → (left all : List Step) → Type 0
StepsSoFar now k left all = (final : TagMasks) → MasksGrow now final → names_steps final k left ≡ true → names_steps final k all ≡ true

pub steps_on : (all : List Step) (old new : TagMasks) (k : ℕ) (steps : List Step) (s : Step) (after : List Step) → steps ≡ s ∷ after → StepsSoFar old k steps all → MasksGrow old new → names_step new k s.tag (index_of s.index) ≡ true → StepsSoFar new k after all
steps_on all old new k steps s after is so_far grown here = λ final grows rest.
    so_far final (λ i t h. grows i t (grown i t h)) (ap (λ (xs : List Step). names_steps final k xs) is ∙ and_both (names_step final k s.tag (index_of s.index)) (names_steps final k after) (step_grows new final grows k s.tag (index_of s.index) here) rest)

pub steps_end : (all : List Step) (now : TagMasks) (k : ℕ) (steps : List Step) → length steps ≡ 0 → StepsSoFar now k steps all → names_steps now k all ≡ true
steps_end all now k [] none so_far = so_far now (λ i t h. h) refl
steps_end all now k (s ∷ steps) none so_far = absurd (omega (arith, none))

-- a bit more is set
pub bit_kept : (old new place : ℕ) → is_set new place ≡ true → ((k : ℕ) → k ≢ place → is_set new k ≡ is_set old k) → (k : ℕ) → is_set old k ≡ true → is_set new k ≡ true
bit_kept old new place here others k h = by_test (k == place) refl
  where
    by_test : (b : Bool) → (k == place) ≡ b → is_set new k ≡ true
    by_test true e = ap (is_set new) (eqb-true k place e) ∙ here
    by_test false e = others k (eqb-false k place e) ∙ h

-- so are the masks of which one has a bit more
pub mask_kept : (masks : List ℕ) (at place mask : ℕ) → at < length masks → is_set mask place ≡ true → ((k : ℕ) → k ≢ place → is_set mask k ≡ is_set (get_or masks at 0) k)
    → (k i : ℕ) → is_set (get_or masks i 0) k ≡ true → is_set (get_or (set masks at mask) i 0) k ≡ true
mask_kept masks at place mask within here others k i h = by_test (i == at) refl
  where
    by_test : (b : Bool) → (i == at) ≡ b → is_set (get_or (set masks at mask) i 0) k ≡ true
    by_test true e =
        let same = eqb-true i at e in
        ap (λ (n : ℕ). is_set (get_or (set masks at mask) n 0) k) same
        ∙ ap (λ (n : ℕ). is_set n k) (get_or-set_same masks at mask 0 within)
        ∙ bit_kept (get_or masks at 0) mask place here others k (sym (ap (λ (n : ℕ). is_set (get_or masks n 0) k) same) ∙ h)
    by_test false e =
        ap (λ (n : ℕ). is_set n k) (get_or-set_other masks at i mask 0 (eqb-false i at e)) ∙ h

-- ---- all edits

-- where an index that has grown from this one has the edits from number k on, it has all
abbrev pub SoFar : TagIndex → ℕ → (left all : List Edit) → Type 0
SoFar now k left all = (final : TagIndex) → Grows now final → has_all final k left ≡ true → has_all final 0 all ≡ true

module _ {X : Type 0} (f : X → Edit) (all : List Edit) where
  pub goes_on : (old new : TagIndex) (k : ℕ) (edits : List X) (e : X) (after : List X) → edits ≡ e ∷ after → SoFar old k (map f edits) all → Grows old new → has_edit new k (f e) ≡ true → SoFar new (k + 1) (map f after) all
  goes_on old new k edits e after is so_far grown here = λ final grows rest.
      so_far final (λ i x h. grows i x (grown i x h))
      (ap (λ (xs : List X). has_all final k (map f xs)) is
      ∙ and_both (has_edit final k (f e)) (has_all final (suc k) (map f after)) (grows k (f e) here) (ap (λ (n : ℕ). has_all final n (map f after)) (let more : suc k ≡ k + 1 = omega arith in more) ∙ rest))

  pub ends : (now : TagIndex) (k : ℕ) (edits : List X) → length edits ≡ 0 → SoFar now k (map f edits) all → has_all now 0 all ≡ true
  ends now k [] none so_far = so_far now (λ i x h. h) refl
  ends now k (e ∷ edits) none so_far = absurd (omega (arith, none))

-- an index with the same mask tells the same
pub still_tells : (old new : TagIndex) (edits : List Edit) → new.everywhere ≡ old.everywhere → tells_everywhere old edits → tells_everywhere new edits
still_tells old new edits same told = ap (λ (n : ℕ). bits n 0 edits) same ∙ told
