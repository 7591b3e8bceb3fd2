-- The part is gone after a name was done, where no removing failed.
use Rattle.std.specs.Prelude.{true, false}
use Rattle.std.proofs.Common.{◌≡◌, ◌∙◌, refl, sym, ap, subst, ℕ, ◌+◌, ◌<◌, List, length, Option, Some, None, Ok, Err, arith}
use Rattle.std.specs.Str.{IsUtf8}
use Rattle.dcm_lemmas.proofs.Options.{none_or_some, one_value}
use Rattle.dcm_lemmas.proofs.Truth.{true_false}
use Rattle.dcm_files.specs.declared.folders.Found.{Found}
use Rattle.dcm_files.specs.declared.folders.FoundKind.TheVariants.{File}
use Rattle.dcm_walk.specs.Names.{below}
use Rattle.dcm_trees.specs.declared.part.Naming.{Naming}
use Rattle.dcm_trees.specs.declared.part.Naming.TheVariants.{Linked, NotFree, Failed}
use Rattle.dcm_trees.specs.Instance as instance
use Rattle.dcm_trees.specs.Instance.{GivesFreeName}
use Rattle.dcm_trees.specs.Modes.{Modes}
use Rattle.dcm_trees.specs.Part as spec
use Rattle.dcm_trees.specs.Part.{RemovesPart, MovesPart, MovesIfFree, GivesSecondName, GivesName, ClearsPart, is_moved}
use Rattle.dcm_tree_laws.specs.FileSystem.{FileSystem, Host, Number, may_do, folders_do, HasWay, at_path, TakesPieces, no_piece, and_piece, ClosesOutput, MovesWhat, a_file, same_file, a_folder}
use Rattle.dcm_tree_laws.proofs.Given.{IsReady, Ready, ready, then_steps, is_file}
use Rattle.dcm_tree_laws.proofs.Looking.{finds, free_nothing}
use Rattle.dcm_tree_laws.proofs.Making.{makes_way}
use Rattle.dcm_tree_laws.proofs.Quiet.{are_quiet}
use Rattle.dcm_tree_laws.proofs.Steps.{Phase, whole, Step, folder, part_made, filled, not_filled, named, moved, removed, not_removed, left, Steps, all_keep, quiet}

-- ---- no removing failed before, where none did after

pieces_mono : (n : Number) (all : List ℕ) (before after : FileSystem) → TakesPieces n all before after → after.unremoved ≡ before.unremoved
pieces_mono n all before after (no_piece e) = ap (λ (s : FileSystem). s.unremoved) e
pieces_mono n all before after (and_piece mid front rest pieces is t) = t.notes.unremoved_is ∙ pieces_mono n all before mid pieces

closes_mono : (now : Option Number) (all kept : List ℕ) (before after : FileSystem) → ClosesOutput now all kept before after → after.unremoved ≡ before.unremoved
closes_mono (Some n) all kept before after c = c.notes.unremoved_is ∙ pieces_mono n all before c.last c.pieces
closes_mono None all kept before after c = ap (λ (s : FileSystem). s.unremoved) c

moves_mono : {I O : Type 0} (h : Host I O) (from to : List ℕ) (before after : FileSystem) → MovesWhat h from to before after → after.unremoved ≡ before.unremoved
moves_mono h from to before after (a_file m) = m.notes.unremoved_is
moves_mono h from to before after (same_file one other way was is same e) = ap (λ (s : FileSystem). s.unremoved) e
moves_mono h from to before after (a_folder one is kind stays) = stays

step_mono : {I O : Type 0} (h : Host I O) (IsWhole : ℕ → List ℕ → Type 0) (part output : List ℕ) (at : Phase) (before : FileSystem) (then : Phase) (after : FileSystem) → Step h IsWhole part output at before then after → after.unremoved ≡ false → before.unremoved ≡ false
step_mono h IsWhole part output at before then after (folder path mode rest to m same) none = sym m.notes.unremoved_is ∙ none
step_mono h IsWhole part output at before then after (part_made mode rest m is) none = sym m.notes.unremoved_is ∙ none
step_mono h IsWhole part output at before then after (filled mode bytes was c done is) none = sym (closes_mono before.written bytes bytes before after c) ∙ none
step_mono h IsWhole part output at before then after (not_filled mode bytes kept was c is) none = sym (closes_mono before.written bytes kept before after c) ∙ none
step_mono h IsWhole part output at before then after (named bytes path was to l same) none = sym l.notes.unremoved_is ∙ none
step_mono h IsWhole part output at before then after (moved bytes path was to nothing m is) none = sym (moves_mono h part path before after m) ∙ none
step_mono h IsWhole part output at before then after (removed rest r is) none = sym r.notes.unremoved_is ∙ none
step_mono h IsWhole part output at before then after (not_removed held rest same is) none = true_false after.unremoved (ap (λ (s : FileSystem). s.unremoved) same) none
step_mono h IsWhole part output at before then after (left rest same is) none = sym (ap (λ (s : FileSystem). s.unremoved) same) ∙ none

pub steps_mono : {I O : Type 0} {h : Host I O} {IsWhole : ℕ → List ℕ → Type 0} {part output : List ℕ} {at : Phase} {before : FileSystem} {then : Phase} {after : FileSystem} → Steps h IsWhole part output at before then after
    → after.unremoved ≡ false → before.unremoved ≡ false
steps_mono {I} {O} {h} {IsWhole} {part} {output} {at} {before} {then} {after} steps =
    all_keep (λ k s. s.unremoved ≡ false → before.unremoved ≡ false) (λ a b c d step had none. had (step_mono h IsWhole part output a b c d step none)) at before then after steps (λ none. none)

-- ---- the part is gone

-- nothing is at it
abbrev pub IsGone : {I O : Type 0} → Host I O → (part : List ℕ) → FileSystem → Type 0
IsGone h part s = at_path h s.now part ≡ None

-- where no removing failed, none did before, and nothing is at it
abbrev pub ThenGone : {I O : Type 0} → Host I O → (part : List ℕ) → (before after : FileSystem) → Type 0
ThenGone h part before after = after.unremoved ≡ false → (before.unremoved ≡ false) × IsGone h part after

pub removed_gone : {I O : Type 0} (h : Host I O) (part : List ℕ) → IsUtf8 part → (before after : FileSystem) → RemovesPart (may_do {I = I} h) part before after → ThenGone h part before after
removed_gone h part text before after (spec.no_text t is) none = absurd (t text)
removed_gone h part text before after (spec.removed (Ok u) t call) none = (sym call.notes.unremoved_is ∙ none, call.puts.there)
removed_gone h part text before after (spec.removed (Err e) t call) none = true_false after.unremoved (ap (λ (s : FileSystem). s.unremoved) call) none

moved_gone : {I O : Type 0} {h : Host I O} {IsWhole : ℕ → List ℕ → Type 0} {part output bytes : List ℕ} {start s after : FileSystem} (path : List ℕ) → IsReady h IsWhole part output bytes start s → (HasWay h s.now path → at_path h s.now path ≡ None)
    → MovesWhat h part path s after → IsGone h part after
moved_gone path r nothing (a_file m) = m.gone
moved_gone {I} {O} {h} {IsWhole} {part} {output} {bytes} {start} {s} {after} path r nothing (same_file one other way from to same e) = absurd (none_or_some (at_path h s.now path) other (nothing way) to)
moved_gone {I} {O} {h} {IsWhole} {part} {output} {bytes} {start} {s} {after} path r nothing (a_folder one is kind stays) =
    let f : Ready h IsWhole part s.now = ready r in
    absurd (is_file one (subst (λ (g : Found). g.kind ≡ File) (one_value (at_path h s.now part) f.file one f.is is) f.kind) kind)

not_moved : {A : Type 0} (naming other : Naming) → naming ≡ other → is_moved other ≡ false → is_moved naming ≡ true → A
not_moved naming other is not was = true_false (is_moved naming) was (ap is_moved is ∙ not)

part_gone : {I O : Type 0} {h : Host I O} {IsWhole : ℕ → List ℕ → Type 0} {part output bytes : List ℕ} {start s after : FileSystem} (path : List ℕ) → IsReady h IsWhole part output bytes start s → (HasWay h s.now path → at_path h s.now path ≡ None)
    → (naming : Naming) → MovesPart (may_do {I = I} h) part path s naming after → is_moved naming ≡ true → IsGone h part after
part_gone path r nothing naming (spec.moved call is) was = moved_gone path r nothing call
part_gone path r nothing naming (spec.not_moved e call is) was = not_moved naming Failed is refl was

if_free_gone : {I O F : Type 0} {h : Host I O} {IsWhole : ℕ → List ℕ → Type 0} {part output bytes : List ℕ} {start s after : FileSystem} (path : List ℕ) (base : ℕ) → 0 < base → IsReady h IsWhole part output bytes start s → (naming : Naming)
    → MovesIfFree (may_do {I = I} h) (folders_do {F = F} h) part path base s naming after → is_moved naming ≡ true → IsGone h part after
if_free_gone path base some r naming (spec.not_free place f nf is) was = not_moved naming (NotFree place) is refl was
if_free_gone {I} {O} {F} {h} {IsWhole} {part} {output} {bytes} {start} {s} {after} path base some r naming (spec.free place looked f nf m) was =
    let same : looked ≡ s = finds (folders_do {F = F} h) (are_quiet h) path base s place looked f in
    part_gone {I = I} path (then_steps r (quiet same))
    (subst (λ (x : FileSystem). HasWay h x.now path → at_path h x.now path ≡ None) (sym same) (free_nothing {F = F} h path base s place looked some f nf)) naming m was

second_gone : {I O F : Type 0} {h : Host I O} {IsWhole : ℕ → List ℕ → Type 0} {part output bytes : List ℕ} {start s after : FileSystem} (path : List ℕ) (base : ℕ) → 0 < base → IsReady h IsWhole part output bytes start s → (naming : Naming)
    → GivesSecondName (may_do {I = I} h) (folders_do {F = F} h) part path base s naming after → is_moved naming ≡ true → IsGone h part after
second_gone path base some r naming (spec.no_part_text t is same) was = not_moved naming Failed is refl was
second_gone path base some r naming (spec.no_text t u is same) was = not_moved naming Failed is refl was
second_gone path base some r naming (spec.linked t u call is) was = not_moved naming Linked is refl was
second_gone path base some r naming (spec.was_there e tried t u call k (spec.found place f is)) was = not_moved naming (NotFree place) is refl was
second_gone {I} {O} {F} path base some r naming (spec.not_linked e tried t u call k m) was = if_free_gone {I = I} {F = F} path base some (then_steps r (quiet call)) naming m was

pub name_gone : {I O F : Type 0} {modes : Modes} {h : Host I O} {IsWhole : ℕ → List ℕ → Type 0} {part output bytes : List ℕ} {start s after : FileSystem} (path relative : List ℕ) → path ≡ below output relative → IsReady h IsWhole part output bytes start s → (naming : Naming)
    → GivesName (may_do {I = I} h) (folders_do {F = F} h) modes part path (length output + 1) s naming after → is_moved naming ≡ true → IsGone h part after
name_gone path relative is r naming (spec.no_way e m n) was = not_moved naming Failed n refl was
name_gone {I} {O} {F} {modes} {h} {IsWhole} {part} {output} {bytes} {start} {s} {after} path relative is r naming (spec.on_its_way has_way m g) was =
    second_gone {I = I} {F = F} path (length output + 1) (omega arith)
    (then_steps r (makes_way {F = F} h IsWhole part output (whole bytes) refl path relative is (length output + 1) (omega arith) s (Ok _) has_way m)) naming g was

pub free_name_gone : {I O F : Type 0} {modes : Modes} {h : Host I O} {IsWhole : ℕ → List ℕ → Type 0} {part output bytes : List ℕ} {start s after : FileSystem} (path relative : List ℕ) → path ≡ below output relative → IsReady h IsWhole part output bytes start s → (naming : Naming)
    → GivesFreeName (may_do {I = I} h) (folders_do {F = F} h) modes part path (length output + 1) s naming after → is_moved naming ≡ true → IsGone h part after
free_name_gone path relative is r naming (instance.not_free place f nf e) was = not_moved naming (NotFree place) e refl was
free_name_gone {I} {O} {F} {modes} {h} {IsWhole} {part} {output} {bytes} {start} {s} {after} path relative is r naming (instance.free place looked f nf g) was =
    name_gone {I = I} {F = F} path relative is (then_steps r (quiet (finds (folders_do {F = F} h) (are_quiet h) path (length output + 1) s place looked f))) naming g was

pub cleared_gone : {I O : Type 0} (h : Host I O) (part : List ℕ) → IsUtf8 part → (naming : Naming) (before after : FileSystem) → (is_moved naming ≡ true → IsGone h part before) → ClearsPart (may_do {I = I} h) naming part before after
    → ThenGone h part before after
cleared_gone h part text naming before after gone (spec.moved was same) none =
    (sym (ap (λ (s : FileSystem). s.unremoved) same) ∙ none, subst (IsGone h part) (sym same) (gone was))
cleared_gone {I} h part text naming before after gone (spec.removed was r) none = removed_gone {I = I} h part text before after r none
