-- A part that gets a name is there under it, whole.
use Rattle.std.proofs.Common.{◌≡◌, ◌∙◌, refl, sym, ap, subst, inl, inr, ◌⊎◌, ℕ, ◌+◌, ◌<◌, List, length, Bool, true, false, Option, Some, None, Ok, Err, arith}
use Rattle.std.specs.Prelude.{◌≢◌}
use Rattle.std.specs.Str.{IsUtf8}
use Rattle.dcm_lemmas.proofs.Options.{none_or_some, one_value}
use Rattle.dcm_lemmas.proofs.Truth.{true_false}
use Rattle.dcm_files.specs.declared.folders.Found.{Found}
use Rattle.dcm_files.specs.declared.folders.FoundKind.TheVariants.{File, Folder}
use Rattle.dcm_walk.specs.Names.{below}
use Rattle.dcm_trees.specs.declared.fate.Fate.{Fate}
use Rattle.dcm_trees.specs.declared.part.Naming.{Naming}
use Rattle.dcm_trees.specs.declared.part.Naming.TheVariants.{Linked, Moved, NotFree, Failed}
use Rattle.dcm_trees.specs.declared.place.Place.TheVariants as places
use Rattle.dcm_trees.specs.Fate.{is_written}
use Rattle.dcm_trees.specs.Instance as instance
use Rattle.dcm_trees.specs.Instance.{GivesFreeName}
use Rattle.dcm_trees.specs.Modes.{Modes}
use Rattle.dcm_trees.specs.Part as spec
use Rattle.dcm_trees.specs.Part.{RemovesPart, MovesPart, MovesIfFree, GivesSecondName, GivesName, ClearsPart, naming_fate}
use Rattle.dcm_tree_laws.specs.FileSystem.{FileSystem, Host, Tree, number_of, place_of, may_do, folders_do, HasWay, at_path, MakesLink, MovesWhat, a_file, same_file, a_folder, Removes, SameBytes}
use Rattle.dcm_tree_laws.specs.Outputs.{HasOutput}
use Rattle.dcm_tree_laws.proofs.Near.{IsNear, near, Stays}
use Rattle.dcm_tree_laws.proofs.Looking.{finds, free_nothing}
use Rattle.dcm_tree_laws.proofs.MadeWay.{FolderAt, folder_stays, way_made, none_apart}
use Rattle.dcm_tree_laws.proofs.Making.{makes_way}
use Rattle.dcm_tree_laws.proofs.Naming.{phase_of, gives_second}
use Rattle.dcm_tree_laws.proofs.Quiet.{are_quiet}
use Rattle.dcm_tree_laws.proofs.Steps.{whole, Steps, quiet}
pub use Rattle.dcm_tree_laws.proofs.WholePart.{IsReady, Ready, ready, then_steps}
use Rattle.dcm_tree_laws.proofs.WholePart.{stays_since, stays_then}

-- ---- it is there

-- an output is there, and nothing was at its path, which is text, at the start
pub record NewName {I O : Type 0} (h : Host I O) (IsWhole : ℕ → List ℕ → Type 0) (part path : List ℕ) (start now : Tree) : Type 0 where
  pub out : HasOutput h IsWhole part path now
  pub nothing : at_path h start path ≡ None
  pub text : IsUtf8 path

-- and so is each folder on its way in the folder of the outputs
pub record NewOutput {I O : Type 0} (h : Host I O) (IsWhole : ℕ → List ℕ → Type 0) (part output path : List ℕ) (start now : Tree) : Type 0 where
  pub name : NewName h IsWhole part path start now
  pub way : (folder behind : List ℕ) → path ≡ below folder behind → length output < length folder → FolderAt h part now folder

pub was_nothing : {I O : Type 0} (h : Host I O) (part output path : List ℕ) (start now : Tree) (was : Option Found) → start.at (place_of h path) ≡ was → Stays h part output start now → place_of h path ≢ place_of h part → at_path h now path ≡ None
    → at_path h start path ≡ None
was_nothing h part output path start now None is stays apart none = is
was_nothing h part output path start now (Some f) is stays apart none = absurd (none_or_some (at_path h now path) f none (stays.there (place_of h path) f apart is))

new_name : {I O : Type 0} {h : Host I O} {IsWhole : ℕ → List ℕ → Type 0} {part output bytes : List ℕ} {start s : FileSystem} (path : List ℕ) (now : Tree) → IsReady h IsWhole part output bytes start s → IsUtf8 path → at_path h s.now path ≡ None
    → HasOutput h IsWhole part path now → NewName h IsWhole part path start.now now
new_name {I} {O} {h} {IsWhole} {part} {output} {bytes} {start} {s} path now r text none out = record { out = out; text = text; nothing = was_nothing h part output path start.now s.now (at_path h start.now path) refl (stays_since r) out.apart none }

as_file : {I O : Type 0} (h : Host I O) (IsWhole : ℕ → List ℕ → Type 0) (part path : List ℕ) (t u : Tree) (f : Found) → Ready h IsWhole part t → at_path h t part ≡ Some f → at_path h u path ≡ Some f → SameBytes t u
    → place_of h path ≢ place_of h part → HasOutput h IsWhole part path u
as_file h IsWhole part path t u f r was there same apart =
    let e : r.file ≡ f = one_value (at_path h t part) r.file f r.is was in
    record {
      file = f;
      is = there;
      kind = subst (λ (g : Found). g.kind ≡ File) e r.kind;
      whole = subst (IsWhole f.mode) (sym (same (number_of f))) (subst (λ (g : Found). IsWhole g.mode (t.bytes (number_of g))) e r.done);
      apart = apart;
    }

-- ---- it is linked or moved

linked_out : {I O : Type 0} {h : Host I O} {IsWhole : ℕ → List ℕ → Type 0} {part output bytes : List ℕ} {start s after : FileSystem} (path : List ℕ) → IsUtf8 path → IsReady h IsWhole part output bytes start s → MakesLink h part path s after
    → NewName h IsWhole part path start.now after.now
linked_out {I} {O} {h} {IsWhole} {part} {output} {bytes} {start} {s} {after} path text r l =
    new_name path after.now r text l.nothing
    (as_file h IsWhole part path s.now after.now l.linked (ready r) l.was l.puts.there l.bytes (none_apart s.now (place_of h path) (place_of h part) l.linked l.nothing l.was))

pub is_file : (f : Found) → f.kind ≡ File → f.kind ≡ Folder → ⊥
is_file f e other = absurd (cc)

gone_apart : (u : Tree) (to part : List ℕ) (f : Found) → u.at to ≡ Some f → u.at part ≡ None → to ≢ part
gone_apart u to part f is none e = absurd (cc)

moved_out : {I O : Type 0} {h : Host I O} {IsWhole : ℕ → List ℕ → Type 0} {part output bytes : List ℕ} {start s after : FileSystem} (path : List ℕ) → IsUtf8 path → IsReady h IsWhole part output bytes start s → (HasWay h s.now path → at_path h s.now path ≡ None)
    → MovesWhat h part path s after → NewName h IsWhole part path start.now after.now
moved_out {I} {O} {h} {IsWhole} {part} {output} {bytes} {start} {s} {after} path text r nothing (a_file m) =
    new_name path after.now r text (nothing m.way)
    (as_file h IsWhole part path s.now after.now m.moved (ready r) m.was m.there m.bytes (gone_apart after.now (place_of h path) (place_of h part) m.moved m.there m.gone))
moved_out {I} {O} {h} {IsWhole} {part} {output} {bytes} {start} {s} {after} path text r nothing (same_file one other way from to same e) = absurd (none_or_some (at_path h s.now path) other (nothing way) to)
moved_out {I} {O} {h} {IsWhole} {part} {output} {bytes} {start} {s} {after} path text r nothing (a_folder one is kind stays) =
    let f : Ready h IsWhole part s.now = ready r in
    absurd (is_file one (subst (λ (g : Found). g.kind ≡ File) (one_value (at_path h s.now part) f.file one f.is is) f.kind) kind)

-- ---- how it is named

abbrev pub is_named : Naming → Bool
is_named Linked = true
is_named Moved = true
is_named (NotFree place) = false
is_named Failed = false

not_named : {A : Type 0} (naming other : Naming) → naming ≡ other → is_named other ≡ false → is_named naming ≡ true → A
not_named {A} naming other is not named = absurd (true_false (is_named naming) named (ap is_named is ∙ not))

move_named : {I O : Type 0} {h : Host I O} {IsWhole : ℕ → List ℕ → Type 0} {part output bytes : List ℕ} {start s after : FileSystem} (path : List ℕ) → IsUtf8 path → IsReady h IsWhole part output bytes start s → (HasWay h s.now path → at_path h s.now path ≡ None)
    → (naming : Naming) → MovesPart (may_do {I = I} h) part path s naming after → is_named naming ≡ true → NewName h IsWhole part path start.now after.now
move_named path text r nothing naming (spec.moved call is) named = moved_out path text r nothing call
move_named path text r nothing naming (spec.not_moved e call is) named = not_named naming Failed is refl named

if_free_named : {I O F : Type 0} {h : Host I O} {IsWhole : ℕ → List ℕ → Type 0} {part output bytes : List ℕ} {start s after : FileSystem} (path : List ℕ) (base : ℕ) → 0 < base → IsUtf8 path → IsReady h IsWhole part output bytes start s → (naming : Naming)
    → MovesIfFree (may_do {I = I} h) (folders_do {F = F} h) part path base s naming after → is_named naming ≡ true → NewName h IsWhole part path start.now after.now
if_free_named path base some text r naming (spec.not_free place f nf is) named = not_named naming (NotFree place) is refl named
if_free_named {I} {O} {F} {h} {IsWhole} {part} {output} {bytes} {start} {s} {after} path base some text r naming (spec.free place looked f nf m) named =
    let same : looked ≡ s = finds (folders_do {F = F} h) (are_quiet h) path base s place looked f in
    move_named {I = I} path text (then_steps r (quiet same))
    (subst (λ (x : FileSystem). HasWay h x.now path → at_path h x.now path ≡ None) (sym same) (free_nothing {F = F} h path base s place looked some f nf)) naming m named

second_named : {I O F : Type 0} {h : Host I O} {IsWhole : ℕ → List ℕ → Type 0} {part output bytes : List ℕ} {start s after : FileSystem} (path : List ℕ) (base : ℕ) → 0 < base → IsReady h IsWhole part output bytes start s → (naming : Naming)
    → GivesSecondName (may_do {I = I} h) (folders_do {F = F} h) part path base s naming after → is_named naming ≡ true → NewName h IsWhole part path start.now after.now
second_named path base some r naming (spec.no_part_text t is same) named = not_named naming Failed is refl named
second_named path base some r naming (spec.no_text t u is same) named = not_named naming Failed is refl named
second_named path base some r naming (spec.linked t u call is) named = linked_out path u r call
second_named path base some r naming (spec.was_there e tried t u call k (spec.found place f is)) named = not_named naming (NotFree place) is refl named
second_named {I} {O} {F} path base some r naming (spec.not_linked e tried t u call k m) named = if_free_named {I = I} {F = F} path base some u (then_steps r (quiet call)) naming m named

pub name_given : {I O F : Type 0} {modes : Modes} {h : Host I O} {IsWhole : ℕ → List ℕ → Type 0} {part output bytes : List ℕ} {start s after : FileSystem} (path relative : List ℕ) → path ≡ below output relative → IsReady h IsWhole part output bytes start s → (naming : Naming)
    → GivesName (may_do {I = I} h) (folders_do {F = F} h) modes part path (length output + 1) s naming after → is_named naming ≡ true → NewOutput h IsWhole part output path start.now after.now
name_given path relative is r naming (spec.no_way e m n) named = not_named naming Failed n refl named
name_given {I} {O} {F} {modes} {h} {IsWhole} {part} {output} {bytes} {start} {s} {after} path relative is r naming (spec.on_its_way has_way m g) named =
    let steps : Steps h IsWhole part output (whole bytes) s (whole bytes) has_way = makes_way {F = F} h IsWhole part output (whole bytes) refl path relative is (length output + 1) (omega arith) s (Ok _) has_way m in
    let on_way : IsReady h IsWhole part output bytes start has_way = then_steps r steps in
    let stays : Stays h part output has_way.now after.now =
    stays_then (phase_of bytes naming) after on_way (gives_second {I = I} {F = F} h IsWhole part (IsNear output) bytes path (near relative is) (length output + 1) (omega arith) has_way naming after g) in
    record {
      name = second_named {I = I} {F = F} path (length output + 1) (omega arith) on_way naming g named;
      way = λ folder behind cut inside. folder_stays h part output has_way.now after.now folder stays (way_made {F = F} h IsWhole part output bytes start path relative is s has_way r (Ok _) refl m folder behind cut inside);
    }

pub free_name_given : {I O F : Type 0} {modes : Modes} {h : Host I O} {IsWhole : ℕ → List ℕ → Type 0} {part output bytes : List ℕ} {start s after : FileSystem} (path relative : List ℕ) → path ≡ below output relative → IsReady h IsWhole part output bytes start s → (naming : Naming)
    → GivesFreeName (may_do {I = I} h) (folders_do {F = F} h) modes part path (length output + 1) s naming after → is_named naming ≡ true → NewOutput h IsWhole part output path start.now after.now
free_name_given path relative is r naming (instance.not_free place f nf e) named = not_named naming (NotFree place) e refl named
free_name_given {I} {O} {F} {modes} {h} {IsWhole} {part} {output} {bytes} {start} {s} {after} path relative is r naming (instance.free place looked f nf g) named =
    name_given {I = I} {F = F} path relative is (then_steps r (quiet (finds (folders_do {F = F} h) (are_quiet h) path (length output + 1) s place looked f))) naming g named

-- ---- the part is removed

other_than : (t u : Tree) (p part : List ℕ) (f : Found) → p ≢ part → t.at p ≡ Some f → (p ≡ part) ⊎ (u.at p ≡ t.at p) → u.at p ≡ Some f
other_than t u p part f apart is (inl e) = absurd (apart e)
other_than t u p part f apart is (inr e) = e ∙ is

removed_out : {I O : Type 0} (h : Host I O) (IsWhole : ℕ → List ℕ → Type 0) (part path : List ℕ) (before after : FileSystem) → Removes h part before after → HasOutput h IsWhole part path before.now → HasOutput h IsWhole part path after.now
removed_out h IsWhole part path before after r out = record {
  file = out.file;
  is = other_than before.now after.now (place_of h path) (place_of h part) out.file out.apart out.is (r.puts.elsewhere (place_of h path));
  kind = out.kind;
  whole = subst (IsWhole out.file.mode) (sym (r.bytes (number_of out.file))) out.whole;
  apart = out.apart;
}

still_out : {I O : Type 0} (h : Host I O) (IsWhole : ℕ → List ℕ → Type 0) (part path : List ℕ) (before after : FileSystem) → after ≡ before → HasOutput h IsWhole part path before.now → HasOutput h IsWhole part path after.now
still_out h IsWhole part path before after same out = subst (λ (s : FileSystem). HasOutput h IsWhole part path s.now) (sym same) out

clears_by : {I O : Type 0} (h : Host I O) (IsWhole : ℕ → List ℕ → Type 0) (part path : List ℕ) (before after : FileSystem) → RemovesPart (may_do {I = I} h) part before after → HasOutput h IsWhole part path before.now
    → HasOutput h IsWhole part path after.now
clears_by h IsWhole part path before after (spec.no_text t is) out = still_out h IsWhole part path before after is out
clears_by h IsWhole part path before after (spec.removed (Ok u) t call) out = removed_out h IsWhole part path before after call out
clears_by h IsWhole part path before after (spec.removed (Err e) t call) out = subst (λ (s : FileSystem). HasOutput h IsWhole part path s.now) (sym call) out

cleared_out : {I O : Type 0} (h : Host I O) (IsWhole : ℕ → List ℕ → Type 0) (part path : List ℕ) (naming : Naming) (before after : FileSystem) → ClearsPart (may_do {I = I} h) naming part before after → HasOutput h IsWhole part path before.now
    → HasOutput h IsWhole part path after.now
cleared_out h IsWhole part path naming before after (spec.moved is same) out = still_out h IsWhole part path before after same out
cleared_out {I} h IsWhole part path naming before after (spec.removed is r) out = clears_by {I = I} h IsWhole part path before after r out

folder_left : {I O : Type 0} (h : Host I O) (part path : List ℕ) (before after : FileSystem) → RemovesPart (may_do {I = I} h) part before after → FolderAt h part before.now path → FolderAt h part after.now path
folder_left h part path before after (spec.no_text t is) f = subst (λ (s : FileSystem). FolderAt h part s.now path) (sym is) f
folder_left h part path before after (spec.removed (Ok u) t call) f = record {
  at = record {
    text = f.at.text;
    found = f.at.found;
    is = other_than before.now after.now (place_of h path) (place_of h part) f.at.found f.apart f.at.is (call.puts.elsewhere (place_of h path));
    kind_is = f.at.kind_is;
  };
  apart = f.apart;
}
folder_left h part path before after (spec.removed (Err e) t call) f = subst (λ (s : FileSystem). FolderAt h part s.now path) (sym call) f

folder_cleared : {I O : Type 0} (h : Host I O) (part path : List ℕ) (naming : Naming) (before after : FileSystem) → ClearsPart (may_do {I = I} h) naming part before after → FolderAt h part before.now path → FolderAt h part after.now path
folder_cleared h part path naming before after (spec.moved is same) f = subst (λ (s : FileSystem). FolderAt h part s.now path) (sym same) f
folder_cleared {I} h part path naming before after (spec.removed is r) f = folder_left {I = I} h part path before after r f

pub cleared_new : {I O : Type 0} (h : Host I O) (IsWhole : ℕ → List ℕ → Type 0) (part output path : List ℕ) (naming : Naming) (start : Tree) (before after : FileSystem) → ClearsPart (may_do {I = I} h) naming part before after
    → NewOutput h IsWhole part output path start before.now → NewOutput h IsWhole part output path start after.now
cleared_new {I} h IsWhole part output path naming start before after clears new = record {
  name = record { out = cleared_out {I = I} h IsWhole part path naming before after clears new.name.out; nothing = new.name.nothing; text = new.name.text };
  way = λ folder behind cut inside. folder_cleared {I = I} h part folder naming before after clears (new.way folder behind cut inside);
}

-- ---- what is told of it

pub written_named : (naming : Naming) (fate : Fate) (continues : Bool) → is_written (naming_fate naming fate continues) ≡ true → is_named naming ≡ true
written_named Linked fate continues e = refl
written_named Moved fate continues e = refl
written_named (NotFree places.There) fate true e = absurd (cc)
written_named (NotFree places.There) fate false e = absurd (cc)
written_named (NotFree places.Barred) fate continues e = absurd (cc)
written_named (NotFree places.Free) fate continues e = absurd (cc)
written_named Failed fate continues e = absurd (cc)
