-- What was left over at the path of the part is removed before the first name of a run.
use Rattle.std.proofs.Common.{◌≡◌, ◌∙◌, refl, sym, ap, subst, ℕ, List, Bool, true, false, Option, Some, None, Result, Ok, Err}
use Rattle.std.specs.Prelude.{◌&&◌, not}
use Rattle.std.specs.Str.{IsUtf8}
use Rattle.std.specs.declared.io.Error.{Error}
use Rattle.dcm_devices.specs.Writing.{Writer}
use Rattle.dcm_files.specs.Devices.{MayDo}
use Rattle.dcm_files.specs.Folders.{FoldersDo}
use Rattle.dcm_files.specs.declared.folders.Found.{Found}
use Rattle.dcm_files.specs.declared.folders.FoundKind.{FoundKind}
use Rattle.dcm_files.specs.declared.folders.FoundKind.TheVariants as kinds
use Rattle.dcm_files.specs.declared.folders.Links.{Links}
use Rattle.dcm_files.specs.declared.folders.Links.TheVariants.{Kept}
use Rattle.dcm_files.specs.declared.opened.Opened.{Opened}
use Rattle.dcm_trees.specs.declared.beginning.Refusal.{Refusal}
use Rattle.dcm_trees.specs.declared.beginning.Spared.{Spared}
use Rattle.dcm_trees.specs.Beginning as spec
use Rattle.dcm_trees.specs.Beginning.{RemovesLocked, RemovesLeft, ClearsFound, ChecksPart, ClearsWay, is_file, may_be_left}
use Rattle.dcm_tree_laws.specs.Course.{TellsLeft, nothing_told, was_told}
use Rattle.dcm_tree_laws.specs.FileSystem as files
use Rattle.dcm_tree_laws.specs.FileSystem.{FileSystem, Number, Host, Removes, OrFails, OrStays, Seizes, Holds, ClosesOutput, may_do, folders_do, at_path}
use Rattle.dcm_tree_laws.proofs.Closing.{closes_kept}
use Rattle.dcm_tree_laws.proofs.Looking.{same_ok}
use Rattle.dcm_tree_laws.proofs.Quiet.{Quiet, are_quiet}

-- ---- worlds over a file system

-- of the calls of folders that a run makes before its first name, those that look leave it as it is, and see what is
-- there, and one makes a folder where nothing is
pub record FoldersOver {I O F : Type 0} (h : Host I O) (d : FoldersDo FileSystem O F) : Type 0 where
  pub quiet : Quiet d
  pub finds : (before : FileSystem) (path : List ℕ) (links : Links) (found : Option Found) (after : FileSystem) → d.finds before path links (Ok found) after → found ≡ before.now.at (h.leads links path)
  pub makes : (before : FileSystem) (path : List ℕ) (mode : ℕ) (r : Result (Unit {0}) Error) (after : FileSystem) → d.makes_folder before path mode r after → OrFails r (files.MakesFolder h path mode before after) before after
  pub makes_as : (before : FileSystem) (path : List ℕ) (mode : ℕ) (r : Result (Opened O) Error) (after : FileSystem) → d.makes_as before path mode r after → OrFails r (files.MakesFile h path mode before after) before after

-- to open an input and to give it back leave it as it is; one locks a file, and one tells whether that is at a path; one
-- removes a file, or notes that it is not removed; and one closes an output
pub record InputsOver {I O : Type 0} (h : Host I O) (may : MayDo FileSystem I O) : Type 0 where
  pub stdin : (before : FileSystem) (o : Opened I) (after : FileSystem) → may.stdin before o after → after ≡ before
  pub opens : (before : FileSystem) (path : List ℕ) (r : Result (Opened I) Error) (after : FileSystem) → may.opens before path r after → after ≡ before
  pub releases : (before : FileSystem) (input : I) (after : FileSystem) → may.releases before input after → after ≡ before
  pub seizes : (before : FileSystem) (path : List ℕ) (r : Result Bool Error) (after : FileSystem) → may.seizes before path r after → Seizes r before after
  pub holds : (before : FileSystem) (path : List ℕ) (is_held : Bool) (after : FileSystem) → may.holds before path is_held after → Holds h path before is_held after
  pub removes : (before : FileSystem) (path : List ℕ) (r : Result (Unit {0}) Error) (after : FileSystem) → may.removes before path r after → OrStays r (Removes h path before after) before after
  pub closes : (before : FileSystem) (output : O) (r : Result (Unit {0}) Error) (after : FileSystem) → may.closes before output r after → (all : List ℕ) × (kept : List ℕ) × ClosesOutput before.written all kept before after

pub folders_over : {I O F : Type 0} (h : Host I O) → FoldersOver h (folders_do {F = F} h)
folders_over h = record {
  quiet = are_quiet h;
  finds = λ before path links found after call. call.0;
  makes = λ before path mode r after call. call;
  makes_as = λ before path mode r after call. call.0;
}

pub inputs_over : {I O : Type 0} (h : Host I O) → InputsOver h (may_do {I = I} h)
inputs_over h = record {
  stdin = λ before o after call. call;
  opens = λ before path r after call. call.0;
  releases = λ before input after call. call;
  seizes = λ before path r after call. call;
  holds = λ before path is_held after call. call;
  removes = λ before path r after call. call;
  closes = λ before output r after call. let x = closes_kept before.written (h.took output) before r after call in (h.took output, x.0, x.1);
}

-- ---- what becomes of it

-- all is as it was, but perhaps that a file could not be removed; or a regular file at the part was removed
pub data Clearing {I O : Type 0} (h : Host I O) (part : List ℕ) (before after : FileSystem) : Type 0 where
  still : after ≡ before → Clearing h part before after
  failed : (held : Option Number) → after ≡ record before { held = held; unremoved = true } → Clearing h part before after
  gone : (was : Found) → at_path h before.now part ≡ Some was → was.kind ≡ kinds.File → Removes h part before after → Clearing h part before after

-- where the run goes on, the path of the part is text, and nothing is there; and else all is as it was
pub record IsClear {I O : Type 0} (h : Host I O) (part : List ℕ) (before after : FileSystem) : Type 0 where
  pub text : IsUtf8 part
  pub nothing : at_path h after.now part ≡ None
  pub written : after.written ≡ before.written
  pub unremoved : after.unremoved ≡ before.unremoved

both_first : (a b : Bool) → (a && b) ≡ true → a ≡ true
both_first true b e = refl
both_first false b e = e

file_kind : (kind : FoundKind) → is_file kind ≡ true → kind ≡ kinds.File
file_kind kinds.File e = refl
file_kind kinds.Folder e = absurd (cc)
file_kind kinds.Other e = absurd (cc)

left_kind : (spared : Spared) (found : Found) → may_be_left spared found ≡ true → found.kind ≡ kinds.File
left_kind spared found e = file_kind found.kind (both_first (is_file found.kind) (not (spec.is_spared spared found)) e)

at_same : {I O : Type 0} (h : Host I O) (part : List ℕ) (was : Found) (before after : FileSystem) → after ≡ before → at_path h before.now part ≡ Some was → at_path h after.now part ≡ Some was
at_same h part was before after same is = ap (λ (s : FileSystem). at_path h s.now part) same ∙ is

from_same : {I O : Type 0} (h : Host I O) (part : List ℕ) (before mid after : FileSystem) → mid ≡ before → Clearing h part mid after → Clearing h part before after
from_same h part before mid after same c = subst (λ (s : FileSystem). Clearing h part s after) same c

clear_same : {I O : Type 0} (h : Host I O) (part : List ℕ) (before mid after : FileSystem) → mid ≡ before → IsClear h part mid after → IsClear h part before after
clear_same h part before mid after same c = subst (λ (s : FileSystem). IsClear h part s after) same c

-- whatever was held before

removes_held : {I O : Type 0} (h : Host I O) (part : List ℕ) (before : FileSystem) (held : Option Number) (after : FileSystem) → Removes h part (record before { held = held }) after → Removes h part before after
removes_held h part before held after r = record {
  puts = r.puts;
  bytes = r.bytes;
  notes = record { noted = r.notes.noted; written_is = r.notes.written_is; unremoved_is = r.notes.unremoved_is };
  held_is = r.held_is;
}

clear_held : {I O : Type 0} (h : Host I O) (part : List ℕ) (before : FileSystem) (held : Option Number) (after : FileSystem) → IsClear h part (record before { held = held }) after → IsClear h part before after
clear_held h part before held after c = record { text = c.text; nothing = c.nothing; written = c.written; unremoved = c.unremoved }

module _ {I O F E : Type 0} (h : Host I O) (may : MayDo FileSystem I O) (inputs : InputsOver h may) (d : FoldersDo FileSystem O F) (folders : FoldersOver h d) (e : Writer E) where
  locked_clearing : (part : List ℕ) (before : FileSystem) (file : Number) (r : Result Bool Refusal) (after : FileSystem) → RemovesLocked may part (record before { held = Some file }) r after → (was : Found) → at_path h before.now part ≡ Some was → was.kind ≡ kinds.File → Clearing h part before after
  locked_clearing part before file r after (spec.removed call is) was there kind = gone was there kind (removes_held h part before (Some file) after (inputs.removes (record before { held = Some file }) part (Ok _) after call))
  locked_clearing part before file r after (spec.not_removed error call is) was there kind = failed (Some file) (inputs.removes (record before { held = Some file }) part (Err error) after call)

  left_clearing : (part : List ℕ) (before : FileSystem) (r : Result Bool Refusal) (after : FileSystem) → RemovesLeft may part before r after → (was : Found) → at_path h before.now part ≡ Some was → was.kind ≡ kinds.File → Clearing h part before after
  left_clearing part before r after (spec.locked mid call removes) was there kind =
      let x : (file : Number) × (mid ≡ record before { held = Some file }) = inputs.seizes before part (Ok true) mid call in
      locked_clearing part before x.0 r after (subst (λ (s : FileSystem). RemovesLocked may part s r after) x.1 removes) was there kind
  left_clearing part before r after (spec.at_work call is) was there kind = still (inputs.seizes before part (Ok false) after call)
  left_clearing part before r after (spec.not_locked error call is) was there kind = still (inputs.seizes before part (Err error) after call)

  found_clearing : (part : List ℕ) (spared : Spared) (found : Found) (before : FileSystem) (r : Result Bool Refusal) (after : FileSystem) → ClearsFound may part spared found before r after → at_path h before.now part ≡ Some found → Clearing h part before after
  found_clearing part spared found before r after (spec.may_be left removes) there = left_clearing part before r after removes found there (left_kind spared found left)
  found_clearing part spared found before r after (spec.is_other left is same) there = still same

  found_at : (part : List ℕ) (found : Found) (before looked : FileSystem) → d.finds before part Kept (Ok (Some found)) looked → at_path h looked.now part ≡ Some found
  found_at part found before looked call = at_same h part found before looked (folders.quiet.finds before part Kept (Ok (Some found)) looked call) (sym (folders.finds before part Kept (Some found) looked call))

  part_clearing : (part : List ℕ) (spared : Spared) (before : FileSystem) (r : Result Bool Refusal) (after : FileSystem) → ChecksPart may d part spared before r after → Clearing h part before after
  part_clearing part spared before r after (spec.no_text t is same) = still same
  part_clearing part spared before r after (spec.nothing t call is) = still (folders.quiet.finds before part Kept (Ok None) after call)
  part_clearing part spared before r after (spec.is_there found looked t call clears) =
      from_same h part before looked after (folders.quiet.finds before part Kept (Ok (Some found)) looked call) (found_clearing part spared found looked r after clears (found_at part found before looked call))
  part_clearing part spared before r after (spec.not_seen error t call is) = still (folders.quiet.finds before part Kept (Err error) after call)

  pub way_clearing : (part name : List ℕ) (spared : Spared) (from : E) (before : FileSystem) (r : Result (Unit {0}) Refusal) (to : E) (after : FileSystem) → ClearsWay may d e part name spared from before r to after → Clearing h part before after
  way_clearing part name spared from before r to after (spec.not_clear refusal checks same is) = part_clearing part spared before (Err refusal) after checks
  way_clearing part name spared from before r to after (spec.clear was_left checks told is) = part_clearing part spared before (Ok was_left) after checks

  -- ---- where the run goes on

  locked_clear : (part : List ℕ) → IsUtf8 part → (before : FileSystem) (was_left : Bool) (after : FileSystem) → RemovesLocked may part before (Ok was_left) after → IsClear h part before after
  locked_clear part text before was_left after (spec.removed call is) =
      let removes : Removes h part before after = inputs.removes before part (Ok _) after call in
      record { text = text; nothing = removes.puts.there; written = removes.notes.written_is; unremoved = removes.notes.unremoved_is }
  locked_clear part text before was_left after (spec.not_removed error call is) = absurd (cc)

  left_clear : (part : List ℕ) → IsUtf8 part → (before : FileSystem) (was_left : Bool) (after : FileSystem) → RemovesLeft may part before (Ok was_left) after → IsClear h part before after
  left_clear part text before was_left after (spec.locked mid call removes) =
      let x : (file : Number) × (mid ≡ record before { held = Some file }) = inputs.seizes before part (Ok true) mid call in
      clear_held h part before (Some x.0) after (clear_same h part (record before { held = Some x.0 }) mid after x.1 (locked_clear part text mid was_left after removes))
  left_clear part text before was_left after (spec.at_work call is) = absurd (cc)
  left_clear part text before was_left after (spec.not_locked error call is) = absurd (cc)

  found_clear : (part : List ℕ) → IsUtf8 part → (spared : Spared) (found : Found) (before : FileSystem) (was_left : Bool) (after : FileSystem) → ClearsFound may part spared found before (Ok was_left) after → IsClear h part before after
  found_clear part text spared found before was_left after (spec.may_be left removes) = left_clear part text before was_left after removes
  found_clear part text spared found before was_left after (spec.is_other left is same) = absurd (cc)

  part_clear : (part : List ℕ) (spared : Spared) (before : FileSystem) (was_left : Bool) (after : FileSystem) → ChecksPart may d part spared before (Ok was_left) after → IsClear h part before after
  part_clear part spared before was_left after (spec.no_text t is same) = absurd (cc)
  part_clear part spared before was_left after (spec.nothing t call is) =
      let same : after ≡ before = folders.quiet.finds before part Kept (Ok None) after call in
      record {
        text = t;
        nothing = ap (λ (s : FileSystem). at_path h s.now part) same ∙ sym (folders.finds before part Kept None after call);
        written = ap (λ (s : FileSystem). s.written) same;
        unremoved = ap (λ (s : FileSystem). s.unremoved) same;
      }
  part_clear part spared before was_left after (spec.is_there found looked t call clears) =
      clear_same h part before looked after (folders.quiet.finds before part Kept (Ok (Some found)) looked call) (found_clear part t spared found looked was_left after clears)
  part_clear part spared before was_left after (spec.not_seen error t call is) = absurd (cc)

  pub way_clear : (part name : List ℕ) (spared : Spared) (from : E) (before : FileSystem) (to : E) (after : FileSystem) → ClearsWay may d e part name spared from before (Ok _) to after → IsClear h part before after
  way_clear part name spared from before to after (spec.not_clear refusal checks same is) = absurd (cc)
  way_clear part name spared from before to after (spec.clear was_left checks told is) = part_clear part spared before was_left after checks

-- ---- what is told

pub way_told : {S I O F E : Type 0} (may : MayDo S I O) (d : FoldersDo S O F) (e : Writer E) (path name : List ℕ) (spared : Spared) (from : E) (before : S) (r : Result (Unit {0}) Refusal) (to : E) (after : S) → ClearsWay may d e path name spared from before r to after → TellsLeft e name from to
way_told may d e path name spared from before r to after (spec.not_clear refusal checks same is) = nothing_told same
way_told may d e path name spared from before r to after (spec.clear was_left checks told is) = was_told was_left told
