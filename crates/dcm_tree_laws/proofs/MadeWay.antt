-- The folders on the way to an output are there once they were made.
use Rattle.std.proofs.Common.{◌≡◌, ◌∙◌, refl, sym, ap, subst, inl, inr, ◌⊎◌, ℕ, ◌+◌, ◌-◌, ◌<◌, ◌≤◌, List, ◌∷◌, ◌++◌, length, take, drop, Bool, true, false, Option, Some, None, Result, Ok, Err, arith}
use Rattle.std.specs.Prelude.{◌≢◌, codes, slice_index}
use Rattle.std.specs.Option.{is_none}
use Rattle.std.specs.Str.{IsUtf8}
use Rattle.std.proofs.Math.Seq.{take-append_seam, get_or-append_seam}
use Rattle.std.proofs.Math.Dec.{eqb}
use Rattle.std.proofs.lemmas.Bool.{cases_lt}
use Rattle.std.proofs.lemmas.Bool.Decides.{eqb_tells}
use Rattle.std.proofs.lemmas.List.{get_or-drop, length-append, length-drop, append_assoc}
use Rattle.dcm_lemmas.proofs.Options.{one_value}
use Rattle.dcm_lemmas.proofs.Truth.{true_false}
use Rattle.dcm_files.specs.Folders.{FoldersDo}
use Rattle.dcm_files.specs.declared.folders.Found.{Found}
use Rattle.dcm_files.specs.declared.folders.FoundKind.{FoundKind}
use Rattle.dcm_files.specs.declared.folders.FoundKind.TheVariants as kinds
use Rattle.dcm_walk.specs.List.{IsSlash}
use Rattle.dcm_walk.specs.Names.{below, is_slash}
use Rattle.dcm_trees.specs.declared.place.NotMade.{NotMade}
use Rattle.dcm_trees.specs.Modes.{Modes}
use Rattle.dcm_trees.specs.Place as places
use Rattle.dcm_trees.specs.Place.{MakesNew, HasFolder, FindsFolder, AreMade, MakesWay, end_of_way, end_at}
use Rattle.dcm_tree_laws.specs.Again.{IsAt}
use Rattle.dcm_tree_laws.specs.FileSystem.{FileSystem, Host, Tree, place_of, at_path, folders_do}
use Rattle.dcm_tree_laws.proofs.Near.{IsNear, Stays}
use Rattle.dcm_tree_laws.proofs.Looking.{looks, seen_is, seeks_mode}
use Rattle.dcm_tree_laws.proofs.Making.{has_folder, are_made, beyond as far_made}
use Rattle.dcm_tree_laws.proofs.Quiet.{are_quiet}
use Rattle.dcm_tree_laws.proofs.Steps.{Steps, whole}
use Rattle.dcm_tree_laws.proofs.Ways.{way_is_of_output}
use Rattle.dcm_tree_laws.proofs.WholePart.{IsReady, Ready, ready, then_steps, stays_then}

-- ---- a folder

-- one that is not at the place of the part
pub record FolderAt {I O : Type 0} (h : Host I O) (part : List ℕ) (t : Tree) (path : List ℕ) : Type 0 where
  pub at : IsAt h kinds.Folder t path
  pub apart : place_of h path ≢ place_of h part

pub folder_stays : {I O : Type 0} (h : Host I O) (part output : List ℕ) (t u : Tree) (path : List ℕ) → Stays h part output t u → FolderAt h part t path → FolderAt h part u path
folder_stays h part output t u path stays f = record {
  at = record { text = f.at.text; found = f.at.found; is = stays.there (place_of h path) f.at.found f.apart f.at.is; kind_is = f.at.kind_is };
  apart = f.apart;
}

pub none_apart : (t : Tree) (place part : List ℕ) (f : Found) → t.at place ≡ None → t.at part ≡ Some f → place ≢ part
none_apart t place part f none is e = absurd (cc)

no_kind : kinds.Folder ≡ kinds.File → ⊥
no_kind e = absurd (cc)

pub kinds_apart : (t : Tree) (place part : List ℕ) (f g : Found) → t.at place ≡ Some f → t.at part ≡ Some g → f.kind ≡ kinds.Folder → g.kind ≡ kinds.File → place ≢ part
kinds_apart t place part f g is other folder file e = no_kind (sym folder ∙ ap (λ (x : Found). x.kind) (one_value (t.at part) f g (ap t.at (sym e) ∙ is) other) ∙ file)

-- what was seen
pub record SeenFolder {U : Type 0} (seen : Result (Option Found) U) : Type 0 where
  pub found : Found
  pub is : seen ≡ Ok (Some found)
  pub kind_is : found.kind ≡ kinds.Folder

goes_along : (kind : FoundKind) → is_none (end_at kind) ≡ true → kind ≡ kinds.Folder
goes_along kinds.Folder e = refl
goes_along kinds.File e = absurd (cc)
goes_along kinds.Other e = absurd (cc)

pub seen_folder : (seen : Result (Option Found) _) → is_none (end_of_way seen) ≡ true → SeenFolder seen
seen_folder (Ok None) e = absurd (cc)
seen_folder (Ok (Some f)) e = record { found = f; is = refl; kind_is = goes_along f.kind e }
seen_folder (Err u) e = absurd (cc)

-- a slash at a place or behind it, and not behind the first one, is that
slash_at : (path : List ℕ) (from p : ℕ) → from ≤ p → is_slash (slice_index path p) ≡ true → is_slash (slice_index (drop from path) (p - from)) ≡ true
slash_at path from p least slash = ap is_slash (get_or-drop from path (p - from) _) ∙ ap (λ (k : ℕ). is_slash (slice_index path k)) (omega (arith, least)) ∙ slash

is_first_by : (path : List ℕ) (from size p : ℕ) → IsSlash (drop from path) (Some size) → from ≤ p → p < from + (size + 1) → is_slash (slice_index path p) ≡ true
    → ((eqb p (from + size) ≡ true) × (p ≡ from + size)) ⊎ ((eqb p (from + size) ≡ false) × (p ≢ from + size)) → p ≡ from + size
is_first_by path from size p first least less slash (inl e) = e.1
is_first_by path from size p first least less slash (inr e) =
    true_false (is_slash (slice_index (drop from path) (p - from))) (slash_at path from p least slash) (first.2 (p - from) (omega (arith, less, least, e.1)))

pub is_first : (path : List ℕ) (from size p : ℕ) → IsSlash (drop from path) (Some size) → from ≤ p → p < from + (size + 1) → is_slash (slice_index path p) ≡ true → p ≡ from + size
is_first path from size p first least less slash = is_first_by path from size p first least less slash (eqb_tells p (from + size))

-- none is behind the last one
none_behind : {A : Type 0} (path : List ℕ) (at p : ℕ) → IsSlash (drop at path) None → at ≤ p → p < length path → is_slash (slice_index path p) ≡ true → A
none_behind path at p none least inside slash =
    true_false (is_slash (slice_index (drop at path) (p - at))) (slash_at path at p least slash) (none (p - at) (omega (arith, least, inside, length-drop at path)))

pub up_to_last : {A : Type 0} (path : List ℕ) (at p : ℕ) → (p < at) ⊎ (at ≤ p) → p < length path → is_slash (slice_index path p) ≡ true → IsSlash (drop at path) None → (p < at → A) → A
up_to_last path at p (inl less) inside slash none then = then less
up_to_last path at p (inr least) inside slash none then = none_behind path at p none least inside slash

-- a slash in a path is behind a folder on its way
pub in_path : (path folder behind : List ℕ) → path ≡ below folder behind → (length folder < length path) × (is_slash (slice_index path (length folder)) ≡ true) × (take (length folder) path ≡ folder)
in_path path folder behind is =
    let cut : path ≡ folder ++ (47 ∷ behind) = is ∙ append_assoc folder (codes "/") behind in (
      omega (arith, ap length cut, length-append folder (47 ∷ behind)),
      ap (λ (x : List ℕ). is_slash (slice_index x (length folder))) cut ∙ ap is_slash (get_or-append_seam folder 47 behind _),
      ap (take (length folder)) cut ∙ take-append_seam folder (47 ∷ behind),
    )

-- ---- the folders up to a place

-- at each slash
abbrev WayTo : {I O : Type 0} → Host I O → (part path : List ℕ) → (base at : ℕ) → Tree → Type 0
WayTo h part path base at t = (p : ℕ) → base ≤ p → p < at → is_slash (slice_index path p) ≡ true → FolderAt h part t (take p path)

way_more : {I O : Type 0} (h : Host I O) (part output path : List ℕ) (base from size at : ℕ) (t u : Tree) → IsSlash (drop from path) (Some size) → at ≡ from + (size + 1) → Stays h part output t u → WayTo h part path base from t → FolderAt h part u (take (from + size) path)
    → (p : ℕ) → base ≤ p → p < at → is_slash (slice_index path p) ≡ true → (p < from) ⊎ (from ≤ p) → FolderAt h part u (take p path)
way_more h part output path base from size at t u first is stays had last p least less slash (inl before) = folder_stays h part output t u (take p path) stays (had p least before slash)
way_more h part output path base from size at t u first is stays had last p least less slash (inr behind) =
    subst (λ (k : ℕ). FolderAt h part u (take k path)) (sym (is_first path from size p first behind (omega (arith, less, is)) slash)) last

-- ---- they are made

-- a folder that is found has a path that is text
seen_text : {S O F : Type 0} (d : FoldersDo S O F) (path : List ℕ) (s : S) (seen : Result (Option Found) _) (after : S) → is_none (end_of_way seen) ≡ true → places.Looks d path s seen after → IsUtf8 path
seen_text d path s seen after is (places.no_text u t at same) = absurd (let no : is_none (end_of_way (Err u)) ≡ true = ap (λ x. is_none (end_of_way x)) (sym at) ∙ is in cc)
seen_text d path s seen after is (places.looked found t call at) = t
seen_text d path s seen after is (places.not_looked e u t call at) = t

pub found_text : {S O F : Type 0} (d : FoldersDo S O F) (path : List ℕ) (s after : S) → FindsFolder d path s true after → IsUtf8 path
found_text d path s after (places.by_looking seen l there) = seen_text d path s seen after (sym there) l

module _ {I O F : Type 0} (h : Host I O) (IsWhole : ℕ → List ℕ → Type 0) (part output bytes : List ℕ) (start : FileSystem) where
  found_folder : (path : List ℕ) (s : FileSystem) (b : Bool) (after : FileSystem) → IsReady h IsWhole part output bytes start s → IsUtf8 path → b ≡ true → FindsFolder (folders_do {F = F} h) path s b after → FolderAt h part after.now path
  found_folder path s b after r text is (places.by_looking seen l there) =
      let x : SeenFolder seen = seen_folder seen (sym there ∙ is) in
      let at : at_path h s.now path ≡ Some x.found = seen_is {F = F} h path s (Some x.found) after (subst (λ y. places.Looks (folders_do {F = F} h) path s y after) x.is l) in
      let p : Ready h IsWhole part s.now = ready r in
      subst (λ (t : FileSystem). FolderAt h part t.now path) (sym (looks (folders_do {F = F} h) (are_quiet h) path s seen after l)) (record {
        at = record { text = text; found = x.found; is = at; kind_is = x.kind_is };
        apart = kinds_apart s.now (place_of h path) (place_of h part) x.found p.file at p.is x.kind_is p.kind;
      })

  new_folder : (path : List ℕ) (mode : ℕ) (s : FileSystem) (result : Result (Unit {0}) NotMade) (after : FileSystem) → IsReady h IsWhole part output bytes start s → result ≡ Ok _ → MakesNew (folders_do {F = F} h) path mode s result after → FolderAt h part after.now path
  new_folder path mode s result after r ok (places.no_text e t is same) = absurd (cc)
  new_folder path mode s result after r ok (places.made text call is) = record {
    at = record { text = text; found = call.made; is = call.puts.there; kind_is = call.kind };
    apart = none_apart s.now (place_of h path) (place_of h part) (ready r).file call.nothing (ready r).is;
  }
  new_folder path mode s result after r ok (places.was_there cause tried text call k f is) = found_folder path tried true after (subst (IsReady h IsWhole part output bytes start) (sym call) r) text refl f
  new_folder path mode s result after r ok (places.no_folder cause e tried text call k f is) = absurd (cc)
  new_folder path mode s result after r ok (places.not_made cause e text call k is) = absurd (cc)

  folder_made : {modes : Modes} {base : ℕ} (path : List ℕ) (s : FileSystem) (result : Result (Unit {0}) NotMade) (after : FileSystem) → IsReady h IsWhole part output bytes start s → result ≡ Ok _ → HasFolder (folders_do {F = F} h) modes path base s result after → FolderAt h part after.now path
  folder_made path s result after r ok (places.there_already f is) = found_folder path s true after r (found_text (folders_do {F = F} h) path s after f) refl f
  folder_made path s result after r ok (places.no_mode n e looked f m is) = absurd (cc)
  folder_made path s result after r ok (places.has_mode mode looked seen f m new) =
      new_folder path mode seen result after (subst (IsReady h IsWhole part output bytes start) (sym (seeks_mode (folders_do {F = F} h) (are_quiet h) path s looked (Ok mode) seen f m)) r) ok new

  made_way : {modes : Modes} (path relative : List ℕ) → path ≡ below output relative → (base : ℕ) → length output + 1 ≤ base → (s : FileSystem) (at : ℕ) (after : FileSystem) → IsReady h IsWhole part output bytes start s → AreMade (folders_do {F = F} h) modes path base s at after
      → WayTo h part path base at after.now
  made_way path relative of_output base beyond s at after r (places.none_made a same) = λ p least less slash. absurd (omega (arith, a, least, less))
  made_way path relative of_output base beyond s at after r (places.and_made from size mid more slash has a) =
      let ready_mid : IsReady h IsWhole part output bytes start mid = then_steps r (are_made {F = F} h IsWhole part output (whole bytes) refl path relative of_output base beyond s from mid more) in
      let far : base ≤ from = far_made {F = F} h path base s from mid more in
      let steps : Steps h IsWhole part output (whole bytes) mid (whole bytes) after =
      has_folder {F = F} h IsWhole part (IsNear output) (whole bytes) refl (take (from + size) path) (way_is_of_output output relative path (from + size) of_output (omega (arith, beyond, far))) mid (Ok _) after has in
      λ p least less is. way_more h part output path base from size at mid.now after.now slash a (stays_then (whole bytes) after ready_mid steps) (made_way path relative of_output base beyond s from mid r more)
      (folder_made (take (from + size) path) mid (Ok _) after ready_mid refl has) p least less is (cases_lt p from)

  -- each folder on the way
  pub way_made : {modes : Modes} (path relative : List ℕ) → path ≡ below output relative → (s after : FileSystem) → IsReady h IsWhole part output bytes start s → (result : Result (Unit {0}) NotMade) → result ≡ Ok _ → MakesWay (folders_do {F = F} h) modes path (length output + 1) s result after
      → (folder behind : List ℕ) → path ≡ below folder behind → length output < length folder → FolderAt h part after.now folder
  way_made path relative of_output s after r result ok (places.not_all at size e mid more slash has is) = absurd (cc)
  way_made path relative of_output s after r result ok (places.all_made at more none is) = λ folder behind cut within.
      let x : (length folder < length path) × (is_slash (slice_index path (length folder)) ≡ true) × (take (length folder) path ≡ folder) = in_path path folder behind cut in
      subst (FolderAt h part after.now) x.2
      (up_to_last path at (length folder) (cases_lt (length folder) at) x.0 x.1 none (λ less. made_way path relative of_output (length output + 1) (omega arith) s at after r more (length folder) (omega (arith, within)) less x.1))
