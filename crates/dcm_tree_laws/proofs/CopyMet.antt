-- An output that a run met at its name is there, with the folders on its way.
use Rattle.std.proofs.Common.{◌≡◌, ◌∙◌, refl, sym, ap, subst, inl, inr, ◌⊎◌, ℕ, ◌+◌, ◌≤◌, ◌<◌, List, length, take, drop, Bool, true, false, Option, Some, None, Result, Ok, Err, arith}
use Rattle.std.specs.Prelude.{◌≢◌, nat_le, slice_index}
use Rattle.std.specs.Option.{is_none}
use Rattle.std.specs.Str.{IsUtf8}
use Rattle.std.proofs.lemmas.Bool.{cases_lt}
use Rattle.dcm_lemmas.proofs.Options.{some_none}
use Rattle.dcm_lemmas.proofs.Truth.{true_false}
use Rattle.dcm_base.specs.Reading.Reads.{INPUT_LIMIT}
use Rattle.dcm_devices.specs.Writing.{Writer}
use Rattle.dcm_files.specs.declared.folders.Found.{Found}
use Rattle.dcm_files.specs.declared.folders.FoundKind.{FoundKind}
use Rattle.dcm_files.specs.declared.folders.FoundKind.TheVariants as kinds
use Rattle.dcm_files.specs.declared.folders.Links.TheVariants.{Followed}
use Rattle.dcm_tree_laws.proofs.Placing as placing
use Rattle.dcm_tree_laws.proofs.Placing.{same_place, gives_freed}
use Rattle.dcm_tree_laws.proofs.VisitedBy.{inner_way}
use Rattle.dcm_walk.specs.List.{IsSlash}
use Rattle.dcm_walk.specs.Names.{below, is_slash, PATH_LIMIT}
use Rattle.dcm_cli.specs.Calls.{Reader}
use Rattle.dcm_trees.specs.declared.fate.Fate.{Fate}
use Rattle.dcm_trees.specs.declared.part.Naming.{Naming}
use Rattle.dcm_trees.specs.declared.part.Naming.TheVariants.{Linked, Moved, NotFree, Failed}
use Rattle.dcm_trees.specs.declared.place.Place.{Place}
use Rattle.dcm_trees.specs.declared.place.Place.TheVariants as spots
use Rattle.dcm_trees.specs.Fate.{is_written}
use Rattle.dcm_trees.specs.Instance as instance
use Rattle.dcm_trees.specs.Instance.{GivesFreeName, FindsCopy, ComparesFiles, PlacesPart, is_there}
use Rattle.dcm_trees.specs.Manner.{Manner}
use Rattle.dcm_trees.specs.Modes.{Modes}
use Rattle.dcm_trees.specs.Part as parts
use Rattle.dcm_trees.specs.Part.{MovesPart, MovesIfFree, GivesSecondName, GivesName, naming_fate}
use Rattle.dcm_trees.specs.Place as places
use Rattle.dcm_trees.specs.Place.{Looks, AreFolders, LooksAlong, Finds, end_of_way, end_of_found, end_at, place_at}
use Rattle.dcm_tree_laws.specs.Again.{IsAt, sure}
use Rattle.dcm_tree_laws.specs.Determined.{FileAt, working_may, working_folders, as_whole, working}
use Rattle.dcm_tree_laws.specs.FileSystem.{FileSystem, Host, number_of, place_of, may_do, folders_do}
use Rattle.dcm_tree_laws.proofs.Near.{IsNear, Stays}
use Rattle.dcm_tree_laws.proofs.CopyLeft.{followed, met_fate}
use Rattle.dcm_tree_laws.proofs.Files.{gives_free}
use Rattle.dcm_tree_laws.proofs.Given.{IsReady, Ready, ready, then_steps}
use Rattle.dcm_tree_laws.proofs.Held.{GivesAll}
use Rattle.dcm_tree_laws.proofs.Jobs as jobs
use Rattle.dcm_tree_laws.proofs.Left.{sure_quiet}
use Rattle.dcm_tree_laws.proofs.Looking as looking
use Rattle.dcm_tree_laws.proofs.MadeBy.{MadeAt, made_stays, within_it}
use Rattle.dcm_tree_laws.proofs.MadeWay.{kinds_apart, SeenFolder, seen_folder, is_first, up_to_last, in_path}
use Rattle.dcm_tree_laws.proofs.Naming.{phase_of, clears_part}
use Rattle.dcm_tree_laws.proofs.Steps.{idle, whole, Steps}
use Rattle.dcm_tree_laws.proofs.Sure as sures
use Rattle.dcm_tree_laws.proofs.WholePart.{stays_since, stays_then}
use Rattle.dcm_tree_laws.proofs.Working.{working_also, working_can, working_sure, compared_same, compared_bytes}
use Rattle.dcm_tree_laws.proofs.Works as works

-- ---- what was seen

kind_ends : (kind : FoundKind) (way : _) → (end_at kinds.File ≡ Some way → ⊥) → end_at kind ≡ Some way → ⊥
kind_ends kinds.Folder way block e = absurd (cc)
kind_ends kinds.File way block e = block e
kind_ends kinds.Other way block e = block e

never_ends : (seen : Result (Option Found) _) (way : _) → (end_of_found None ≡ Some way → ⊥) → (end_at kinds.File ≡ Some way → ⊥) → end_of_way seen ≡ Some way → ⊥
never_ends (Ok None) way gap block e = gap e
never_ends (Ok (Some f)) way gap block e = kind_ends f.kind way block e
never_ends (Err u) way gap block e = block e

kind_there : (kind : FoundKind) → place_at kind ≡ spots.There → kind ≡ kinds.File
kind_there kinds.File e = refl
kind_there kinds.Folder e = absurd (cc)
kind_there kinds.Other e = absurd (cc)

-- a file
record SeenFile {U : Type 0} (seen : Result (Option Found) U) : Type 0 where
  found : Found
  is : seen ≡ Ok (Some found)
  kind_is : found.kind ≡ kinds.File

seen_file : (seen : Result (Option Found) _) → places.place_of seen ≡ spots.There → SeenFile seen
seen_file (Ok None) e = absurd (cc)
seen_file (Ok (Some f)) e = record { found = f; is = refl; kind_is = kind_there f.kind e }
seen_file (Err u) e = absurd (cc)

err_ok : {U : Type 0} (x : Result (Option Found) U) (u : U) (f : Found) → x ≡ Err u → x ≡ Ok (Some f) → ⊥
err_ok x u f a b = absurd (cc)

not_seen : {U : Type 0} (x : Result (Option Found) U) (u : U) → x ≡ Err u → SeenFile x → ⊥
not_seen x u is y = err_ok x u y.found is y.is

-- at each slash of the way was a folder
module _ {I O : Type 0} (F : Type 0) (h : Host I O) (path : List ℕ) (base : ℕ) where
  folder_seen : (p : List ℕ) (s : FileSystem) (seen : Result (Option Found) _) (after : FileSystem) → end_of_way seen ≡ None → Looks (sure (folders_do {F = F} h)) p s seen after → IsAt h kinds.Folder s.now p
  folder_seen p s seen after goes (places.no_text u t is same) = absurd (some_none _ (sym (ap end_of_way is) ∙ goes))
  folder_seen p s seen after goes (places.looked found text call is) =
      let x : SeenFolder seen = seen_folder seen (ap is_none goes) in
      record { text = text; found = x.found; is = sym call.0.0 ∙ looking.same_ok seen (Some x.found) found x.is is; kind_is = x.kind_is }
  folder_seen p s seen after goes (places.not_looked e u text call is) = absurd (call.1 e refl)

  file_seen : (p : List ℕ) (s : FileSystem) (seen : Result (Option Found) _) (after : FileSystem) → places.place_of seen ≡ spots.There → Looks (sure (folders_do {F = F} h)) p s seen after → IsAt h kinds.File s.now p
  file_seen p s seen after there (places.looked found text call is) =
      let x : SeenFile seen = seen_file seen there in
      record { text = text; found = x.found; is = sym call.0.0 ∙ looking.same_ok seen (Some x.found) found x.is is; kind_is = x.kind_is }
  file_seen p s seen after there (places.no_text u t is same) = absurd (not_seen seen u is (seen_file seen there))
  file_seen p s seen after there (places.not_looked e u text call is) = absurd (call.1 e refl)

  last_or : (s mid after : FileSystem) (from size p : ℕ) (seen : Result (Option Found) _) → mid ≡ s → IsSlash (drop from path) (Some size) → Looks (sure (folders_do {F = F} h)) (take (from + size) path) mid seen after → end_of_way seen ≡ None → p < from + (size + 1)
      → is_slash (slice_index path p) ≡ true → (p < from → IsAt h kinds.Folder s.now (take p path)) → (p < from) ⊎ (from ≤ p) → IsAt h kinds.Folder s.now (take p path)
  last_or s mid after from size p seen same first l goes less slash had (inl before) = had before
  last_or s mid after from size p seen same first l goes less slash had (inr behind) =
      subst (λ (k : ℕ). IsAt h kinds.Folder s.now (take k path)) (sym (is_first path from size p first behind less slash))
      (subst (λ (t : FileSystem). IsAt h kinds.Folder t.now (take (from + size) path)) same (folder_seen (take (from + size) path) mid seen after goes l))

  seen_way : (s : FileSystem) (at : ℕ) (after : FileSystem) → AreFolders (sure (folders_do {F = F} h)) path base s at after → (p : ℕ) → base ≤ p → p < at → is_slash (slice_index path p) ≡ true → IsAt h kinds.Folder s.now (take p path)
  seen_way s at after (places.none_yet a same) p least less slash = absurd (omega (arith, a, least, less))
  seen_way s at after (places.and_folder from size seen mid more first l goes a) p least less slash =
      last_or s mid after from size p seen (looking.folders (sure (folders_do {F = F} h)) (sure_quiet h) path base s from mid more) first l goes (omega (arith, less, a)) slash (λ before. seen_way s from mid more p least before slash) (cases_lt p from)

  -- a file is at its end
  pub record FileThere (s : FileSystem) : Type 0 where
    pub file : IsAt h kinds.File s.now path
    pub way : (folder behind : List ℕ) → path ≡ below folder behind → base ≤ length folder → IsAt h kinds.Folder s.now folder

  along_way : (s : FileSystem) (way : _) (mid : FileSystem) → (end_of_found None ≡ Some way → ⊥) → (end_at kinds.File ≡ Some way → ⊥) → LooksAlong (sure (folders_do {F = F} h)) path base s way mid → (folder behind : List ℕ) → path ≡ below folder behind → base ≤ length folder → IsAt h kinds.Folder s.now folder
  along_way s way mid gap block (places.to_its_end at f none is) folder behind cut least =
      let x : (length folder < length path) × (is_slash (slice_index path (length folder)) ≡ true) × (take (length folder) path ≡ folder) = in_path path folder behind cut in
      subst (IsAt h kinds.Folder s.now) x.2
      (up_to_last path at (length folder) (cases_lt (length folder) at) x.0 x.1 none (λ less. seen_way s at mid f (length folder) least less x.1))
  along_way s way mid gap block (places.ended at size seen end between f slash l ends is) folder behind cut least = absurd (never_ends seen way gap block (ends ∙ ap Some (sym is)))

  pub place_there : (s : FileSystem) (place : Place) (after : FileSystem) → place ≡ spots.There → Finds (sure (folders_do {F = F} h)) path base s place after → FileThere s
  place_there s place after there (places.missing l is) = absurd (no_place spots.Free (sym is ∙ there) refl)
    where
      no_place : (p : Place) → p ≡ spots.There → p ≡ spots.Free → ⊥
      no_place p a b = absurd (cc)
  place_there s place after there (places.blocked l is) = absurd (no_place spots.Barred (sym is ∙ there) refl)
    where
      no_place : (p : Place) → p ≡ spots.There → p ≡ spots.Barred → ⊥
      no_place p a b = absurd (cc)
  place_there s place after there (places.at_its_end seen mid l looked_at is) =
      let same : mid ≡ s = looking.along (sure (folders_do {F = F} h)) (sure_quiet h) path base s _ mid l in
      record {
        file = subst (λ (t : FileSystem). IsAt h kinds.File t.now path) same (file_seen path mid seen after (sym is ∙ there) looked_at);
        way = along_way s _ mid (λ e. absurd (cc)) (λ e. absurd (cc)) l;
      }

-- ---- what was met

not_free : (naming : Naming) (place : Place) → naming ≡ NotFree place → naming ≡ Linked → ⊥
not_free naming place a b = absurd (cc)

not_moved : (naming : Naming) (place : Place) → naming ≡ NotFree place → naming ≡ Moved → ⊥
not_moved naming place a b = absurd (cc)

not_failed : (naming : Naming) (place : Place) → naming ≡ NotFree place → naming ≡ Failed → ⊥
not_failed naming place a b = absurd (cc)

module _ {I O : Type 0} (F : Type 0) (h : Host I O) (r : Reader I) (w : Writer O) (part path : List ℕ) (base : ℕ) where
  met_by_looking : (s : FileSystem) (place : Place) (naming : Naming) (named : FileSystem) → naming ≡ NotFree spots.There → naming ≡ NotFree place → Finds (working_folders h (sure (folders_do {F = F} h))) path base s place named → FileThere F h path base named
  met_by_looking s place naming named there is f =
      let seen : Finds (sure (folders_do {F = F} h)) path base s place named = sures.finds (working_folders h (sure (folders_do {F = F} h))) (sure (folders_do {F = F} h)) (working_sure {F = F} h).sees path base s place named f in
      subst (FileThere F h path base) (sym (looking.finds (sure (folders_do {F = F} h)) (sure_quiet h) path base s place named seen)) (place_there F h path base s place named (same_place place spots.There (sym is ∙ there)) seen)

  met_moving : (s : FileSystem) (naming : Naming) (named : FileSystem) → naming ≡ NotFree spots.There → MovesIfFree (working_may h r w (may_do h)) (working_folders h (sure (folders_do {F = F} h))) part path base s naming named → FileThere F h path base named
  met_moving s naming named there (parts.not_free place f nf is) = met_by_looking s place naming named there is f
  met_moving s naming named there (parts.free place looked f nf (parts.moved call is)) = absurd (not_moved naming spots.There there is)
  met_moving s naming named there (parts.free place looked f nf (parts.not_moved e call is)) = absurd (not_failed naming spots.There there is)

  pub met_second : (s : FileSystem) (naming : Naming) (named : FileSystem) → naming ≡ NotFree spots.There → GivesSecondName (working_may h r w (may_do h)) (working_folders h (sure (folders_do {F = F} h))) part path base s naming named → FileThere F h path base named
  met_second s naming named there (parts.no_part_text t is same) = absurd (not_failed naming spots.There there is)
  met_second s naming named there (parts.no_text t u is same) = absurd (not_failed naming spots.There there is)
  met_second s naming named there (parts.linked t u call is) = absurd (not_free naming spots.There there is)
  met_second s naming named there (parts.was_there e tried t u call k (parts.found place f is)) = met_by_looking tried place naming named there is f
  met_second s naming named there (parts.not_linked e tried t u call k moves) = met_moving tried naming named there moves

  met : {modes : Modes} (s : FileSystem) (naming : Naming) (named : FileSystem) → naming ≡ NotFree spots.There → GivesFreeName (working_may h r w (may_do h)) (working_folders h (sure (folders_do {F = F} h))) modes part path base s naming named → FileThere F h path base named
  met s naming named there (instance.not_free place f nf is) = met_by_looking s place naming named there is f
  met s naming named there (instance.free place looked f nf (parts.no_way e m is)) = absurd (not_failed naming spots.There there is)
  met s naming named there (instance.free place looked f nf (parts.on_its_way has m g)) = met_second has naming named there g

-- ---- it is there at the end

-- its bytes are those of the part; or they are others, where the part has no more than an input may have
abbrev pub MetBytes : (alike : Bool) → (held its : List ℕ) → Type 0
MetBytes true held its = its ≡ held
MetBytes false held its = length held ≤ INPUT_LIMIT → its ≢ held

there_naming : (alike : Bool) (naming : Naming) (fate : Fate) (same : Bool) → is_written fate ≡ true → naming_fate naming fate same ≡ met_fate alike → (naming ≡ NotFree spots.Free → ⊥) → (naming ≡ NotFree spots.There) × (same ≡ alike)
there_naming true Linked fate same written e freed = true_false (is_written fate) written (ap is_written e)
there_naming true Moved fate same written e freed = true_false (is_written fate) written (ap is_written e)
there_naming true (NotFree spots.There) fate true written e freed = (refl, refl)
there_naming true (NotFree spots.There) fate false written e freed = absurd (cc)
there_naming true (NotFree spots.Barred) fate same written e freed = absurd (cc)
there_naming true (NotFree spots.Free) fate same written e freed = absurd (cc)
there_naming true Failed fate same written e freed = absurd (cc)
there_naming false Linked fate same written e freed = true_false (is_written fate) written (ap is_written e)
there_naming false Moved fate same written e freed = true_false (is_written fate) written (ap is_written e)
there_naming false (NotFree spots.There) fate true written e freed = absurd (cc)
there_naming false (NotFree spots.There) fate false written e freed = (refl, refl)
there_naming false (NotFree spots.Barred) fate same written e freed = absurd (cc)
there_naming false (NotFree spots.Free) fate same written e freed = absurd (freed refl)
there_naming false Failed fate same written e freed = absurd (cc)

module _ {I O E : Type 0} (F : Type 0) (h : Host I O) (r : Reader I) (w : Writer O) (e : Writer E) (all : GivesAll h (as_whole h r) w) (m : Manner) (text : IsUtf8 m.part) (leads : h.leads Followed m.part ≡ place_of h m.part) where
  by_answer : (path : List ℕ) (s : FileSystem) (same alike : Bool) (after : FileSystem) → same ≡ alike → ComparesFiles (working_may h r w (may_do h)) (as_whole h r) m.part path s same after → IsUtf8 path → (f : FileAt h Followed s.now m.part) → (g : FileAt h Followed s.now path)
      → MetBytes alike (s.now.bytes (number_of f.file)) (s.now.bytes (number_of g.file))
  by_answer path s same true after is c path_text f g = sym (compared_bytes h r w all m.part path s after text path_text f g (subst (λ (b : Bool). ComparesFiles (working_may h r w (may_do h)) (as_whole h r) m.part path s b after) is c))
  by_answer path s same false after is c path_text f g = λ fits equal.
      true_false same (compared_same h r w all m.part path s same after (s.now.bytes (number_of f.file)) text path_text f g refl equal fits c) is

  copy_bytes : (path : List ℕ) (naming : Naming) (s : FileSystem) (same alike : Bool) (after : FileSystem) → naming ≡ NotFree spots.There → same ≡ alike → FindsCopy (working_may h r w (may_do h)) (as_whole h r) naming m.part path s same after → IsUtf8 path → (f : FileAt h Followed s.now m.part) → (g : FileAt h Followed s.now path)
      → MetBytes alike (s.now.bytes (number_of f.file)) (s.now.bytes (number_of g.file))
  copy_bytes path naming s same alike after named is (instance.not_there none not stays) path_text f g = true_false (is_there naming) (ap is_there named) none
  copy_bytes path naming s same alike after named is (instance.compared there c) path_text f g = by_answer path s same alike after is c path_text f g

  pub placed_met : (alike : Bool) (name relative held : List ℕ) (fate : Fate) (from : E) (start s : FileSystem) (became : Fate) (to : E) (after : FileSystem) → nat_le (length (below m.output relative)) PATH_LIMIT ≡ true → IsReady h (λ mode bytes. bytes ≡ held) m.part m.output held start s
      → place_of h (below m.output relative) ≢ place_of h m.part
      → ((u : FileSystem) → Stays h m.part m.output start.now u.now → IsAt h kinds.File u.now (below m.output relative) → h.leads Followed (below m.output relative) ≡ place_of h (below m.output relative))
      → is_written fate ≡ true → became ≡ met_fate alike → PlacesPart (working {F = F} h r w e) m name (below m.output relative) fate from s became to after → MadeAt h (λ mode bytes. MetBytes alike held bytes) m.part m.output relative after.now
  placed_met alike name relative held fate from start s became to after fits is_ready apart follows written is p =
      let path : List ℕ = below m.output relative in
      let IsHeld : ℕ → List ℕ → Type 0 = λ mode bytes. bytes ≡ held in
      let has : Ready h IsHeld m.part s.now = ready is_ready in
      let gives : placing.Gives h m.part path (length m.output + 1) s p.naming p.named = placing.gives F h r w m.part path (length m.output + 1) text has.file s p.naming p.named has.is p.gives in
      let naming : (p.naming ≡ NotFree spots.There) × (p.same ≡ alike) = there_naming alike p.naming fate p.same written (sym p.becomes ∙ is) (gives_freed h m.part path (length m.output + 1) s p.naming p.named gives) in
      let steps : Steps h IsHeld m.part m.output (whole held) s (whole held) p.named =
      subst (λ (x : Naming). Steps h IsHeld m.part m.output (whole held) s (phase_of held x) p.named) naming.0 (gives_free {I = I} {F = F} h IsHeld m.part m.output held path relative refl s p.naming p.named
      (works.gives_free (working_may h r w (may_do h)) (may_do h) (working_also h r w) (working_folders h (sure (folders_do {F = F} h))) (folders_do {F = F} h) (working_can {F = F} h) m.part path (length m.output + 1) s p.naming p.named p.gives)) in
      let named : IsReady h IsHeld m.part m.output held start p.named = then_steps is_ready steps in
      let part : Ready h IsHeld m.part p.named.now = ready named in
      let there : FileThere F h path (length m.output + 1) p.named = met F h r w m.part path (length m.output + 1) s p.naming p.named naming.0 p.gives in
      let copy : FileAt h Followed p.named.now path = followed h p.named.now path there.file.found (follows p.named (stays_since named) there.file) there.file.is there.file.kind_is in
      let met_bytes : MetBytes alike (p.named.now.bytes (number_of part.file)) (p.named.now.bytes (number_of there.file.found)) =
      copy_bytes path p.naming p.named p.same alike p.compared naming.0 naming.1 p.copy there.file.text (followed h p.named.now m.part part.file leads part.is part.kind) copy in
      let made : MadeAt h (λ mode bytes. MetBytes alike held bytes) m.part m.output relative p.named.now = record {
        fits = fits;
        text = there.file.text;
        out = record { file = there.file.found; is = there.file.is; kind = there.file.kind_is; whole = subst (λ (b : List ℕ). MetBytes alike b (p.named.now.bytes (number_of there.file.found))) part.done met_bytes; apart = apart };
        way = λ folder behind cut.
            let at : IsAt h kinds.Folder p.named.now (below m.output folder) = there.way (below m.output folder) behind (inner_way m.output relative folder behind cut) (omega (arith, within_it m.output folder)) in
            record { at = at; apart = kinds_apart p.named.now (place_of h (below m.output folder)) (place_of h m.part) at.found part.file at.is part.is at.kind_is part.kind };
      } in
      let compared : p.compared ≡ p.named = jobs.finds_copy h (as_whole h r) p.naming m.part path p.named p.same p.compared
      (works.finds_copy (working_may h r w (may_do h)) (may_do h) (working_also h r w) (as_whole h r) p.naming m.part path p.named p.same p.compared p.copy) in
      let gone : Steps h IsHeld m.part m.output (whole held) p.named idle after =
      subst (λ (x : FileSystem). Steps h IsHeld m.part m.output (whole held) x idle after) compared
      (subst (λ (x : Naming). Steps h IsHeld m.part m.output (phase_of held x) p.compared idle after) naming.0 (clears_part {I = I} h IsHeld m.part (IsNear m.output) held p.naming p.compared after
      (works.clears_part (working_may h r w (may_do h)) (may_do h) (working_also h r w) p.naming m.part p.compared after p.clears))) in
      made_stays h (λ mode bytes. MetBytes alike held bytes) m.part m.output relative p.named.now after.now (stays_then idle after named gone) made
