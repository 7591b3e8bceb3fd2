-- The way to an output from its first folder on, and the folders that are made on it.
use Rattle.std.proofs.Common.{◌≡◌, ◌∙◌, refl, sym, ap, subst, inl, inr, ◌⊎◌, ℕ, ◌+◌, ◌≤◌, ◌<◌, List, take, drop, Bool, true, false, Option, Some, None, Result, Ok, Err, arith}
use Rattle.std.specs.Prelude.{◌≢◌, slice_index}
use Rattle.std.specs.Option.{is_none}
use Rattle.std.specs.Str.{IsUtf8}
use Rattle.std.proofs.lemmas.Bool.{cases_lt}
use Rattle.dcm_lemmas.proofs.Truth.{true_false}
use Rattle.dcm_files.specs.declared.folders.Found.{Found}
use Rattle.dcm_files.specs.declared.folders.FoundKind.{FoundKind}
use Rattle.dcm_files.specs.declared.folders.FoundKind.TheVariants as kinds
use Rattle.dcm_files.specs.Folders.{FoldersDo}
use Rattle.dcm_walk.specs.List.{IsSlash}
use Rattle.dcm_walk.specs.Names.{is_slash}
use Rattle.dcm_trees.specs.declared.place.NotMade.{NotMade}
use Rattle.dcm_trees.specs.declared.place.Place.{Place}
use Rattle.dcm_trees.specs.declared.place.Place.TheVariants as place
use Rattle.dcm_trees.specs.Modes.{Modes}
use Rattle.dcm_trees.specs.Place as places
use Rattle.dcm_trees.specs.Place.{Looks, AreFolders, LooksAlong, Finds, FindsFolder, MakesNew, HasFolder, AreMade, MakesWay, end_of_way, end_of_found, end_at, place_of, place_of_found, place_at, is_free}
use Rattle.dcm_tree_laws.specs.Again.{sure}
use Rattle.dcm_tree_laws.specs.Determined.{working_folders}
use Rattle.dcm_tree_laws.specs.FileSystem.{FileSystem, Tree, Host, number_of, place_of as path_place, at_path, folders_do, MakesFolder}
use Rattle.dcm_tree_laws.specs.Flows.{AreAlike, AlikeAt, SameOutputs}
use Rattle.dcm_tree_laws.specs.Stays.{IsOfOutput}
use Rattle.dcm_tree_laws.proofs.Alike.{alike_none, alike_some, alike_back, same_place, Changes, both_change, Keeps, all_kept, then_keeps, new_keeps}
use Rattle.dcm_tree_laws.proofs.Left.{sure_quiet}
use Rattle.dcm_tree_laws.proofs.Looking as looking
use Rattle.dcm_tree_laws.proofs.Quiet.{Quiet}

-- the calls of a system of which none fails that need not
abbrev pub calls_of : {I O : Type 0} → (F : Type 0) → Host I O → FoldersDo FileSystem O F
calls_of F h = working_folders h (sure (folders_do {F = F} h))

pub calls_quiet : {I O : Type 0} (F : Type 0) (h : Host I O) → Quiet (calls_of F h)
calls_quiet {I} {O} F h = record {
  finds = λ before path links r after call. (sure_quiet {F = F} h).finds before path links r after call;
  modes = λ before folder name r after call. (sure_quiet {F = F} h).modes before folder name r after call;
  opens = λ before path r after call. (sure_quiet {F = F} h).opens before path r after call;
  names = λ before folder r left after call. (sure_quiet {F = F} h).names before folder r left after call;
  closes = λ before folder after call. (sure_quiet {F = F} h).closes before folder after call;
}

-- ---- what a look sees

-- how what is there ends a way: not at all, since it is a folder; since nothing is there; or since that is no folder
abbrev pub kind_stop : FoundKind → Option Bool
kind_stop kinds.Folder = None
kind_stop kinds.File = Some true
kind_stop kinds.Other = Some true

abbrev pub stop_of : Option Found → Option Bool
stop_of None = Some false
stop_of (Some f) = kind_stop f.kind

abbrev pub stop_seen : {U : Type 0} → Result (Option Found) U → Option Bool
stop_seen (Ok found) = stop_of found
stop_seen (Err u) = Some true

-- nothing, where the path is no text, or what is there
pub data Sight {I O U : Type 0} (h : Host I O) (t : Tree) (path : List ℕ) (seen : Result (Option Found) U) : Type 0 where
  unfit : (u : U) → ¬ (IsUtf8 path) → seen ≡ Err u → Sight h t path seen
  fit : IsUtf8 path → seen ≡ Ok (at_path h t path) → Sight h t path seen

pub sight : {I O F : Type 0} (h : Host I O) (path : List ℕ) (s : FileSystem) (seen : Result (Option Found) _) (after : FileSystem) → Looks (calls_of F h) path s seen after → Sight h s.now path seen
sight h path s seen after (places.no_text u text is same) = unfit u text is
sight h path s seen after (places.looked found text call is) = fit text (is ∙ ap Ok call.0.0)
sight h path s seen after (places.not_looked e u text call is) = absurd (call.1 e refl)

by_sights : {I O A U : Type 0} (h : Host I O) (t u : Tree) (path : List ℕ) (one other : Result (Option Found) U) (of_seen : Result (Option Found) U → A) → ((a b : U) → of_seen (Err a) ≡ of_seen (Err b)) → of_seen (Ok (at_path h t path)) ≡ of_seen (Ok (at_path h u path))
    → Sight h t path one → Sight h u path other → of_seen one ≡ of_seen other
by_sights h t u path one other of_seen no_text alike (unfit a text is) (unfit b lacks at) = ap of_seen is ∙ no_text a b ∙ ap of_seen (sym at)
by_sights h t u path one other of_seen no_text alike (unfit a text is) (fit has at) = absurd (text has)
by_sights h t u path one other of_seen no_text alike (fit has is) (unfit b lacks at) = absurd (lacks has)
by_sights h t u path one other of_seen no_text alike (fit has is) (fit text at) = ap of_seen is ∙ alike ∙ ap of_seen (sym at)

same_stop : (t u : Tree) (a b : Option Found) → AlikeAt t u a b → stop_of a ≡ stop_of b
same_stop t u None None alike = refl
same_stop t u (Some f) (Some g) alike = ap kind_stop alike.0
same_stop t u None (Some g) alike = absurd alike
same_stop t u (Some f) None alike = absurd alike

stop_once : {I O U : Type 0} (h : Host I O) (t u : Tree) (path : List ℕ) (one other : Result (Option Found) U) → AlikeAt t u (at_path h t path) (at_path h u path) → Sight h t path one → Sight h u path other → stop_seen one ≡ stop_seen other
stop_once h t u path one other alike first second = by_sights h t u path one other stop_seen (λ a b. refl) (same_stop t u (at_path h t path) (at_path h u path) alike) first second

abbrev pub place_seen : {U : Type 0} → Result (Option Found) U → Place
place_seen (Ok found) = place_of_found found
place_seen (Err u) = place.Barred

place_once : {I O U : Type 0} (h : Host I O) (t u : Tree) (path : List ℕ) (one other : Result (Option Found) U) → AlikeAt t u (at_path h t path) (at_path h u path) → Sight h t path one → Sight h u path other → place_seen one ≡ place_seen other
place_once h t u path one other alike first second = by_sights h t u path one other place_seen (λ a b. refl) (same_place t u (at_path h t path) (at_path h u path) alike) first second

-- ---- slashes

first_slash : {A : Type 0} (bytes : List ℕ) (k l : ℕ) → IsSlash bytes (Some k) → IsSlash bytes (Some l) → k < l → A
first_slash bytes k l first second less = true_false (is_slash (slice_index bytes k)) first.1 (second.2 k less)

one_slash_by : (bytes : List ℕ) (k l : ℕ) → IsSlash bytes (Some k) → IsSlash bytes (Some l) → (k < l) ⊎ (l ≤ k) → (l < k) ⊎ (k ≤ l) → k ≡ l
one_slash_by bytes k l first second (inl less) y = first_slash bytes k l first second less
one_slash_by bytes k l first second (inr more) (inl less) = first_slash bytes l k second first less
one_slash_by bytes k l first second (inr more) (inr least) = omega (arith, more, least)

pub one_slash : (bytes : List ℕ) (k l : ℕ) → IsSlash bytes (Some k) → IsSlash bytes (Some l) → k ≡ l
one_slash bytes k l first second = one_slash_by bytes k l first second (cases_lt k l) (cases_lt l k)

pub no_slash : {A : Type 0} (bytes : List ℕ) (k : ℕ) → IsSlash bytes None → IsSlash bytes (Some k) → A
no_slash bytes k none is = true_false (is_slash (slice_index bytes k)) is.1 (none k is.0)

-- ---- the way

-- from a place of the path on: no slash is left; or what is before the next one ends the way, or is a folder
pub data Goes {I O : Type 0} (h : Host I O) (t : Tree) (path : List ℕ) (stop : Option Bool) : (at : ℕ) → Type 0 where
  to_its_end : {at : ℕ} → IsSlash (drop at path) None → stop ≡ None → Goes h t path stop at
  ends : {at : ℕ} (size : ℕ) (seen : Result (Option Found) (Unit {0})) (why : Bool) → IsSlash (drop at path) (Some size) → Sight h t (take (at + size) path) seen → stop_seen seen ≡ Some why → stop ≡ Some why → Goes h t path stop at
  more : {at : ℕ} (size : ℕ) (seen : Result (Option Found) (Unit {0})) → IsSlash (drop at path) (Some size) → Sight h t (take (at + size) path) seen → stop_seen seen ≡ None → Goes h t path stop (at + (size + 1)) → Goes h t path stop at

-- without why nothing was seen
abbrev without_why : {U : Type 0} → Result (Option Found) U → Result (Option Found) (Unit {0})
without_why (Ok found) = Ok found
without_why (Err u) = Err tt

sight_without : {I O U : Type 0} (h : Host I O) (t : Tree) (path : List ℕ) (seen : Result (Option Found) U) → Sight h t path seen → Sight h t path (without_why seen)
sight_without h t path seen (unfit u lacks is) = unfit tt lacks (ap without_why is)
sight_without h t path seen (fit text is) = fit text (ap without_why is)

sight_back : {I O F : Type 0} (h : Host I O) (path : List ℕ) (s before : FileSystem) (seen : Result (Option Found) _) (after : FileSystem) → s ≡ before → Looks (calls_of F h) path s seen after → Sight h before.now path (without_why seen)
sight_back {I} {O} {F} h path s before seen after same l = sight_without h before.now path seen (subst (λ (x : FileSystem). Sight h x.now path seen) same (sight {F = F} h path s seen after l))

kind_none : (kind : FoundKind) → end_at kind ≡ None → kind_stop kind ≡ None
kind_none kinds.Folder e = refl
kind_none kinds.File e = absurd (cc)
kind_none kinds.Other e = absurd (cc)

no_stop : (seen : Result (Option Found) _) → end_of_way seen ≡ None → stop_seen (without_why seen) ≡ None
no_stop (Ok None) e = absurd (cc)
no_stop (Ok (Some f)) e = kind_none f.kind e
no_stop (Err u) e = absurd (cc)

kind_missing : (kind : FoundKind) → end_at kind ≡ end_of_found None → kind_stop kind ≡ Some false
kind_missing kinds.Folder e = absurd (cc)
kind_missing kinds.File e = absurd (cc)
kind_missing kinds.Other e = absurd (cc)

is_missing : (seen : Result (Option Found) _) → end_of_way seen ≡ end_of_found None → stop_seen (without_why seen) ≡ Some false
is_missing (Ok None) e = refl
is_missing (Ok (Some f)) e = kind_missing f.kind e
is_missing (Err u) e = absurd (cc)

kind_blocked : (kind : FoundKind) → end_at kind ≡ end_at kinds.File → kind_stop kind ≡ Some true
kind_blocked kinds.Folder e = absurd (cc)
kind_blocked kinds.File e = refl
kind_blocked kinds.Other e = refl

is_blocked : (seen : Result (Option Found) _) → end_of_way seen ≡ end_at kinds.File → stop_seen (without_why seen) ≡ Some true
is_blocked (Ok None) e = absurd (cc)
is_blocked (Ok (Some f)) e = kind_blocked f.kind e
is_blocked (Err u) e = refl

-- a way that is ended is so in one of these two ways
kind_ended : {A : Type 0} (kind : FoundKind) (way : _) → end_at kind ≡ Some way → (end_at kinds.File ≡ Some way → A) → A
kind_ended kinds.Folder way e blocked = absurd (cc)
kind_ended kinds.File way e blocked = blocked e
kind_ended kinds.Other way e blocked = blocked e

is_ended : {A : Type 0} (seen : Result (Option Found) _) (way : _) → end_of_way seen ≡ Some way → (end_of_found None ≡ Some way → A) → (end_at kinds.File ≡ Some way → A) → A
is_ended (Ok None) way e missing blocked = missing e
is_ended (Ok (Some f)) way e missing blocked = kind_ended f.kind way e blocked
is_ended (Err u) way e missing blocked = blocked e

from_first : {I O F : Type 0} (h : Host I O) (path : List ℕ) (base : ℕ) (s : FileSystem) (stop : Option Bool) (at : ℕ) (mid : FileSystem) → AreFolders (calls_of F h) path base s at mid → Goes h s.now path stop at → Goes h s.now path stop base
from_first h path base s stop at mid (places.none_yet is same) goes = subst (λ (n : ℕ). Goes h s.now path stop n) is goes
from_first {I} {O} {F} h path base s stop at mid (places.and_folder from size seen between earlier slash l none is) goes =
    let same : between ≡ s = looking.folders (calls_of F h) (calls_quiet F h) path base s from between earlier in
    from_first {F = F} h path base s stop from between earlier
    (more size (without_why seen) slash (sight_back {F = F} h (take (from + size) path) between s seen mid same l) (no_stop seen none) (subst (λ (n : ℕ). Goes h s.now path stop n) is goes))

goes_missing : {I O F : Type 0} (h : Host I O) (path : List ℕ) (base : ℕ) (s : FileSystem) (way : _) (after : FileSystem) → end_of_found None ≡ Some way → LooksAlong (calls_of F h) path base s way after → Goes h s.now path (Some false) base
goes_missing h path base s way after gap (places.to_its_end at f slash is) = absurd (cc)
goes_missing {I} {O} {F} h path base s way after gap (places.ended at size seen end mid f slash l stops is) =
    let same : mid ≡ s = looking.folders (calls_of F h) (calls_quiet F h) path base s at mid f in
    from_first {F = F} h path base s (Some false) at mid f
    (ends size (without_why seen) false slash (sight_back {F = F} h (take (at + size) path) mid s seen after same l) (is_missing seen (stops ∙ ap Some (sym is) ∙ sym gap)) refl)

goes_blocked : {I O F : Type 0} (h : Host I O) (path : List ℕ) (base : ℕ) (s : FileSystem) (way : _) (after : FileSystem) → end_at kinds.File ≡ Some way → LooksAlong (calls_of F h) path base s way after → Goes h s.now path (Some true) base
goes_blocked h path base s way after block (places.to_its_end at f slash is) = absurd (cc)
goes_blocked {I} {O} {F} h path base s way after block (places.ended at size seen end mid f slash l stops is) =
    let same : mid ≡ s = looking.folders (calls_of F h) (calls_quiet F h) path base s at mid f in
    from_first {F = F} h path base s (Some true) at mid f
    (ends size (without_why seen) true slash (sight_back {F = F} h (take (at + size) path) mid s seen after same l) (is_blocked seen (stops ∙ ap Some (sym is) ∙ sym block)) refl)

goes_whole : {I O F : Type 0} (h : Host I O) (path : List ℕ) (base : ℕ) (s : FileSystem) (way : _) (after : FileSystem) → (end_of_found None ≡ Some way → ⊥) → (end_at kinds.File ≡ Some way → ⊥) → LooksAlong (calls_of F h) path base s way after → Goes h s.now path None base
goes_whole {I} {O} {F} h path base s way after gap block (places.to_its_end at f slash is) = from_first {F = F} h path base s None at after f (to_its_end slash refl)
goes_whole h path base s way after gap block (places.ended at size seen end mid f slash l stops is) = absurd (is_ended seen way (stops ∙ ap Some (sym is)) gap block)

-- each path on the way is alike in two trees
abbrev pub AlikeOn : {I O : Type 0} → Host I O → (t u : Tree) → (path : List ℕ) → (base : ℕ) → Type 0
AlikeOn h t u path base = (at size : ℕ) → base ≤ at → IsSlash (drop at path) (Some size) → AlikeAt t u (at_path h t (take (at + size) path)) (at_path h u (take (at + size) path))

step_once : {I O U : Type 0} (h : Host I O) (t u : Tree) (path : List ℕ) (base at k l : ℕ) (one other : Result (Option Found) U) → AlikeOn h t u path base → base ≤ at → IsSlash (drop at path) (Some k) → k ≡ l → Sight h t (take (at + k) path) one → Sight h u (take (at + l) path) other → stop_seen one ≡ stop_seen other
step_once h t u path base at k l one other alike least slash is first second =
    stop_once h t u (take (at + k) path) one other (alike at k least slash) first (subst (λ (n : ℕ). Sight h u (take (at + n) path) other) (sym is) second)

same_some : {A : Type 0} (a b : A) (x y : Option A) → x ≡ Some a → y ≡ Some b → x ≡ y → a ≡ b
same_some a b x y e f is = cc

not_both : {A B : Type 0} (a : A) (x y : Option A) → x ≡ Some a → y ≡ None → x ≡ y → B
not_both a x y e f is = absurd (cc)

pub way_once : {I O : Type 0} (h : Host I O) (t u : Tree) (path : List ℕ) (base : ℕ) (stop other : Option Bool) → AlikeOn h t u path base → (at : ℕ) → base ≤ at → Goes h t path stop at → Goes h u path other at → stop ≡ other
way_once h t u path base stop other alike at least (to_its_end slash is) (to_its_end lacks at_end) = is ∙ sym at_end
way_once h t u path base stop other alike at least (to_its_end slash is) (ends l seen why lacks s e w) = no_slash (drop at path) l slash lacks
way_once h t u path base stop other alike at least (to_its_end slash is) (more l seen lacks s e g) = no_slash (drop at path) l slash lacks
way_once h t u path base stop other alike at least (ends k seen why slash s e is) (to_its_end lacks w) = no_slash (drop at path) k lacks slash
way_once h t u path base stop other alike at least (ends k seen why slash s e is) (ends l there last lacks z f w) =
    is ∙ ap Some (same_some why last (stop_seen seen) (stop_seen there) e f (step_once h t u path base at k l seen there alike least slash (one_slash (drop at path) k l slash lacks) s z)) ∙ sym w
way_once h t u path base stop other alike at least (ends k seen why slash s e is) (more l there lacks z f g) =
    not_both why (stop_seen seen) (stop_seen there) e f (step_once h t u path base at k l seen there alike least slash (one_slash (drop at path) k l slash lacks) s z)
way_once h t u path base stop other alike at least (more k seen slash s e goes) (to_its_end lacks w) = no_slash (drop at path) k lacks slash
way_once h t u path base stop other alike at least (more k seen slash s e goes) (ends l there last lacks z f w) =
    not_both last (stop_seen there) (stop_seen seen) f e (sym (step_once h t u path base at k l seen there alike least slash (one_slash (drop at path) k l slash lacks) s z))
way_once h t u path base stop other alike at least (more k seen slash s e goes) (more l there lacks z f g) =
    way_once h t u path base stop other alike (at + (k + 1)) (omega (arith, least)) goes (subst (λ (n : ℕ). Goes h u path other (at + (n + 1))) (sym (one_slash (drop at path) k l slash lacks)) g)

-- ---- what is at the end of it

-- a look at the path itself
pub record EndsAt {I O : Type 0} (h : Host I O) (t : Tree) (path : List ℕ) (p : Place) : Type 0 where
  pub seen : Result (Option Found) (Unit {0})
  pub sight_is : Sight h t path seen
  pub place_is : p ≡ place_seen seen

abbrev pub Lands : {I O : Type 0} → Host I O → Tree → (path : List ℕ) → (stop : Option Bool) → Place → Type 0
Lands h t path (Some false) p = p ≡ place.Free
Lands h t path (Some true) p = p ≡ place.Barred
Lands h t path None p = EndsAt h t path p

-- what is found at a path
pub record Stands {I O : Type 0} (h : Host I O) (t : Tree) (path : List ℕ) (base : ℕ) (p : Place) : Type 0 where
  pub stop : Option Bool
  pub goes : Goes h t path stop base
  pub lands : Lands h t path stop p

same_sight : (seen : Result (Option Found) _) → place_of seen ≡ place_seen (without_why seen)
same_sight (Ok found) = refl
same_sight (Err u) = refl

pub stands : {I O F : Type 0} (h : Host I O) (path : List ℕ) (base : ℕ) (s : FileSystem) (p : Place) (after : FileSystem) → Finds (calls_of F h) path base s p after → Stands h s.now path base p
stands {I} {O} {F} h path base s p after (places.missing l is) = record { stop = Some false; goes = goes_missing {F = F} h path base s _ after refl l; lands = is }
stands {I} {O} {F} h path base s p after (places.blocked l is) = record { stop = Some true; goes = goes_blocked {F = F} h path base s _ after refl l; lands = is }
stands {I} {O} {F} h path base s p after (places.at_its_end seen mid l at is) =
    let same : mid ≡ s = looking.along (calls_of F h) (calls_quiet F h) path base s _ mid l in
    record {
      stop = None;
      goes = goes_whole {F = F} h path base s _ mid (λ e. absurd (cc)) (λ e. absurd (cc)) l;
      lands = record { seen = without_why seen; sight_is = sight_back {F = F} h path mid s seen after same at; place_is = is ∙ same_sight seen };
    }

lands_once : {I O : Type 0} (h : Host I O) (t u : Tree) (path : List ℕ) (stop : Option Bool) (p q : Place) → AlikeAt t u (at_path h t path) (at_path h u path) → Lands h t path stop p → Lands h u path stop q → p ≡ q
lands_once h t u path (Some false) p q alike first second = first ∙ sym second
lands_once h t u path (Some true) p q alike first second = first ∙ sym second
lands_once h t u path None p q alike first second = first.place_is ∙ place_once h t u path first.seen second.seen alike first.sight_is second.sight_is ∙ sym second.place_is

pub stands_once : {I O : Type 0} (h : Host I O) (t u : Tree) (path : List ℕ) (base : ℕ) (p q : Place) → AlikeOn h t u path base → AlikeAt t u (at_path h t path) (at_path h u path) → Stands h t path base p → Stands h u path base q → p ≡ q
stands_once h t u path base p q on alike first second =
    let same : first.stop ≡ second.stop = way_once h t u path base first.stop second.stop on base (omega arith) first.goes second.goes in
    lands_once h t u path first.stop p q alike first.lands (subst (λ (stop : Option Bool). Lands h u path stop q) (sym same) second.lands)

-- a regular file
pub record IsFileAt {I O : Type 0} (h : Host I O) (t : Tree) (path : List ℕ) : Type 0 where
  pub text : IsUtf8 path
  pub found : Found
  pub is : at_path h t path ≡ Some found
  pub kind : found.kind ≡ kinds.File

file_kind : (kind : FoundKind) → place_at kind ≡ place.There → kind ≡ kinds.File
file_kind kinds.File e = refl
file_kind kinds.Folder e = absurd (cc)
file_kind kinds.Other e = absurd (cc)

file_by : {I O : Type 0} (h : Host I O) (t : Tree) (path : List ℕ) (o : Option Found) → IsUtf8 path → at_path h t path ≡ o → place_of_found o ≡ place.There → IsFileAt h t path
file_by h t path None text is e = absurd (cc)
file_by h t path (Some f) text is e = record { text = text; found = f; is = is; kind = file_kind f.kind e }

sees_file : {I O U : Type 0} (h : Host I O) (t : Tree) (path : List ℕ) (seen : Result (Option Found) U) → Sight h t path seen → place_seen seen ≡ place.There → IsFileAt h t path
sees_file h t path seen (unfit u text is) there = absurd (let lacks : place.Barred ≡ place.There = ap place_seen (sym is) ∙ there in cc)
sees_file h t path seen (fit text is) there = file_by h t path (at_path h t path) text refl (ap place_seen (sym is) ∙ there)

lands_there : {I O : Type 0} (h : Host I O) (t : Tree) (path : List ℕ) (stop : Option Bool) (p : Place) → Lands h t path stop p → p ≡ place.There → IsFileAt h t path
lands_there h t path (Some false) p lands there = absurd (cc)
lands_there h t path (Some true) p lands there = absurd (cc)
lands_there h t path None p lands there = sees_file h t path lands.seen lands.sight_is (sym lands.place_is ∙ there)

pub stands_there : {I O : Type 0} (h : Host I O) (t : Tree) (path : List ℕ) (base : ℕ) → Stands h t path base place.There → IsFileAt h t path
stands_there h t path base stand = lands_there h t path stand.stop place.There stand.lands refl

-- ---- one folder

-- it cannot be, since its path is no text; or it is made where nothing is; or something is there, which does where it
-- is a folder
pub data Had {I O : Type 0} (h : Host I O) (path : List ℕ) (before : FileSystem) (has : Bool) (after : FileSystem) : Type 0 where
  no_text : ¬ (IsUtf8 path) → has ≡ false → after ≡ before → Had h path before has after
  made : (mode : ℕ) → IsUtf8 path → has ≡ true → MakesFolder h path mode before after → Had h path before has after
  was_there : (f : Found) → IsUtf8 path → at_path h before.now path ≡ Some f → has ≡ is_none (end_at f.kind) → after ≡ before → Had h path before has after

abbrev pub is_ok : {A E : Type 0} → Result A E → Bool
is_ok (Ok a) = true
is_ok (Err e) = false

something : {A : Type 0} (o : Option Found) → o ≢ None → ((f : Found) → o ≡ Some f → A) → A
something None not then = absurd (not refl)
something (Some f) not then = then f refl

found_had : {I O : Type 0} (h : Host I O) (path : List ℕ) (s : FileSystem) (has : Bool) (seen : Result (Option Found) _) → at_path h s.now path ≢ None → IsUtf8 path → has ≡ is_none (end_of_way seen) → Sight h s.now path seen → Had h path s has s
found_had h path s has seen some text is (unfit u lacks at) = absurd (lacks text)
found_had h path s has seen some text is (fit t at) = something (at_path h s.now path) some (λ f there. was_there f text there (is ∙ ap (λ x. is_none (end_of_way x)) (at ∙ ap Ok there)) refl)

finds_had : {I O F : Type 0} (h : Host I O) (path : List ℕ) (s tried : FileSystem) (has : Bool) (result : Bool) (after : FileSystem) → tried ≡ s → at_path h s.now path ≢ None → IsUtf8 path → result ≡ has → FindsFolder (calls_of F h) path tried has after → Had h path s result after
finds_had {I} {O} {F} h path s tried has result after same some text is (places.by_looking seen l there) =
    let back : after ≡ s = looking.looks (calls_of F h) (calls_quiet F h) path tried seen after l ∙ same in
    subst (λ (x : FileSystem). Had h path s result x) (sym back)
    (found_had h path s result seen some text (is ∙ there) (subst (λ (x : FileSystem). Sight h x.now path seen) same (sight {F = F} h path tried seen after l)))

new_had : {I O F : Type 0} (h : Host I O) (path : List ℕ) (mode : ℕ) (s : FileSystem) (r : Result (Unit {0}) NotMade) (after : FileSystem) → MakesNew (calls_of F h) path mode s r after → Had h path s (is_ok r) after
new_had h path mode s r after (places.no_text e text is same) = no_text text (ap is_ok is) same
new_had h path mode s r after (places.made text call is) = made mode text (ap is_ok is) call.0
new_had {I} {O} {F} h path mode s r after (places.was_there cause tried text call kind f is) = finds_had {F = F} h path s tried true (is_ok r) after call.0 call.1.0 text (ap is_ok is) f
new_had {I} {O} {F} h path mode s r after (places.no_folder cause e tried text call kind f is) = finds_had {F = F} h path s tried false (is_ok r) after call.0 call.1.0 text (ap is_ok is) f
new_had h path mode s r after (places.not_made cause e text call kind is) = absurd (kind call.1.1)

-- what is there already
seen_some : (seen : Result (Option Found) _) (o : Option Found) → is_none (end_of_way seen) ≡ true → seen ≡ Ok o → o ≢ None
seen_some seen None goes is = absurd (let no : is_none (end_of_way (Ok None)) ≡ true = ap (λ x. is_none (end_of_way x)) (sym is) ∙ goes in cc)
seen_some seen (Some f) goes is = λ e. absurd (cc)

seen_had : {I O : Type 0} (h : Host I O) (path : List ℕ) (s : FileSystem) (has : Bool) (seen : Result (Option Found) _) → is_none (end_of_way seen) ≡ true → has ≡ is_none (end_of_way seen) → Sight h s.now path seen → Had h path s has s
seen_had h path s has seen goes is (unfit u lacks at) = absurd (let no : is_none (end_of_way (Err u)) ≡ true = ap (λ x. is_none (end_of_way x)) (sym at) ∙ goes in cc)
seen_had h path s has seen goes is (fit text at) = found_had h path s has seen (seen_some seen (at_path h s.now path) goes at) text is (fit text at)

there_had : {I O F : Type 0} (h : Host I O) (path : List ℕ) (s : FileSystem) (has : Bool) (after : FileSystem) → has ≡ true → FindsFolder (calls_of F h) path s true after → Had h path s has after
there_had {I} {O} {F} h path s has after is (places.by_looking seen l there) =
    subst (λ (x : FileSystem). Had h path s has x) (sym (looking.looks (calls_of F h) (calls_quiet F h) path s seen after l)) (seen_had h path s has seen (sym there) (is ∙ there) (sight {F = F} h path s seen after l))

had : {I O F : Type 0} {modes : Modes} {base : ℕ} (h : Host I O) (path : List ℕ) (s : FileSystem) (r : Result (Unit {0}) NotMade) (after : FileSystem) → HasFolder (calls_of F h) modes path base s r after → Had h path s (is_ok r) after
had {I} {O} {F} h path s r after (places.there_already f is) = there_had {F = F} h path s (is_ok r) after (ap is_ok is) f
had {I} {O} {F} h path s r after (places.no_mode n e looked f m is) = absurd (looking.always_mode (calls_of F h) (λ before folder name error end call. call.1 error refl) looked n after m)
had {I} {O} {F} h path s r after (places.has_mode mode looked seen f m new) =
    let same : seen ≡ s = looking.seeks_mode (calls_of F h) (calls_quiet F h) path s looked (Ok mode) seen f m in
    subst (λ (x : FileSystem). Had h path x (is_ok r) after) same (new_had {F = F} h path mode seen r after new)

folder_change : {I O : Type 0} {mode : ℕ} (h : Host I O) (path : List ℕ) (s after : FileSystem) (m : MakesFolder h path mode s after) → Changes (path_place h path) (Some m.made) s.now after.now
folder_change h path s after m = record { there = m.puts.there; elsewhere = m.puts.elsewhere; bytes = λ other f is. m.bytes (number_of f) }

no_file : (f : Found) → f.kind ≡ kinds.Folder → f.kind ≡ kinds.File → ⊥
no_file f is at = absurd (cc)

made_alike : (t u : Tree) (f g : Found) → f.kind ≡ kinds.Folder → g.kind ≡ kinds.Folder → AreAlike t u f g
made_alike t u f g first second = (first ∙ sym second, λ file. absurd (no_file f first file))

pub record Onward {I O : Type 0} (h : Host I O) (output : List ℕ) (one other : Bool) (s u : FileSystem) : Type 0 where
  pub has : one ≡ other
  pub same : SameOutputs h output s.now u.now

onward_same : {I O : Type 0} (h : Host I O) (output : List ℕ) (one other : Bool) (s u v w : FileSystem) → one ≡ other → SameOutputs h output s.now u.now → v ≡ s → w ≡ u → Onward h output one other v w
onward_same h output one other s u v w has same first second = record {
  has = has;
  same = subst (λ (x : FileSystem). SameOutputs h output x.now w.now) (sym first) (subst (λ (x : FileSystem). SameOutputs h output s.now x.now) (sym second) same);
}

had_once : {I O : Type 0} (h : Host I O) (output path : List ℕ) (s u : FileSystem) (one other : Bool) (v w : FileSystem) → IsOfOutput output path → SameOutputs h output s.now u.now → Had h path s one v → Had h path u other w → Onward h output one other v w
had_once h output path s u one other v w of_output same (no_text lacks is at) (no_text text e f) = onward_same h output one other s u v w (is ∙ sym e) same at f
had_once h output path s u one other v w of_output same (no_text lacks is at) (made mode text e m) = absurd (lacks text)
had_once h output path s u one other v w of_output same (no_text lacks is at) (was_there g text there e back) = absurd (lacks text)
had_once h output path s u one other v w of_output same (made mode text is m) (no_text lacks e f) = absurd (lacks text)
had_once h output path s u one other v w of_output same (made mode text is m) (made other_mode too e n) = record {
  has = is ∙ sym e;
  same = both_change h output path s.now u.now v.now w.now (Some m.made) (Some n.made) same (folder_change h path s v m) (folder_change h path u w n) (made_alike v.now w.now m.made n.made m.kind n.kind);
}
had_once h output path s u one other v w of_output same (made mode text is m) (was_there g too there e back) = alike_none s.now u.now (at_path h s.now path) (at_path h u.now path) g (same path of_output) m.nothing there
had_once h output path s u one other v w of_output same (was_there f text there is back) (no_text lacks e at) = absurd (lacks text)
had_once h output path s u one other v w of_output same (was_there f text there is back) (made mode too e n) =
    alike_none u.now s.now (at_path h u.now path) (at_path h s.now path) f (alike_back s.now u.now (at_path h s.now path) (at_path h u.now path) (same path of_output)) n.nothing there
had_once h output path s u one other v w of_output same (was_there f text there is back) (was_there g too at e stays) =
    let alike : AreAlike s.now u.now f g = alike_some s.now u.now (at_path h s.now path) (at_path h u.now path) f g (same path of_output) there at in
    onward_same h output one other s u v w (is ∙ ap (λ (kind : FoundKind). is_none (end_at kind)) alike.0 ∙ sym e) same back stays

had_keeps : {I O : Type 0} (h : Host I O) (path : List ℕ) (s : FileSystem) (has : Bool) (after : FileSystem) → Had h path s has after → Keeps s.now after.now
had_keeps h path s has after (no_text lacks is same) = subst (λ (x : FileSystem). Keeps s.now x.now) (sym same) (all_kept s.now)
had_keeps h path s has after (made mode text is m) = new_keeps (path_place h path) (Some m.made) s.now after.now m.nothing (folder_change h path s after m)
had_keeps h path s has after (was_there f text there is same) = subst (λ (x : FileSystem). Keeps s.now x.now) (sym same) (all_kept s.now)

-- a folder is there then
record IsFolderAt {I O : Type 0} (h : Host I O) (t : Tree) (path : List ℕ) : Type 0 where
  text : IsUtf8 path
  found : Found
  is : at_path h t path ≡ Some found
  goes : kind_stop found.kind ≡ None

folder_kind : (kind : FoundKind) → is_none (end_at kind) ≡ true → kind_stop kind ≡ None
folder_kind kinds.Folder e = refl
folder_kind kinds.File e = absurd (cc)
folder_kind kinds.Other e = absurd (cc)

had_folder : {I O : Type 0} (h : Host I O) (path : List ℕ) (s : FileSystem) (has : Bool) (after : FileSystem) → has ≡ true → Had h path s has after → IsFolderAt h after.now path
had_folder h path s has after so (no_text lacks is same) = true_false has so is
had_folder h path s has after so (made mode text is m) = record { text = text; found = m.made; is = m.puts.there; goes = ap kind_stop m.kind }
had_folder h path s has after so (was_there f text there is same) = record {
  text = text;
  found = f;
  is = subst (λ (x : FileSystem). at_path h x.now path ≡ Some f) (sym same) there;
  goes = folder_kind f.kind (sym is ∙ so);
}

-- ---- all of them

-- from a place of the path on each folder is made or there, or one of them cannot be
pub data Paves {I O : Type 0} (h : Host I O) (path : List ℕ) (has : Bool) (after : FileSystem) : (at : ℕ) → (before : FileSystem) → Type 0 where
  all_paved : {at : ℕ} {before : FileSystem} → IsSlash (drop at path) None → has ≡ true → after ≡ before → Paves h path has after at before
  fails : {at : ℕ} {before : FileSystem} (size : ℕ) → IsSlash (drop at path) (Some size) → Had h (take (at + size) path) before false after → has ≡ false → Paves h path has after at before
  goes_on : {at : ℕ} {before : FileSystem} (size : ℕ) (mid : FileSystem) → IsSlash (drop at path) (Some size) → Had h (take (at + size) path) before true mid → Paves h path has after (at + (size + 1)) mid → Paves h path has after at before

paves_from : {I O F : Type 0} {modes : Modes} (h : Host I O) (path : List ℕ) (base : ℕ) (s : FileSystem) (has : Bool) (after : FileSystem) (at : ℕ) (mid : FileSystem) → AreMade (calls_of F h) modes path base s at mid → Paves h path has after at mid → Paves h path has after base s
paves_from h path base s has after at mid (places.none_made is same) paves =
    subst (λ (n : ℕ). Paves h path has after n s) is (subst (λ (x : FileSystem). Paves h path has after at x) same paves)
paves_from {I} {O} {F} h path base s has after at mid (places.and_made from size between earlier slash has_it is) paves =
    paves_from {F = F} h path base s has after from between earlier (goes_on size mid slash (had {F = F} h (take (from + size) path) between (Ok _) mid has_it) (subst (λ (n : ℕ). Paves h path has after n mid) is paves))

pub paves : {I O F : Type 0} {modes : Modes} (h : Host I O) (path : List ℕ) (base : ℕ) (s : FileSystem) (r : Result (Unit {0}) NotMade) (after : FileSystem) → MakesWay (calls_of F h) modes path base s r after → Paves h path (is_ok r) after base s
paves {I} {O} {F} h path base s r after (places.all_made at m slash is) = paves_from {F = F} h path base s (is_ok r) after at after m (all_paved slash (ap is_ok is) refl)
paves {I} {O} {F} h path base s r after (places.not_all at size e mid m slash has is) =
    paves_from {F = F} h path base s (is_ok r) after at mid m (fails size slash (had {F = F} h (take (at + size) path) mid (Err e) after has) (ap is_ok is))

pub paves_keeps : {I O : Type 0} (h : Host I O) (path : List ℕ) (has : Bool) (after : FileSystem) (at : ℕ) (s : FileSystem) → Paves h path has after at s → Keeps s.now after.now
paves_keeps h path has after at s (all_paved slash is same) = subst (λ (x : FileSystem). Keeps s.now x.now) (sym same) (all_kept s.now)
paves_keeps h path has after at s (fails size slash one is) = had_keeps h (take (at + size) path) s false after one
paves_keeps h path has after at s (goes_on size mid slash one then) = then_keeps s.now mid.now after.now (had_keeps h (take (at + size) path) s true mid one) (paves_keeps h path has after (at + (size + 1)) mid then)

-- the paths on the way are of the folder of the outputs
abbrev pub OfOutputOn : (output path : List ℕ) → (base : ℕ) → Type 0
OfOutputOn output path base = (at size : ℕ) → base ≤ at → IsSlash (drop at path) (Some size) → IsOfOutput output (take (at + size) path)

pub paves_once : {I O : Type 0} (h : Host I O) (output path : List ℕ) (base : ℕ) (one other : Bool) (v w : FileSystem) → OfOutputOn output path base → (at : ℕ) (s u : FileSystem) → base ≤ at → SameOutputs h output s.now u.now → Paves h path one v at s → Paves h path other w at u
    → Onward h output one other v w
paves_once h output path base one other v w on at s u least same (all_paved slash is e) (all_paved lacks f g) = onward_same h output one other s u v w (is ∙ sym f) same e g
paves_once h output path base one other v w on at s u least same (all_paved slash is e) (fails l lacks has f) = no_slash (drop at path) l slash lacks
paves_once h output path base one other v w on at s u least same (all_paved slash is e) (goes_on l mid lacks has then) = no_slash (drop at path) l slash lacks
paves_once h output path base one other v w on at s u least same (fails k slash has is) (all_paved lacks f g) = no_slash (drop at path) k lacks slash
paves_once h output path base one other v w on at s u least same (fails k slash has is) (fails l lacks there f) =
    let x : Onward h output false false v w = had_once h output (take (at + k) path) s u false false v w (on at k least slash) same has
    (subst (λ (n : ℕ). Had h (take (at + n) path) u false w) (sym (one_slash (drop at path) k l slash lacks)) there) in
    record { has = is ∙ sym f; same = x.same }
paves_once h output path base one other v w on at s u least same (fails k slash has is) (goes_on l mid lacks there then) =
    let x : Onward h output false true v mid = had_once h output (take (at + k) path) s u false true v mid (on at k least slash) same has
    (subst (λ (n : ℕ). Had h (take (at + n) path) u true mid) (sym (one_slash (drop at path) k l slash lacks)) there) in
    true_false true refl (sym x.has)
paves_once h output path base one other v w on at s u least same (goes_on k between slash has then) (all_paved lacks f g) = no_slash (drop at path) k lacks slash
paves_once h output path base one other v w on at s u least same (goes_on k between slash has then) (fails l lacks there f) =
    let x : Onward h output true false between w = had_once h output (take (at + k) path) s u true false between w (on at k least slash) same has
    (subst (λ (n : ℕ). Had h (take (at + n) path) u false w) (sym (one_slash (drop at path) k l slash lacks)) there) in
    true_false true refl x.has
paves_once h output path base one other v w on at s u least same (goes_on k between slash has onwards) (goes_on l mid lacks there then) =
    let is : k ≡ l = one_slash (drop at path) k l slash lacks in
    let x : Onward h output true true between mid = had_once h output (take (at + k) path) s u true true between mid (on at k least slash) same has
    (subst (λ (n : ℕ). Had h (take (at + n) path) u true mid) (sym is) there) in
    paves_once h output path base one other v w on (at + (k + 1)) between mid (omega (arith, least)) x.same onwards (subst (λ (n : ℕ). Paves h path other w (at + (n + 1)) mid) (sym is) then)

-- then the way goes to its end
folder_stays : {I O : Type 0} (h : Host I O) (path : List ℕ) (t u : Tree) → Keeps t u → IsFolderAt h t path → IsFolderAt h u path
folder_stays h path t u keeps f = record { text = f.text; found = f.found; is = keeps.there (path_place h path) f.found f.is; goes = f.goes }

no_end : {A I O U : Type 0} (h : Host I O) (t : Tree) (path : List ℕ) (seen : Result (Option Found) U) (why : Bool) → IsFolderAt h t path → Sight h t path seen → stop_seen seen ≡ Some why → A
no_end h t path seen why f (unfit u lacks is) e = absurd (lacks f.text)
no_end h t path seen why f (fit text is) e = not_both why (stop_seen seen) (kind_stop f.found.kind) e f.goes (ap stop_seen (is ∙ ap Ok f.is))

pub paved_way : {I O : Type 0} (h : Host I O) (path : List ℕ) (has : Bool) (after : FileSystem) (stop : Option Bool) → has ≡ true → (at : ℕ) (s : FileSystem) → Paves h path has after at s → Goes h after.now path stop at → stop ≡ None
paved_way h path has after stop so at s (all_paved slash is same) (to_its_end lacks w) = w
paved_way h path has after stop so at s (all_paved slash is same) (ends l seen why lacks see e w) = no_slash (drop at path) l slash lacks
paved_way h path has after stop so at s (all_paved slash is same) (more l seen lacks see e g) = no_slash (drop at path) l slash lacks
paved_way h path has after stop so at s (fails k slash one is) goes = true_false has so is
paved_way h path has after stop so at s (goes_on k mid slash one then) (to_its_end lacks w) = no_slash (drop at path) k lacks slash
paved_way h path has after stop so at s (goes_on k mid slash one then) (ends l seen why lacks see e w) =
    no_end h after.now (take (at + k) path) seen why (folder_stays h (take (at + k) path) mid.now after.now (paves_keeps h path has after (at + (k + 1)) mid then) (had_folder h (take (at + k) path) s true mid refl one))
    (subst (λ (n : ℕ). Sight h after.now (take (at + n) path) seen) (sym (one_slash (drop at path) k l slash lacks)) see) e
paved_way h path has after stop so at s (goes_on k mid slash one then) (more l seen lacks see e g) =
    paved_way h path has after stop so (at + (k + 1)) mid then (subst (λ (n : ℕ). Goes h after.now path stop (at + (n + 1))) (sym (one_slash (drop at path) k l slash lacks)) g)
