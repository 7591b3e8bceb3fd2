-- What a run sees at the name of an output is what the ideal run sees.
use Rattle.std.proofs.Common.{◌≡◌, ◌∙◌, refl, sym, ap, subst, inl, inr, ◌⊎◌, ℕ, ◌+◌, ◌-◌, ◌<◌, ◌≤◌, ◌==◌, List, [], ◌∷◌, ◌++◌, length, take, drop, Bool, true, false, ◌&&◌, if◌then◌else◌, Option, Some, None, Result, arith, length-append, append_assoc, codes, slice_index}
use Rattle.std.specs.Str.{IsUtf8}
use Rattle.std.proofs.lemmas.Bool.{eqb-true, eq-eqb, cases_lt}
use Rattle.std.proofs.lemmas.List.{get_or-drop, length-take, length-drop}
use Rattle.dcm_lemmas.proofs.Truth.{true_false, and_first, and_second, and_both}
use Rattle.dcm_files.specs.declared.folders.Found.{Found}
use Rattle.dcm_files.specs.declared.folders.FoundKind.{FoundKind}
use Rattle.dcm_files.specs.declared.folders.FoundKind.TheVariants as kinds
use Rattle.dcm_walk.specs.List.{IsSlash}
use Rattle.dcm_walk.specs.Names.{below, is_slash}
use Rattle.dcm_tree_laws.specs.FileSystem.{Tree, Host, at_path}
use Rattle.dcm_tree_laws.specs.Ideal.{Thing, a_file, a_folder, no_file, Outputs, is_on_way, is_passed, has_way}
use Rattle.dcm_tree_laws.specs.Ideal as ideal
use Rattle.dcm_tree_laws.specs.Ran.{ShowsThing, Shows}
use Rattle.dcm_tree_laws.proofs.IdealRun.Places.{passes_at, passes_by, way_behind, yes_or_no}
use Rattle.dcm_tree_laws.proofs.Onwards.{kind_stop, stop_of, stop_seen, Sight, unfit, fit, place_seen, Goes, to_its_end, ends, more, EndsAt, Lands, Stands}
use Rattle.dcm_tree_laws.proofs.Ways.{WayFolder, way_folder}
use Rattle.dcm_trees.specs.declared.place.Place.{Place}
use Rattle.dcm_trees.specs.declared.place.Place.TheVariants as place
use Rattle.dcm_trees.specs.Place.{place_at, place_of_found}
use Rattle.std.proofs.Math.Seq.{take-append_seam, get_or-append_seam}

-- ---- folders on a way

-- a folder on a way is cut off at a slash
pub cut_at : (p r : List ℕ) → is_on_way p r ≡ true → (behind : List ℕ) × (r ≡ below p behind)
cut_at [] [] e = absurd (cc)
cut_at [] (b ∷ bs) e = (bs, ap (λ n. n ∷ bs) (eqb-true b 47 e))
cut_at (c ∷ cs) [] e = absurd (cc)
cut_at (c ∷ cs) (b ∷ bs) e =
    let rest = cut_at cs bs (and_second (c == b) (is_on_way cs bs) e) in
    (rest.0, ap (λ n. n ∷ bs) (sym (eqb-true c b (and_first (c == b) (is_on_way cs bs) e))) ∙ ap (λ x. c ∷ x) rest.1)

pub on_way_of : (p behind : List ℕ) → is_on_way p (below p behind) ≡ true
on_way_of [] behind = refl
on_way_of (c ∷ cs) behind = and_both (c == c) (is_on_way cs (below cs behind)) (eq-eqb c c refl) (on_way_of cs behind)

pub not_on_own : (r : List ℕ) → is_on_way r r ≡ false
not_on_own [] = refl
not_on_own (b ∷ bs) = by (b == b) (is_on_way bs bs) (not_on_own bs)
  where
    by : (s t : Bool) → t ≡ false → (s && t) ≡ false
    by true t e = e
    by false t e = refl

-- two folders on one way
pub two_on_way : (p q r : List ℕ) → is_on_way p r ≡ true → is_on_way q r ≡ true → (is_on_way p q ≡ true) ⊎ ((p ≡ q) ⊎ (is_on_way q p ≡ true))
two_on_way [] [] r e f = inr (inl refl)
two_on_way p q [] e f = absurd (none p e)
  where
    none : (x : List ℕ) → is_on_way x [] ≡ true → ⊥
    none [] g = absurd (cc)
    none (c ∷ cs) g = absurd (cc)
two_on_way [] (d ∷ ds) (b ∷ bs) e f = inl (subst (λ n. is_slash n ≡ true) (sym (eqb-true d b (and_first (d == b) (is_on_way ds bs) f))) e)
two_on_way (c ∷ cs) [] (b ∷ bs) e f = inr (inr (subst (λ n. is_slash n ≡ true) (sym (eqb-true c b (and_first (c == b) (is_on_way cs bs) e))) f))
two_on_way (c ∷ cs) (d ∷ ds) (b ∷ bs) e f =
    let first : c ≡ b = eqb-true c b (and_first (c == b) (is_on_way cs bs) e) in
    let second : d ≡ b = eqb-true d b (and_first (d == b) (is_on_way ds bs) f) in
    either c d cs ds (first ∙ sym second) (two_on_way cs ds bs (and_second (c == b) (is_on_way cs bs) e) (and_second (d == b) (is_on_way ds bs) f))
  where
    either : (x y : ℕ) (xs ys : List ℕ) → x ≡ y → (is_on_way xs ys ≡ true) ⊎ ((xs ≡ ys) ⊎ (is_on_way ys xs ≡ true)) → (is_on_way (x ∷ xs) (y ∷ ys) ≡ true) ⊎ ((x ∷ xs ≡ y ∷ ys) ⊎ (is_on_way (y ∷ ys) (x ∷ xs) ≡ true))
    either x y xs ys same (inl g) = inl (and_both (x == y) (is_on_way xs ys) (eq-eqb x y same) g)
    either x y xs ys same (inr (inl g)) = inr (inl (ap (λ n. n ∷ xs) same ∙ ap (λ l. y ∷ l) g))
    either x y xs ys same (inr (inr g)) = inr (inr (and_both (y == x) (is_on_way ys xs) (eq-eqb y x (sym same)) g))

-- where a way is barred, its first folder that is none bars it
pub record Bar (o : Outputs) (r : List ℕ) : Type 0 where
  pub folder : List ℕ
  pub on : is_on_way folder r ≡ true
  pub way : has_way o folder ≡ true
  pub bars : is_passed (o folder) ≡ false

pub first_bar : (r : List ℕ) (o : Outputs) → has_way o r ≡ false → Bar o r
first_bar [] o e = absurd (cc)
first_bar (b ∷ bs) o e = by (is_slash b) (is_passed (o [])) refl refl (yes_or_no (has_way (λ rest. o (b ∷ rest)) bs)) (λ w. first_bar bs (λ rest. o (b ∷ rest)) w)
  where
    later : (if is_slash b then is_passed (o []) else true) ≡ true → Bar (λ rest. o (b ∷ rest)) bs → Bar o (b ∷ bs)
    later first x = record {
      folder = b ∷ x.folder;
      on = and_both (b == b) (is_on_way x.folder bs) (eq-eqb b b refl) x.on;
      way = and_both (if is_slash b then is_passed (o []) else true) (has_way (λ rest. o (b ∷ rest)) x.folder) first x.way;
      bars = x.bars;
    }

    none : (s t : Bool) → s ≡ true → t ≡ true → (s && t) ≡ false → ⊥
    none true t g h e = true_false t h e
    none false t g h e = absurd (cc)

    by : (s p : Bool) → is_slash b ≡ s → is_passed (o []) ≡ p → (has_way (λ rest. o (b ∷ rest)) bs ≡ true) ⊎ (has_way (λ rest. o (b ∷ rest)) bs ≡ false) → (has_way (λ rest. o (b ∷ rest)) bs ≡ false → Bar (λ rest. o (b ∷ rest)) bs) → Bar o (b ∷ bs)
    by true false s p w next = record { folder = []; on = s; way = refl; bars = p }
    by true true s p (inr w) next = later (ap (λ t. if t then is_passed (o []) else true) s ∙ p) (next w)
    by false p s q (inr w) next = later (ap (λ t. if t then is_passed (o []) else true) s) (next w)
    by true true s p (inl w) next = absurd (none (if is_slash b then is_passed (o []) else true) (has_way (λ rest. o (b ∷ rest)) bs) (ap (λ t. if t then is_passed (o []) else true) s ∙ p) w e)
    by false p s q (inl w) next = absurd (none (if is_slash b then is_passed (o []) else true) (has_way (λ rest. o (b ∷ rest)) bs) (ap (λ t. if t then is_passed (o []) else true) s) w e)

-- ---- where a folder on a way ends

pub record Cut (output p r : List ℕ) : Type 0 where
  pub base : length output + 1 ≤ length (below output p)
  pub inside : length (below output p) < length (below output r)
  pub slash : is_slash (slice_index (below output r) (length (below output p))) ≡ true
  pub taken : take (length (below output p)) (below output r) ≡ below output p

cut_whole : (output p r behind : List ℕ) → r ≡ below p behind → below output r ≡ below output p ++ (47 ∷ behind)
cut_whole output p r behind is =
    ap (λ x. below output x) (is ∙ append_assoc p (codes "/") behind) ∙ sym (append_assoc (output ++ codes "/") p (47 ∷ behind))

cut_by : (output p r behind : List ℕ) → below output r ≡ below output p ++ (47 ∷ behind) → Cut output p r
cut_by output p r behind whole = record {
  base = omega (arith, length-append (output ++ codes "/") p, length-append output (codes "/"));
  inside = subst (λ x. length (below output p) < length x) (sym whole) (omega (arith, length-append (below output p) (47 ∷ behind)));
  slash = ap is_slash (ap (λ x. slice_index x (length (below output p))) whole ∙ get_or-append_seam (below output p) 47 behind 0);
  taken = ap (take (length (below output p))) whole ∙ take-append_seam (below output p) (47 ∷ behind);
}

pub cut : (output p r : List ℕ) → is_on_way p r ≡ true → Cut output p r
cut output p r on = let it = cut_at p r on in cut_by output p r it.0 (cut_whole output p r it.0 it.1)

-- ---- what is seen on the way

-- a folder is seen there
pub record SeesFolder {I O : Type 0} (h : Host I O) (t : Tree) (path : List ℕ) : Type 0 where
  pub seen : Result (Option Found) (Unit {0})
  pub sees : Sight h t path seen
  pub goes : stop_seen seen ≡ None

-- a slash is at this place of a path, and before it a folder was seen
abbrev pub FoldersTo : {I O : Type 0} → Host I O → Tree → (path : List ℕ) → (from to : ℕ) → Type 0
FoldersTo h t path from to = (k : ℕ) → from ≤ k → k < to → is_slash (slice_index path k) ≡ true → SeesFolder h t (take k path)

pub data Ends {I O : Type 0} (h : Host I O) (t : Tree) (path : List ℕ) (stop : Option Bool) (from : ℕ) : Type 0 where
  at_end : stop ≡ None → FoldersTo h t path from (length path) → Ends h t path stop from
  at_slash : (at size : ℕ) (why : Bool) (seen : Result (Option Found) (Unit {0})) → from ≤ at → IsSlash (drop at path) (Some size) → stop ≡ Some why → Sight h t (take (at + size) path) seen → stop_seen seen ≡ Some why → FoldersTo h t path from (at + size) → Ends h t path stop from

no_slash_at : {A : Type 0} (path : List ℕ) (at k : ℕ) → at ≤ k → is_slash (slice_index path k) ≡ true → is_slash (slice_index (drop at path) (k - at)) ≡ false → A
no_slash_at path at k least slash none =
    let here : at + (k - at) ≡ k = omega (arith, least) in
    true_false (is_slash (slice_index path k)) slash (ap is_slash (sym (get_or-drop at path (k - at) 0 ∙ ap (slice_index path) here)) ∙ none)

before_slash : {I O : Type 0} (h : Host I O) (t : Tree) (path : List ℕ) (at size k : ℕ) → IsSlash (drop at path) (Some size) → at ≤ k → k < at + size → is_slash (slice_index path k) ≡ true → SeesFolder h t (take k path)
before_slash h t path at size k slash least less is = no_slash_at path at k least is (slash.2 (k - at) (omega (arith, least, less)))

one_more : {I O : Type 0} (h : Host I O) (t : Tree) (path : List ℕ) (at size to : ℕ) (seen : Result (Option Found) (Unit {0})) → IsSlash (drop at path) (Some size) → Sight h t (take (at + size) path) seen → stop_seen seen ≡ None → FoldersTo h t path (at + (size + 1)) to → FoldersTo h t path at to
one_more h t path at size to seen slash sees goes rest k least less is = by (cases_lt k (at + size)) (cases_lt (at + size) k)
  where
    by : (k < at + size) ⊎ (at + size ≤ k) → (at + size < k) ⊎ (k ≤ at + size) → SeesFolder h t (take k path)
    by (inl e) f = before_slash h t path at size k slash least e is
    by (inr e) (inl f) = rest k (omega (arith, f)) less is
    by (inr e) (inr f) = let same : at + size ≡ k = omega (arith, e, f) in
        subst (λ n. SeesFolder h t (take n path)) same (record { seen = seen; sees = sees; goes = goes })

pub ends_by : {I O : Type 0} (h : Host I O) (t : Tree) (path : List ℕ) (stop : Option Bool) (at : ℕ) → Goes h t path stop at → Ends h t path stop at
ends_by h t path stop at (to_its_end none is) = at_end is (λ k least less slash. no_slash_at path at k least slash (none (k - at) (omega (arith, least, less, length-drop at path))))
ends_by h t path stop at (ends size seen why slash sees end is) =
    at_slash at size why seen (omega arith) slash is sees end (λ k least less here. before_slash h t path at size k slash least less here)
ends_by h t path stop at (more size seen slash sees goes rest) = by (ends_by h t path stop (at + (size + 1)) rest)
  where
    by : Ends h t path stop (at + (size + 1)) → Ends h t path stop at
    by (at_end is folders) = at_end is (one_more h t path at size (length path) seen slash sees goes folders)
    by (at_slash from k why saw least cuts is see end folders) = at_slash from k why saw (omega (arith, least)) cuts is see end (one_more h t path at size (from + k) seen slash sees goes folders)

-- ---- it is what is told of the outputs

kind_folder : (kind : FoundKind) → kind_stop kind ≡ None → kind ≡ kinds.Folder
kind_folder kinds.Folder e = refl
kind_folder kinds.File e = absurd (cc)
kind_folder kinds.Other e = absurd (cc)

no_kind : {A : Type 0} (kind : FoundKind) → kind ≡ kinds.Folder → kind ≡ kinds.File → A
no_kind kind e f = absurd (cc)

other_kind : {A : Type 0} (kind : FoundKind) → kind ≡ kinds.Folder → kind ≡ kinds.Other → A
other_kind kind e f = absurd (cc)

-- a folder is passed
folder_passed : (t : Tree) (found : Option Found) (thing : Option Thing) → stop_of found ≡ None → ShowsThing t found thing → is_passed thing ≡ true
folder_passed t None thing e shows = absurd (cc)
folder_passed t (Some f) None e shows = absurd shows
folder_passed t (Some f) (Some (a_file mode bytes)) e shows = no_kind f.kind (kind_folder f.kind e) shows.0
folder_passed t (Some f) (Some a_folder) e shows = refl
folder_passed t (Some f) (Some no_file) e shows = other_kind f.kind (kind_folder f.kind e) shows

-- what blocks a way is not passed
stopped_kind : (kind : FoundKind) (why : Bool) → kind_stop kind ≡ Some why → kind ≡ kinds.Folder → ⊥
stopped_kind kinds.Folder why e f = absurd (cc)
stopped_kind kinds.File why e f = absurd (cc)
stopped_kind kinds.Other why e f = absurd (cc)

blocked_bars : (t : Tree) (found : Option Found) (thing : Option Thing) → stop_of found ≡ Some true → ShowsThing t found thing → is_passed thing ≡ false
blocked_bars t None thing e shows = absurd (cc)
blocked_bars t (Some f) None e shows = absurd shows
blocked_bars t (Some f) (Some (a_file mode bytes)) e shows = refl
blocked_bars t (Some f) (Some a_folder) e shows = absurd (stopped_kind f.kind true e shows)
blocked_bars t (Some f) (Some no_file) e shows = refl

not_missing : {A : Type 0} (kind : FoundKind) → kind_stop kind ≡ Some false → A
not_missing kinds.Folder e = absurd (cc)
not_missing kinds.File e = absurd (cc)
not_missing kinds.Other e = absurd (cc)

missing_none : (t : Tree) (found : Option Found) (thing : Option Thing) → stop_of found ≡ Some false → ShowsThing t found thing → thing ≡ None
missing_none t None None e shows = refl
missing_none t None (Some thing) e shows = absurd shows
missing_none t (Some f) thing e shows = not_missing f.kind e

-- what is seen at a path that is text is what is there
seen_there : {I O : Type 0} (h : Host I O) (t : Tree) (path : List ℕ) (seen : Result (Option Found) (Unit {0})) → IsUtf8 path → Sight h t path seen → stop_seen seen ≡ stop_of (at_path h t path)
seen_there h t path seen text (unfit u lacks is) = absurd (lacks text)
seen_there h t path seen text (fit has is) = ap stop_seen is

-- what a place is, in both
pub data SamePlace (p : Place) (q : ideal.Place) : Type 0 where
  both_free : p ≡ place.Free → q ≡ ideal.free → SamePlace p q
  both_held : (bytes : List ℕ) → p ≡ place.There → q ≡ ideal.held bytes → SamePlace p q
  both_barred : p ≡ place.Barred → q ≡ ideal.barred → SamePlace p q

there_place : (kind : FoundKind) → kind ≡ kinds.File → place_at kind ≡ place.There
there_place kind e = ap place_at e

found_place : (t : Tree) (found : Option Found) (thing : Option Thing) → ShowsThing t found thing → SamePlace (place_of_found found) (ideal.place_in true thing)
found_place t None None shows = both_free refl refl
found_place t None (Some thing) shows = absurd shows
found_place t (Some f) None shows = absurd shows
found_place t (Some f) (Some (a_file mode bytes)) shows = both_held bytes (ap place_at shows.0) refl
found_place t (Some f) (Some a_folder) shows = both_barred (ap place_at shows) refl
found_place t (Some f) (Some no_file) shows = both_barred (ap place_at shows) refl

as_place : (p : Place) (q r : ideal.Place) (o : Place) → p ≡ o → q ≡ r → SamePlace o r → SamePlace p q
as_place p q r o e f same = subst (λ x. SamePlace x q) (sym e) (subst (λ x. SamePlace o x) (sym f) same)

no_thing : {A : Type 0} (t : Option Thing) → t ≡ None → t ≡ Some a_folder → A
no_thing t e f = absurd (cc)

seen_place : {I O : Type 0} (h : Host I O) (t : Tree) (path : List ℕ) (seen : Result (Option Found) (Unit {0})) → IsUtf8 path → Sight h t path seen → place_seen seen ≡ place_of_found (at_path h t path)
seen_place h t path seen text (unfit u lacks is) = absurd (lacks text)
seen_place h t path seen text (fit has is) = ap place_seen is

module _ {I O : Type 0} (h : Host I O) (output part : List ℕ) (spoken : List ℕ → Bool) (t : Tree) (o : Outputs) (shows : Shows h output spoken t o) (closed : (r p : List ℕ) → spoken r ≡ true → is_on_way p r ≡ true → spoken p ≡ true) (text : (r : List ℕ) → spoken r ≡ true → IsUtf8 (below output r)) where
  -- a way that has something behind it is one of folders
  way_of_some : (r : List ℕ) (thing : Thing) → o r ≡ Some thing → has_way o r ≡ true
  way_of_some r thing is = passes_by r o (λ p on. ap is_passed (shows.folders r p thing is on))

  none_barred : (r : List ℕ) → has_way o r ≡ false → o r ≡ None
  none_barred r bars = by (o r) refl
    where
      by : (x : Option Thing) → o r ≡ x → o r ≡ None
      by None e = e
      by (Some thing) e = true_false (has_way o r) (way_of_some r thing e) bars

  way_to : (p r : List ℕ) → has_way o r ≡ true → is_on_way p r ≡ true → has_way o p ≡ true
  way_to p r way on = passes_by p o (λ q e. passes_at r o q way (way_behind q p r e on))

  -- a bar is no folder that was seen
  no_bar : {A : Type 0} (r : List ℕ) → spoken r ≡ true → (b : Bar o r) → SeesFolder h t (below output b.folder) → A
  no_bar r of_r b sees =
      let of_b : spoken b.folder ≡ true = closed r b.folder of_r b.on in
      true_false (is_passed (o b.folder)) (folder_passed t (at_path h t (below output b.folder)) (o b.folder) (sym (seen_there h t (below output b.folder) sees.seen (text b.folder of_b) sees.sees) ∙ sees.goes) (shows.shown b.folder of_b b.way)) b.bars

  -- where all folders before a place of the path were seen, the way up to it is open
  open_way : (r q : List ℕ) (to : ℕ) → spoken q ≡ true → ((p : List ℕ) → is_on_way p q ≡ true → is_on_way p r ≡ true × (length (below output p) < to)) → FoldersTo h t (below output r) (length output + 1) to → has_way o q ≡ true
  open_way r q to of_q before folders = by (yes_or_no (has_way o q))
    where
      by : (has_way o q ≡ true) ⊎ (has_way o q ≡ false) → has_way o q ≡ true
      by (inl e) = e
      by (inr e) =
          let bar : Bar o q = first_bar q o e in
          let c : Cut output bar.folder r = cut output bar.folder r (before bar.folder bar.on).0 in
          no_bar q of_q bar (subst (λ x. SeesFolder h t x) c.taken (folders (length (below output bar.folder)) c.base (before bar.folder bar.on).1 c.slash))

  -- what is at the end
  end_place : (r : List ℕ) (p : Place) → spoken r ≡ true → has_way o r ≡ true → EndsAt h t (below output r) p → SamePlace p (ideal.place_at o r)
  end_place r p of_r way at =
      as_place p (ideal.place_at o r) (ideal.place_in true (o r)) (place_of_found (at_path h t (below output r))) (at.place_is ∙ seen_place h t (below output r) at.seen (text r of_r) at.sight_is) (ap (λ w. ideal.place_in w (o r)) way)
      (found_place t (at_path h t (below output r)) (o r) (shows.shown r of_r way))

  barred_place : (r : List ℕ) (p : Place) → has_way o r ≡ false → p ≡ place.Barred → SamePlace p (ideal.place_at o r)
  barred_place r p bars is = both_barred is (ap (λ w. ideal.place_in w (o r)) bars ∙ ap (ideal.place_in false) (none_barred r bars))

  -- a folder on the way is missing
  missing_way : (r q : List ℕ) → is_on_way q r ≡ true → has_way o q ≡ true → o q ≡ None → (has_way o r ≡ true) × (o r ≡ None)
  missing_way r q on way none = (passes_by r o (λ p e. by p (two_on_way p q r e on) (o p) refl), behind r on (o r) refl)
    where
      behind : (p : List ℕ) → is_on_way q p ≡ true → (x : Option Thing) → o p ≡ x → o p ≡ None
      behind p e None is = is
      behind p e (Some thing) is = no_thing (o q) none (shows.folders p q thing is e)

      by : (p : List ℕ) → (is_on_way p q ≡ true) ⊎ ((p ≡ q) ⊎ (is_on_way q p ≡ true)) → (x : Option Thing) → o p ≡ x → is_passed (o p) ≡ true
      by p (inl e) x is = passes_at q o p way e
      by p (inr (inl e)) x is = ap (λ n. is_passed (o n)) e ∙ ap is_passed none
      by p (inr (inr e)) x is = ap is_passed (behind p e x is)

  free_place : (r : List ℕ) (p : Place) → has_way o r ≡ true → o r ≡ None → p ≡ place.Free → SamePlace p (ideal.place_at o r)
  free_place r p way none is = both_free is (ap (λ w. ideal.place_in w (o r)) way ∙ ap (ideal.place_in true) none)

  stop_place : (r : List ℕ) (p : Place) (at size : ℕ) (why : Bool) (seen : Result (Option Found) (Unit {0})) → spoken r ≡ true → length output + 1 ≤ at → IsSlash (drop at (below output r)) (Some size) → Sight h t (take (at + size) (below output r)) seen → stop_seen seen ≡ Some why
      → FoldersTo h t (below output r) (length output + 1) (at + size) → Lands h t (below output r) (Some why) p → SamePlace p (ideal.place_at o r)
  stop_place r p at size why seen of_r least slash sees end folders lands = by why refl
    where
      w : WayFolder output r (take (at + size) (below output r))
      w = way_folder output r (below output r) refl at size least slash

      on : is_on_way w.folder r ≡ true
      on = subst (λ x. is_on_way w.folder x ≡ true) (sym w.cut) (on_way_of w.folder w.behind)

      of_q : spoken w.folder ≡ true
      of_q = closed r w.folder of_r on

      here : stop_of (at_path h t (below output w.folder)) ≡ Some why
      here = subst (λ x. stop_of (at_path h t x) ≡ Some why) w.is (sym (seen_there h t (take (at + size) (below output r)) seen (subst IsUtf8 (sym w.is) (text w.folder of_q)) sees) ∙ end)

      size_is : length (below output w.folder) ≡ at + size
      size_is = ap length (sym w.is) ∙ length-take (at + size) (below output r) ∙ omega (arith, slash.0, length-drop at (below output r))

      way_q : has_way o w.folder ≡ true
      way_q = open_way r w.folder (at + size) of_q (λ x e. (way_behind x w.folder r e on, subst (λ n. length (below output x) < n) size_is (cut output x w.folder e).inside)) folders

      blocks : has_way o r ≡ true → stop_of (at_path h t (below output w.folder)) ≡ Some true → ⊥
      blocks way e = true_false (is_passed (o w.folder)) (passes_at r o w.folder way on) (blocked_bars t (at_path h t (below output w.folder)) (o w.folder) e (shows.shown w.folder of_q way_q))

      not_open : stop_of (at_path h t (below output w.folder)) ≡ Some true → (has_way o r ≡ true) ⊎ (has_way o r ≡ false) → has_way o r ≡ false
      not_open e (inl way) = absurd (blocks way e)
      not_open e (inr bars) = bars

      by : (b : Bool) → why ≡ b → SamePlace p (ideal.place_at o r)
      by true e = barred_place r p (not_open (here ∙ ap (λ x. Some x) e) (yes_or_no (has_way o r))) (subst (λ x. Lands h t (below output r) (Some x) p) e lands)
      by false e =
          let none : o w.folder ≡ None = missing_none t (at_path h t (below output w.folder)) (o w.folder) (here ∙ ap (λ x. Some x) e) (shows.shown w.folder of_q way_q) in
          let both = missing_way r w.folder on way_q none in
          free_place r p both.0 both.1 (subst (λ x. Lands h t (below output r) (Some x) p) e lands)

  pub same_seen : (r : List ℕ) (p : Place) → spoken r ≡ true → Stands h t (below output r) (length output + 1) p → SamePlace p (ideal.place_at o r)
  same_seen r p of_r stand = by (ends_by h t (below output r) stand.stop (length output + 1) stand.goes)
    where
      by : Ends h t (below output r) stand.stop (length output + 1) → SamePlace p (ideal.place_at o r)
      by (at_end is folders) =
          end_place r p of_r (open_way r r (length (below output r)) of_r (λ x e. (e, (cut output x r e).inside)) folders) (subst (λ x. Lands h t (below output r) x p) is stand.lands)
      by (at_slash at size why seen least slash is sees end folders) = stop_place r p at size why seen of_r least slash sees end folders (subst (λ x. Lands h t (below output r) x p) is stand.lands)
