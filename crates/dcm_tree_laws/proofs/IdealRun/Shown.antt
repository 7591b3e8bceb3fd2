-- What is in the folder of the outputs is that of the ideal run, behind a name that writes nothing, and behind one that does.
use Rattle.std.proofs.Common.{◌≡◌, inl, inr, ◌⊎◌, ◌≢◌, ◌∙◌, refl, sym, ap, subst, ℕ, zero, suc, List, length, Bool, true, false, if◌then◌else◌, Option, Some, None}
use Rattle.std.specs.Prelude.{nat_le}
use Rattle.dcm_lemmas.proofs.Options.{one_value}
use Rattle.dcm_lemmas.proofs.Truth.{true_false}
use Rattle.dcm_files.specs.declared.folders.Found.{Found}
use Rattle.dcm_files.specs.declared.folders.FoundKind.TheVariants as kinds
use Rattle.dcm_walk.specs.Names.{PATH_LIMIT, below}
use Rattle.dcm_walk.specs.Visits.{Named}
use Rattle.dcm_walk.specs.declared.visitor.What.{What}
use Rattle.dcm_walk.specs.declared.visitor.What.TheVariants as whats
use Rattle.dcm_walk.specs.declared.visitor.What.TheVariants.{File}
use Rattle.dcm_trees.specs.declared.fate.Fate.{Fate}
use Rattle.dcm_trees.specs.declared.file.Done.{Done}
use Rattle.dcm_trees.specs.Fate.{fate_of as what_fate, has_output, is_written, word}
use Rattle.dcm_trees.specs.Lines.{done_fate, there_fate}
use Rattle.dcm_trees.specs.Work as work
use Rattle.dcm_tree_laws.specs.Again.{IsAt}
use Rattle.dcm_tree_laws.specs.Copies.{IsAsItWas}
use Rattle.dcm_tree_laws.specs.FileSystem.{FileSystem, Tree, Host, number_of, place_of as path_place, at_path}
use Rattle.dcm_tree_laws.specs.Ideal.{Thing, a_file, a_folder, no_file, Outputs, is_on_way, is_passed, has_way, place_at, with_file, Output, Made, nothing, an_output, Comes, without, kept, Became, ended, met, wrote, become_kept, become, put, fate_of, output_of}
use Rattle.dcm_tree_laws.specs.Ideal as ideal
use Rattle.dcm_tree_laws.specs.IdealLaws.{Keeps}
use Rattle.dcm_tree_laws.specs.Ran.{ShowsThing, Shows, TellsApart}
use Rattle.dcm_tree_laws.specs.Together.{IsFree}
use Rattle.dcm_tree_laws.proofs.Frees.{IsUntouched}
use Rattle.dcm_tree_laws.proofs.Alike.{Changes}
use Rattle.dcm_tree_laws.proofs.IdealRun.Looks.{cut_at, on_way_of, not_on_own}
use Rattle.dcm_tree_laws.proofs.IdealRun.Places.{NewOr, is_new, is_way, is_other, new_or, free_is, passes_at, passes_by, way_behind, way_before, new_on_way, new_keeps}
use Rattle.dcm_tree_laws.proofs.Touched.{Touched, as_it_was, at_part, at_output, at_folder, IsOnWay, Touches}

-- ---- a row

-- its cells, where it has an output or not
its_row : (n : Named) (done : Done) (fate : Fate) (out : Option (List ℕ)) → done.fate ≡ fate → (if has_output fate then Some (work.name_in n.relative done.instance) else None) ≡ out → work.row n.name (work.output_of n done) (word done.fate) ≡ work.row n.name out (word fate)
its_row n done fate out is cell = ap (λ f. work.row n.name (if has_output f then Some (work.name_in n.relative done.instance) else None) (word f)) is ∙ ap (λ o. work.row n.name o (word fate)) cell

no_cell : (name : List ℕ) (fate : Fate) → has_output fate ≡ false → (if has_output fate then Some name else None) ≡ None
no_cell name fate none = ap (λ t. if t then Some name else None) none

a_cell : (name relative : List ℕ) (fate : Fate) → has_output fate ≡ true → name ≡ relative → (if has_output fate then Some name else None) ≡ Some relative
a_cell name relative fate has is = ap (λ t. if t then Some name else None) has ∙ ap (λ n. Some n) is

pub what_cell : (what : What) → has_output (what_fate what) ≡ false
what_cell whats.Unfit = refl
what_cell whats.NoText = refl
what_cell whats.PartFile = refl
what_cell whats.OfOutput = refl
what_cell whats.Unseen = refl
what_cell whats.TooDeep = refl
what_cell whats.Unlisted = refl
what_cell whats.NoFile = refl
what_cell (whats.File mode) = refl

pub there_cell : (t : Bool) → has_output (there_fate t) ≡ true
there_cell true = refl
there_cell false = refl

pub done_cell : (n : ℕ) → has_output (done_fate n) ≡ true
done_cell zero = refl
done_cell (suc n) = refl

pub done_written : (n : ℕ) → is_written (done_fate n) ≡ true
done_written zero = refl
done_written (suc n) = refl

-- ---- what is shown stays

pub thing_kept : (t u : Tree) (found : Option Found) (thing : Option Thing) → ((f : Found) → found ≡ Some f → u.bytes (number_of f) ≡ t.bytes (number_of f)) → ShowsThing t found thing → ShowsThing u found thing
thing_kept t u None None keeps shows = tt
thing_kept t u None (Some thing) keeps shows = absurd shows
thing_kept t u (Some f) None keeps shows = absurd shows
thing_kept t u (Some f) (Some (a_file mode bytes)) keeps shows = (shows.0, shows.1, keeps f refl ∙ shows.2)
thing_kept t u (Some f) (Some a_folder) keeps shows = shows
thing_kept t u (Some f) (Some no_file) keeps shows = shows

pub none_shown : (t : Tree) (found : Option Found) (thing : Option Thing) → thing ≡ None → ShowsThing t found thing → found ≡ None
none_shown t None thing e shows = refl
none_shown t (Some f) None e shows = absurd shows
none_shown t (Some f) (Some thing) e shows = absurd (cc)

pub passed_shown : (t : Tree) (found : Option Found) (thing : Option Thing) (f : Found) → found ≡ Some f → is_passed thing ≡ true → ShowsThing t found thing → f.kind ≡ kinds.Folder
passed_shown t None thing f is e shows = absurd (cc)
passed_shown t (Some g) None f is e shows = absurd shows
passed_shown t (Some g) (Some (a_file mode bytes)) f is e shows = absurd (cc)
passed_shown t (Some g) (Some a_folder) f is e shows = ap (λ (x : Found). x.kind) (one_value (Some g) f g is refl) ∙ shows
passed_shown t (Some g) (Some no_file) f is e shows = absurd (cc)

pub shows_as : {I O : Type 0} (h : Host I O) (output : List ℕ) (spoken : List ℕ → Bool) (t u : Tree) (o : Outputs) → IsAsItWas t u → Shows h output spoken t o → Shows h output spoken u o
shows_as h output spoken t u o same shows = record {
  folders = shows.folders;
  shown = λ p of_p way.
      subst (λ x. ShowsThing u x (o p)) (sym (same.names (path_place h (below output p))))
      (thing_kept t u (at_path h t (below output p)) (o p) (λ f is. same.bytes (path_place h (below output p)) f is) (shows.shown p of_p way));
}

pub shows_same : {I O : Type 0} (h : Host I O) (output : List ℕ) (spoken : List ℕ → Bool) (s after : FileSystem) (o : Outputs) → after ≡ s → Shows h output spoken s.now o → Shows h output spoken after.now o
shows_same h output spoken s after o same shows = subst (λ (x : FileSystem). Shows h output spoken x.now o) (sym same) shows

-- ---- one step

-- the row is that of the ideal run, and so is what is in the folder of the outputs
pub record StepsTo {I O : Type 0} (h : Host I O) (output : List ℕ) (spoken : List ℕ → Bool) (o : Outputs) (n : Named) (done : Done) (after : Tree) (b : Became) : Type 0 where
  pub row : work.row n.name (work.output_of n done) (word done.fate) ≡ work.row n.name (output_of b) (word (fate_of b))
  pub shows : Shows h output spoken after (put b o)

pub ended_steps : {I O : Type 0} (h : Host I O) (output : List ℕ) (spoken : List ℕ → Bool) (o : Outputs) (n : Named) (done : Done) (after : Tree) (why : Fate) → done.fate ≡ why → has_output why ≡ false → Shows h output spoken after o → StepsTo h output spoken o n done after (ended why)
ended_steps h output spoken o n done after why is none shows = record { row = its_row n done why None is (no_cell (work.name_in n.relative done.instance) why none); shows = shows }

pub met_steps : {I O : Type 0} (h : Host I O) (output : List ℕ) (spoken : List ℕ → Bool) (o : Outputs) (n : Named) (done : Done) (after : Tree) (relative : List ℕ) (fate : Fate) → done.fate ≡ fate → work.name_in n.relative done.instance ≡ relative → has_output fate ≡ true → Shows h output spoken after o → StepsTo h output spoken o n done after (met relative fate)
met_steps h output spoken o n done after relative fate is name has shows = record { row = its_row n done fate (Some relative) is (a_cell (work.name_in n.relative done.instance) relative fate has name); shows = shows }

pub wrote_steps : {I O : Type 0} (h : Host I O) (output : List ℕ) (spoken : List ℕ → Bool) (o : Outputs) (n : Named) (done : Done) (after : Tree) (relative : List ℕ) (out : Output) → done.fate ≡ done_fate out.unplaced → work.name_in n.relative done.instance ≡ relative → Shows h output spoken after (with_file relative (a_file out.mode out.bytes) o) → StepsTo h output spoken o n done after (wrote relative out)
wrote_steps h output spoken o n done after relative out is name shows = record { row = its_row n done (done_fate out.unplaced) (Some relative) is (a_cell (work.name_in n.relative done.instance) relative (done_fate out.unplaced) (done_cell out.unplaced) name); shows = shows }

-- ---- a change at the part

pub shows_change : {I O : Type 0} (h : Host I O) (output part : List ℕ) (spoken : List ℕ → Bool) (first o : Outputs) → TellsApart h output part spoken first → Keeps first o → (what : Option Found) (t u : Tree) → Changes (path_place h part) what t u → Shows h output spoken t o → Shows h output spoken u o
shows_change h output part spoken first o apart since what t u change shows = record {
  folders = shows.folders;
  shown = λ p of_p way. by p of_p way (change.elsewhere (path_place h (below output p)));
}
  where
    by : (p : List ℕ) → spoken p ≡ true → has_way o p ≡ true → (path_place h (below output p) ≡ path_place h part) ⊎ (at_path h u (below output p) ≡ at_path h t (below output p)) → ShowsThing u (at_path h u (below output p)) (o p)
    by p of_p way (inl same) = absurd (apart.no_part p of_p (way_before p first o since way) same)
    by p of_p way (inr same) =
        subst (λ x. ShowsThing u x (o p)) (sym same) (thing_kept t u (at_path h t (below output p)) (o p) (λ f is. change.bytes (path_place h (below output p)) f is) (shows.shown p of_p way))

-- ---- a place that is free

module _ {I O : Type 0} (h : Host I O) (output part : List ℕ) (spoken : List ℕ → Bool) (first o : Outputs) (apart : TellsApart h output part spoken first) (since : Keeps first o) (t : Tree) (shows : Shows h output spoken t o) (relative : List ℕ) (of_it : spoken relative ≡ true) where
  -- a name that is reached now was so at the start
  reached : (p : List ℕ) → has_way o p ≡ true → has_way first p ≡ true
  reached p way = way_before p first o since way

  way_to : (p q : List ℕ) → has_way o q ≡ true → is_on_way p q ≡ true → has_way o p ≡ true
  way_to p q way on = passes_by p o (λ x f. passes_at q o x way (way_behind x p q f on))

  other_place : (p q : List ℕ) → spoken p ≡ true → spoken q ≡ true → has_way o p ≡ true → has_way o q ≡ true → p ≢ q → path_place h (below output p) ≢ path_place h (below output q)
  other_place p q of_p of_q way_p way_q differ = apart.apart p q of_p of_q (reached p way_p) (reached q way_q) differ

  on_cut : (folder behind : List ℕ) → relative ≡ below folder behind → is_on_way folder relative ≡ true
  on_cut folder behind cut = subst (λ x. is_on_way folder x ≡ true) (sym cut) (on_way_of folder behind)

  pub free_now : nat_le (length (below output relative)) PATH_LIMIT ≡ true → has_way o relative ≡ true → o relative ≡ None → IsFree h output relative t
  free_now fits way none = record {
    fits = fits;
    text = apart.text relative of_it;
    nothing = none_shown t (at_path h t (below output relative)) (o relative) none (shows.shown relative of_it way);
    way = λ folder behind cut.
        let on : is_on_way folder relative ≡ true = on_cut folder behind cut in
        let of_f : spoken folder ≡ true = apart.way relative folder of_it on in
        record {
          text = apart.text folder of_f;
          folder_is = λ f is. passed_shown t (at_path h t (below output folder)) (o folder) f is (passes_at relative o folder way on) (shows.shown folder of_f (way_to folder relative way on));
        };
  }

  not_new : (q : List ℕ) → is_on_way q relative ≡ true → q ≢ relative
  not_new q on same = true_false (is_on_way q relative) on (ap (λ y. is_on_way y relative) same ∙ not_on_own relative)

  pub clear : has_way o relative ≡ true → IsUntouched h part output relative relative ⊥
  clear way = record {
    no_part = apart.no_part relative of_it (reached relative way);
    no_output = λ none. absurd none;
    on_no_way = λ (x : IsOnWay h output relative (path_place h (below output relative))).
        let on : is_on_way x.folder relative ≡ true = on_cut x.folder x.behind x.cut in
        other_place relative x.folder of_it (apart.way relative x.folder of_it on) way (way_to x.folder relative way on) (λ same. not_new x.folder on (sym same)) x.is;
    way_no_part = λ folder behind cut.
        let on : is_on_way folder relative ≡ true = on_cut folder behind cut in
        apart.no_part folder (apart.way relative folder of_it on) (reached folder (way_to folder relative way on));
    way_no_output = λ folder behind cut none. absurd none;
  }

  -- an output was written there, and nothing else is touched but folders on its way
  module _ (mode : ℕ) (held : List ℕ) (at : place_at o relative ≡ ideal.free) (u : Tree) (made : Found) (made_is : at_path h u (below output relative) ≡ Some made) (made_kind : made.kind ≡ kinds.File) (made_mode : made.mode ≡ mode) (made_bytes : u.bytes (number_of made) ≡ held)
      (folders : (folder behind : List ℕ) → relative ≡ below folder behind → IsAt h kinds.Folder u (below output folder)) (Named : Type 0) (touched : Touches h part output relative Named t u) (kept : (place : List ℕ) (f : Found) → place ≢ path_place h part → t.at place ≡ Some f → u.bytes (number_of f) ≡ t.bytes (number_of f)) where
    abbrev file : Thing
    file = a_file mode held

    way_n : has_way o relative ≡ true
    way_n = (free_is (has_way o relative) (o relative) at).0

    new_folder : (q : List ℕ) → is_on_way q relative ≡ true → with_file relative file o q ≡ Some a_folder
    new_folder q on = new_on_way relative file o q (not_new q on) on

    keeps_new : Keeps o (with_file relative file o)
    keeps_new = new_keeps relative file o at

    folders_by : (p q : List ℕ) (thing : Thing) → with_file relative file o p ≡ Some thing → is_on_way q p ≡ true → NewOr relative file o p → with_file relative file o q ≡ Some a_folder
    folders_by p q thing is on (is_new same new) = new_folder q (subst (λ x. is_on_way q x ≡ true) same on)
    folders_by p q thing is on (is_way differ way new) = new_folder q (way_behind q p relative on way)
    folders_by p q thing is on (is_other differ off new) = keeps_new q a_folder (shows.folders p q thing (sym new ∙ is) on)

    -- a place that is neither
    other_shown : (p : List ℕ) → spoken p ≡ true → has_way o p ≡ true → p ≢ relative → is_on_way p relative ≡ false → Touched h part output relative Named t u (path_place h (below output p)) → ShowsThing u (at_path h u (below output p)) (o p)
    other_shown p of_p way differ off (as_it_was same) =
        subst (λ x. ShowsThing u x (o p)) (sym same)
        (thing_kept t u (at_path h t (below output p)) (o p) (λ f is. kept (path_place h (below output p)) f (apart.no_part p of_p (reached p way)) is) (shows.shown p of_p way))
    other_shown p of_p way differ off (at_part same) = absurd (apart.no_part p of_p (reached p way) same)
    other_shown p of_p way differ off (at_output its same) = absurd (other_place p relative of_p of_it way way_n differ same)
    other_shown p of_p way differ off (at_folder f x is kind) =
        let on : is_on_way x.folder relative ≡ true = on_cut x.folder x.behind x.cut in
        absurd (other_place p x.folder of_p (apart.way relative x.folder of_it on) way (way_to x.folder relative way_n on) (λ same. true_false (is_on_way p relative) (ap (λ y. is_on_way y relative) same ∙ on) off) x.is)

    shown_by : (p : List ℕ) → spoken p ≡ true → has_way o p ≡ true → NewOr relative file o p → ShowsThing u (at_path h u (below output p)) (with_file relative file o p)
    shown_by p of_p way (is_new same new) =
        subst (λ x. ShowsThing u (at_path h u (below output p)) x) (sym new)
        (subst (λ x. ShowsThing u x (Some file)) (sym (ap (λ y. at_path h u (below output y)) same ∙ made_is)) (made_kind, made_mode, made_bytes))
    shown_by p of_p way (is_way differ on new) =
        let it = cut_at p relative on in
        let folder = folders p it.0 it.1 in
        subst (λ x. ShowsThing u (at_path h u (below output p)) x) (sym new) (subst (λ x. ShowsThing u x (Some a_folder)) (sym folder.is) folder.kind_is)
    shown_by p of_p way (is_other differ off new) =
        subst (λ x. ShowsThing u (at_path h u (below output p)) x) (sym new) (other_shown p of_p way differ off (touched (path_place h (below output p))))

    pub shows_new : Shows h output spoken u (with_file relative (a_file mode held) o)
    shows_new = record {
      folders = λ p q thing is on. folders_by p q thing is on (new_or relative file o p);
      shown = λ p of_p way. shown_by p of_p (way_before p o (with_file relative file o) keeps_new way) (new_or relative file o p);
    }
