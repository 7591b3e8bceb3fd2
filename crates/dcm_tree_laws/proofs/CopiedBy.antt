-- A second run over what a first one left leaves all as it was, and has its rows again.
use Rattle.std.proofs.Common.{◌≡◌, ◌∙◌, refl, sym, ap, subst, ℕ, List, [], ◌∷◌, ◌++◌, Bool, true, false, Option}
use Rattle.dcm_lemmas.proofs.Lists.{cons_alike}
use Rattle.dcm_devices.specs.Writing.{Writer}
use Rattle.dcm_cli.specs.Calls.{Reader}
use Rattle.dcm_sinks.proofs.DecodedDumps.PlainTexts.{both_lines}
use Rattle.dcm_trees.specs.declared.file.Done.{Done}
use Rattle.dcm_trees.specs.declared.progress.Shared.{Shared}
use Rattle.dcm_trees.specs.Fate.{word}
use Rattle.dcm_trees.specs.Share.{is_of}
use Rattle.dcm_trees.specs.Task.{Task, task_of}
use Rattle.dcm_trees.specs.Work.{row, output_of}
use Rattle.dcm_tree_laws.specs.Again.{OfAll}
use Rattle.dcm_tree_laws.specs.Copied.{FileWasThere, FileIsSettledAs, WasCopied, rows_again, SecondIsAsItWas, SecondIsAsItWasOfList}
use Rattle.dcm_tree_laws.specs.Copies.{again, SameRow, WasDoneAgain, StandsThere}
use Rattle.dcm_tree_laws.specs.FileSystem.{Tree, Host}
use Rattle.dcm_tree_laws.specs.Laws.{part_path}
use Rattle.dcm_tree_laws.specs.OneRow.{RowsOf, no_visit, of_another, and_row}
use Rattle.dcm_tree_laws.specs.Rows.{Visit}
use Rattle.dcm_tree_laws.specs.Twice.{OfRows}
use Rattle.dcm_tree_laws.proofs.StillBy.{before_all, last_of_all}
use Rattle.dcm_tree_laws.proofs.TwiceBy.{one_more, of_other_share}

-- ---- what stands

-- what each row of a first run says
all_stand : {I O : Type 0} (h : Host I O) (task : Task) (own output : List ℕ) (start now : Tree) (shared : Shared) (visits : List Visit) (text : List ℕ) (rows : RowsOf (WasCopied h task own output start now) shared visits text) → OfRows (FileIsSettledAs h own output) rows → OfAll (FileWasThere h start) visits
    → OfAll (StandsThere h task output now shared) visits
all_stand h task own output start now shared visits text (no_visit v t) settled files = subst (OfAll (StandsThere h task output now shared)) (sym v) tt
all_stand h task own output start now shared visits text (of_another earlier v rows none more) settled files =
    let each : OfAll (FileWasThere h start) (earlier ++ v ∷ []) = subst (OfAll (FileWasThere h start)) more files in
    subst (OfAll (StandsThere h task output now shared)) (sym more)
    (one_more (StandsThere h task output now shared) earlier v (all_stand h task own output start now shared earlier text rows settled (before_all (FileWasThere h start) earlier v each))
    (λ share. of_other_share (is_of shared.part.number shared.part.count v.named.relative) none share))
all_stand h task own output start now shared visits text (and_row earlier rest v done rows share so more is) settled files =
    let each : OfAll (FileWasThere h start) (earlier ++ v ∷ []) = subst (OfAll (FileWasThere h start)) more files in
    subst (OfAll (StandsThere h task output now shared)) (sym more)
    (one_more (StandsThere h task output now shared) earlier v (all_stand h task own output start now shared earlier rest rows settled.1 (before_all (FileWasThere h start) earlier v each))
    (λ of_share. (done, so (last_of_all (FileWasThere h start) earlier v each) settled.0)))

-- for another run of the same share
pub of_share : (a b : Shared) (v : Visit) (its : Bool) → b.part ≡ a.part → is_of b.part.number b.part.count v.named.relative ≡ its → is_of a.part.number a.part.count v.named.relative ≡ its
of_share a b v its same is = subst (λ (p : _). is_of p.number p.count v.named.relative ≡ its) same is

by_share : {I O : Type 0} (h : Host I O) (task : Task) (output : List ℕ) (now : Tree) (a b : Shared) → b.part ≡ a.part → (visits : List Visit) → OfAll (StandsThere h task output now a) visits → OfAll (StandsThere h task output now b) visits
by_share h task output now a b same [] all = tt
by_share h task output now a b same (v ∷ visits) all = (λ share. all.0 (of_share a b v true same share), by_share h task output now a b same visits all.1)

-- ---- both rows

cons_same : {A : Type 0} (a b : A) (s t : List A) → a ∷ s ≡ b ∷ t → (a ≡ b) × (s ≡ t)
cons_same a b s t e = (cc, cc)

nil_cons : {A : Type 0} (a : A) (s : List A) → [] ≡ a ∷ s → ⊥
nil_cons a s e = absurd (cc)

nil_last : {A : Type 0} (xs : List A) (x : A) → [] ≡ xs ++ x ∷ [] → ⊥
nil_last [] x e = nil_cons x [] e
nil_last (a ∷ xs) x e = nil_cons a (xs ++ x ∷ []) e

pub last_same : {A : Type 0} (xs ys : List A) (x y : A) → xs ++ x ∷ [] ≡ ys ++ y ∷ [] → (xs ≡ ys) × (x ≡ y)
last_same [] [] x y e = (refl, (cons_same x y [] [] e).0)
last_same [] (b ∷ ys) x y e = absurd (nil_last ys y (cons_same x b [] (ys ++ y ∷ []) e).1)
last_same (a ∷ xs) [] x y e = absurd (nil_last xs x (sym (cons_same a y (xs ++ x ∷ []) [] e).1))
last_same (a ∷ xs) (b ∷ ys) x y e =
    let one = cons_same a b (xs ++ x ∷ []) (ys ++ y ∷ []) e in
    let more = last_same xs ys x y one.1 in
    (cons_alike a b xs ys one.0 more.0, more.1)

pub no_last : {A : Type 0} (visits earlier : List Visit) (v : Visit) → visits ≡ [] → visits ≡ earlier ++ v ∷ [] → A
no_last visits earlier v none more = absurd (nil_last earlier v (sym none ∙ more))

pub row_as : (v : Visit) (done other : Done) → SameRow v.named done other → row v.named.name (output_of v.named done) (word done.fate) ≡ row v.named.name (output_of v.named other) (word other.fate)
row_as v done other same = ap (λ (cell : Option (List ℕ)). row v.named.name cell (word done.fate)) same.output_is ∙ ap (row v.named.name (output_of v.named other)) same.word_is

module _ {I O : Type 0} (h : Host I O) (task : Task) (own output : List ℕ) (start now : Tree) (a b : Shared) (same : b.part ≡ a.part) where
  rows_same : (visits others : List Visit) (text other : List ℕ) (x : RowsOf (WasCopied h task own output start now) a visits text) → RowsOf (WasDoneAgain h task output now) b others other → others ≡ visits → OfRows (FileIsSettledAs h own output) x → OfAll (FileWasThere h start) visits → other ≡ rows_again x
  rows_same visits others text other (no_visit v t) (no_visit w u) names settled files = u
  rows_same visits others text other (no_visit v t) (of_another earlier w rows none more) names settled files = no_last others earlier w (names ∙ v) more
  rows_same visits others text other (no_visit v t) (and_row earlier rest w done rows share so more is) names settled files = no_last others earlier w (names ∙ v) more
  rows_same visits others text other (of_another earlier v rows none more) (no_visit w u) names settled files = no_last visits earlier v (sym names ∙ w) more
  rows_same visits others text other (and_row earlier rest v done rows share so more is) (no_visit w u) names settled files = no_last visits earlier v (sym names ∙ w) more
  rows_same visits others text other (of_another earlier v rows none more) (of_another before w rows_there none_there more_there) names settled files =
      let one : (before ≡ earlier) × (w ≡ v) = last_same before earlier w v (sym more_there ∙ names ∙ more) in
      rows_same earlier before text other rows rows_there one.0 settled (before_all (FileWasThere h start) earlier v (subst (OfAll (FileWasThere h start)) more files))
  rows_same visits others text other (of_another earlier v rows none more) (and_row before rest w done rows_there share so more_there is) names settled files =
      let one : (before ≡ earlier) × (w ≡ v) = last_same before earlier w v (sym more_there ∙ names ∙ more) in
      of_other_share (is_of a.part.number a.part.count v.named.relative) none (of_share a b v true same (subst (λ (x : Visit). is_of b.part.number b.part.count x.named.relative ≡ true) one.1 share))
  rows_same visits others text other (and_row earlier rest v done rows share so more is) (of_another before w rows_there none more_there) names settled files =
      let one : (before ≡ earlier) × (w ≡ v) = last_same before earlier w v (sym more_there ∙ names ∙ more) in
      of_other_share (is_of a.part.number a.part.count v.named.relative) (of_share a b v false same (subst (λ (x : Visit). is_of b.part.number b.part.count x.named.relative ≡ false) one.1 none)) share
  rows_same visits others text other (and_row earlier rest v done rows share so more is) (and_row before rest_there w done_there rows_there share_there so_there more_there is_there) names settled files =
      let one : (before ≡ earlier) × (w ≡ v) = last_same before earlier w v (sym more_there ∙ names ∙ more) in
      let each : OfAll (FileWasThere h start) (earlier ++ v ∷ []) = subst (OfAll (FileWasThere h start)) more files in
      let its : WasDoneAgain h task output now v done_there = subst (λ (x : Visit). WasDoneAgain h task output now x done_there) one.1 so_there in
      is_there
      ∙ ap (λ (x : Visit). rest_there ++ row x.named.name (output_of x.named done_there) (word done_there.fate)) one.1
      ∙ both_lines rest_there (rows_again rows) (row v.named.name (output_of v.named done_there) (word done_there.fate)) (row v.named.name (output_of v.named (again done)) (word (again done).fate))
      (rows_same earlier before rest rest_there rows rows_there one.0 settled.1 (before_all (FileWasThere h start) earlier v each))
      (row_as v done_there (again done) (its done (so (last_of_all (FileWasThere h start) earlier v each) settled.0)))

-- ---- a second run

-- over a folder or a list
module _ {I O : Type 0} (h : Host I O) (task again_task : Task) (own output again_output : List ℕ) (start mid : Tree) (a b : Shared) (tasks : again_task ≡ task) (outputs : again_output ≡ output) (part : b.part ≡ a.part) (visits others : List Visit) (names : others ≡ visits) (text other : List ℕ)
    (x : RowsOf (WasCopied h task own output start mid) a visits text) (settled : OfRows (FileIsSettledAs h own output) x) (files : OfAll (FileWasThere h start) visits) where
  stand_again : OfAll (StandsThere h again_task again_output mid b) others
  stand_again =
      subst (OfAll (StandsThere h again_task again_output mid b)) (sym names)
      (by_share h again_task again_output mid a b part visits
      (subst (λ (t : Task). OfAll (StandsThere h t again_output mid a) visits) (sym tasks)
      (subst (λ (o : List ℕ). OfAll (StandsThere h task o mid a) visits) (sym outputs) (all_stand h task own output start mid a visits text x settled files))))

  same_rows : RowsOf (WasDoneAgain h again_task again_output mid) b others other → other ≡ rows_again x
  same_rows y =
      rows_same h task own output start mid a b part visits others text other x
      (subst (λ (o : List ℕ). RowsOf (WasDoneAgain h task o mid) b others other) outputs (subst (λ (t : Task). RowsOf (WasDoneAgain h t again_output mid) b others other) tasks y)) names settled files

pub second_is_as_it_was : {I O F W E : Type 0} (r : Reader I) (w : Writer O) (m : Writer W) (e : Writer E) → SecondIsAsItWas F r w m e
second_is_as_it_was r w m e h first second path begun rebegun opened reopened headed reheaded from refrom before mid after status restatus left releft to reto tasks outputs shares v x settled files y names =
    let part = y.v.begins.shares.part_is ∙ shares ∙ sym v.begins.shares.part_is in (
      y.has.same (stand_again h (task_of first.task) (task_of second.task) (part_path first) first.output.now second.output.now before.now mid.now v.start.shared y.v.start.shared tasks outputs part x.visits y.has.visits names x.text y.has.text x.rows settled files),
      same_rows h (task_of first.task) (task_of second.task) (part_path first) first.output.now second.output.now before.now mid.now v.start.shared y.v.start.shared tasks outputs part x.visits y.has.visits names x.text y.has.text x.rows settled files y.has.rows,
    )

pub second_by_list : {I O F W E : Type 0} (r : Reader I) (w : Writer O) (m : Writer W) (e : Writer E) → SecondIsAsItWasOfList F r w m e
second_by_list r w m e h first second list begun rebegun input reinput headed reheaded from refrom before mid after status restatus left releft to reto read reread tasks outputs shares v x settled files y names =
    let part = y.v.begins.shares.part_is ∙ shares ∙ sym v.begins.shares.part_is in (
      y.has.same (stand_again h (task_of first.task) (task_of second.task) (part_path first) first.output.now second.output.now before.now mid.now v.start.shared y.v.start.shared tasks outputs part x.visits y.has.visits names x.text y.has.text x.rows settled files),
      same_rows h (task_of first.task) (task_of second.task) (part_path first) first.output.now second.output.now before.now mid.now v.start.shared y.v.start.shared tasks outputs part x.visits y.has.visits names x.text y.has.text x.rows settled files y.has.rows,
    )
