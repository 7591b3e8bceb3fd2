-- A second run over what a first one wrote leaves all as it is.
use Rattle.std.proofs.Common.{◌≡◌, ◌∙◌, sym, subst, ℕ, List, [], ◌∷◌, ◌++◌, Bool, true, false}
use Rattle.dcm_devices.specs.Writing.{Writer}
use Rattle.dcm_cli.specs.Calls.{Reader}
use Rattle.dcm_trees.specs.declared.progress.Shared.{Shared}
use Rattle.dcm_trees.specs.Share.{is_of}
use Rattle.dcm_tree_laws.specs.Again.{WasLeft, WasMade, HasThere, OfAll}
use Rattle.dcm_tree_laws.specs.FileSystem.{Tree, Host}
use Rattle.dcm_tree_laws.specs.OneRow.{RowsOf, no_visit, of_another, and_row}
use Rattle.dcm_tree_laws.specs.Rows.{Visit}
use Rattle.dcm_tree_laws.specs.Twice.{OfRows, FileIs, WasWritten, IsLeftThere, SecondIsStill}
use Rattle.dcm_tree_laws.proofs.StillBy.{before_all, last_of_all}

pub one_more : (Is : Visit → Type 0) (earlier : List Visit) (v : Visit) → OfAll Is earlier → Is v → OfAll Is (earlier ++ v ∷ [])
one_more Is [] v all last = (last, tt)
one_more Is (x ∷ earlier) v all last = (all.0, one_more Is earlier v all.1 last)

pub of_other_share : {A : Type 0} (b : Bool) → b ≡ false → b ≡ true → A
of_other_share b e f = absurd (cc)

-- what a first run wrote is there
all_there : {I O : Type 0} (h : Host I O) (output : List ℕ) (now : Tree) (shared : Shared) (visits : List Visit) (text : List ℕ) (rows : RowsOf (WasMade h output now) shared visits text) → OfRows (FileIs WasWritten) rows → OfAll (HasThere h output now shared) visits
all_there h output now shared visits text (no_visit v t) wrote = subst (OfAll (HasThere h output now shared)) (sym v) tt
all_there h output now shared visits text (of_another earlier v rows none more) wrote =
    subst (OfAll (HasThere h output now shared)) (sym more)
    (one_more (HasThere h output now shared) earlier v (all_there h output now shared earlier text rows wrote) (λ mode is share index. of_other_share (is_of shared.part.number shared.part.count v.named.relative) none share))
all_there h output now shared visits text (and_row earlier rest v done rows share so more is) wrote =
    subst (OfAll (HasThere h output now shared)) (sym more)
    (one_more (HasThere h output now shared) earlier v (all_there h output now shared earlier rest rows wrote.1) (λ mode file of_share index. so (wrote.0 mode file index)))

-- for another run of the same share
by_share : {I O : Type 0} (h : Host I O) (output : List ℕ) (now : Tree) (a b : Shared) → b.part ≡ a.part → (visits : List Visit) → OfAll (HasThere h output now a) visits → OfAll (HasThere h output now b) visits
by_share h output now a b same [] all = tt
by_share h output now a b same (v ∷ visits) all =
    (λ mode file share index. all.0 mode file (subst (λ (p : _). is_of p.number p.count v.named.relative ≡ true) same share) index, by_share h output now a b same visits all.1)

-- and it was left by it
all_left : {I O : Type 0} (h : Host I O) (output : List ℕ) (start : Tree) (shared : Shared) (visits : List Visit) (text : List ℕ) (rows : RowsOf (WasLeft h output start) shared visits text) → OfAll (HasThere h output start shared) visits → OfRows (FileIs IsLeftThere) rows
all_left h output start shared visits text (no_visit v t) all = tt
all_left h output start shared visits text (of_another earlier v rows none more) all =
    all_left h output start shared earlier text rows (before_all (HasThere h output start shared) earlier v (subst (OfAll (HasThere h output start shared)) more all))
all_left h output start shared visits text (and_row earlier rest v done rows share so more is) all =
    let each : OfAll (HasThere h output start shared) (earlier ++ v ∷ []) = subst (OfAll (HasThere h output start shared)) more all in (
      λ mode file index. so mode file index (last_of_all (HasThere h output start shared) earlier v each mode file share index),
      all_left h output start shared earlier rest rows (before_all (HasThere h output start shared) earlier v each),
    )

pub second_is_still : {I O F W E : Type 0} (r : Reader I) (w : Writer O) (m : Writer W) (e : Writer E) → SecondIsStill F r w m e
second_is_still r w m e h first second path begun again opened reopened headed reheaded from refrom before mid after status restatus left releft to reto outputs shares v x wrote y names =
    let there : OfAll (HasThere h second.output.now mid.now y.v.start.shared) y.has.visits =
    subst (OfAll (HasThere h second.output.now mid.now y.v.start.shared)) (sym names)
    (by_share h second.output.now mid.now v.start.shared y.v.start.shared (y.v.begins.shares.part_is ∙ shares ∙ sym v.begins.shares.part_is) x.visits
    (subst (λ (o : List ℕ). OfAll (HasThere h o mid.now v.start.shared) x.visits) (sym outputs) (all_there h first.output.now mid.now v.start.shared x.visits x.text x.rows wrote))) in
    (y.has.still there, all_left h second.output.now mid.now y.v.start.shared y.has.visits y.has.text y.has.rows there)
