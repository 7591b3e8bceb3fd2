-- What a run that keeps names says of a file is told by its bytes, or its output is there.
use Rattle.std.proofs.Common.{◌≡◌, ◌∙◌, refl, sym, ap, subst, ℕ, ◌+◌, List, length, Bool, true, false, None, Result, Ok, Err, arith}
use Rattle.std.specs.Prelude.{◌≢◌, nat_le}
use Rattle.std.specs.Str.{IsUtf8}
use Rattle.dcm_lemmas.proofs.Choice.{chosen_some}
use Rattle.dcm_lemmas.proofs.Truth.{true_false}
use Rattle.dcm_devices.specs.Writing.{Writer}
use Rattle.dcm_files.specs.declared.folders.FoundKind.TheVariants as kinds
use Rattle.dcm_files.specs.declared.folders.Links.TheVariants.{Followed}
use Rattle.dcm_tree_laws.proofs.VisitedBy.{inner_way}
use Rattle.dcm_walk.specs.Names.{below, PATH_LIMIT}
use Rattle.dcm_walk.specs.Visits.{Named}
use Rattle.dcm_words.specs.Words.{Job}
use Rattle.dcm_cli.specs.Calls.{Reader}
use Rattle.dcm_cli.specs.declared.ending.Ending.{Ending}
use Rattle.dcm_trees.specs.declared.fate.Fate.{Fate}
use Rattle.dcm_trees.specs.declared.fate.Fate.TheVariants as fates
use Rattle.dcm_trees.specs.declared.file.Done.{Done}
use Rattle.dcm_trees.specs.declared.part.Naming.{Naming}
use Rattle.dcm_trees.specs.declared.part.Naming.TheVariants.{Linked, Moved, NotFree, Failed}
use Rattle.dcm_trees.specs.declared.part.NoPart.{NoPart}
use Rattle.dcm_trees.specs.declared.progress.Stop.{Stop as RunStop}
use Rattle.dcm_trees.specs.declared.place.Place.{Place}
use Rattle.dcm_trees.specs.declared.place.Place.TheVariants as spots
use Rattle.dcm_trees.specs.File as files
use Rattle.dcm_trees.specs.File.{DoesReady, DoesFree, DoesPlaced, DoesNamed, DoesFile, is_media_index, under_its_name}
use Rattle.dcm_trees.specs.Lines.{ending_fate, no_days_fate, place_fate}
use Rattle.dcm_trees.specs.Manner.{Manner}
use Rattle.dcm_trees.specs.Part as parts
use Rattle.dcm_trees.specs.Part.{MakesPart, GivesName, NamesOutput, FillsAndNames, TellsNoPart, naming_fate}
use Rattle.dcm_tree_laws.specs.Again.{IsAt, sure}
use Rattle.dcm_tree_laws.specs.Copied.{is_settled}
use Rattle.dcm_tree_laws.specs.Determined.{FileAt, working_may, as_whole, working}
use Rattle.dcm_tree_laws.specs.FileSystem.{FileSystem, Tree, Host, number_of, place_of, at_path, may_do, folders_do}
use Rattle.dcm_tree_laws.specs.Single.{IsJobOf}
use Rattle.dcm_tree_laws.proofs.Near.{IsNear}
use Rattle.dcm_tree_laws.proofs.CopiesBy.{apart_by}
use Rattle.dcm_tree_laws.proofs.CopyMade.{NewPart, new_part}
use Rattle.dcm_tree_laws.proofs.CopyMet.{FileThere, place_there, met_second}
use Rattle.dcm_tree_laws.proofs.Fates.{Works, Fated, by_verdict, no_job_by}
use Rattle.dcm_tree_laws.proofs.Files.{path_is}
use Rattle.dcm_tree_laws.proofs.Held.{GivesAll}
use Rattle.dcm_tree_laws.proofs.Jobs as jobs
use Rattle.dcm_tree_laws.proofs.Left.{sure_quiet}
use Rattle.dcm_tree_laws.proofs.Looking.{finds, same_ok}
use Rattle.dcm_tree_laws.proofs.MadeBy.{MadeAt, made_stays, within_it}
use Rattle.dcm_tree_laws.proofs.MadeWay.{kinds_apart}
use Rattle.dcm_tree_laws.proofs.Naming.{phase_of, gives_name, clears_part}
use Rattle.dcm_tree_laws.proofs.Filling.{part_is_made, is_filled_as}
use Rattle.dcm_tree_laws.proofs.Steps.{Steps, idle, whole, no_step}
use Rattle.dcm_tree_laws.proofs.Sure as sures
use Rattle.dcm_tree_laws.proofs.WholePart.{IsReady, Ready, ready, then_steps, stays_then}
use Rattle.dcm_tree_laws.proofs.Working.{working_also, working_sure, working_can, IsOpened, is_opened, not_unopened, job_found, HasDone, job_done}
use Rattle.dcm_tree_laws.proofs.Works as works
use Rattle.dcm_tree_laws.proofs.Written.{IsIdle, more, is_ready, not_ok}

-- any file
abbrev pub Any : ℕ → List ℕ → Type 0
Any mode bytes = Unit {0}

-- what a fate is come by
pub data How {I O : Type 0} (h : Host I O) (m : Manner) (relative bytes : List ℕ) (fate : Fate) (now : Tree) : Type 0 where
  was_met : fate ≡ fates.There → MadeAt h Any m.part m.output relative now → How h m relative bytes fate now
  by_bytes : Fated m.task bytes fate → How h m relative bytes fate now
  unsettled : is_settled fate ≡ false → How h m relative bytes fate now

never : {I O : Type 0} (h : Host I O) (m : Manner) (relative bytes : List ℕ) (fate other : Fate) (now : Tree) → fate ≡ other → is_settled other ≡ false → How h m relative bytes fate now
never h m relative bytes fate other now is not = unsettled (ap is_settled is ∙ not)

tells_so : {E : Type 0} (e : Writer E) (name : List ℕ) (cause : NoPart) (from : E) (result : Result Fate RunStop) (to : E) (fate : Fate) → TellsNoPart e name cause from result to → result ≡ Ok fate → fate ≡ fates.Unwritten
tells_so e name cause from result to fate (parts.ends_run p c t is) ok = absurd (not_ok result p fate is ok)
tells_so e name cause from result to fate (parts.told c t is) ok = same_ok result fates.Unwritten fate is ok

-- a file that is there was met where the run goes on
met_fate : {A : Type 0} (place : Place) (continues : Bool) (fate : Fate) → fate ≡ place_fate place continues → (fate ≡ fates.There → place ≡ spots.There → A) → (is_settled fate ≡ false → A) → A
met_fate spots.There true fate is met or = met is refl
met_fate spots.There false fate is met or = or (ap is_settled is)
met_fate spots.Barred continues fate is met or = or (ap is_settled is)
met_fate spots.Free continues fate is met or = or (ap is_settled is)

module _ {I O E : Type 0} (F : Type 0) (h : Host I O) (r : Reader I) (w : Writer O) (e : Writer E) (all : GivesAll h (as_whole h r) w) (m : Manner) (of_output : IsNear m.output m.part) where
  -- where it has that fate, its output is at another place than the part
  abbrev Apart : (relative : List ℕ) → Fate → Type 0
  Apart relative fate = fate ≡ fates.There → place_of h (below m.output relative) ≢ place_of h m.part

  -- a file that was met, and no part
  met_there : (relative path : List ℕ) (now : FileSystem) → path ≡ below m.output relative → nat_le (length (below m.output relative)) PATH_LIMIT ≡ true → at_path h now.now m.part ≡ None → FileThere F h path (length m.output + 1) now → place_of h (below m.output relative) ≢ place_of h m.part
      → MadeAt h Any m.part m.output relative now.now
  met_there relative path now is fits none there apart = record {
    fits = fits;
    text = subst IsUtf8 is there.file.text;
    out = record { file = there.file.found; is = ap (λ (p : List ℕ). at_path h now.now p) (sym is) ∙ there.file.is; kind = there.file.kind_is; whole = tt; apart = apart };
    way = λ folder behind cut.
        let at : IsAt h kinds.Folder now.now (below m.output folder) = there.way (below m.output folder) behind (is ∙ inner_way m.output relative folder behind cut) (omega (arith, within_it m.output folder)) in
        record { at = at; apart = apart_by now.now (place_of h (below m.output folder)) (place_of h m.part) at.found none at.is };
  }

  met_name : (path : List ℕ) (s : FileSystem) (naming : Naming) (named : FileSystem) → naming ≡ NotFree spots.There → GivesName (working_may h r w (may_do h)) (Works {F = F} h) m.modes m.part path (length m.output + 1) s naming named → FileThere F h path (length m.output + 1) named
  met_name path s naming named there (parts.no_way x makes is) = absurd (failed naming spots.There there is)
    where
      failed : (n : Naming) (place : Place) → n ≡ NotFree place → n ≡ Failed → ⊥
      failed n place a b = absurd (cc)
  met_name path s naming named there (parts.on_its_way has makes g) = met_second F h r w m.part path (length m.output + 1) has naming named there g

  -- a file that was met, and the part is whole
  met_whole : (name relative path held : List ℕ) (fate : Fate) (from : E) (start s : FileSystem) (became : Fate) (to : E) (after : FileSystem) → path ≡ below m.output relative → nat_le (length (below m.output relative)) PATH_LIMIT ≡ true
      → IsReady h (λ mode bytes. bytes ≡ held) m.part m.output held start s → (x : NamesOutput (working_may h r w (may_do h)) (Works {F = F} h) e m name path fate from s became to after) → x.naming ≡ NotFree spots.There → place_of h (below m.output relative) ≢ place_of h m.part
      → MadeAt h Any m.part m.output relative after.now
  met_whole name relative path held fate from start s became to after is fits is_whole x there apart =
      let IsHeld : ℕ → List ℕ → Type 0 = λ mode bytes. bytes ≡ held in
      let steps : Steps h IsHeld m.part m.output (whole held) s (whole held) x.named =
      subst (λ (n : Naming). Steps h IsHeld m.part m.output (whole held) s (phase_of held n) x.named) there (gives_name {I = I} {F = F} h IsHeld m.part m.output held path relative is s x.naming x.named
      (works.gives_name (working_may h r w (may_do h)) (may_do h) (working_also h r w) (Works {F = F} h) (folders_do {F = F} h) (working_can {F = F} h) m.part path (length m.output + 1) s x.naming x.named x.gives)) in
      let named : IsReady h IsHeld m.part m.output held start x.named = then_steps is_whole steps in
      let part : Ready h IsHeld m.part x.named.now = ready named in
      let file : FileThere F h path (length m.output + 1) x.named = met_name path s x.naming x.named there x.gives in
      let made : MadeAt h Any m.part m.output relative x.named.now = record {
        fits = fits;
        text = subst IsUtf8 is file.file.text;
        out = record { file = file.file.found; is = ap (λ (p : List ℕ). at_path h x.named.now p) (sym is) ∙ file.file.is; kind = file.file.kind_is; whole = tt; apart = apart };
        way = λ folder behind cut.
            let at : IsAt h kinds.Folder x.named.now (below m.output folder) = file.way (below m.output folder) behind (is ∙ inner_way m.output relative folder behind cut) (omega (arith, within_it m.output folder)) in
            record { at = at; apart = kinds_apart x.named.now (place_of h (below m.output folder)) (place_of h m.part) at.found part.file at.is part.is at.kind_is part.kind };
      } in
      let gone : Steps h IsHeld m.part m.output (whole held) x.named idle after =
      subst (λ (n : Naming). Steps h IsHeld m.part m.output (phase_of held n) x.named idle after) there (clears_part {I = I} h IsHeld m.part (IsNear m.output) held x.naming x.named after
      (works.clears_part (working_may h r w (may_do h)) (may_do h) (working_also h r w) x.naming m.part x.named after x.clears)) in
      made_stays h Any m.part m.output relative x.named.now after.now (stays_then idle after named gone) made

  named_how : (job : Job) (name relative path bytes held : List ℕ) (ending : Ending) (from : E) (start s : FileSystem) (became : Fate) (to : E) (after : FileSystem) → path ≡ below m.output relative → nat_le (length (below m.output relative)) PATH_LIMIT ≡ true → IsJobOf m.task bytes job → HasDone job bytes held ending
      → IsReady h (λ mode bytes. bytes ≡ held) m.part m.output held start s → (x : NamesOutput (working_may h r w (may_do h)) (Works {F = F} h) e m name path (ending_fate ending) from s became to after) → Apart relative became → (naming : Naming) → x.naming ≡ naming → How h m relative bytes became after.now
  named_how job name relative path bytes held ending from start s became to after is fits of_job d is_whole x apart Linked naming =
      by_bytes (by_verdict m.task bytes held job became ending of_job (x.becomes ∙ ap (λ (n : Naming). naming_fate n (ending_fate ending) m.continues) naming) d)
  named_how job name relative path bytes held ending from start s became to after is fits of_job d is_whole x apart Moved naming =
      by_bytes (by_verdict m.task bytes held job became ending of_job (x.becomes ∙ ap (λ (n : Naming). naming_fate n (ending_fate ending) m.continues) naming) d)
  named_how job name relative path bytes held ending from start s became to after is fits of_job d is_whole x apart (NotFree place) naming =
      met_fate place m.continues became (x.becomes ∙ ap (λ (n : Naming). naming_fate n (ending_fate ending) m.continues) naming)
      (λ there spot. was_met there (met_whole name relative path held (ending_fate ending) from start s became to after is fits is_whole x (naming ∙ ap NotFree spot) (apart there))) (λ not. unsettled not)
  named_how job name relative path bytes held ending from start s became to after is fits of_job d is_whole x apart Failed naming =
      never h m relative bytes became fates.Unwritten after.now (x.becomes ∙ ap (λ (n : Naming). naming_fate n (ending_fate ending) m.continues) naming) refl

  filled_how : (job : Job) (name relative path : List ℕ) (mode : ℕ) (input : I) (output : O) (bytes : List ℕ) (from : E) (opened made : FileSystem) (fate : Fate) (to : E) (after : FileSystem) → path ≡ below m.output relative → nat_le (length (below m.output relative)) PATH_LIMIT ≡ true → opened.written ≡ None
      → MakesPart (Works {F = F} h) m.part mode opened (Ok output) made → r.has_failed input ≡ false → h.holds input ≡ bytes → IsJobOf m.task bytes job → FillsAndNames (working {F = F} h r w e) job m name path input output from made fate to after → Apart relative fate → How h m relative bytes fate after.now
  filled_how job name relative path mode input output bytes from opened made fate to after is fits none makes sound holds of_job (parts.not_done ending was_filled f not told removes so) apart =
      let part : NewPart h m.part mode opened output made = new_part {F = F} h m.part mode opened output made makes in
      by_bytes (by_verdict m.task bytes (h.took f.written) job fate ending of_job so (subst (λ (b : List ℕ). HasDone job b (h.took f.written) ending) holds (job_done h r w all job input output made ending was_filled sound part.new f)))
  filled_how job name relative path mode input output bytes from opened made fate to after is fits none makes sound holds of_job (parts.has_done ending was_filled told f written reports names) apart =
      let part : NewPart h m.part mode opened output made = new_part {F = F} h m.part mode opened output made makes in
      let d : HasDone job bytes (h.took f.written) ending = subst (λ (b : List ℕ). HasDone job b (h.took f.written) ending) holds (job_done h r w all job input output made ending was_filled sound part.new f) in
      let IsHeld : ℕ → List ℕ → Type 0 = λ kind held. held ≡ h.took f.written in
      let began : IsIdle h IsHeld m.part m.output idle opened opened = record { none = none; of_output = of_output; steps = no_step refl refl } in
      let is_whole : IsReady h IsHeld m.part m.output (h.took f.written) opened was_filled =
      is_ready (h.took f.written)
      (more (more began (part_is_made {F = F} h IsHeld m.part m.output mode opened output made (sures.makes_part (Works {F = F} h) (folders_do {F = F} h) (working_can {F = F} h) m.part mode opened (Ok output) made makes)))
      (is_filled_as h IsHeld (as_whole h r) w m.part m.output (h.masked mode) job input output made ending was_filled (works.fills (working_may h r w (may_do h)) (may_do h) (working_also h r w) (as_whole h r) w job input output made ending was_filled f) written refl)) in
      named_how job name relative path bytes (h.took f.written) ending told opened was_filled fate to after is fits of_job d is_whole names apart names.naming refl

  ready_how : (job : Job) (n : Named) (mode : ℕ) (path : List ℕ) (from : E) (s : FileSystem) (result : Result Fate RunStop) (to : E) (after : FileSystem) (fate : Fate) → path ≡ below m.output n.relative → nat_le (length (below m.output n.relative)) PATH_LIMIT ≡ true → s.written ≡ None → IsUtf8 n.path
      → (f : FileAt h Followed s.now n.path) → IsJobOf m.task (s.now.bytes (number_of f.file)) job → DoesReady (working {F = F} h r w e) job m n mode path from s result to after → result ≡ Ok fate → Apart n.relative fate → How h m n.relative (s.now.bytes (number_of f.file)) fate after.now
  ready_how job n mode path from s result to after fate is fits none text f of_job (files.not_opened opens told so) ok apart = not_unopened h r w n.path s after text f opens
  ready_how job n mode path from s result to after fate is fits none text f of_job (files.no_part input cause opened tried opens makes back tells) ok apart =
      never h m n.relative (s.now.bytes (number_of f.file)) fate fates.Unwritten after.now (tells_so e n.name cause from result to fate tells ok) refl
  ready_how job n mode path from s result to after fate is fits none text f of_job (files.filled input output became opened made opens makes fills so) ok apart =
      let same : fate ≡ became = same_ok result became fate so ok in
      let o : IsOpened h r (s.now.bytes (number_of f.file)) input s opened = is_opened h r w n.path s input opened text f opens in
      subst (λ (x : Fate). How h m n.relative (s.now.bytes (number_of f.file)) x after.now) (sym same)
      (filled_how job n.name n.relative path mode input output (s.now.bytes (number_of f.file)) from opened made became to after is fits (ap (λ (t : FileSystem). t.written) o.same ∙ none) makes o.sound o.holds of_job fills (subst (Apart n.relative) same apart))

  free_how : (n : Named) (mode : ℕ) (path : List ℕ) (from : E) (s : FileSystem) (result : Result Fate RunStop) (to : E) (after : FileSystem) (fate : Fate) → path ≡ below m.output n.relative → nat_le (length (below m.output n.relative)) PATH_LIMIT ≡ true → s.written ≡ None → IsUtf8 n.path
      → (f : FileAt h Followed s.now n.path) → DoesFree (working {F = F} h r w e) m n mode path from s result to after → result ≡ Ok fate → Apart n.relative fate → How h m n.relative (s.now.bytes (number_of f.file)) fate after.now
  free_how n mode path from s result to after fate is fits none text f (files.no_days cause finds told so) ok apart =
      by_bytes (no_job_by m.task (s.now.bytes (number_of f.file)) fate cause (same_ok result (no_days_fate cause) fate so ok) (job_found h r w all m.task n.path s (Err cause) after text f finds))
  free_how n mode path from s result to after fate is fits none text f (files.has_job job mid finds does) ok apart =
      let same : mid ≡ s = jobs.finds_job h (as_whole h r) m.task n.path s (Ok job) mid (works.finds_job (working_may h r w (may_do h)) (may_do h) (working_also h r w) (as_whole h r) m.task n.path s (Ok job) mid finds) in
      ready_how job n mode path from s result to after fate is fits none text f (job_found h r w all m.task n.path s (Ok job) mid text f finds) (subst (λ (t : FileSystem). DoesReady (working {F = F} h r w e) job m n mode path from t result to after) same does) ok apart

  placed_how : (n : Named) (mode : ℕ) (path : List ℕ) (from : E) (s : FileSystem) (result : Result Fate RunStop) (to : E) (after : FileSystem) (fate : Fate) → path ≡ below m.output n.relative → nat_le (length (below m.output n.relative)) PATH_LIMIT ≡ true → s.written ≡ None → at_path h s.now m.part ≡ None → IsUtf8 n.path
      → (f : FileAt h Followed s.now n.path) → DoesPlaced (working {F = F} h r w e) m n mode path from s result to after → result ≡ Ok fate → Apart n.relative fate → How h m n.relative (s.now.bytes (number_of f.file)) fate after.now
  placed_how n mode path from s result to after fate is fits none nothing text f (files.not_free place found nf told so) ok apart =
      let seen = sures.finds (Works {F = F} h) (sure (folders_do {F = F} h)) (working_sure {F = F} h).sees path (length m.output + 1) s place after found in
      let same : after ≡ s = finds (sure (folders_do {F = F} h)) (sure_quiet h) path (length m.output + 1) s place after seen in
      met_fate place m.continues fate (same_ok result (place_fate place m.continues) fate so ok)
      (λ there spot. was_met there
      (subst (λ (t : FileSystem). MadeAt h Any m.part m.output n.relative t.now) (sym same) (met_there n.relative path s is fits nothing (place_there F h path (length m.output + 1) s place after spot seen) (apart there)))) (λ not. unsettled not)
  placed_how n mode path from s result to after fate is fits none nothing text f (files.free place looked found nf does) ok apart =
      let same : looked ≡ s = finds (sure (folders_do {F = F} h)) (sure_quiet h) path (length m.output + 1) s place looked (sures.finds (Works {F = F} h) (sure (folders_do {F = F} h)) (working_sure {F = F} h).sees path (length m.output + 1) s place looked found) in
      free_how n mode path from s result to after fate is fits none text f (subst (λ (t : FileSystem). DoesFree (working {F = F} h r w e) m n mode path from t result to after) same does) ok apart

  kept_how : (n : Named) (mode : ℕ) (from : E) (s : FileSystem) (became : Result Fate RunStop) (result : Result Done RunStop) (to : E) (after : FileSystem) (done : Done) → s.written ≡ None → at_path h s.now m.part ≡ None → IsUtf8 n.path → (f : FileAt h Followed s.now n.path)
      → DoesNamed (working {F = F} h r w e) m n mode from s became to after → result ≡ under_its_name became → result ≡ Ok done → Apart n.relative done.fate → How h m n.relative (s.now.bytes (number_of f.file)) done.fate after.now
  kept_how n mode from s (Ok fate) result to after done none nothing text f (files.too_long long told so same) is ok apart =
      never h m n.relative (s.now.bytes (number_of f.file)) done.fate fates.Unwritten after.now (ap (λ (d : Done). d.fate) (same_ok result (record { fate = fate; instance = None }) done is ok) ∙ same_ok (Ok fate) fates.Unwritten fate so refl) refl
  kept_how n mode from s (Ok fate) result to after done none nothing text f (files.placed path at does) is ok apart =
      let same : done.fate ≡ fate = ap (λ (d : Done). d.fate) (same_ok result (record { fate = fate; instance = None }) done is ok) in
      subst (λ (x : Fate). How h m n.relative (s.now.bytes (number_of f.file)) x after.now) (sym same)
      (placed_how n mode path from s (Ok fate) to after fate (path_is m.output n.relative path at) (chosen_some (nat_le (length (below m.output n.relative)) PATH_LIMIT) (below m.output n.relative) path at) none nothing text f does refl (subst (Apart n.relative) same apart))
  kept_how n mode from s (Err p) result to after done none nothing text f does is ok apart = absurd (no_done result p done is ok)
    where
      no_done : (x : Result Done RunStop) (p : RunStop) (done : Done) → x ≡ Err p → x ≡ Ok done → ⊥
      no_done x p done a b = absurd (cc)

  pub file_how : (n : Named) (mode : ℕ) (from : E) (s : FileSystem) (result : Result Done RunStop) (to : E) (after : FileSystem) (done : Done) → m.keeps_names ≡ true → is_media_index n.relative ≡ false → s.written ≡ None → at_path h s.now m.part ≡ None → IsUtf8 n.path → (f : FileAt h Followed s.now n.path)
      → DoesFile (working {F = F} h r w e) m n mode from s result to after → result ≡ Ok done → Apart n.relative done.fate → How h m n.relative (s.now.bytes (number_of f.file)) done.fate after.now
  file_how n mode from s result to after done keeps no_index none nothing text f (files.an_index index told is same) ok apart = true_false (is_media_index n.relative) index no_index
  file_how n mode from s result to after done keeps no_index none nothing text f (files.keeps_name became index kept does is) ok apart = kept_how n mode from s became result to after done none nothing text f does is ok apart
  file_how n mode from s result to after done keeps no_index none nothing text f (files.by_instance index not does) ok apart = true_false m.keeps_names keeps not
