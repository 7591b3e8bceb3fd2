-- A file whose copy is there is done again, and left as it is.
use Rattle.std.proofs.Common.{◌≡◌, ◌∙◌, refl, sym, ap, subst, inl, inr, ◌⊎◌, ℕ, ◌+◌, ◌≤◌, List, [], length, Bool, true, false, Option, Some, None, Result, Ok, Err}
use Rattle.std.specs.Prelude.{◌≢◌, nat_le}
use Rattle.std.specs.Str.{IsUtf8}
use Rattle.arrayvec.specs.ArrayVec.{ArrayVec}
use Rattle.dcm_lemmas.proofs.Options.{none_or_some, one_value}
use Rattle.dcm_lemmas.proofs.Truth.{true_false}
use Rattle.dcm_base.specs.Reading.Reads.{INPUT_LIMIT}
use Rattle.dcm_devices.specs.Writing.{Writer}
use Rattle.dcm_files.specs.declared.folders.Found.{Found}
use Rattle.dcm_files.specs.declared.folders.FoundKind.TheVariants as kinds
use Rattle.dcm_files.specs.declared.folders.Links.TheVariants.{Followed}
use Rattle.dcm_instance.specs.declared.names.Instance.{Instance}
use Rattle.dcm_instance.specs.declared.names.NoInstance.{NoInstance}
use Rattle.dcm_instance.specs.ReadInstance.{FileNames}
use Rattle.dcm_instance.specs.Uids.{Uids, instance_name, uids_of}
use Rattle.dcm_walk.specs.Names.{below, PATH_LIMIT}
use Rattle.dcm_walk.specs.Visits.{Named}
use Rattle.dcm_walk.specs.declared.visitor.What.TheVariants.{File}
use Rattle.dcm_words.specs.Words.{Job}
use Rattle.dcm_cli.specs.Calls.{Reader, Reports}
use Rattle.dcm_cli.specs.declared.ending.Ending.{Ending}
use Rattle.dcm_cli.specs.declared.ending.Ending.TheVariants.{Worked}
use Rattle.dcm_cli.specs.declared.ending.Verdict.{Verdict}
use Rattle.dcm_cli.specs.Run.{Answered}
use Rattle.dcm_trees.specs.declared.fate.Fate.{Fate}
use Rattle.dcm_trees.specs.declared.fate.Fate.TheVariants.{There, Taken}
use Rattle.dcm_trees.specs.declared.file.Done.{Done}
use Rattle.dcm_trees.specs.declared.part.Naming.{Naming}
use Rattle.dcm_trees.specs.declared.part.Naming.TheVariants.{NotFree}
use Rattle.dcm_trees.specs.declared.part.NoPart.{NoPart}
use Rattle.dcm_trees.specs.declared.progress.Stop.{Stop as RunStop}
use Rattle.dcm_trees.specs.declared.place.Place.TheVariants as places
use Rattle.dcm_trees.specs.declared.task.NoDays.{NoDays}
use Rattle.dcm_trees.specs.declared.task.NoDays.TheVariants as no_days
use Rattle.dcm_trees.specs.Fate.{is_written}
use Rattle.dcm_trees.specs.File as files
use Rattle.dcm_trees.specs.File.{DoesFile, DoesName, is_media_index}
use Rattle.dcm_trees.specs.Instance as instance
use Rattle.dcm_trees.specs.Instance.{GivesFreeName, FindsCopy, PlacesPart, NamesBy, NamesPart, FillsByInstance, DoesByInstance, DoesUnnamed, is_there, name_of_instance, ComparesFiles}
use Rattle.dcm_cli.specs.Run.{Remarked}
use Rattle.dcm_cli.specs.declared.ending.Remarks.{Remarks}
use Rattle.dcm_trees.specs.Lines.{ended_lines, ending_fate, verdict_fate}
use Rattle.dcm_trees.specs.Manner.{Manner}
use Rattle.dcm_trees.specs.Part as parts
use Rattle.dcm_trees.specs.Part.{RemovesPart, ClearsPart, is_moved, naming_lines, naming_fate}
use Rattle.dcm_trees.specs.Task.{Task}
use Rattle.dcm_tree_laws.specs.Again.{IsThere, sure}
use Rattle.dcm_tree_laws.specs.Copies.{IsRemarked, HasCopy, HasOther, IsAsItWas, IsNamedBy, IsDoneAgain, CopyIsLeft}
use Rattle.dcm_tree_laws.specs.Determined.{FileAt, FollowsLinks, FilesFit, ComesTo, working_may, working_folders, as_whole, working}
use Rattle.dcm_tree_laws.specs.FileSystem.{FileSystem, Tree, Host, Number, number_of, place_of, at_path, may_do, folders_do, MakesFile, TakesPieces, no_piece, and_piece, Closes, ClosesOutput, Removes, SameNames}
use Rattle.dcm_tree_laws.specs.Single.{IsJobOf, TellsAll}
use Rattle.dcm_tree_laws.proofs.Ends.{comes_once, one_instance, has_days}
use Rattle.dcm_tree_laws.proofs.Files.{path_is}
use Rattle.dcm_tree_laws.proofs.Held.{GivesAll}
use Rattle.dcm_tree_laws.proofs.Jobs as jobs
use Rattle.dcm_tree_laws.proofs.Left.{sure_quiet, finds_there, no_free, too_long, same_mode}
use Rattle.dcm_tree_laws.proofs.Looking as looking
use Rattle.dcm_tree_laws.proofs.OutputsBy.{Still}
use Rattle.dcm_tree_laws.proofs.StillBy.{there_stays}
use Rattle.dcm_tree_laws.proofs.Sure as sures
use Rattle.dcm_tree_laws.proofs.Working.{working_also, working_sure, whole_gives, IsOpened, is_opened, not_unopened, JobIs, job_found, HasDone, job_done, job_remarked, PartMade, part_made, instance_found, compared_same, compared_bytes}
use Rattle.dcm_tree_laws.proofs.Works as works

-- ---- the part is whole

-- a file of this number may have other bytes, and nothing else is changed
record Wrote (n : Number) (before after : Tree) : Type 0 where
  names : SameNames before after
  others : (other : Number) → (other ≡ n) ⊎ (after.bytes other ≡ before.bytes other)

either_then : {A : Type 0} (x y z : List ℕ) → A ⊎ (y ≡ x) → A ⊎ (z ≡ y) → A ⊎ (z ≡ x)
either_then x y z first (inl a) = inl a
either_then x y z (inl a) (inr e) = inl a
either_then x y z (inr d) (inr e) = inr (e ∙ d)

then_wrote : (n : Number) (t u v : Tree) → Wrote n t u → Wrote n u v → Wrote n t v
then_wrote n t u v first second = record {
  names = λ place. second.names place ∙ first.names place;
  others = λ other. either_then (t.bytes other) (u.bytes other) (v.bytes other) (first.others other) (second.others other);
}

pieces : (n : Number) (all : List ℕ) (before after : FileSystem) → TakesPieces n all before after → Wrote n before.now after.now
pieces n all before after (no_piece same) = subst (λ (s : FileSystem). Wrote n before.now s.now) (sym same) (record { names = λ place. refl; others = λ other. inr refl })
pieces n all before after (and_piece mid front rest more is takes) = then_wrote n before.now mid.now after.now (pieces n all before mid more) (record { names = takes.names; others = takes.fills.others })

closed : (n : Number) (all kept : List ℕ) (before after : FileSystem) → Closes n all kept before after → Wrote n before.now after.now
closed n all kept before after c = then_wrote n before.now c.last.now after.now (pieces n all before c.last c.pieces) (record { names = c.names; others = c.fills.others })

-- it is at its path with these bytes, and else is what was there
pub record WholeAt {I O : Type 0} (h : Host I O) (part held : List ℕ) (before now : Tree) : Type 0 where
  pub file : Found
  pub at : at_path h now part ≡ Some file
  pub kind : file.kind ≡ kinds.File
  pub bytes : now.bytes (number_of file) ≡ held
  pub elsewhere : (place : List ℕ) → (place ≡ place_of h part) ⊎ (now.at place ≡ before.at place)
  pub others : (place : List ℕ) (f : Found) → before.at place ≡ Some f → now.bytes (number_of f) ≡ before.bytes (number_of f)

other_bytes : (n m : Number) (x y : List ℕ) → m ≢ n → (m ≡ n) ⊎ (y ≡ x) → y ≡ x
other_bytes n m x y apart (inl e) = absurd (apart e)
other_bytes n m x y apart (inr e) = e

else_same : {A : Type 0} (x y z : Option Found) → A ⊎ (y ≡ x) → z ≡ y → A ⊎ (z ≡ x)
else_same x y z (inl a) e = inl a
else_same x y z (inr d) e = inr (e ∙ d)

pub whole_at : {I O : Type 0} (h : Host I O) (part : List ℕ) (mode : ℕ) (held : List ℕ) (before made after : FileSystem) → MakesFile h part mode before made → ClosesOutput made.written held held made after → WholeAt h part held before.now after.now
whole_at h part mode held before made after m call =
    let n : Number = number_of m.made in
    let c : Closes n held held made after = subst (λ (x : Option Number). ClosesOutput x held held made after) m.notes.written_is call in
    let wrote : Wrote n made.now after.now = closed n held held made after c in
    record {
      file = m.made;
      at = wrote.names (place_of h part) ∙ m.puts.there;
      kind = m.kind;
      bytes = c.fills.filled;
      elsewhere = λ place. else_same (before.now.at place) (made.now.at place) (after.now.at place) (m.puts.elsewhere place) (wrote.names place);
      others = λ place f is.
          other_bytes n (number_of f) (made.now.bytes (number_of f)) (after.now.bytes (number_of f)) (m.fresh place f is) (wrote.others (number_of f))
          ∙ other_bytes n (number_of f) (before.now.bytes (number_of f)) (made.now.bytes (number_of f)) (m.fresh place f is) (m.empty.others (number_of f));
    }

not_here : (place part : List ℕ) (x y : Option Found) → place ≢ part → (place ≡ part) ⊎ (y ≡ x) → y ≡ x
not_here place part x y apart (inl e) = absurd (apart e)
not_here place part x y apart (inr e) = e

pub still_whole : {I O : Type 0} (h : Host I O) (part held : List ℕ) (before now : Tree) → WholeAt h part held before now → Still h part before now
still_whole h part held before now x = record {
  there = λ place f apart is. not_here place (place_of h part) (before.at place) (now.at place) apart (x.elsewhere place) ∙ is;
  bytes = λ place f apart is. x.others place f is;
}

-- ---- the part is removed

pub removed : {I O : Type 0} (h : Host I O) (r : Reader I) (w : Writer O) (part : List ℕ) (before after : FileSystem) → IsUtf8 part → after.unremoved ≡ false → RemovesPart (working_may h r w (may_do h)) part before after → Removes h part before after
removed h r w part before after text gone (parts.no_text t same) = absurd (t text)
removed h r w part before after text gone (parts.removed (Ok u) t call) = call
removed h r w part before after text gone (parts.removed (Err e) t call) = true_false after.unremoved (ap (λ (s : FileSystem). s.unremoved) call) gone

back_at : (place part : List ℕ) (t u v : Tree) → t.at part ≡ None → v.at part ≡ None → (place ≡ part) ⊎ (v.at place ≡ u.at place) → (place ≡ part) ⊎ (u.at place ≡ t.at place) → v.at place ≡ t.at place
back_at place part t u v none gone (inl e) y = ap v.at e ∙ gone ∙ sym none ∙ ap t.at (sym e)
back_at place part t u v none gone (inr d) (inl e) = ap v.at e ∙ gone ∙ sym none ∙ ap t.at (sym e)
back_at place part t u v none gone (inr d) (inr e) = d ∙ e

pub as_it_was : {I O : Type 0} (h : Host I O) (part held : List ℕ) (before s after : FileSystem) → at_path h before.now part ≡ None → WholeAt h part held before.now s.now → Removes h part s after → IsAsItWas before.now after.now
as_it_was h part held before s after none whole gone = record {
  names = λ place. back_at place (place_of h part) before.now s.now after.now none gone.puts.there (gone.puts.elsewhere place) (whole.elsewhere place);
  bytes = λ place f is. gone.bytes (number_of f) ∙ whole.others place f is;
}

-- ---- what is at the name

-- a file that is there is there also when its path is followed
abbrev pub followed : {I O : Type 0} (h : Host I O) (t : Tree) (path : List ℕ) (f : Found) → h.leads Followed path ≡ place_of h path → at_path h t path ≡ Some f → f.kind ≡ kinds.File → FileAt h Followed t path
followed h t path f leads at kind = record { file = f; is = ap t.at leads ∙ at; kind = kind }

-- what is known of the output of a file, and of the paths of it and of the part
pub record Known {I O : Type 0} (h : Host I O) (r : Reader I) (w : Writer O) (part output : List ℕ) (uids : Uids) (held : List ℕ) (alike : Bool) : Type 0 where
  pub all : GivesAll h (as_whole h r) w
  pub text : IsUtf8 part
  pub leads_part : h.leads Followed part ≡ place_of h part
  pub leads_path : h.leads Followed (below output (instance_name uids)) ≡ place_of h (below output (instance_name uids))
  pub names : FileNames held (Ok uids)
  pub fits : alike ≡ true → length held ≤ INPUT_LIMIT

-- what a file that is met is told as: the same, or another
abbrev pub met_fate : (alike : Bool) → Fate
met_fate true = There
met_fate false = Taken

-- the bytes of a file are these, or others
abbrev pub AreBytes : (alike : Bool) → (held its : List ℕ) → Type 0
AreBytes true held its = its ≡ held
AreBytes false held its = its ≢ held

-- its row has the name of the instance, and says that it is there
pub record IsMetAs (alike : Bool) (uids : Uids) (done : Done) : Type 0 where
  pub fate_is : done.fate ≡ met_fate alike
  pub named : IsNamedBy uids done

-- what its job came to is told, and where other bytes are there
abbrev met_lines : (name : List ℕ) → (alike : Bool) → List ℕ
met_lines name alike = naming_lines name (NotFree places.There) alike

pub record TellsMet {E : Type 0} (errors : Writer E) (name : List ℕ) (task : Task) (bytes : List ℕ) (alike : Bool) (verdict : Verdict) (from to : E) : Type 0 where
  pub remarks : Remarks
  pub remarked : IsRemarked task bytes remarks
  pub mid : E
  pub told : Reports errors from mid (ended_lines name (Worked verdict) remarks)
  pub more : Reports errors mid to (met_lines name alike)

-- a file is done again, and left
pub record IsMetAgain {E : Type 0} (errors : Writer E) (alike : Bool) (n : Named) (uids : Uids) (task : Task) (bytes : List ℕ) (verdict : Verdict) (from : E) (before : FileSystem) (r : Result Done RunStop) (to : E) (after : FileSystem) : Type 0 where
  pub done : Done
  pub row : r ≡ Ok done
  pub there : IsMetAs alike uids done
  pub told : TellsMet errors n.name task bytes alike verdict from to
  pub same : IsAsItWas before.now after.now

no_uids : (cause : NoInstance) (u : Uids) → Err cause ≡ Ok u → ⊥
no_uids cause u e = absurd (cc)

is_worked : (ending : Ending) (verdict : Verdict) → ending ≡ Worked verdict → is_written (verdict_fate verdict) ≡ true → is_written (ending_fate ending) ≡ true
is_worked ending verdict is done = ap (λ (x : Ending). is_written (ending_fate x)) is ∙ done

not_there : {A : Type 0} (naming : Naming) → naming ≡ NotFree places.There → is_there naming ≡ false → A
not_there naming is not = true_false (is_there naming) (ap is_there is) not

not_moved : {A : Type 0} (naming : Naming) → naming ≡ NotFree places.There → is_moved naming ≡ true → A
not_moved naming is moved = true_false (is_moved naming) moved (ap is_moved is)

as_lines : (name : List ℕ) (naming : Naming) (same alike : Bool) → naming ≡ NotFree places.There → same ≡ alike → naming_lines name naming same ≡ met_lines name alike
as_lines name naming same alike is so = ap (λ (x : Naming). naming_lines name x same) is ∙ ap (λ (b : Bool). naming_lines name (NotFree places.There) b) so

met_naming : (fate : Fate) (alike : Bool) → naming_fate (NotFree places.There) fate alike ≡ met_fate alike
met_naming fate true = refl
met_naming fate false = refl

fate_there : (naming : Naming) (fate : Fate) (same alike : Bool) → naming ≡ NotFree places.There → same ≡ alike → naming_fate naming fate same ≡ met_fate alike
fate_there naming fate same alike is so = ap (λ (x : Naming). naming_fate x fate same) is ∙ ap (λ (b : Bool). naming_fate (NotFree places.There) fate b) so ∙ met_naming fate alike

pub no_output : {A O : Type 0} (cause : NoPart) (output : O) → Err cause ≡ Ok output → A
no_output cause output e = absurd (cc)

pub no_job_by : {A : Type 0} (task : Task) (held : List ℕ) (cause : NoDays) (job : Job) → IsJobOf task held job → JobIs task held (Err cause) → A
no_job_by task held (no_days.Refused stop) job is none = has_days task held job stop is none
no_job_by task held (no_days.Unread count) job is none = absurd none
no_job_by task held no_days.Unopened job is none = absurd none

file_other : kinds.File ≡ kinds.Other → ⊥
file_other e = absurd (cc)

module _ {I O E : Type 0} (F : Type 0) (h : Host I O) (r : Reader I) (w : Writer O) (e : Writer E) (m : Manner) (uids : Uids) (held : List ℕ) (alike : Bool) (known : Known h r w m.part m.output uids held alike) where
  -- the state in which the part is whole, and the copy is there
  record AtPart (s : FileSystem) : Type 0 where
    file : Found
    at : at_path h s.now m.part ≡ Some file
    kind : file.kind ≡ kinds.File
    bytes : s.now.bytes (number_of file) ≡ held
    there : IsThere h m.output (instance_name uids) s.now
    same : AreBytes alike held (s.now.bytes (number_of there.file.found))

  abbrev part_file : (s : FileSystem) → AtPart s → FileAt h Followed s.now m.part
  part_file s x = followed h s.now m.part x.file known.leads_part x.at x.kind

  abbrev copy_file : (s : FileSystem) → AtPart s → FileAt h Followed s.now (below m.output (instance_name uids))
  copy_file s x = followed h s.now (below m.output (instance_name uids)) x.there.file.found known.leads_path x.there.file.is x.there.file.kind_is

  -- the part gets no name
  gets_none : (s : FileSystem) (naming : Naming) (after : FileSystem) → AtPart s
      → GivesFreeName (working_may h r w (may_do h)) (working_folders h (sure (folders_do {F = F} h))) m.modes m.part (below m.output (instance_name uids)) (length m.output + 1) s naming after → (naming ≡ NotFree places.There) × (after ≡ s)
  gets_none s naming after x (instance.not_free p f nf named) =
      let path : List ℕ = below m.output (instance_name uids) in
      let seen = sures.finds (working_folders h (sure (folders_do {F = F} h))) (sure (folders_do {F = F} h)) (working_sure {F = F} h).sees path (length m.output + 1) s p after f in
      (named ∙ ap NotFree (finds_there {F = F} h m.output (instance_name uids) path s p after refl x.there seen), looking.finds (sure (folders_do {F = F} h)) (sure_quiet h) path (length m.output + 1) s p after seen)
  gets_none s naming after x (instance.free p looked f nf g) =
      let path : List ℕ = below m.output (instance_name uids) in
      no_free p (finds_there {F = F} h m.output (instance_name uids) path s p looked refl x.there (sures.finds (working_folders h (sure (folders_do {F = F} h))) (sure (folders_do {F = F} h)) (working_sure {F = F} h).sees path (length m.output + 1) s p looked f)) nf

  -- it is compared with what is there
  answer_is : (s : FileSystem) (same its : Bool) (after : FileSystem) → (f : FileAt h Followed s.now m.part) → (g : FileAt h Followed s.now (below m.output (instance_name uids))) → s.now.bytes (number_of f.file) ≡ held → AreBytes its held (s.now.bytes (number_of g.file)) → (its ≡ true → length held ≤ INPUT_LIMIT)
      → IsUtf8 (below m.output (instance_name uids)) → ComparesFiles (working_may h r w (may_do h)) (as_whole h r) m.part (below m.output (instance_name uids)) s same after → same ≡ its
  answer_is s same true after f g bytes are fits text c = compared_same h r w known.all m.part (below m.output (instance_name uids)) s same after held known.text text f g bytes are (fits refl) c
  answer_is s true false after f g bytes are fits text c = absurd (are (sym (compared_bytes h r w known.all m.part (below m.output (instance_name uids)) s after known.text text f g c) ∙ bytes))
  answer_is s false false after f g bytes are fits text c = refl

  copy_same : (s : FileSystem) (naming : Naming) (same : Bool) (after : FileSystem) → AtPart s → naming ≡ NotFree places.There
      → FindsCopy (working_may h r w (may_do h)) (as_whole h r) naming m.part (below m.output (instance_name uids)) s same after → same ≡ alike
  copy_same s naming same after x named (instance.not_there none is stays) = not_there naming named none
  copy_same s naming same after x named (instance.compared there c) = answer_is s same alike after (part_file s x) (copy_file s x) x.bytes x.same known.fits x.there.file.text c

  -- and it is removed
  cleared : (naming : Naming) (s after : FileSystem) → naming ≡ NotFree places.There → after.unremoved ≡ false → ClearsPart (working_may h r w (may_do h)) naming m.part s after → Removes h m.part s after
  cleared naming s after named gone (parts.moved is same) = not_moved naming named is
  cleared naming s after named gone (parts.removed is removes) = removed h r w m.part s after known.text gone removes

  -- what becomes of it
  record LeftAs (name : List ℕ) (from : E) (s : FileSystem) (done : Done) (to : E) (after : FileSystem) : Type 0 where
    there : IsMetAs alike uids done
    told : Reports e from to (met_lines name alike)
    gone : Removes h m.part s after

  record Placed (name : List ℕ) (from : E) (s : FileSystem) (became : Fate) (to : E) (after : FileSystem) : Type 0 where
    fate_is : became ≡ met_fate alike
    told : Reports e from to (met_lines name alike)
    gone : Removes h m.part s after

  placed : (name : List ℕ) (fate : Fate) (from : E) (s : FileSystem) (became : Fate) (to : E) (after : FileSystem) → AtPart s → after.unremoved ≡ false
      → PlacesPart (working {F = F} h r w e) m name (below m.output (instance_name uids)) fate from s became to after → Placed name from s became to after
  placed name fate from s became to after x gone p =
      let path : List ℕ = below m.output (instance_name uids) in
      let named : (p.naming ≡ NotFree places.There) × (p.named ≡ s) = gets_none s p.naming p.named x p.gives in
      let compared : p.compared ≡ s = jobs.finds_copy h (as_whole h r) p.naming m.part path p.named p.same p.compared (works.finds_copy (working_may h r w (may_do h)) (may_do h) (working_also h r w) (as_whole h r) p.naming m.part path p.named p.same p.compared p.copy) ∙ named.1 in
      let same : p.same ≡ alike =
      copy_same s p.naming p.same p.compared x named.0 (subst (λ (t : FileSystem). FindsCopy (working_may h r w (may_do h)) (as_whole h r) p.naming m.part path t p.same p.compared) named.1 p.copy) in
      record {
        fate_is = p.becomes ∙ fate_there p.naming fate p.same alike named.0 same;
        told = subst (Reports e from to) (as_lines name p.naming p.same alike named.0 same) p.told;
        gone = subst (λ (t : FileSystem). Removes h m.part t after) compared (cleared p.naming p.compared after named.0 gone p.clears);
      }

  left_by : (name : List ℕ) (from : E) (s : FileSystem) (became : Fate) (relative : ArrayVec ℕ) (done : Done) (to : E) (after : FileSystem) → relative.items ≡ instance_name uids → done ≡ record { fate = became; instance = Some relative } → Placed name from s became to after → LeftAs name from s done to after
  left_by name from s became relative done to after rel d x = record {
    there = record {
      fate_is = ap (λ (y : Done). y.fate) d ∙ x.fate_is;
      named = record { relative = relative; instance_is = ap (λ (y : Done). y.instance) d; relative_is = rel };
    };
    told = x.told;
    gone = x.gone;
  }

  named_by : (name : List ℕ) (i : Instance) (fate : Fate) (from : E) (s : FileSystem) (done : Done) (to : E) (after : FileSystem) → AtPart s → after.unremoved ≡ false → uids_of i ≡ uids → NamesBy (working {F = F} h r w e) m name i fate from s done to after → LeftAs name from s done to after
  named_by name i fate from s done to after x gone is (instance.too_long none removes told d) =
      absurd (too_long m.output (name_of_instance i) (subst (λ (u : Uids). nat_le (length (below m.output (instance_name u))) PATH_LIMIT ≡ true) (sym is) x.there.fits) none)
  named_by name i fate from s done to after x gone is (instance.placed path became relative at places rel d) =
      let own : path ≡ below m.output (instance_name uids) = path_is m.output (name_of_instance i) path at ∙ ap (λ (u : Uids). below m.output (instance_name u)) is in
      left_by name from s became relative done to after (rel ∙ ap instance_name is) d
      (placed name fate from s became to after x gone (subst (λ (p : List ℕ). PlacesPart (working {F = F} h r w e) m name p fate from s became to after) own places))

  part_named : (name : List ℕ) (fate : Fate) (from : E) (s : FileSystem) (done : Done) (to : E) (after : FileSystem) → AtPart s → after.unremoved ≡ false → NamesPart (working {F = F} h r w e) m name fate from s done to after → LeftAs name from s done to after
  part_named name fate from s done to after x gone (instance.no_instance cause read f removes told is) =
      let found : FileNames (s.now.bytes (number_of (part_file s x).file)) (Err cause) = instance_found h r w known.all m.part s (Err cause) read known.text (part_file s x) f in
      absurd (no_uids cause uids (one_instance held (Err cause) (Ok uids) (subst (λ (b : List ℕ). FileNames b (Err cause)) x.bytes found) known.names))
  part_named name fate from s done to after x gone (instance.has_instance i read f n) =
      let found : FileNames (s.now.bytes (number_of (part_file s x).file)) (Ok (uids_of i)) = instance_found h r w known.all m.part s (Ok i) read known.text (part_file s x) f in
      let is : uids_of i ≡ uids = looking.same_ok (Ok (uids_of i)) uids (uids_of i) (one_instance held (Ok (uids_of i)) (Ok uids) (subst (λ (b : List ℕ). FileNames b (Ok (uids_of i))) x.bytes found) known.names) refl in
      let same : read ≡ s = jobs.finds_instance h (as_whole h r) m.part s (Ok i) read (works.finds_instance (working_may h r w (may_do h)) (may_do h) (working_also h r w) (as_whole h r) m.part s (Ok i) read f) in
      named_by name i fate from s done to after x gone is (subst (λ (t : FileSystem). NamesBy (working {F = F} h r w e) m name i fate from t done to after) same n)

  -- ---- the job

  -- it is done again, and left
  record IsFilled (name bytes : List ℕ) (verdict : Verdict) (from : E) (before : FileSystem) (done : Done) (to : E) (after : FileSystem) : Type 0 where
    there : IsMetAs alike uids done
    told : TellsMet e name m.task bytes alike verdict from to
    same : IsAsItWas before.now after.now

  -- before the part is made
  record Before (s : FileSystem) : Type 0 where
    none : at_path h s.now m.part ≡ None
    there : IsThere h m.output (instance_name uids) s.now
    same : AreBytes alike held (s.now.bytes (number_of there.file.found))

  at_part : (mode : ℕ) (before made s : FileSystem) → Before before → MakesFile h m.part mode before made → ClosesOutput made.written held held made s → AtPart s
  at_part mode before made s x makes closes =
      let whole : WholeAt h m.part held before.now s.now = whole_at h m.part mode held before made s makes closes in
      let still : Still h m.part before.now s.now = still_whole h m.part held before.now s.now whole in
      record {
        file = whole.file;
        at = whole.at;
        kind = whole.kind;
        bytes = whole.bytes;
        there = there_stays h m.part m.output (instance_name uids) before.now s.now x.none still x.there;
        same = subst (AreBytes alike held) (sym (whole.others (place_of h (below m.output (instance_name uids))) x.there.file.found x.there.file.is)) x.same;
      }

  -- a job of these bytes that is done into the part comes to the same
  filled : (job : Job) (name : List ℕ) (mode : ℕ) (input : I) (output : O) (task_bytes : List ℕ) (verdict : Verdict) (from : E) (before made : FileSystem) (done : Done) (to : E) (after : FileSystem) → Before before → MakesFile h m.part mode before made → h.took output ≡ [] → r.has_failed input ≡ false
      → h.holds input ≡ task_bytes → IsJobOf m.task task_bytes job → ComesTo m.task task_bytes held verdict → is_written (verdict_fate verdict) ≡ true → after.unremoved ≡ false → FillsByInstance (working {F = F} h r w e) job m name input output from made done to after
      → IsFilled name task_bytes verdict from before done to after
  filled job name mode input output task_bytes verdict from before made done to after x makes new sound holds of_job comes written gone (instance.not_done ending was_filled f not told removes is) =
      let d : HasDone job (h.holds input) (h.took f.written) ending = job_done h r w known.all job input output made ending was_filled sound new f in
      let one : (h.took f.written ≡ held) × (d.verdict ≡ verdict) = comes_once m.task task_bytes (h.took f.written) held d.verdict verdict (record { job = job; is_job = of_job; answered = subst (λ (b : List ℕ). Answered job b (h.took f.written) d.verdict) holds d.answered }) comes in
      true_false (is_written (ending_fate ending)) (is_worked ending verdict (d.is ∙ ap Worked one.1) written) not
  filled job name mode input output task_bytes verdict from before made done to after x makes new sound holds of_job comes written gone (instance.has_done ending was_filled told f is reports names) =
      let d : HasDone job (h.holds input) (h.took f.written) ending = job_done h r w known.all job input output made ending was_filled sound new f in
      let one : (h.took f.written ≡ held) × (d.verdict ≡ verdict) = comes_once m.task task_bytes (h.took f.written) held d.verdict verdict (record { job = job; is_job = of_job; answered = subst (λ (b : List ℕ). Answered job b (h.took f.written) d.verdict) holds d.answered }) comes in
      let closes : ClosesOutput made.written held held made was_filled =
      subst (λ (s : FileSystem). ClosesOutput made.written held held made s) (sym f.releases) (subst (λ (b : List ℕ). ClosesOutput made.written b b made f.closed) one.0 f.closes.0) in
      let left : LeftAs name told was_filled done to after = part_named name (ending_fate ending) told was_filled done to after (at_part mode before made was_filled x makes closes) gone names in
      record {
        there = left.there;
        told = record {
          remarks = f.remarks;
          remarked = record { job = job; is_job = of_job; remarked = subst (λ (b : List ℕ). Remarked job b f.remarks) holds (job_remarked h r w known.all job input output made ending was_filled sound f) };
          mid = told;
          told = subst (λ (y : Ending). Reports e from told (ended_lines name y f.remarks)) (d.is ∙ ap Worked one.1) reports;
          more = left.told;
        };
        same = as_it_was h m.part held before was_filled after x.none (whole_at h m.part mode held before made was_filled makes closes) left.gone;
      }

  -- what becomes of it
  again_by : (n : Named) (bytes : List ℕ) (verdict : Verdict) (from : E) (before opened : FileSystem) (result : Result Done RunStop) (done : Done) (to : E) (after : FileSystem) → opened ≡ before → result ≡ Ok done → IsFilled n.name bytes verdict from opened done to after
      → IsMetAgain e alike n uids m.task bytes verdict from before result to after
  again_by n bytes verdict from before opened result done to after same is x = record {
    done = done;
    row = is;
    there = x.there;
    told = x.told;
    same = subst (λ (s : FileSystem). IsAsItWas s.now after.now) same x.same;
  }

  -- the file is opened, and the part is made
  by_instance : (job : Job) (n : Named) (mode : ℕ) (verdict : Verdict) (from : E) (s : FileSystem) (result : Result Done RunStop) (to : E) (after : FileSystem) → Before s → IsUtf8 n.path → (f : FileAt h Followed s.now n.path) → IsJobOf m.task (s.now.bytes (number_of f.file)) job
      → ComesTo m.task (s.now.bytes (number_of f.file)) held verdict → is_written (verdict_fate verdict) ≡ true → after.unremoved ≡ false → DoesByInstance (working {F = F} h r w e) job m n mode from s result to after → IsMetAgain e alike n uids m.task (s.now.bytes (number_of f.file)) verdict from s result to after
  by_instance job n mode verdict from s result to after x text f of_job comes written gone (instance.not_opened opens told is) = not_unopened h r w n.path s after text f opens
  by_instance job n mode verdict from s result to after x text f of_job comes written gone (instance.no_part input cause opened tried opens makes back ends) =
      let o : IsOpened h r (s.now.bytes (number_of f.file)) input s opened = is_opened h r w n.path s input opened text f opens in
      let made : PartMade h m.part mode opened (Err cause) tried = part_made {F = F} h m.part mode opened (Err cause) tried known.text (subst (λ (t : FileSystem). at_path h t.now m.part ≡ None) (sym o.same) x.none) makes in
      no_output cause made.output made.is
  by_instance job n mode verdict from s result to after x text f of_job comes written gone (instance.filled input output done opened made opens makes fills is) =
      let o : IsOpened h r (s.now.bytes (number_of f.file)) input s opened = is_opened h r w n.path s input opened text f opens in
      let here : Before opened = subst Before (sym o.same) x in
      let part : PartMade h m.part mode opened (Ok output) made = part_made {F = F} h m.part mode opened (Ok output) made known.text here.none makes in
      again_by n (s.now.bytes (number_of f.file)) verdict from s opened result done to after o.same is
      (filled job n.name mode input output (s.now.bytes (number_of f.file)) verdict from opened made done to after here part.makes (ap h.took (looking.same_ok (Ok output) part.output output part.is refl) ∙ part.new) o.sound o.holds of_job comes written gone fills)

  -- its job is found
  unnamed : (n : Named) (mode : ℕ) (verdict : Verdict) (from : E) (s : FileSystem) (result : Result Done RunStop) (to : E) (after : FileSystem) → Before s → IsUtf8 n.path → (f : FileAt h Followed s.now n.path) → ComesTo m.task (s.now.bytes (number_of f.file)) held verdict
      → is_written (verdict_fate verdict) ≡ true → after.unremoved ≡ false → DoesUnnamed (working {F = F} h r w e) m n mode from s result to after → IsMetAgain e alike n uids m.task (s.now.bytes (number_of f.file)) verdict from s result to after
  unnamed n mode verdict from s result to after x text f comes written gone (instance.no_days cause finds told is) =
      no_job_by m.task (s.now.bytes (number_of f.file)) cause comes.job comes.is_job (job_found h r w known.all m.task n.path s (Err cause) after text f finds)
  unnamed n mode verdict from s result to after x text f comes written gone (instance.has_job job mid finds does) =
      let same : mid ≡ s = jobs.finds_job h (as_whole h r) m.task n.path s (Ok job) mid (works.finds_job (working_may h r w (may_do h)) (may_do h) (working_also h r w) (as_whole h r) m.task n.path s (Ok job) mid finds) in
      by_instance job n mode verdict from s result to after x text f (job_found h r w known.all m.task n.path s (Ok job) mid text f finds) comes written gone
      (subst (λ (t : FileSystem). DoesByInstance (working {F = F} h r w e) job m n mode from t result to after) same does)

  file_again : (n : Named) (mode : ℕ) (verdict : Verdict) (from : E) (s : FileSystem) (result : Result Done RunStop) (to : E) (after : FileSystem) → m.keeps_names ≡ false → is_media_index n.relative ≡ false → Before s → IsUtf8 n.path → (f : FileAt h Followed s.now n.path)
      → ComesTo m.task (s.now.bytes (number_of f.file)) held verdict → is_written (verdict_fate verdict) ≡ true → after.unremoved ≡ false → DoesFile (working {F = F} h r w e) m n mode from s result to after → IsMetAgain e alike n uids m.task (s.now.bytes (number_of f.file)) verdict from s result to after
  file_again n mode verdict from s result to after by no_index x text f comes written gone (files.an_index index told is same) = true_false (is_media_index n.relative) index no_index
  file_again n mode verdict from s result to after by no_index x text f comes written gone (files.keeps_name became index kept does is) = true_false m.keeps_names kept by
  file_again n mode verdict from s result to after by no_index x text f comes written gone (files.by_instance index not does) = unnamed n mode verdict from s result to after x text f comes written gone does

-- ---- a name

-- what is known of the paths
pub record Leads {I O : Type 0} (h : Host I O) (part output : List ℕ) (uids : Uids) (made : List ℕ) : Type 0 where
  pub text : IsUtf8 part
  pub part_leads : h.leads Followed part ≡ place_of h part
  pub path_leads : h.leads Followed (below output (instance_name uids)) ≡ place_of h (below output (instance_name uids))
  pub fits : length made ≤ INPUT_LIMIT

-- where only the end of it is told
as_done : {E : Type 0} (e : Writer E) (n : Named) (uids : Uids) (task : Task) (bytes : List ℕ) (verdict : Verdict) (from : E) (before : FileSystem) (result : Result Done RunStop) (to : E) (after : FileSystem) → IsMetAgain e true n uids task bytes verdict from before result to after → IsDoneAgain e n uids task bytes verdict from before result to after
as_done e n uids task bytes verdict from before result to after x = record {
  done = x.done;
  row = x.row;
  there = record { fate_is = x.there.fate_is; named = x.there.named };
  told = record { remarks = x.told.remarks; remarked = x.told.remarked; mid = x.told.mid; told = x.told.told; no_more = x.told.more };
  same = x.same;
}

pub copy_again : {I O F E : Type 0} (h : Host I O) (r : Reader I) (w : Writer O) (e : Writer E) (m : Manner) (n : Named) (mode : ℕ) (uids : Uids) (from : E) (before : FileSystem) (result : Result Done RunStop) (to : E) (after : FileSystem) → TellsAll h w → m.keeps_names ≡ false
    → is_media_index n.relative ≡ false → at_path h before.now m.part ≡ None → (c : HasCopy h m.task m.output before.now n.path uids) → Leads h m.part m.output uids c.made → DoesName (working {F = F} h r w e) m n (File mode) from before result to after → after.unremoved ≡ false
    → IsDoneAgain e n uids m.task (before.now.bytes (number_of c.input.file)) c.verdict from before result to after
copy_again {I} {O} {F} h r w e m n mode uids from before result to after tells by no_index none c leads (files.a_file other is does) gone =
    as_done e n uids m.task (before.now.bytes (number_of c.input.file)) c.verdict from before result to after
    (file_again F h r w e m uids c.made true
    (record { all = whole_gives h r w tells; text = leads.text; leads_part = leads.part_leads; leads_path = leads.path_leads; names = c.names; fits = λ so. leads.fits }) n mode c.verdict from before result to after by no_index
    (record { none = none; there = c.there; same = c.same }) c.text c.input c.comes c.done gone (subst (λ (k : ℕ). DoesFile (working {F = F} h r w e) m n k from before result to after) (sym (same_mode mode other is)) does))
copy_again h r w e m n mode uids from before result to after tells by no_index none c leads (files.no_file other told is same) gone = absurd (other mode refl)

-- where nothing is there, or a file, no link is
pub none_other : {I O : Type 0} (h : Host I O) (t : Tree) (path : List ℕ) → at_path h t path ≡ None → (f : Found) → at_path h t path ≡ Some f → f.kind ≢ kinds.Other
none_other h t path none f is kind = none_or_some (at_path h t path) f none is

pub no_link : (o : Option Found) (f g : Found) → o ≡ Some f → f.kind ≡ kinds.File → o ≡ Some g → g.kind ≢ kinds.Other
no_link o f g is file at other = file_other (sym file ∙ ap (λ (x : Found). x.kind) (one_value o f g is at) ∙ other)

pub leads_by : {I O : Type 0} (h : Host I O) (part output : List ℕ) (t : Tree) (uids : Uids) (made : List ℕ) → FollowsLinks h t → FilesFit t → IsUtf8 part → at_path h t part ≡ None → (there : IsThere h output (instance_name uids) t) → t.bytes (number_of there.file.found) ≡ made
    → Leads h part output uids made
leads_by h part output t uids made follows fits text none there is = record {
  text = text;
  part_leads = follows part (none_other h t part none);
  path_leads = follows (below output (instance_name uids)) (λ f at. no_link (at_path h t (below output (instance_name uids))) there.file.found f there.file.is there.file.kind_is at);
  fits = subst (λ (b : List ℕ). length b ≤ INPUT_LIMIT) is (fits (place_of h (below output (instance_name uids))) there.file.found there.file.is);
}

pub copy_is_left : {I O F E : Type 0} (r : Reader I) (w : Writer O) (e : Writer E) → CopyIsLeft F r w e
copy_is_left {I} {O} {F} r w e h m n mode uids from before result to after tells by no_index text none follows fits c does gone =
    copy_again {F = F} h r w e m n mode uids from before result to after tells by no_index none c (leads_by h m.part m.output before.now uids c.made follows fits text none c.there c.same) does gone

-- another file that is there is left too
pub other_again : {I O F E : Type 0} (h : Host I O) (r : Reader I) (w : Writer O) (e : Writer E) (m : Manner) (n : Named) (mode : ℕ) (uids : Uids) (from : E) (before : FileSystem) (result : Result Done RunStop) (to : E) (after : FileSystem) → TellsAll h w → m.keeps_names ≡ false
    → is_media_index n.relative ≡ false → IsUtf8 m.part → at_path h before.now m.part ≡ None → h.leads Followed m.part ≡ place_of h m.part → (c : HasOther h m.task m.output before.now n.path uids) → h.leads Followed (below m.output (instance_name uids)) ≡ place_of h (below m.output (instance_name uids))
    → before.now.bytes (number_of c.there.file.found) ≢ c.made → DoesName (working {F = F} h r w e) m n (File mode) from before result to after → after.unremoved ≡ false → IsMetAgain e false n uids m.task (before.now.bytes (number_of c.input.file)) c.verdict from before result to after
other_again {I} {O} {F} h r w e m n mode uids from before result to after tells by no_index text none part_leads c path_leads others (files.a_file other is does) gone =
    file_again F h r w e m uids c.made false
    (record { all = whole_gives h r w tells; text = text; leads_part = part_leads; leads_path = path_leads; names = c.names; fits = λ so. absurd (cc) }) n mode c.verdict from before result to after by no_index
    (record { none = none; there = c.there; same = others }) c.text c.input c.comes c.is_done gone (subst (λ (k : ℕ). DoesFile (working {F = F} h r w e) m n k from before result to after) (sym (same_mode mode other is)) does)
other_again h r w e m n mode uids from before result to after tells by no_index text none part_leads c path_leads others (files.no_file other told is same) gone = absurd (other mode refl)
