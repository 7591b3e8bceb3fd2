-- What becomes of a file that ends so is determined by what is in the folder of the outputs, where no call fails that need not.
use Rattle.std.proofs.Common.{◌≡◌, ◌∙◌, refl, sym, ap, subst, ℕ, ◌+◌, ◌≤◌, List, [], length, Bool, true, false, Option, Some, None, Result, Ok, Err}
use Rattle.std.specs.Prelude.{◌≢◌}
use Rattle.std.specs.Str.{IsUtf8}
use Rattle.dcm_lemmas.proofs.Options.{one_value}
use Rattle.dcm_lemmas.proofs.Truth.{true_false}
use Rattle.dcm_base.specs.Reading.Reads.{INPUT_LIMIT}
use Rattle.dcm_devices.specs.Writing.{Writer}
use Rattle.dcm_files.specs.declared.folders.Found.{Found}
use Rattle.dcm_files.specs.declared.folders.FoundKind.TheVariants as kinds
use Rattle.dcm_files.specs.declared.folders.Links.TheVariants.{Followed}
use Rattle.dcm_instance.specs.declared.names.Instance.{Instance}
use Rattle.dcm_instance.specs.declared.names.NoInstance.{NoInstance}
use Rattle.dcm_instance.specs.ReadInstance.{FileNames}
use Rattle.dcm_instance.specs.Uids.{Uids, instance_name, uids_of}
use Rattle.dcm_walk.specs.Names.{below, leads_below}
use Rattle.dcm_walk.specs.Visits.{Named}
use Rattle.dcm_walk.specs.declared.visitor.What.{What}
use Rattle.dcm_walk.specs.declared.visitor.What.TheVariants.{File}
use Rattle.dcm_words.specs.Words.{Job}
use Rattle.dcm_cli.specs.Calls.{Reader}
use Rattle.dcm_cli.specs.declared.ending.Ending.TheVariants.{Worked}
use Rattle.dcm_cli.specs.declared.ending.Verdict.{Verdict}
use Rattle.dcm_cli.specs.Run.{Answered}
use Rattle.dcm_trees.specs.declared.fate.Fate.{Fate}
use Rattle.dcm_trees.specs.declared.fate.Fate.TheVariants as fates
use Rattle.dcm_trees.specs.declared.file.Done.{Done}
use Rattle.dcm_trees.specs.declared.part.Naming.{Naming}
use Rattle.dcm_trees.specs.declared.progress.Stop.{Stop as RunStop}
use Rattle.dcm_trees.specs.declared.task.NoDays.{NoDays}
use Rattle.dcm_trees.specs.declared.task.NoDays.TheVariants as no_days
use Rattle.dcm_trees.specs.Fate.{is_written}
use Rattle.dcm_trees.specs.File as files
use Rattle.dcm_trees.specs.File.{DoesFile, DoesName, is_media_index}
use Rattle.dcm_trees.specs.Instance as instance
use Rattle.dcm_trees.specs.Instance.{PlacesPart, NamesBy, NamesPart, FillsByInstance, DoesByInstance, DoesUnnamed, is_there, name_of_instance, no_instance_fate, without_name}
use Rattle.dcm_trees.specs.Lines.{ending_fate, verdict_fate, no_days_fate}
use Rattle.dcm_trees.specs.Manner.{Manner}
use Rattle.dcm_trees.specs.Part as parts
use Rattle.dcm_trees.specs.Part.{RemovesPart, ClearsPart, is_moved, naming_fate}
use Rattle.dcm_trees.specs.Place.{path_in}
use Rattle.dcm_trees.specs.Task.{Task}
use Rattle.dcm_tree_laws.specs.Determined.{FileAt, FollowsLinks, ComesTo, FileEnd, was_done, no_job, EndsAs, by_job, by_days_of, working_may, as_whole, working}
use Rattle.dcm_tree_laws.specs.FileSystem.{FileSystem, Tree, Host, Number, number_of, place_of as path_place, at_path, may_do, MakesFile, TakesPieces, no_piece, and_piece, ClosesOutput, Removes, SameNames}
use Rattle.dcm_tree_laws.specs.Flows.{SameOutputs}
use Rattle.dcm_tree_laws.specs.Single.{IsJobOf}
use Rattle.dcm_tree_laws.specs.Stays.{IsOfOutput, within}
use Rattle.dcm_tree_laws.proofs.Alike.{Changes, both_change, Keeps, new_keeps}
use Rattle.dcm_tree_laws.proofs.Below.{file_leads, way_is_within}
use Rattle.dcm_tree_laws.proofs.CopyLeft.{WholeAt, whole_at, no_job_by, no_output, removed}
use Rattle.dcm_tree_laws.proofs.Ends.{comes_once, one_instance, has_days}
use Rattle.dcm_tree_laws.proofs.Files.{path_is}
use Rattle.dcm_tree_laws.proofs.Held.{GivesAll}
use Rattle.dcm_tree_laws.proofs.Jobs as jobs
use Rattle.dcm_tree_laws.proofs.Left.{same_mode}
use Rattle.dcm_tree_laws.proofs.Looking as looking
use Rattle.dcm_tree_laws.proofs.Onwards.{IsFileAt}
use Rattle.dcm_tree_laws.proofs.Placing.{Gives, gives, gives_keeps, gives_stay, gives_file, NamedAlike, IsPlaced, gives_once, Copied, copied, copied_once}
use Rattle.dcm_tree_laws.proofs.Working.{working_also, IsOpened, is_opened, not_unopened, JobIs, job_found, HasDone, job_done, PartMade, part_made, instance_found}
use Rattle.dcm_tree_laws.proofs.Works as works

-- ---- what becomes of it

-- the part has these bytes, and nothing else is changed
pub record Filled {I O : Type 0} (h : Host I O) (part : List ℕ) (mode : ℕ) (held : List ℕ) (before after : FileSystem) : Type 0 where
  pub file : Found
  pub kind : file.kind ≡ kinds.File
  pub mode_is : file.mode ≡ h.masked mode
  pub bytes : after.now.bytes (number_of file) ≡ held
  pub change : Changes (path_place h part) (Some file) before.now after.now

-- it gets the name of an output, or not, and is removed
pub record PlacesAs {I O : Type 0} (h : Host I O) (output part : List ℕ) (held path : List ℕ) (fate : Fate) (before : FileSystem) (became : Fate) (after : FileSystem) : Type 0 where
  pub naming : Naming
  pub same : Bool
  pub named : FileSystem
  pub given : Gives h part path (length output + 1) before naming named
  pub copy : Copied h path held named naming same
  pub gone : Removes h part named after
  pub becomes : became ≡ naming_fate naming fate same

abbrev pub PlacesIn : {I O : Type 0} → Host I O → (output part : List ℕ) → (held : List ℕ) → Fate → FileSystem → Fate → FileSystem → Option (List ℕ) → Type 0
PlacesIn h output part held fate before became after None = (became ≡ fates.Unwritten) × Removes h part before after
PlacesIn h output part held fate before became after (Some path) = PlacesAs h output part held path fate before became after

abbrev pub NamedBy : {I O : Type 0} → Host I O → (output part : List ℕ) → (held : List ℕ) → Fate → FileSystem → Fate → FileSystem → Result Uids NoInstance → Type 0
NamedBy h output part held fate before became after (Err cause) = (became ≡ no_instance_fate cause) × Removes h part before after
NamedBy h output part held fate before became after (Ok uids) = PlacesIn h output part held fate before became after (path_in output (instance_name uids))

pub record NamesAs {I O : Type 0} (h : Host I O) (output part : List ℕ) (held : List ℕ) (fate : Fate) (before : FileSystem) (became : Fate) (after : FileSystem) : Type 0 where
  pub answer : Result Uids NoInstance
  pub names : FileNames held answer
  pub by : NamedBy h output part held fate before became after answer

abbrev pub EndsBy : {I O : Type 0} → Host I O → (output part : List ℕ) → (held : List ℕ) → Fate → FileSystem → Fate → FileSystem → Bool → Type 0
EndsBy h output part held fate before became after false = (became ≡ fate) × Removes h part before after
EndsBy h output part held fate before became after true = NamesAs h output part held fate before became after

pub record DoneAs {I O : Type 0} (h : Host I O) (output part : List ℕ) (mode : ℕ) (held : List ℕ) (fate : Fate) (before : FileSystem) (became : Fate) (after : FileSystem) : Type 0 where
  pub filled : FileSystem
  pub fills : Filled h part mode held before filled
  pub ends : EndsBy h output part held fate filled became after (is_written fate)

abbrev pub Becomes : {I O : Type 0} → Host I O → (output part : List ℕ) → (mode : ℕ) → FileSystem → Fate → FileSystem → FileEnd → Type 0
Becomes h output part mode before became after (no_job stop) = (became ≡ fates.Refused) × (after ≡ before)
Becomes h output part mode before became after (was_done held verdict) = DoneAs h output part mode held (verdict_fate verdict) before became after

-- ---- in two systems

-- the same becomes of it, and the outputs are the same again
pub record BecomeAlike {I O : Type 0} (h : Host I O) (output : List ℕ) (one other : Fate) (v w : FileSystem) : Type 0 where
  pub fate : one ≡ other
  pub same : SameOutputs h output v.now w.now

gone_change : {I O : Type 0} (h : Host I O) (part : List ℕ) (s after : FileSystem) → Removes h part s after → Changes (path_place h part) None s.now after.now
gone_change h part s after gone = record { there = gone.puts.there; elsewhere = gone.puts.elsewhere; bytes = λ other f is. gone.bytes (number_of f) }

both_gone : {I O : Type 0} (h : Host I O) (output part : List ℕ) (one other : Fate) (s u v w : FileSystem) → one ≡ other → SameOutputs h output s.now u.now → Removes h part s v → Removes h part u w → BecomeAlike h output one other v w
both_gone h output part one other s u v w is same first second = record {
  fate = is;
  same = both_change h output part s.now u.now v.now w.now None None same (gone_change h part s v first) (gone_change h part u w second) tt;
}

naming_once : (n k : Naming) (fate : Fate) (one other : Bool) → n ≡ k → one ≡ other → naming_fate n fate one ≡ naming_fate k fate other
naming_once n k fate one other is same = ap (λ (x : Naming). naming_fate x fate one) is ∙ ap (λ (b : Bool). naming_fate k fate b) same

module _ {I O : Type 0} (h : Host I O) (output part : List ℕ) (of_output : IsOfOutput output part) (held : List ℕ) (fate : Fate) where
  places_once : (path relative : List ℕ) → path ≡ below output relative → leads_below relative ≡ true → (s u : FileSystem) (one other : Fate) (v w : FileSystem) → SameOutputs h output s.now u.now → PlacesAs h output part held path fate s one v → PlacesAs h output part held path fate u other w → BecomeAlike h output one other v w
  places_once path relative is leads s u one other v w same x y =
      let placed : IsPlaced output part path (length output + 1) = record {
        part_of = of_output;
        path_of = within relative leads is;
        way_of = λ at size least slash. way_is_within output relative path is leads at size least slash;
      } in
      let named : NamedAlike h output x.naming y.naming x.named y.named = gives_once h output part path (length output + 1) s u x.naming y.naming x.named y.named placed same x.given y.given in
      let copy : x.same ≡ y.same = copied_once h output path held x.named y.named x.naming y.naming x.same y.same (within relative leads is) named x.copy y.copy in
      both_gone h output part one other x.named y.named v w (x.becomes ∙ naming_once x.naming y.naming fate x.same y.same named.naming copy ∙ sym y.becomes) named.same x.gone y.gone

  places_in_once : (name : List ℕ) (o : Option (List ℕ)) → path_in output name ≡ o → leads_below name ≡ true → (s u : FileSystem) (one other : Fate) (v w : FileSystem) → SameOutputs h output s.now u.now → PlacesIn h output part held fate s one v o → PlacesIn h output part held fate u other w o → BecomeAlike h output one other v w
  places_in_once name None is leads s u one other v w same x y = both_gone h output part one other s u v w (x.0 ∙ sym y.0) same x.1 y.1
  places_in_once name (Some path) is leads s u one other v w same x y = places_once path name (path_is output name path is) leads s u one other v w same x y

  named_once : (answer : Result Uids NoInstance) → FileNames held answer → (s u : FileSystem) (one other : Fate) (v w : FileSystem) → SameOutputs h output s.now u.now → NamedBy h output part held fate s one v answer → NamedBy h output part held fate u other w answer → BecomeAlike h output one other v w
  named_once (Err cause) names s u one other v w same x y = both_gone h output part one other s u v w (x.0 ∙ sym y.0) same x.1 y.1
  named_once (Ok uids) names s u one other v w same x y = places_in_once (instance_name uids) (path_in output (instance_name uids)) refl (file_leads held uids names) s u one other v w same x y

  ends_once : (written : Bool) (s u : FileSystem) (one other : Fate) (v w : FileSystem) → SameOutputs h output s.now u.now → EndsBy h output part held fate s one v written → EndsBy h output part held fate u other w written → BecomeAlike h output one other v w
  ends_once false s u one other v w same x y = both_gone h output part one other s u v w (x.0 ∙ sym y.0) same x.1 y.1
  ends_once true s u one other v w same x y =
      named_once x.answer x.names s u one other v w same x.by (subst (NamedBy h output part held fate u other w) (one_instance held y.answer x.answer y.names x.names) y.by)

filled_once : {I O : Type 0} (h : Host I O) (output part : List ℕ) (mode : ℕ) (held : List ℕ) (s u v w : FileSystem) → SameOutputs h output s.now u.now → Filled h part mode held s v → Filled h part mode held u w → SameOutputs h output v.now w.now
filled_once h output part mode held s u v w same x y =
    both_change h output part s.now u.now v.now w.now (Some x.file) (Some y.file) same x.change y.change (x.kind ∙ sym y.kind, λ file. (x.mode_is ∙ sym y.mode_is, x.bytes ∙ sym y.bytes))

pub becomes_once : {I O : Type 0} (h : Host I O) (output part : List ℕ) → IsOfOutput output part → (mode : ℕ) (end : FileEnd) (s u : FileSystem) (one other : Fate) (v w : FileSystem) → SameOutputs h output s.now u.now → Becomes h output part mode s one v end → Becomes h output part mode u other w end
    → BecomeAlike h output one other v w
becomes_once h output part of_output mode (no_job stop) s u one other v w same x y = record {
  fate = x.0 ∙ sym y.0;
  same = subst (λ (z : FileSystem). SameOutputs h output z.now w.now) (sym x.1) (subst (λ (z : FileSystem). SameOutputs h output s.now z.now) (sym y.1) same);
}
becomes_once h output part of_output mode (was_done held verdict) s u one other v w same x y =
    ends_once h output part of_output held (verdict_fate verdict) (is_written (verdict_fate verdict)) x.filled y.filled one other v w (filled_once h output part mode held s u x.filled y.filled same x.fills y.fills) x.ends y.ends

-- ---- in one system

pieces_names : (n : Number) (held : List ℕ) (before after : FileSystem) → TakesPieces n held before after → SameNames before.now after.now
pieces_names n held before after (no_piece same) = λ place. ap (λ (s : FileSystem). s.now.at place) same
pieces_names n held before after (and_piece mid front rest more is takes) = λ place. takes.names place ∙ pieces_names n held before mid more place

closed_names : (written : Option Number) (held kept : List ℕ) (before after : FileSystem) → ClosesOutput written held kept before after → SameNames before.now after.now
closed_names (Some n) held kept before after c = λ place. c.names place ∙ pieces_names n held before c.last c.pieces place
closed_names None held kept before after same = λ place. ap (λ (s : FileSystem). s.now.at place) same

filled_by : {I O : Type 0} (h : Host I O) (part : List ℕ) (mode : ℕ) (held : List ℕ) (before made after : FileSystem) → MakesFile h part mode before made → ClosesOutput made.written held held made after → Filled h part mode held before after
filled_by h part mode held before made after makes closes =
    let whole : WholeAt h part held before.now after.now = whole_at h part mode held before made after makes closes in
    let one : whole.file ≡ makes.made =
    one_value (at_path h after.now part) whole.file makes.made whole.at (closed_names made.written held held made after closes (path_place h part) ∙ makes.puts.there) in
    record {
      file = whole.file;
      kind = whole.kind;
      mode_is = ap (λ (f : Found). f.mode) one ∙ makes.mode_is;
      bytes = whole.bytes;
      change = record { there = whole.at; elsewhere = whole.elsewhere; bytes = λ other f is. whole.others other f is };
    }

pub follows_kept : {I O : Type 0} (h : Host I O) (t u : Tree) → Keeps t u → FollowsLinks h t → FollowsLinks h u
follows_kept h t u keeps follows = λ path no_other. follows path (λ f at. no_other f (keeps.there (path_place h path) f at))

no_kind : (g : Found) → g.kind ≡ kinds.File → g.kind ≡ kinds.Other → ⊥
no_kind g a b = absurd (cc)

file_no_other : {I O : Type 0} (h : Host I O) (t : Tree) (path : List ℕ) → (x : IsFileAt h t path) → (f : Found) → at_path h t path ≡ Some f → f.kind ≢ kinds.Other
file_no_other h t path x f at other = no_kind f (subst (λ (y : Found). y.kind ≡ kinds.File) (one_value (at_path h t path) x.found f x.is at) x.kind) other

same_done : (result : Result Done RunStop) (one other : Done) → result ≡ Ok one → result ≡ Ok other → one ≡ other
same_done result one other a b = cc

refused : (task : Task) (held : List ℕ) (cause : NoDays) → JobIs task held (Err cause) → no_days_fate cause ≡ fates.Refused
refused task held (no_days.Refused stop) none = refl
refused task held (no_days.Unread count) none = absurd none
refused task held no_days.Unopened none = absurd none

module _ {I O E : Type 0} (F : Type 0) (h : Host I O) (r : Reader I) (w : Writer O) (e : Writer E) (m : Manner) (all : GivesAll h (as_whole h r) w) (text : IsUtf8 m.part) (leads : h.leads Followed m.part ≡ path_place h m.part) where
  -- the part is whole
  record AtPart (held : List ℕ) (s : FileSystem) : Type 0 where
    file : Found
    at : at_path h s.now m.part ≡ Some file
    kind : file.kind ≡ kinds.File
    bytes : s.now.bytes (number_of file) ≡ held
    follows : FollowsLinks h s.now

  part_file : (held : List ℕ) (s : FileSystem) → AtPart held s → FileAt h Followed s.now m.part
  part_file held s x = record { file = x.file; is = ap s.now.at leads ∙ x.at; kind = x.kind }

  part_stays : (held : List ℕ) (s after : FileSystem) → Keeps s.now after.now → AtPart held s → AtPart held after
  part_stays held s after keeps x = record {
    file = x.file;
    at = keeps.there (path_place h m.part) x.file x.at;
    kind = x.kind;
    bytes = keeps.bytes (path_place h m.part) x.file x.at ∙ x.bytes;
    follows = follows_kept h s.now after.now keeps x.follows;
  }

  clears : (naming : Naming) (s after : FileSystem) → is_moved naming ≡ false → after.unremoved ≡ false → ClearsPart (working_may h r w (may_do h)) naming m.part s after → Removes h m.part s after
  clears naming s after stays gone (parts.moved is same) = true_false (is_moved naming) is stays
  clears naming s after stays gone (parts.removed is removes) = removed h r w m.part s after text gone removes

  places : (name path held : List ℕ) (fate : Fate) (from : E) (s : FileSystem) (became : Fate) (to : E) (after : FileSystem) → length held ≤ INPUT_LIMIT → AtPart held s → after.unremoved ≡ false → PlacesPart (working {F = F} h r w e) m name path fate from s became to after → PlacesAs h m.output m.part held path fate s became after
  unfolding part_file part_stays
  places name path held fate from s became to after fits x gone p =
      let given : Gives h m.part path (length m.output + 1) s p.naming p.named = gives F h r w m.part path (length m.output + 1) text x.file s p.naming p.named x.at p.gives in
      let there : AtPart held p.named = part_stays held s p.named (gives_keeps h m.part path (length m.output + 1) s p.naming p.named given) x in
      let same : p.compared ≡ p.named =
      jobs.finds_copy h (as_whole h r) p.naming m.part path p.named p.same p.compared (works.finds_copy (working_may h r w (may_do h)) (may_do h) (working_also h r w) (as_whole h r) p.naming m.part path p.named p.same p.compared p.copy) in
      record {
        naming = p.naming;
        same = p.same;
        named = p.named;
        given = given;
        copy = copied h r w m.part path held p.named p.naming p.same p.compared all text (part_file held p.named there) there.bytes fits (gives_file h m.part path (length m.output + 1) s p.naming p.named given)
            (λ f. there.follows path (file_no_other h p.named.now path f)) p.copy;
        gone = clears p.naming p.named after (gives_stay h m.part path (length m.output + 1) s p.naming p.named given) gone
            (subst (λ (t : FileSystem). ClearsPart (working_may h r w (may_do h)) p.naming m.part t after) same p.clears);
        becomes = p.becomes;
      }

  named_by : (name held : List ℕ) (i : Instance) (fate : Fate) (from : E) (s : FileSystem) (done : Done) (to : E) (after : FileSystem) → length held ≤ INPUT_LIMIT → AtPart held s → after.unremoved ≡ false → NamesBy (working {F = F} h r w e) m name i fate from s done to after
      → PlacesIn h m.output m.part held fate s done.fate after (path_in m.output (instance_name (uids_of i)))
  named_by name held i fate from s done to after fits x gone (instance.too_long none removes told is) =
      subst (PlacesIn h m.output m.part held fate s done.fate after) (sym none) (ap (λ (d : Done). d.fate) is, removed h r w m.part s after text gone removes)
  named_by name held i fate from s done to after fits x gone (instance.placed path became relative at p rel is) =
      subst (PlacesIn h m.output m.part held fate s done.fate after) (sym at)
      (subst (λ (f : Fate). PlacesAs h m.output m.part held path fate s f after) (sym (ap (λ (d : Done). d.fate) is)) (places name path held fate from s became to after fits x gone p))

  named : (name held : List ℕ) (fate : Fate) (from : E) (s : FileSystem) (done : Done) (to : E) (after : FileSystem) → length held ≤ INPUT_LIMIT → AtPart held s → after.unremoved ≡ false → NamesPart (working {F = F} h r w e) m name fate from s done to after → NamesAs h m.output m.part held fate s done.fate after
  unfolding part_file
  named name held fate from s done to after fits x gone (instance.no_instance cause read f removes told is) =
      let found : FileNames (s.now.bytes (number_of x.file)) (Err cause) = instance_found h r w all m.part s (Err cause) read text (part_file held s x) f in
      let same : read ≡ s = jobs.finds_instance h (as_whole h r) m.part s (Err cause) read (works.finds_instance (working_may h r w (may_do h)) (may_do h) (working_also h r w) (as_whole h r) m.part s (Err cause) read f) in
      record {
        answer = Err cause;
        names = subst (λ (b : List ℕ). FileNames b (Err cause)) x.bytes found;
        by = (ap (λ (d : Done). d.fate) is, removed h r w m.part s after text gone (subst (λ (t : FileSystem). RemovesPart (working_may h r w (may_do h)) m.part t after) same removes));
      }
  named name held fate from s done to after fits x gone (instance.has_instance i read f n) =
      let found : FileNames (s.now.bytes (number_of x.file)) (Ok (uids_of i)) = instance_found h r w all m.part s (Ok i) read text (part_file held s x) f in
      let same : read ≡ s = jobs.finds_instance h (as_whole h r) m.part s (Ok i) read (works.finds_instance (working_may h r w (may_do h)) (may_do h) (working_also h r w) (as_whole h r) m.part s (Ok i) read f) in
      record {
        answer = Ok (uids_of i);
        names = subst (λ (b : List ℕ). FileNames b (Ok (uids_of i))) x.bytes found;
        by = named_by name held i fate from s done to after fits x gone (subst (λ (t : FileSystem). NamesBy (working {F = F} h r w e) m name i fate from t done to after) same n);
      }

  -- before the part is made
  record Before (s : FileSystem) : Type 0 where
    none : at_path h s.now m.part ≡ None
    follows : FollowsLinks h s.now

  at_part : (mode : ℕ) (held : List ℕ) (s filled : FileSystem) → Before s → Filled h m.part mode held s filled → AtPart held filled
  at_part mode held s filled x f = record {
    file = f.file;
    at = f.change.there;
    kind = f.kind;
    bytes = f.bytes;
    follows = follows_kept h s.now filled.now (new_keeps (path_place h m.part) (Some f.file) s.now filled.now x.none f.change) x.follows;
  }

  fills : (job : Job) (name : List ℕ) (mode : ℕ) (input : I) (output : O) (bytes held : List ℕ) (verdict : Verdict) (from : E) (before made : FileSystem) (done : Done) (to : E) (after : FileSystem) → length held ≤ INPUT_LIMIT → Before before → MakesFile h m.part mode before made → h.took output ≡ []
      → r.has_failed input ≡ false → h.holds input ≡ bytes → IsJobOf m.task bytes job → ComesTo m.task bytes held verdict → after.unremoved ≡ false → FillsByInstance (working {F = F} h r w e) job m name input output from made done to after
      → DoneAs h m.output m.part mode held (verdict_fate verdict) before done.fate after
  fills job name mode input output bytes held verdict from before made done to after fits x makes new sound holds of_job comes gone (instance.not_done ending filled f not told removes is) =
      let d : HasDone job (h.holds input) (h.took f.written) ending = job_done h r w all job input output made ending filled sound new f in
      let one : (h.took f.written ≡ held) × (d.verdict ≡ verdict) = comes_once m.task bytes (h.took f.written) held d.verdict verdict (record { job = job; is_job = of_job; answered = subst (λ (b : List ℕ). Answered job b (h.took f.written) d.verdict) holds d.answered }) comes in
      let fate : ending_fate ending ≡ verdict_fate verdict = ap ending_fate (d.is ∙ ap Worked one.1) in
      let closes : ClosesOutput made.written held held made filled =
      subst (λ (s : FileSystem). ClosesOutput made.written held held made s) (sym f.releases) (subst (λ (b : List ℕ). ClosesOutput made.written b b made f.closed) one.0 f.closes.0) in
      record {
        filled = filled;
        fills = filled_by h m.part mode held before made filled makes closes;
        ends = subst (EndsBy h m.output m.part held (verdict_fate verdict) filled done.fate after) (sym (sym (ap is_written fate) ∙ not)) (ap (λ (x : Done). x.fate) is ∙ fate, removed h r w m.part filled after text gone removes);
      }
  fills job name mode input output bytes held verdict from before made done to after fits x makes new sound holds of_job comes gone (instance.has_done ending filled told f is reports names) =
      let d : HasDone job (h.holds input) (h.took f.written) ending = job_done h r w all job input output made ending filled sound new f in
      let one : (h.took f.written ≡ held) × (d.verdict ≡ verdict) = comes_once m.task bytes (h.took f.written) held d.verdict verdict (record { job = job; is_job = of_job; answered = subst (λ (b : List ℕ). Answered job b (h.took f.written) d.verdict) holds d.answered }) comes in
      let fate : ending_fate ending ≡ verdict_fate verdict = ap ending_fate (d.is ∙ ap Worked one.1) in
      let closes : ClosesOutput made.written held held made filled =
      subst (λ (s : FileSystem). ClosesOutput made.written held held made s) (sym f.releases) (subst (λ (b : List ℕ). ClosesOutput made.written b b made f.closed) one.0 f.closes.0) in
      let full : Filled h m.part mode held before filled = filled_by h m.part mode held before made filled makes closes in
      record {
        filled = filled;
        fills = full;
        ends = subst (EndsBy h m.output m.part held (verdict_fate verdict) filled done.fate after) (sym (sym (ap is_written fate) ∙ is))
            (subst (λ (x : Fate). NamesAs h m.output m.part held x filled done.fate after) fate (named name held (ending_fate ending) told filled done to after fits (at_part mode held before filled x full) gone names));
      }

  by_instance : (job : Job) (n : Named) (mode : ℕ) (held : List ℕ) (verdict : Verdict) (from : E) (s : FileSystem) (result : Result Done RunStop) (done : Done) (to : E) (after : FileSystem) → length held ≤ INPUT_LIMIT → Before s → IsUtf8 n.path → (f : FileAt h Followed s.now n.path)
      → IsJobOf m.task (s.now.bytes (number_of f.file)) job → ComesTo m.task (s.now.bytes (number_of f.file)) held verdict → after.unremoved ≡ false → result ≡ Ok done → DoesByInstance (working {F = F} h r w e) job m n mode from s result to after
      → DoneAs h m.output m.part mode held (verdict_fate verdict) s done.fate after
  by_instance job n mode held verdict from s result done to after fits x has f of_job comes gone ok (instance.not_opened opens told is) = not_unopened h r w n.path s after has f opens
  by_instance job n mode held verdict from s result done to after fits x has f of_job comes gone ok (instance.no_part input cause opened tried opens makes back ends) =
      let o : IsOpened h r (s.now.bytes (number_of f.file)) input s opened = is_opened h r w n.path s input opened has f opens in
      let made : PartMade h m.part mode opened (Err cause) tried = part_made {F = F} h m.part mode opened (Err cause) tried text (subst (λ (t : FileSystem). at_path h t.now m.part ≡ None) (sym o.same) x.none) makes in
      no_output cause made.output made.is
  by_instance job n mode held verdict from s result done to after fits x has f of_job comes gone ok (instance.filled input output became opened made opens makes fill is) =
      let o : IsOpened h r (s.now.bytes (number_of f.file)) input s opened = is_opened h r w n.path s input opened has f opens in
      let here : Before opened = subst Before (sym o.same) x in
      let part : PartMade h m.part mode opened (Ok output) made = part_made {F = F} h m.part mode opened (Ok output) made text here.none makes in
      let one : became ≡ done = same_done result became done is ok in
      subst (λ (t : FileSystem). DoneAs h m.output m.part mode held (verdict_fate verdict) t done.fate after) o.same
      (subst (λ (d : Done). DoneAs h m.output m.part mode held (verdict_fate verdict) opened d.fate after) one
      (fills job n.name mode input output (s.now.bytes (number_of f.file)) held verdict from opened made became to after fits here part.makes (ap h.took (looking.same_ok (Ok output) part.output output part.is refl) ∙ part.new) o.sound o.holds of_job comes gone fill))

  by_end : (n : Named) (mode : ℕ) (end : FileEnd) (from : E) (s : FileSystem) (result : Result Done RunStop) (done : Done) (to : E) (after : FileSystem) → ((held : List ℕ) (verdict : Verdict) → end ≡ was_done held verdict → length held ≤ INPUT_LIMIT) → Before s → IsUtf8 n.path
      → (f : FileAt h Followed s.now n.path) → EndsAs m.task (s.now.bytes (number_of f.file)) end → after.unremoved ≡ false → result ≡ Ok done → DoesUnnamed (working {F = F} h r w e) m n mode from s result to after → Becomes h m.output m.part mode s done.fate after end
  by_end n mode end from s result done to after fits x has f (by_job held verdict comes is) gone ok (instance.no_days cause finds told at) =
      no_job_by m.task (s.now.bytes (number_of f.file)) cause comes.job comes.is_job (job_found h r w all m.task n.path s (Err cause) after has f finds)
  by_end n mode end from s result done to after fits x has f (by_job held verdict comes is) gone ok (instance.has_job job mid finds does) =
      let same : mid ≡ s = jobs.finds_job h (as_whole h r) m.task n.path s (Ok job) mid (works.finds_job (working_may h r w (may_do h)) (may_do h) (working_also h r w) (as_whole h r) m.task n.path s (Ok job) mid finds) in
      subst (Becomes h m.output m.part mode s done.fate after) (sym is)
      (by_instance job n mode held verdict from s result done to after (fits held verdict is) x has f (job_found h r w all m.task n.path s (Ok job) mid has f finds) comes gone ok
      (subst (λ (t : FileSystem). DoesByInstance (working {F = F} h r w e) job m n mode from t result to after) same does))
  by_end n mode end from s result done to after fits x has f (by_days_of stop none is) gone ok (instance.no_days cause finds told at) =
      let same : after ≡ s = jobs.finds_job h (as_whole h r) m.task n.path s (Err cause) after (works.finds_job (working_may h r w (may_do h)) (may_do h) (working_also h r w) (as_whole h r) m.task n.path s (Err cause) after finds) in
      let one : without_name (no_days_fate cause) ≡ done = same_done result (without_name (no_days_fate cause)) done at ok in
      subst (Becomes h m.output m.part mode s done.fate after) (sym is)
      (sym (ap (λ (d : Done). d.fate) one) ∙ refused m.task (s.now.bytes (number_of f.file)) cause (job_found h r w all m.task n.path s (Err cause) after has f finds), same)
  by_end n mode end from s result done to after fits x has f (by_days_of stop none is) gone ok (instance.has_job job mid finds does) =
      has_days m.task (s.now.bytes (number_of f.file)) job stop (job_found h r w all m.task n.path s (Ok job) mid has f finds) none

  by_file : (n : Named) (mode : ℕ) (end : FileEnd) (from : E) (s : FileSystem) (result : Result Done RunStop) (done : Done) (to : E) (after : FileSystem) → ((held : List ℕ) (verdict : Verdict) → end ≡ was_done held verdict → length held ≤ INPUT_LIMIT) → Before s → m.keeps_names ≡ false
      → is_media_index n.relative ≡ false → IsUtf8 n.path → (f : FileAt h Followed s.now n.path) → EndsAs m.task (s.now.bytes (number_of f.file)) end → after.unremoved ≡ false → result ≡ Ok done → DoesFile (working {F = F} h r w e) m n mode from s result to after → Becomes h m.output m.part mode s done.fate after end
  by_file n mode end from s result done to after fits x by no_index has f ends gone ok (files.an_index index told is same) = true_false (is_media_index n.relative) index no_index
  by_file n mode end from s result done to after fits x by no_index has f ends gone ok (files.keeps_name became index kept does is) = true_false m.keeps_names kept by
  by_file n mode end from s result done to after fits x by no_index has f ends gone ok (files.by_instance index not does) = by_end n mode end from s result done to after fits x has f ends gone ok does

-- where nothing is, no link is
none_other : (o : Option Found) → o ≡ None → (f : Found) → o ≡ Some f → f.kind ≢ kinds.Other
none_other o none f is kind = absurd (cc)

pub becomes : {I O F E : Type 0} (h : Host I O) (r : Reader I) (w : Writer O) (e : Writer E) (m : Manner) (n : Named) (what : What) (mode : ℕ) (end : FileEnd) (from : E) (s : FileSystem) (done : Done) (to : E) (after : FileSystem) → GivesAll h (as_whole h r) w → IsUtf8 m.part → m.keeps_names ≡ false
    → at_path h s.now m.part ≡ None → FollowsLinks h s.now → ((held : List ℕ) (verdict : Verdict) → end ≡ was_done held verdict → length held ≤ INPUT_LIMIT) → what ≡ File mode → is_media_index n.relative ≡ false → IsUtf8 n.path → (f : FileAt h Followed s.now n.path)
    → EndsAs m.task (s.now.bytes (number_of f.file)) end → after.unremoved ≡ false → DoesName (working {F = F} h r w e) m n what from s (Ok done) to after → Becomes h m.output m.part mode s done.fate after end
becomes {I} {O} {F} h r w e m n what mode end from s done to after all text by none follows fits is no_index has f ends gone (files.a_file other at does) =
    by_file F h r w e m all text (follows m.part (none_other (at_path h s.now m.part) none)) n mode end from s (Ok done) done to after fits (record { none = none; follows = follows }) by no_index has f ends gone refl
    (subst (λ (k : ℕ). DoesFile (working {F = F} h r w e) m n k from s (Ok done) to after) (same_mode other mode (sym at ∙ is)) does)
becomes h r w e m n what mode end from s done to after all text by none follows fits is no_index has f ends gone (files.no_file other told at same) = absurd (other mode is)
