-- An output that was named by the instance in it is there for a run after it.
use Rattle.std.proofs.Common.{◌≡◌, ◌∙◌, refl, sym, ap, subst, ℕ, List, [], length, true, false, Option, Some, None, Result, Ok}
use Rattle.std.specs.Prelude.{◌≢◌, nat_le}
use Rattle.std.specs.Str.{IsUtf8}
use Rattle.arrayvec.specs.ArrayVec.{ArrayVec}
use Rattle.dcm_lemmas.proofs.Choice.{chosen_some}
use Rattle.dcm_lemmas.proofs.Truth.{true_false}
use Rattle.dcm_devices.specs.Writing.{Writer}
use Rattle.dcm_files.specs.declared.folders.Links.TheVariants.{Followed}
use Rattle.dcm_instance.specs.declared.names.Instance.{Instance}
use Rattle.dcm_instance.specs.ReadInstance.{FileNames}
use Rattle.dcm_instance.specs.Uids.{Uids, instance_name, uids_of}
use Rattle.dcm_walk.specs.Names.{below, PATH_LIMIT}
use Rattle.dcm_walk.specs.Visits.{Named}
use Rattle.dcm_walk.specs.declared.visitor.What.{What}
use Rattle.dcm_words.specs.Words.{Job}
use Rattle.dcm_cli.specs.Calls.{Reader}
use Rattle.dcm_cli.specs.declared.ending.Ending.{Ending}
use Rattle.dcm_cli.specs.declared.ending.Verdict.{Verdict}
use Rattle.dcm_trees.specs.declared.fate.Fate.{Fate}
use Rattle.dcm_trees.specs.declared.fate.Fate.TheVariants as fates
use Rattle.dcm_trees.specs.declared.file.Done.{Done}
use Rattle.dcm_trees.specs.declared.progress.Stop.{Stop as RunStop}
use Rattle.dcm_trees.specs.Fate.{is_written, fate_of}
use Rattle.dcm_trees.specs.File as files
use Rattle.dcm_trees.specs.File.{DoesFile, DoesName}
use Rattle.dcm_trees.specs.Instance as instance
use Rattle.dcm_trees.specs.Instance.{NamesBy, NamesPart, FillsByInstance, DoesByInstance, DoesUnnamed, name_of_instance, without_name, no_instance_fate}
use Rattle.dcm_trees.specs.Lines.{ending_fate, verdict_fate, no_days_fate}
use Rattle.dcm_trees.specs.Manner.{Manner}
use Rattle.dcm_trees.specs.Opening.{OpensFile}
use Rattle.dcm_trees.specs.Part as parts
use Rattle.dcm_trees.specs.Part.{MakesPart, Fills}
use Rattle.dcm_trees.specs.Task.{Task}
use Rattle.dcm_trees.specs.Work.{name_in}
use Rattle.dcm_tree_laws.specs.Again.{sure}
use Rattle.dcm_tree_laws.specs.Copies.{HasCopy, IsNamedBy}
use Rattle.dcm_tree_laws.specs.Determined.{FileAt, ComesTo, working_may, working_folders, as_whole, working}
use Rattle.dcm_tree_laws.specs.FileSystem.{FileSystem, Tree, Host, number_of, place_of, may_do, folders_do, MakesFile, ClosesOutput}
use Rattle.dcm_tree_laws.specs.Laws.{over}
use Rattle.dcm_tree_laws.specs.Outputs.{HasOutput}
use Rattle.dcm_tree_laws.specs.Single.{IsJobOf, TellsAll}
use Rattle.dcm_tree_laws.proofs.Near.{IsNear, Stays}
use Rattle.dcm_tree_laws.proofs.Closing.{finished_of}
use Rattle.dcm_tree_laws.proofs.CopyLeft.{WholeAt, whole_at, followed}
use Rattle.dcm_tree_laws.proofs.Ends.{comes_once}
use Rattle.dcm_tree_laws.proofs.Given.{NewOutput}
use Rattle.dcm_tree_laws.proofs.Held.{GivesAll}
use Rattle.dcm_tree_laws.proofs.Jobs as jobs
use Rattle.dcm_tree_laws.proofs.Looking.{same_ok}
use Rattle.dcm_tree_laws.proofs.MadeBy.{MadeAt, made_stays, made_there, new_made}
use Rattle.dcm_tree_laws.proofs.OutputsBy.{Still}
use Rattle.dcm_tree_laws.proofs.SinglesBy.{opens_holds, job_is}
use Rattle.dcm_tree_laws.proofs.Steps.{no_step}
use Rattle.dcm_tree_laws.proofs.Written.{FileGives, true_not, days_not, instance_not, what_not}
use Rattle.dcm_tree_laws.proofs.WrittenBy.{ends_not, name_out, no_output}
use Rattle.dcm_tree_laws.proofs.Working.{working_also, working_can, whole_gives, IsOpened, is_opened, HasDone, finishes_comes, job_found, instance_found}
use Rattle.dcm_tree_laws.proofs.Works as works

-- ---- what an output comes of

-- of a file with these bytes, by a task, these bytes are written, and all is done
record IsMade (task : Task) (file_bytes bytes : List ℕ) : Type 0 where
  verdict : Verdict
  comes : ComesTo task file_bytes bytes verdict
  done : is_written (verdict_fate verdict) ≡ true

is_made : (task : Task) (file_bytes bytes : List ℕ) (job : Job) (ending : Ending) → IsJobOf task file_bytes job → HasDone job file_bytes bytes ending → is_written (ending_fate ending) ≡ true → IsMade task file_bytes bytes
is_made task file_bytes bytes job ending of_job d written = record {
  verdict = d.verdict;
  comes = record { job = job; is_job = of_job; answered = d.answered };
  done = sym (ap (λ (x : Ending). is_written (ending_fate x)) d.is) ∙ written;
}

-- whatever job is done of it
gives_made : {I O : Type 0} (h : Host I O) (r : Reader I) (w : Writer O) → GivesAll h (as_whole h r) w → (task : Task) (path : List ℕ) (mode : ℕ) (s : FileSystem) (f : FileAt h Followed s.now path)
    → FileGives h (λ mode bytes. IsMade task (s.now.bytes (number_of f.file)) bytes) (as_whole h r) w task path mode s
gives_made h r w all task path mode s f = λ job mid finds input opened opens left made written ending new finished done.
    let held : List ℕ = s.now.bytes (number_of f.file) in
    let same : mid ≡ s = jobs.finds_job h (as_whole h r) task path s (Ok job) mid finds in
    let holds : h.holds input ≡ held = opens_holds h path s input opened (subst (λ (t : FileSystem). OpensFile (may_do h) path t (Some input) opened) same opens) f.file f.is f.kind in
    let of_job : IsJobOf task held job = job_is h (as_whole h r) w all task path s job mid held finds (λ other after o. opens_holds h path s other after o f.file f.is f.kind) in
    is_made task held (h.took written) job ending of_job (subst (λ (b : List ℕ). HasDone job b (h.took written) ending) holds (finishes_comes h (as_whole h r) w all job input left made written ending new finished done)) done

-- ---- the instance that names it

-- one is in the bytes that a job writes of a file with these bytes, and names them by a path that is short enough
record Chosen (task : Task) (output file_bytes : List ℕ) (done : Done) : Type 0 where
  uids : Uids
  bytes : List ℕ
  made : IsMade task file_bytes bytes
  names : FileNames bytes (Ok uids)
  named : IsNamedBy uids done
  fits : nat_le (length (below output (instance_name uids))) PATH_LIMIT ≡ true

-- the part is made
pub record NewPart {I O : Type 0} (h : Host I O) (part : List ℕ) (mode : ℕ) (before : FileSystem) (output : O) (after : FileSystem) : Type 0 where
  pub text : IsUtf8 part
  pub makes : MakesFile h part mode before after
  pub new : h.took output ≡ []

pub new_part : {I O F : Type 0} (h : Host I O) (part : List ℕ) (mode : ℕ) (before : FileSystem) (output : O) (after : FileSystem) → MakesPart (working_folders h (sure (folders_do {F = F} h))) part mode before (Ok output) after → NewPart h part mode before output after
new_part h part mode before output after (parts.no_text t is same) = absurd (cc)
new_part h part mode before output after (parts.made o t call is) = record { text = t; makes = call.0.0; new = ap h.took (same_ok (Ok output) o.device output is refl) ∙ call.0.1 }
new_part h part mode before output after (parts.is_there e t call k is) = absurd (cc)
new_part h part mode before output after (parts.no_memory e t call k is) = absurd (cc)
new_part h part mode before output after (parts.not_made e t call k m is) = absurd (cc)

module _ {I O F E : Type 0} (h : Host I O) (r : Reader I) (w : Writer O) (e : Writer E) (all : GivesAll h (as_whole h r) w) (m : Manner) (leads : h.leads Followed m.part ≡ place_of h m.part) where
  chosen_by : (name file_bytes bytes : List ℕ) (i : Instance) (fate : Fate) (from : E) (s : FileSystem) (done : Done) (to : E) (after : FileSystem) → IsMade m.task file_bytes bytes → FileNames bytes (Ok (uids_of i))
      → NamesBy (working {F = F} h r w e) m name i fate from s done to after → is_written done.fate ≡ true → Chosen m.task m.output file_bytes done
  chosen_by name file_bytes bytes i fate from s done to after made names (instance.too_long none removes told is) written = no_output done fates.Unwritten is refl written
  chosen_by name file_bytes bytes i fate from s done to after made names (instance.placed path became relative at places rel d) written = record {
    uids = uids_of i;
    bytes = bytes;
    made = made;
    names = names;
    named = record { relative = relative; instance_is = ap (λ (x : Done). x.instance) d; relative_is = rel };
    fits = chosen_some (nat_le (length (below m.output (name_of_instance i))) PATH_LIMIT) (below m.output (name_of_instance i)) path at;
  }

  chosen_part : (name file_bytes bytes : List ℕ) (fate : Fate) (from : E) (s : FileSystem) (done : Done) (to : E) (after : FileSystem) → IsMade m.task file_bytes bytes → IsUtf8 m.part → (f : FileAt h Followed s.now m.part) → s.now.bytes (number_of f.file) ≡ bytes
      → NamesPart (working {F = F} h r w e) m name fate from s done to after → is_written done.fate ≡ true → Chosen m.task m.output file_bytes done
  chosen_part name file_bytes bytes fate from s done to after made text f is (instance.no_instance cause read finds removes told d) written = no_output done (no_instance_fate cause) d (instance_not cause) written
  chosen_part name file_bytes bytes fate from s done to after made text f is (instance.has_instance i read finds n) written =
      chosen_by name file_bytes bytes i fate from read done to after made (subst (λ (b : List ℕ). FileNames b (Ok (uids_of i))) is (instance_found h r w all m.part s (Ok i) read text f finds)) n written

  chosen_filled : (job : Job) (name : List ℕ) (mode : ℕ) (input : I) (output : O) (file_bytes : List ℕ) (from : E) (opened made : FileSystem) (done : Done) (to : E) (after : FileSystem) → IsUtf8 m.part → MakesFile h m.part mode opened made → h.took output ≡ [] → h.holds input ≡ file_bytes
      → IsJobOf m.task file_bytes job → FillsByInstance (working {F = F} h r w e) job m name input output from made done to after → is_written done.fate ≡ true → Chosen m.task m.output file_bytes done
  chosen_filled job name mode input output file_bytes from opened made done to after text makes new holds of_job (instance.not_done ending was_filled f not told removes is) written = no_output done (ending_fate ending) is not written
  chosen_filled job name mode input output file_bytes from opened made done to after text makes new holds of_job (instance.has_done ending was_filled told f is reports names) written =
      let d : HasDone job file_bytes (h.took f.written) ending = subst (λ (b : List ℕ). HasDone job b (h.took f.written) ending) holds (finishes_comes h (as_whole h r) w all job input f.left output f.written ending new (finished_of f is) is) in
      let closes : ClosesOutput made.written (h.took f.written) (h.took f.written) made was_filled = subst (λ (s : FileSystem). ClosesOutput made.written (h.took f.written) (h.took f.written) made s) (sym f.releases) f.closes.0 in
      let whole : WholeAt h m.part (h.took f.written) opened.now was_filled.now = whole_at h m.part mode (h.took f.written) opened made was_filled makes closes in
      chosen_part name file_bytes (h.took f.written) (ending_fate ending) told was_filled done to after (is_made m.task file_bytes (h.took f.written) job ending of_job d is) text (followed h was_filled.now m.part whole.file leads whole.at whole.kind) whole.bytes names written

  chosen_ready : (job : Job) (n : Named) (mode : ℕ) (from : E) (s : FileSystem) (result : Result Done RunStop) (to : E) (after : FileSystem) (done : Done) → IsUtf8 n.path → (f : FileAt h Followed s.now n.path) → IsJobOf m.task (s.now.bytes (number_of f.file)) job
      → DoesByInstance (working {F = F} h r w e) job m n mode from s result to after → result ≡ Ok done → is_written done.fate ≡ true → Chosen m.task m.output (s.now.bytes (number_of f.file)) done
  chosen_ready job n mode from s result to after done text f of_job (instance.not_opened opens told is) ok written = no_output done fates.Unread (same_ok result (without_name fates.Unread) done is ok) refl written
  chosen_ready job n mode from s result to after done text f of_job (instance.no_part input cause opened tried opens makes back ends) ok written = true_not done.fate (ends_not e n.name cause from result to done ends ok) written
  chosen_ready job n mode from s result to after done text f of_job (instance.filled input output became opened made opens makes fills is) ok written =
      let same : done ≡ became = same_ok result became done is ok in
      let o : IsOpened h r (s.now.bytes (number_of f.file)) input s opened = is_opened h r w n.path s input opened text f opens in
      let part : NewPart h m.part mode opened output made = new_part {F = F} h m.part mode opened output made makes in
      subst (Chosen m.task m.output (s.now.bytes (number_of f.file))) (sym same)
      (chosen_filled job n.name mode input output (s.now.bytes (number_of f.file)) from opened made became to after part.text part.makes part.new o.holds of_job fills (ap (λ (d : Done). is_written d.fate) (sym same) ∙ written))

  chosen_unnamed : (n : Named) (mode : ℕ) (from : E) (s : FileSystem) (result : Result Done RunStop) (to : E) (after : FileSystem) (done : Done) → IsUtf8 n.path → (f : FileAt h Followed s.now n.path)
      → DoesUnnamed (working {F = F} h r w e) m n mode from s result to after → result ≡ Ok done → is_written done.fate ≡ true → Chosen m.task m.output (s.now.bytes (number_of f.file)) done
  chosen_unnamed n mode from s result to after done text f (instance.no_days cause finds told is) ok written = no_output done (no_days_fate cause) (same_ok result (without_name (no_days_fate cause)) done is ok) (days_not cause) written
  chosen_unnamed n mode from s result to after done text f (instance.has_job job mid finds does) ok written =
      let same : mid ≡ s = jobs.finds_job h (as_whole h r) m.task n.path s (Ok job) mid (works.finds_job (working_may h r w (may_do h)) (may_do h) (working_also h r w) (as_whole h r) m.task n.path s (Ok job) mid finds) in
      chosen_ready job n mode from s result to after done text f (job_found h r w all m.task n.path s (Ok job) mid text f finds) (subst (λ (t : FileSystem). DoesByInstance (working {F = F} h r w e) job m n mode from t result to after) same does) ok written

  chosen_file : (n : Named) (mode : ℕ) (from : E) (s : FileSystem) (result : Result Done RunStop) (to : E) (after : FileSystem) (done : Done) → m.keeps_names ≡ false → IsUtf8 n.path → (f : FileAt h Followed s.now n.path)
      → DoesFile (working {F = F} h r w e) m n mode from s result to after → result ≡ Ok done → is_written done.fate ≡ true → Chosen m.task m.output (s.now.bytes (number_of f.file)) done
  chosen_file n mode from s result to after done by text f (files.an_index index told is same) ok written = no_output done fates.MediaIndex (same_ok result (without_name fates.MediaIndex) done is ok) refl written
  chosen_file n mode from s result to after done by text f (files.keeps_name became index kept does is) ok written = true_false m.keeps_names kept by
  chosen_file n mode from s result to after done by text f (files.by_instance index not does) ok written = chosen_unnamed n mode from s result to after done text f does ok written

  chosen : (n : Named) (what : What) (from : E) (s : FileSystem) (result : Result Done RunStop) (to : E) (after : FileSystem) (done : Done) → m.keeps_names ≡ false → IsUtf8 n.path → (f : FileAt h Followed s.now n.path)
      → DoesName (working {F = F} h r w e) m n what from s result to after → result ≡ Ok done → is_written done.fate ≡ true → Chosen m.task m.output (s.now.bytes (number_of f.file)) done
  chosen n what from s result to after done by text f (files.a_file mode is does) ok written = chosen_file n mode from s result to after done by text f does ok written
  chosen n what from s result to after done by text f (files.no_file other told is same) ok written = no_output done (fate_of what) (same_ok result (without_name (fate_of what)) done is ok) (what_not what) written

-- ---- it is there

-- the output of a file with these bytes, as a run left it
pub record CopyMade {I O : Type 0} (h : Host I O) (task : Task) (part output file_bytes : List ℕ) (done : Done) (t : Tree) : Type 0 where
  pub uids : Uids
  pub bytes : List ℕ
  pub verdict : Verdict
  pub comes : ComesTo task file_bytes bytes verdict
  pub done_is : is_written (verdict_fate verdict) ≡ true
  pub names : FileNames bytes (Ok uids)
  pub named : IsNamedBy uids done
  pub at : MadeAt h (λ mode held. held ≡ bytes) part output (instance_name uids) t

pub copy_made_stays : {I O : Type 0} (h : Host I O) (task : Task) (part output file_bytes : List ℕ) (done : Done) (t u : Tree) → Stays h part output t u → CopyMade h task part output file_bytes done t → CopyMade h task part output file_bytes done u
copy_made_stays h task part output file_bytes done t u stays x = record {
  uids = x.uids;
  bytes = x.bytes;
  verdict = x.verdict;
  comes = x.comes;
  done_is = x.done_is;
  names = x.names;
  named = x.named;
  at = made_stays h (λ mode held. held ≡ x.bytes) part output (instance_name x.uids) t u stays x.at;
}

-- what is asked of an output may be less
out_as : {I O : Type 0} (h : Host I O) (One Other : ℕ → List ℕ → Type 0) (part path : List ℕ) (t : Tree) → ((mode : ℕ) (bytes : List ℕ) → One mode bytes → Other mode bytes) → HasOutput h One part path t → HasOutput h Other part path t
out_as h One Other part path t less out = record { file = out.file; is = out.is; kind = out.kind; whole = less out.file.mode (t.bytes (number_of out.file)) out.whole; apart = out.apart }

new_as : {I O : Type 0} (h : Host I O) (One Other : ℕ → List ℕ → Type 0) (part output path : List ℕ) (start now : Tree) → ((mode : ℕ) (bytes : List ℕ) → One mode bytes → Other mode bytes) → NewOutput h One part output path start now → NewOutput h Other part output path start now
new_as h One Other part output path start now less new = record {
  name = record { out = out_as h One Other part path now less new.name.out; nothing = new.name.nothing; text = new.name.text };
  way = new.way;
}

pub by_name : (relative : List ℕ) (found : Option (ArrayVec ℕ)) (items : ArrayVec ℕ) (name : List ℕ) → found ≡ Some items → items.items ≡ name → name_in relative found ≡ name
by_name relative found items name is named = ap (name_in relative) is ∙ named

pub copy_made : {I O F E : Type 0} (h : Host I O) (r : Reader I) (w : Writer O) (e : Writer E) (m : Manner) (n : Named) (what : What) (from : E) (before : FileSystem) (done : Done) (to : E) (after : FileSystem) → TellsAll h w → m.keeps_names ≡ false → before.written ≡ None → IsNear m.output m.part
    → h.leads Followed m.part ≡ place_of h m.part → IsUtf8 n.path → (f : FileAt h Followed before.now n.path) → DoesName (working {F = F} h r w e) m n what from before (Ok done) to after → is_written done.fate ≡ true
    → CopyMade h m.task m.part m.output (before.now.bytes (number_of f.file)) done after.now
copy_made {I} {O} {F} h r w e m n what from before done to after tells by none of_output leads text f does written =
    let all : GivesAll h (as_whole h r) w = whole_gives h r w tells in
    let held : List ℕ = before.now.bytes (number_of f.file) in
    let c : Chosen m.task m.output held done = chosen {F = F} h r w e all m leads n what from before (Ok done) to after done by text f does refl written in
    let over_it : DoesName (over {F = F} h (as_whole h r) w e) m n what from before (Ok done) to after =
    works.does_name (working {F = F} h r w e) (may_do h) (working_also h r w) (folders_do {F = F} h) (working_can {F = F} h) m n what from before (Ok done) to after does in
    let new : NewOutput h (λ mode bytes. IsMade m.task held bytes) m.part m.output (below m.output (name_in n.relative done.instance)) before.now after.now =
    name_out {F = F} h (λ mode bytes. IsMade m.task held bytes) (as_whole h r) w e m n what from before before (Ok done) to after done (λ mode is. gives_made h r w all m.task n.path mode before f)
    (record { none = none; of_output = of_output; steps = no_step refl refl }) over_it refl written in
    let here : NewOutput h (λ mode bytes. bytes ≡ c.bytes) m.part m.output (below m.output (instance_name c.uids)) before.now after.now =
    new_as h (λ mode bytes. IsMade m.task held bytes) (λ mode bytes. bytes ≡ c.bytes) m.part m.output (below m.output (instance_name c.uids)) before.now after.now
    (λ mode bytes made. (comes_once m.task held bytes c.bytes made.verdict c.made.verdict made.comes c.made.comes).0)
    (subst (λ (name : List ℕ). NewOutput h (λ mode bytes. IsMade m.task held bytes) m.part m.output (below m.output name) before.now after.now) (by_name n.relative done.instance c.named.relative (instance_name c.uids) c.named.instance_is c.named.relative_is) new) in
    record {
      uids = c.uids;
      bytes = c.bytes;
      verdict = c.made.verdict;
      comes = c.made.comes;
      done_is = c.made.done;
      names = c.names;
      named = c.named;
      at = new_made h (λ mode bytes. bytes ≡ c.bytes) m.part m.output (instance_name c.uids) before.now after.now c.fits here;
    }

-- a run after it finds it, where the file is still as it was
pub copy_found : {I O : Type 0} (h : Host I O) (task : Task) (part output path : List ℕ) (start now : Tree) (done : Done) → IsUtf8 path → Still h part start now → (f : FileAt h Followed start path) → h.leads Followed path ≢ place_of h part
    → (c : CopyMade h task part output (start.bytes (number_of f.file)) done now) → HasCopy h task output now path c.uids
copy_found h task part output path start now done text still f apart c = record {
  text = text;
  input = record { file = f.file; is = still.there (h.leads Followed path) f.file apart f.is; kind = f.kind };
  made = c.bytes;
  verdict = c.verdict;
  comes = subst (λ (b : List ℕ). ComesTo task b c.bytes c.verdict) (sym (still.bytes (h.leads Followed path) f.file apart f.is)) c.comes;
  done = c.done_is;
  names = c.names;
  there = made_there h (λ mode held. held ≡ c.bytes) part output (instance_name c.uids) now c.at;
  same = c.at.out.whole;
}
