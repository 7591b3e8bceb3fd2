-- Each output of a run is whole, of the file of a name that was read in it.
use Rattle.std.proofs.Common.{◌≡◌, refl, sym, ap, ℕ, List, [], ◌++◌, None}
use Rattle.dcm_devices.specs.Writing.{Writer}
use Rattle.dcm_walk.specs.Visits.{Named}
use Rattle.dcm_tree_words.specs.Trees.{Source}
use Rattle.dcm_cli.specs.Calls.{Reader}
use Rattle.dcm_trees.specs.Task.{Task, task_of}
use Rattle.dcm_tree_laws.specs.FileSystem.{FileSystem, Tree, Host, number_of}
use Rattle.dcm_tree_laws.specs.Halves.{IsOfSource, links_of, IsAtName, IsOutputOf, IsAnswerOf, NeverHalf, NeverHalfOfBytes}
use Rattle.dcm_tree_laws.specs.Laws.{part_path}
use Rattle.dcm_tree_laws.specs.Single.{as_held}
use Rattle.dcm_tree_laws.specs.Stays.{IsOfOutput}
use Rattle.dcm_tree_laws.proofs.Held.{GivesAll, held_gives}
use Rattle.dcm_tree_laws.proofs.Near.{StaysIn}
use Rattle.dcm_tree_laws.proofs.OfRuns.{after_run, stays_so}
use Rattle.dcm_tree_laws.proofs.Runs.{RightOf}
use Rattle.dcm_tree_laws.proofs.Seen.{SawFile}
use Rattle.dcm_tree_laws.proofs.SoFar.{Grows, trees_of, later_state}
use Rattle.dcm_tree_laws.proofs.SinglesBy.{answered, opens_holds}

-- ---- the file of a name

at_name : {I O : Type 0} (h : Host I O) (source : Source) (part output : List ℕ) (start : Tree) (n : Named) (mode : ℕ) (s : FileSystem) → StaysIn h part (IsOfOutput output) start s.now → s.written ≡ None → SawFile h (links_of source) (IsOfSource source) s n mode → IsAtName h source part output start (trees_of s) n s
at_name h source part output start n mode s stays none saw = record { was_state = record { later = []; trees_are = refl }; at_rest = none; of_source = saw.of_source; leads = saw.leads; file = saw.file; is = saw.is; kind = saw.kind; stays = stays_so h part output start s.now stays }

-- it is so when more trees have come
later_name : {I O : Type 0} (h : Host I O) (source : Source) (part output : List ℕ) (start : Tree) (later trees : List Tree) (n : Named) (s : FileSystem) → IsAtName h source part output start trees n s → IsAtName h source part output start (later ++ trees) n s
later_name h source part output start later trees n s is = record { was_state = later_state later trees s is.was_state; at_rest = is.at_rest; of_source = is.of_source; leads = is.leads; file = is.file; is = is.is; kind = is.kind; stays = is.stays }

-- ---- its output

pub output_grows : {I O : Type 0} (h : Host I O) (r : Reader I) (w : Writer O) (source : Source) (task : Task) (part output : List ℕ) (start : Tree) → Grows (IsOutputOf h r w source task part output start)
unfolding later_name
output_grows h r w source task part output start = λ later trees mode bytes is. record {
  name = is.name;
  state = is.state;
  read = later_name h source part output start later trees is.name is.state is.read;
  mode_is = is.mode_is;
  job = is.job;
  mid = is.mid;
  finds = is.finds;
  input = is.input;
  opened = is.opened;
  opens = is.opens;
  left = is.left;
  made = is.made;
  written = is.written;
  ending = is.ending;
  new = is.new;
  finished = is.finished;
  done = is.done;
  bytes_are = is.bytes_are;
}

pub output_right : {I O : Type 0} (h : Host I O) (r : Reader I) (w : Writer O) (source : Source) (task : Task) (part output : List ℕ) (start : Tree) → RightOf h source (IsOutputOf h r w source task part output start) r w task part output start
unfolding at_name
output_right h r w source task part output start = λ n what mode s stays none saw is job mid f input opened o left made written ending new finished done. record {
  name = n;
  state = s;
  read = at_name h source part output start n mode s stays none (saw mode is);
  mode_is = ap h.masked (sym (saw mode is).mode_is);
  job = job;
  mid = mid;
  finds = f;
  input = input;
  opened = opened;
  opens = o;
  left = left;
  made = made;
  written = written;
  ending = ending;
  new = new;
  finished = finished;
  done = done;
  bytes_are = refl;
}

answer_grows : {I O : Type 0} (h : Host I O) (source : Source) (task : Task) (part output : List ℕ) (start : Tree) → Grows (IsAnswerOf h source task part output start)
unfolding later_name
answer_grows h source task part output start = λ later trees mode bytes is. record {
  name = is.name;
  state = is.state;
  read = later_name h source part output start later trees is.name is.state is.read;
  mode_is = is.mode_is;
  answered = is.answered;
}

answer_right : {I O : Type 0} (h : Host I O) (r : Reader I) (w : Writer O) → GivesAll h r w → (source : Source) (task : Task) (part output : List ℕ) (start : Tree) → RightOf h source (IsAnswerOf h source task part output start) r w task part output start
unfolding at_name
answer_right h r w all source task part output start = λ n what mode s stays none saw is job mid f input opened o left made written ending new finished done. record {
  name = n;
  state = s;
  read = at_name h source part output start n mode s stays none (saw mode is);
  mode_is = ap h.masked (sym (saw mode is).mode_is);
  answered = λ g at kind. answered h r w all task n.path s mid job input opened left made written ending f o new finished done (s.now.bytes (number_of g)) (λ i t opens. opens_holds h n.path s i t opens g at kind);
}

-- ---- a run

pub never_half : {I O F W E : Type 0} (r : Reader I) (w : Writer O) (rows : Writer W) (e : Writer E) → NeverHalf F r w rows e
never_half {I} {O} {F} r w rows e h run source start manifest from status left to after does =
    (after_run {F = F} h (IsOutputOf h r w source (task_of run.task) (part_path run) run.output.now start) (output_grows h r w source (task_of run.task) (part_path run) run.output.now start) r w e rows run source start manifest from status left to after
    (output_right h r w source (task_of run.task) (part_path run) run.output.now start) does).so_far

pub never_half_of_bytes : {I O F W E : Type 0} (r : Reader I) (w : Writer O) (rows : Writer W) (e : Writer E) → NeverHalfOfBytes F r w rows e
never_half_of_bytes {I} {O} {F} r w rows e h run source start manifest from status left to after tells does =
    (after_run {F = F} h (IsAnswerOf h source (task_of run.task) (part_path run) run.output.now start) (answer_grows h source (task_of run.task) (part_path run) run.output.now start) (as_held h r) w e rows run source start manifest from status left to after
    (answer_right h (as_held h r) w (held_gives h r w tells) source (task_of run.task) (part_path run) run.output.now start) does).so_far
