-- A job is done from a file into the part.
use Rattle.std.proofs.Common.{◌≡◌, ◌∙◌, refl, ap, ℕ, ◌+◌, List, length, [], true, Option, Ok, Err, arith}
use Rattle.dcm_devices.specs.Writing.{Writer}
use Rattle.dcm_words.specs.Words.{Job}
use Rattle.dcm_cli.specs.declared.ending.Ending.{Ending}
use Rattle.dcm_cli.specs.Calls.{Reader, Finishes}
use Rattle.dcm_trees.specs.declared.fate.Fate.{Fate}
use Rattle.dcm_trees.specs.declared.part.NoPart.{NoPart}
use Rattle.dcm_trees.specs.Fate.{is_written}
use Rattle.dcm_trees.specs.Lines.{ending_fate}
use Rattle.dcm_trees.specs.Manner.{Manner}
use Rattle.dcm_trees.specs.Opening as opening
use Rattle.dcm_trees.specs.Opening.{OpensFile}
use Rattle.dcm_trees.specs.Part as spec
use Rattle.dcm_trees.specs.Part.{MakesPart, Fills, NamesOutput, FillsAndNames}
use Rattle.dcm_trees.specs.Task.{Task}
use Rattle.dcm_tree_laws.specs.FileSystem.{FileSystem, Host, may_do, folders_do}
use Rattle.dcm_tree_laws.specs.Laws.{IsOutput, over}
use Rattle.dcm_tree_laws.proofs.Closing.{closes_kept, closes_whole, finished_of}
use Rattle.dcm_tree_laws.proofs.Looking.{same_ok}
use Rattle.dcm_tree_laws.proofs.Gives.{GivesOutput, FileGives}
use Rattle.dcm_tree_laws.proofs.Making.{Leads}
use Rattle.dcm_tree_laws.proofs.Naming.{gives_name_in, clears_part, removes_part}
use Rattle.dcm_tree_laws.proofs.Near.{IsNear}
use Rattle.dcm_tree_laws.proofs.Steps.{idle, writing, whole, Steps, StepsIn, part_made, filled, not_filled, goes_on, one, quiet}

-- ---- opening

pub opens_file : {I O : Type 0} (h : Host I O) (path : List ℕ) (before : FileSystem) (input : Option I) (after : FileSystem) → OpensFile (may_do {I = I} h) path before input after → after ≡ before
opens_file h path before input after (opening.no_text t is same) = same
opens_file h path before input after (opening.not_opened e t call is) = call.0
opens_file h path before input after (opening.a_folder o has t call kind back is) = back ∙ call.0
opens_file h path before input after (opening.opened o t call kind is) = call.0

-- ---- the part is made

pub part_is_made_in : {I O F : Type 0} (h : Host I O) (IsWhole : ℕ → List ℕ → Type 0) (part : List ℕ) (Of : List ℕ → Type 0) (mode : ℕ) (before : FileSystem) (o : O) (after : FileSystem) → MakesPart (folders_do {F = F} h) part mode before (Ok o) after
    → StepsIn h IsWhole part Of idle before (writing (h.masked mode)) after
part_is_made_in h IsWhole part Of mode before o after (spec.no_text t is same) = absurd (cc)
part_is_made_in h IsWhole part Of mode before o after (spec.made opened t call is) = one (part_made mode refl call.0 refl)
part_is_made_in h IsWhole part Of mode before o after (spec.is_there e t call k is) = absurd (cc)
part_is_made_in h IsWhole part Of mode before o after (spec.no_memory e t call k is) = absurd (cc)
part_is_made_in h IsWhole part Of mode before o after (spec.not_made e t call k m is) = absurd (cc)

pub part_is_made : {I O F : Type 0} (h : Host I O) (IsWhole : ℕ → List ℕ → Type 0) (part output : List ℕ) (mode : ℕ) (before : FileSystem) (o : O) (after : FileSystem) → MakesPart (folders_do {F = F} h) part mode before (Ok o) after
    → Steps h IsWhole part output idle before (writing (h.masked mode)) after
part_is_made {I} {O} {F} h IsWhole part output = part_is_made_in {F = F} h IsWhole part (IsNear output)

pub part_is_not_made : {I O F : Type 0} (h : Host I O) (part : List ℕ) (mode : ℕ) (before : FileSystem) (cause : NoPart) (after : FileSystem) → MakesPart (folders_do {F = F} h) part mode before (Err cause) after → after ≡ before
part_is_not_made h part mode before cause after (spec.no_text t is same) = same
part_is_not_made h part mode before cause after (spec.made opened t call is) = absurd (cc)
part_is_not_made h part mode before cause after (spec.is_there e t call k is) = call.0
part_is_not_made h part mode before cause after (spec.no_memory e t call k is) = call.0
part_is_not_made h part mode before cause after (spec.not_made e t call k m is) = call.0

pub part_is_new : {I O F : Type 0} (h : Host I O) (part : List ℕ) (mode : ℕ) (before : FileSystem) (o : O) (after : FileSystem) → MakesPart (folders_do {F = F} h) part mode before (Ok o) after → h.took o ≡ []
part_is_new h part mode before o after (spec.no_text t is same) = absurd (cc)
part_is_new h part mode before o after (spec.made opened t call is) = ap h.took (same_ok (Ok o) opened.device o is refl) ∙ call.1
part_is_new h part mode before o after (spec.is_there e t call k is) = absurd (cc)
part_is_new h part mode before o after (spec.no_memory e t call k is) = absurd (cc)
part_is_new h part mode before o after (spec.not_made e t call k m is) = absurd (cc)

-- ---- the job

pub is_output : {I O : Type 0} (h : Host I O) (r : Reader I) (w : Writer O) (bits : ℕ) (job : Job) (input left : I) (made written : O) (ending : Ending) → h.took made ≡ [] → Finishes r w job input left made written ending
    → is_written (ending_fate ending) ≡ true → IsOutput h r w (h.masked bits) (h.took written)
is_output h r w bits job input left made written ending new finished done = record {
  bits = bits;
  mode_is = refl;
  job = job;
  input = input;
  left = left;
  made = made;
  written = written;
  ending = ending;
  new = new;
  finished = finished;
  done = done;
  bytes_are = refl;
}

-- so any job that is done gives such an output
pub always_gives : {I O : Type 0} (h : Host I O) (r : Reader I) (w : Writer O) (task : Task) (path : List ℕ) (mode : ℕ) (s : FileSystem) → FileGives h (IsOutput h r w) r w task path mode s
always_gives h r w task path mode s = λ job mid f input opened opens left made written ending new finished done. is_output h r w mode job input left made written ending new finished done

-- what it has is what is asked for
pub is_filled_in : {I O : Type 0} (h : Host I O) (IsWhole : ℕ → List ℕ → Type 0) (r : Reader I) (w : Writer O) (part : List ℕ) (Of : List ℕ → Type 0) (mode : ℕ) (job : Job) (input : I) (made : O) (before : FileSystem) (ending : Ending) (after : FileSystem)
    → (fills : Fills (may_do h) r w job input made before ending after) → is_written (ending_fate ending) ≡ true → IsWhole mode (h.took fills.written) → StepsIn h IsWhole part Of (writing mode) before (whole (h.took fills.written)) after
is_filled_in h IsWhole r w part Of mode job input made before ending after fills done right = goes_on (one (filled mode (h.took fills.written) refl (closes_whole fills done) right refl)) (quiet fills.releases)

pub is_not_filled_in : {I O : Type 0} (h : Host I O) (IsWhole : ℕ → List ℕ → Type 0) (r : Reader I) (w : Writer O) (part : List ℕ) (Of : List ℕ → Type 0) (mode : ℕ) (job : Job) (input : I) (made : O) (before : FileSystem) (ending : Ending) (after : FileSystem)
    → Fills (may_do h) r w job input made before ending after → StepsIn h IsWhole part Of (writing mode) before idle after
is_not_filled_in h IsWhole r w part Of mode job input made before ending after fills =
    let closes = closes_kept before.written (h.took fills.written) before fills.closing fills.closed fills.closes in
    goes_on (one (not_filled mode (h.took fills.written) closes.0 refl closes.1 refl)) (quiet fills.releases)

-- where a path of the outputs is any that begins with their folder
pub is_filled_as : {I O : Type 0} (h : Host I O) (IsWhole : ℕ → List ℕ → Type 0) (r : Reader I) (w : Writer O) (part output : List ℕ) (mode : ℕ) (job : Job) (input : I) (made : O) (before : FileSystem) (ending : Ending) (after : FileSystem)
    → (fills : Fills (may_do h) r w job input made before ending after) → is_written (ending_fate ending) ≡ true → IsWhole mode (h.took fills.written) → Steps h IsWhole part output (writing mode) before (whole (h.took fills.written)) after
is_filled_as h IsWhole r w part output = is_filled_in h IsWhole r w part (IsNear output)

pub is_filled : {I O : Type 0} (h : Host I O) (r : Reader I) (w : Writer O) (part output : List ℕ) (bits : ℕ) (job : Job) (input : I) (made : O) (before : FileSystem) (ending : Ending) (after : FileSystem)
    → h.took made ≡ [] → (fills : Fills (may_do h) r w job input made before ending after) → is_written (ending_fate ending) ≡ true → Steps h (IsOutput h r w) part output (writing (h.masked bits)) before (whole (h.took fills.written)) after
is_filled h r w part output bits job input made before ending after new fills done =
    is_filled_as h (IsOutput h r w) r w part output (h.masked bits) job input made before ending after fills done (is_output h r w bits job input fills.left made fills.written ending new (finished_of fills done) done)

pub is_not_filled : {I O : Type 0} (h : Host I O) (r : Reader I) (w : Writer O) (part output : List ℕ) (mode : ℕ) (job : Job) (input : I) (made : O) (before : FileSystem) (ending : Ending) (after : FileSystem)
    → Fills (may_do h) r w job input made before ending after → Steps h (IsOutput h r w) part output (writing mode) before idle after
is_not_filled h r w part output = is_not_filled_in h (IsOutput h r w) r w part (IsNear output)

-- ---- it is named

names_output : {I O F E : Type 0} (h : Host I O) (IsWhole : ℕ → List ℕ → Type 0) (e : Writer E) (m : Manner) (Of : List ℕ → Type 0) (name path bytes : List ℕ) → Leads Of path (length m.output + 1) → (fate : Fate) (from : E) (before : FileSystem) (became : Fate) (to : E) (after : FileSystem)
    → NamesOutput (may_do {I = I} h) (folders_do {F = F} h) e m name path fate from before became to after → StepsIn h IsWhole m.part Of (whole bytes) before idle after
names_output {I} {O} {F} h IsWhole e m Of name path bytes leads fate from before became to after n =
    goes_on (gives_name_in {I = I} {F = F} h IsWhole m.part Of bytes path (length m.output + 1) (omega arith) leads before n.naming n.named n.gives)
    (clears_part {I = I} h IsWhole m.part Of bytes n.naming n.named after n.clears)

pub fills_and_names : {I O F E : Type 0} (h : Host I O) (IsWhole : ℕ → List ℕ → Type 0) (r : Reader I) (w : Writer O) (e : Writer E) (job : Job) (m : Manner) (Of : List ℕ → Type 0) (name path : List ℕ) → Leads Of path (length m.output + 1)
    → (bits : ℕ) (input : I) (output : O) → GivesOutput h IsWhole r w job input bits → h.took output ≡ [] → (from : E) (before : FileSystem) (fate : Fate) (to : E) (after : FileSystem) → FillsAndNames (over {F = F} h r w e) job m name path input output from before fate to after
    → StepsIn h IsWhole m.part Of (writing (h.masked bits)) before idle after
fills_and_names {I} h IsWhole r w e job m Of name path leads bits input output gives new from before fate to after (spec.not_done ending was_filled fills done told removes f) =
    goes_on (is_not_filled_in h IsWhole r w m.part Of (h.masked bits) job input output before ending was_filled fills) (removes_part {I = I} h IsWhole m.part Of idle refl was_filled after removes)
fills_and_names {I} {O} {F} h IsWhole r w e job m Of name path leads bits input output gives new from before fate to after (spec.has_done ending was_filled told fills done reports names) =
    goes_on (is_filled_in h IsWhole r w m.part Of (h.masked bits) job input output before ending was_filled fills done (gives fills.left output fills.written ending new (finished_of fills done) done))
    (names_output {I = I} {F = F} h IsWhole e m Of name path (h.took fills.written) leads (ending_fate ending) told was_filled fate to after names)
