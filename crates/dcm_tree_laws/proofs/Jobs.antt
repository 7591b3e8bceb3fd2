-- The job of a file is found, and files are read, with nothing changed.
use Rattle.std.proofs.Common.{◌≡◌, ◌∙◌, ℤ, ℕ, List, Bool, Some, None, Result, Ok, Err}
use Rattle.dcm_words.specs.Words.{Job}
use Rattle.dcm_instance.specs.declared.names.Instance.{Instance}
use Rattle.dcm_instance.specs.declared.names.NoInstance.{NoInstance}
use Rattle.dcm_cli.specs.Calls.{Reader}
use Rattle.dcm_trees.specs.declared.part.Naming.{Naming}
use Rattle.dcm_trees.specs.declared.task.NoDays.{NoDays}
use Rattle.dcm_trees.specs.Instance as instance
use Rattle.dcm_trees.specs.Instance.{FindsInstance, Compares, ComparesFiles, FindsCopy}
use Rattle.dcm_trees.specs.Task as spec
use Rattle.dcm_trees.specs.Task.{Task, TakesDays, FindsJob}
use Rattle.dcm_tree_laws.specs.FileSystem.{FileSystem, Host, may_do}
use Rattle.dcm_tree_laws.proofs.Filling.{opens_file}

takes_days : {I O : Type 0} (h : Host I O) (r : Reader I) (key path : List ℕ) (before : FileSystem) (result : Result ℤ NoDays) (after : FileSystem) → TakesDays (may_do {I = I} h) r key path before result after → after ≡ before
takes_days {I} h r key path before result after (spec.not_opened opens is) = opens_file {I = I} h path before None after opens
takes_days {I} h r key path before result after (spec.was_read input left opened end opens reads back is) = back ∙ opens_file {I = I} h path before (Some input) opened opens

pub finds_job : {I O : Type 0} (h : Host I O) (r : Reader I) (task : Task) (path : List ℕ) (before : FileSystem) (result : Result Job NoDays) (after : FileSystem) → FindsJob (may_do {I = I} h) r task path before result after → after ≡ before
finds_job h r task path before result after (spec.of_all job t is same) = same
finds_job h r task path before result after (spec.of_days options reports key days t takes is) = takes_days h r key path before (Ok days) after takes
finds_job h r task path before result after (spec.no_days options reports key cause t takes is) = takes_days h r key path before (Err cause) after takes

pub finds_instance : {I O : Type 0} (h : Host I O) (r : Reader I) (part : List ℕ) (before : FileSystem) (result : Result Instance NoInstance) (after : FileSystem) → FindsInstance (may_do {I = I} h) r part before result after → after ≡ before
finds_instance {I} h r part before result after (instance.not_opened opens is) = opens_file {I = I} h part before None after opens
finds_instance {I} h r part before result after (instance.was_read input left opened opens reads back) = back ∙ opens_file {I = I} h part before (Some input) opened opens

compares : {I O : Type 0} (h : Host I O) (r : Reader I) (first second : I) (before : FileSystem) (same : Bool) (after : FileSystem) → Compares (may_do {I = I} h) r first second before same after → after ≡ before
compares h r first second before same after c = c.first_back ∙ c.second_back

compares_files : {I O : Type 0} (h : Host I O) (r : Reader I) (first second : List ℕ) (before : FileSystem) (same : Bool) (after : FileSystem) → ComparesFiles (may_do {I = I} h) r first second before same after → after ≡ before
compares_files {I} h r first second before same after (instance.no_first opens is) = opens_file {I = I} h first before None after opens
compares_files {I} h r first second before same after (instance.no_second one mid tried opens fails back is) = back ∙ opens_file {I = I} h second mid None tried fails ∙ opens_file {I = I} h first before (Some one) mid opens
compares_files {I} h r first second before same after (instance.both one other mid opened opens too c) =
    compares h r one other opened same after c ∙ opens_file {I = I} h second mid (Some other) opened too ∙ opens_file {I = I} h first before (Some one) mid opens

pub finds_copy : {I O : Type 0} (h : Host I O) (r : Reader I) (naming : Naming) (part path : List ℕ) (before : FileSystem) (same : Bool) (after : FileSystem) → FindsCopy (may_do {I = I} h) r naming part path before same after → after ≡ before
finds_copy h r naming part path before same after (instance.not_there n is stays) = stays
finds_copy h r naming part path before same after (instance.compared n c) = compares_files h r part path before same after c
