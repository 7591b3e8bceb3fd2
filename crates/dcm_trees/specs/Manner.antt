-- How the files of a tree are done.
use Rattle.std.specs.Prelude.{ℕ, List, Bool}
use Rattle.dcm_trees.specs.declared.file.Manner.{Manner as Lent}
use Rattle.dcm_trees.specs.Modes.{Modes, modes_as}
use Rattle.dcm_trees.specs.Task.{Task, task_of}

-- what is done with each, where the outputs are, the path at which an output is written, whether the run goes on with
-- outputs that are there, whether an output has the name of its input, and the modes of folders that are made
pub record Manner : Type 0 where
  pub task : Task
  pub output : List ℕ
  pub part : List ℕ
  pub continues : Bool
  pub keeps_names : Bool
  pub modes : Modes

abbrev pub manner_of : Lent → Manner
manner_of m = record {
  task = task_of m.task;
  output = m.output.now;
  part = m.part.now;
  continues = m.continues;
  keeps_names = m.keeps_names;
  modes = modes_as m.modes;
}
