-- What became of a name, and what is told of it.
use Rattle.std.specs.Prelude.{ℕ, List, codes, Bool, true, false, ◌||◌}
use Rattle.dcm_cli.specs.Status.{DONE, FAULT, REMARK, DEVICE}
use Rattle.dcm_walk.specs.declared.visitor.What.{What}
use Rattle.dcm_walk.specs.declared.visitor.What.TheVariants as whats
use Rattle.dcm_trees.specs.declared.fate.Fate.{Fate}
use Rattle.dcm_trees.specs.declared.fate.Fate.TheVariants as fates

-- the word for it in the manifest
abbrev pub word : Fate → List ℕ
word fates.Written = codes "written"
word fates.Unplaced = codes "unplaced"
word fates.There = codes "there"
word fates.Taken = codes "taken"
word fates.LeftOut = codes "left-out"
word fates.MediaIndex = codes "left-out"
word fates.Unread = codes "unread"
word fates.Unwritten = codes "unwritten"
word fates.Refused = codes "refused"
word fates.Pixels = codes "pixels"
word fates.Unnamed = codes "unnamed"

-- its exit status
abbrev pub status : Fate → ℕ
status fates.Written = DONE
status fates.There = DONE
status fates.MediaIndex = DONE
status fates.Refused = FAULT
status fates.Unnamed = FAULT
status fates.Unplaced = REMARK
status fates.Pixels = REMARK
status _ = DEVICE

-- the run has written its output
abbrev pub is_written : Fate → Bool
is_written fates.Written = true
is_written fates.Unplaced = true
is_written _ = false

-- a file was at the name of its output
abbrev pub is_there : Fate → Bool
is_there fates.There = true
is_there fates.Taken = true
is_there _ = false

-- its output was there
abbrev pub was_done : Fate → Bool
was_done fates.There = true
was_done _ = false

-- a file is at the name of its output
abbrev pub has_output : Fate → Bool
has_output fate = is_written fate || is_there fate

-- ---- names that are no regular files

abbrev pub fate_of : What → Fate
fate_of whats.Unseen = fates.Unread
fate_of whats.Unlisted = fates.Unread
fate_of _ = fates.LeftOut

abbrev pub text_of : What → List ℕ
text_of whats.Unfit = codes "name does not fit"
text_of whats.NoText = codes "name is no UTF-8"
text_of whats.PartFile = codes "part of another run"
text_of whats.OfOutput = codes "output is not read"
text_of whats.Unseen = codes "input cannot be opened"
text_of whats.TooDeep = codes "folder is too deep"
text_of whats.Unlisted = codes "folder cannot be read"
text_of _ = codes "no regular file"
