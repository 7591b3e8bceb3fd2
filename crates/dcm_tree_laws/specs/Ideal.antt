-- The ideal run: what a run over a tree leaves where each call succeeds that may. The tree is a list of names with what
-- they come to. One after another is done upon what is in the folder of the outputs by then, and gets a row.
use Rattle.std.specs.Prelude.{ℕ, ◌==◌, List, [], ◌∷◌, ◌++◌, Bool, true, false, ◌&&◌, Option, Some, None, bytes_eq}
use Rattle.std.specs.Prelude.{filter, if◌then◌else◌}
use Rattle.dcm_walk.specs.Names.{is_slash}
use Rattle.dcm_trees.specs.declared.fate.Fate.{Fate}
use Rattle.dcm_trees.specs.declared.fate.Fate.TheVariants as fates
use Rattle.dcm_trees.specs.Lines.{done_fate, there_fate}
use Rattle.dcm_trees.specs.Share.{is_of}

-- ---- the folder of the outputs

-- a regular file, a folder, or anything else
pub data Thing : Type 0 where
  a_file : (mode : ℕ) (bytes : List ℕ) → Thing
  a_folder : Thing
  no_file : Thing

-- what is in it, by relative name
abbrev pub Outputs : Type 0
Outputs = (relative : List ℕ) → Option Thing

-- a folder is on the way to a relative name: it stands before a slash of that
abbrev pub is_on_way : (folder relative : List ℕ) → Bool
is_on_way [] [] = false
is_on_way [] (b ∷ bs) = is_slash b
is_on_way (c ∷ cs) [] = false
is_on_way (c ∷ cs) (b ∷ bs) = (c == b) && is_on_way cs bs

-- nothing is there, or a folder
abbrev pub is_passed : Option Thing → Bool
is_passed None = true
is_passed (Some a_folder) = true
is_passed (Some (a_file mode bytes)) = false
is_passed (Some no_file) = false

-- so it is at each folder on the way to a relative name
abbrev pub has_way : Outputs → (relative : List ℕ) → Bool
has_way outputs [] = true
has_way outputs (b ∷ bs) =
    (if is_slash b then is_passed (outputs []) else true) && has_way (λ rest. outputs (b ∷ rest)) bs

-- an output may come to be at a place; a file with these bytes is there; or it cannot be there
pub data Place : Type 0 where
  free : Place
  held : (bytes : List ℕ) → Place
  barred : Place

abbrev pub place_in : (has_its_way : Bool) → Option Thing → Place
place_in true None = free
place_in false None = barred
place_in has_its_way (Some (a_file mode bytes)) = held bytes
place_in has_its_way (Some a_folder) = barred
place_in has_its_way (Some no_file) = barred

abbrev pub place_at : Outputs → (relative : List ℕ) → Place
place_at outputs relative = place_in (has_way outputs relative) (outputs relative)

-- a file comes to be there, and the folders on its way
abbrev pub with_file : (relative : List ℕ) → Thing → Outputs → Outputs
with_file relative file outputs = λ other. if bytes_eq other relative then Some file
    else (if is_on_way other relative then Some a_folder else outputs other)

-- ---- a name

-- what is written of a file, and the mask of the edits that found no place in it
pub record Output : Type 0 where
  pub mode : ℕ
  pub bytes : List ℕ
  pub unplaced : ℕ

-- what is made of a file: nothing, and its row says why; or an output
pub data Made : Type 0 where
  nothing : (why : Fate) → Made
  an_output : (output : Output) → Made

-- what a name comes to. Nothing is to be done with it; its output is to have its relative name, so that this is looked
-- at first; or what is written of it names an instance, and the output is to have the name of that
pub data Comes : Type 0 where
  without : (why : Fate) → Comes
  kept : (relative : List ℕ) (made : Made) → Comes
  named : (relative : List ℕ) (output : Output) → Comes

pub record Name : Type 0 where
  pub name : List ℕ
  pub relative : List ℕ
  pub comes : Comes

-- ---- one step

-- what becomes of a name: no output is at its place, and its row says why; a file was there, its own or another's; or
-- its output is written
pub data Became : Type 0 where
  ended : (why : Fate) → Became
  met : (relative : List ℕ) (fate : Fate) → Became
  wrote : (relative : List ℕ) (output : Output) → Became

abbrev pub become_kept : (continues : Bool) → (relative : List ℕ) → Made → Place → Became
become_kept continues relative made barred = ended fates.Unwritten
become_kept continues relative made (held bytes) = met relative (there_fate continues)
become_kept continues relative (nothing why) free = ended why
become_kept continues relative (an_output output) free = wrote relative output

abbrev pub become_named : (relative : List ℕ) → Output → Place → Became
become_named relative output barred = ended fates.Unwritten
become_named relative output (held bytes) = met relative (there_fate (bytes_eq bytes output.bytes))
become_named relative output free = wrote relative output

abbrev pub become : (continues : Bool) → Outputs → Comes → Became
become continues outputs (without why) = ended why
become continues outputs (kept relative made) = become_kept continues relative made (place_at outputs relative)
become continues outputs (named relative output) = become_named relative output (place_at outputs relative)

abbrev pub put : Became → Outputs → Outputs
put (ended why) outputs = outputs
put (met relative fate) outputs = outputs
put (wrote relative output) outputs = with_file relative (a_file output.mode output.bytes) outputs

-- ---- a run

pub record Row : Type 0 where
  pub name : List ℕ
  pub became : Became

-- what its names leave in the folder of the outputs
abbrev pub outputs_after : (continues : Bool) → Outputs → List Name → Outputs
outputs_after continues outputs [] = outputs
outputs_after continues outputs (n ∷ names) =
    outputs_after continues (put (become continues outputs n.comes) outputs) names

-- and their rows
abbrev pub rows_of : (continues : Bool) → Outputs → List Name → List Row
rows_of continues outputs [] = []
rows_of continues outputs (n ∷ names) = record { name = n.name; became = become continues outputs n.comes }
    ∷ rows_of continues (put (become continues outputs n.comes) outputs) names

-- the names of a share
abbrev pub share : (number count : ℕ) → List Name → List Name
share number count names = filter (λ n. is_of number count n.relative) names

-- runs of these shares, one after another, each upon what the one before left
abbrev pub outputs_after_all : (continues : Bool) → Outputs → (count : ℕ) → (numbers : List ℕ) → List Name → Outputs
outputs_after_all continues outputs count [] names = outputs
outputs_after_all continues outputs count (number ∷ numbers) names =
    outputs_after_all continues (outputs_after continues outputs (share number count names)) count numbers names

abbrev pub rows_of_all : (continues : Bool) → Outputs → (count : ℕ) → (numbers : List ℕ) → List Name → List Row
rows_of_all continues outputs count [] names = []
rows_of_all continues outputs count (number ∷ numbers) names =
    rows_of continues outputs (share number count names)
    ++ rows_of_all continues (outputs_after continues outputs (share number count names)) count numbers names

-- ---- a row

abbrev pub fate_of : Became → Fate
fate_of (ended why) = why
fate_of (met relative fate) = fate
fate_of (wrote relative output) = done_fate output.unplaced

abbrev pub output_of : Became → Option (List ℕ)
output_of (ended why) = None
output_of (met relative fate) = Some relative
output_of (wrote relative output) = Some relative
