-- The calls of the system that a program runs on.
use Rattle.std.specs.Prelude.{ℕ, Bool, List, Option, Result, Ok, Err}
use Rattle.std.specs.declared.io.Error.{Error}
use Rattle.dcm_files.specs.declared.folders.Found.{Found}
use Rattle.dcm_files.specs.declared.folders.Links.{Links}
use Rattle.dcm_files.specs.declared.opened.FileKind.{FileKind}
use Rattle.dcm_files.specs.declared.opened.Opened.{Opened}

-- a call: what it was asked, and what it answered
pub data Call : Type 0 where
  -- the words of the command line after the program's name; none where memory for them was refused
  gave_words : Option (List (List ℕ)) → Call
  gave_input : FileKind → Call
  -- a path that is read
  opened : List ℕ → Result FileKind Error → Call
  -- an input that was taken back: the bytes that it gave, and whether it failed
  released : List ℕ → (failed : Bool) → Call
  gave_output : Result FileKind Error → Call
  -- a path that is written
  created : List ℕ → Result FileKind Error → Call
  -- what is at a path
  looked : List ℕ → Result (Option FileKind) Error → Call
  -- a path that is written, and at which nothing was
  made : List ℕ → Result FileKind Error → Call
  -- a path whose file is locked, unless another run has locked it
  seized : List ℕ → Result Bool Error → Call
  -- whether the file that was made or locked last is at a path
  held : List ℕ → Bool → Call
  -- a file that got the mode of the regular file at another path, where one was there
  kept_mode : (from to : List ℕ) → Result (Unit {0}) Error → Call
  -- a file that was moved from a path to another one
  moved : (from to : List ℕ) → Result (Unit {0}) Error → Call
  removed : List ℕ → Result (Unit {0}) Error → Call
  -- an output that is to be closed: the bytes that it took, and whether it failed; and how its closing went
  closing : List ℕ → (failed : Bool) → Call
  closed : Result (Unit {0}) Error → Call
  -- a folder whose names are listed
  opened_folder : List ℕ → Result (Unit {0}) Error → Call
  -- the next name in a folder
  named : Result (Option (List ℕ)) Error → Call
  closed_folder : Call
  -- what is at a path, links followed or not
  found : List ℕ → Links → Result (Option Found) Error → Call
  -- the mode of the folder of a name in a folder
  gave_mode : (folder name : List ℕ) → Result ℕ Error → Call
  -- a new folder at a path, of a mode
  made_folder : List ℕ → ℕ → Result (Unit {0}) Error → Call
  -- a new file at a path, of a mode
  made_as : List ℕ → ℕ → Result FileKind Error → Call
  -- a file that got a second name
  linked : (from to : List ℕ) → Result (Unit {0}) Error → Call

-- what a call that opens something says of it
abbrev pub kind_in : {D : Type 0} → Result (Opened D) Error → Result FileKind Error
kind_in (Ok d) = Ok d.kind
kind_in (Err e) = Err e

-- whether a call went well
abbrev pub whether : {A : Type 0} → Result A Error → Result (Unit {0}) Error
whether (Ok a) = Ok _
whether (Err e) = Err e
