-- What a system over files in memory does.
use Rattle.std.specs.Prelude.{◌≡◌, ℕ, List, length, find, bytes_eq, Bool, true, Option, Some, None, Result, Ok, IsOkAnd, IsErrAnd}
use Rattle.std.specs.Option.{is_some, option_map}
use Rattle.std.specs.IoError.{error_kind}
use Rattle.std.specs.declared.io.Error.{Error}
use Rattle.std.specs.declared.io.ErrorKind.TheVariants.{AlreadyExists, NotFound, StorageFull, Unsupported}
use Rattle.dcm_devices.specs.declared.memory.MemIn.{MemIn}
use Rattle.dcm_devices.specs.declared.memory.MemOut.{MemOut}
use Rattle.dcm_devices.specs.declared.memory.Measured.{Measured}
use Rattle.dcm_files.specs.declared.folders.Found.{Found}
use Rattle.dcm_files.specs.declared.folders.FoundKind.TheVariants.{File}
use Rattle.dcm_files.specs.declared.memory.MemFile.{MemFile}
use Rattle.dcm_files.specs.declared.memory.MemSystem.{MemSystem}
use Rattle.dcm_files.specs.declared.memory.NoFolder.{NoFolder}
use Rattle.dcm_files.specs.declared.opened.FileKind.{FileKind}
use Rattle.dcm_files.specs.declared.opened.FileKind.TheVariants.{Regular, Other}
use Rattle.dcm_files.specs.declared.opened.Opened.{Opened}
use Rattle.dcm_files.specs.Devices.{MayDo}
use Rattle.dcm_files.specs.Folders.{FoldersDo}

-- the first file of a name
abbrev pub file_named : List MemFile → List ℕ → Option MemFile
file_named files name = find (λ f. bytes_eq f.name.now name) files

-- what a file is opened as
abbrev pub kind_of : MemFile → FileKind
kind_of f = Regular 0 f.number (length f.bytes.now)

-- what is at its name
abbrev pub found_as : MemFile → Found
found_as f = record { kind = File; device = 0; number = f.number; mode = 420 }

-- what is written where this file is, or none
abbrev pub kind_written : Option MemFile → FileKind
kind_written (Some f) = kind_of f
kind_written None = Regular 1 0 0

-- this file is read, or there is none
abbrev pub GivesFile : Option MemFile → Result (Opened MemIn) Error → Type 0
GivesFile (Some f) r = IsOkAnd r (λ d. (d.device.rest.now ≡ f.bytes.now) × (d.kind ≡ kind_of f))
GivesFile None r = IsErrAnd r (λ e. error_kind e ≡ NotFound)

-- the room is written, or it was taken before
abbrev pub GivesRoom : Option MemOut → FileKind → Result (Opened Measured) Error → Type 0
GivesRoom (Some room) kind r = IsOkAnd r (λ d. (d.device.out ≡ room) × (d.kind ≡ kind))
GivesRoom None kind r = IsErrAnd r (λ e. error_kind e ≡ StorageFull)

-- the room is written where no file is; else that is an error
abbrev pub MakesFile : MemSystem → Option MemFile → Result (Opened Measured) Error → MemSystem → Type 0
MakesFile before None r after = GivesRoom before.room (Regular 1 0 0) r × (after ≡ record before { room = None })
MakesFile before (Some f) r after = IsErrAnd r (λ e. error_kind e ≡ AlreadyExists) × (after ≡ before)

-- a file is locked where one is there: no other run is at work
abbrev pub SeizesFile : Option MemFile → Result Bool Error → Type 0
SeizesFile (Some f) r = r ≡ Ok true
SeizesFile None r = IsErrAnd r (λ e. error_kind e ≡ NotFound)

-- what its calls do. Each file has one mode, which is kept. A file that is moved is still the one that was written, and one that is removed is not
abbrev pub may_do : MayDo MemSystem MemIn Measured
may_do = record {
  words = λ before r after. (r ≡ None) × (after ≡ before);
  stdin = λ before d after. (d.device.rest.now ≡ before.stdin.now) × (d.kind ≡ Other) × (after ≡ before);
  opens = λ before path r after. GivesFile (file_named before.files.now path) r × (after ≡ before);
  releases = λ before d after. after ≡ before;
  stdout = λ before r after. GivesRoom before.room Other r × (after ≡ record before { room = None });
  creates = λ before path r after. GivesRoom before.room (kind_written (file_named before.files.now path)) r
      × (after ≡ record before { room = None });
  looks = λ before path r after. (r ≡ Ok (option_map kind_of (file_named before.files.now path))) × (after ≡ before);
  makes = λ before path r after. MakesFile before (file_named before.files.now path) r after;
  seizes = λ before path r after. SeizesFile (file_named before.files.now path) r × (after ≡ before);
  holds = λ before path r after. (r ≡ is_some (file_named before.files.now path)) × (after ≡ before);
  keeps = λ before from to r after. (r ≡ Ok _) × (after ≡ before);
  moves = λ before from to r after. (r ≡ Ok _) × (after ≡ before);
  removes = λ before path r after. (r ≡ Ok _) × (after ≡ record before { written = None });
  closes = λ before d r after. (r ≡ Ok _) × (after ≡ record before { written = Some d.out });
}

-- it has no folders, and makes none
abbrev pub folders_do : FoldersDo MemSystem Measured NoFolder
folders_do = record {
  opens_folder = λ before path r after. IsErrAnd r (λ e. error_kind e ≡ NotFound) × (after ≡ before);
  names = λ before folder r left after. (r ≡ Ok None) × (left ≡ folder) × (after ≡ before);
  closes_folder = λ before folder after. after ≡ before;
  finds = λ before path links r after.
      (r ≡ Ok (option_map found_as (file_named before.files.now path))) × (after ≡ before);
  modes = λ before folder name r after. IsErrAnd r (λ e. error_kind e ≡ NotFound) × (after ≡ before);
  makes_folder = λ before path mode r after. IsErrAnd r (λ e. error_kind e ≡ Unsupported) × (after ≡ before);
  makes_as = λ before path mode r after. MakesFile before (file_named before.files.now path) r after;
  links = λ before from to r after. IsErrAnd r (λ e. error_kind e ≡ Unsupported) × (after ≡ before);
}
