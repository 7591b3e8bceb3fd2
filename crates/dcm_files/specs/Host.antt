-- The system that a program runs on.
use Rattle.std.specs.Prelude.{◌≡◌, ◌++◌, ◌∷◌, [], ℕ, List, Option, false, IfOk}
use Rattle.dcm_devices.specs.declared.std_device.Std.{Std}
use Rattle.dcm_files.specs.Call.{Call, gave_words, gave_input, opened, released, gave_output, created, looked, made}
use Rattle.dcm_files.specs.Call.{moved, removed, closing, closed, kind_in, opened_folder, named, closed_folder, found, made_folder}
use Rattle.dcm_files.specs.Call.{gave_mode, made_as, linked, whether, kept_mode, seized, held}
use Rattle.dcm_files.specs.Devices.{MayDo}
use Rattle.dcm_files.specs.Folders.{FoldersDo}
use Rattle.dcm_files.specs.HostFolder.{Listing, MayRead, Next}

-- a device that has not failed, and has neither given nor taken a byte
pub record IsNew {T : Type 0} (device : Std T) : Type 0 where
  pub sound : device.failed ≡ false
  pub unused : device.passed.bytes ≡ []

-- a call came after these, and no other did
abbrev pub Adds : Call → List Call → List Call → Type 0
Adds call before after = after ≡ before ++ call ∷ []

-- what its calls do: each adds itself to those that were made, and what they open is new
abbrev pub noted : {S T U : Type 0} → (calls : S → List Call) → MayDo S (Std T) (Std U)
noted calls = record {
  words = λ before r after. Adds (gave_words r) (calls before) (calls after);
  stdin = λ before d after. Adds (gave_input d.kind) (calls before) (calls after) × IsNew d.device;
  opens = λ before path r after.
      Adds (opened path (kind_in r)) (calls before) (calls after) × IfOk r (λ d. IsNew d.device);
  releases = λ before d after. Adds (released d.passed.bytes d.failed) (calls before) (calls after);
  stdout = λ before r after. Adds (gave_output (kind_in r)) (calls before) (calls after) × IfOk r (λ d. IsNew d.device);
  creates = λ before path r after.
      Adds (created path (kind_in r)) (calls before) (calls after) × IfOk r (λ d. IsNew d.device);
  looks = λ before path r after. Adds (looked path r) (calls before) (calls after);
  makes = λ before path r after.
      Adds (made path (kind_in r)) (calls before) (calls after) × IfOk r (λ d. IsNew d.device);
  seizes = λ before path r after. Adds (seized path r) (calls before) (calls after);
  holds = λ before path r after. Adds (held path r) (calls before) (calls after);
  keeps = λ before from to r after. Adds (kept_mode from to r) (calls before) (calls after);
  moves = λ before from to r after. Adds (moved from to r) (calls before) (calls after);
  removes = λ before path r after. Adds (removed path r) (calls before) (calls after);
  closes = λ before d r after. calls after ≡ calls before ++ closing d.passed.bytes d.failed ∷ closed r ∷ [];
}

-- and those on folders, of what the folders have still to list and what a call on them may answer
abbrev pub noted_folders : {S D U : Type 0} → (calls : S → List Call) → (remaining : D → Option (List ℕ)) → MayRead D
    → FoldersDo S (Std U) (Listing D)
noted_folders calls remaining may_read = record {
  opens_folder = λ before path r after.
      Adds (opened_folder path (whether r)) (calls before) (calls after) × IfOk r (λ folder. folder.pending ≡ []);
  names = λ before folder r left after. Adds (named r) (calls before) (calls after)
      × Next remaining may_read folder r left;
  closes_folder = λ before folder after. Adds closed_folder (calls before) (calls after);
  finds = λ before path links r after. Adds (found path links r) (calls before) (calls after);
  modes = λ before folder name r after. Adds (gave_mode folder name r) (calls before) (calls after);
  makes_folder = λ before path mode r after. Adds (made_folder path mode r) (calls before) (calls after);
  makes_as = λ before path mode r after.
      Adds (made_as path mode (kind_in r)) (calls before) (calls after) × IfOk r (λ d. IsNew d.device);
  links = λ before from to r after. Adds (linked from to r) (calls before) (calls after);
}
