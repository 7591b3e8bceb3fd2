-- The key of new unique identifiers, and why there is none.
use Rattle.std.specs.Prelude.{◌≡◌, ◌≢◌, ◌⊎◌, ◌≤◌, ◌<◌, ℕ, List, length, true, false, Result, Ok, Err}
use Rattle.std.specs.IoError.{error_kind}
use Rattle.std.specs.declared.io.Error.{Error}
use Rattle.std.specs.declared.io.ErrorKind.{ErrorKind}
use Rattle.std.specs.declared.io.ErrorKind.TheVariants as kinds
use Rattle.arrayvec.specs.ArrayVec.{ArrayVec}
use Rattle.dcm_base.specs.declared.fault.WordFault.TheVariants.{BadKey}
use Rattle.dcm_words.specs.declared.usage.Usage.TheVariants as usages
use Rattle.dcm_files.specs.declared.opened.Opened.{Opened}
use Rattle.dcm_files.specs.Devices.{MayDo, OpensInput}
use Rattle.dcm_cli.specs.declared.key.KeyRead.{KeyRead}
use Rattle.dcm_cli.specs.declared.key.NoKey.{NoKey}
use Rattle.dcm_cli.specs.declared.key.NoKey.TheVariants.{Unopened, Memory, Unread, Size}
use Rattle.dcm_cli.specs.InputCalls.{Reader, How, in_part, to_end, with_failure, ReadsInput}
use Rattle.dcm_cli.specs.ErrorLines.{key_line, usage_line, usage_status}
use Rattle.dcm_cli.specs.Status.{DEVICE}

-- how many bytes a key has
abbrev pub LEAST_OF_KEY : ℕ
LEAST_OF_KEY = 16

abbrev pub MOST_OF_KEY : ℕ
MOST_OF_KEY = 4096

-- a key was read so: all that the file gave; or it is too short, or too long, or reading it failed
abbrev pub KeyIs : (given : List ℕ) → How → Result (ArrayVec ℕ) NoKey → Type 0
KeyIs given how (Ok key) =
    (how ≡ to_end) × (key.items ≡ given) × (LEAST_OF_KEY ≤ length given) × (length given ≤ MOST_OF_KEY)
KeyIs given how (Err Size) =
    ((how ≡ to_end) × (length given < LEAST_OF_KEY)) ⊎ ((how ≡ in_part) × (MOST_OF_KEY < length given))
KeyIs given how (Err Unread) = how ≡ with_failure
KeyIs given how (Err Unopened) = ⊥
KeyIs given how (Err Memory) = ⊥

-- a reader was read so, as long as it may be a key
pub record ReadsKey {R : Type 0} (r : Reader R) (before after : R) (result : Result (ArrayVec ℕ) NoKey) : Type 0 where
  pub given : List ℕ
  pub how : How
  pub reads : ReadsInput r (λ p. length p ≤ MOST_OF_KEY) before given how after
  pub key_is : KeyIs given how result

-- why a key cannot be opened, by the kind of the error
pub record IsKeyCause (kind : ErrorKind) (cause : NoKey) : Type 0 where
  pub memory : kind ≡ kinds.OutOfMemory → cause ≡ Memory
  pub other : kind ≢ kinds.OutOfMemory → cause ≡ Unopened

-- the file of a key was opened, read and given back
pub data TakesKey {S I O : Type 0} (may : MayDo S I O) (r : Reader I) (path : List ℕ) (before : S)
    (result : Result KeyRead NoKey) (after : S) : Type 0 where
  not_opened : (e : Error) (cause : NoKey) → OpensInput may path before (Err e) after
      → IsKeyCause (error_kind e) cause → result ≡ Err cause → TakesKey may r path before result after
  no_key : (i : Opened I) (left : I) (has_input : S) (cause : NoKey) → OpensInput may path before (Ok i) has_input
      → ReadsKey r i.device left (Err cause) → may.releases has_input left after
      → result ≡ Err cause → TakesKey may r path before result after
  key : (i : Opened I) (left : I) (has_input : S) (k : KeyRead) → OpensInput may path before (Ok i) has_input
      → ReadsKey r i.device left (Ok k.bytes) → k.kind ≡ i.kind → may.releases has_input left after
      → result ≡ Ok k → TakesKey may r path before result after

-- the line that reports why there is none, and the status
abbrev pub no_key_line : NoKey → List ℕ
no_key_line Unopened = key_line false
no_key_line Unread = key_line true
no_key_line Size = usage_line (usages.Whole BadKey)
no_key_line Memory = usage_line usages.Memory

abbrev pub no_key_status : NoKey → ℕ
no_key_status Unopened = DEVICE
no_key_status Unread = DEVICE
no_key_status Size = usage_status (usages.Whole BadKey)
no_key_status Memory = usage_status usages.Memory
