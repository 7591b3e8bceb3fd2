-- What a function made of the words of a command line.
use Rattle.std.specs.Prelude.{◌≡◌, ℕ, ◌+◌, ◌<◌, nat_le, List, [], ◌∷◌, length, Option, Some, None, Result, Ok, Err}
use Rattle.std.specs.Prelude.{Bool, false, ◌&&◌, if◌then◌else◌, codes, bytes_eq}
use Rattle.std.specs.Option.{option_map}
use Rattle.std.specs.Borrow.{Bor}
use Rattle.dcm_words.specs.declared.usage.Usage.{Usage}
use Rattle.dcm_words.specs.declared.usage.Usage.TheVariants.{AtWord, Whole, InEdit, InElement, TooManyElements, Memory}
use Rattle.dcm_words.specs.declared.usage.Move.{Move}
use Rattle.dcm_words.specs.declared.usage.Word.{Word}
use Rattle.dcm_base.specs.declared.fault.WordFault.TheVariants.{BadOptionValue}
use Rattle.dcm_words.specs.Words as words
use Rattle.dcm_words.specs.declared.job.Build.{Build}
use Rattle.dcm_words.specs.declared.job.Dump.{Dump}
use Rattle.dcm_words.specs.declared.job.Named.{Named}
use Rattle.dcm_words.specs.declared.job.Job.{Job}
use Rattle.dcm_words.specs.declared.job.Job.TheVariants as jobs
use Rattle.dcm_words.specs.declared.job.Planned.{Planned}
use Rattle.dcm_words.specs.declared.words.Tool.{Tool}
use Rattle.dcm_words.specs.declared.words.Tool.TheVariants as tools
use Rattle.dcm_words.specs.declared.words.Paths.{Paths}
use Rattle.dcm_words.specs.declared.words.Paths.TheVariants as paths
use Rattle.dcm_words.specs.declared.words.Said.{Said}
use Rattle.dcm_words.specs.Tags.{tags_of}
use Rattle.dcm_words.specs.Naming.{NamingIs}

abbrev pub named_as : Named → words.Named
named_as n = record { tags = tags_of n.tags; ways = n.ways }

abbrev pub dump_job : Dump → words.Job
dump_job d = words.dump_of (named_as d.named) d.texts d.dictionary d.mode d.bare

abbrev pub job_of : {A : Type 0} → Job A → words.Job
job_of (jobs.Dump d) = dump_job d
job_of (jobs.Convert c) = words.convert c.dictionary c.target
job_of (jobs.Build b) = words.build b.limit
job_of (jobs.Modify m) = words.modify m.dictionary m.edits
job_of (jobs.Deidentify d) = words.deidentify d.options d.reports d.key.items

abbrev pub planned : {A : Type 0} → Planned A → words.Plan
planned p = record {
  input = p.input.now;
  output = p.output.now;
  key = option_map (λ k. k.now) p.key;
  overwrites = p.overwrites;
  days_by_key = p.days_by_key;
  job = job_of p.job;
}

-- what a function returned is what the words mean
abbrev pub Gives : {A : Type 0} → Result (Planned A) Usage → Result words.Plan Usage → Type 0
Gives (Ok p) meant = meant ≡ Ok (planned p)
Gives (Err u) meant = meant ≡ Err u

-- the same, but where the memory for edits was refused
abbrev pub GivesUnlessMemory : {A : Type 0} → Result (Planned A) Usage → Result words.Plan Usage → Type 0
GivesUnlessMemory (Ok p) meant = meant ≡ Ok (planned p)
GivesUnlessMemory (Err Memory) meant = Unit {0}
GivesUnlessMemory (Err (AtWord u n)) meant = meant ≡ Err (AtWord u n)
GivesUnlessMemory (Err (Whole u)) meant = meant ≡ Err (Whole u)
GivesUnlessMemory (Err (InEdit u n)) meant = meant ≡ Err (InEdit u n)
GivesUnlessMemory (Err (InElement u n)) meant = meant ≡ Err (InElement u n)
GivesUnlessMemory (Err TooManyElements) meant = meant ≡ Err TooManyElements

-- the edits before the last two words, and these
abbrev pub edits_between : List (List ℕ) → List ℕ → List ℕ → words.EditWords
edits_between edits input output = record { edits = edits; input = input; output = output }

-- whether two paths end the words of dcmodify after its name
abbrev pub has_paths : List (List ℕ) → Bool
has_paths others = elim (words.paths_apart others) [
  | None ↦ false
  | Some e ↦ words.is_path e.input
      && words.is_path e.output
]

-- whether memory is taken for the edits that the words mean: the first word is dcmodify, and two paths end the others
abbrev pub takes_memory : List (List ℕ) → Bool
takes_memory [] = false
takes_memory (tool ∷ others) = bytes_eq tool (codes "dcmodify") && has_paths others

-- what a function made of the options of dcmdump of several files
abbrev pub GivesDump : Result (Option Dump) Usage → Result (Option words.Job) Usage → Type 0
GivesDump (Ok each) meant = meant ≡ Ok (option_map dump_job each)
GivesDump (Err u) meant = meant ≡ Err u

-- ---- word by word

-- what a word says to a tool
abbrev pub reader : Tool → List ℕ → Word
reader tools.Dump w = words.dump_word w
reader tools.Dumps w = words.dumps_word w
reader tools.Convert w = words.convert_word w
reader tools.Build w = words.build_word w
reader tools.Deidentify w = words.deidentify_word w

-- a number, or one past the most where it is higher
abbrev pub capped : (most : ℕ) → ℕ → ℕ
capped most n = if nat_le n most then n else most + 1

-- the value that the words after word n begin with
abbrev pub given : {A : Type 0} → ℕ → Option A → Result A Usage
given n None = Err (AtWord BadOptionValue n)
given n (Some value) = Ok value

abbrev pub value_after : {A : Type 0} → (List ℕ → Option A) → ℕ → List (List ℕ) → Result A Usage
value_after of n [] = given n None
value_after of n (v ∷ others) = given n (of v)

abbrev pub limit_after : ℕ → List (List ℕ) → Result ℕ Usage
limit_after n others = value_after words.limit_of n others

abbrev pub move_after : ℕ → List (List ℕ) → Result Move Usage
move_after n others = value_after words.move_of n others

abbrev pub key_after : ℕ → List (List ℕ) → Result (List ℕ) Usage
key_after n others = value_after words.key_of n others

-- a word of any kind may name an element, or name none
abbrev pub element_after : ℕ → List (List ℕ) → Result (List ℕ) Usage
element_after n others = value_after Some n others

-- what a function made of them
abbrev pub LimitAs : Result Build Usage → Result ℕ Usage → Type 0
LimitAs (Ok b) meant = meant ≡ Ok b.limit
LimitAs (Err u) meant = meant ≡ Err u

abbrev pub KeyAs : Result (Bor (List ℕ)) Usage → Result (List ℕ) Usage → Type 0
KeyAs (Ok k) meant = meant ≡ Ok k.now
KeyAs (Err u) meant = meant ≡ Err u

-- the paths so far
abbrev pub PathsAre : Paths → List (List ℕ) → Type 0
PathsAre paths.None ps = ps ≡ []
PathsAre (paths.One first) ps = ps ≡ first.now ∷ []
PathsAre (paths.Two first second) ps = ps ≡ first.now ∷ second.now ∷ []
PathsAre paths.More ps = 2 < length ps

-- what was said so far, with these paths and these words that name elements
abbrev pub said_with_words : Said → (paths elements : List (List ℕ)) → words.Said
said_with_words s ps es = record {
  dictionary = s.dictionary;
  mode = s.mode;
  texts = s.texts;
  elements = es;
  ways = s.ways;
  data_set = s.data_set;
  bare = s.bare;
  target = s.target;
  limit = s.build.limit;
  choice = s.choice;
  pixels_dealt = s.pixels_dealt;
  key = option_map (λ k. k.now) s.key;
  overwrites = s.overwrites;
  paths = ps;
}

-- what a function made of all the words
abbrev pub SaidAs : Result Said Usage → Result words.Said Usage → Type 0
SaidAs (Ok s) meant = (ps es : List (List ℕ)) × PathsAre s.paths ps × NamingIs s.naming es
    × (meant ≡ Ok (said_with_words s ps es))
SaidAs (Err u) meant = meant ≡ Err u
