-- An `Encoder` in the definitions.
use Rattle.std.specs.Prelude.{◌≡◌, ℕ, List, ◌++◌, Option, None, Some, Result, OnOk, fold}
use Rattle.dcm_base.specs.declared.syntax.Syntax.{Syntax}
use Rattle.dcm_base.specs.Steps.Atoms.{Atom, opens}
use Rattle.dcm_base.specs.Steps.Outputs as device
use Rattle.dcm_stream.specs.Judging.{head_form}
use Rattle.dcm_base.specs.Steps.Steps.{outputs}
use Rattle.dcm_head.specs.declared.head.Head.{Head}
use Rattle.dcm_stream.specs.Skip.{depth}
use Rattle.dcm_stream.specs.Telling.{PutsWhole}
use Rattle.dcm_stream.specs.declared.token.WholeFailed.{WholeFailed}
use Rattle.dcm_sinks.specs.declared.encode.copier.Copier.{Copier}
use Rattle.dcm_sinks.specs.declared.encode.encoder.Encoder.{Encoder}
use Rattle.dcm_sinks.specs.Copier.{copying}
use Rattle.dcm_sinks.specs.EncodeSink.{Copying, EncodeState, encode_opens, encode_opens_writes, encode_step}
use Rattle.dcm_sinks.specs.EncodeSink.{encode_writes}

abbrev pub copying_of : Option Copier → Option Copying
copying_of None = None
copying_of (Some c) = Some (copying c)

abbrev pub state : Encoder → EncodeState
state e = record { target = e.target; dropped = depth e.skip; copying = copying_of e.copier }

-- an element begins
abbrev pub opening : Head → Syntax → Atom
opening head syntax = opens head.tag head.vr head.length syntax

-- where one that is written begins, and what goes out
abbrev pub opened : EncodeState → Head → Syntax → EncodeState
opened s head syntax = encode_opens (head_form syntax head) s head.vr head.length syntax

abbrev pub opening_writes : EncodeState → Head → Syntax → List ℕ
opening_writes s head syntax =
    encode_opens_writes (head_form syntax head) s.target head.tag head.vr head.length

-- it read these atoms
abbrev pub Encoded : (old new : Encoder) → List Atom → Type 0
Encoded old new atoms = state new ≡ fold encode_step (state old) atoms

-- what it writes of them went out, or a beginning of it where the call failed
abbrev pub Encodes : {W T E : Type 0} → device.Writer W → (held holds : W) → Encoder → List Atom → Result T E → Type 0
Encodes w held holds encoder atoms r =
    device.Puts w held holds (outputs encode_step encode_writes (state encoder) atoms) r

-- it read these atoms, and the writer has failed exactly where the call did
pub record Took {W T E : Type 0} (w : device.Writer W) (held holds : W) (old new : Encoder) (atoms : List Atom)
    (r : Result T E) : Type 0 where
  pub state : OnOk r (Encoded old new atoms)
  pub bytes : Encodes w held holds old atoms r
  pub failed : device.Tells w held holds r

-- the same of an element with its whole value, and how far it came where the call failed
abbrev pub EncodesWhole : {W T : Type 0} → device.Writer W → (held holds : W) → Encoder → (head value : List Atom)
    → Result T WholeFailed → Type 0
EncodesWhole w held holds encoder head value r =
    PutsWhole encode_step encode_writes (state encoder) (w.contents held) (w.contents holds) head value r

pub record TookWhole {W T : Type 0} (w : device.Writer W) (held holds : W) (old new : Encoder) (head value : List Atom)
    (r : Result T WholeFailed) : Type 0 where
  pub state : OnOk r (Encoded old new (head ++ value))
  pub bytes : EncodesWhole w held holds old head value r
  pub failed : device.Tells w held holds r
