-- An element that is written whole.
use Rattle.std.specs.Prelude.{◌≡◌, ℕ, List, length, ◌++◌, fold, Option, None, Result, Ok, Err}
use Rattle.std.specs.Io.KnownBytes.{append_known}
use Rattle.dcm_base.specs.Conversion.Recode.{leaf_head}
use Rattle.dcm_base.specs.Steps.Outputs as device
use Rattle.dcm_base.specs.Steps.Steps.{outputs}
use Rattle.dcm_devices.specs.Device.{AppendsFront}
use Rattle.dcm_stream.specs.declared.token.WholeFailed.{WholeFailed}
use Rattle.dcm_stream.specs.declared.token.WholeFailed.TheVariants.{AtHead, InValue}
use Rattle.dcm_base.specs.declared.syntax.Syntax.{Syntax}
use Rattle.dcm_head.specs.declared.head.Head.{Head}
use Rattle.dcm_sinks.specs.EncodeSink.{Copying, EncodeState, leaf_copy, copies, copy_writes, copy_ends}

-- what goes out of a value, to its pad byte
abbrev pub copied_whole : Copying → List ℕ → List ℕ
copied_whole c value = outputs copies copy_writes c value ++ copy_ends (fold copies c value)

-- head and value went out; or a beginning of the head; or the head, and a beginning of the value
abbrev pub PutsLeaf : {T : Type 0} → (held holds : Option (List ℕ)) → (head value : List ℕ) → Result T WholeFailed
    → Type 0
PutsLeaf held holds head value (Ok x) = holds ≡ append_known held (head ++ value)
PutsLeaf held holds head value (Err AtHead) = AppendsFront held holds head
PutsLeaf held holds head value (Err InValue) = AppendsFront (append_known held head) holds value

-- so did an element's, in a target syntax
pub record PutLeaf {W T : Type 0} (w : device.Writer W) (held holds : W) (target : Syntax) (head : Head)
    (syntax : Syntax) (value : List ℕ) (r : Result T WholeFailed) : Type 0 where
  pub bytes : PutsLeaf (w.contents held) (w.contents holds) (leaf_head target head.tag head.vr (length value))
      (copied_whole (leaf_copy syntax target head.vr (length value)) value) r
  pub failed : device.Tells w held holds r

-- no value is on its way
abbrev pub without_value : EncodeState → EncodeState
without_value s = record s { copying = None }
