-- The state of the sink, as the program holds it.
use Rattle.std.specs.Prelude.{◌≡◌, ℕ, List, option_map, reverse, fold, ⊤}
use Rattle.dcm_base.specs.declared.form.Form.TheVariants.{Value as a_value}
use Rattle.dcm_base.specs.declared.syntax.Syntax.{Syntax}
use Rattle.dcm_base.specs.Steps.Atoms.{Atom}
use Rattle.dcm_base.specs.Steps.Steps.{outputs}
use Rattle.dcm_head.specs.declared.head.Head.{Head}
use Rattle.dcm_stream.specs.Skip.{depth}
use Rattle.dcm_stream.specs.Tokens.{whole_atoms}
use Rattle.dcm_stream.specs.declared.token.Token.{Token}
use Rattle.dcm_stream.specs.declared.token.Token.TheVariants.{Open, Bytes, CloseLeaf, OpenItem, CloseItem, CloseSeq}
use Rattle.dcm_stream.specs.declared.token.Token.TheVariants.{OpenFragment, End}
use Rattle.dcm_deid.specs.declared.held.HeldValue.{HeldValue}
use Rattle.dcm_deid.specs.declared.deidentifier.Deidentifier.{Deidentifier}
use Rattle.dcm_deid.specs.declared.fate.Fate.{Fate}
use Rattle.dcm_deid.specs.declared.fate.Fate.TheVariants.{Keep}
use Rattle.dcm_deid.specs.declared.fate.Options.{Options}
use Rattle.dcm_deid.specs.DeidentifySink.{Held, Place, State, next, passed, head_by}

abbrev pub held : HeldValue → Held
held h = record { fate = h.fate; tag = h.tag; vr = h.vr; syntax = h.syntax; bytes = h.bytes.items; is_longer = h.is_longer }

abbrev pub place : Deidentifier → Place
place d = record {
  last = d.last;
  outer = reverse d.outermost_first.items;
  dropped = depth d.skip;
  held = option_map held d.held;
  seen = d.seen;
}

abbrev pub state : Options → (key : List ℕ) → Deidentifier → State
state options key d = record { options = options; key = key; place = place d }

-- what is passed on of these atoms
abbrev pub passed_of : Options → (key : List ℕ) → Deidentifier → List Atom → List Atom
passed_of options key d atoms = outputs next passed (state options key d) atoms

-- it went on over these atoms
abbrev pub GoesOn : Options → (old new : Deidentifier) → List Atom → Type 0
GoesOn options old new atoms =
    (key : List ℕ) → state options key new ≡ fold next (state options key old) atoms

-- what is passed on of an element of this fate with its whole value, which is not held
abbrev pub whole_by : Fate → Head → Syntax → List ℕ → List Atom
whole_by Keep head syntax value = whole_atoms head syntax value
whole_by fate head syntax value = head_by fate a_value head.tag head.vr head.length syntax

-- the tokens that are passed on as they are where nothing is left out, and of which nothing is made where something is
abbrev pub IsPlain : Token → Type 0
IsPlain (Open head syntax) = ⊥
IsPlain (Bytes bytes) = ⊤
IsPlain CloseLeaf = ⊥
IsPlain (OpenItem declared) = ⊥
IsPlain CloseItem = ⊤
IsPlain CloseSeq = ⊤
IsPlain (OpenFragment size) = ⊤
IsPlain End = ⊥
