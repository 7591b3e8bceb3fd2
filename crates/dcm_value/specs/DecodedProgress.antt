-- A text by Specific Character Set that is shown byte by byte.
use Rattle.std.specs.Prelude.{ℕ, ◌+◌, ◌%◌, ◌==◌, ◌&&◌, ◌||◌, not, nat_lt, nat_le, Bool, true}
use Rattle.std.specs.Prelude.{false, if◌then◌else◌, List, [], ◌∷◌}
use Rattle.std.specs.Prelude.{◌++◌, codes, count_by, flat_map}
use Rattle.std.specs.Option.{option_map_or}
use Rattle.dcm_base.specs.declared.vr.Vr.{Vr}
use Rattle.dcm_base.specs.declared.vr.Vr.TheVariants.{LO, LT, PN, SH, ST, UC, UI, UT}
use Rattle.dcm_base.specs.declared.mode.Mode.{Mode}
use Rattle.dcm_base.specs.Tables.Representation.{pad}
use Rattle.dcm_base.specs.Tables.Uid.{uid_name}
use Rattle.dcm_base.specs.Steps.Steps.{outputs}
use Rattle.dcm_base.specs.Dump.ValueText.{is_single, unpadded}
use Rattle.dcm_text.specs.declared.set.TextKind.{TextKind}
use Rattle.dcm_text.specs.declared.set.TextKind.TheVariants.{OneValue, Values, Names}
use Rattle.dcm_text.specs.declared.sets.Sets.{Sets}
use Rattle.dcm_text.specs.Sets.{sets_of}
use Rattle.dcm_text.specs.Runs.{State, Run, begun, run}
use Rattle.dcm_text.specs.Shown.{dumped, dumped_piece}
use Rattle.dcm_value.specs.Decoded.{backslashes, decoded_ending}
use Rattle.dcm_value.specs.Display.{Display, blank, emit, at_once}

-- the texts that Specific Character Set concerns
abbrev pub is_concerned : Vr → Bool
is_concerned LO = true
is_concerned LT = true
is_concerned PN = true
is_concerned SH = true
is_concerned ST = true
is_concerned UC = true
is_concerned UT = true
is_concerned _ = false

-- they are read by what is in force, and every other text by what the empty value names: its bytes from 80 on have no
-- character
abbrev pub sets_for : Vr → Sets → Sets
sets_for vr sets = if is_concerned vr then sets else sets_of []

abbrev pub kind_of : Vr → TextKind
kind_of PN = Names
kind_of LO = Values
kind_of SH = Values
kind_of UC = Values
kind_of _ = OneValue

-- a value of this size may have a name: it is shown when all of it is there
abbrev pub is_named : Vr → ℕ → Bool
is_named UI size = nat_le size 64
is_named _ size = false

-- the name of a unique identifier, or the identifier, as ASCII
abbrev pub decoded_identified : List ℕ → List ℕ
decoded_identified uid =
    option_map_or (λ name. codes "=" ++ name) (uid_name uid)
    (codes "[" ++ dumped (sets_of []) OneValue uid ++ codes "]")

-- what is shown of pieces of a text
abbrev pub shown_pieces : Run → List ℕ
shown_pieces r = flat_map dumped_piece r.0

pub record DecodedProgress : Type 0 where
  -- what is shown
  pub vr : Vr
  pub size : ℕ
  -- how many bytes came, and those that may have a name
  pub seen : ℕ
  pub name : List ℕ
  -- what the text was so far, and how many backslashes there were
  pub state : State
  pub values : ℕ
  pub display : Display

abbrev pub started : Vr → Sets → ℕ → Mode → DecodedProgress
started vr sets size mode = record {
  vr = vr;
  size = size;
  seen = 0;
  name = [];
  state = begun (sets_for vr sets) (kind_of vr);
  values = 0;
  display = blank mode;
}

-- a value in brackets begins with one
abbrev pub is_unopened : DecodedProgress → Bool
is_unopened p = not (is_named p.vr p.size) && (nat_lt 0 p.size && p.display.shown == 0)

abbrev pub opening : DecodedProgress → List ℕ
opening p = if is_unopened p then codes "[" else []

unfoldable pub opened : DecodedProgress → DecodedProgress
opened p = record p { display = emit p.display (opening p) }

-- the pad byte that makes a text even, at its end
abbrev pub is_pad_byte : DecodedProgress → ℕ → Bool
is_pad_byte p b = p.seen + 1 == p.size && (p.size % 2 == 0 && b == pad p.vr)

-- what one byte more decides: nothing where it waits for a name, or is the pad byte
abbrev pub next_run : DecodedProgress → ℕ → Run
next_run p b = if is_named p.vr p.size || is_pad_byte p b then ([], p.state) else run false p.state (b ∷ [])

-- what it shows
abbrev pub adds : DecodedProgress → ℕ → List ℕ
adds p b = shown_pieces (next_run p b)

-- the bytes that may have a name, after it
abbrev pub name_after : DecodedProgress → List ℕ → List ℕ
name_after p v = if is_named p.vr p.size then p.name ++ v else p.name

-- after n bytes, of which these may have a name, and that decided this
abbrev pub further : DecodedProgress → ℕ → List ℕ → Run → DecodedProgress
further p n name r = record p {
  seen = p.seen + n;
  name = name;
  state = r.1;
  values = p.values + backslashes r.0;
  display = emit p.display (shown_pieces r);
}

-- one byte more
unfoldable pub step : DecodedProgress → ℕ → DecodedProgress
step p b = further p 1 (name_after p (b ∷ [])) (next_run p b)

-- what it writes
unfoldable pub writes : DecodedProgress → ℕ → List ℕ
writes p b = at_once p.display.mode (adds p b)

-- what is written of the opening, and with bytes after it
abbrev pub opening_writes : DecodedProgress → List ℕ
opening_writes p = at_once p.display.mode (opening p)

abbrev pub feeds : DecodedProgress → List ℕ → List ℕ
feeds p bytes = opening_writes p ++ outputs step writes (opened p) bytes

-- what the end of the text decides of the bytes that wait
abbrev pub last_run : DecodedProgress → Run
last_run p = if is_named p.vr p.size then ([], p.state) else run true p.state []

-- what is shown in the end
abbrev pub closing : DecodedProgress → List ℕ
closing p =
    if p.size == 0 then codes "(no value available)"
    else if is_named p.vr p.size then decoded_identified (unpadded p.vr p.name)
    else shown_pieces (last_run p) ++ codes "]"

abbrev pub closed : DecodedProgress → DecodedProgress
closed p = record p {
  state = (last_run p).1;
  values = p.values + backslashes (last_run p).0;
  display = emit p.display (closing p);
}

-- what is written of the closing, and in the end
abbrev pub closing_writes : DecodedProgress → List ℕ
closing_writes p = at_once p.display.mode (closing p)

abbrev pub end_writes : DecodedProgress → List ℕ
end_writes p = decoded_ending (emit p.display (closing p))

unfoldable pub finishes : DecodedProgress → List ℕ
finishes p = closing_writes p ++ end_writes p

-- how many values a text has whose end is decided
abbrev pub counted : DecodedProgress → ℕ
counted p =
    if p.size == 0 then 0 else if is_single p.vr then 1
    else 1 + (if is_named p.vr p.size then count_by (λ b. b == 92) (unpadded p.vr p.name) else p.values)

-- how many values there are in the end
unfoldable pub multiplicity : DecodedProgress → ℕ
multiplicity p = counted (closed p)
