-- A value that is shown byte by byte.
use Rattle.std.specs.Prelude.{ℕ, ◌+◌, ◌/◌, ◌%◌, ◌==◌, ◌&&◌, nat_lt, Bool, true, false, if◌then◌else◌, List, [], ◌∷◌}
use Rattle.std.specs.Prelude.{◌++◌, length, codes, count_by}
use Rattle.dcm_base.specs.declared.vr.Vr.{Vr}
use Rattle.dcm_base.specs.declared.syntax.Syntax.{Syntax}
use Rattle.dcm_base.specs.declared.mode.Mode.{Mode}
use Rattle.dcm_base.specs.Tables.Representation.{pad}
use Rattle.dcm_base.specs.Tree.Value.{units, order}
use Rattle.dcm_base.specs.Steps.Steps.{outputs}
use Rattle.dcm_base.specs.Dump.ValueText.{shape, shown_unit, is_single, escape, unit_text, unpadded, identified}
use Rattle.dcm_value.specs.declared.way.Way.{Way}
use Rattle.dcm_value.specs.declared.way.Way.TheVariants.{InBrackets, ByName, InUnits}
use Rattle.dcm_value.specs.Way.{way_of}
use Rattle.dcm_value.specs.Units.{one_text, separated, separated_units}
use Rattle.dcm_value.specs.Display.{Display, blank, emit, at_once, ending}

pub record Progress : Type 0 where
  -- what is shown
  pub vr : Vr
  pub syntax : Syntax
  pub size : ℕ
  -- how many bytes came, those that wait for more, and how many units or backslashes there were
  pub seen : ℕ
  pub held : List ℕ
  pub values : ℕ
  pub display : Display

abbrev pub started : Vr → Syntax → ℕ → Mode → Progress
started vr syntax size mode = record {
  vr = vr;
  syntax = syntax;
  size = size;
  seen = 0;
  held = [];
  values = 0;
  display = blank mode;
}

abbrev pub way : Progress → Way
way p = way_of (shape p.vr) p.size

-- a value in brackets begins with one
abbrev pub is_bracketed : Way → Bool
is_bracketed InBrackets = true
is_bracketed _ = false

abbrev pub is_unopened : Progress → Bool
is_unopened p = is_bracketed (way p) && (nat_lt 0 p.size && p.display.shown == 0)

abbrev pub opening : Progress → List ℕ
opening p = if is_unopened p then codes "[" else []

unfoldable pub opened : Progress → Progress
opened p = record p { display = emit p.display (opening p) }

-- the pad byte that makes a text even, at its end
abbrev pub is_pad_byte : Progress → ℕ → Bool
is_pad_byte p b = p.seen + 1 == p.size && (p.size % 2 == 0 && b == pad p.vr)

-- the byte makes a unit whole
abbrev pub is_whole : Progress → ℕ → Bool
is_whole p b = length (p.held ++ b ∷ []) == shown_unit p.vr

abbrev pub separator : ℕ → List ℕ
separator values = if values == 0 then [] else codes "\\"

-- what one byte more shows, in the order of the syntax
abbrev pub adds_as : Way → Progress → ℕ → List ℕ
adds_as InBrackets p b = if is_pad_byte p b then [] else escape b
adds_as ByName p b = []
adds_as InUnits p b = if is_whole p b then separator p.values
    ++ unit_text (shape p.vr) (order p.syntax p.vr (p.held ++ b ∷ [])) else []

abbrev pub adds : Progress → ℕ → List ℕ
adds p b = adds_as (way p) p b

-- the bytes that wait after it
abbrev pub held_as : Way → Progress → ℕ → List ℕ
held_as InBrackets p b = p.held
held_as ByName p b = p.held ++ b ∷ []
held_as InUnits p b = if is_whole p b then [] else p.held ++ b ∷ []

-- the units or backslashes that it makes, which are not counted in bytes that wait
abbrev pub counts_as : Way → Progress → ℕ → ℕ
counts_as InBrackets p b = if b == 92 then 1 else 0
counts_as ByName p b = 0
counts_as InUnits p b = if is_whole p b then 1 else 0

-- after n bytes, of which these wait, and that many units or backslashes, with this text shown
abbrev pub further : Progress → ℕ → List ℕ → ℕ → List ℕ → Progress
further p n held values bytes = record p {
  seen = p.seen + n;
  held = held;
  values = p.values + values;
  display = emit p.display bytes;
}

-- bytes more that wait
abbrev pub waits : Progress → List ℕ → Progress
waits p bytes = record p { seen = p.seen + length bytes; held = p.held ++ bytes }

-- units more, with this text
abbrev pub counts : Progress → ℕ → List ℕ → Progress
counts p n bytes = record p { values = p.values + n; display = emit p.display bytes }

-- the text of whole units after that many values
abbrev pub shown_after : ℕ → (List ℕ → List ℕ) → List (List ℕ) → List ℕ
shown_after values text [] = []
shown_after values text (u ∷ us) = separator values ++ (text u ++ separated text us)

abbrev pub shown : Progress → List ℕ → List ℕ
shown p v = shown_after p.values (one_text p.vr p.syntax) (units (shown_unit p.vr) v)

abbrev pub shows : Progress → List ℕ → Progress
shows p v = counts p (length v / shown_unit p.vr) (shown p v)

-- the text of the first unit
abbrev pub first : Progress → List ℕ → List ℕ
first p u = one_text p.vr p.syntax u

-- the text of whole units after others, and what it leads to
abbrev pub others : Progress → List ℕ → List ℕ
others p v = separated_units p.vr p.syntax v

abbrev pub shows_others : Progress → List ℕ → Progress
shows_others p v = counts p (length v / shown_unit p.vr) (others p v)

-- one byte more
unfoldable pub step : Progress → ℕ → Progress
step p b = further p 1 (held_as (way p) p b) (counts_as (way p) p b) (adds p b)

-- what it writes
unfoldable pub writes : Progress → ℕ → List ℕ
writes p b = at_once p.display.mode (adds p b)

-- what is written of the opening, and with bytes after it
abbrev pub opening_writes : Progress → List ℕ
opening_writes p = at_once p.display.mode (opening p)

abbrev pub feeds : Progress → List ℕ → List ℕ
feeds p bytes = opening_writes p ++ outputs step writes (opened p) bytes

-- what is shown in the end
abbrev pub closing_as : Way → Progress → List ℕ
closing_as InBrackets p = codes "]"
closing_as ByName p = identified (unpadded p.vr p.held)
closing_as InUnits p = []

abbrev pub closing : Progress → List ℕ
closing p = if p.size == 0 then codes "(no value available)" else closing_as (way p) p

abbrev pub closed : Progress → Progress
closed p = record p { display = emit p.display (closing p) }

-- what is written of the closing, and in the end
abbrev pub closing_writes : Progress → List ℕ
closing_writes p = at_once p.display.mode (closing p)

abbrev pub end_writes : Progress → List ℕ
end_writes p = ending (emit p.display (closing p))

unfoldable pub finishes : Progress → List ℕ
finishes p = closing_writes p ++ end_writes p

-- how many values there were
abbrev pub counted_as : Way → Progress → ℕ
counted_as InBrackets p = 1 + p.values
counted_as ByName p = 1 + count_by (λ b. b == 92) p.held
counted_as InUnits p = p.values

abbrev pub multiplicity : Progress → ℕ
multiplicity p = if p.size == 0 then 0 else if is_single p.vr then 1 else counted_as (way p) p
