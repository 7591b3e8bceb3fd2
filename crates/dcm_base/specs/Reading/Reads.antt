-- What is read of a data set, and how the reading ends.
use Rattle.std.specs.Prelude.{◌≡◌, ℕ, ◌+◌, ◌-◌, ◌^◌, ◌<◌, List, ◌++◌, length, take, true, nat_lt, if◌then◌else◌, Some}
use Rattle.std.specs.Prelude.{None}
use Rattle.dcm_base.specs.declared.syntax.Syntax.{Syntax}
use Rattle.dcm_base.specs.declared.fault.Fault.{Fault}
use Rattle.dcm_base.specs.declared.fault.Fault.TheVariants.{EndsEarly, TooLong}
use Rattle.dcm_base.specs.Tree.Front.{Front, front}
use Rattle.dcm_base.specs.Bytes.Spelling.{SpellsFront}
use Rattle.dcm_base.specs.Reading.Stop.{Stop, complete, refused, Bar, stop_at}

-- no more than so many bytes of an input are read
abbrev pub INPUT_LIMIT : ℕ
INPUT_LIMIT = 2 ^ 62

abbrev pub end_too_long : Fault → ℕ → Stop
end_too_long EndsEarly offset = refused TooLong INPUT_LIMIT
end_too_long fault offset = refused fault offset

-- at a cut the input's end is no end
abbrev pub at_the_cut : Stop → Stop
at_the_cut complete = refused TooLong INPUT_LIMIT
at_the_cut (refused fault offset) = end_too_long fault offset

abbrev pub told : (input_size : ℕ) → Stop → Stop
told input_size stop = if nat_lt INPUT_LIMIT input_size then at_the_cut stop else stop

-- the top set is closed at an end without fault
abbrev pub ended : Stop → Front → Front
ended complete (front whole open_tree reached closed) = front whole open_tree reached true
ended (refused fault offset) f = f

-- f is the first front that a beginning of the bytes spells at which a stop applies; start is the offset of the first
-- byte
pub record StopsFirst (bar : Bar) (s : Syntax) (start : ℕ) (bytes : List ℕ) (f : Front) (stop : Stop) : Type 0 where
  pub read : List ℕ
  pub rest : List ℕ
  pub parts : bytes ≡ read ++ rest
  pub spelled : SpellsFront s f read
  pub stops : stop_at bar s start f (start + length read) rest ≡ Some stop
  pub first : (earlier later : List ℕ) (g : Front) → bytes ≡ earlier ++ later → length earlier < length read
      → SpellsFront s g earlier
      → stop_at bar s start g (start + length earlier) later ≡ None

-- of a data set that begins at start, f is read, and the reading ends with stop
abbrev pub Reads : Bar → Syntax → (start : ℕ) → List ℕ → Front → Stop → Type 0
Reads bar s start bytes f stop =
    (reached : Front) × (why : Stop) × StopsFirst bar s start (take (INPUT_LIMIT - start) bytes) reached why
    × (stop ≡ told (start + length bytes) why) × (f ≡ ended stop reached)
