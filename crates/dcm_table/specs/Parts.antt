-- What is written as a row of parts: bytes, and floats, whose text reads back as the float.
use Rattle.std.specs.Prelude.{◌≡◌, ℕ, ◌≤◌, List, [], ◌∷◌, ◌++◌, length, Option, Some, Result, MatchResult, IsTrue, IsFalse}
use Rattle.std.specs.Prelude.{IsAscii, from_bits, codes, if◌then◌else◌}
use lib.Ieee.{nan_bits}
use Rattle.std.specs.Io.KnownBytes.{append_known}
use Rattle.std.specs.Float.{binary32, binary64, float_is_finite}
use Rattle.std.specs.Float.Ieee.{Format}
use Rattle.ryu.specs.Parse.{parse_float}
use Rattle.ryu.specs.Plain.{IsPlainNumber, IsLaidOutNumber, word_of}
use Rattle.dcm_devices.specs.Device.{AppendsFront, Tells}
use Rattle.dcm_devices.specs.Writing.{Writer}

-- a float has four bytes or eight
pub data Width : Type 0 where
  single : Width
  double : Width

abbrev pub format_of : Width → Format
format_of single = binary32
format_of double = binary64

-- an exponent is written where the number would have more digits before the point, or more zeros after it
abbrev pub whole_digits : Width → ℕ
whole_digits single = 13
whole_digits double = 16

abbrev pub leading_zeros : Width → ℕ
leading_zeros single = 5
leading_zeros double = 4

pub data Part : Type 0 where
  some_bytes : (bytes : List ℕ) → Part
  a_float : (width : Width) (bits : ℕ) → Part

-- bits that are no number are NaN
abbrev pub float_part : Width → ℕ → Part
float_part w bits = if nan_bits (format_of w) bits then some_bytes (codes "NaN") else a_float w bits

-- a text reads back as the float of these bits, and has its layout
pub record IsFloatText (w : Width) (bits : ℕ) (text : List ℕ) : Type 0 where
  pub parses : parse_float (format_of w) text ≡ Some (from_bits (format_of w) bits)
  pub plain : IsTrue (float_is_finite (from_bits (format_of w) bits)) → IsPlainNumber text
  pub layout : IsTrue (float_is_finite (from_bits (format_of w) bits))
      → IsLaidOutNumber (whole_digits w) (leading_zeros w) text
  pub word : IsFalse (float_is_finite (from_bits (format_of w) bits)) → text ≡ word_of (from_bits (format_of w) bits)
  pub short : length text ≤ 25
  pub ascii : IsAscii text

abbrev pub SpellsPart : Part → List ℕ → Type 0
SpellsPart (some_bytes bytes) text = text ≡ bytes
SpellsPart (a_float w bits) text = IsFloatText w bits text

-- a text spells the parts, one after another
abbrev pub SpellsParts : List Part → List ℕ → Type 0
SpellsParts [] text = text ≡ []
SpellsParts (p ∷ parts) text =
    (first rest : List ℕ) × (text ≡ first ++ rest) × SpellsPart p first × SpellsParts parts rest

-- the known bytes grew by the parts
pub record AppendsParts (old new : Option (List ℕ)) (parts : List Part) : Type 0 where
  pub text : List ℕ
  pub spelled : SpellsParts parts text
  pub grown : new ≡ append_known old text

-- by a beginning of what some of the first parts spell, and the next byte of it did not follow
pub record AppendsFrontOfParts (old new : Option (List ℕ)) (parts : List Part) : Type 0 where
  pub first : List Part
  pub others : List Part
  pub whole : parts ≡ first ++ others
  pub text : List ℕ
  pub spelled : SpellsParts first text
  pub front : AppendsFront old new text

-- the parts went out whole, or a beginning of them where the call failed; and the writer has failed where it did, and
-- otherwise that stayed
pub record WroteParts {W T E : Type 0} (w : Writer W) (old new : W) (parts : List Part) (r : Result T E) : Type 0 where
  pub bytes : MatchResult r (λ _. AppendsParts (w.contents old) (w.contents new) parts)
      (λ _. AppendsFrontOfParts (w.contents old) (w.contents new) parts)
  pub failed : Tells (w.has_failed old) (w.has_failed new) r
