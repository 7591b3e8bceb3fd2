-- What the step of a line means: a value is what its text reads as.
use Rattle.std.specs.Prelude.{ℕ, List, [], ◌∷◌, take, drop, Option, Some, None, Bool, false, ◌&&◌, ◌==◌, if◌then◌else◌, codes}
use Rattle.std.specs.Str.{byte}
use Rattle.dcm_base.specs.declared.vr.Vr.TheVariants.{OB}
use Rattle.dcm_base.specs.Lines.Line as spec
use Rattle.dcm_base.specs.Lines.ReadValue.{◌>>=◌, value_of_text}
use Rattle.dcm_build.specs.declared.line.LineParts.{LineParts}
use Rattle.dcm_build.specs.declared.line.Step.{Step}
use Rattle.dcm_build.specs.declared.line.Step.TheVariants.{Leaf, Sequence, FragmentList, Item, Fragment, ItemEnd}
use Rattle.dcm_build.specs.declared.line.Step.TheVariants.{SequenceEnd}
use Rattle.dcm_build.specs.declared.line.Meaning.{Meaning}
use Rattle.dcm_build.specs.declared.line.Meaning.TheVariants as meanings

abbrev pub step_of : Step → spec.Step
step_of (Leaf tag vr text) = spec.show_leaf tag vr (value_of_text vr text.now)
step_of (Sequence tag vr) = spec.begin_sequence tag vr
step_of (FragmentList tag vr) = spec.begin_fragments tag vr
step_of Item = spec.begin_item
step_of (Fragment text) = spec.show_fragment (value_of_text OB text.now)
step_of ItemEnd = spec.end_item
step_of SequenceEnd = spec.end_sequence

abbrev pub meaning_of : Meaning → spec.Meaning
meaning_of meanings.Nothing = spec.nothing
meaning_of (meanings.Step step) = spec.one (step_of step)
meaning_of meanings.ByCharacters = spec.by_characters
meaning_of meanings.NoLine = spec.no_line

-- whether there is a closing parenthesis that a space or the line's end follows
abbrev pub is_closed : List ℕ → Bool
is_closed [] = false
is_closed (c ∷ cs) = c == byte ")" && spec.at_space_or_end cs

-- the value field, where nothing or a comment follows it
abbrev pub sole_value : List ℕ → Option (List ℕ)
sole_value cs = if spec.is_skipped (spec.value_field cs).rest then Some (spec.value_field cs).value else None

-- the letters after a tag, and all from the value field on
abbrev pub after_tag : List ℕ → Option (List ℕ × List ℕ)
after_tag cs =
    spec.past_spaces cs >>= λ named. spec.past_spaces (drop 2 named) >>= λ rest.
    if spec.is_end rest then None else Some (take 2 named, rest)

abbrev pub parts_of : LineParts → spec.Parts
parts_of p = record { tag = p.tag; letters = p.letters.now; rest = p.rest.now }

abbrev pub eight_spaces : List ℕ
eight_spaces = codes "        "
