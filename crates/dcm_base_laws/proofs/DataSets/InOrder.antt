-- What is read where tags must ascend, and is not refused for their order, is read the same where nothing is barred.
use Rattle.std.proofs.Common.{◌≡◌, ◌≢◌, ◌∙◌, ap, sym, ℕ, List, [], ◌∷◌, length, drop, Option, Some, None, Bool, true, false, not, refl, inl, inr, ◌⊎◌}
use Rattle.std.specs.Prelude.{◌+◌, ◌==◌, ◌&&◌, nat_le, nat_lt, if◌then◌else◌}
use Rattle.dcm_base.specs.declared.vr.Vr.{Vr}
use Rattle.dcm_base.specs.declared.syntax.Syntax.{Syntax}
use Rattle.dcm_base.specs.declared.level.Level.{Level}
use Rattle.dcm_base.specs.declared.fault.Fault.TheVariants.{EndsEarly, NotAscending, PassesEnd, TooDeep, UndefinedLength}
use Rattle.dcm_base.specs.Reading.Bars.{ascending_bar, innermost_reached, no_bar}
use Rattle.dcm_base.specs.Tree.Front.{Front}
use Rattle.dcm_base.specs.Bytes.Head.{head_size, tag_at, vr_at, length_at, long_length}
use Rattle.dcm_base.specs.Tables.Number.{number}
use Rattle.dcm_base.specs.Reading.Place.{depth, passes, room, levels, value_open}
use Rattle.dcm_base.specs.Reading.Reads.{INPUT_LIMIT, Reads, at_the_cut, told}
use Rattle.dcm_base.specs.Bytes.Spelling.{form, read_as}
use Rattle.dcm_base.specs.Reading.Stop.{Stop, refused, barred, opens_list, with_length, first_case, has_no_form, element_stop, item_stop, head_stop, innermost_stop, value_stop, stop_at, or_else}
use Rattle.dcm_base.specs.Tables.Tag.{is_above, is_item}

-- with the bar, the same stop, or one for the order of tags where there is none without it
abbrev Weaker : Option Stop → Option Stop → Type 0
Weaker a b = (a ≡ b) ⊎ ((b ≡ None) × ((offset : ℕ) × (a ≡ Some (refused NotAscending offset))))

-- ---- a head

-- the bar is the last case of all
last_case : (position : ℕ) (c : Bool) → Weaker (first_case (barred (if c then None else Some NotAscending) position)) None
last_case position true = inl refl
last_case position false = inr (refl, (position, refl))

earlier_case : (c : Bool) (stop : Stop) (a b : Option Stop) → Weaker a b → Weaker (if c then Some stop else a) (if c then Some stop else b)
earlier_case true stop a b h = inl refl
earlier_case false stop a b h = h

module _ (f : Front) where
  weaker_element : (s : Syntax) (around : List Level) (position : ℕ) (rest : List ℕ) (o : Option Vr) → Weaker (element_stop (ascending_bar f) s around position rest o) (element_stop (no_bar f) s around position rest o)
  weaker_element s around position rest None = inl refl
  weaker_element s around position rest (Some vr) =
      let declared = length_at s vr rest in
      earlier_case (passes (head_size s vr) (room position around)) (refused PassesEnd position) _ _
      (earlier_case (nat_lt (length rest) (head_size s vr)) (refused EndsEarly (position + length rest)) _ _
      (earlier_case (has_no_form (form s (read_as s (tag_at s rest) vr) declared)) (refused UndefinedLength position) _ _
      (earlier_case (passes (with_length (head_size s vr) declared) (room position around)) (refused PassesEnd position) _ _
      (earlier_case (opens_list (form s (read_as s (tag_at s rest) vr) declared) && nat_le 64 (depth around)) (refused TooDeep position) _ _
      (last_case position (is_above (tag_at s rest) (innermost_reached f)))))))

  weaker_head : (inner : Level) (around : List Level) (position : ℕ) (rest : List ℕ) → Weaker (head_stop (ascending_bar f) inner around position rest) (head_stop (no_bar f) inner around position rest)
  weaker_head inner around position rest = by_test (not ((tag_at inner.syntax rest).group == 0xFFFE))
    where
      delimiter : Option Stop
      delimiter = if is_item (tag_at inner.syntax rest) then item_stop inner.container around position (long_length (number inner.syntax 4 (drop 4 rest))) else None

      by_test : (c : Bool) → Weaker (if c then element_stop (ascending_bar f) inner.syntax around position rest (vr_at inner.syntax rest) else delimiter) (if c then element_stop (no_bar f) inner.syntax around position rest (vr_at inner.syntax rest) else delimiter)
      by_test true = weaker_element inner.syntax around position rest (vr_at inner.syntax rest)
      by_test false = inl refl

  weaker_after : (before a b : Option Stop) → Weaker a b → Weaker (or_else before a) (or_else before b)
  weaker_after None a b h = h
  weaker_after (Some stop) a b h = inl refl

  weaker_place : (ls : List Level) (position : ℕ) (rest : List ℕ) → Weaker (innermost_stop (ascending_bar f) ls position rest) (innermost_stop (no_bar f) ls position rest)
  weaker_place [] position rest = inl refl
  weaker_place (inner ∷ outer) position rest = weaker_after _ _ _ (weaker_head inner (inner ∷ outer) position rest)

weaker_stop : (s : Syntax) (start : ℕ) (f : Front) (position : ℕ) (rest : List ℕ) → Weaker (stop_at ascending_bar s start f position rest) (stop_at no_bar s start f position rest)
unfolding stop_at
weaker_stop s start f position rest = by_test (value_open f)
  where
    by_test : (c : Bool) → Weaker (if c then value_stop position rest else innermost_stop (ascending_bar f) (levels s start f) position rest) (if c then value_stop position rest else innermost_stop (no_bar f) (levels s start f) position rest)
    by_test true = inl refl
    by_test false = weaker_place f (levels s start f) position rest

-- ---- an input

none_below : (a b : Option Stop) → Weaker a b → a ≡ None → b ≡ None
none_below a b (inl same) e = sym same ∙ e
none_below a b (inr (none, why)) e = none

some_below : (a b : Option Stop) (stop : Stop) → Weaker a b → a ≡ Some stop → ((offset : ℕ) → stop ≢ refused NotAscending offset) → b ≡ Some stop
some_below a b stop (inl same) e other = sym same ∙ e
some_below a b stop (inr (none, (offset, is))) e other = absurd (other offset (cc))

told_order : (size offset : ℕ) → told size (refused NotAscending offset) ≡ refused NotAscending offset
told_order size offset = by_test (nat_lt INPUT_LIMIT size)
  where
    by_test : (c : Bool) → (if c then at_the_cut (refused NotAscending offset) else refused NotAscending offset) ≡ refused NotAscending offset
    by_test true = refl
    by_test false = refl

pub unbarred_reads : (s : Syntax) (start : ℕ) (bytes : List ℕ) (f : Front) (stop : Stop) → ((offset : ℕ) → stop ≢ refused NotAscending offset) → Reads ascending_bar s start bytes f stop → Reads no_bar s start bytes f stop
unbarred_reads s start bytes f stop other (reached, why, first, is, ends) = (
  reached,
  why,
  record {
    read = first.read;
    rest = first.rest;
    parts = first.parts;
    spelled = first.spelled;
    stops = some_below _ _ why (weaker_stop s start reached (start + length first.read) first.rest) first.stops (λ offset same. other offset (is ∙ ap (told (start + length bytes)) same ∙ told_order (start + length bytes) offset));
    first = λ earlier later g parts less spelled. none_below _ _ (weaker_stop s start g (start + length earlier) later) (first.first earlier later g parts less spelled);
  },
  is,
  ends,
)
