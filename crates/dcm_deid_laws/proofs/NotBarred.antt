-- What is read to its end where a tool bars something of itself is read the same where less is barred.
use Rattle.std.proofs.Common.{◌≡◌, ◌∙◌, ap, sym, ℕ, List, [], ◌∷◌, length, drop, Option, Some, None, Bool, true, false, not, refl, inl, inr, ◌⊎◌}
use Rattle.std.specs.Prelude.{◌+◌, ◌==◌, ◌&&◌, nat_le, nat_lt, if◌then◌else◌}
use Rattle.dcm_base.specs.declared.length.Length.{Length}
use Rattle.dcm_base.specs.declared.tag.Tag.{Tag}
use Rattle.dcm_base.specs.declared.vr.Vr.{Vr}
use Rattle.dcm_base.specs.declared.syntax.Syntax.{Syntax}
use Rattle.dcm_base.specs.declared.level.Level.{Level}
use Rattle.dcm_base.specs.declared.fault.Fault.{Fault}
use Rattle.dcm_base.specs.declared.fault.Fault.TheVariants.{EndsEarly, PassesEnd, TooDeep, UndefinedLength}
use Rattle.dcm_base.specs.Reading.Bars.{no_bar}
use Rattle.dcm_base.specs.Tree.Front.{Front}
use Rattle.dcm_base.specs.Bytes.Head.{head_size, tag_at, vr_at, length_at, long_length}
use Rattle.dcm_base.specs.Tables.Number.{number}
use Rattle.dcm_base.specs.Reading.Place.{depth, passes, room, levels, value_open}
use Rattle.dcm_base.specs.Reading.Reads.{INPUT_LIMIT, Reads, at_the_cut, end_too_long, told}
use Rattle.dcm_base.specs.Bytes.Spelling.{form, read_as}
use Rattle.dcm_base.specs.Reading.Stop.{Stop, complete, refused, Bar, barred, opens_list, with_length, first_case, has_no_form, element_stop, item_stop, head_stop, innermost_stop, value_stop, stop_at, or_else}
use Rattle.dcm_base.specs.Tables.Tag.{is_item}

-- with the bar, the same stop, or a refusal by such a fault
abbrev Weaker : (Fault → Type 0) → Option Stop → Option Stop → Type 0
Weaker P a b = (a ≡ b) ⊎ ((fault : Fault) × (offset : ℕ) × P fault × (a ≡ Some (refused fault offset)))

-- bars the same, or more by such a fault
abbrev pub Bars : (Fault → Type 0) → (more less : Option Fault) → Type 0
Bars P more less = (more ≡ less) ⊎ ((fault : Fault) × P fault × (more ≡ Some fault))

abbrev pub BarsMore : (Fault → Type 0) → (bar less : Bar) → Type 0
BarsMore P bar less = (f : Front) (tag : Tag) (vr : Vr) (declared : Length) → Bars P (bar f tag vr declared) (less f tag vr declared)

-- ---- a head

-- the bar is the last case of all
last_case : (P : Fault → Type 0) (position : ℕ) (more less : Option Fault) → Bars P more less → Weaker P (first_case (barred more position)) (first_case (barred less position))
last_case P position more less (inl same) = inl (ap (λ (x : Option Fault). first_case (barred x position)) same)
last_case P position more less (inr (fault, such, is)) = inr (fault, position, such, ap (λ (x : Option Fault). first_case (barred x position)) is)

earlier_case : (P : Fault → Type 0) (c : Bool) (stop : Stop) (a b : Option Stop) → Weaker P a b → Weaker P (if c then Some stop else a) (if c then Some stop else b)
earlier_case P true stop a b h = inl refl
earlier_case P false stop a b h = h

module _ (P : Fault → Type 0) (bar less : Bar) (weaker : BarsMore P bar less) (f : Front) where
  weaker_element : (s : Syntax) (around : List Level) (position : ℕ) (rest : List ℕ) (o : Option Vr) → Weaker P (element_stop (bar f) s around position rest o) (element_stop (less f) s around position rest o)
  weaker_element s around position rest None = inl refl
  weaker_element s around position rest (Some vr) =
      let declared = length_at s vr rest in
      earlier_case P (passes (head_size s vr) (room position around)) (refused PassesEnd position) _ _
      (earlier_case P (nat_lt (length rest) (head_size s vr)) (refused EndsEarly (position + length rest)) _ _
      (earlier_case P (has_no_form (form s (read_as s (tag_at s rest) vr) declared)) (refused UndefinedLength position) _ _
      (earlier_case P (passes (with_length (head_size s vr) declared) (room position around)) (refused PassesEnd position) _ _
      (earlier_case P (opens_list (form s (read_as s (tag_at s rest) vr) declared) && nat_le 64 (depth around)) (refused TooDeep position) _ _
      (last_case P position (bar f (tag_at s rest) vr declared) (less f (tag_at s rest) vr declared) (weaker f (tag_at s rest) vr declared))))))

  weaker_head : (inner : Level) (around : List Level) (position : ℕ) (rest : List ℕ) → Weaker P (head_stop (bar f) inner around position rest) (head_stop (less f) inner around position rest)
  weaker_head inner around position rest = by_test (not ((tag_at inner.syntax rest).group == 0xFFFE))
    where
      delimiter : Option Stop
      delimiter = if is_item (tag_at inner.syntax rest) then item_stop inner.container around position (long_length (number inner.syntax 4 (drop 4 rest))) else None

      by_test : (c : Bool) → Weaker P (if c then element_stop (bar f) inner.syntax around position rest (vr_at inner.syntax rest) else delimiter) (if c then element_stop (less f) inner.syntax around position rest (vr_at inner.syntax rest) else delimiter)
      by_test true = weaker_element inner.syntax around position rest (vr_at inner.syntax rest)
      by_test false = inl refl

  weaker_after : (before a b : Option Stop) → Weaker P a b → Weaker P (or_else before a) (or_else before b)
  weaker_after None a b h = h
  weaker_after (Some stop) a b h = inl refl

  weaker_place : (ls : List Level) (position : ℕ) (rest : List ℕ) → Weaker P (innermost_stop (bar f) ls position rest) (innermost_stop (less f) ls position rest)
  weaker_place [] position rest = inl refl
  weaker_place (inner ∷ outer) position rest = weaker_after _ _ _ (weaker_head inner (inner ∷ outer) position rest)

weaker_stop : (P : Fault → Type 0) (bar less : Bar) → BarsMore P bar less → (s : Syntax) (start : ℕ) (f : Front) (position : ℕ) (rest : List ℕ) → Weaker P (stop_at bar s start f position rest) (stop_at less s start f position rest)
unfolding stop_at
weaker_stop P bar less weaker s start f position rest = by_test (value_open f)
  where
    by_test : (c : Bool) → Weaker P (if c then value_stop position rest else innermost_stop (bar f) (levels s start f) position rest) (if c then value_stop position rest else innermost_stop (less f) (levels s start f) position rest)
    by_test true = inl refl
    by_test false = weaker_place P bar less weaker f (levels s start f) position rest

-- ---- an input

none_below : (P : Fault → Type 0) (a b : Option Stop) → Weaker P a b → a ≡ None → b ≡ None
none_below P a b (inl same) e = sym same ∙ e
none_below P a b (inr (fault, offset, such, is)) e = absurd (let never : Some (refused fault offset) ≡ None = sym is ∙ e in cc)

-- a stop is the same, or such a fault
abbrev pub IsSuch : (Fault → Type 0) → Stop → Type 0
IsSuch P stop = (fault : Fault) × (offset : ℕ) × P fault × (stop ≡ refused fault offset)

some_below : (P : Fault → Type 0) (a b : Option Stop) (stop : Stop) → Weaker P a b → a ≡ Some stop → (b ≡ Some stop) ⊎ IsSuch P stop
some_below P a b stop (inl same) e = inl (sym same ∙ e)
some_below P a b stop (inr (fault, offset, such, is)) e =
    let one : Some (refused fault offset) ≡ Some stop = sym is ∙ e in
    inr (fault, offset, such, let same : stop ≡ refused fault offset = cc in same)

-- an end without fault is one
cut_fault : (fault : Fault) (offset : ℕ) → end_too_long fault offset ≡ complete → ⊥
cut_fault EndsEarly offset e = cc
cut_fault fault offset e = cc

well_ended : (c : Bool) (why : Stop) → complete ≡ (if c then at_the_cut why else why) → why ≡ complete
well_ended true complete e = refl
well_ended true (refused fault offset) e = absurd (cut_fault fault offset (sym e))
well_ended false why e = sym e

-- what is read under more bars is read so under less, or refused by such a fault
pub same_or_such : (P : Fault → Type 0) (bar less : Bar) → BarsMore P bar less → (s : Syntax) (start : ℕ) (bytes : List ℕ) (f : Front) (stop : Stop) → Reads bar s start bytes f stop
    → Reads less s start bytes f stop ⊎ ((why : Stop) × IsSuch P why × (stop ≡ told (start + length bytes) why))
same_or_such P bar less weaker s start bytes f stop (reached, why, first, is, ends) = by_stop (some_below P _ _ why (weaker_stop P bar less weaker s start reached (start + length first.read) first.rest) first.stops)
  where
    by_stop : (stop_at less s start reached (start + length first.read) first.rest ≡ Some why) ⊎ IsSuch P why → Reads less s start bytes f stop ⊎ ((w : Stop) × IsSuch P w × (stop ≡ told (start + length bytes) w))
    by_stop (inl stops) = inl (
      reached,
      why,
      record {
        read = first.read;
        rest = first.rest;
        parts = first.parts;
        spelled = first.spelled;
        stops = stops;
        first = λ earlier later g parts shorter spelled. none_below P _ _ (weaker_stop P bar less weaker s start g (start + length earlier) later) (first.first earlier later g parts shorter spelled);
      },
      is,
      ends,
    )
    by_stop (inr such) = inr (why, such, is)

-- what bars less
abbrev pub BarsLess : (bar less : Bar) → Type 0
BarsLess bar less = (f : Front) (tag : Tag) (vr : Vr) (declared : Length) → bar f tag vr declared ≡ None → less f tag vr declared ≡ None

-- by any fault
abbrev Any : Fault → Type 0
Any fault = Unit {0}

more_or_same : (more less : Option Fault) → (more ≡ None → less ≡ None) → Bars Any more less
more_or_same None less h = inl (sym (h refl))
more_or_same (Some fault) less h = inr (fault, tt, refl)

pub less_barred : (bar less : Bar) → BarsLess bar less → (s : Syntax) (start : ℕ) (bytes : List ℕ) (f : Front) → Reads bar s start bytes f complete → Reads less s start bytes f complete
less_barred bar less weaker s start bytes f reads = by_answer (same_or_such Any bar less (λ g tag vr declared. more_or_same (bar g tag vr declared) (less g tag vr declared) (weaker g tag vr declared)) s start bytes f complete reads)
  where
    by_answer : Reads less s start bytes f complete ⊎ ((why : Stop) × IsSuch Any why × (complete ≡ told (start + length bytes) why)) → Reads less s start bytes f complete
    by_answer (inl same) = same
    by_answer (inr (why, (fault, offset, such, refuses), is)) =
        absurd (let never : refused fault offset ≡ complete = sym refuses ∙ well_ended (nat_lt INPUT_LIMIT (start + length bytes)) why is in cc)

pub not_barred : (bar : Bar) (s : Syntax) (start : ℕ) (bytes : List ℕ) (f : Front) → Reads bar s start bytes f complete → Reads no_bar s start bytes f complete
not_barred bar s start bytes f h = less_barred bar no_bar (λ f tag vr declared e. refl) s start bytes f h
