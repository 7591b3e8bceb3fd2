-- A reading without fault has read all bytes.
use Rattle.std.proofs.Common.{◌≡◌, ◌∙◌, ap, sym, refl, subst, ℕ, ◌+◌, ◌-◌, ◌≤◌, List, [], ◌∷◌, ◌++◌, length, drop, take, Option, Some, None, Bool, true, false, ◌&&◌, not, arith}
use Rattle.std.specs.Prelude.{nat_lt, nat_le, ◌==◌, if◌then◌else◌}
use Rattle.std.proofs.lemmas.Bool.{ltb-false}
use Rattle.std.proofs.lemmas.List.{append-nil, take_all}
use Rattle.dcm_base.specs.declared.fault.Fault.{Fault}
use Rattle.dcm_base.specs.declared.fault.Fault.TheVariants.{EndsEarly, PassesEnd, TagNotAllowed, TooDeep, UndefinedLength}
use Rattle.dcm_base.specs.declared.length.Length.{Length}
use Rattle.dcm_base.specs.declared.level.Level.{Level}
use Rattle.dcm_base.specs.declared.syntax.Syntax.{Syntax}
use Rattle.dcm_base.specs.declared.vr.Vr.{Vr}
use Rattle.dcm_base.specs.Tree.Front.{Front}
use Rattle.dcm_base.specs.Bytes.Head.{head_size, length_at, long_length, tag_at, vr_at}
use Rattle.dcm_base.specs.Tables.Number.{number}
use Rattle.dcm_base.specs.Reading.Place.{depth, is_allowed, is_undefined, levels, passes, room, value_open}
use Rattle.dcm_base.specs.Reading.Reads.{INPUT_LIMIT, Reads, at_the_cut, ended}
use Rattle.dcm_base.specs.Bytes.Spelling.{SpellsFront, form, read_as}
use Rattle.dcm_base.specs.Reading.Stop.{Bar, HeadBar, Stop, barred, complete, element_stop, first_case, has_no_form, head_stop, innermost_stop, is_empty, is_fragment_list, is_the_data_set, item_stop, opens_list, or_else, refused, stop_at, value_stop, with_length}
use Rattle.dcm_base.specs.Tables.Tag.{is_item}

-- ---- a head is refused, or nothing stops there

element_never : (c1 c2 c3 c4 c5 : Bool) (o : Option Fault) (p n : ℕ)
    → first_case ((c1, refused PassesEnd p) ∷ (c2, refused EndsEarly n) ∷ (c3, refused UndefinedLength p) ∷ (c4, refused PassesEnd p) ∷ (c5, refused TooDeep p) ∷ barred o p) ≡ Some complete → ⊥
element_never true c2 c3 c4 c5 o p n h = cc
element_never false true c3 c4 c5 o p n h = cc
element_never false false true c4 c5 o p n h = cc
element_never false false false true c5 o p n h = cc
element_never false false false false true o p n h = cc
element_never false false false false false None p n h = cc
element_never false false false false false (Some fault) p n h = cc

item_never : (c1 c2 : Bool) (p : ℕ) → first_case ((c1, refused UndefinedLength p) ∷ (c2, refused PassesEnd p) ∷ []) ≡ Some complete → ⊥
item_never true c2 p h = cc
item_never false true p h = cc
item_never false false p h = cc

module _ (bar : HeadBar) (inner : Level) (around : List Level) (p : ℕ) (rest : List ℕ) where
  vr_never : (o : Option Vr) → element_stop bar inner.syntax around p rest o ≡ Some complete → ⊥
  vr_never None h = cc
  vr_never (Some vr) h =
      let declared : Length = length_at inner.syntax vr rest in
      element_never (passes (head_size inner.syntax vr) (room p around)) (nat_lt (length rest) (head_size inner.syntax vr)) (has_no_form (form inner.syntax (read_as inner.syntax (tag_at inner.syntax rest) vr) declared)) (passes (with_length (head_size inner.syntax vr) declared) (room p around))
      (opens_list (form inner.syntax (read_as inner.syntax (tag_at inner.syntax rest) vr) declared) && nat_le 64 (depth around)) (bar (tag_at inner.syntax rest) vr declared) p (p + length rest) h

  kind_never : (c i : Bool) → (if c then element_stop bar inner.syntax around p rest (vr_at inner.syntax rest) else (if i then item_stop inner.container around p (long_length (number inner.syntax 4 (drop 4 rest))) else None)) ≡ Some complete → ⊥
  kind_never true i h = vr_never (vr_at inner.syntax rest) h
  kind_never false true h =
      let declared : Length = long_length (number inner.syntax 4 (drop 4 rest)) in
      item_never (is_fragment_list inner.container && is_undefined declared) (passes (with_length 8 declared) (room p around)) p h
  kind_never false false h = cc

  head_never : head_stop bar inner around p rest ≡ Some complete → ⊥
  head_never h = kind_never (not ((tag_at inner.syntax rest).group == 0xFFFE)) (is_item (tag_at inner.syntax rest)) h

-- ---- it is complete at the end alone

empty_when : (d : Bool) (rest : List ℕ) → (d && is_empty rest) ≡ true → rest ≡ []
empty_when d [] e = refl
empty_when true (b ∷ rest) e = absurd (cc)
empty_when false (b ∷ rest) e = absurd (cc)

ends_at_case : (c1 e c3 c4 : Bool) (p n : ℕ) (rest : List ℕ) (head : Option Stop) → (e ≡ true → rest ≡ []) → (head ≡ Some complete → ⊥)
    → or_else (first_case ((c1, refused PassesEnd p) ∷ (e, complete) ∷ (c3, refused EndsEarly n) ∷ (c4, refused TagNotAllowed p) ∷ [])) head ≡ Some complete → rest ≡ []
ends_at_case true e c3 c4 p n rest head k never h = absurd (cc)
ends_at_case false true c3 c4 p n rest head k never h = k refl
ends_at_case false false true c4 p n rest head k never h = absurd (cc)
ends_at_case false false false true p n rest head k never h = absurd (cc)
ends_at_case false false false false p n rest head k never h = absurd (never h)

value_never : (p : ℕ) (rest : List ℕ) → value_stop p rest ≡ Some complete → ⊥
value_never p [] h = cc
value_never p (b ∷ rest) h = cc

module _ (bar : HeadBar) (p : ℕ) (rest : List ℕ) where
  place_ends : (ls : List Level) → innermost_stop bar ls p rest ≡ Some complete → rest ≡ []
  place_ends [] h = absurd (cc)
  place_ends (inner ∷ outer) h =
      ends_at_case (passes 8 (room p (inner ∷ outer))) (is_the_data_set inner.container && is_empty rest) (nat_lt (length rest) 8) (not (is_allowed inner.container inner.declared (tag_at inner.syntax rest))) p (p + length rest) rest
      (head_stop bar inner (inner ∷ outer) p rest) (empty_when (is_the_data_set inner.container) rest) (head_never bar inner (inner ∷ outer) p rest) h

  either_ends : (c : Bool) (ls : List Level) → (if c then value_stop p rest else innermost_stop bar ls p rest) ≡ Some complete → rest ≡ []
  either_ends true ls h = absurd (value_never p rest h)
  either_ends false ls h = place_ends ls h

stops_at_end : (bar : Bar) (s : Syntax) (start : ℕ) (f : Front) (p : ℕ) (rest : List ℕ) → stop_at bar s start f p rest ≡ Some complete → rest ≡ []
unfolding stop_at
stops_at_end bar s start f p rest h = either_ends (bar f) p rest (value_open f) (levels s start f) h

-- ---- and within the limit

pub cut_never : (why : Stop) → at_the_cut why ≡ complete → ⊥
cut_never complete h = cc
cut_never (refused EndsEarly offset) h = cc
cut_never (refused fault offset) h = cc

not_cut : (c : Bool) (why : Stop) → (if c then at_the_cut why else why) ≡ complete → (c ≡ false) × (why ≡ complete)
not_cut true why h = absurd (cut_never why h)
not_cut false why h = (refl, h)

-- f is the set that all bytes spell, ended
pub whole_read : (bar : Bar) (s : Syntax) (start : ℕ) (bytes : List ℕ) (f : Front) → Reads bar s start bytes f complete → (reached : Front) × SpellsFront s reached bytes × (f ≡ ended complete reached)
whole_read bar s start bytes f (reached, why, x, told_is, f_is) =
    let c = not_cut (nat_lt INPUT_LIMIT (start + length bytes)) why (sym told_is) in
    let le : start + length bytes ≤ INPUT_LIMIT = ltb-false INPUT_LIMIT (start + length bytes) c.0 in
    let all : take (INPUT_LIMIT - start) bytes ≡ bytes = take_all (INPUT_LIMIT - start) bytes (omega (arith, le)) in
    let none : x.rest ≡ [] = stops_at_end bar s start reached (start + length x.read) x.rest (x.stops ∙ ap (λ (y : Stop). let o : Option Stop = Some y in o) c.1) in
    let same : bytes ≡ x.read = sym all ∙ x.parts ∙ ap (λ (r : List ℕ). x.read ++ r) none ∙ append-nil x.read in
    (reached, subst (SpellsFront s reached) (sym same) x.spelled, f_is)
