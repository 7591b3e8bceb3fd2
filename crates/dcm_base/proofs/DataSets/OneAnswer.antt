-- The reading of a data set has one answer.
use Rattle.std.proofs.Common.{◌≡◌, ℕ, ◌+◌, ◌-◌, ◌<◌, List, length, take, sym, ap, ◌∙◌, subst, arith, inl, inr}
use Rattle.std.proofs.lemmas.Bool.{cases_lt}
use Rattle.dcm_lemmas.proofs.Options.{none_or_some, some_same}
use Rattle.dcm_base.specs.declared.syntax.Syntax.{Syntax}
use Rattle.dcm_base.specs.Tree.Front.{Front}
use Rattle.dcm_base.specs.Bytes.Spelling.{SpellsFront}
use Rattle.dcm_base.specs.Reading.Stop.{Stop, Bar, stop_at}
use Rattle.dcm_base.specs.Reading.Reads.{StopsFirst, Reads, INPUT_LIMIT, told, ended}
use Rattle.dcm_base.proofs.DataSets.Whole.{append_same}
use Rattle.dcm_base.proofs.DataSets.Fronts.{front_same}

-- no stop is before the first
not_before : (bar : Bar) (s : Syntax) (start : ℕ) (bytes : List ℕ) (f g : Front) (stop other : Stop) (x : StopsFirst bar s start bytes f stop) (y : StopsFirst bar s start bytes g other) → length x.read < length y.read → ⊥
not_before bar s start bytes f g stop other x y lt = none_or_some _ stop (y.first x.read x.rest f x.parts lt x.spelled) x.stops

pub stops_once : (bar : Bar) (s : Syntax) (start : ℕ) (bytes : List ℕ) (f g : Front) (stop other : Stop) → StopsFirst bar s start bytes f stop → StopsFirst bar s start bytes g other → (f ≡ g) × (stop ≡ other)
stops_once bar s start bytes f g stop other x y =
    elim (cases_lt (length x.read) (length y.read)) [
      | inl lt ↦ absurd (not_before bar s start bytes f g stop other x y lt)
      | inr le ↦ elim (cases_lt (length y.read) (length x.read)) [
        | inl lt ↦ absurd (not_before bar s start bytes g f other stop y x lt)
        | inr ge ↦
            let both = append_same x.read y.read x.rest y.rest (omega arith) (sym x.parts ∙ y.parts) in
            let fronts : f ≡ g = front_same s f g y.read (subst (SpellsFront s f) both.0 x.spelled) y.spelled in
            let stops : stop_at bar s start f (start + length x.read) x.rest ≡ stop_at bar s start g (start + length y.read) y.rest =
            ap (λ (z : Front). stop_at bar s start z (start + length x.read) x.rest) fronts
            ∙ ap (λ (z : List ℕ). stop_at bar s start g (start + length z) x.rest) both.0
            ∙ ap (λ (z : List ℕ). stop_at bar s start g (start + length y.read) z) both.1 in
            (fronts, some_same stop other (sym x.stops ∙ stops ∙ y.stops))
      ]
    ]

pub reads_once : (bar : Bar) (s : Syntax) (start : ℕ) (bytes : List ℕ) (f g : Front) (stop other : Stop) → Reads bar s start bytes f stop → Reads bar s start bytes g other → (f ≡ g) × (stop ≡ other)
reads_once bar s start bytes f g stop other (reached, why, x, stop_is, f_is) (reached', why', y, other_is, g_is) =
    let one = stops_once bar s start (take (INPUT_LIMIT - start) bytes) reached reached' why why' x y in
    let stops : stop ≡ other = stop_is ∙ ap (told (start + length bytes)) one.1 ∙ sym other_is in
    (f_is ∙ ap (λ (z : Stop). ended z reached) stops ∙ ap (ended other) one.0 ∙ sym g_is, stops)
