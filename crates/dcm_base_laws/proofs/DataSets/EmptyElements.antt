-- A data set of one empty element is read whole: no stop comes before its end.
use Rattle.std.proofs.Common.{◌≡◌, ℕ, ◌+◌, ◌<◌, List, [], ◌∷◌, ◌++◌, length, Some, None, false, true, inl, inr, refl, sym, ap, ◌∙◌, subst, arith, lit≤}
use Rattle.dcm_base.specs.declared.vr.Vr.TheVariants.{PN}
use Rattle.dcm_base.specs.Tables.Syntax.{Little}
use Rattle.dcm_base.specs.Tree.Tree.{no_tree, leaf}
use Rattle.dcm_base.specs.Tree.Front.{Front, front, nothing_open}
use Rattle.dcm_base.specs.Bytes.Spelling.{SpellsFront}
use Rattle.dcm_base.specs.Reading.Stop.{complete, stop_at}
use Rattle.dcm_base.specs.Reading.Bars.{no_bar}
use Rattle.dcm_base.specs.Reading.Reads.{StopsFirst, Reads}
use Rattle.dcm_base.proofs.DataSets.Fronts.{front_same}
use Rattle.dcm_base.proofs.DataSets.Between.{between}
use Rattle.dcm_base_laws.proofs.WorkedRows.Readings.{all, patient_name}

abbrev bytes : List ℕ
bytes = 0x10 ∷ 0x00 ∷ 0x10 ∷ 0x00 ∷ 0x50 ∷ 0x4E ∷ 0x00 ∷ 0x00 ∷ []

abbrev nothing : Front
nothing = front no_tree nothing_open None false

abbrev name : Front
name = front (leaf patient_name PN [] no_tree) nothing_open (Some patient_name) false

nothing_spelled : SpellsFront Little nothing []
unfolding all
nothing_spelled = ([], refl, refl, refl, refl)

name_spelled : SpellsFront Little name bytes
unfolding all
name_spelled = ([], ([], refl, record { no_item = λ e. omega (arith, e); head = record { tag_is = refl; vr_is = refl; whole = lit≤ tt; length_is = refl; after_is = refl } }, refl), refl, refl, refl)

goes_on : stop_at no_bar Little 172 nothing 172 bytes ≡ None
unfolding all
goes_on = refl

ends_there : stop_at no_bar Little 172 name 180 [] ≡ Some complete
unfolding all
ends_there = refl

none_before : (earlier later : List ℕ) (g : Front) → bytes ≡ earlier ++ later → length earlier < 8 → SpellsFront Little g earlier → stop_at no_bar Little 172 g (172 + length earlier) later ≡ None
unfolding all
none_before earlier later g e lt spelled =
    elim (between Little nothing g [] earlier nothing_spelled refl spelled) [
      | inl nil ↦
          let same : nothing ≡ g = front_same Little nothing g [] nothing_spelled (subst (SpellsFront Little g) nil spelled) in
          let rest : bytes ≡ later = e ∙ ap (λ (x : List ℕ). x ++ later) nil in
          let at_start = subst (λ (x : List ℕ). stop_at no_bar Little 172 nothing 172 x ≡ None) rest goes_on in
          let at_g = subst (λ (x : Front). stop_at no_bar Little 172 x 172 later ≡ None) same at_start in
          subst (λ (x : List ℕ). stop_at no_bar Little 172 g (172 + length x) later ≡ None) (sym nil) at_g
      | inr head ↦ absurd (omega (arith, head.eight))
    ]

stops_there : StopsFirst no_bar Little 172 bytes name complete
stops_there = record { read = bytes; rest = []; parts = refl; spelled = name_spelled; stops = ends_there; first = none_before }

answered : Reads no_bar Little 172 bytes (front (leaf patient_name PN [] no_tree) nothing_open (Some patient_name) true) complete
answered = (name, complete, stops_there, refl, refl)
