-- The elements that say what was done: their tags ascend, and one of their tags goes, or stays where dates do.
use Rattle.std.proofs.Common.{◌≡◌, ℕ, List, [], ◌∷◌, Bool, true, false, ◌||◌, ◌&&◌, not, refl, ap, ◌∙◌}
use Rattle.std.specs.Prelude.{if◌then◌else◌, codes}
use Rattle.dcm_base.specs.declared.tag.Tag.{Tag}
use Rattle.dcm_base.specs.declared.vr.Vr.{Vr}
use Rattle.dcm_base.specs.declared.vr.Vr.TheVariants.{CS, LO, SQ}
use Rattle.dcm_base.specs.declared.length.Length.TheVariants.{Undefined}
use Rattle.dcm_base.specs.declared.dictionary.Dictionary.TheVariants.{Standard}
use Rattle.dcm_base.specs.Tables.Dictionary as D
use Rattle.dcm_base.specs.Tables.Representation.{is_sequence}
use Rattle.dcm_base.specs.Tree.Tree.{Trees, no_tree, leaf, sequence, Items, then_trees}
use Rattle.dcm_deid.proofs.Research.{opaque_too}
use Rattle.dcm_deid.specs.declared.fate.Fate.{Fate}
use Rattle.dcm_deid.specs.declared.fate.Fate.TheVariants.{Remove, Keep}
use Rattle.dcm_deid.specs.declared.fate.Options.{Options}
use Rattle.dcm_deid.specs.declared.fate.Depth.TheVariants.{Outermost}
use Rattle.dcm_deid.specs.declared.fate.ReadAs.{ReadAs}
use Rattle.dcm_deid.specs.declared.fate.ReadAs.TheVariants.{AsBytes, AsItems}
use Rattle.dcm_deid.specs.declared.fate.Temporal.{Temporal}
use Rattle.dcm_deid.specs.declared.fate.Temporal.TheVariants.{Removed, Full, Modified}
use Rattle.dcm_deid.specs.Fate.{actions, fate, fate_as, is_put, is_known, fate_of_known, are_full}
use Rattle.dcm_deid.specs.Saying.{tag_at, leaf_alone, methods, dates_said}
use Rattle.dcm_deid.proofs.PutOnes.{Part, leaf_part, sequence_part, AllLess}
use Rattle.dcm_deid.proofs.PutInPlace.{New}

-- ---- the four

abbrev pub removed_said : Tag × Trees
removed_said = leaf_alone (tag_at 0x0012 0x0062) CS (codes "YES")

abbrev pub method_said : Tag × Trees
method_said = leaf_alone (tag_at 0x0012 0x0063) LO (codes "dcmtools dcmdeid, PS3.15 2021b")

abbrev pub codes_said : Options → Tag × Trees
codes_said o = (tag_at 0x0012 0x0064, sequence (tag_at 0x0012 0x0064) SQ Undefined (methods o) no_tree)

abbrev pub times_said : Options → Tag × Trees
times_said o = leaf_alone (tag_at 0x0028 0x0303) CS (dates_said o)

-- ---- they ascend

leaf_stands : (tag : Tag) (vr : Vr) (v : List ℕ) → Part tag (then_trees (leaf tag vr v no_tree))
leaf_stands tag vr v =
    let p : Part tag (leaf tag vr v) = leaf_part tag vr v in
    record { skips = λ t e x h. p.skips t e x h; stops = λ t e x h q. p.stops t e x h q; other = λ t x h. p.other t x h }

sequence_stands : (tag : Tag) (vr : Vr) (items : Items) → Part tag (then_trees (sequence tag vr Undefined items no_tree))
sequence_stands tag vr items =
    let p : Part tag (sequence tag vr Undefined items) = sequence_part tag vr Undefined items in
    record { skips = λ t e x h. p.skips t e x h; stops = λ t e x h q. p.stops t e x h q; other = λ t x h. p.other t x h }

removed_stands : Part (tag_at 0x0012 0x0062) (then_trees removed_said.1)
removed_stands = leaf_stands (tag_at 0x0012 0x0062) CS (codes "YES")

method_stands : Part (tag_at 0x0012 0x0063) (then_trees method_said.1)
method_stands = leaf_stands (tag_at 0x0012 0x0063) LO (codes "dcmtools dcmdeid, PS3.15 2021b")

codes_stand : (o : Options) → Part (tag_at 0x0012 0x0064) (then_trees (codes_said o).1)
codes_stand o = sequence_stands (tag_at 0x0012 0x0064) SQ (methods o)

pub before_method : AllLess (removed_said ∷ []) (tag_at 0x0012 0x0063)
before_method = (removed_stands, refl, tt)

pub before_codes : AllLess (removed_said ∷ method_said ∷ []) (tag_at 0x0012 0x0064)
before_codes = (removed_stands, refl, (method_stands, refl, tt))

pub before_times : (o : Options) → AllLess (removed_said ∷ method_said ∷ codes_said o ∷ []) (tag_at 0x0028 0x0303)
before_times o = (removed_stands, refl, (method_stands, refl, (codes_stand o, refl, tt)))

-- ---- one of their tags goes

goes_as : (o : Options) (read : ReadAs) (tag : Tag) → fate o Outermost tag ≡ Remove → fate_as o Outermost read tag ≡ Remove
unfolding fate_as
goes_as o AsItems tag e = e
goes_as o AsBytes tag e = opaque_too (is_sequence (D.vr_in Standard tag)) (fate o Outermost tag) e

put_goes : (put known : Bool) (f : Fate) → put ≡ true → (if put || not known then Remove else f) ≡ Remove
put_goes put known f e = rw e refl

never : (b : Bool) → (b && false) ≡ true → ⊥
never true e = cc
never false e = cc

pub removed_new : (o : Options) → New o removed_said
removed_new o = record {
  alone = refl;
  gone = λ read h. goes_as o read (tag_at 0x0012 0x0062) (put_goes (is_put o (tag_at 0x0012 0x0062)) (is_known (tag_at 0x0012 0x0062)) (fate_of_known o (tag_at 0x0012 0x0062)) refl);
  stays = λ read h. absurd (never (are_full o.dates) h);
}

pub method_new : (o : Options) → New o method_said
method_new o = record {
  alone = refl;
  gone = λ read h. goes_as o read (tag_at 0x0012 0x0063) (put_goes (is_put o (tag_at 0x0012 0x0063)) (is_known (tag_at 0x0012 0x0063)) (fate_of_known o (tag_at 0x0012 0x0063)) refl);
  stays = λ read h. absurd (never (are_full o.dates) h);
}

pub codes_new : (o : Options) → New o (codes_said o)
codes_new o = record {
  alone = refl;
  gone = λ read h. goes_as o read (tag_at 0x0012 0x0064) (put_goes (is_put o (tag_at 0x0012 0x0064)) (is_known (tag_at 0x0012 0x0064)) (fate_of_known o (tag_at 0x0012 0x0064)) refl);
  stays = λ read h. absurd (never (are_full o.dates) h);
}

-- ---- what says what became of dates

not_dates : (d : Bool) → (d && true) ≡ false → not d ≡ true
not_dates true e = cc
not_dates false e = refl

are_dates : (t : Temporal) → (are_full t && true) ≡ true → t ≡ Full
are_dates Removed e = absurd (cc)
are_dates Full e = refl
are_dates (Modified days) e = absurd (cc)

abbrev with_dates : Options → Temporal → Options
with_dates o d = record o { dates = d }

times_stay : (o : Options) (read : ReadAs) → fate_as (with_dates o Full) Outermost read (tag_at 0x0028 0x0303) ≡ Keep
unfolding fate_as D.vr_in D.element_in D.elements_in D.entries D.ambiguous actions
times_stay o AsBytes = refl
times_stay o AsItems = refl

stays_with : (o : Options) (read : ReadAs) → o.dates ≡ Full → fate_as o Outermost read (tag_at 0x0028 0x0303) ≡ Keep
stays_with o read e = ap (λ (d : Temporal). fate_as (with_dates o d) Outermost read (tag_at 0x0028 0x0303)) e ∙ times_stay o read

pub times_new : (o : Options) → New o (times_said o)
times_new o = record {
  alone = refl;
  gone = λ read h. goes_as o read (tag_at 0x0028 0x0303) (put_goes (is_put o (tag_at 0x0028 0x0303)) (is_known (tag_at 0x0028 0x0303)) (fate_of_known o (tag_at 0x0028 0x0303)) (not_dates (are_full o.dates) h));
  stays = λ read h. stays_with o read (are_dates o.dates h);
}
