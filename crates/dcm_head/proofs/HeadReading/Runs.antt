-- Bytes that lead to nothing by themselves.
use Rattle.std.proofs.Common.{◌≡◌, ◌∙◌, inl, inr, ◌+◌, ◌-◌, ◌<◌, ◌≤◌, List, [], ◌∷◌, ◌++◌, length, take, drop, ℕ, Bool, false, cond, nat_eq, Option, None, refl, ap, sym, subst, arith, append_assoc, length-append, length-take, Result}
use Rattle.std.specs.Prelude.{fold, is_some, not, IsOk, OnOk}
use Rattle.std.proofs.lemmas.Bool.{lt-ltb, le-ltb, ne_eqb}
use Rattle.std.proofs.lemmas.Bool.Decides.{leb_tells}
use Rattle.std.proofs.lemmas.List.{append-nil, drop_at, take-append-drop}
use Rattle.std.proofs.lemmas.List.Sums.{fold-append}
use Rattle.dcm_lemmas.proofs.Options.{went_well}
use Rattle.dcm_base.specs.declared.tag.Tag.{Tag}
use Rattle.dcm_base.specs.declared.vr.Vr.{Vr}
use Rattle.dcm_base.specs.declared.fault.Fault.TheVariants.{NoPrefix}
use Rattle.dcm_base.specs.Tables.Syntax.{Little}
use Rattle.dcm_base.proofs.DataSets.Heads.{eight_le_head_size}
use Rattle.dcm_base.specs.File.MetaGroup.{GroupPlace}
use Rattle.dcm_base.specs.File.MetaGroup.{an_element, the_end, too_few, a_fault}
use Rattle.dcm_base.specs.File.MetaGroup.{group_place}
use Rattle.dcm_head.specs.declared.meta_read.MetaEnd.{MetaEnd}
use Rattle.dcm_head.specs.MetaReading.{Reading, Keeps, Waits, meta_step, step_from, reached, at_place, has_prefix, refusing}
use Rattle.dcm_head.specs.MetaRuns.{Idle, holding}
use Rattle.dcm_head.proofs.MetaGroups.Elements.{element_tells}
use Rattle.dcm_head.proofs.MetaGroups.Places.{at_one}
use Rattle.dcm_head.proofs.HeadReading.MoreBytes.{place_settles}
use Rattle.dcm_head.proofs.HeadReading.Stays.{stays_some}
use Rattle.dcm_head.proofs.HeadReading.GoesOn.{room}

-- each beginning of a run leads to nothing
abbrev Leads : Reading → List ℕ → Type 0
Leads r run = (byte : ℕ) (a b : List ℕ) → run ≡ byte ∷ a ++ b → reached (holding r (byte ∷ a)) ≡ holding r (byte ∷ a)

holding_more : (r : Reading) (byte : ℕ) (run : List ℕ) → holding (holding r (byte ∷ [])) run ≡ holding r (byte ∷ run)
holding_more r byte run = ap (λ (x : List ℕ). record r { bytes = x }) (append_assoc r.bytes (byte ∷ []) run)

holding_none : (r : Reading) → r ≡ holding r []
holding_none r = ap (λ (x : List ℕ). record r { bytes = x }) (sym (append-nil r.bytes))

held : (r : Reading) (run : List ℕ) → r.end ≡ None → Leads r run → fold meta_step r run ≡ holding r run
held r [] e h = holding_none r
held r (byte ∷ run) e h =
    let one : meta_step r byte ≡ holding r (byte ∷ []) = ap (step_from r byte) e ∙ h byte [] run refl in
    ap (λ (x : Reading). fold meta_step x run) one
    ∙ held (holding r (byte ∷ [])) run e (λ next a b is. ap reached (holding_more r byte (next ∷ a)) ∙ h byte (next ∷ a) b (ap (λ (x : List ℕ). byte ∷ x) is) ∙ sym (holding_more r byte (next ∷ a)))
    ∙ holding_more r byte run

-- before the prefix is whole
early : (r : Reading) → length r.bytes < 132 → reached r ≡ r
early r few = ap (λ (b : Bool). cond b r (cond (nat_eq (length r.bytes) 132) (cond (has_prefix r.bytes) r (refusing r NoPrefix 128)) (at_place r (group_place (r.place - 132) (drop r.place r.bytes))))) (lt-ltb (length r.bytes) 132 few)

before_prefix : (r : Reading) (run : List ℕ) → Keeps r → r.end ≡ None → length r.bytes + length run < 132 → Idle r run
before_prefix r run k e few =
    let low = k.low in
    let high = k.high in
    let all = length-append r.bytes run in
    record {
      read = held r run e (λ byte a b is.
          let size = ap length is ∙ length-append (byte ∷ a) b in
          let more = length-append r.bytes (byte ∷ a) in
          early (holding r (byte ∷ a)) (omega arith));
      kept = record {
        low = k.low;
        high = k.high;
        uid = k.uid;
        begun = λ h. let before = k.begun h in omega arith;
        waits = subst (Waits (holding r run)) (sym e) (inl (omega arith));
      };
    }

-- in the group
in_group : (r : Reading) → 132 < length r.bytes → group_place (r.place - 132) (drop r.place r.bytes) ≡ too_few → reached r ≡ r
in_group r le cut =
    let other : Reading = cond (has_prefix r.bytes) r (refusing r NoPrefix 128) in
    let there : Reading = at_place r (group_place (r.place - 132) (drop r.place r.bytes)) in
    ap (λ (b : Bool). cond b r (cond (nat_eq (length r.bytes) 132) other there)) (le-ltb (length r.bytes) 132 (omega arith))
    ∙ ap (λ (b : Bool). cond b other there) (ne_eqb (length r.bytes) 132 (λ h. omega arith))
    ∙ ap (at_place r) cut

cut_by : (place : GroupPlace) (taken : ℕ) (a b : List ℕ) (tag : Tag) (vr : Vr) (head size : ℕ) → group_place taken a ≡ place → group_place taken (a ++ b) ≡ an_element tag vr head size → 2 ≤ length a
    → length a < head + size → place ≡ too_few
cut_by too_few taken a b tag vr head size here all two few = refl
cut_by the_end taken a b tag vr head size here all two few =
    absurd (let no : the_end ≡ an_element tag vr head size = sym here ∙ sym (place_settles taken a b two (λ h. let bad : the_end ≡ too_few = sym here ∙ h in cc)) ∙ all in cc)
cut_by (a_fault fault) taken a b tag vr head size here all two few =
    absurd (let no : a_fault fault ≡ an_element tag vr head size = sym here ∙ sym (place_settles taken a b two (λ h. let bad : a_fault fault ≡ too_few = sym here ∙ h in cc)) ∙ all in cc)
cut_by (an_element t v h s) taken a b tag vr head size here all two few =
    let same : an_element t v h s ≡ an_element tag vr head size = sym here ∙ sym (place_settles taken a b two (λ g. let bad : an_element t v h s ≡ too_few = sym here ∙ g in cc)) ∙ all in
    let whole = (element_tells taken a tag vr head size (here ∙ same)).whole in
    absurd (omega arith)

-- the beginning of an element does not tell it
cut_short : (taken : ℕ) (a b : List ℕ) (tag : Tag) (vr : Vr) (head size : ℕ) → group_place taken (a ++ b) ≡ an_element tag vr head size → 0 < length a → length a < head + size → group_place taken a ≡ too_few
cut_short taken a b tag vr head size all some few =
    elim (leb_tells 2 (length a)) [
      | inl two ↦ cut_by (group_place taken a) taken a b tag vr head size refl all two.1 few
      | inr one ↦ at_one taken a some one.1
    ]

waits_more : (r : Reading) (run : List ℕ) → r.place ≡ length r.bytes → (0 < length run → group_place (r.place - 132) run ≡ too_few) → Waits (holding r run) None
waits_more r run is cut =
    let all = length-append r.bytes run in
    elim (leb_tells 1 (length run)) [
      | inl some ↦ inr (ap (group_place (r.place - 132)) (drop_at r.bytes run r.place (sym is)) ∙ cut some.1)
      | inr none ↦ let no = none.1 in inl (omega arith)
    ]

-- less than the element whose first byte comes
less_than_element : (r : Reading) (run rest : List ℕ) (tag : Tag) (vr : Vr) (head size : ℕ) → Keeps r → r.end ≡ None → r.place ≡ length r.bytes
    → group_place (r.place - 132) (run ++ rest) ≡ an_element tag vr head size → length run < head + size → Idle r run
less_than_element r run rest tag vr head size k e is all few =
    let low = k.low in
    let longer = length-append r.bytes run in
    record {
      read = held r run e (λ byte a b same.
          let size = ap length same ∙ length-append (byte ∷ a) b in
          let more = length-append r.bytes (byte ∷ a) in
          let parts : run ++ rest ≡ (byte ∷ a) ++ (b ++ rest) = ap (λ (x : List ℕ). x ++ rest) same ∙ append_assoc (byte ∷ a) b rest in
          let cut = cut_short (r.place - 132) (byte ∷ a) (b ++ rest) tag vr head _ (sym (ap (group_place (r.place - 132)) parts) ∙ all) (omega arith) (omega arith) in
          in_group (holding r (byte ∷ a)) (omega arith) (ap (group_place (r.place - 132)) (drop_at r.bytes (byte ∷ a) r.place (sym is)) ∙ cut));
      kept = record {
        low = k.low;
        high = k.high;
        uid = k.uid;
        begun = λ h. let before = k.begun h in omega arith;
        waits = subst (Waits (holding r run)) (sym e) (waits_more r run is (λ some. cut_short (r.place - 132) run rest tag vr head size all some few));
      };
    }

-- a beginning of the bytes and then the others
pub read_on : (r q s : Reading) (n : ℕ) (rest after : List ℕ) → q ≡ fold meta_step r (take n rest) → after ≡ drop n rest → fold meta_step r rest ≡ s → fold meta_step q after ≡ s
read_on r q s n rest after is behind all =
    (λ i. fold meta_step (is i) (behind i)) ∙ sym (fold-append meta_step r (take n rest) (drop n rest)) ∙ ap (fold meta_step r) (take-append-drop n rest) ∙ all

pub nothing_to_come : (r s : Reading) (rest : List ℕ) → length rest ≡ 0 → fold meta_step r rest ≡ s → r ≡ s
nothing_to_come r s [] h all = all
nothing_to_come r s (byte ∷ rest) h all = absurd (omega arith)

pub over_before : (r s : Reading) (rest : List ℕ) (end : Option MetaEnd) (none : Bool) → end ≡ r.end → is_some end ≡ not none → none ≡ false → fold meta_step r rest ≡ s → r ≡ s
over_before r s rest end none h is over all = sym (stays_some r end rest h (is ∙ ap not over)) ∙ all

-- the bytes fit, and are held
pub held_all : {T E : Type 0} (r : Reading) (run new : List ℕ) (result : Result T E) → r.end ≡ None → Idle r run → (length r.bytes + length run ≤ 16528 → IsOk result) → OnOk result (new ≡ r.bytes ++ run) → new ≡ r.bytes ++ run
held_all r run new result e idle fits ok =
    let few = room (holding r run) idle.kept e in
    let all = length-append r.bytes run in
    went_well result ok (fits (omega arith))

-- as the code comes to it

pub runs_to_prefix : (r : Reading) (rest : List ℕ) (n : ℕ) → Keeps r → r.end ≡ None → length r.bytes < 132 → n ≤ 132 - 1 - length r.bytes → Idle r (take n rest)
runs_to_prefix r rest n k e few le =
    let size = length-take n rest in
    before_prefix r (take n rest) k e (omega arith)

-- an element that the bytes have whole
pub record Fills (rest : List ℕ) (head size : ℕ) : Type 0 where
  pub some : 8 ≤ head
  pub whole : head + size ≤ length rest
  pub fits : head + size ≤ 16384

pub fills : (taken : ℕ) (rest : List ℕ) (tag : Tag) (vr : Vr) (head size : ℕ) → an_element tag vr head size ≡ group_place taken rest → Fills rest head size
fills taken rest tag vr head size h =
    let is = element_tells taken rest tag vr head size (sym h) in
    let eight = eight_le_head_size Little vr in
    let head_is = is.head_is in
    let fits = is.fits in
    record { some = omega arith; whole = is.whole; fits = omega arith }

pub runs_to_last : (r : Reading) (rest : List ℕ) (tag : Tag) (vr : Vr) (head size : ℕ) → Keeps r → r.end ≡ None → length r.bytes ≡ r.place → an_element tag vr head size ≡ group_place (r.place - 132) rest → Idle r (take (head + size - 1) rest)
runs_to_last r rest tag vr head size k e is h =
    let f = fills (r.place - 132) rest tag vr head size h in
    let some = f.some in
    let n : ℕ = head + size - 1 in
    let short = length-take n rest in
    less_than_element r (take n rest) (drop n rest) tag vr head size k e (sym is) (ap (group_place (r.place - 132)) (take-append-drop n rest) ∙ sym h) (omega arith)
