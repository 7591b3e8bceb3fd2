-- What a reading that is described answers.
use Rattle.std.proofs.Common.{◌≡◌, ◌∙◌, ◌⊎◌, inl, inr, ◌+◌, ◌-◌, ◌<◌, List, [], ◌∷◌, ◌++◌, length, take, drop, ℕ, Bool, true, false, cond, nat_eq, IsTrue, ◌↔◌, Option, Some, None, Result, Ok, Err, refl, ap, sym, subst, arith, length-append, eq-eqb}
use Rattle.std.proofs.lemmas.Bool.{ne_eqb}
use Rattle.std.proofs.lemmas.Bool.Decides.{leb_tells}
use Rattle.std.proofs.lemmas.List.{take_at}
use Rattle.dcm_base.specs.declared.fault.Fault.TheVariants.{EndsEarly, NoPrefix, NoTransferSyntax}
use Rattle.dcm_base.specs.declared.syntax.Coding.{Coding}
use Rattle.dcm_base.specs.declared.transfer.Deflated.{Deflated}
use Rattle.dcm_base.specs.Tree.Tree.{Trees}
use Rattle.dcm_base.specs.File.MetaGroup.{GroupPlace}
use Rattle.dcm_base.specs.File.MetaGroup.{an_element, the_end, too_few, a_fault}
use Rattle.dcm_head.specs.declared.meta_read.MetaEnd.{MetaEnd}
use Rattle.dcm_head.specs.declared.meta_read.MetaEnd.TheVariants.{Refused}
use Rattle.dcm_base.specs.Tables.Transfer.{without_pads, coding_of}
use Rattle.dcm_base.specs.File.MetaGroup.{group_place, is_element}
use Rattle.dcm_base.specs.File.MetaReads.{PREFIX, syntax_value, Meta, MetaAnswer, refused, MetaReads, too_short, no_prefix, with_group, ended, named, coded, is_undecided}
use Rattle.dcm_head.specs.MetaReading.{Reading, Says, meta_finished, finished_from, group_end, coded_end, group_ended, group_of, uid_of}
use Rattle.dcm_head.proofs.MetaGroups.Places.{at_empty}
use Rattle.dcm_head.proofs.HeadReading.MoreBytes.{Sure, place_sure}
use Rattle.dcm_head.proofs.HeadReading.State.{Described, before, within, no_file, over, Within, Over, NoFile, end_at, early, behind_group}

-- what is known of a reading whose group has ended
record Parts (q : Reading) (preamble group : List ℕ) (uid : List ℕ) : Type 0 where
  place_is : q.place ≡ 132 + length group
  front : take 128 q.bytes ≡ preamble
  group_is : group_of q ≡ group
  uid_is : uid_of q ≡ uid

parts_of : (q : Reading) (preamble group came uid : List ℕ) → q.bytes ≡ preamble ++ (PREFIX ++ (group ++ came)) → length preamble ≡ 128 → q.place ≡ 132 + length group → uid_of q ≡ uid → Parts q preamble group uid
parts_of q preamble group came uid b long place u =
    let size : q.place - 132 ≡ length group = omega arith in
    let all : drop 132 q.bytes ≡ group ++ came = ap (drop 132) b ∙ behind_group preamble [] (group ++ came) long in
    record {
      place_is = place;
      front = ap (take 128) b ∙ take_at preamble (PREFIX ++ (group ++ came)) 128 long;
      group_is = (λ i. take (size i) (all i)) ∙ take_at group came (length group) refl;
      uid_is = u;
    }

says_coded : (q : Reading) (meta : Meta) (group : List ℕ) (o : Result Coding Deflated) → q.end ≡ Some (coded_end (132 + length group) o) → Parts q meta.preamble group meta.uid → Says q (coded meta group o)
says_coded q meta group (Ok coding) h p = (h, p.place_is, p.front, p.group_is, p.uid_is)
says_coded q meta group (Err deflated) h p = h

says_named : (q : Reading) (preamble : List ℕ) (elements : Trees) (group uid : List ℕ) → q.end ≡ Some (group_end (132 + length group) uid) → Parts q preamble group uid
    → Says q (named (record { preamble = preamble; elements = elements; uid = uid }) group uid)
says_named q preamble elements group [] h p = h
says_named q preamble elements group (b ∷ uid) h p = says_coded q (record { preamble = preamble; elements = elements; uid = b ∷ uid }) group (coding_of (b ∷ uid))
    (h ∙ ap (λ (x : Bool). Some (cond x (Refused (record { fault = NoTransferSyntax; at = 132 + length group })) (coded_end (132 + length group) (coding_of (b ∷ uid))))) (ne_eqb (length (b ∷ uid)) 0 (λ e. omega arith))) p

undecided_coded : (size : ℕ) (meta : Meta) (group : List ℕ) (o : Result Coding Deflated) → is_undecided size (coded meta group o) ≡ nat_eq (132 + length group) size
undecided_coded size meta group (Ok coding) = refl
undecided_coded size meta group (Err deflated) = refl

undecided_named : (size : ℕ) (meta : Meta) (group uid : List ℕ) → is_undecided size (named meta group uid) ≡ nat_eq (132 + length group) size
undecided_named size meta group [] = refl
undecided_named size meta group (b ∷ uid) = undecided_coded size meta group (coding_of meta.uid)

-- the answer to the bytes so far, how the reading says it, and whether it goes on
pub record IsAnswered (r : Reading) (p : List ℕ) : Type 0 where
  pub answer : MetaAnswer
  pub reads : MetaReads p answer
  pub said : Says (meta_finished r) answer
  pub going : ((is_undecided (length p) answer ≡ true) × (r.end ≡ None)) ⊎ ((is_undecided (length p) answer ≡ false) × (end : MetaEnd) × (r.end ≡ Some end))

finished_over : (r : Reading) (end : MetaEnd) → r.end ≡ Some end → meta_finished r ≡ r
finished_over r end h = ap (finished_from r) h

told_before : (p : List ℕ) → length p < 132 → IsAnswered (early p) p
told_before p few =
    let other : nat_eq (length p) 132 ≡ false = ne_eqb (length p) 132 (λ h. omega arith) in
    record {
      answer = refused EndsEarly (length p);
      reads = too_short few refl;
      said = subst (λ (x : Reading). x.end ≡ Some (Refused (record { fault = EndsEarly; at = length p }))) (sym (ap (λ (b : Bool). cond b (group_ended (early p)) (record { bytes = p; place = 132; uid_at = 0; uid_size = 0; end = Some (Refused (record { fault = EndsEarly; at = length p })) })) other)) refl;
      going = inl (refl, refl);
    }

size_of : (preamble group rest : List ℕ) → length preamble ≡ 128 → length (preamble ++ (PREFIX ++ (group ++ rest))) ≡ 132 + length group + length rest
size_of preamble group rest long =
    let a = length-append preamble (PREFIX ++ (group ++ rest)) in
    let b = length-append PREFIX (group ++ rest) in
    let d = length-append group rest in
    let four : length PREFIX ≡ 4 = refl in
    omega arith

told_within : (r : Reading) (p : List ℕ) → Within r p → IsAnswered r p
told_within r p w =
    let size = ap length w.parts ∙ size_of w.preamble w.group w.rest w.long in
    let bytes_is = ap length w.bytes_is in
    let place_is = w.place_is in
    elim (leb_tells 1 (length w.rest)) [
      | inr none ↦
          let zero_is : length w.rest ≡ 0 = let lt = none.1 in omega arith in
          let at_end : nat_eq (length r.bytes) r.place ≡ true = eq-eqb (length r.bytes) r.place (omega arith) in
          let q : Reading = record r { end = Some (group_end r.place (uid_of r)) } in
          let finished : meta_finished r ≡ q = ap (finished_from r) w.going ∙ ap (λ (b : Bool). cond b q (record r { end = Some (Refused (record { fault = EndsEarly; at = length r.bytes })) })) at_end in
          let uid : List ℕ = without_pads (syntax_value w.elements) in
          record {
            answer = ended w.preamble w.elements w.group;
            reads = with_group w.preamble (w.group ++ w.rest) w.group w.elements the_end w.parts w.long
                (record { rest = w.rest; parts = refl; spelled = w.spelled; meta = w.meta; within = w.limit; behind_is = sym (at_empty (length w.group) w.rest zero_is); no_element = refl }) refl;
            said = subst (λ (x : Reading). Says x (ended w.preamble w.elements w.group)) (sym finished)
                (says_named q w.preamble w.elements w.group uid (λ i. Some (group_end (w.place_is i) (w.uid.uid i))) (parts_of q w.preamble w.group w.rest uid (w.bytes_is ∙ w.parts) w.long w.place_is w.uid.uid));
            going = inl (undecided_named (length p) (record { preamble = w.preamble; elements = w.elements; uid = uid }) w.group uid ∙ eq-eqb (132 + length w.group) (length p) (omega arith), w.going);
          }
      | inl some ↦
          let one = some.1 in
          let cut : group_place (length w.group) w.rest ≡ too_few = elim w.waits [ inl none ↦ absurd (omega arith) | inr cut ↦ cut ] in
          let not_end : nat_eq (length r.bytes) r.place ≡ false = ne_eqb (length r.bytes) r.place (λ h. omega arith) in
          let q : Reading = record r { end = Some (Refused (record { fault = EndsEarly; at = length r.bytes })) } in
          let finished : meta_finished r ≡ q = ap (finished_from r) w.going ∙ ap (λ (b : Bool). cond b (record r { end = Some (group_end r.place (uid_of r)) }) q) not_end in
          record {
            answer = refused EndsEarly (length p);
            reads = with_group w.preamble (w.group ++ w.rest) w.group w.elements too_few w.parts w.long
                (record { rest = w.rest; parts = refl; spelled = w.spelled; meta = w.meta; within = w.limit; behind_is = sym cut; no_element = refl }) refl;
            said = subst (λ (x : Reading). Says x (refused EndsEarly (length p))) (sym finished) (ap (λ (n : ℕ). Some (Refused (record { fault = EndsEarly; at = n }))) bytes_is);
            going = inl (refl, w.going);
          }
    ]

told_no_file : (r : Reading) (p : List ℕ) → NoFile r p → IsAnswered r p
told_no_file r p n = record {
  answer = refused NoPrefix 128;
  reads = no_prefix n.preamble n.prefix n.rest n.parts n.long n.four n.other refl;
  said = subst (λ (x : Reading). Says x (refused NoPrefix 128)) (sym (finished_over r _ n.end_is)) n.end_is;
  going = inr (refl, _, n.end_is);
}

told_behind : (r : Reading) (p : List ℕ) (o : Over r p) (behind : GroupPlace) → o.behind ≡ behind → IsAnswered r p
told_behind r p o (an_element tag vr head size) h = absurd (let no : true ≡ false = sym (ap is_element h) ∙ o.no_element in cc)
told_behind r p o too_few h = absurd (o.no_cut h)
told_behind r p o the_end h =
    let size = ap length o.parts ∙ size_of o.preamble o.group o.rest o.long in
    let two = o.two in
    let uid : List ℕ = without_pads (syntax_value o.elements) in
    let end_is : r.end ≡ Some (group_end (132 + length o.group) uid) = o.end_is ∙ (λ i. Some (end_at (132 + length o.group) (o.uid i) (h i))) in
    record {
      answer = ended o.preamble o.elements o.group;
      reads = with_group o.preamble (o.group ++ o.rest) o.group o.elements the_end o.parts o.long
          (record { rest = o.rest; parts = refl; spelled = o.spelled; meta = o.meta; within = o.limit; behind_is = sym h ∙ o.behind_is; no_element = refl }) refl;
      said = subst (λ (x : Reading). Says x (ended o.preamble o.elements o.group)) (sym (finished_over r _ o.end_is))
          (says_named r o.preamble o.elements o.group uid end_is (parts_of r o.preamble o.group o.came uid o.bytes_is o.long o.place_is o.uid));
      going = inr (undecided_named (length p) (record { preamble = o.preamble; elements = o.elements; uid = uid }) o.group uid ∙ ne_eqb (132 + length o.group) (length p) (λ e. omega arith), _, o.end_is);
    }
told_behind r p o (a_fault fault) h =
    let end_is : r.end ≡ Some (Refused (record { fault = fault; at = 132 + length o.group })) = o.end_is ∙ ap (λ (x : GroupPlace). Some (end_at (132 + length o.group) (uid_of r) x)) h in
    let sure : Sure (a_fault fault) = subst Sure (sym o.behind_is ∙ h) (place_sure (length o.group) o.rest) in
    record {
      answer = refused fault (132 + length o.group);
      reads = with_group o.preamble (o.group ++ o.rest) o.group o.elements (a_fault fault) o.parts o.long
          (record { rest = o.rest; parts = refl; spelled = o.spelled; meta = o.meta; within = o.limit; behind_is = sym h ∙ o.behind_is; no_element = refl }) refl;
      said = subst (λ (x : Reading). Says x (refused fault (132 + length o.group))) (sym (finished_over r _ o.end_is)) end_is;
      going = inr (sure (length p) (132 + length o.group), _, o.end_is);
    }

pub told : (r : Reading) (p : List ℕ) → Described r p → IsAnswered r p
told r p (before few is) = subst (λ (x : Reading). IsAnswered x p) (sym is) (told_before p few)
told r p (within w) = told_within r p w
told r p (no_file n) = told_no_file r p n
told r p (over o) = told_behind r p o o.behind refl

pub going_exactly : (b : Bool) (e : Option MetaEnd) → ((b ≡ true) × (e ≡ None)) ⊎ ((b ≡ false) × (end : MetaEnd) × (e ≡ Some end)) → IsTrue b ↔ (e ≡ None)
going_exactly b e (inl x) = (λ _. x.1, λ _. subst IsTrue (sym x.0) refl)
going_exactly b e (inr x) = (λ t. absurd (let no : false ≡ true = subst IsTrue x.0 t in cc), λ h. absurd (let no : Some x.1 ≡ None = sym x.2 ∙ h in cc))
