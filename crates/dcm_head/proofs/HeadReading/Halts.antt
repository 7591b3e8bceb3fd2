-- A call ends the reading of a file's head exactly where the bytes before it and its piece are not undecided.
use Rattle.std.proofs.Common.{◌≡◌, ◌∙◌, ◌⊎◌, inl, inr, ap, sym, subst, ℕ, List, ◌++◌, length, Bool, true, false, ◌↔◌, Option, Some, None}
use Rattle.std.specs.Prelude.{fold}
use Rattle.std.proofs.lemmas.List.Sums.{fold-append}
use Rattle.dcm_lemmas.proofs.Options.{none_or_some}
use Rattle.dcm_lemmas.proofs.Truth.{true_false}
use Rattle.dcm_base.specs.declared.fault.Fault.{Fault}
use Rattle.dcm_base.specs.declared.fault.Stop.{Stop}
use Rattle.dcm_base.specs.File.MetaReads.{MetaAnswer, MetaReads, begins, refused, is_undecided}
use Rattle.dcm_head.specs.declared.meta_read.MetaEnd.{MetaEnd}
use Rattle.dcm_head.specs.declared.meta_read.MetaEnd.TheVariants.{Refused, Ended}
use Rattle.dcm_head.specs.MetaReading.{Reading, Says, at_start, meta_step, meta_finished, finished_from, IsOver, Refuses, IsDecided, CallEnds, CallRefuses}
use Rattle.dcm_head.proofs.HeadReading.State.{described}
use Rattle.dcm_head.proofs.MetaGroups.OneMeta.{one_meta}
use Rattle.dcm_head.proofs.HeadReading.Answers.{told}

-- whether a reading goes on
abbrev GoesOn : Bool → Option MetaEnd → Type 0
GoesOn undecided end = ((undecided ≡ true) × (end ≡ None)) ⊎ ((undecided ≡ false) × (e : MetaEnd) × (end ≡ Some e))

-- what is known of a reading over bytes with this answer
record Known (r : Reading) (p : List ℕ) (answer : MetaAnswer) : Type 0 where
  said : Says (meta_finished r) answer
  going : GoesOn (is_undecided (length p) answer) r.end

known : (p : List ℕ) (answer : MetaAnswer) → MetaReads p answer → Known (fold meta_step at_start p) p answer
known p answer reads =
    let t = told _ p (described p) in
    subst (Known (fold meta_step at_start p) p) (one_meta p t.answer answer t.reads reads) (record { said = t.said; going = t.going })

over_where : (undecided : Bool) (r : Reading) → GoesOn undecided r.end → IsOver r ↔ (undecided ≡ false)
over_where undecided r (inl x) = ((λ o. absurd (none_or_some r.end o.0 x.1 o.1)), (λ f. absurd (true_false undecided x.0 f)))
over_where undecided r (inr x) = ((λ o. x.0), (λ f. (x.1, x.2)))

same_stops : (stop other : Stop) → Some (Refused stop) ≡ Some (Refused other) → stop ≡ other
same_stops stop other e = cc

-- a fault that was told is the answer
told_is : (r : Reading) (answer : MetaAnswer) (fault : Fault) (offset : ℕ) → Says r answer → Refuses r fault offset → answer ≡ refused fault offset
told_is r (refused f o) fault offset said h =
    let stops = same_stops (record { fault = f; at = o }) (record { fault = fault; at = offset }) (sym said ∙ h) in
    ap (λ (stop : Stop). refused stop.fault stop.at) stops
told_is r (begins meta group coding) fault offset said h =
    let no : Some (Ended coding) ≡ Some (Refused (record { fault = fault; at = offset })) = sym said.0 ∙ h in
    absurd (cc)

refusing : (r : Reading) (answer : MetaAnswer) (fault : Fault) (offset : ℕ) → Says r answer → answer ≡ refused fault offset → Refuses r fault offset
refusing r answer fault offset said is = subst (Says r) is said

refuses_where : (undecided : Bool) (r : Reading) (answer : MetaAnswer) (fault : Fault) (offset : ℕ) → Says (meta_finished r) answer → GoesOn undecided r.end → Refuses r fault offset ↔ ((answer ≡ refused fault offset) × (undecided ≡ false))
refuses_where undecided r answer fault offset said (inl x) = (
  (λ h. absurd (none_or_some r.end (Refused (record { fault = fault; at = offset })) x.1 h)),
  (λ y. absurd (true_false undecided x.0 y.1)),
)
refuses_where undecided r answer fault offset said (inr x) =
    let here : Says r answer = subst (λ (q : Reading). Says q answer) (ap (finished_from r) x.2) said in (
      (λ h. (told_is r answer fault offset here h, x.0)),
      (λ y. refusing r answer fault offset here y.0),
    )

-- ---- a call

pub call_ends : (before piece : List ℕ) (answer : MetaAnswer) → MetaReads (before ++ piece) answer → CallEnds before piece answer
call_ends before piece answer reads =
    let all = before ++ piece in
    subst (λ (r : Reading). IsOver r ↔ IsDecided all answer) (fold-append meta_step at_start before piece)
    (over_where (is_undecided (length all) answer) (fold meta_step at_start all) (known all answer reads).going)

pub call_refuses : (before piece : List ℕ) (answer : MetaAnswer) (fault : Fault) (offset : ℕ) → MetaReads (before ++ piece) answer → CallRefuses before piece answer fault offset
call_refuses before piece answer fault offset reads =
    let all = before ++ piece in
    let k = known all answer reads in
    subst (λ (r : Reading). Refuses r fault offset ↔ ((answer ≡ refused fault offset) × IsDecided all answer)) (fold-append meta_step at_start before piece)
    (refuses_where (is_undecided (length all) answer) (fold meta_step at_start all) answer fault offset k.said k.going)
