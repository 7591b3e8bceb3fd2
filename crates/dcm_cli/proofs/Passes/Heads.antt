-- Where a data set begins in the pieces that were read.
use Rattle.std.proofs.Common.{◌≡◌, ◌∙◌, ap, sym, subst, ℕ, ◌+◌, ◌≤◌, List, [], ◌∷◌, ◌++◌, length, take, drop, length-append, true, false, Bool, Option, None, Some, arith, refl, inl, inr}
use Rattle.std.specs.Prelude.{fold, option_to_list, ◌-◌, nat_eq, cond, Result, Ok, Err}
use Rattle.std.proofs.lemmas.List.{drop-take, drop_all, length-take, length-drop}
use Rattle.std.proofs.lemmas.List.Sums.{fold-append}
use Rattle.dcm_base.specs.declared.fault.Fault.TheVariants.{EndsEarly}
use Rattle.dcm_base.proofs.Dictionaries.TagOrder.{number_is}
use Rattle.dcm_head.specs.MetaReading.{Reading, HasEnded, BeginsAt, meta_step, meta_finished, finished_from, group_ended, refusing}
use Rattle.dcm_head.proofs.HeadReading.Stays.{data_set_there}
use Rattle.dcm_cli.specs.declared.head.Beginning.{Beginning}
use Rattle.dcm_cli.specs.declared.ending.HeadEnding.{HeadEnding}
use Rattle.dcm_cli.specs.declared.ending.HeadEnding.TheVariants as heads
use Rattle.dcm_cli.specs.InputCalls.{How, to_end}
use Rattle.dcm_cli.specs.Pass.{Begins, FinishesHead, HeadReadOf, head_read, set_bytes}

-- a piece behind what was read
pub read_on : (r old : Reading) (front piece : List ℕ) → old ≡ head_read front → r ≡ fold meta_step old piece → r ≡ head_read (front ++ piece)
read_on r old front piece o e = e ∙ ap (λ (x : Reading). fold meta_step x piece) o ∙ sym (fold-append meta_step (head_read []) front piece)

placed : (before piece : List ℕ) (place used : ℕ) (ahead : Option ℕ) → BeginsAt before place used ahead → used ≤ length piece → place ≤ length (before ++ piece)
placed before piece place used None h le = let all = length-append before piece in omega arith
placed before piece place used (Some byte) h le =
    let all = length-append before piece in
    let size = ap length h.1 ∙ length-append (take place before) (byte ∷ []) in
    let front = length-take place before in
    omega arith

rest_of : (n used : ℕ) (buffer : List ℕ) → used ≤ n → drop used (take n buffer) ≡ take (n - used) (drop used buffer)
rest_of n used buffer le =
    let whole : n ≡ used + (n - used) = omega arith in
    ap (λ (m : ℕ). drop used (take m buffer)) whole ∙ drop-take used (n - used) buffer

pub begins_in : (r old : Reading) (front piece buffer : List ℕ) (n used read : ℕ) (ahead : Option ℕ) (how : How)
    → old ≡ head_read front → old.bytes ≡ front → r ≡ fold meta_step old piece → HasEnded r.end → BeginsAt old.bytes r.place used ahead
    → piece ≡ take n buffer → length piece ≡ n → used ≤ length piece → read ≡ length (front ++ piece)
    → Begins r (record { ahead = ahead; used = used; filled = n; read = read; is_over = false }) buffer how (front ++ piece)
begins_in r old front piece buffer n used read ahead how o bytes e ended begins is size le count =
    let b : Beginning = record { ahead = ahead; used = used; filled = n; read = read; is_over = false } in
    let there = subst (λ (x : List ℕ). BeginsAt x r.place used ahead) bytes begins in
    let set : drop r.place (front ++ piece) ≡ set_bytes b buffer =
    data_set_there front piece r.place used ahead there
    ∙ ap (λ (x : List ℕ). option_to_list ahead ++ drop used x) is
    ∙ ap (λ (x : List ℕ). option_to_list ahead ++ x) (rest_of n used buffer (omega arith))
    in
    record {
      ended = ended;
      reading = inl (read_on r old front piece o e);
      place = let within = placed front piece r.place used ahead there le in
          let long = sym (ap length set) ∙ length-drop r.place (front ++ piece) in
          omega arith;
      set = set;
      count = count;
      over = λ never. absurd (cc);
    }

-- a head that goes on, by its bytes
pub going_on : (r : Reading) (front : List ℕ) → r ≡ head_read front → r.end ≡ None → (head_read front).end ≡ None
going_on r front is none = ap (λ (x : Reading). x.end) (sym is) ∙ none

-- a head that the end of the input has ended
finished_place : (r old : Reading) → r ≡ meta_finished old → old.end ≡ None → HasEnded r.end → r.place ≡ length old.bytes
finished_place r old is none ended = by_test (nat_eq (length old.bytes) old.place) refl
  where
    by : Bool → Reading
    by full = cond full (group_ended old) (refusing old EndsEarly (length old.bytes))

    by_test : (full : Bool) → nat_eq (length old.bytes) old.place ≡ full → r.place ≡ length old.bytes
    by_test true e = ap (λ (x : Reading). x.place) (is ∙ ap (finished_from old) none ∙ ap by e) ∙ sym (number_is (length old.bytes) old.place e)
    by_test false e = absurd (subst HasEnded (ap (λ (x : Reading). x.end) (is ∙ ap (finished_from old) none ∙ ap by e)) ended)

pub finished_head : (r old : Reading) (front buffer : List ℕ) (n : ℕ) (result : Result Beginning HeadEnding) → old ≡ head_read front → old.end ≡ None → old.bytes ≡ front → r ≡ meta_finished old → n ≡ length front
    → FinishesHead r.end n result → HeadReadOf r buffer to_end front result
finished_head r old front buffer n (Ok b) o none bytes is count f =
    let there : r.place ≡ length front = finished_place r old is none f.0 ∙ ap length bytes in
    let over : b.is_over ≡ true = ap (λ (x : Beginning). x.is_over) f.1 in
    let nothing : set_bytes b buffer ≡ [] = ap (λ (x : Beginning). set_bytes x buffer) f.1 in
    record {
      ended = f.0;
      reading = inr (over, is ∙ ap meta_finished o);
      place = let size = ap length nothing in omega (arith, size, there);
      set = drop_all r.place front (omega (arith, there)) ∙ sym nothing;
      count = ap (λ (x : Beginning). x.read) f.1 ∙ count;
      over = λ _. refl;
    }
finished_head r old front buffer n (Err (heads.Refused stop)) o none bytes is count f = (f, inr (refl, is ∙ ap meta_finished o))
finished_head r old front buffer n (Err (heads.Unread read)) o none bytes is count f = absurd f
