-- Which bytes of a file decide how its first reading ends.
use Rattle.std.proofs.Common.{◌≡◌, ◌∙◌, ap, sym, subst, refl, ◌⊎◌, inl, inr, ℕ, ◌≤◌, List, [], ◌++◌, append-nil, length, length-append, drop, Option, Some, None, arith}
use Rattle.std.specs.Prelude.{codes}
use Rattle.std.proofs.lemmas.List.{drop-append-le}
use Rattle.dcm_base.specs.declared.dictionary.Dictionary.TheVariants.{Standard}
use Rattle.dcm_base.specs.declared.fault.Fault.TheVariants.{NoPrefix}
use Rattle.dcm_base.specs.declared.fault.Stop.{Stop as FaultAt}
use Rattle.dcm_base.specs.declared.syntax.Coding.{Coding}
use Rattle.dcm_base.specs.declared.syntax.Syntax.{Syntax}
use Rattle.dcm_base.specs.Reading.Reads.{INPUT_LIMIT}
use Rattle.dcm_head.specs.declared.meta_read.MetaEnd.{MetaEnd}
use Rattle.dcm_head.specs.declared.meta_read.MetaEnd.TheVariants as meta_ends
use Rattle.dcm_head.specs.MetaReading.{Reading as HeadReading, HasEnded, meta_finished}
use Rattle.dcm_head.proofs.HeadReading.State.{Described, before, within, no_file, over, described}
use Rattle.dcm_cli.specs.declared.first.FirstEnd.{FirstEnd}
use Rattle.dcm_cli.specs.declared.first.FirstEnd.TheVariants.{Refused}
use Rattle.dcm_cli.specs.Answer.{set_at}
use Rattle.dcm_cli.specs.First.{FirstReads, IsUndecided, SetReads, in_meta, in_set, no_set, of_set}
use Rattle.dcm_cli.specs.Pass.{head_read}
use Rattle.dcm_cli.specs.Searching.{decided}
use Rattle.dcm_cli.proofs.Passes.FirstSets.{both_read, decided_as, goes_on, undecided}
use Rattle.dcm_cli.proofs.Passes.MetaHeads.{Opened, ended_stays, finished_same, goes_on_still, not_opened, one_head, opened}
use Rattle.dcm_cli.proofs.Runs.OneFirst.{one_first}
use Rattle.dcm_run_laws.specs.FirstLaws.{FirstReadingStays}

-- the first reading of all files that begin with these bytes ends so
record IsSure (key bytes : List ℕ) : Type 0 where
  end : FirstEnd
  reads : (rest : List ℕ) → FirstReads key (bytes ++ rest) end

-- ---- a head that has ended

-- its reading is the same, whatever follows
finished : (bytes : List ℕ) (end : MetaEnd) → (head_read bytes).end ≡ Some end → (rest : List ℕ) → meta_finished (head_read (bytes ++ rest)) ≡ head_read bytes
finished bytes end is rest = ap meta_finished (ended_stays (head_read bytes) bytes rest end refl is) ∙ finished_same (head_read bytes) end is

-- at a fault
refused_sure : (key bytes : List ℕ) (stop : FaultAt) → (head_read bytes).end ≡ Some (meta_ends.Refused stop) → IsSure key bytes
refused_sure key bytes stop is = record {
  end = Refused stop;
  reads = λ rest. no_set stop.fault stop.at (not_opened (head_read bytes) (bytes ++ rest) stop (finished bytes (meta_ends.Refused stop) is rest) is) refl;
}

-- before a data set, whose place is within the bytes
place_within : (bytes : List ℕ) (named : Coding) → (head_read bytes).end ≡ Some (meta_ends.Ended named) → (head_read bytes).place ≤ length bytes
place_within bytes named is = by_cases (described bytes)
  where
    by_cases : Described (head_read bytes) bytes → (head_read bytes).place ≤ length bytes
    by_cases (before few e) = absurd (let no : Some (meta_ends.Ended named) ≡ None = sym is ∙ ap (λ (x : HeadReading). x.end) e in cc)
    by_cases (within w) = absurd (let no : Some (meta_ends.Ended named) ≡ None = sym is ∙ w.going in cc)
    by_cases (no_file n) = absurd (let no : Some (meta_ends.Ended named) ≡ Some (meta_ends.Refused (record { fault = NoPrefix; at = 128 })) = sym is ∙ n.end_is in cc)
    by_cases (over o) =
        let all = ap length o.parts ∙ length-append o.preamble (codes "DICM" ++ (o.group ++ o.rest)) in
        let a = length-append (codes "DICM") (o.group ++ o.rest) in
        let d = length-append o.group o.rest in
        let four : length (codes "DICM") ≡ 4 = refl in
        let long = o.long in
        let place = o.place_is in
        omega arith

module _ (key bytes : List ℕ) (named : Coding) (is : (head_read bytes).end ≡ Some (meta_ends.Ended named)) where
  abbrev m : HeadReading
  m = head_read bytes

  ended : HasEnded m.end
  ended = subst HasEnded (sym is) tt

  there : (rest : List ℕ) → Opened Standard m (bytes ++ rest)
  there rest = opened Standard m (bytes ++ rest) (finished bytes (meta_ends.Ended named) is rest) ended

  here : Opened Standard m bytes
  here = opened Standard m bytes (finished_same m (meta_ends.Ended named) is) ended

  abbrev s : Syntax
  s = here.coding.syntax

  abbrev start : ℕ
  start = set_at here.group

  abbrev set_bytes : List ℕ
  set_bytes = drop start bytes

  small : start ≤ INPUT_LIMIT
  small = let most = here.within in omega (arith, most)

  cut : (rest : List ℕ) → drop start (bytes ++ rest) ≡ set_bytes ++ rest
  cut rest = drop-append-le start bytes rest (let le = place_within bytes named is in let place = here.place_is in omega (arith, le, place))

  -- more bytes can still change it
  going_on : decided key s start set_bytes ≡ None → IsUndecided bytes
  going_on none =
      let both = both_read s start small set_bytes in
      in_set here.m here.group here.coding both.before both.set _ _ here.reads both.reads
      (goes_on s start small key set_bytes (undecided s start small key set_bytes none))

  -- these bytes decide it
  set_sure : (end : FirstEnd) → decided key s start set_bytes ≡ Some end → IsSure key bytes
  set_sure end e = record {
    end = end;
    reads = λ rest.
        let d = decided_as s start small key set_bytes rest end e in
        of_set here.m here.group here.coding d.before d.set d.up_to d.stop (one_head Standard m bytes (bytes ++ rest) here (there rest))
        (subst (λ (bs : List ℕ). SetReads s start bs d.before d.set d.up_to d.stop) (sym (cut rest)) d.reads) (d.end_is (length (bytes ++ rest)));
  }

  set_settles : IsUndecided bytes ⊎ IsSure key bytes
  set_settles = by_test (decided key s start set_bytes) refl
    where
      by_test : (o : Option FirstEnd) → decided key s start set_bytes ≡ o → IsUndecided bytes ⊎ IsSure key bytes
      by_test None e = inl (going_on e)
      by_test (Some end) e = inr (set_sure end e)

-- ---- any bytes

-- more can change how the reading ends, or they decide it
settles : (key bytes : List ℕ) → IsUndecided bytes ⊎ IsSure key bytes
settles key bytes = by_end (head_read bytes).end refl
  where
    by_end : (end : Option MetaEnd) → (head_read bytes).end ≡ end → IsUndecided bytes ⊎ IsSure key bytes
    by_end None is = let still = goes_on_still bytes is in inl (in_meta still.0 still.1 still.2)
    by_end (Some (meta_ends.Refused stop)) is = inr (refused_sure key bytes stop is)
    by_end (Some (meta_ends.Ended named)) is = set_settles key bytes named is

-- an end that is sure is the end
sure_end : (key bytes : List ℕ) (end : FirstEnd) → FirstReads key bytes end → IsSure key bytes → (rest : List ℕ) → FirstReads key (bytes ++ rest) end
sure_end key bytes end reads sure rest =
    let here : FirstReads key bytes sure.end = subst (λ (bs : List ℕ). FirstReads key bs sure.end) (append-nil bytes) (sure.reads []) in
    subst (FirstReads key (bytes ++ rest)) (one_first key bytes sure.end end here reads) (sure.reads rest)

pub first_stays : FirstReadingStays
first_stays key bytes rest end sure reads = elim (settles key bytes) [
  | inl u ↦ absurd (sure u)
  | inr s ↦ sure_end key bytes end reads s rest
]
