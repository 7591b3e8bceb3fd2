-- Two readers, by the calls that are made of them.
use Rattle.std.proofs.Common.{◌≡◌, ◌≢◌, ◌∙◌, ap, sym, subst, refl, inl, inr, ℕ, ◌<◌, ◌≤◌, List, [], ◌∷◌, ◌++◌, append_assoc, length, take, Bool, true, false, nat_eq, ◌⊎◌, Some, None, unwrap_or, arith}
use Rattle.std.proofs.lemmas.Bool.Decides.{eqb_tells}
use Rattle.std.proofs.lemmas.List.{append-nil, length-take-le, take-append-le, take_at}
use Rattle.std.specs.Io.KnownBytes.{prepend_known, IsAtEnd}
use Rattle.dcm_base.specs.Reading.Reads.{INPUT_LIMIT}
use Rattle.dcm_cli.proofs.Passes.Readers.{gave_append, how_given}
use Rattle.dcm_cli.specs.InputCalls.{Reader, How, in_part, to_end, with_failure, TellsHow, InputCalls, no_call, last_call, ReadsInput}
use Rattle.dcm_cli.proofs.Passes.Passes.{read_nothing, read_twice}
use Rattle.dcm_devices.specs.Device.{Gave, no_calls, and_call}
use Rattle.dcm_instance.specs.Same.{InFront, Compares, Differ, Ends, GaveAll, GaveElse, GaveMore, GaveOther, differ, first_failed, second_failed, too_long}

-- ---- calls, and then others

module _ {R : Type 0} (r : Reader R) where
  pub nothing_gave : (old : R) → GaveAll r old old []
  nothing_gave old = record { calls = no_calls refl refl; left = read_nothing (r.remaining old); unread = refl }

  -- one call
  pub one_gave : (old new : R) (piece : List ℕ) → r.gets old (Some piece) new → 0 < length piece → r.remaining old ≡ prepend_known piece (r.remaining new) → r.has_failed new ≡ r.has_failed old → GaveAll r old new piece
  one_gave old new piece call some left unread = record { calls = and_call [] piece old (no_calls refl refl) call some refl; left = left; unread = unread }

  pub gave_both : (old mid new : R) (xs ys : List ℕ) → GaveAll r old mid xs → GaveAll r mid new ys → GaveAll r old new (xs ++ ys)
  gave_both old mid new xs ys a b = record {
    calls = gave_append r.gets old mid new xs ys a.calls b.calls;
    left = read_twice _ _ _ xs ys a.left b.left;
    unread = b.unread ∙ a.unread;
  }

  -- all calls gave bytes, each before the last the front of others
  pub called_so : (other : List ℕ) (old mid new : R) (front piece : List ℕ) → Gave r.gets old front mid → InFront other front → r.gets mid (Some piece) new → 0 < length piece
      → r.remaining old ≡ prepend_known (front ++ piece) (r.remaining new) → r.has_failed new ≡ r.has_failed old → ReadsInput r (InFront other) old (front ++ piece) in_part new
  called_so other old mid new front piece calls in_front call some left unread = record {
    calls = last_call front mid (Some piece) calls in_front call refl (how_given piece some);
    left = left;
    end = λ is. absurd (let no : in_part ≡ to_end = is in cc);
    failed = unread;
  }

  -- or all were
  pub read_so : (other : List ℕ) (old new : R) (given : List ℕ) → InFront other given → GaveAll r old new given → ReadsInput r (InFront other) old given in_part new
  read_so other old new given in_front g = record {
    calls = by_calls given g.calls in_front;
    left = g.left;
    end = λ is. absurd (let no : in_part ≡ to_end = is in cc);
    failed = g.unread;
  }
    where
      by_calls : (bytes : List ℕ) → Gave r.gets old bytes new → InFront other bytes → InputCalls r.gets (InFront other) old bytes in_part new
      by_calls bytes (no_calls none same) _ = no_call none refl same
      by_calls bytes (and_call before piece mid calls call some is) all =
          last_call before mid (Some piece) calls (piece ++ all.0, all.1 ∙ ap (λ (bs : List ℕ). bs ++ all.0) is ∙ append_assoc before piece all.0) call is (how_given piece some)

  -- and then others were made
  pub read_behind : (all rest : List ℕ) (old mid new : R) (front given : List ℕ) (how : How) → all ≡ front ++ rest → GaveAll r old mid front → ReadsInput r (InFront rest) mid given how new
      → ReadsInput r (InFront all) old (front ++ given) how new
  read_behind all rest old mid new front given how parts g h = by_calls h.calls
    where
      by_calls : InputCalls r.gets (InFront rest) mid given how new → ReadsInput r (InFront all) old (front ++ given) how new
      by_calls (no_call none is same) =
          subst (λ (h : How). ReadsInput r (InFront all) old (front ++ given) h new) (sym is)
          (subst (λ (x : R). ReadsInput r (InFront all) old (front ++ given) in_part x) (sym same)
          (subst (λ (bs : List ℕ). ReadsInput r (InFront all) old bs in_part mid) (sym (ap (λ (bs : List ℕ). front ++ bs) none ∙ append-nil front)) (read_so all old mid front (rest, parts) g)))
      by_calls (last_call before last call calls needed gets whole is) = record {
        calls = last_call (front ++ before) last call (gave_append r.gets old mid last front before g.calls calls)
            (needed.0, parts ∙ ap (λ (bs : List ℕ). front ++ bs) needed.1 ∙ sym (append_assoc front before needed.0)) gets
            (ap (λ (bs : List ℕ). front ++ bs) whole ∙ sym (append_assoc front before (unwrap_or call []))) is;
        left = read_twice _ _ _ front given g.left h.left;
        end = h.end;
        failed = subst (λ (f : Bool). TellsHow f (r.has_failed new) how) g.unread h.failed;
      }

  -- it has ended, or failed
  pub ended_so : (other : List ℕ) (old new : R) → IsAtEnd (r.remaining new) → r.remaining old ≡ prepend_known [] (r.remaining new) → r.gets old (Some []) new → r.has_failed new ≡ r.has_failed old → ReadsInput r (InFront other) old [] to_end new
  ended_so other old new over left call unread = record {
    calls = last_call [] old (Some []) (no_calls refl refl) (other, refl) call refl refl;
    left = left;
    end = λ is. over;
    failed = unread;
  }

  pub failed_so : (other : List ℕ) (old new : R) → r.remaining new ≡ r.remaining old → r.gets old None new → r.has_failed new ≡ true → ReadsInput r (InFront other) old [] with_failure new
  failed_so other old new same call failed = record {
    calls = last_call [] old None (no_calls refl refl) (other, refl) call refl refl;
    left = sym same ∙ read_nothing (r.remaining new);
    end = λ is. absurd (let no : with_failure ≡ to_end = is in cc);
    failed = failed;
  }

-- ---- bytes that differ

tail_same : (x : ℕ) (u v : List ℕ) → x ∷ u ≡ x ∷ v → u ≡ v
tail_same x u v e = cc

-- behind the same bytes
pub differ_behind : (front a b : List ℕ) (how other : How) → Differ a how b other → Differ (front ++ a) how (front ++ b) other
differ_behind [] a b how other d = d
differ_behind (x ∷ front) a b how other d = λ rest others ok fine e. differ_behind front a b how other d rest others ok fine (tail_same x ((front ++ a) ++ rest) ((front ++ b) ++ others) e)

-- one has ended, and the other has not
pub ended_early : (bytes : List ℕ) → 0 < length bytes → Differ bytes in_part [] to_end
ended_early [] some = absurd (omega (arith, some))
ended_early (b ∷ bytes) some = λ rest others ok fine e. let no : b ∷ (bytes ++ rest) ≡ [] = e ∙ fine in cc

pub more_there : (bytes : List ℕ) → 0 < length bytes → Differ [] to_end bytes in_part
more_there [] some = absurd (omega (arith, some))
more_there (b ∷ bytes) some = λ rest others ok fine e. let no : [] ≡ b ∷ (bytes ++ others) = sym ok ∙ e in cc

-- they have other bytes at the same place
pub other_bytes : (bytes piece : List ℕ) → length piece ≤ length bytes → take (length piece) bytes ≢ piece → Differ bytes in_part piece in_part
other_bytes bytes piece le other = λ rest others ok fine e.
    other (sym (take-append-le (length piece) bytes rest le) ∙ ap (take (length piece)) e ∙ take_at piece others (length piece) refl)

-- ---- whether a reader has ended

module _ {R : Type 0} (r : Reader R) (old new : R) where
  pub ends_by : (buffer : List ℕ) (n : ℕ) → n ≤ length buffer → r.remaining old ≡ prepend_known (take n buffer) (r.remaining new) → (n ≡ 0 → IsAtEnd (r.remaining new)) → r.gets old (Some (take n buffer)) new → r.has_failed new ≡ r.has_failed old
      → Ends r old new (nat_eq n 0)
  ends_by buffer n le left over call unread = by_size (eqb_tells n 0)
    where
      by_size : ((nat_eq n 0 ≡ true) × (n ≡ 0)) ⊎ ((nat_eq n 0 ≡ false) × (n ≢ 0)) → Ends r old new (nat_eq n 0)
      by_size (inl e) =
          subst (Ends r old new) (sym e.0)
          (ended_so r [] old new (over e.1) (subst (λ (m : ℕ). r.remaining old ≡ prepend_known (take m buffer) (r.remaining new)) e.1 left) (subst (λ (m : ℕ). r.gets old (Some (take m buffer)) new) e.1 call) unread)
      by_size (inr e) =
          let size = length-take-le n buffer le in
          let not_none = e.1 in
          let some : 0 < length (take n buffer) = omega (arith, size, not_none) in
          subst (Ends r old new) (sym e.0)
          (record { given = take n buffer; how = in_part; reads = called_so r [] old old new [] (take n buffer) (no_calls refl refl) ([], refl) call some left unread; other = inr (more_there (take n buffer) some) })

  pub failed_by : r.remaining new ≡ r.remaining old → r.gets old None new → r.has_failed new ≡ true → GaveMore r old new
  failed_by same call failed = record { given = []; how = with_failure; reads = failed_so r [] old new same call failed; other = inl refl }

-- ---- whether it gives some bytes

module _ {R : Type 0} (r : Reader R) (old mid new : R) (front : List ℕ) (gave : GaveAll r old mid front) (wanted rest : List ℕ) (whole : wanted ≡ front ++ rest) where
  pub gave_wanted : length rest ≡ 0 → new ≡ mid → GaveAll r old new wanted
  gave_wanted none same = subst (λ (x : R). GaveAll r old x wanted) (sym same) (subst (GaveAll r old mid) (sym (whole ∙ ap (λ (bs : List ℕ). front ++ bs) (empty_of rest none) ∙ append-nil front)) gave)
    where
      empty_of : (bs : List ℕ) → length bs ≡ 0 → bs ≡ []
      empty_of [] e = refl
      empty_of (b ∷ bs) e = absurd (omega (arith, e))

  pub failed_wanted : r.remaining new ≡ r.remaining mid → r.gets mid None new → r.has_failed new ≡ true → GaveElse r old new wanted
  failed_wanted same call failed = record { given = front ++ []; how = with_failure; reads = read_behind r wanted rest old mid new front [] with_failure whole gave (failed_so r rest mid new same call failed); other = inl refl }

  differs : (given : List ℕ) (how : How) → Differ rest in_part given how → Differ wanted in_part (front ++ given) how
  differs given how d = subst (λ (bs : List ℕ). Differ bs in_part (front ++ given) how) (sym whole) (differ_behind front rest given in_part how d)

  pub ended_wanted : 0 < length rest → IsAtEnd (r.remaining new) → r.remaining mid ≡ prepend_known [] (r.remaining new) → r.gets mid (Some []) new → r.has_failed new ≡ r.has_failed mid → GaveElse r old new wanted
  ended_wanted some over left call unread = record {
    given = front ++ [];
    how = to_end;
    reads = read_behind r wanted rest old mid new front [] to_end whole gave (ended_so r rest mid new over left call unread);
    other = inr (differs [] to_end (ended_early rest some));
  }

  pub ended_wanted_by : 0 < length rest → (buffer : List ℕ) (n : ℕ) → n ≡ 0 → r.remaining mid ≡ prepend_known (take n buffer) (r.remaining new) → (n ≡ 0 → IsAtEnd (r.remaining new)) → r.gets mid (Some (take n buffer)) new → r.has_failed new ≡ r.has_failed mid → GaveElse r old new wanted
  ended_wanted_by some buffer n is left over call unread =
      ended_wanted some (over is) (subst (λ (m : ℕ). r.remaining mid ≡ prepend_known (take m buffer) (r.remaining new)) is left) (subst (λ (m : ℕ). r.gets mid (Some (take m buffer)) new) is call) unread

  module _ (piece : List ℕ) (some : 0 < length piece) (left : r.remaining mid ≡ prepend_known piece (r.remaining new)) (call : r.gets mid (Some piece) new) (unread : r.has_failed new ≡ r.has_failed mid) where
    pub gave_more : GaveAll r old new (front ++ piece)
    gave_more = gave_both r old mid new front piece gave (one_gave r mid new piece call some left unread)

    pub others_wanted : length piece ≤ length rest → take (length piece) rest ≢ piece → GaveElse r old new wanted
    others_wanted le other = record {
      given = front ++ piece;
      how = in_part;
      reads = called_so r wanted old mid new front piece gave.calls (rest, whole) call some gave_more.left gave_more.unread;
      other = inr (differs piece in_part (other_bytes rest piece le other));
    }

-- ---- two readers that gave the same so far

module _ {A B : Type 0} (a : Reader A) (b : Reader B) (old mid new : A) (before there after : B) (front : List ℕ) (first : GaveAll a old mid front) (second : GaveAll b before there front) where
  -- the first has ended
  pub first_ended : IsAtEnd (a.remaining new) × (a.remaining new ≡ a.remaining mid) → a.gets mid (Some []) new → a.has_failed new ≡ a.has_failed mid → (t : Bool) → Ends b there after t → Compares a b old new before after t
  first_ended over call unread t ends = by_end t ends
    where
      ended : (given : List ℕ) → ReadsInput a (InFront (front ++ given)) old (front ++ []) to_end new
      ended given = read_behind a (front ++ given) given old mid new front [] to_end refl first (ended_so a given mid new over.0 (sym over.1 ∙ read_nothing (a.remaining new)) call unread)

      answer : (given : List ℕ) (how : How) → (how ≡ with_failure) ⊎ Differ [] to_end given how → GaveOther (front ++ []) to_end (front ++ given) how
      answer given how (inl is) = second_failed is
      answer given how (inr d) = differ (differ_behind front [] given to_end how d)

      by_end : (t : Bool) → Ends b there after t → Compares a b old new before after t
      by_end true e = record {
        first = front ++ [];
        first_how = to_end;
        second = front ++ [];
        second_how = to_end;
        reads_first = ended [];
        reads_second = read_behind b (front ++ []) [] before there after front [] to_end refl second e;
        answer_is = record { first_end = refl; second_end = refl; same = refl };
      }
      by_end false m = record {
        first = front ++ [];
        first_how = to_end;
        second = front ++ m.given;
        second_how = m.how;
        reads_first = ended m.given;
        reads_second = read_behind b (front ++ []) [] before there after front m.given m.how refl second m.reads;
        answer_is = answer m.given m.how m.other;
      }

  -- it failed
  pub first_failed_by : a.remaining new ≡ a.remaining mid → a.gets mid None new → a.has_failed new ≡ true → Compares a b old new before there false
  first_failed_by same call failed = record {
    first = front ++ [];
    first_how = with_failure;
    second = front;
    second_how = in_part;
    reads_first = read_behind a front [] old mid new front [] with_failure (sym (append-nil front)) first (failed_so a [] mid new same call failed);
    reads_second = read_so b (front ++ []) before there front ([], refl) second;
    answer_is = first_failed refl;
  }

  -- it gave a piece, and the second others
  pub second_others : (piece : List ℕ) → a.gets mid (Some piece) new → 0 < length piece → a.remaining mid ≡ prepend_known piece (a.remaining new) → a.has_failed new ≡ a.has_failed mid
      → GaveElse b there after piece → Compares a b old new before after false
  second_others piece call some left unread e = record {
    first = front ++ piece;
    first_how = in_part;
    second = front ++ e.given;
    second_how = e.how;
    reads_first = called_so a (front ++ e.given) old mid new front piece first.calls (e.given, refl) call some (read_twice _ _ _ front piece first.left left) (unread ∙ first.unread);
    reads_second = read_behind b (front ++ piece) piece before there after front e.given e.how refl second e.reads;
    answer_is = answer e.given e.how e.other;
  }
    where
      answer : (given : List ℕ) (how : How) → (how ≡ with_failure) ⊎ Differ piece in_part given how → GaveOther (front ++ piece) in_part (front ++ given) how
      answer given how (inl is) = second_failed is
      answer given how (inr d) = differ (differ_behind front piece given in_part how d)

  -- both are too long
  pub both_long : INPUT_LIMIT < length front → Compares a b old mid before there false
  both_long long = record {
    first = front;
    first_how = in_part;
    second = front;
    second_how = in_part;
    reads_first = read_so a front old mid front ([], sym (append-nil front)) first;
    reads_second = read_so b front before there front ([], sym (append-nil front)) second;
    answer_is = too_long long long;
  }
