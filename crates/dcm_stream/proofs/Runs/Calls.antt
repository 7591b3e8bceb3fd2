-- A call of a machine, part by part.
use Rattle.std.proofs.Common.{◌≡◌, ◌∙◌, ◌+◌, sym, ap, subst, refl, ℕ, List, [], ◌++◌, length, Bool, true, false, Option, Some, None, Result, Ok, Err}
use Rattle.std.specs.Prelude.{◌==◌, is_some, ◌||◌, IsErrAnd, fold}
use Rattle.std.proofs.lemmas.Bool.{eqb-true}
use Rattle.std.proofs.lemmas.List.{nil_from_length}
use Rattle.std.specs.Result.{result_err}
use Rattle.dcm_lemmas.proofs.Options.{known_nothing}
use Rattle.dcm_base.specs.declared.fault.Fault.{Fault}
use Rattle.dcm_base.specs.declared.fault.Stop.{Stop as Refusal}
use Rattle.dcm_base.specs.Steps.Atoms.{Atom}
use Rattle.dcm_base.specs.Steps.Steps.{Goes}
use Rattle.dcm_base.specs.Reading.Stop.{Stop, complete, refused}
use Rattle.dcm_head.specs.declared.head.Head.{Head}
use Rattle.dcm_stream.specs.declared.token.Bar.{Bar}
use Rattle.dcm_stream.specs.declared.cursor.Cursor.{Cursor}
use Rattle.dcm_stream.specs.Halts.{Halt}
use Rattle.dcm_base.specs.declared.stopped.Stopped.TheVariants.{Refused, Output}
use Rattle.dcm_stream.specs.Reading.{Reading, finish, end_shows}
use Rattle.dcm_stream.specs.Machine.{Stands, next_offset, steps, steps_write, reading, went, TellsHalt, Feeds, EndsWith, Progress, stop_of, is_output, well, ended}
use Rattle.dcm_stream.proofs.Runs.StaysSmall.{feeds_halted, offset_behind, stands_behind}

pub none_of : (halt : Option Halt) → is_some halt ≡ false → halt ≡ None
none_of None e = refl
none_of (Some halt) e = absurd (cc)

pub no_some : (halt : Option Halt) → halt ≡ None → is_some halt ≡ true → ⊥
no_some None e f = cc
no_some (Some halt) e f = cc

pub some_of : (halt : Option Halt) → is_some halt ≡ true → (h : Halt) × (halt ≡ Some h)
some_of None e = absurd (cc)
some_of (Some halt) e = (halt, refl)

-- one that is not halted has no halt
pub going_none : (halt : Option Halt) → (is_output halt || is_some (stop_of halt)) ≡ false → halt ≡ None
going_none None e = refl
going_none (Some (Refused stop)) e = absurd (cc)
going_none (Some Output) e = absurd (cc)

module _ {S : Type 0} (bars : S → Head → Option Bar) (step : S → Atom → S) (writes : S → Atom → List ℕ) where
  abbrev pub Gone : Reading → S → Option (List ℕ) → Reading → S → Option (List ℕ) → List ℕ → (failed : Bool) → Type 0
  Gone old s held new t holds bs failed = Goes (steps bars step) (steps_write bars step writes) (old, s) held (new, t) holds bs (well failed)

  nowhere : (r : Reading) (s : S) (held : Option (List ℕ)) (failed : Bool) → failed ≡ false → Gone r s held r s held [] failed
  nowhere r s held true e = cc
  nowhere r s held false e = (refl, sym (known_nothing held))

  -- no byte
  pub gone_nowhere : (r : Reading) (failed : Bool) (p : Progress) (s : S) (held : Option (List ℕ)) → ◌≡◌ {A = Progress} (record { reading = r; failed = failed }) p → p.failed ≡ false → Gone p.reading s held r s held [] failed
  gone_nowhere r failed p s held e fine = subst (λ (q : Progress). Gone q.reading s held r s held [] failed) e (nowhere r s held failed (ap (λ (q : Progress). q.failed) e ∙ fine))

  -- behind a halt nothing more happens
  gone_behind : (old : Reading) (s : S) (held : Option (List ℕ)) (new : Cursor) (t : S) (holds : Option (List ℕ)) (xs ys : List ℕ) (halt : Halt) → Gone old s held (reading new (stop_of (Some halt))) t holds xs (is_output (Some halt))
      → Gone old s held (reading new (stop_of (Some halt))) t holds (xs ++ ys) (is_output (Some halt))
  gone_behind old s held new t holds xs ys (Refused stop) a = feeds_halted bars step writes (Unit {0}) old s held new t holds xs ys (Refused stop) a
  gone_behind old s held new t holds xs ys Output a = feeds_halted bars step writes (Unit {0}) old s held new t holds xs ys Output a

  pub gone_still : (old : Reading) (s : S) (held : Option (List ℕ)) (new : Cursor) (t : S) (holds : Option (List ℕ)) (xs ys : List ℕ) (halt : Option Halt) → is_some halt ≡ true → Gone old s held (reading new (stop_of halt)) t holds xs (is_output halt)
      → Gone old s held (reading new (stop_of halt)) t holds (xs ++ ys) (is_output halt)
  gone_still old s held new t holds xs ys None e a = absurd (cc)
  gone_still old s held new t holds xs ys (Some halt) e a = gone_behind old s held new t holds xs ys halt a

pub empty_by : (xs : List ℕ) → true ≡ (length xs == 0) → xs ≡ []
empty_by xs e = nil_from_length xs (eqb-true (length xs) 0 (sym e))

-- ---- the input's end

abbrev pub View : Cursor → Option Halt → Progress → Type 0
View cursor halt p = ◌≡◌ {A = Progress} (record { reading = reading cursor (stop_of halt); failed = is_output halt }) p

pub view_at : (cursor : Cursor) (before : Option Halt) (p : Progress) → View cursor before p → before ≡ None → reading cursor None ≡ p.reading
view_at cursor before p view e = ap (λ (h : Option Halt). reading cursor (stop_of h)) (sym e) ∙ ap (λ (q : Progress). q.reading) view

refusal : (stop : Refusal) (fault : Fault) (offset : ℕ) → stop.fault ≡ fault → stop.at ≡ offset → Some (refused stop.fault stop.at) ≡ Some (refused fault offset)
refusal stop fault offset e f = ap (λ (x : Fault). Some (refused x stop.at)) e ∙ ap (λ (n : ℕ). Some (refused fault n)) f

ended_by : (cursor : Cursor) (r : Reading) (end : Stop) (result : Result (Unit {0}) Halt) → reading cursor None ≡ r → EndsWith end result → reading cursor (stop_of (result_err result)) ≡ ended end r
ended_by cursor r complete (Ok x) e h = e
ended_by cursor r complete (Err (Refused stop)) e h = absurd h
ended_by cursor r complete (Err Output) e h = e
ended_by cursor r (refused fault offset) (Ok x) e h = absurd h
ended_by cursor r (refused fault offset) (Err (Refused stop)) e h = ap (λ (o : Option Stop). reading cursor o) (refusal stop fault offset h.0 h.1) ∙ ap (λ (x : Reading). record x { halt = Some (refused fault offset) }) e
ended_by cursor r (refused fault offset) (Err Output) e h = absurd h

-- what is read behind the end
pub ended_reading : (cursor : Cursor) (before after : Option Halt) (p : Progress) (result : Result (Unit {0}) Halt) → View cursor before p → before ≡ None → after ≡ result_err result → EndsWith (finish (reading cursor None)) result
    → reading cursor (stop_of after) ≡ ended (finish p.reading) p.reading
ended_reading cursor before after p result view e f h =
    let at = view_at cursor before p view e in
    ap (λ (o : Option Halt). reading cursor (stop_of o)) f ∙ ended_by cursor p.reading (finish p.reading) result at (subst (λ (r : Reading). EndsWith (finish r) result) at h)

still_at : (cursor : Cursor) (halt : Option Halt) → is_some halt ≡ true → is_output halt ≡ false → reading cursor (stop_of halt) ≡ ended (finish (reading cursor (stop_of halt))) (reading cursor (stop_of halt))
unfolding finish
still_at cursor None e f = absurd (cc)
still_at cursor (Some (Refused stop)) e f = refl
still_at cursor (Some Output) e f = absurd (cc)

pub still_reading : (cursor : Cursor) (halt : Option Halt) (p : Progress) → View cursor halt p → is_some halt ≡ true → p.failed ≡ false → reading cursor (stop_of halt) ≡ ended (finish p.reading) p.reading
still_reading cursor halt p view e f =
    let failed = ap (λ (q : Progress). q.failed) view ∙ f in
    still_at cursor halt e failed ∙ ap (λ (r : Reading). ended (finish r) r) (ap (λ (q : Progress). q.reading) view)

well_of : (result : Result (Unit {0}) Halt) → well (is_output (result_err result)) ≡ went result
well_of (Ok x) = refl
well_of (Err (Refused stop)) = refl
well_of (Err Output) = refl

module _ {S : Type 0} (step : S → Atom → S) (writes : S → Atom → List ℕ) where
  -- what is shown at the end
  pub ended_goes : (cursor : Cursor) (before after : Option Halt) (p : Progress) (result : Result (Unit {0}) Halt) (s : S) (held : Option (List ℕ)) (t : S) (holds : Option (List ℕ)) → View cursor before p → before ≡ None → after ≡ result_err result
      → Goes step writes s held t holds (end_shows (finish (reading cursor None))) (went result) → Goes step writes s held t holds (end_shows (finish p.reading)) (well (is_output after))
  ended_goes cursor before after p result s held t holds view e f h =
      subst (λ (r : Reading). Goes step writes s held t holds (end_shows (finish r)) (well (is_output after))) (view_at cursor before p view e)
      (subst (λ (x : Result (Unit {0}) (Unit {0})). Goes step writes s held t holds (end_shows (finish (reading cursor None))) x) (sym (ap (λ (o : Option Halt). well (is_output o)) f ∙ well_of result)) h)

  silent_at : (cursor : Cursor) (halt : Option Halt) (s : S) (held : Option (List ℕ)) → is_some halt ≡ true → is_output halt ≡ false → Goes step writes s held s held (end_shows (finish (reading cursor (stop_of halt)))) (well (is_output halt))
  unfolding finish
  silent_at cursor None s held e fine = absurd (cc)
  silent_at cursor (Some (Refused stop)) s held e fine = (refl, sym (known_nothing held))
  silent_at cursor (Some Output) s held e fine = absurd (cc)

  pub still_goes : (cursor : Cursor) (halt : Option Halt) (p : Progress) (s : S) (held : Option (List ℕ)) → View cursor halt p → is_some halt ≡ true → p.failed ≡ false → Goes step writes s held s held (end_shows (finish p.reading)) (well (is_output halt))
  still_goes cursor halt p s held view e fine = subst (λ (q : Progress). Goes step writes s held s held (end_shows (finish q.reading)) (well (is_output halt))) view (silent_at cursor halt s held e (ap (λ (q : Progress). q.failed) view ∙ fine))

-- ---- a call over a piece

-- what a failure tells is passed on
pub tells_with : (T : Type 0) (old mid new : Bool) (halt : Halt) (r : Result (Unit {0}) Halt) → IsErrAnd r (λ x. x ≡ halt) → mid ≡ old → TellsHalt {T = T} mid new (Err halt) → TellsHalt old new r
tells_with T old mid new halt (Ok x) f e h = absurd f
tells_with T old mid new (Refused stop) (Err x) f e h = subst (λ (y : Halt). TellsHalt {T = Unit {0}} old new (Err y)) (sym f) (h ∙ e)
tells_with T old mid new Output (Err x) f e h = subst (λ (y : Halt). TellsHalt {T = Unit {0}} old new (Err y)) (sym f) h

module _ {S : Type 0} (bars : S → Head → Option Bar) (step : S → Atom → S) (writes : S → Atom → List ℕ) where
  -- no byte
  pub fed_nothing : (p : Cursor) (s : S) (held : Option (List ℕ)) → Feeds {T = Unit {0}} bars step writes (reading p None) s held (reading p) s held [] (Ok (tt {0}))
  fed_nothing p s held = (refl, sym (known_nothing held))

  -- a failure is passed on
  pub fails_with : (T : Type 0) (old : Reading) (s : S) (held : Option (List ℕ)) (new : Cursor) (t : S) (holds : Option (List ℕ)) (bs : List ℕ) (halt : Halt) (r : Result (Unit {0}) Halt) → IsErrAnd r (λ x. x ≡ halt)
      → Feeds {T = T} bars step writes old s held (reading new) t holds bs (Err halt) → Feeds bars step writes old s held (reading new) t holds bs r
  fails_with T old s held new t holds bs halt (Ok x) f h = absurd f
  fails_with T old s held new t holds bs (Refused stop) (Err x) f h = subst (λ (y : Halt). Feeds {T = Unit {0}} bars step writes old s held (reading new) t holds bs (Err y)) (sym f) h
  fails_with T old s held new t holds bs Output (Err x) f h = subst (λ (y : Halt). Feeds {T = Unit {0}} bars step writes old s held (reading new) t holds bs (Err y)) (sym f) h

  -- a machine that reads a piece comes to what its cursor came to
  gone_by : (old : Reading) (s : S) (held : Option (List ℕ)) (new : Cursor) (t : S) (holds : Option (List ℕ)) (bs : List ℕ) (r : Result (Unit {0}) Halt) → Feeds bars step writes old s held (reading new) t holds bs r
      → Gone bars step writes old s held (reading new (stop_of (result_err r))) t holds bs (is_output (result_err r))
  gone_by old s held new t holds bs (Ok x) h = h
  gone_by old s held new t holds bs (Err (Refused stop)) h = h
  gone_by old s held new t holds bs (Err Output) h = h

  pub gone_fed : (cursor : Cursor) (before after : Option Halt) (p : Progress) (s : S) (held : Option (List ℕ)) (new : Cursor) (t : S) (holds : Option (List ℕ)) (bs : List ℕ) (r : Result (Unit {0}) Halt) → View cursor before p → before ≡ None → after ≡ result_err r
      → Feeds bars step writes (reading cursor None) s held (reading new) t holds bs r → Gone bars step writes p.reading s held (reading new (stop_of after)) t holds bs (is_output after)
  gone_fed cursor before after p s held new t holds bs r view none is h =
      subst (λ (x : Option Halt). Gone bars step writes p.reading s held (reading new (stop_of x)) t holds bs (is_output x)) (sym is)
      (subst (λ (x : Reading). Gone bars step writes x s held (reading new (stop_of (result_err r))) t holds bs (is_output (result_err r))) (view_at cursor before p view none) (gone_by (reading cursor None) s held new t holds bs r h))

  pub gone_already : (cursor : Cursor) (before : Option Halt) (p : Progress) (s : S) (held : Option (List ℕ)) (bs : List ℕ) → View cursor before p → p.failed ≡ false → is_some before ≡ true
      → Gone bars step writes p.reading s held (reading cursor (stop_of before)) s held bs (is_output before)
  gone_already cursor before p s held bs view fine some =
      gone_still bars step writes p.reading s held cursor s held [] bs before some (gone_nowhere bars step writes (reading cursor (stop_of before)) (is_output before) p s held view fine)

  went_well : (old : Reading) (s : S) (held : Option (List ℕ)) (new : Cursor) (t : S) (holds : Option (List ℕ)) (bs : List ℕ) (r : Result (Unit {0}) Halt) → result_err r ≡ None → Feeds bars step writes old s held (reading new) t holds bs r
      → (reading new None, t) ≡ fold (steps bars step) (old, s) bs
  went_well old s held new t holds bs (Ok x) e h = h.0
  went_well old s held new t holds bs (Err halt) e h = absurd (cc)

  pub fed_place : (cursor : Cursor) (before after : Option Halt) (p : Progress) (s : S) (held : Option (List ℕ)) (new : Cursor) (t : S) (holds : Option (List ℕ)) (bs : List ℕ) (r : Result (Unit {0}) Halt) → View cursor before p → before ≡ None → after ≡ result_err r → after ≡ None
      → Stands (reading cursor None) → Feeds bars step writes (reading cursor None) s held (reading new) t holds bs r → next_offset (reading new None) ≡ next_offset p.reading + length bs
  fed_place cursor before after p s held new t holds bs r view none is well stands h =
      let same : next_offset (reading cursor None) ≡ next_offset p.reading = ap next_offset (view_at cursor before p view none) in
      offset_behind bars step writes (reading cursor None) s bs (reading new None) t stands (went_well (reading cursor None) s held new t holds bs r (sym is ∙ well) h) refl ∙ ap (λ (n : ℕ). n + length bs) same

  pub fed_stands : (cursor : Cursor) (after : Option Halt) (s : S) (held : Option (List ℕ)) (new : Cursor) (t : S) (holds : Option (List ℕ)) (bs : List ℕ) (r : Result (Unit {0}) Halt) → after ≡ result_err r → after ≡ None
      → Stands (reading cursor None) → Feeds bars step writes (reading cursor None) s held (reading new) t holds bs r → Stands (reading new None)
  fed_stands cursor after s held new t holds bs r is well stands h =
      stands_behind bars step writes (reading cursor None) s bs (reading new None) t stands (went_well (reading cursor None) s held new t holds bs r (sym is ∙ well) h)
