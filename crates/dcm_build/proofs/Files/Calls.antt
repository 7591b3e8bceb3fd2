-- A call of a builder, part by part.
use Rattle.std.proofs.Common.{◌≡◌, ◌∙◌, sym, ap, subst, refl, ℕ, List, [], ◌++◌, Bool, true, false, Option, Some, None, Result, Ok, Err, IsErrAnd}
use Rattle.std.specs.Prelude.{is_some, ◌||◌}
use Rattle.std.specs.Result.{result_err}
use Rattle.std.specs.Io.KnownBytes.{append_known}
use Rattle.dcm_lemmas.proofs.Options.{known_nothing}
use Rattle.dcm_base.specs.Steps.Steps.{Goes}
use Rattle.dcm_base.proofs.Writes.Runs.{goes_on, goes_failed}
use Rattle.dcm_stream.specs.Machine.{well, TellsFailed}
use Rattle.dcm_build.specs.Halts.{BuildHalt}
use Rattle.dcm_base.specs.declared.stopped.Stopped.TheVariants.{Refused, Output}
use Rattle.dcm_build.specs.declared.line_reader.LineReader.{LineReader}
use Rattle.dcm_build.specs.Builder.{line_at, building, TellsHalt, Feeds, Progress, stop_of, is_output, is_halted}
use Rattle.dcm_build.specs.Building.{BuildState, build_step, build_writes}
use Rattle.dcm_build.proofs.Lines.Pieces.{told_stays, told_silent}

pub none_of : (halt : Option BuildHalt) → is_some halt ≡ false → halt ≡ None
none_of None e = refl
none_of (Some halt) e = absurd (cc)

abbrev pub View : LineReader → Option BuildHalt → Progress → Type 0
View reader halt p = ◌≡◌ {A = Progress} (record { state = building reader (stop_of halt); failed = is_output halt }) p

pub view_at : (reader : LineReader) (halt : Option BuildHalt) (p : Progress) → View reader halt p → halt ≡ None → building reader None ≡ p.state
view_at reader halt p view e = ap (λ (h : Option BuildHalt). building reader (stop_of h)) (sym e) ∙ ap (λ (q : Progress). q.state) view

-- ---- a piece, part by part

-- bytes that went well, and those after them
pub fed_on : (old : BuildState) (held : Option (List ℕ)) (mid : LineReader) (mid_held : Option (List ℕ)) (new : LineReader) (holds : Option (List ℕ)) (xs ys : List ℕ) (n : ℕ)
    → Feeds {T = Unit {0}} old held (building mid) mid_held xs (Ok tt) → Feeds {T = ℕ} (building mid None) mid_held (building new) holds ys (Ok n) → Feeds {T = Unit {0}} old held (building new) holds (xs ++ ys) (Ok tt)
fed_on old held mid mid_held new holds xs ys n a b = goes_on build_step build_writes {T = Unit {0}} {E = Unit {0}} old held (building mid None) mid_held (building new None) holds xs ys (Ok tt) a.0 a.1 b

-- bytes that went well, and those at which it is halted
halting : (T : Type 0) (old : BuildState) (held : Option (List ℕ)) (mid : LineReader) (mid_held : Option (List ℕ)) (new : LineReader) (holds : Option (List ℕ)) (xs ys : List ℕ) (halt : BuildHalt)
    → Feeds {T = Unit {0}} old held (building mid) mid_held xs (Ok tt) → Feeds {T = ℕ} (building mid None) mid_held (building new) holds ys (Err halt) → Feeds {T = T} old held (building new) holds (xs ++ ys) (Err halt)
halting T old held mid mid_held new holds xs ys (Refused stop) a b = goes_on build_step build_writes {T = Unit {0}} {E = Unit {0}} old held (building mid None) mid_held (building new (Some stop)) holds xs ys (Ok tt) a.0 a.1 b
halting T old held mid mid_held new holds xs ys Output a b = goes_on build_step build_writes {T = Unit {0}} {E = Unit {0}} old held (building mid None) mid_held (building new None) holds xs ys (Err tt) a.0 a.1 b

pub fed_halted : {T : Type 0} (old : BuildState) (held : Option (List ℕ)) (mid : LineReader) (mid_held : Option (List ℕ)) (new : LineReader) (holds : Option (List ℕ)) (xs ys : List ℕ) (halt : BuildHalt) (r : Result T BuildHalt)
    → Feeds {T = Unit {0}} old held (building mid) mid_held xs (Ok tt) → Feeds {T = ℕ} (building mid None) mid_held (building new) holds ys (Err halt) → IsErrAnd r (λ x. x ≡ halt) → Feeds old held (building new) holds (xs ++ ys) r
fed_halted old held mid mid_held new holds xs ys halt (Ok x) a b is = absurd is
fed_halted {T} old held mid mid_held new holds xs ys halt (Err x) a b is =
    subst (λ (y : BuildHalt). Feeds {T = T} old held (building new) holds (xs ++ ys) (Err y)) (sym is) (halting T old held mid mid_held new holds xs ys halt a b)

telling : (T : Type 0) (old mid new : Bool) (halt : BuildHalt) → mid ≡ old → TellsHalt {T = ℕ} mid new (Err halt) → TellsHalt {T = T} old new (Err halt)
telling T old mid new (Refused stop) e h = h ∙ e
telling T old mid new Output e h = h

pub tells_halted : {T : Type 0} (old mid new : Bool) (halt : BuildHalt) (r : Result T BuildHalt) → mid ≡ old → TellsHalt {T = ℕ} mid new (Err halt) → IsErrAnd r (λ x. x ≡ halt) → TellsHalt old new r
tells_halted old mid new halt (Ok x) e h is = absurd is
tells_halted {T} old mid new halt (Err x) e h is = subst (λ (y : BuildHalt). TellsHalt {T = T} old new (Err y)) (sym is) (telling T old mid new halt e h)

-- ---- whether the output failed

tells_not : (x failed halts : Bool) → (failed || halts) ≡ false → TellsFailed x x failed
tells_not x true halts e = absurd (cc)
tells_not x false halts e = refl

-- a call that does nothing
pub tells_begin : (x : Bool) (reader : LineReader) (halt : Option BuildHalt) (p : Progress) → View reader halt p → is_halted p ≡ false → TellsFailed x x (is_output halt)
tells_begin x reader halt p view e = tells_not x (is_output halt) (is_some (stop_of halt)) (ap is_halted view ∙ e)

tells_answer : (old new : Bool) (r : Result (Unit {0}) BuildHalt) → TellsHalt old new r → TellsFailed old new (is_output (result_err r))
tells_answer old new (Ok x) h = h
tells_answer old new (Err (Refused stop)) h = h
tells_answer old new (Err Output) h = h

-- a call that reads
pub tells_by : (old new : Bool) (halt : Option BuildHalt) (r : Result (Unit {0}) BuildHalt) → halt ≡ result_err r → TellsHalt old new r → TellsFailed old new (is_output halt)
tells_by old new halt r e h = subst (λ (o : Option BuildHalt). TellsFailed old new (is_output o)) (sym e) (tells_answer old new r h)

-- ---- bytes

abbrev pub Gone : BuildState → Option (List ℕ) → BuildState → Option (List ℕ) → List ℕ → (failed : Bool) → Type 0
Gone old held new holds bs failed = Goes build_step build_writes old held new holds bs (well failed)

nowhere : (s : BuildState) (held : Option (List ℕ)) (failed : Bool) → failed ≡ false → Gone s held s held [] failed
nowhere s held true e = cc
nowhere s held false e = (refl, sym (known_nothing held))

-- no byte
pub gone_nowhere : (reader : LineReader) (halt : Option BuildHalt) (p : Progress) (held : Option (List ℕ)) → View reader halt p → p.failed ≡ false → Gone p.state held (building reader (stop_of halt)) held [] (is_output halt)
gone_nowhere reader halt p held e fine = subst (λ (q : Progress). Gone q.state held (building reader (stop_of halt)) held [] (is_output halt)) e (nowhere (building reader (stop_of halt)) held (is_output halt) (ap (λ (q : Progress). q.failed) e ∙ fine))

-- behind a halt nothing more happens
gone_behind : (old : BuildState) (held : Option (List ℕ)) (new : LineReader) (holds : Option (List ℕ)) (xs ys : List ℕ) (halt : BuildHalt) → Gone old held (building new (stop_of (Some halt))) holds xs (is_output (Some halt))
    → Gone old held (building new (stop_of (Some halt))) holds (xs ++ ys) (is_output (Some halt))
gone_behind old held new holds xs ys (Refused stop) a =
    let s = building new (Some stop) in
    goes_on build_step build_writes {T = Unit {0}} {E = Unit {0}} old held s holds s holds xs ys (Ok tt) a.0 a.1
    (sym (told_stays new.file (line_at new) stop ys), sym (known_nothing holds) ∙ ap (append_known holds) (sym (told_silent new.file (line_at new) stop ys)))
gone_behind old held new holds xs ys Output a = goes_failed build_step build_writes {T = Unit {0}} {E = Unit {0}} old held (building new None) holds xs ys (Err tt) refl a

pub gone_still : (old : BuildState) (held : Option (List ℕ)) (new : LineReader) (holds : Option (List ℕ)) (xs ys : List ℕ) (halt : Option BuildHalt) → is_some halt ≡ true → Gone old held (building new (stop_of halt)) holds xs (is_output halt)
    → Gone old held (building new (stop_of halt)) holds (xs ++ ys) (is_output halt)
gone_still old held new holds xs ys None e a = absurd (cc)
gone_still old held new holds xs ys (Some halt) e a = gone_behind old held new holds xs ys halt a

gone_answer : (s : BuildState) (held : Option (List ℕ)) (new : LineReader) (holds : Option (List ℕ)) (bs : List ℕ) (r : Result (Unit {0}) BuildHalt) → Feeds s held (building new) holds bs r
    → Gone s held (building new (stop_of (result_err r))) holds bs (is_output (result_err r))
gone_answer s held new holds bs (Ok x) h = h
gone_answer s held new holds bs (Err (Refused stop)) h = h
gone_answer s held new holds bs (Err Output) h = h

-- bytes that are read where nothing has halted it
pub gone_by : (p : Progress) (held : Option (List ℕ)) (reader new : LineReader) (holds : Option (List ℕ)) (bs : List ℕ) (before halt : Option BuildHalt) (r : Result (Unit {0}) BuildHalt) → View reader before p → before ≡ None → halt ≡ result_err r
    → Feeds (building reader None) held (building new) holds bs r → Gone p.state held (building new (stop_of halt)) holds bs (is_output halt)
gone_by p held reader new holds bs before halt r view none e h =
    subst (λ (o : Option BuildHalt). Gone p.state held (building new (stop_of o)) holds bs (is_output o)) (sym e)
    (gone_answer p.state held new holds bs r (subst (λ (s : BuildState). Feeds s held (building new) holds bs r) (view_at reader before p view none) h))
