-- The lines of a file that is built, byte by byte.
use Rattle.std.proofs.Common.{◌≡◌, ◌∙◌, ap, sym, refl, subst, ℕ, zero, suc, ◌+◌, ◌≤◌, ◌<◌, ◌==◌, List, [], ◌∷◌, ◌++◌, length, length-append, take, append_assoc, cond, Option, Some, None, Bool, true, false, inl, inr, arith}
use Rattle.std.specs.Prelude.{fold, nat_le, nat_lt, Result, Ok, Err}
use Rattle.std.specs.List.{slice_split, onto_first}
use Rattle.std.specs.Str.{byte}
use Rattle.std.proofs.lemmas.Bool.{cases_Bool, cases_lt, lt-ltb, le-ltb, le-leb, leb-true, ltb-true, ltb-false}
use Rattle.std.proofs.lemmas.List.{append-nil}
use Rattle.dcm_base.specs.declared.fault.LineFault.TheVariants.{LineTooLong, TooLong}
use Rattle.dcm_base.specs.Lines.Build as build
use Rattle.dcm_base.specs.Lines.Build.{first_fault, Built, Refused, refused, Progress, Lines, lines, more_lines, last_apart, lines_of, with_line, line_built, moved, tell, built_bytes, with_rest, at_input_end, at_the_cut, with_meaning, without_return}
use Rattle.dcm_base.specs.declared.fault.LineStop.{LineStop}
use Rattle.dcm_base.specs.Lines.Line.{means}
use Rattle.dcm_base.specs.Reading.Reads.{INPUT_LIMIT}
use Rattle.dcm_build.proofs.Files.OpenContainers.{standing_in}
use Rattle.dcm_base.specs.Steps.Steps.{outputs}
use Rattle.dcm_build.specs.Building as steps
use Rattle.dcm_build.specs.Building.{BuildState, build_start, build_step, build_writes, line_taken, line_writes, next_line, line_byte, meaning_taken, meaning_writes}
use Rattle.dcm_build.proofs.Lines.Forms.{means_form}
use Rattle.dcm_build.proofs.Files.Steps.{Stands, IsSent, Follows, meaning_follows, stands_bytes}

-- ---- the lines of bytes, from a line on that has begun

abbrev pub lines_from : List ℕ → List ℕ → Lines
lines_from line [] = lines [] line
lines_from line (b ∷ bytes) = cond (b == byte "\n") (more_lines line (lines_from [] bytes)) (lines_from (line ++ b ∷ []) bytes)

abbrev parts : List ℕ → List (List ℕ)
parts bytes = slice_split (λ c. c == byte "\n") bytes

-- a beginning in front of the first part
abbrev begun : List ℕ → List (List ℕ) → List (List ℕ)
begun line [] = line ∷ []
begun line (first ∷ more) = (line ++ first) ∷ more

begun_more : (line : List ℕ) (b : ℕ) (ps : List (List ℕ)) → begun line (onto_first b ps) ≡ begun (line ++ b ∷ []) ps
begun_more line b [] = refl
begun_more line b (first ∷ more) = ap (λ (z : List ℕ). z ∷ more) (sym (append_assoc line (b ∷ []) first))

-- there is a part
abbrev IsSomePart : List (List ℕ) → Type 0
IsSomePart [] = ⊥
IsSomePart (first ∷ more) = Unit {0}

onto_some : (b : ℕ) (ps : List (List ℕ)) → IsSomePart (onto_first b ps)
onto_some b [] = tt
onto_some b (first ∷ more) = tt

some_part : (bytes : List ℕ) → IsSomePart (parts bytes)
some_part [] = tt
some_part (b ∷ bytes) = by_test (b == byte "\n")
  where
    by_test : (t : Bool) → IsSomePart (cond t ([] ∷ parts bytes) (onto_first b (parts bytes)))
    by_test true = tt
    by_test false = onto_some b (parts bytes)

line_apart : (line : List ℕ) (ps : List (List ℕ)) → IsSomePart ps → more_lines line (last_apart (begun [] ps)) ≡ last_apart (begun line ([] ∷ ps))
line_apart line [] h = absurd h
line_apart line (first ∷ more) h = ap (λ (z : List ℕ). more_lines z (last_apart (first ∷ more))) (sym (append-nil line))

split_by : (t : Bool) (line : List ℕ) (b : ℕ) (bytes : List ℕ) → lines_from [] bytes ≡ last_apart (begun [] (parts bytes)) → lines_from (line ++ b ∷ []) bytes ≡ last_apart (begun (line ++ b ∷ []) (parts bytes))
    → cond t (more_lines line (lines_from [] bytes)) (lines_from (line ++ b ∷ []) bytes) ≡ last_apart (begun line (cond t ([] ∷ parts bytes) (onto_first b (parts bytes))))
split_by true line b bytes e f = ap (λ (z : Lines). more_lines line z) e ∙ line_apart line (parts bytes) (some_part bytes)
split_by false line b bytes e f = f ∙ ap last_apart (sym (begun_more line b (parts bytes)))

split_from : (line bytes : List ℕ) → lines_from line bytes ≡ last_apart (begun line (parts bytes))
split_from line [] = ap (λ (z : List ℕ). lines [] z) (sym (append-nil line))
split_from line (b ∷ bytes) = split_by (b == byte "\n") line b bytes (split_from [] bytes) (split_from (line ++ b ∷ []) bytes)

begun_none : (ps : List (List ℕ)) → IsSomePart ps → begun [] ps ≡ ps
begun_none [] h = absurd h
begun_none (first ∷ more) h = refl

pub lines_are : (bytes : List ℕ) → lines_of bytes ≡ lines_from [] bytes
lines_are bytes = ap last_apart (sym (begun_none (parts bytes) (some_part bytes))) ∙ sym (split_from [] bytes)

-- ---- what lines build, with the end of the input

abbrev pub run_lines : (limit : ℕ) → Progress → List (List ℕ) → Progress
run_lines limit p ended = fold (with_line limit) p ended

abbrev ends_at : (limit size : ℕ) (cut : Bool) → Progress → Lines → Progress
ends_at limit size cut p l = elim cut [ true ↦ at_the_cut limit l.rest (run_lines limit p l.ended) | false ↦ at_input_end size (with_rest limit l.rest (run_lines limit p l.ended)) ]

-- whether there are more bytes than there is room for
abbrev pub overlong : ℕ → List ℕ → Bool
overlong n [] = false
overlong zero (b ∷ bytes) = true
overlong (suc n) (b ∷ bytes) = overlong n bytes

abbrev pub result : (limit size room : ℕ) → Progress → List ℕ → List ℕ → Progress
result limit size room p line bytes = ends_at limit size (overlong room bytes) p (lines_from line (take room bytes))

overlong_is : (n : ℕ) (bytes : List ℕ) → nat_lt n (length bytes) ≡ overlong n bytes
overlong_is n [] = le-ltb n 0 (omega arith)
overlong_is zero (b ∷ bytes) = lt-ltb 0 (suc (length bytes)) (omega arith)
overlong_is (suc n) (b ∷ bytes) = same_tests n (length bytes) ∙ overlong_is n bytes
  where
    same_tests : (n m : ℕ) → nat_lt (suc n) (suc m) ≡ nat_lt n m
    same_tests n m = elim (cases_lt n m) [
      | inl l ↦ lt-ltb (suc n) (suc m) (omega arith) ∙ sym (lt-ltb n m l)
      | inr g ↦ le-ltb (suc n) (suc m) (omega arith) ∙ sym (le-ltb n m g)
    ]

take_within : (n : ℕ) (bytes : List ℕ) → overlong n bytes ≡ false → take n bytes ≡ bytes
take_within zero [] h = refl
take_within (suc n) [] h = refl
take_within zero (b ∷ bytes) h = absurd (let no : true ≡ false = h in cc)
take_within (suc n) (b ∷ bytes) h = ap (λ (z : List ℕ). b ∷ z) (take_within n bytes h)

whole_or_cut : (t : Bool) (n limit : ℕ) (bytes : List ℕ) → overlong n bytes ≡ t
    → elim t [ true ↦ build.built_cut limit (lines_of (take n bytes)) | false ↦ build.built_whole limit (length bytes) (lines_of bytes) ] ≡ ends_at limit (length bytes) t build.at_start (lines_from [] (take n bytes))
whole_or_cut true n limit bytes e = ap (λ (l : Lines). build.built_cut limit l) (lines_are (take n bytes))
whole_or_cut false n limit bytes e = ap (λ (l : Lines). build.built_whole limit (length bytes) l) (lines_are bytes ∙ ap (λ z. lines_from [] z) (sym (take_within n bytes e)))

built_by_room : (n limit : ℕ) (bytes : List ℕ)
    → elim (nat_lt n (length bytes)) [ true ↦ build.built_cut limit (lines_of (take n bytes)) | false ↦ build.built_whole limit (length bytes) (lines_of bytes) ] ≡ result limit (length bytes) n build.at_start [] bytes
built_by_room n limit bytes =
    ap (λ (t : Bool). elim t [ true ↦ build.built_cut limit (lines_of (take n bytes)) | false ↦ build.built_whole limit (length bytes) (lines_of bytes) ]) (overlong_is n bytes)
    ∙ whole_or_cut (overlong n bytes) n limit bytes refl

pub built_is : (limit : ℕ) (bytes : List ℕ) → build.built limit bytes ≡ result limit (length bytes) INPUT_LIMIT build.at_start [] bytes
unfolding build.built
built_is limit bytes = built_by_room INPUT_LIMIT limit bytes

-- ---- a fault stays

abbrev IsTold : Progress → LineStop → Type 0
IsTold p t = p.told ≡ Some t

line_stays : (limit : ℕ) (p : Progress) (line : List ℕ) (t : LineStop) → IsTold p t → with_line limit p line ≡ p
line_stays limit p line t e = ap (λ (o : Option LineStop). elim o as (λ x. Progress) [ Some t ↦ p | None ↦ moved (length line) p (line_built limit line p.built) ]) e

lines_stay : (limit : ℕ) (ls : List (List ℕ)) (p : Progress) (t : LineStop) → IsTold p t → run_lines limit p ls ≡ p
lines_stay limit [] p t e = refl
lines_stay limit (line ∷ more) p t e = ap (λ (q : Progress). run_lines limit q more) (line_stays limit p line t e) ∙ lines_stay limit more p t e

rest_stays : (limit : ℕ) (rest : List ℕ) (p : Progress) (t : LineStop) → IsTold p t → with_rest limit rest p ≡ p
rest_stays limit [] p t e = refl
rest_stays limit (c ∷ cs) p t e = line_stays limit p (c ∷ cs) t e

pub end_stays : (size : ℕ) (p : Progress) (t : LineStop) → IsTold p t → at_input_end size p ≡ p
end_stays size p t e =
    ap (λ (o : Option LineStop). elim o as (λ x. Progress) [
      | Some t ↦ p
      | None ↦ elim (first_fault (build.end_checks p.built)) [
        | Some fault ↦ tell fault size p.line (record p { built = build.meta_has_ended p.built })
        | None ↦ record p { built = build.meta_has_ended p.built }
      ]
    ]) e

cut_stays : (limit : ℕ) (rest : List ℕ) (p : Progress) (t : LineStop) → IsTold p t → at_the_cut limit rest p ≡ p
cut_stays limit rest p t e = ap (λ (o : Option LineStop). elim o as (λ x. Progress) [ Some t ↦ p | None ↦ cond (nat_lt limit (length rest)) (tell LineTooLong p.offset p.line p) (tell TooLong INPUT_LIMIT 0 p) ]) e

by_cut : (limit size : ℕ) (cut : Bool) (p : Progress) (l : Lines) (q : Progress) (t : LineStop) → run_lines limit p l.ended ≡ q → IsTold q t → ends_at limit size cut p l ≡ q
by_cut limit size true p l q t e h = ap (λ (x : Progress). at_the_cut limit l.rest x) e ∙ cut_stays limit l.rest q t h
by_cut limit size false p l q t e h = ap (λ (x : Progress). at_input_end size (with_rest limit l.rest x)) e ∙ ap (at_input_end size) (rest_stays limit l.rest q t h) ∙ end_stays size q t h

pub all_stays : (limit size : ℕ) (cut : Bool) (p : Progress) (l : Lines) (t : LineStop) → IsTold p t → ends_at limit size cut p l ≡ p
all_stays limit size cut p l t e = by_cut limit size cut p l p t (lines_stay limit l.ended p t e) e

-- ---- a line that is too long

abbrev too_long : Progress → Progress
too_long p = tell LineTooLong p.offset p.line p

abbrev too_long_told : Progress → LineStop
too_long_told p = record { fault = LineTooLong; offset = p.offset; line = p.line }

long_line : (limit : ℕ) (p : Progress) (line : List ℕ) → p.told ≡ None → limit < length line → with_line limit p line ≡ too_long p
long_line limit p line e l =
    ap (λ (o : Option LineStop). elim o as (λ x. Progress) [ Some t ↦ p | None ↦ moved (length line) p (line_built limit line p.built) ]) e
    ∙ ap (λ (b : Bool). moved (length line) p (elim b as (λ x. Result Built Refused) [ true ↦ refused LineTooLong p.built | false ↦ with_meaning (means (without_return line)) p.built ])) (lt-ltb limit (length line) l)

long_rest : (limit : ℕ) (p : Progress) (line : List ℕ) → p.told ≡ None → limit < length line → with_rest limit line p ≡ too_long p
long_rest limit p [] e l = absurd (omega (arith, l))
long_rest limit p (c ∷ cs) e l = long_line limit p (c ∷ cs) e l

long_cut : (limit : ℕ) (p : Progress) (line : List ℕ) → p.told ≡ None → limit < length line → at_the_cut limit line p ≡ too_long p
long_cut limit p line e l =
    ap (λ (o : Option LineStop). elim o as (λ x. Progress) [ Some t ↦ p | None ↦ cond (nat_lt limit (length line)) (tell LineTooLong p.offset p.line p) (tell TooLong INPUT_LIMIT 0 p) ]) e
    ∙ ap (λ (b : Bool). cond b (tell LineTooLong p.offset p.line p) (tell TooLong INPUT_LIMIT 0 p)) (lt-ltb limit (length line) l)

long_alone : (limit size : ℕ) (cut : Bool) (p : Progress) (line : List ℕ) → p.told ≡ None → limit < length line → ends_at limit size cut p (lines [] line) ≡ too_long p
long_alone limit size true p line e l = long_cut limit p line e l
long_alone limit size false p line e l = ap (at_input_end size) (long_rest limit p line e l) ∙ end_stays size (too_long p) (too_long_told p) refl

long_by : (t : Bool) (limit size : ℕ) (cut : Bool) (p : Progress) (line : List ℕ) (l m : Lines) → p.told ≡ None → limit < length line → ends_at limit size cut p m ≡ too_long p → ends_at limit size cut p (cond t (more_lines line l) m) ≡ too_long p
long_by false limit size cut p line l m e h i = i
long_by true limit size cut p line l m e h i =
    by_cut limit size cut p (more_lines line l) (too_long p) (too_long_told p) (ap (λ (q : Progress). run_lines limit q l.ended) (long_line limit p line e h) ∙ lines_stay limit l.ended (too_long p) (too_long_told p) refl) refl

pub long_ends : (limit size : ℕ) (cut : Bool) (p : Progress) (line bytes : List ℕ) → p.told ≡ None → limit < length line → ends_at limit size cut p (lines_from line bytes) ≡ too_long p
long_ends limit size cut p line [] e l = long_alone limit size cut p line e l
long_ends limit size cut p line (b ∷ bytes) e l =
    long_by (b == byte "\n") limit size cut p line (lines_from [] bytes) (lines_from (line ++ b ∷ []) bytes) e l (long_ends limit size cut p (line ++ b ∷ []) bytes e (longer line b l))
  where
    longer : (line : List ℕ) (b : ℕ) → limit < length line → limit < length (line ++ b ∷ [])
    longer line b l = let n : length (line ++ b ∷ []) ≡ length line + 1 = length-append line (b ∷ []) in omega (arith, n, l)

-- ---- one line

pub record Going (limit : ℕ) (p : Progress) (s : BuildState) (line out : List ℕ) : Type 0 where
  pub stands : Stands p.built s out
  pub limit_is : s.limit ≡ limit
  pub line_is : s.line ≡ line
  pub offset_is : s.offset ≡ p.offset
  pub number_is : s.number ≡ p.line
  pub told_is : s.told ≡ None
  pub fresh : p.told ≡ None
  pub short : length line ≤ limit

-- a line goes on to the next, or is at fault
pub data LineEnds (limit : ℕ) (p : Progress) (s : BuildState) (out : List ℕ) (place : ℕ) : Type 0 where
  goes : Going limit p s [] out → p.offset ≡ place → LineEnds limit p s out place
  stops : (t : LineStop) → s.told ≡ Some t → p.told ≡ Some t → out ≡ built_bytes p.built → LineEnds limit p s out place

-- the meta group and the data set do not change with the place
moved_on : (b : Built) (s : BuildState) (out line : List ℕ) (offset number : ℕ) → Stands b s out → Stands b (record s { line = line; offset = offset; number = number }) out
moved_on b s out line offset number h = record { meta = h.meta; ended = h.ended; standing = h.standing; sent = sent_on b.meta_ended h.sent }
  where
    sent_on : (t : Bool) → IsSent t b.set s out → IsSent t b.set (record s { line = line; offset = offset; number = number }) out
    sent_on false w = w
    sent_on true w = record { atoms = w.atoms; grown = w.grown; leads = w.leads; encoding = w.encoding; written = w.written }

abbrev on_next : ℕ → BuildState → BuildState
on_next size t = record t { line = []; offset = (t.offset + size) + 1; number = suc t.number }

next_none : (size : ℕ) (t : BuildState) → t.told ≡ None → next_line size t ≡ on_next size t
next_none size t e = ap (λ (o : Option LineStop). elim o as (λ x. BuildState) [ Some u ↦ t | None ↦ on_next size t ]) e

next_told : (size : ℕ) (t : BuildState) (u : LineStop) → t.told ≡ Some u → next_line size t ≡ t
next_told size t u e = ap (λ (o : Option LineStop). elim o as (λ x. BuildState) [ Some v ↦ t | None ↦ on_next size t ]) e

line_follows : (limit : ℕ) (r : Result Built Refused) (p : Progress) (s t : BuildState) (line before out : List ℕ) (size : ℕ) → Going limit p s line before → Follows r s t out
    → LineEnds limit (moved size p r) (next_line size t) out ((p.offset + size) + 1)
line_follows limit (Ok b) p s t line before out size g f =
    let h = f.0 in
    let c = f.1 in
    let none : t.told ≡ None = c.told ∙ g.told_is in
    subst (λ (x : BuildState). LineEnds limit (moved size p (Ok b)) x out ((p.offset + size) + 1)) (sym (next_none size t none))
    (goes (record {
      stands = moved_on b t out [] ((t.offset + size) + 1) (suc t.number) h;
      limit_is = c.limit ∙ g.limit_is;
      line_is = refl;
      offset_is = ap (λ k. (k + size) + 1) (c.offset ∙ g.offset_is);
      number_is = ap suc (c.number ∙ g.number_is);
      told_is = none;
      fresh = g.fresh;
      short = omega arith;
    }) refl)
line_follows limit (Err r) p s t line before out size g f =
    let u : LineStop = record { fault = r.fault; offset = p.offset; line = p.line } in
    let is : t.told ≡ Some u = f.0 ∙ ap (λ (k : ℕ). Some (record { fault = r.fault; offset = k; line = s.number })) g.offset_is ∙ ap (λ (k : ℕ). Some (record { fault = r.fault; offset = p.offset; line = k })) g.number_is in
    subst (λ (x : BuildState). LineEnds limit (moved size p (Err r)) x out ((p.offset + size) + 1)) (sym (next_told size t u is)) (stops u is refl f.1)

pub line_means : (limit : ℕ) (p : Progress) (line : List ℕ) → p.told ≡ None → length line ≤ limit → with_line limit p line ≡ moved (length line) p (with_meaning (means (without_return line)) p.built)
line_means limit p line e l =
    ap (λ (o : Option LineStop). elim o as (λ x. Progress) [ Some t ↦ p | None ↦ moved (length line) p (line_built limit line p.built) ]) e
    ∙ ap (λ (b : Bool). moved (length line) p (elim b as (λ x. Result Built Refused) [ true ↦ refused LineTooLong p.built | false ↦ with_meaning (means (without_return line)) p.built ])) (le-ltb limit (length line) l)

own_line_ends : (limit : ℕ) (p : Progress) (s : BuildState) (out : List ℕ) → Going limit p s s.line out → LineEnds limit (with_line limit p s.line) (line_taken s) (out ++ line_writes s) ((p.offset + length s.line) + 1)
own_line_ends limit p s out g =
    subst (λ (q : Progress). LineEnds limit q (line_taken s) (out ++ line_writes s) ((p.offset + length s.line) + 1)) (sym (line_means limit p s.line g.fresh g.short))
    (line_follows limit (with_meaning (means (without_return s.line)) p.built) p s (meaning_taken (means (without_return s.line)) s) s.line out (out ++ line_writes s) (length s.line) g
    (meaning_follows (means (without_return s.line)) p.built s out (means_form (without_return s.line)) g.stands))

pub line_ends : (limit : ℕ) (p : Progress) (s : BuildState) (line out : List ℕ) → Going limit p s line out → LineEnds limit (with_line limit p line) (line_taken s) (out ++ line_writes s) ((p.offset + length line) + 1)
line_ends limit p s line out g =
    subst (λ (x : List ℕ). LineEnds limit (with_line limit p x) (line_taken s) (out ++ line_writes s) ((p.offset + length x) + 1)) g.line_is
    (own_line_ends limit p s out (subst (λ (x : List ℕ). Going limit p s x out) (sym g.line_is) g))

-- ---- one byte

-- for so many bytes there is room behind those that were read
abbrev HasRoom : ℕ → Progress → List ℕ → Type 0
HasRoom room p line = room + (p.offset + length line) ≡ INPUT_LIMIT

-- whatever follows, this is told of it, and this was built
abbrev Settled : (limit room : ℕ) → Progress → List ℕ → List ℕ → LineStop → List ℕ → Type 0
Settled limit room p line bytes t out = (later : List ℕ) (size : ℕ) → ((result limit size room p line (bytes ++ later)).told ≡ Some t) × (out ≡ built_bytes (result limit size room p line (bytes ++ later)).built)

-- the state goes on behind these bytes, or a fault was told
pub data Ran (limit room : ℕ) (p : Progress) (line bytes : List ℕ) (s : BuildState) (out : List ℕ) : Type 0 where
  runs : (q : Progress) (left : ℕ) (rest : List ℕ) → Going limit q s rest out → HasRoom left q rest → q.offset + length rest ≡ (p.offset + length line) + length bytes
      → ((later : List ℕ) (size : ℕ) → result limit size room p line (bytes ++ later) ≡ result limit size left q rest later)
      → ((later : List ℕ) → (run_lines limit p (lines_from line (bytes ++ later)).ended ≡ run_lines limit q (lines_from rest later).ended) × ((lines_from line (bytes ++ later)).rest ≡ (lines_from rest later).rest))
      → Ran limit room p line bytes s out
  told_of : (t : LineStop) → s.told ≡ Some t → Settled limit room p line bytes t out → Ran limit room p line bytes s out

cut_at : (n k : ℕ) → zero + k ≡ n → nat_le n k ≡ true
cut_at n k e = le-leb n k (omega (arith, e))

not_cut : (n k m : ℕ) → suc m + k ≡ n → nat_le n k ≡ false
not_cut n k m e = elim (cases_Bool (nat_le n k)) [
  | inl t ↦ let l : n ≤ k = leb-true n k t in absurd (omega (arith, e, l))
  | inr f ↦ f
]

is_cut_as : (t : Bool) (p : Progress) (s : BuildState) (line out : List ℕ) (limit : ℕ) → Going limit p s line out → nat_le INPUT_LIMIT (p.offset + length line) ≡ t → steps.is_cut s ≡ t
is_cut_as t p s line out limit g e = ap (λ k. nat_le INPUT_LIMIT (k + length s.line)) g.offset_is ∙ ap (λ (x : List ℕ). nat_le INPUT_LIMIT (p.offset + length x)) g.line_is ∙ e

-- one byte more, where no fault was told
abbrev stepped : Bool → Bool → Bool → BuildState → ℕ → BuildState
stepped cut ends short s b = cond cut (steps.cut_short s) (cond ends (line_taken s) (cond short (record s { line = s.line ++ b ∷ [] }) (steps.tells LineTooLong s)))

abbrev stepped_writes : Bool → Bool → BuildState → List ℕ
stepped_writes cut ends s = cond cut [] (cond ends (line_writes s) [])

fresh_step : (s : BuildState) (b : ℕ) → s.told ≡ None → build_step s b ≡ stepped (steps.is_cut s) (b == byte "\n") (nat_lt (length s.line) s.limit) s b
fresh_step s b e = ap (λ (o : Option LineStop). elim o as (λ x. BuildState) [ Some t ↦ s | None ↦ steps.going_step s b ]) e

fresh_writes : (s : BuildState) (b : ℕ) → s.told ≡ None → build_writes s b ≡ stepped_writes (steps.is_cut s) (b == byte "\n") s
fresh_writes s b e = ap (λ (o : Option LineStop). elim o as (λ x. List ℕ) [ Some t ↦ [] | None ↦ steps.going_writes s b ]) e

-- past the limit of an input
cut_result : (limit : ℕ) (p : Progress) (line : List ℕ) → p.told ≡ None → length line ≤ limit → at_the_cut limit line p ≡ tell TooLong INPUT_LIMIT 0 p
cut_result limit p line e l =
    ap (λ (o : Option LineStop). elim o as (λ x. Progress) [ Some t ↦ p | None ↦ cond (nat_lt limit (length line)) (tell LineTooLong p.offset p.line p) (tell TooLong INPUT_LIMIT 0 p) ]) e
    ∙ ap (λ (b : Bool). cond b (tell LineTooLong p.offset p.line p) (tell TooLong INPUT_LIMIT 0 p)) (le-ltb limit (length line) l)

own_bytes : (limit : ℕ) (p : Progress) (s : BuildState) (line out : List ℕ) → Going limit p s line out → out ++ [] ≡ built_bytes p.built
own_bytes limit p s line out g = append-nil out ∙ stands_bytes p.built s out g.stands

cut_ran : (limit : ℕ) (p : Progress) (s : BuildState) (line out : List ℕ) (b : ℕ) (ends short : Bool) → Going limit p s line out → Ran limit zero p line (b ∷ []) (stepped true ends short s b) (out ++ [])
cut_ran limit p s line out b ends short g =
    told_of (record { fault = TooLong; offset = INPUT_LIMIT; line = 0 }) refl
    (λ later size.
    let is : result limit size zero p line (b ∷ later) ≡ tell TooLong INPUT_LIMIT 0 p = cut_result limit p line g.fresh g.short in
    (ap (λ (x : Progress). x.told) is, own_bytes limit p s line out g ∙ ap (λ (x : Progress). built_bytes x.built) (sym is)))

room_behind : (n o l q i : ℕ) → suc n + (o + l) ≡ i → q ≡ (o + l) + 1 → n + (q + 0) ≡ i
room_behind n o l q i e f = omega (arith, e, f)

count_behind : (o l q : ℕ) → q ≡ (o + l) + 1 → q + 0 ≡ (o + l) + 1
count_behind o l q e = omega (arith, e)

-- a line more or a line that goes on, as the byte says
abbrev lines_by : Bool → List ℕ → ℕ → List ℕ → Lines
lines_by t line b bytes = cond t (more_lines line (lines_from [] bytes)) (lines_from (line ++ b ∷ []) bytes)

line_ran : (limit n : ℕ) (p : Progress) (s : BuildState) (line out : List ℕ) (b : ℕ) (short : Bool) → (b == byte "\n") ≡ true → HasRoom (suc n) p line
    → LineEnds limit (with_line limit p line) (line_taken s) (out ++ line_writes s) ((p.offset + length line) + 1) → Ran limit (suc n) p line (b ∷ []) (stepped false true short s b) (out ++ line_writes s)
line_ran limit n p s line out b short e room (goes g at) =
    runs (with_line limit p line) n [] g (room_behind n p.offset (length line) (with_line limit p line).offset INPUT_LIMIT room at) (count_behind p.offset (length line) (with_line limit p line).offset at)
    (λ later size. ap (λ t. ends_at limit size (overlong n later) p (lines_by t line b (take n later))) e)
    (λ later. (ap (λ t. run_lines limit p (lines_by t line b later).ended) e, ap (λ t. (lines_by t line b later).rest) e))
line_ran limit n p s line out b short e room (stops t st pt o) =
    told_of t st
    (λ later size.
    let is : result limit size (suc n) p line (b ∷ later) ≡ with_line limit p line =
    ap (λ x. ends_at limit size (overlong n later) p (lines_by x line b (take n later))) e ∙ all_stays limit size (overlong n later) (with_line limit p line) (lines_from [] (take n later)) t pt in
    (ap (λ (x : Progress). x.told) is ∙ pt, o ∙ ap (λ (x : Progress). built_bytes x.built) (sym is)))

one_longer : (line : List ℕ) (b : ℕ) → length (line ++ b ∷ []) ≡ length line + 1
one_longer line b = length-append line (b ∷ [])

room_within : (n o l m i : ℕ) → suc n + (o + l) ≡ i → m ≡ l + 1 → n + (o + m) ≡ i
room_within n o l m i e f = omega (arith, e, f)

count_within : (o l m : ℕ) → m ≡ l + 1 → o + m ≡ (o + l) + 1
count_within o l m e = omega (arith, e)

within_ran : (limit n : ℕ) (p : Progress) (s : BuildState) (line out : List ℕ) (b : ℕ) → (b == byte "\n") ≡ false → HasRoom (suc n) p line → Going limit p s line out → length line < limit
    → Ran limit (suc n) p line (b ∷ []) (stepped false false true s b) (out ++ [])
within_ran limit n p s line out b e room g l =
    let longer : length (line ++ b ∷ []) ≡ length line + 1 = one_longer line b in
    runs p n (line ++ b ∷ [])
    (record {
      stands = subst (Stands p.built (record s { line = s.line ++ b ∷ [] })) (sym (append-nil out)) (moved_on p.built s out (s.line ++ b ∷ []) s.offset s.number g.stands);
      limit_is = g.limit_is;
      line_is = ap (λ (x : List ℕ). x ++ b ∷ []) g.line_is;
      offset_is = g.offset_is;
      number_is = g.number_is;
      told_is = g.told_is;
      fresh = g.fresh;
      short = omega (arith, longer, l);
    })
    (room_within n p.offset (length line) (length (line ++ b ∷ [])) INPUT_LIMIT room longer)
    (count_within p.offset (length line) (length (line ++ b ∷ [])) longer)
    (λ later size. ap (λ t. ends_at limit size (overlong n later) p (lines_by t line b (take n later))) e)
    (λ later. (ap (λ t. run_lines limit p (lines_by t line b later).ended) e, ap (λ t. (lines_by t line b later).rest) e))

long_ran : (limit n : ℕ) (p : Progress) (s : BuildState) (line out : List ℕ) (b : ℕ) → (b == byte "\n") ≡ false → Going limit p s line out → limit ≤ length line → Ran limit (suc n) p line (b ∷ []) (stepped false false false s b) (out ++ [])
long_ran limit n p s line out b e g l =
    let longer : length (line ++ b ∷ []) ≡ length line + 1 = one_longer line b in
    told_of (too_long_told p)
    (ap (λ (k : ℕ). Some (record { fault = LineTooLong; offset = k; line = s.number })) g.offset_is ∙ ap (λ (k : ℕ). Some (record { fault = LineTooLong; offset = p.offset; line = k })) g.number_is)
    (λ later size.
    let is : result limit size (suc n) p line (b ∷ later) ≡ too_long p =
    ap (λ t. ends_at limit size (overlong n later) p (lines_by t line b (take n later))) e ∙ long_ends limit size (overlong n later) p (line ++ b ∷ []) (take n later) g.fresh (omega (arith, longer, l)) in
    (ap (λ (x : Progress). x.told) is, own_bytes limit p s line out g ∙ ap (λ (x : Progress). built_bytes x.built) (sym is)))

byte_ran : (limit n : ℕ) (p : Progress) (s : BuildState) (line out : List ℕ) (b : ℕ) (ends short : Bool) → (b == byte "\n") ≡ ends → nat_lt (length line) limit ≡ short → HasRoom (suc n) p line → Going limit p s line out
    → Ran limit (suc n) p line (b ∷ []) (stepped false ends short s b) (out ++ stepped_writes false ends s)
byte_ran limit n p s line out b true short e l room g = line_ran limit n p s line out b short e room (line_ends limit p s line out g)
byte_ran limit n p s line out b false true e l room g = within_ran limit n p s line out b e room g (ltb-true (length line) limit l)
byte_ran limit n p s line out b false false e l room g = long_ran limit n p s line out b e g (ltb-false (length line) limit l)

-- the tests of the state are those of what it stands for
stepped_as : (cut cut' ends short short' : Bool) (s : BuildState) (b : ℕ) → cut ≡ cut' → short ≡ short' → stepped cut ends short s b ≡ stepped cut' ends short' s b
stepped_as cut cut' ends short short' s b e f = ap (λ x. stepped x ends short s b) e ∙ ap (λ x. stepped cut' ends x s b) f

one_ran : (room limit : ℕ) (p : Progress) (s : BuildState) (line out : List ℕ) (b : ℕ) → HasRoom room p line → Going limit p s line out → Ran limit room p line (b ∷ []) (build_step s b) (out ++ build_writes s b)
one_ran zero limit p s line out b room g =
    let cut : steps.is_cut s ≡ true = is_cut_as true p s line out limit g (cut_at INPUT_LIMIT (p.offset + length line) room) in
    subst (λ (x : BuildState). Ran limit zero p line (b ∷ []) x (out ++ build_writes s b)) (sym (fresh_step s b g.told_is ∙ stepped_as (steps.is_cut s) true (b == byte "\n") (nat_lt (length s.line) s.limit) (nat_lt (length s.line) s.limit) s b cut refl))
    (subst (λ (z : List ℕ). Ran limit zero p line (b ∷ []) (stepped true (b == byte "\n") (nat_lt (length s.line) s.limit) s b) (out ++ z)) (sym (fresh_writes s b g.told_is ∙ ap (λ x. stepped_writes x (b == byte "\n") s) cut))
    (cut_ran limit p s line out b (b == byte "\n") (nat_lt (length s.line) s.limit) g))
one_ran (suc n) limit p s line out b room g =
    let cut : steps.is_cut s ≡ false = is_cut_as false p s line out limit g (not_cut INPUT_LIMIT (p.offset + length line) n room) in
    let short : nat_lt (length s.line) s.limit ≡ nat_lt (length line) limit = ap (λ (x : List ℕ). nat_lt (length x) s.limit) g.line_is ∙ ap (λ k. nat_lt (length line) k) g.limit_is in
    subst (λ (x : BuildState). Ran limit (suc n) p line (b ∷ []) x (out ++ build_writes s b)) (sym (fresh_step s b g.told_is ∙ stepped_as (steps.is_cut s) false (b == byte "\n") (nat_lt (length s.line) s.limit) (nat_lt (length line) limit) s b cut short))
    (subst (λ (z : List ℕ). Ran limit (suc n) p line (b ∷ []) (stepped false (b == byte "\n") (nat_lt (length line) limit) s b) (out ++ z)) (sym (fresh_writes s b g.told_is ∙ ap (λ x. stepped_writes x (b == byte "\n") s) cut))
    (byte_ran limit n p s line out b (b == byte "\n") (nat_lt (length line) limit) refl refl room g))

-- ---- all bytes

told_step : (s : BuildState) (b : ℕ) (t : LineStop) → s.told ≡ Some t → build_step s b ≡ s
told_step s b t e = ap (λ (o : Option LineStop). elim o as (λ x. BuildState) [ Some u ↦ s | None ↦ steps.going_step s b ]) e

told_writes : (s : BuildState) (b : ℕ) (t : LineStop) → s.told ≡ Some t → build_writes s b ≡ []
told_writes s b t e = ap (λ (o : Option LineStop). elim o as (λ x. List ℕ) [ Some u ↦ [] | None ↦ steps.going_writes s b ]) e

told_steps : (bytes : List ℕ) (s : BuildState) (t : LineStop) → s.told ≡ Some t → fold build_step s bytes ≡ s
told_steps [] s t e = refl
told_steps (b ∷ bytes) s t e = ap (λ (x : BuildState). fold build_step x bytes) (told_step s b t e) ∙ told_steps bytes s t e

told_outputs : (bytes : List ℕ) (s : BuildState) (t : LineStop) → s.told ≡ Some t → outputs build_step build_writes s bytes ≡ []
told_outputs [] s t e = refl
told_outputs (b ∷ bytes) s t e =
    ap (λ z. z ++ outputs build_step build_writes (build_step s b) bytes) (told_writes s b t e)
    ∙ ap (λ (x : BuildState). outputs build_step build_writes x bytes) (told_step s b t e)
    ∙ told_outputs bytes s t e

count_more : (o l q r n : ℕ) (m k : ℕ) → q + r ≡ (o + l) + 1 → m ≡ (q + r) + n → k ≡ suc n → m ≡ (o + l) + k
count_more o l q r n m k e f g = omega (arith, e, f, g)

-- behind a first byte
ran_then : (room limit : ℕ) (p : Progress) (line bytes : List ℕ) (b : ℕ) (q : Progress) (left : ℕ) (rest : List ℕ) (t : BuildState) (out : List ℕ) → q.offset + length rest ≡ (p.offset + length line) + 1
    → ((later : List ℕ) (size : ℕ) → result limit size room p line (b ∷ later) ≡ result limit size left q rest later)
    → ((later : List ℕ) → (run_lines limit p (lines_from line (b ∷ later)).ended ≡ run_lines limit q (lines_from rest later).ended) × ((lines_from line (b ∷ later)).rest ≡ (lines_from rest later).rest))
    → Ran limit left q rest bytes t out → Ran limit room p line (b ∷ bytes) t out
ran_then room limit p line bytes b q left rest t out count same ended (runs r left2 rest2 g h c same2 ended2) =
    runs r left2 rest2 g h (count_more p.offset (length line) q.offset (length rest) (length bytes) (r.offset + length rest2) (length (b ∷ bytes)) count c refl)
    (λ later size. same (bytes ++ later) size ∙ same2 later size)
    (λ later. ((ended (bytes ++ later)).0 ∙ (ended2 later).0, (ended (bytes ++ later)).1 ∙ (ended2 later).1))
ran_then room limit p line bytes b q left rest t out count same ended (told_of u e f) =
    told_of u e
    (λ later size.
    let s = same (bytes ++ later) size in
    (ap (λ (x : Progress). x.told) s ∙ (f later size).0, (f later size).1 ∙ ap (λ (x : Progress). built_bytes x.built) (sym s)))

ran_more : (room limit : ℕ) (p : Progress) (line bytes : List ℕ) (b : ℕ) (s : BuildState) (out : List ℕ) → Ran limit room p line (b ∷ []) s out
    → ((q : Progress) (left : ℕ) (rest : List ℕ) → HasRoom left q rest → Going limit q s rest out → Ran limit left q rest bytes (fold build_step s bytes) (out ++ outputs build_step build_writes s bytes))
    → Ran limit room p line (b ∷ bytes) (fold build_step s bytes) (out ++ outputs build_step build_writes s bytes)
ran_more room limit p line bytes b s out (runs q left rest g h c same ended) more =
    ran_then room limit p line bytes b q left rest (fold build_step s bytes) (out ++ outputs build_step build_writes s bytes) c same ended (more q left rest h g)
ran_more room limit p line bytes b s out (told_of t e f) more =
    subst (λ (x : BuildState). Ran limit room p line (b ∷ bytes) x (out ++ outputs build_step build_writes s bytes)) (sym (told_steps bytes s t e))
    (subst (λ (z : List ℕ). Ran limit room p line (b ∷ bytes) s z) (sym (ap (λ z. out ++ z) (told_outputs bytes s t e) ∙ append-nil out))
    (told_of t e (λ later size. f (bytes ++ later) size)))

count_none : (o l : ℕ) → o + l ≡ (o + l) + 0
count_none o l = omega arith

pub ran : (bytes : List ℕ) (room limit : ℕ) (p : Progress) (s : BuildState) (line out : List ℕ) → HasRoom room p line → Going limit p s line out
    → Ran limit room p line bytes (fold build_step s bytes) (out ++ outputs build_step build_writes s bytes)
ran [] room limit p s line out h g = runs p room line (subst (Going limit p s line) (sym (append-nil out)) g) h (count_none p.offset (length line)) (λ later size. refl) (λ later. (refl, refl))
ran (b ∷ bytes) room limit p s line out h g =
    subst (λ (z : List ℕ). Ran limit room p line (b ∷ bytes) (fold build_step (build_step s b) bytes) z) (append_assoc out (build_writes s b) (outputs build_step build_writes (build_step s b) bytes))
    (ran_more room limit p line bytes b (build_step s b) (out ++ build_writes s b) (one_ran room limit p s line out b h g)
    (λ q left rest k w. ran bytes left limit q (build_step s b) rest (out ++ build_writes s b) k w))

-- before any byte
start_stands : (limit : ℕ) → Stands build.nothing_built (build_start limit) []
unfolding standing_in
start_stands limit = record { meta = refl; ended = refl; standing = refl; sent = (refl, refl) }

start_goes : (limit : ℕ) → Going limit build.at_start (build_start limit) [] []
start_goes limit = record { stands = start_stands limit; limit_is = refl; line_is = refl; offset_is = refl; number_is = refl; told_is = refl; fresh = refl; short = omega arith }

start_room : HasRoom INPUT_LIMIT build.at_start []
start_room = omega arith

pub all_ran : (limit : ℕ) (bytes : List ℕ) → Ran limit INPUT_LIMIT build.at_start [] bytes (fold build_step (build_start limit) bytes) (outputs build_step build_writes (build_start limit) bytes)
all_ran limit bytes = ran bytes INPUT_LIMIT limit build.at_start (build_start limit) [] [] start_room (start_goes limit)
