-- A machine and its sink, over parts of an input.
use Rattle.std.proofs.Common.{◌≡◌, ◌∙◌, sym, ap, subst, refl, ℕ, zero, suc, ◌+◌, ◌-◌, ◌<◌, ◌≤◌, List, [], ◌∷◌, ◌++◌, length, map, append_assoc, Bool, true, false, cond, Option, Some, None, Result, Ok, Err, arith, length-append}
use Rattle.std.specs.Prelude.{fold, nat_lt, IsErrAnd}
use Rattle.std.specs.Io.KnownBytes.{append_known}
use Rattle.std.proofs.lemmas.Bool.{lt-ltb, le-ltb}
use Rattle.std.proofs.lemmas.List.{append-nil}
use Rattle.dcm_lemmas.proofs.Options.{known_nothing}
use Rattle.dcm_base.specs.declared.level.Level.{Level}
use Rattle.dcm_base.specs.declared.fault.Fault.TheVariants.{TooLong}
use Rattle.dcm_base.specs.Steps.Atoms.{Atom, value_byte, closes_leaf}
use Rattle.dcm_devices.specs.Device.{AppendsFront}
use Rattle.dcm_base.specs.Steps.Steps.{outputs}
use Rattle.dcm_base.specs.Reading.Place.{room, passes}
use Rattle.dcm_base.specs.Reading.Stop.{Stop, refused, innermost_stop, is_undecided}
use Rattle.dcm_base.specs.Reading.Reads.{INPUT_LIMIT}
use Rattle.dcm_base.proofs.Writes.Runs.{goes_on, goes_failed}
use Rattle.dcm_head.specs.declared.head.Head.{Head}
use Rattle.dcm_stream.specs.declared.token.Bar.{Bar}
use Rattle.dcm_stream.specs.declared.cursor.Cursor.{Cursor}
use Rattle.dcm_stream.specs.Halts.{Halt}
use Rattle.dcm_base.specs.declared.stopped.Stopped.TheVariants.{Refused, Output}
use Rattle.dcm_stream.specs.Reading.{Reading, halted, closing, settled, head_read, byte_read, read_byte, Opened, Sign, sign_reads, sign_ends, left_levels, left_sign, value_left}
use Rattle.dcm_stream.specs.Judging.{bars_head}
use Rattle.dcm_stream.specs.Machine.{steps, steps_write, went, halt_of, Comes, settles, settles_value, value_read, Feeds, held_sign}
use Rattle.dcm_stream.proofs.Heads.Stops.{place_waits}
use Rattle.dcm_stream.proofs.Containers.Signs.{reads_more}

-- ---- parts of what a sink takes

-- what is open, and how many bytes of a value are to come
abbrev pub opened : List Level → (left : ℕ) → Option Sign → List Atom → Opened
opened levels left sign atoms = record { levels = levels; left = left; sign = sign; atoms = atoms }

-- the atoms of what was opened come first
pub settled_atoms : (position m : ℕ) (levels : List Level) (sign : Option Sign) (xs ys : List Atom)
    → settled position (opened levels m sign (xs ++ ys)) m ≡ ((settled position (opened levels m sign ys) m).0, xs ++ (settled position (opened levels m sign ys) m).1)
settled_atoms position zero levels sign xs ys = ap (λ (zs : List Atom). ((settled position (opened levels 0 sign ys) 0).0, zs)) (append_assoc xs ys _)
settled_atoms position (suc m) levels sign xs ys = refl

-- what a place comes to where so many bytes of a value are to come
abbrev pub value_settles : Reading → Reading × List Atom
value_settles r = settled r.position (value_left r.left r.sign r.levels []) r.left

module _ {S : Type 0} (step : S → Atom → S) (writes : S → Atom → List ℕ) where
  -- atoms that were taken, and then others
  pub comes_on : {T : Type 0} (s : S) (held : Option (List ℕ)) (m : S) (mid : Option (List ℕ)) (t : S) (holds : Option (List ℕ)) (new : Option Stop → Reading) (q : Reading) (xs ys : List Atom) (r : Result T Halt)
      → m ≡ fold step s xs → mid ≡ append_known held (outputs step writes s xs) → Comes step writes m mid t holds new (q, ys) r → Comes step writes s held t holds new (q, xs ++ ys) r
  comes_on s held m mid t holds new q xs ys (Ok x) a b h =
      let g = goes_on step writes {T = Unit {0}} {E = Unit {0}} s held m mid t holds xs ys (Ok tt) a b (h.1, h.2) in
      (h.0, g.0, g.1)
  comes_on s held m mid t holds new q xs ys (Err (Refused stop)) a b h =
      let g = goes_on step writes {T = Unit {0}} {E = Unit {0}} s held m mid t holds xs ys (Ok tt) a b (h.1, h.2) in
      (h.0, g.0, g.1)
  comes_on s held m mid t holds new q xs ys (Err Output) a b h =
      goes_on step writes {T = Unit {0}} {E = Unit {0}} s held m mid t holds xs ys (Err tt) a b h

  -- the output failed before the others
  pub comes_failed : (T : Type 0) (s : S) (held : Option (List ℕ)) (t : S) (holds : Option (List ℕ)) (new : Option Stop → Reading) (q : Reading) (xs ys : List Atom)
      → AppendsFront held holds (outputs step writes s xs) → Comes {T = T} step writes s held t holds new (q, xs ++ ys) (Err Output)
  comes_failed T s held t holds new q xs ys h = goes_failed step writes {T = Unit {0}} {E = Unit {0}} s held t holds xs ys (Err tt) refl h

  -- a value of which no byte is left, and then the containers that are full
  pub comes_settled : {T : Type 0} (p q : Cursor) (s : S) (held : Option (List ℕ)) (m : S) (mid : Option (List ℕ)) (t : S) (holds : Option (List ℕ)) (new : Option Stop → Reading) (r : Result T Halt)
      → p.left ≡ 0 → q.position ≡ p.position → q.levels ≡ sign_ends (held_sign p) p.levels → held_sign q ≡ None
      → m ≡ fold step s (closes_leaf ∷ []) → mid ≡ append_known held (outputs step writes s (closes_leaf ∷ [])) → Comes step writes m mid t holds new (settles q) r → Comes step writes s held t holds new (settles_value p) r
  comes_settled p q s held m mid t holds new r left place ends none a b h =
      let z = settled p.position (opened (sign_ends (held_sign p) p.levels) 0 None []) 0 in
      let same : settles q ≡ z =
      ap (λ (n : ℕ). settled n (opened q.levels 0 (held_sign q) []) 0) place
      ∙ ap (λ (ls : List Level). settled p.position (opened ls 0 (held_sign q) []) 0) ends
      ∙ ap (λ (x : Option Sign). settled p.position (opened (sign_ends (held_sign p) p.levels) 0 x []) 0) none in
      let at : settles_value p ≡ (z.0, closes_leaf ∷ z.1) = ap (λ (n : ℕ). settled p.position (value_left n (held_sign p) p.levels []) n) left in
      subst (λ (x : Reading × List Atom). Comes step writes s held t holds new x r) (sym at)
      (comes_on s held m mid t holds new z.0 (closes_leaf ∷ []) z.1 r a b (subst (λ (x : Reading × List Atom). Comes step writes m mid t holds new x r) same h))

  -- atoms that were taken, and then what is after them
  pub comes_behind : {T : Type 0} (position left : ℕ) (levels : List Level) (sign : Option Sign) (s : S) (held : Option (List ℕ)) (m : S) (mid : Option (List ℕ)) (t : S) (holds : Option (List ℕ)) (new : Option Stop → Reading) (xs ys : List Atom) (r : Result T Halt)
      → m ≡ fold step s xs → mid ≡ append_known held (outputs step writes s xs) → Comes step writes m mid t holds new (settled position (opened levels left sign ys) left) r
      → Comes step writes s held t holds new (settled position (opened levels left sign (xs ++ ys)) left) r
  comes_behind position left levels sign s held m mid t holds new xs ys r a b h =
      let q = settled position (opened levels left sign ys) left in
      subst (λ (z : Reading × List Atom). Comes step writes s held t holds new z r) (sym (settled_atoms position left levels sign xs ys)) (comes_on s held m mid t holds new q.0 xs q.1 r a b h)

  -- an output that failed at atoms
  pub fails_behind : {T : Type 0} (position left : ℕ) (levels : List Level) (sign : Option Sign) (s : S) (held : Option (List ℕ)) (t : S) (holds : Option (List ℕ)) (new : Option Stop → Reading) (xs ys : List Atom) (r : Result T Halt)
      → IsErrAnd r (λ h. h ≡ Output) → AppendsFront held holds (outputs step writes s xs) → Comes step writes s held t holds new (settled position (opened levels left sign (xs ++ ys)) left) r
  fails_behind {T} position left levels sign s held t holds new xs ys (Ok x) e h = absurd e
  fails_behind {T} position left levels sign s held t holds new xs ys (Err halt) e h =
      let q = settled position (opened levels left sign ys) left in
      subst (λ (x : Halt). Comes {T = T} step writes s held t holds new (settled position (opened levels left sign (xs ++ ys)) left) (Err x)) (sym e)
      (subst (λ (z : Reading × List Atom). Comes {T = T} step writes s held t holds new z (Err Output)) (sym (settled_atoms position left levels sign xs ys)) (comes_failed T s held t holds new q.0 xs q.1 h))

-- ---- the machine with its sink

module _ {S : Type 0} (bars : S → Head → Option Bar) (step : S → Atom → S) (writes : S → Atom → List ℕ) where
  -- what is known of a byte's step
  pub feeds_byte : {T : Type 0} (old : Reading) (s : S) (held : Option (List ℕ)) (t : S) (holds : Option (List ℕ)) (new : Option Stop → Reading) (b : ℕ) (p : Reading × List Atom) (r : Result T Halt)
      → read_byte (bars_head bars s) old b ≡ p → Comes step writes s held t holds new p r → Feeds bars step writes old s held new t holds (b ∷ []) r
  feeds_byte old s held t holds new b p (Ok x) e h = (
    ap (λ (n : Reading). (n, t)) h.0 ∙ ap (λ (z : S). (p.0, z)) h.1 ∙ ap (λ (q : Reading × List Atom). (q.0, fold step s q.1)) (sym e),
    h.2 ∙ ap (λ (q : Reading × List Atom). append_known held (outputs step writes s q.1)) (sym e) ∙ ap (append_known held) (sym (append-nil (outputs step writes s (read_byte (bars_head bars s) old b).1))),
  )
  feeds_byte old s held t holds new b p (Err (Refused stop)) e h = (
    ap (λ (n : Reading). (n, t)) h.0 ∙ ap (λ (z : S). (p.0, z)) h.1 ∙ ap (λ (q : Reading × List Atom). (q.0, fold step s q.1)) (sym e),
    h.2 ∙ ap (λ (q : Reading × List Atom). append_known held (outputs step writes s q.1)) (sym e) ∙ ap (append_known held) (sym (append-nil (outputs step writes s (read_byte (bars_head bars s) old b).1))),
  )
  feeds_byte old s held t holds new b p (Err Output) e h =
      subst (AppendsFront held holds) (ap (λ (q : Reading × List Atom). outputs step writes s q.1) (sym e) ∙ sym (append-nil (outputs step writes s (read_byte (bars_head bars s) old b).1))) h

  -- the same of more bytes
  pub feeds_bytes : {T : Type 0} (old : Reading) (s : S) (held : Option (List ℕ)) (t : S) (holds : Option (List ℕ)) (new : Option Stop → Reading) (bs : List ℕ) (p : Reading × List Atom) (r : Result T Halt)
      → fold (steps bars step) (old, s) bs ≡ (p.0, fold step s p.1) → outputs (steps bars step) (steps_write bars step writes) (old, s) bs ≡ outputs step writes s p.1
      → Comes step writes s held t holds new p r → Feeds bars step writes old s held new t holds bs r
  feeds_bytes old s held t holds new bs p (Ok x) e f h = (ap (λ (n : Reading). (n, t)) h.0 ∙ ap (λ (z : S). (p.0, z)) h.1 ∙ sym e, h.2 ∙ ap (append_known held) (sym f))
  feeds_bytes old s held t holds new bs p (Err (Refused stop)) e f h = (ap (λ (n : Reading). (n, t)) h.0 ∙ ap (λ (z : S). (p.0, z)) h.1 ∙ sym e, h.2 ∙ ap (append_known held) (sym f))
  feeds_bytes old s held t holds new bs p (Err Output) e f h = subst (AppendsFront held holds) (sym f) h

  -- ---- bytes of a value

  -- so many bytes to come, with m behind the list
  left_over : List ℕ → ℕ → ℕ
  left_over [] m = m
  left_over (b ∷ bs) m = suc (left_over bs m)

  left_over-is : (bs : List ℕ) (m : ℕ) → left_over bs m ≡ length bs + m
  unfolding left_over
  left_over-is [] m = omega arith
  left_over-is (b ∷ bs) m = let e : left_over bs m ≡ length bs + m = left_over-is bs m in omega arith

  abbrev pub in_value : (position left : ℕ) → Option Sign → List Level → Reading
  in_value position left sign levels = record { position = position; head = []; left = left; sign = sign; levels = levels; halt = None }

  value_step : (position n : ℕ) (sign : Option Sign) (levels : List Level) (s : S) (b : ℕ) → position < INPUT_LIMIT
      → read_byte (bars_head bars s) (in_value position (suc n) sign levels) b ≡ settled (position + 1) (value_left n (sign_reads (b ∷ []) sign) levels (value_byte b ∷ [])) n
  unfolding read_byte
  value_step position n sign levels s b lt =
      ap (λ (t : Bool). byte_read (bars_head bars s) (in_value position (suc n) sign levels) b None t (suc n)) (lt-ltb (position + 0) INPUT_LIMIT (omega arith))

  abbrev value_comes : (position m : ℕ) → Option Sign → List Level → List ℕ → Reading × List Atom
  value_comes position m sign levels bs = settled (position + length bs) (value_left m (sign_reads bs sign) levels (map value_byte bs)) m

  -- one byte and then others
  value_on : (position m : ℕ) (sign : Option Sign) (levels : List Level) (b c : ℕ) (bs : List ℕ)
      → ((value_comes (position + 1) m (sign_reads (b ∷ []) sign) levels (c ∷ bs)).0, value_byte b ∷ (value_comes (position + 1) m (sign_reads (b ∷ []) sign) levels (c ∷ bs)).1)
      ≡ value_comes position m sign levels (b ∷ c ∷ bs)
  value_on position m sign levels b c bs =
      let place : (position + 1) + length (c ∷ bs) ≡ position + length (b ∷ c ∷ bs) = omega arith in
      let after : Option Sign → List Atom → Opened = λ x atoms. value_left m x levels atoms in
      let now : Option Sign = sign_reads (c ∷ bs) (sign_reads (b ∷ []) sign) in
      ap (λ (n : ℕ). let z = settled n (after now (map value_byte (c ∷ bs))) m in (z.0, value_byte b ∷ z.1)) place
      ∙ sym (settled_atoms (position + length (b ∷ c ∷ bs)) m (left_levels m now levels) (left_sign m now) (value_byte b ∷ []) (map value_byte (c ∷ bs) ++ closing m))
      ∙ ap (λ (x : Option Sign). settled (position + length (b ∷ c ∷ bs)) (after x (map value_byte (b ∷ c ∷ bs))) m) (reads_more (b ∷ []) (c ∷ bs) sign)

  value_steps : (position m : ℕ) (sign : Option Sign) (levels : List Level) (s : S) (b : ℕ) (bs : List ℕ) → position + length (b ∷ bs) ≤ INPUT_LIMIT
      → fold (steps bars step) (in_value position (left_over (b ∷ bs) m) sign levels, s) (b ∷ bs) ≡ ((value_comes position m sign levels (b ∷ bs)).0, fold step s (value_comes position m sign levels (b ∷ bs)).1)
  unfolding left_over
  value_steps position m sign levels s b [] le = ap (λ (q : Reading × List Atom). (q.0, fold step s q.1)) (value_step position m sign levels s b (omega arith))
  value_steps position m sign levels s b (c ∷ bs) le =
      ap (λ (q : Reading × List Atom). fold (steps bars step) (q.0, fold step s q.1) (c ∷ bs)) (value_step position (left_over (c ∷ bs) m) sign levels s b (omega arith))
      ∙ value_steps (position + 1) m (sign_reads (b ∷ []) sign) levels (step s (value_byte b)) c bs (omega arith)
      ∙ ap (λ (z : Reading × List Atom). (z.0, fold step s z.1)) (value_on position m sign levels b c bs)

  value_outputs : (position m : ℕ) (sign : Option Sign) (levels : List Level) (s : S) (b : ℕ) (bs : List ℕ) → position + length (b ∷ bs) ≤ INPUT_LIMIT
      → outputs (steps bars step) (steps_write bars step writes) (in_value position (left_over (b ∷ bs) m) sign levels, s) (b ∷ bs) ≡ outputs step writes s (value_comes position m sign levels (b ∷ bs)).1
  unfolding left_over
  value_outputs position m sign levels s b [] le =
      append-nil (steps_write bars step writes (in_value position (suc m) sign levels, s) b)
      ∙ ap (λ (q : Reading × List Atom). outputs step writes s q.1) (value_step position m sign levels s b (omega arith))
  value_outputs position m sign levels s b (c ∷ bs) le =
      let now : Option Sign = sign_reads (b ∷ []) sign in
      ap (λ (q : Reading × List Atom). outputs step writes s q.1 ++ outputs (steps bars step) (steps_write bars step writes) (q.0, fold step s q.1) (c ∷ bs)) (value_step position (left_over (c ∷ bs) m) sign levels s b (omega arith))
      ∙ ap (λ (xs : List ℕ). xs ++ outputs (steps bars step) (steps_write bars step writes) (in_value (position + 1) (left_over (c ∷ bs) m) now levels, step s (value_byte b)) (c ∷ bs)) (append-nil (writes s (value_byte b)))
      ∙ ap (λ (xs : List ℕ). writes s (value_byte b) ++ xs) (value_outputs (position + 1) m now levels (step s (value_byte b)) c bs (omega arith))
      ∙ ap (λ (z : Reading × List Atom). outputs step writes s z.1) (value_on position m sign levels b c bs)

  -- as many bytes of a value as are there
  pub feeds_value : {T : Type 0} (position left : ℕ) (sign : Option Sign) (levels : List Level) (s : S) (held : Option (List ℕ)) (t : S) (holds : Option (List ℕ)) (new : Option Stop → Reading) (bs : List ℕ) (r : Result T Halt)
      → 0 < length bs → length bs ≤ left → position + length bs ≤ INPUT_LIMIT
      → Comes step writes s held t holds new (value_read (in_value position left sign levels) (left - length bs) bs) r
      → Feeds bars step writes (in_value position left sign levels) s held new t holds bs r
  feeds_value position left sign levels s held t holds new [] r some fits within h = absurd (omega arith)
  feeds_value position left sign levels s held t holds new (b ∷ bs) r some fits within h =
      let m : ℕ = left - length (b ∷ bs) in
      let over : left ≡ left_over (b ∷ bs) m = omega (arith, left_over-is (b ∷ bs) m) in
      feeds_bytes (in_value position left sign levels) s held t holds new (b ∷ bs) (value_comes position m sign levels (b ∷ bs)) r
      (ap (λ (n : ℕ). fold (steps bars step) (in_value position n sign levels, s) (b ∷ bs)) over ∙ value_steps position m sign levels s b bs within)
      (ap (λ (n : ℕ). outputs (steps bars step) (steps_write bars step writes) (in_value position n sign levels, s) (b ∷ bs)) over ∙ value_outputs position m sign levels s b bs within)
      h

  -- ---- bytes of a head

  pub undecided_read : (r : Reading) (z : List ℕ) (o : Option Stop) → is_undecided o ≡ true → head_read r z o ≡ (record r { head = z }, [])
  undecided_read r z None e = absurd (cc)
  undecided_read r z (Some stop) e = ap (λ (t : Bool). cond {A = Reading × List Atom} t (record r { head = z }, []) (halted r stop, [])) e

  abbrev pub in_head : ℕ → List ℕ → Option Sign → List Level → Reading
  in_head position head sign levels = record { position = position; head = head; left = 0; sign = sign; levels = levels; halt = None }

  head_step : (position : ℕ) (head : List ℕ) (sign : Option Sign) (inner : Level) (outer : List Level) (s : S) (b : ℕ) → position + length head < INPUT_LIMIT → passes 8 (room position (inner ∷ outer)) ≡ false → length head + 1 < 8
      → read_byte (bars_head bars s) (in_head position head sign (inner ∷ outer)) b ≡ (in_head position (head ++ b ∷ []) sign (inner ∷ outer), [])
  unfolding read_byte
  head_step position head sign inner outer s b lt free short =
      let r = in_head position head sign (inner ∷ outer) in
      let few : length (head ++ b ∷ []) < 8 = rw length-append (omega arith) in
      ap (λ (t : Bool). byte_read (bars_head bars s) r b None t 0) (lt-ltb (position + length head) INPUT_LIMIT lt)
      ∙ undecided_read r (head ++ b ∷ []) (innermost_stop (bars_head bars s) (inner ∷ outer) position (head ++ b ∷ [])) (place_waits (bars_head bars s) inner (inner ∷ outer) position (head ++ b ∷ []) free few)

  head_steps : (position : ℕ) (head : List ℕ) (sign : Option Sign) (inner : Level) (outer : List Level) (s : S) (bs : List ℕ) → position + length head + length bs ≤ INPUT_LIMIT → passes 8 (room position (inner ∷ outer)) ≡ false → length head + length bs < 8
      → fold (steps bars step) (in_head position head sign (inner ∷ outer), s) bs ≡ (in_head position (head ++ bs) sign (inner ∷ outer), s)
  head_steps position head sign inner outer s [] lt free short = ap (λ (z : List ℕ). (in_head position z sign (inner ∷ outer), s)) (sym (append-nil head))
  head_steps position head sign inner outer s (b ∷ bs) lt free short =
      let size : length (head ++ b ∷ []) ≡ length head + 1 = length-append head (b ∷ []) in
      ap (λ (q : Reading × List Atom). fold (steps bars step) (q.0, fold step s q.1) bs) (head_step position head sign inner outer s b (omega arith) free (omega arith))
      ∙ head_steps position (head ++ b ∷ []) sign inner outer s bs (omega arith) free (omega arith)
      ∙ ap (λ (z : List ℕ). (in_head position z sign (inner ∷ outer), s)) (append_assoc head (b ∷ []) bs)

  head_outputs : (position : ℕ) (head : List ℕ) (sign : Option Sign) (inner : Level) (outer : List Level) (s : S) (bs : List ℕ) → position + length head + length bs ≤ INPUT_LIMIT → passes 8 (room position (inner ∷ outer)) ≡ false → length head + length bs < 8
      → outputs (steps bars step) (steps_write bars step writes) (in_head position head sign (inner ∷ outer), s) bs ≡ []
  head_outputs position head sign inner outer s [] lt free short = refl
  head_outputs position head sign inner outer s (b ∷ bs) lt free short =
      let size : length (head ++ b ∷ []) ≡ length head + 1 = length-append head (b ∷ []) in
      ap (λ (q : Reading × List Atom). outputs step writes s q.1 ++ outputs (steps bars step) (steps_write bars step writes) (q.0, fold step s q.1) bs) (head_step position head sign inner outer s b (omega arith) free (omega arith))
      ∙ head_outputs position (head ++ b ∷ []) sign inner outer s bs (omega arith) free (omega arith)

  -- ---- a halt

  -- nothing more happens
  pub halted_stays : (position : ℕ) (head : List ℕ) (left : ℕ) (sign : Option Sign) (levels : List Level) (stop : Stop) (s : S) (bs : List ℕ)
      → let r : Reading = record { position = position; head = head; left = left; sign = sign; levels = levels; halt = Some stop } in
      fold (steps bars step) (r, s) bs ≡ (r, s)
  unfolding read_byte
  halted_stays position head left sign levels stop s [] = refl
  halted_stays position head left sign levels stop s (b ∷ bs) = halted_stays position head left sign levels stop s bs

  pub halted_silent : (position : ℕ) (head : List ℕ) (left : ℕ) (sign : Option Sign) (levels : List Level) (stop : Stop) (s : S) (bs : List ℕ)
      → let r : Reading = record { position = position; head = head; left = left; sign = sign; levels = levels; halt = Some stop } in
      outputs (steps bars step) (steps_write bars step writes) (r, s) bs ≡ []
  unfolding read_byte
  halted_silent position head left sign levels stop s [] = refl
  halted_silent position head left sign levels stop s (b ∷ bs) = halted_silent position head left sign levels stop s bs

  -- bytes that end no head
  pub feeds_head : {T : Type 0} (position : ℕ) (head : List ℕ) (sign : Option Sign) (inner : Level) (outer : List Level) (s : S) (held : Option (List ℕ)) (new : Option Stop → Reading) (bs : List ℕ) (x : T)
      → position + length head + length bs ≤ INPUT_LIMIT → passes 8 (room position (inner ∷ outer)) ≡ false → length head + length bs < 8
      → new None ≡ in_head position (head ++ bs) sign (inner ∷ outer) → Feeds bars step writes (in_head position head sign (inner ∷ outer)) s held new s held bs (Ok x)
  feeds_head position head sign inner outer s held new bs x lt free short e = (
    ap (λ (n : Reading). (n, s)) e ∙ sym (head_steps position head sign inner outer s bs lt free short),
    sym (known_nothing held) ∙ ap (append_known held) (sym (head_outputs position head sign inner outer s bs lt free short)),
  )

  -- past the limit
  pub limit_byte : (old : Reading) (s : S) (b : ℕ) → old.halt ≡ None → INPUT_LIMIT ≤ old.position + length old.head → read_byte (bars_head bars s) old b ≡ (halted old (refused TooLong INPUT_LIMIT), [])
  unfolding read_byte
  limit_byte old s b none le =
      ap (λ (h : Option Stop). byte_read (bars_head bars s) old b h (nat_lt (old.position + length old.head) INPUT_LIMIT) old.left) none
      ∙ ap (λ (t : Bool). byte_read (bars_head bars s) old b None t old.left) (le-ltb (old.position + length old.head) INPUT_LIMIT le)

  -- the machine went over some bytes, and goes over others
  pub feeds_on : {T : Type 0} (old : Reading) (s : S) (held : Option (List ℕ)) (mid : Reading) (m : S) (mid_held : Option (List ℕ)) (new : Option Stop → Reading) (t : S) (holds : Option (List ℕ)) (xs ys : List ℕ) (r : Result T Halt)
      → (mid, m) ≡ fold (steps bars step) (old, s) xs → mid_held ≡ append_known held (outputs (steps bars step) (steps_write bars step writes) (old, s) xs)
      → Feeds bars step writes mid m mid_held new t holds ys r → Feeds bars step writes old s held new t holds (xs ++ ys) r
  feeds_on old s held mid m mid_held new t holds xs ys r a b h =
      goes_on (steps bars step) (steps_write bars step writes) (old, s) held (mid, m) mid_held (new (halt_of r), t) holds xs ys (went r) a b h
