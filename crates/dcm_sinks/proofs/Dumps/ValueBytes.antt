-- The bytes of a value, as the dump takes them one by one.
use Rattle.std.proofs.Common.{◌≡◌, ◌∙◌, ap, refl, ℕ, ◌+◌, ◌<◌, ◌≤◌, List, [], ◌∷◌, ◌++◌, length, map, Bool, true, false, cond, arith}
use Rattle.std.specs.Prelude.{fold, nat_lt}
use Rattle.std.proofs.lemmas.Bool.Decides.{nat_tests}
use Rattle.std.proofs.lemmas.List.{map-append, append-nil}
use Rattle.std.proofs.lemmas.List.Sums.{fold-append}
use Rattle.dcm_base.proofs.Writes.Runs.{outputs-append}
use Rattle.dcm_base.specs.declared.mode.Mode.{Mode}
use Rattle.dcm_base.specs.declared.length.Length.{Length}
use Rattle.dcm_base.specs.Steps.Atoms.{Atom, value_byte}
use Rattle.dcm_base.specs.Steps.Steps.{outputs}
use Rattle.dcm_base.specs.declared.dictionary.Dictionary.{Dictionary}
use Rattle.dcm_value.specs.Progress.{Progress, step, writes}
use Rattle.dcm_sinks.specs.declared.dump.lines.Owner.{Owner}
use Rattle.dcm_sinks.specs.DumpSink.{DumpState, OpenValue, no_value, open_value, live_step, live_writes, dump_step, dump_writes}

abbrev pub within : Dictionary → Mode → List Length → Owner → Progress → DumpState
within d mode lengths owner p = record { dictionary = d; mode = mode; lengths = lengths; value = open_value owner p; is_lost = false }

abbrev pub between : Dictionary → Mode → List Length → DumpState
between d mode lengths = record { dictionary = d; mode = mode; lengths = lengths; value = no_value; is_lost = false }

abbrev pub lost : Dictionary → Mode → List Length → OpenValue → DumpState
lost d mode lengths value = record { dictionary = d; mode = mode; lengths = lengths; value = value; is_lost = true }

pub step_seen : (p : Progress) (b : ℕ) → (step p b).seen ≡ p.seen + 1
unfolding step
step_seen p b = refl

pub step_size : (p : Progress) (b : ℕ) → (step p b).size ≡ p.size
unfolding step
step_size p b = refl

fits_true : (p : Progress) → p.seen < p.size → nat_lt p.seen p.size ≡ true
fits_true p h = grind (arith, nat_tests)

fits_false : (p : Progress) → p.size ≤ p.seen → nat_lt p.seen p.size ≡ false
fits_false p h = grind (arith, nat_tests)

module _ (d : Dictionary) (mode : Mode) (lengths : List Length) (owner : Owner) where
  takes : (p : Progress) (b : ℕ) → p.seen < p.size → dump_step (within d mode lengths owner p) (value_byte b) ≡ within d mode lengths owner (step p b)
  takes p b h = ap (λ (t : Bool). cond t (within d mode lengths owner (step p b)) (lost d mode lengths (open_value owner p))) (fits_true p h)

  shows : (p : Progress) (b : ℕ) → p.seen < p.size → dump_writes (within d mode lengths owner p) (value_byte b) ≡ writes p b
  shows p b h = ap (λ (t : Bool). cond t (writes p b) []) (fits_true p h)

  -- at most as many bytes as are missing
  pub takes_all : (p : Progress) (bytes : List ℕ) → p.seen + length bytes ≤ p.size
      → fold dump_step (within d mode lengths owner p) (map value_byte bytes) ≡ within d mode lengths owner (fold step p bytes)
  takes_all p [] h = refl
  takes_all p (b ∷ bs) h =
      ap (λ s. fold dump_step s (map value_byte bs)) (takes p b (omega arith))
      ∙ takes_all (step p b) bs (omega (arith, step_seen p b, step_size p b))

  pub shows_all : (p : Progress) (bytes : List ℕ) → p.seen + length bytes ≤ p.size
      → outputs dump_step dump_writes (within d mode lengths owner p) (map value_byte bytes) ≡ outputs step writes p bytes
  shows_all p [] h = refl
  shows_all p (b ∷ bs) h =
      ap (λ bytes. bytes ++ outputs dump_step dump_writes (dump_step (within d mode lengths owner p) (value_byte b)) (map value_byte bs)) (shows p b (omega arith))
      ∙ ap (λ s. writes p b ++ outputs dump_step dump_writes s (map value_byte bs)) (takes p b (omega arith))
      ∙ ap (λ bytes. writes p b ++ bytes) (shows_all (step p b) bs (omega (arith, step_seen p b, step_size p b)))

  -- more than are missing
  loses : (p : Progress) (b : ℕ) → p.size ≤ p.seen → dump_step (within d mode lengths owner p) (value_byte b) ≡ lost d mode lengths (open_value owner p)
  loses p b h = ap (λ (t : Bool). cond t (within d mode lengths owner (step p b)) (lost d mode lengths (open_value owner p))) (fits_false p h)

  writes_none : (p : Progress) (b : ℕ) → p.size ≤ p.seen → dump_writes (within d mode lengths owner p) (value_byte b) ≡ []
  writes_none p b h = ap (λ (t : Bool). cond t (writes p b) []) (fits_false p h)

  pub loses_all : (p : Progress) (b : ℕ) (bytes : List ℕ) → p.size ≤ p.seen
      → fold dump_step (within d mode lengths owner p) (map value_byte (b ∷ bytes)) ≡ lost d mode lengths (open_value owner p)
  loses_all p b bytes h = ap (λ s. fold dump_step s (map value_byte bytes)) (loses p b h) ∙ lost_stays (open_value owner p) (map value_byte bytes)
    where
      lost_stays : (value : OpenValue) (atoms : List Atom) → fold dump_step (lost d mode lengths value) atoms ≡ lost d mode lengths value
      lost_stays value [] = refl
      lost_stays value (a ∷ atoms) = lost_stays value atoms

  pub loses_silently : (p : Progress) (b : ℕ) (bytes : List ℕ) → p.size ≤ p.seen
      → outputs dump_step dump_writes (within d mode lengths owner p) (map value_byte (b ∷ bytes)) ≡ []
  loses_silently p b bytes h =
      ap (λ zs. zs ++ outputs dump_step dump_writes (dump_step (within d mode lengths owner p) (value_byte b)) (map value_byte bytes)) (writes_none p b h)
      ∙ ap (λ s. outputs dump_step dump_writes s (map value_byte bytes)) (loses p b h)
      ∙ lost_silent (open_value owner p) (map value_byte bytes)
    where
      lost_silent : (value : OpenValue) (atoms : List Atom) → outputs dump_step dump_writes (lost d mode lengths value) atoms ≡ []
      lost_silent value [] = refl
      lost_silent value (a ∷ atoms) = lost_silent value atoms

-- no value is open
pub stays_between : (d : Dictionary) (mode : Mode) (lengths : List Length) (bytes : List ℕ) → fold dump_step (between d mode lengths) (map value_byte bytes) ≡ between d mode lengths
stays_between d mode lengths [] = refl
stays_between d mode lengths (b ∷ bs) = stays_between d mode lengths bs

pub silent_between : (d : Dictionary) (mode : Mode) (lengths : List Length) (bytes : List ℕ) → outputs dump_step dump_writes (between d mode lengths) (map value_byte bytes) ≡ []
silent_between d mode lengths [] = refl
silent_between d mode lengths (b ∷ bs) = silent_between d mode lengths bs

-- a dump that is lost stays so
pub lost_stays : (s : DumpState) (atoms : List Atom) → s.is_lost ≡ true → fold dump_step s atoms ≡ s
lost_stays s [] h = refl
lost_stays s (a ∷ atoms) h = ap (λ t. fold dump_step t atoms) (ap (λ (t : Bool). cond t s (live_step s a)) h) ∙ lost_stays s atoms h

pub lost_silent : (s : DumpState) (atoms : List Atom) → s.is_lost ≡ true → outputs dump_step dump_writes s atoms ≡ []
lost_silent s [] h = refl
lost_silent s (a ∷ atoms) h =
    ap (λ (t : Bool). cond t [] (live_writes s a) ++ outputs dump_step dump_writes (dump_step s a) atoms) h
    ∙ ap (λ t. outputs dump_step dump_writes t atoms) (ap (λ (t : Bool). cond t s (live_step s a)) h)
    ∙ lost_silent s atoms h

seen_fold : (p : Progress) (bytes : List ℕ) → (fold step p bytes).seen ≡ p.seen + length bytes
seen_fold p [] = omega arith
seen_fold p (b ∷ bs) = omega (arith, seen_fold (step p b) bs, step_seen p b)

pub size_fold : (p : Progress) (bytes : List ℕ) → (fold step p bytes).size ≡ p.size
size_fold p [] = refl
size_fold p (b ∷ bs) = size_fold (step p b) bs ∙ step_size p b

abbrev pub is_filled : List ℕ → Bool
is_filled [] = false
is_filled (b ∷ bs) = true

-- behind bytes of which some are the value's own
abbrev pub behind : Dictionary → Mode → List Length → Owner → Progress → List ℕ → DumpState
behind d mode lengths owner p others = record { dictionary = d; mode = mode; lengths = lengths; value = open_value owner p; is_lost = is_filled others }

module _ (d : Dictionary) (mode : Mode) (lengths : List Length) (owner : Owner) (p : Progress) (own : List ℕ) where
  pub takes_own : (others : List ℕ) → p.seen + length own ≤ p.size → (is_filled others ≡ true → p.size ≤ p.seen + length own)
      → fold dump_step (within d mode lengths owner p) (map value_byte (own ++ others)) ≡ behind d mode lengths owner (fold step p own) others
  takes_own others h full =
      ap (fold dump_step (within d mode lengths owner p)) (map-append value_byte own others)
      ∙ fold-append dump_step (within d mode lengths owner p) (map value_byte own) (map value_byte others)
      ∙ ap (λ s. fold dump_step s (map value_byte others)) (takes_all d mode lengths owner p own h)
      ∙ then_others others full
    where
      then_others : (others : List ℕ) → (is_filled others ≡ true → p.size ≤ p.seen + length own)
          → fold dump_step (within d mode lengths owner (fold step p own)) (map value_byte others) ≡ behind d mode lengths owner (fold step p own) others
      then_others [] full = refl
      then_others (b ∷ bs) full = loses_all d mode lengths owner (fold step p own) b bs (let f = full refl in omega (arith, seen_fold p own, size_fold p own))

  pub shows_own : (others : List ℕ) → p.seen + length own ≤ p.size → (is_filled others ≡ true → p.size ≤ p.seen + length own)
      → outputs dump_step dump_writes (within d mode lengths owner p) (map value_byte (own ++ others)) ≡ outputs step writes p own
  shows_own others h full =
      ap (outputs dump_step dump_writes (within d mode lengths owner p)) (map-append value_byte own others)
      ∙ outputs-append dump_step dump_writes (within d mode lengths owner p) (map value_byte own) (map value_byte others)
      ∙ ap (λ bytes. bytes ++ outputs dump_step dump_writes (fold dump_step (within d mode lengths owner p) (map value_byte own)) (map value_byte others)) (shows_all d mode lengths owner p own h)
      ∙ ap (λ s. outputs step writes p own ++ outputs dump_step dump_writes s (map value_byte others)) (takes_all d mode lengths owner p own h)
      ∙ ap (λ bytes. outputs step writes p own ++ bytes) (others_silent others full)
      ∙ append-nil (outputs step writes p own)
    where
      others_silent : (others : List ℕ) → (is_filled others ≡ true → p.size ≤ p.seen + length own)
          → outputs dump_step dump_writes (within d mode lengths owner (fold step p own)) (map value_byte others) ≡ []
      others_silent [] full = refl
      others_silent (b ∷ bs) full = loses_silently d mode lengths owner (fold step p own) b bs (let f = full refl in omega (arith, seen_fold p own, size_fold p own))
