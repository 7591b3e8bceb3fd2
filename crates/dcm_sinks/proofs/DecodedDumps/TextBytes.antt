-- The bytes of a value, as a dump of texts takes them one by one.
use Rattle.std.proofs.Common.{◌≡◌, ◌∙◌, ap, sym, refl, ℕ, ◌+◌, ◌<◌, ◌≤◌, List, [], ◌∷◌, ◌++◌, length, map, take, drop, Bool, true, false, cond, arith}
use Rattle.std.specs.Prelude.{fold, nat_lt, min}
use Rattle.std.proofs.lemmas.Bool.Decides.{nat_tests}
use Rattle.std.proofs.lemmas.List.{map-append, append-nil}
use Rattle.std.proofs.lemmas.List.Sums.{fold-append}
use Rattle.dcm_lemmas.proofs.Lists.{taken_and_dropped}
use Rattle.dcm_base.proofs.Writes.Runs.{outputs-append}
use Rattle.dcm_base.specs.Steps.Atoms.{value_byte}
use Rattle.dcm_base.specs.Steps.Steps.{outputs}
use Rattle.dcm_sinks.proofs.Dumps.OpenValues.{fitting}
use Rattle.dcm_text.specs.declared.sets.Sets.{Sets}
use Rattle.dcm_value.specs.Display.{emit}
use Rattle.dcm_value.specs.DecodedProgress.{DecodedProgress, is_unopened, opened, step, writes, feeds}
use Rattle.dcm_sinks.specs.declared.dump.lines.Owner.{Owner}
use Rattle.dcm_sinks.specs.DumpSink.{DumpState, dump_step, dump_writes}
use Rattle.dcm_sinks.specs.TextDump.{TextState, no_text, open_text, text_step, text_writes}
use Rattle.dcm_sinks.proofs.Dumps.ValueBytes.{is_filled}
use Rattle.dcm_sinks.proofs.Dumps.ValueLines.{filled_full}
use Rattle.dcm_sinks.proofs.DecodedDumps.Texts.{step_seen, step_size, fold_seen, fold_size, opened_same, feeds_same}

-- a text that is open, and none
abbrev pub in_text : DumpState → Owner → DecodedProgress → TextState
in_text lines owner p = record { lines = lines; text = open_text owner p }

abbrev pub out_of_text : DumpState → TextState
out_of_text lines = record { lines = lines; text = no_text }

fits_true : (p : DecodedProgress) → p.seen < p.size → nat_lt p.seen p.size ≡ true
fits_true p h = grind (arith, nat_tests)

fits_false : (p : DecodedProgress) → p.size ≤ p.seen → nat_lt p.seen p.size ≡ false
fits_false p h = grind (arith, nat_tests)

module _ (sets : Sets) (lines : DumpState) where
  -- ---- without a text

  pub passes_bytes : (bytes : List ℕ) → fold (text_step sets) (out_of_text lines) (map value_byte bytes) ≡ out_of_text (fold dump_step lines (map value_byte bytes))
  passes_bytes bytes = from lines bytes
    where
      from : (l : DumpState) (bytes : List ℕ) → fold (text_step sets) (out_of_text l) (map value_byte bytes) ≡ out_of_text (fold dump_step l (map value_byte bytes))
      from l [] = refl
      from l (b ∷ bs) = from (dump_step l (value_byte b)) bs

  pub shows_passed : (bytes : List ℕ) → outputs (text_step sets) (text_writes sets) (out_of_text lines) (map value_byte bytes) ≡ outputs dump_step dump_writes lines (map value_byte bytes)
  shows_passed bytes = from lines bytes
    where
      from : (l : DumpState) (bytes : List ℕ) → outputs (text_step sets) (text_writes sets) (out_of_text l) (map value_byte bytes) ≡ outputs dump_step dump_writes l (map value_byte bytes)
      from l [] = refl
      from l (b ∷ bs) = ap (λ (xs : List ℕ). dump_writes l (value_byte b) ++ xs) (from (dump_step l (value_byte b)) bs)

  -- ---- within one

  module _ (owner : Owner) where
    abbrev open_at : DecodedProgress → TextState
    open_at p = in_text lines owner p

    takes : (p : DecodedProgress) (b : ℕ) → p.seen < p.size → text_step sets (open_at p) (value_byte b) ≡ open_at (step p b)
    takes p b h = ap (λ (t : Bool). open_at (cond t (step p b) p)) (fits_true p h)

    shows : (p : DecodedProgress) (b : ℕ) → p.seen < p.size → text_writes sets (open_at p) (value_byte b) ≡ writes p b
    shows p b h = ap (λ (t : Bool). cond t (writes p b) []) (fits_true p h)

    -- at most as many bytes as are missing
    pub takes_all : (p : DecodedProgress) (bytes : List ℕ) → p.seen + length bytes ≤ p.size
        → fold (text_step sets) (in_text lines owner p) (map value_byte bytes) ≡ in_text lines owner (fold step p bytes)
    takes_all p [] h = refl
    takes_all p (b ∷ bs) h =
        ap (λ (s : TextState). fold (text_step sets) s (map value_byte bs)) (takes p b (omega arith))
        ∙ takes_all (step p b) bs (omega (arith, step_seen p b, step_size p b))

    pub shows_all : (p : DecodedProgress) (bytes : List ℕ) → p.seen + length bytes ≤ p.size
        → outputs (text_step sets) (text_writes sets) (in_text lines owner p) (map value_byte bytes) ≡ outputs step writes p bytes
    shows_all p [] h = refl
    shows_all p (b ∷ bs) h =
        ap (λ (xs : List ℕ). xs ++ outputs (text_step sets) (text_writes sets) (text_step sets (open_at p) (value_byte b)) (map value_byte bs)) (shows p b (omega arith))
        ∙ ap (λ (s : TextState). writes p b ++ outputs (text_step sets) (text_writes sets) s (map value_byte bs)) (takes p b (omega arith))
        ∙ ap (λ (xs : List ℕ). writes p b ++ xs) (shows_all (step p b) bs (omega (arith, step_seen p b, step_size p b)))

    -- more of them change nothing
    more_same : (p : DecodedProgress) (bytes : List ℕ) → (is_filled bytes ≡ true → p.size ≤ p.seen)
        → fold (text_step sets) (open_at p) (map value_byte bytes) ≡ open_at p
    more_same p [] h = refl
    more_same p (b ∷ bs) h =
        ap (λ (t : Bool). fold (text_step sets) (open_at (cond t (step p b) p)) (map value_byte bs)) (fits_false p (h refl))
        ∙ more_same p bs (λ e. h refl)

    more_silent : (p : DecodedProgress) (bytes : List ℕ) → (is_filled bytes ≡ true → p.size ≤ p.seen)
        → outputs (text_step sets) (text_writes sets) (open_at p) (map value_byte bytes) ≡ []
    more_silent p [] h = refl
    more_silent p (b ∷ bs) h =
        ap (λ (t : Bool). cond t (writes p b) [] ++ outputs (text_step sets) (text_writes sets) (open_at (cond t (step p b) p)) (map value_byte bs)) (fits_false p (h refl))
        ∙ more_silent p bs (λ e. h refl)

    full_fold : (p : DecodedProgress) (own : List ℕ) → p.size ≤ p.seen + length own → (fold step p own).size ≤ (fold step p own).seen
    full_fold p own h = omega (arith, h, fold_seen p own, fold_size p own)

    takes_own : (p : DecodedProgress) (own others : List ℕ) → p.seen + length own ≤ p.size → (is_filled others ≡ true → p.size ≤ p.seen + length own)
        → fold (text_step sets) (open_at p) (map value_byte (own ++ others)) ≡ open_at (fold step p own)
    takes_own p own others h full =
        ap (fold (text_step sets) (open_at p)) (map-append value_byte own others)
        ∙ fold-append (text_step sets) (open_at p) (map value_byte own) (map value_byte others)
        ∙ ap (λ (s : TextState). fold (text_step sets) s (map value_byte others)) (takes_all p own h)
        ∙ more_same (fold step p own) others (λ e. full_fold p own (full e))

    shows_own : (p : DecodedProgress) (own others : List ℕ) → p.seen + length own ≤ p.size → (is_filled others ≡ true → p.size ≤ p.seen + length own)
        → outputs (text_step sets) (text_writes sets) (open_at p) (map value_byte (own ++ others)) ≡ outputs step writes p own
    shows_own p own others h full =
        ap (outputs (text_step sets) (text_writes sets) (open_at p)) (map-append value_byte own others)
        ∙ outputs-append (text_step sets) (text_writes sets) (open_at p) (map value_byte own) (map value_byte others)
        ∙ ap (λ (xs : List ℕ). xs ++ outputs (text_step sets) (text_writes sets) (fold (text_step sets) (open_at p) (map value_byte own)) (map value_byte others)) (shows_all p own h)
        ∙ ap (λ (s : TextState). outputs step writes p own ++ outputs (text_step sets) (text_writes sets) s (map value_byte others)) (takes_all p own h)
        ∙ ap (λ (xs : List ℕ). outputs step writes p own ++ xs) (more_silent (fold step p own) others (λ e. full_fold p own (full e)))
        ∙ append-nil (outputs step writes p own)

-- ---- a piece, of which some bytes may be behind the value's end

module _ (sets : Sets) (lines : DumpState) (owner : Owner) (p : DecodedProgress) (n missing : ℕ) (bytes own others : List ℕ)
    (least : n ≡ min (length bytes) missing) (left : missing + p.seen ≡ p.size) (front : own ≡ take n bytes) (back : others ≡ drop n bytes)
    (begun : is_unopened p ≡ false) (settled : p.display ≡ emit p.display []) (s : TextState) (now : s ≡ in_text lines owner p) where
  pub takes_piece : fold (text_step sets) s (map value_byte bytes) ≡ in_text lines owner (fold step (opened p) own)
  takes_piece =
      ap (λ (t : TextState). fold (text_step sets) t (map value_byte bytes)) now
      ∙ ap (λ (zs : List ℕ). fold (text_step sets) (in_text lines owner p) (map value_byte zs)) (sym (taken_and_dropped n bytes own others front back))
      ∙ takes_own sets lines owner p own others (fitting n missing p.seen p.size bytes own least left front) (filled_full n missing p.seen p.size bytes own others least left front back)
      ∙ ap (λ (q : DecodedProgress). in_text lines owner (fold step q own)) (sym (opened_same p begun settled))

  pub shows_piece : outputs (text_step sets) (text_writes sets) s (map value_byte bytes) ≡ feeds p own
  shows_piece =
      ap (λ (t : TextState). outputs (text_step sets) (text_writes sets) t (map value_byte bytes)) now
      ∙ ap (λ (zs : List ℕ). outputs (text_step sets) (text_writes sets) (in_text lines owner p) (map value_byte zs)) (sym (taken_and_dropped n bytes own others front back))
      ∙ shows_own sets lines owner p own others (fitting n missing p.seen p.size bytes own least left front) (filled_full n missing p.seen p.size bytes own others least left front back)
      ∙ sym (feeds_same p own begun settled)
