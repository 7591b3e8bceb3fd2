-- A line reader goes over the beginning of a piece.
use Rattle.std.proofs.Common.{◌≡◌, ◌∙◌, ap, sym, subst, refl, ℕ, zero, suc, ◌+◌, ◌<◌, ◌≤◌, List, [], ◌∷◌, ◌++◌, length, take, get_or, length-append, Bool, true, false, cond, Option, None, Some, Result, Ok, Err, arith}
use Rattle.std.specs.Prelude.{fold, nat_le, nat_lt, ◌==◌, IsErrAnd, slice_index}
use Rattle.std.specs.Str.{byte}
use Rattle.std.specs.Io.KnownBytes.{append_known}
use Rattle.std.proofs.lemmas.Bool.{ne_eqb, le-ltb, le-leb}
use Rattle.std.proofs.lemmas.List.{append-nil, take-take}
use Rattle.dcm_lemmas.proofs.Numbers.{above_not_within}
use Rattle.dcm_lemmas.proofs.Options.{known_nothing}
use Rattle.dcm_base.specs.declared.fault.LineStop.{LineStop}
use Rattle.dcm_devices.specs.Device.{AppendsFront}
use Rattle.dcm_base.specs.Reading.Reads.{INPUT_LIMIT}
use Rattle.dcm_base.specs.Steps.Steps.{outputs}
use Rattle.dcm_base.specs.declared.fault.LineFault.TheVariants.{LineTooLong, TooLong}
use Rattle.dcm_devices.proofs.Writes.Puts.{front_longer}
use Rattle.dcm_build.specs.Halts.{BuildHalt}
use Rattle.dcm_base.specs.declared.stopped.Stopped.TheVariants.{Refused, Output}
use Rattle.dcm_build.specs.declared.file.NewFile.{NewFile}
use Rattle.dcm_build.specs.declared.line_reader.LineReader.{LineReader}
use Rattle.dcm_build.specs.Builder.{line_at, building, more, read, Plain, Stands, halts, Reaches, Feeds, bytes_read}
use Rattle.dcm_build.specs.Building.{BuildState, build_step, build_writes, line_taken, line_writes}
use Rattle.dcm_build.specs.NewFile.{LineAt, state}
use Rattle.dcm_build.proofs.Lines.Newlines.{line_grows, line_silent, newline_taken, newline_writes}

-- ---- bytes without a newline

not_so : (t : Bool) → ¬ (t ≡ true) → t ≡ false
not_so true h = absurd (h refl)
not_so false h = refl

-- before the first one
pub plain_before : (bs : List ℕ) (n : ℕ) → ((i : ℕ) → i < n → ¬ ((slice_index bs i == byte "\n") ≡ true)) → Plain (take n bs)
plain_before [] zero h = tt
plain_before [] (suc n) h = tt
plain_before (b ∷ bs) zero h = tt
plain_before (b ∷ bs) (suc n) h = (not_so (b == byte "\n") (h 0 (omega arith)), plain_before bs n (λ i l. h (suc i) (omega (arith, l))))

-- the first n of the first m bytes
pub first_of : (piece front bs : List ℕ) (m n : ℕ) → front ≡ take m piece → bs ≡ take n front → n ≤ length front → length front ≤ m → bs ≡ take n piece
first_of piece front bs m n e f le fits = f ∙ ap (take n) e ∙ take-take n m piece (omega arith)

-- they stand in the line
pub bytes_taken : (p q : LineReader) (held : Option (List ℕ)) (bs : List ℕ) → q.file ≡ p.file → line_at q ≡ more (line_at p) bs → Plain bs → read (line_at p) + length bs ≤ INPUT_LIMIT → length p.line.items + length bs ≤ p.limit
    → (building q None ≡ fold build_step (building p None) bs) × (held ≡ append_known held (outputs build_step build_writes (building p None) bs))
bytes_taken p q held bs file at plain within room = (
  ap (λ (f : NewFile). state f (line_at q) None) file ∙ ap (λ (a : LineAt). state p.file a None) at ∙ sym (line_grows p.file (line_at p) bs plain within room),
  sym (known_nothing held) ∙ ap (append_known held) (sym (line_silent p.file (line_at p) bs plain within room)),
)

pub more_stands : (at new : LineAt) (bs : List ℕ) → new ≡ more at bs → Stands at → read at + length bs ≤ INPUT_LIMIT → length at.line + length bs ≤ at.limit → Stands new
more_stands at new bs e h within room =
    let size : length (at.line ++ bs) ≡ length at.line + length bs = length-append at.line bs in
    subst Stands (sym e) (record {
      limit = h.limit;
      line = omega (arith, size, room);
      within = λ some. omega (arith, size, within);
      offset = h.offset;
      number = h.number;
    })

pub more_read : (at new : LineAt) (bs : List ℕ) → new ≡ more at bs → read new ≡ read at + length bs
more_read at new bs e =
    let size : length (at.line ++ bs) ≡ length at.line + length bs = length-append at.line bs in
    ap read e ∙ omega (arith, size)

-- ---- a byte that halts

-- once a fault was told, nothing more happens
pub told_stays : (f : NewFile) (at : LineAt) (told : LineStop) (bs : List ℕ) → fold build_step (state f at (Some told)) bs ≡ state f at (Some told)
told_stays f at told [] = refl
told_stays f at told (b ∷ bs) = told_stays f at told bs

pub told_silent : (f : NewFile) (at : LineAt) (told : LineStop) (bs : List ℕ) → outputs build_step build_writes (state f at (Some told)) bs ≡ []
told_silent f at told [] = refl
told_silent f at told (b ∷ bs) = told_silent f at told bs

-- the first byte halts it, and what follows changes nothing
pub feeds_first : (T : Type 0) (s : BuildState) (q : LineReader) (held holds : Option (List ℕ)) (piece : List ℕ) (halt : BuildHalt) → 0 < length piece
    → Reaches {T = T} held holds (building q) (build_step s (get_or piece 0 0)) (build_writes s (get_or piece 0 0)) (Err halt) → Feeds {T = T} s held (building q) holds piece (Err halt)
feeds_first T s q held holds [] halt some h = absurd (omega arith)
feeds_first T s q held holds (b ∷ bs) (Refused stop) some h = (
  sym (told_stays q.file (line_at q) stop bs) ∙ ap (λ (t : BuildState). fold build_step t bs) h.0,
  h.1 ∙ ap (append_known held) (sym (append-nil (build_writes s b)) ∙ ap (λ (xs : List ℕ). build_writes s b ++ xs) (sym (told_silent q.file (line_at q) stop bs) ∙ ap (λ (t : BuildState). outputs build_step build_writes t bs) h.0)),
)
feeds_first T s q held holds (b ∷ bs) Output some h = front_longer (outputs build_step build_writes (build_step s b) bs) h

cut_at : {A : Type 0} (cut : Bool) (a b : A) → cut ≡ true → a ≡ cond cut a b
cut_at true a b e = refl
cut_at false a b e = absurd (cc)

-- past the limit of an input
pub limit_at : (T : Type 0) (p : LineReader) (held : Option (List ℕ)) (piece : List ℕ) (halt : BuildHalt) → 0 < length piece → INPUT_LIMIT ≤ read (line_at p) → halt ≡ halts (Refused TooLong) INPUT_LIMIT 0
    → Feeds {T = T} (building p None) held (building p) held piece (Err halt)
limit_at T p held piece halt some past is =
    let cut : nat_le INPUT_LIMIT (read (line_at p)) ≡ true = le-leb _ _ past in
    subst (λ (x : BuildHalt). Feeds {T = T} (building p None) held (building p) held piece (Err x)) (sym is)
    (feeds_first T (building p None) p held held piece (halts (Refused TooLong) INPUT_LIMIT 0) some
    (cut_at (nat_le INPUT_LIMIT (read (line_at p))) _ _ cut, sym (known_nothing held) ∙ ap (append_known held) (cut_at (nat_le INPUT_LIMIT (read (line_at p))) _ _ cut)))

-- a byte that is no newline, for which the line has no room
no_room : {A : Type 0} (cut newline room : Bool) (a b c d : A) → cut ≡ false → newline ≡ false → room ≡ false → d ≡ cond cut a (cond newline b (cond room c d))
no_room true newline room a b c d x y z = absurd (cc)
no_room false true room a b c d x y z = absurd (cc)
no_room false false true a b c d x y z = absurd (cc)
no_room false false false a b c d x y z = refl

-- nothing of the piece may come into the line
full : (piece front : List ℕ) (m : ℕ) → front ≡ take m piece → 0 < length piece → (0 < length front → get_or front 0 0 ≡ byte "\n") → (get_or piece 0 0 ≡ byte "\n" → ⊥) → m ≡ 0
full piece front zero e some newline not = refl
full [] front (suc m) e some newline not = absurd (omega arith)
full (b ∷ piece) [] (suc m) e some newline not = absurd (cc)
full (b ∷ piece) (c ∷ front) (suc m) e some newline not =
    let same : c ≡ b = cc in
    absurd (not (sym same ∙ newline (omega arith)))

pub too_long : (T : Type 0) (p : LineReader) (held : Option (List ℕ)) (piece front : List ℕ) (m : ℕ) (halt : BuildHalt) → 0 < length piece → read (line_at p) < INPUT_LIMIT → front ≡ take m piece → (m ≡ 0 → p.limit ≤ length p.line.items)
    → (0 < length front → get_or front 0 0 ≡ byte "\n") → (get_or piece 0 0 ≡ byte "\n" → ⊥) → halt ≡ halts (Refused LineTooLong) p.offset p.number
    → Feeds {T = T} (building p None) held (building p) held piece (Err halt)
too_long T p held piece front m halt some within e room newline not is =
    let passed : nat_lt (length p.line.items) p.limit ≡ false = le-ltb (length p.line.items) p.limit (room (full piece front m e some newline not)) in
    let going : nat_le INPUT_LIMIT (read (line_at p)) ≡ false = above_not_within INPUT_LIMIT (read (line_at p)) within in
    let other : (get_or piece 0 0 == byte "\n") ≡ false = ne_eqb (get_or piece 0 0) (byte "\n") not in
    subst (λ (x : BuildHalt). Feeds {T = T} (building p None) held (building p) held piece (Err x)) (sym is)
    (feeds_first T (building p None) p held held piece (halts (Refused LineTooLong) p.offset p.number) some (
      no_room (nat_le INPUT_LIMIT (read (line_at p))) (get_or piece 0 0 == byte "\n") (nat_lt (length p.line.items) p.limit) _ _ _ _ going other passed,
      sym (known_nothing held) ∙ ap (append_known held) (silent (nat_le INPUT_LIMIT (read (line_at p))) (get_or piece 0 0 == byte "\n") _ going other),
    ))
  where
    silent : (cut newline : Bool) (bs : List ℕ) → cut ≡ false → newline ≡ false → [] ≡ cond cut [] (cond newline bs [])
    silent true newline bs x y = refl
    silent false true bs x y = absurd (cc)
    silent false false bs x y = refl

-- ---- a newline

-- a newline that halts it
pub newline_halts : (U : Type 0) (p q : LineReader) (held holds : Option (List ℕ)) (piece : List ℕ) (halt : BuildHalt) (r : Result ℕ BuildHalt) → 0 < length piece → read (line_at p) < INPUT_LIMIT → get_or piece 0 0 ≡ byte "\n"
    → Reaches {T = U} held holds (building q) (line_taken (building p None)) (line_writes (building p None)) (Err halt) → IsErrAnd r (λ x. x ≡ halt) → Feeds (building p None) held (building q) holds (bytes_read r piece) r
newline_halts U p q held holds piece halt (Ok n) some within is h e = absurd e
newline_halts U p q held holds piece halt (Err x) some within is h e =
    subst (λ (y : BuildHalt). Feeds {T = ℕ} (building p None) held (building q) holds piece (Err y)) (sym e)
    (feeds_first ℕ (building p None) q held holds piece halt some
    (same halt (subst (λ (b : ℕ). build_step (building p None) b ≡ line_taken (building p None)) (sym is) (newline_taken p.file (line_at p) within)) (subst (λ (b : ℕ). build_writes (building p None) b ≡ line_writes (building p None)) (sym is) (newline_writes p.file (line_at p) within)) h))
  where
    same : (halt : BuildHalt) {s t : BuildState} {xs ys : List ℕ} → t ≡ s → ys ≡ xs → Reaches {T = U} held holds (building q) s xs (Err halt) → Reaches {T = ℕ} held holds (building q) t ys (Err halt)
    same (Refused stop) {s} {t} {xs} {ys} e f h = (h.0 ∙ sym e, h.1 ∙ ap (append_known held) (sym f))
    same Output {s} {t} {xs} {ys} e f h = subst (AppendsFront held holds) (sym f) h
