-- A machine with the cells of a table over the bytes of a data set.
use Rattle.std.proofs.Common.{◌≡◌, ◌∙◌, ap, sym, subst, refl, ℕ, zero, suc, ◌+◌, ◌≤◌, List, [], ◌∷◌, ◌++◌, length, Bool, true, false, Option, Some, None, inl, inr, arith}
use Rattle.std.specs.Prelude.{fold, ◌⊎◌, ◌||◌}
use Rattle.std.proofs.Math.Path.{fun_ext}
use Rattle.std.proofs.lemmas.List.{append-nil}
use Rattle.std.proofs.lemmas.List.Sums.{fold-append}
use Rattle.dcm_lemmas.proofs.Lists.{no_front as some_more}
use Rattle.dcm_base.specs.declared.tag.Tag.{Tag}
use Rattle.dcm_base.specs.declared.vr.Vr.{Vr}
use Rattle.dcm_base.specs.declared.length.Length.{Length}
use Rattle.dcm_base.specs.declared.syntax.Syntax.{Syntax}
use Rattle.dcm_base.specs.declared.fault.Fault.{Fault}
use Rattle.dcm_base.specs.Tables.Tag.{below}
use Rattle.dcm_base.specs.Tree.Front.{Front, front}
use Rattle.dcm_base.specs.Bytes.Spelling.{SpellsFront}
use Rattle.dcm_base.specs.Steps.Atoms.{Atom, Shows, front_atoms, is_closed}
use Rattle.dcm_base.specs.Steps.Steps.{outputs}
use Rattle.dcm_base.specs.Reading.Reads.{INPUT_LIMIT, Reads, ended}
use Rattle.dcm_base.specs.Reading.Stop.{Stop, HeadBar, complete, refused, is_early_bar, is_undecided}
use Rattle.dcm_base.proofs.DataSets.Shown.{front_shown}
use Rattle.dcm_devices.specs.Device.{AppendsFront}
use Rattle.dcm_stream.specs.Reading.{Reading, start_of, read_byte, reads_byte, read_all, finish, end_shows}
use Rattle.dcm_stream.specs.Driven.{bars_by, driven, driven_output, EndsAs, RefusesAs, WaitsAs}
use Rattle.dcm_stream.specs.Machine.{next_offset}
use Rattle.dcm_stream.proofs.Heads.Stops.{NeverEarly}
use Rattle.dcm_stream.proofs.Steps.Follows.{follows, answers}
use Rattle.dcm_stream.proofs.Runs.Inputs.{driven_is, output_is, ends_by, refuses_by, waits_by}
use Rattle.dcm_sinks.proofs.ReadBack.Shallow.{machine_shallow}
use Rattle.dcm_sinks.proofs.ReadBack.IsRead.{far_read, unclosed, whole_read}
use Rattle.dcm_table.specs.Shown.{AllSettled, Held, decided_at, decided_by, front_unknown, held_by, held_with, open_after, table_bar, tabled}
use Rattle.dcm_table.specs.TableSink.{State, next, writes, table_bar_of}
use Rattle.dcm_table.proofs.BarAtoms.{tabled_bars}
use Rattle.dcm_table.proofs.BarCells.{bars_tell}
use Rattle.dcm_table.proofs.RowCells.{held_at, rows_fill, so_far_fill}
use Rattle.dcm_cli.specs.declared.ending.Ending.{Ending}
use Rattle.dcm_cli.specs.declared.ending.Ending.TheVariants.{Unread}
use Rattle.dcm_cli.specs.Pass.{Ends, at_end, at_fault, halted, unread, unwritten, end_unwritten, after_bytes}
use Rattle.dcm_tables.specs.declared.file.FileEnd.TheVariants.{Read}
use Rattle.dcm_tables.specs.Files.{set_end}
use Rattle.dcm_tables.specs.RowOf.{end_of}

-- ---- bars

decided_late : (b : Bool) → is_early_bar (decided_by b) ≡ false
decided_late true = refl
decided_late false = refl

late_at : (n : ℕ) (b : Bool) → is_early_bar (decided_at n b) ≡ false
late_at zero b = decided_late b
late_at (suc n) b = refl

pub late : (g : Tag) (atoms : List Atom) → NeverEarly (tabled g atoms)
late g atoms = λ tag vr declared. late_at (fold open_after 0 atoms) (below g tag)

-- two bars that agree on all that the machine shows
module _ (bars other : List Atom → HeadBar) (s : Syntax) (start : ℕ) (agree : (bytes : List ℕ) → bars (read_all other s start bytes).1 ≡ other (read_all other s start bytes).1) where
  alike_from : (before rest : List ℕ) → fold (reads_byte bars) (read_all other s start before) rest ≡ fold (reads_byte other) (read_all other s start before) rest
  alike_from before [] = refl
  alike_from before (b ∷ rest) =
      let p : Reading × List Atom = read_all other s start before in
      let one : reads_byte bars p b ≡ reads_byte other p b = ap (λ (h : HeadBar). ((read_byte h p.0 b).0, p.1 ++ (read_byte h p.0 b).1)) (agree before) in
      let more : reads_byte other p b ≡ read_all other s start (before ++ b ∷ []) = sym (fold-append (reads_byte other) _ before (b ∷ [])) in
      ap (λ (q : Reading × List Atom). fold (reads_byte bars) q rest) (one ∙ more)
      ∙ alike_from (before ++ b ∷ []) rest
      ∙ ap (λ (q : Reading × List Atom). fold (reads_byte other) q rest) (sym more)

  reads_alike : (bytes : List ℕ) → read_all bars s start bytes ≡ read_all other s start bytes
  reads_alike bytes = alike_from [] bytes

-- ---- nothing is written

nothing_out : (t : State) (atoms : List Atom) → outputs next writes t atoms ≡ []
nothing_out t [] = refl
nothing_out t (a ∷ atoms) = nothing_out (next t a) atoms

no_front : (held holds : Option (List ℕ)) (bytes : List ℕ) → bytes ≡ [] → AppendsFront held holds bytes → ⊥
no_front held holds bytes none h = some_more h.front h.next h.rest (sym none ∙ h.whole)

-- whether a data set has ended has no influence on what it names
unknown_ended : (stop : Stop) (f : Front) → front_unknown (ended stop f) ≡ front_unknown f
unknown_ended complete (front trees o reached closed) = refl
unknown_ended (refused fault offset) f = refl

-- ---- the machine

record ShowsNow (atoms : List Atom) : Type 0 where
  f : Front
  shown : Shows f atoms

module _ (g : Tag) (held : Held) (settles : AllSettled held.slots) (s : Syntax) (start : ℕ) (le : start ≤ INPUT_LIMIT) where
  abbrev first : State
  first = held_at g held

  shows_read : (bytes : List ℕ) (f : Front) (fault : Fault) (offset : ℕ) → Reads (table_bar g) s start bytes f (refused fault offset) → Shows f (front_atoms s f)
  shows_read bytes f fault offset (reached, why, first, said, is) = subst (λ (x : Front). Shows x (front_atoms s x)) (sym is) (front_shown s reached first.read first.spelled)

  shows_now : (bytes : List ℕ) → ShowsNow (read_all (tabled g) s start bytes).1
  shows_now bytes =
      elim (follows (tabled g) (table_bar g) (tabled_bars g) s start bytes le) [
        | inl h ↦ record { f = h.f; shown = subst (λ (x : List Atom). Shows h.f x) (sym h.atoms_are) (front_shown s h.f h.read h.spelled) }
        | inr h ↦ record { f = h.f; shown = subst (λ (x : List Atom). Shows h.f x) (sym h.atoms_are) (shows_read (bytes ++ []) h.f h.fault h.offset (h.reads [])) }
      ]

  agree_now : (read : List ℕ) → bars_by table_bar_of next first (read_all (tabled g) s start read).1 ≡ tabled g (read_all (tabled g) s start read).1
  agree_now read =
      let now = shows_now read in
      let atoms : List Atom = (read_all (tabled g) s start read).1 in
      fun_ext (λ (tag : Tag). fun_ext (λ (vr : Vr). fun_ext (λ (declared : Length).
      bars_tell g held now.f atoms tag vr declared settles (machine_shallow (tabled g) (late g) s start read) now.shown ∙ sym ((tabled_bars g).agree now.f atoms now.shown tag vr declared))))

  read_same : (bytes : List ℕ) → read_all (bars_by table_bar_of next first) s start bytes ≡ read_all (tabled g) s start bytes
  read_same bytes = reads_alike (bars_by table_bar_of next first) (tabled g) s start agree_now bytes

  driven_same : (bytes : List ℕ) → driven table_bar_of next first s start bytes ≡ ((read_all (tabled g) s start bytes).0, fold next first (read_all (tabled g) s start bytes).1)
  driven_same bytes = driven_is table_bar_of next writes first s start bytes ∙ ap (λ (q : Reading × List Atom). (q.0, fold next first q.1)) (read_same bytes)

  output_same : (bytes : List ℕ) → driven_output table_bar_of next writes first s start bytes ≡ outputs next writes first (read_all (tabled g) s start bytes).1
  output_same bytes = output_is table_bar_of next writes first s start bytes ∙ ap (λ (q : Reading × List Atom). outputs next writes first q.1) (read_same bytes)

  written_none : (bytes : List ℕ) → driven_output table_bar_of next writes first s start bytes ≡ []
  written_none bytes = output_same bytes ∙ nothing_out first (read_all (tabled g) s start bytes).1

  -- the input ends with the bytes, or the machine is halted, or it is not
  table_ends : (bytes : List ℕ) → EndsAs table_bar_of next writes (table_bar g) first s start bytes
  table_ends bytes =
      let q = read_all (tabled g) s start bytes in
      ends_by table_bar_of next writes (table_bar g) first s start bytes q.0 q.1 (driven_same bytes) (output_same bytes) (answers (tabled g) (table_bar g) (tabled_bars g) s start bytes le)

  pub table_refuses : (bytes : List ℕ) (fault : Fault) (offset : ℕ) → (driven table_bar_of next first s start bytes).0.halt ≡ Some (refused fault offset) → RefusesAs table_bar_of next writes (table_bar g) first s start bytes fault offset
  table_refuses bytes fault offset is =
      let q = read_all (tabled g) s start bytes in
      refuses_by table_bar_of next writes (table_bar g) first s start bytes q.0 q.1 fault offset (driven_same bytes) (output_same bytes) is (follows (tabled g) (table_bar g) (tabled_bars g) s start bytes le)

  pub table_waits : (bytes : List ℕ) → (driven table_bar_of next first s start bytes).0.halt ≡ None → WaitsAs table_bar_of next writes (table_bar g) first s start bytes
  table_waits bytes is =
      let q = read_all (tabled g) s start bytes in
      waits_by table_bar_of next writes (table_bar g) first s start bytes q.0 q.1 (driven_same bytes) (output_same bytes) is (follows (tabled g) (table_bar g) (tabled_bars g) s start bytes le)

  -- it is one of both
  pub table_halts : (bytes : List ℕ) → ((driven table_bar_of next first s start bytes).0.halt ≡ None) ⊎ ((fault : Fault) × (offset : ℕ) × ((driven table_bar_of next first s start bytes).0.halt ≡ Some (refused fault offset)))
  table_halts bytes =
      let same : (driven table_bar_of next first s start bytes).0.halt ≡ (read_all (tabled g) s start bytes).0.halt = ap (λ (q : Reading × State). q.0.halt) (driven_same bytes) in
      elim (follows (tabled g) (table_bar g) (tabled_bars g) s start bytes le) [
        | inl h ↦ inl (same ∙ h.going)
        | inr h ↦ inr (h.fault, h.offset, same ∙ h.halt_is)
      ]

  -- the cells after what was read
  cells_of : (bytes : List ℕ) (f : Front) (stop : Stop) (t : State) → Reads (table_bar g) s start bytes f stop → t ≡ fold next first (front_atoms s f) → held_by t ≡ held_with s f held
  cells_of bytes f stop t reads is =
      ap held_by is
      ∙ rows_fill g held (table_bar g) s start bytes f stop settles (whole_read (tabled g) (table_bar g) (tabled_bars g) (late g) s start bytes le f stop reads).shallow reads

  -- ---- more bytes can still change how the reading of these ends

  pub record SetUndecided (bytes : List ℕ) : Type 0 where
    pub f : Front
    pub stop : Stop
    pub reads : Reads (table_bar g) s start bytes f stop
    pub undecided : is_undecided (Some stop) ≡ true

  pub set_undecided : (bytes : List ℕ) → (driven table_bar_of next first s start bytes).0.halt ≡ None → SetUndecided bytes
  set_undecided bytes none =
      let w = table_waits bytes none in
      let stop : Stop = finish (driven table_bar_of next first s start bytes).0 in
      record { f = ended stop w.f; stop = stop; reads = w.reads; undecided = w.undecided }

  open_same : (f : Front) → is_closed f ≡ false → unclosed f ≡ f
  open_same (front whole o reached closed) c = ap (front whole o reached) (sym c)

  -- what was named until then
  unread_unknown : (bytes : List ℕ) (none : (driven table_bar_of next first s start bytes).0.halt ≡ None) (t : State) → t ≡ (driven table_bar_of next first s start bytes).1 → t.unknown ≡ (front_unknown (set_undecided bytes none).f || held.unknown)
  unfolding set_undecided finish
  unread_unknown bytes none t is =
      let w = table_waits bytes none in
      let stop : Stop = finish (driven table_bar_of next first s start bytes).0 in
      let r = far_read (tabled g) (table_bar g) (tabled_bars g) (late g) s start bytes le w.f stop w.not_closed w.reads in
      ap (λ (x : State). x.unknown) (is ∙ w.state)
      ∙ ap (λ (x : Held). x.unknown) (so_far_fill g held s w.f r.bytes (subst (λ (x : Front). SpellsFront s x r.bytes) (open_same w.f w.not_closed) r.spelled) settles r.shallow)
      ∙ ap (λ (x : Bool). x || held.unknown) (sym (unknown_ended stop w.f))

  -- ---- how a pass over a data set ended

  pub data SetTaken (read rest : List ℕ) (t : State) (ending : Ending) : Type 0 where
    taken : (f : Front) (stop : Stop) → Reads (table_bar g) s start (read ++ rest) f stop → held_by t ≡ held_with s f held → set_end ending ≡ Read (end_of stop) → SetTaken read rest t ending
    not_taken : (u : SetUndecided read) → t.unknown ≡ (front_unknown u.f || held.unknown) → ending ≡ Unread (start + length read) → SetTaken read rest t ending

  ended_there : (read rest : List ℕ) (t : State) (ending : Ending) (stop : Stop) → rest ≡ [] → finish (after_bytes table_bar_of next (start_of s start) first read).0 ≡ stop
      → t ≡ fold next (after_bytes table_bar_of next (start_of s start) first read).1 (end_shows stop) → set_end ending ≡ Read (end_of stop) → SetTaken read rest t ending
  ended_there read rest t ending stop none fin is end =
      let e = table_ends read in
      let here : Reads (table_bar g) s start read e.f stop = subst (λ (x : Stop). Reads (table_bar g) s start read e.f x) fin e.reads in
      let state : t ≡ fold next first (front_atoms s e.f) = is ∙ ap (λ (x : Stop). fold next (driven table_bar_of next first s start read).1 (end_shows x)) (sym fin) ∙ e.state in
      let whole : read ≡ read ++ rest = sym (ap (λ (bs : List ℕ). read ++ bs) none ∙ append-nil read) in
      taken e.f stop (subst (λ (bs : List ℕ). Reads (table_bar g) s start bs e.f stop) whole here) (cells_of read e.f stop t here state) end

  starts_at : (n : ℕ) → next_offset (start_of s n) ≡ n
  starts_at n = omega arith

  pub set_taken : (read rest : List ℕ) (t : State) (ending : Ending) → Ends table_bar_of next writes (start_of s start) first None (Some rest) t None read ending → SetTaken read rest t ending
  set_taken read rest t ending (at_end over none fin is last e) = ended_there read rest t ending complete over fin last (ap set_end is)
  set_taken read rest t ending (at_fault stop over none fin is state e) = ended_there read rest t ending (refused stop.fault stop.at) over fin state (ap set_end is)
  set_taken read rest t ending (halted stop halt is state e) =
      let r = table_refuses read stop.fault stop.at halt in
      let reads = r.reads rest in
      taken r.f (refused stop.fault stop.at) reads (cells_of (read ++ rest) r.f (refused stop.fault stop.at) t reads (state ∙ r.state)) (ap set_end is)
  set_taken read rest t ending (unread none is state e) = not_taken (set_undecided read none) (unread_unknown read none t state) (is ∙ ap (λ (n : ℕ). Unread (n + length read)) (starts_at start))
  set_taken read rest t ending (unwritten is beginning) = absurd (no_front None None _ (written_none read) beginning)
  set_taken read rest t ending (end_unwritten over none is beginning) =
      absurd (no_front None None _
      (ap (λ (bs : List ℕ). bs ++ outputs next writes (driven table_bar_of next first s start read).1 (end_shows (finish (driven table_bar_of next first s start read).0))) (written_none read)
      ∙ nothing_out (driven table_bar_of next first s start read).1 (end_shows (finish (driven table_bar_of next first s start read).0))) beginning)
