-- Texts that are written as characters, part by part.
use Rattle.std.proofs.Common.{arith, Bool, false, nat_lt, refl, ◌∷◌}
use Rattle.std.specs.Prelude.{◌&&◌, ◌==◌, not, nat_le}
use Rattle.std.specs.List.{list_all}
use Rattle.std.proofs.lemmas.Bool.Decides.{nat_tests}
use Rattle.dcm_lemmas.proofs.Truth.{and_both, and_first, and_second}
use Rattle.dcm_text.specs.Laws.{is_plain}
use Rattle.dcm_text.proofs.Displays.{ascii_cell}
use Rattle.std.proofs.Common.{◌≡◌, ◌∙◌, sym, ap, ℕ, true, List, [], ◌++◌, Option, append-nil}
use Rattle.std.specs.Prelude.{flat_map}
use Rattle.std.specs.Io.KnownBytes.{append_known}
use Rattle.std.proofs.lemmas.Grind.{flat_map-append}
use Rattle.dcm_text.specs.declared.set.TextKind.{TextKind}
use Rattle.dcm_text.specs.declared.sets.Sets.{Sets}
use Rattle.dcm_text.specs.Decoding.{Piece}
use Rattle.dcm_text.specs.Runs.{State, Run, begun, onto, run}
use Rattle.dcm_text.specs.Shown.{cell, cell_piece}
use Rattle.dcm_text.proofs.Runs.{whole_run}
use Rattle.dcm_table.specs.Quoted.{doubled, doubled_byte}
use Rattle.dcm_sinks.proofs.DecodedDumps.Characters.{TextSoFar}

-- what a run shows, with quotes doubled
abbrev pub shown : Run → List ℕ
shown r = doubled (flat_map cell_piece r.0)

pub cell_run : (sets : Sets) (kind : TextKind) (text : List ℕ) (s : State) → s ≡ begun sets kind
    → doubled (cell sets kind text) ≡ shown (run true s text)
unfolding cell
cell_run sets kind text s e =
    ap (λ (ps : List Piece). doubled (flat_map cell_piece ps)) (sym (whole_run sets kind text))
    ∙ ap (λ (x : State). shown (run true x text)) (sym e)

pub shown_step : (r q : Run) (p : Piece) (bytes : List ℕ) → r ≡ onto p q → bytes ≡ cell_piece p → shown r ≡ doubled bytes ++ shown q
shown_step r q p bytes e h =
    ap shown e ∙ flat_map-append doubled_byte (cell_piece p) (flat_map cell_piece q.0)
    ∙ ap (λ (b : List ℕ). doubled b ++ shown q) (sym h)

pub all_written : (old now : Option (List ℕ)) (all rest : List ℕ) → TextSoFar old now all rest → rest ≡ [] → now ≡ append_known old all
all_written old now all rest s e =
    s.grown ∙ ap (append_known old) (sym (s.whole ∙ ap (λ (r : List ℕ). s.first ++ r) e ∙ append-nil s.first))

-- ---- ASCII without controls

abbrev pub printable : ℕ → Bool
printable b = nat_le 0x20 b && nat_le b 0x7E

low : (b : ℕ) → printable b ≡ true → nat_lt b 0x80 ≡ true
low b e = grind (arith, nat_tests)

no_escape : (b : ℕ) → printable b ≡ true → (b == 0x1B) ≡ false
no_escape b e = grind (arith, nat_tests)

plain_byte : (sets : Sets) (b : ℕ) → printable b ≡ true → is_plain sets b ≡ true
plain_byte sets b e = and_both (nat_lt b 0x80) _ (low b e) (by_escape (b == 0x1B) sets.extended (no_escape b e))
  where
    by_escape : (t x : Bool) → t ≡ false → not (t && x) ≡ true
    by_escape true x h = cc
    by_escape false x h = refl

all_plain : (sets : Sets) (text : List ℕ) → list_all printable text ≡ true → list_all (is_plain sets) text ≡ true
all_plain sets [] e = refl
all_plain sets (b ∷ text) e =
    and_both (is_plain sets b) (list_all (is_plain sets) text) (plain_byte sets b (and_first (printable b) (list_all printable text) e))
    (all_plain sets text (and_second (printable b) (list_all printable text) e))

pub printable_cell : (sets : Sets) (kind : TextKind) (text : List ℕ) → list_all printable text ≡ true → text ≡ cell sets kind text
printable_cell sets kind text e = sym (ascii_cell sets kind text (all_plain sets text e))
