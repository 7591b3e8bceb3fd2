-- Texts that are written as characters, part by part.
use Rattle.std.proofs.Common.{◌≡◌, ◌∙◌, sym, ap, refl, subst, ℕ, true, List, [], ◌++◌, Option, append-nil, append_assoc}
use Rattle.std.specs.Prelude.{flat_map, Result, IsErr}
use Rattle.std.specs.Io.KnownBytes.{append_known}
use Rattle.dcm_lemmas.proofs.Options.{known_nothing, known_twice}
use Rattle.dcm_devices.specs.Device.{AppendsFront, Puts}
use Rattle.dcm_devices.proofs.Writes.Puts.{puts_behind, puts_err, front_longer}
use Rattle.dcm_text.specs.declared.set.TextKind.{TextKind}
use Rattle.dcm_text.specs.declared.sets.Sets.{Sets}
use Rattle.dcm_text.specs.Decoding.{Piece}
use Rattle.dcm_text.specs.Runs.{State, Run, begun, onto, run}
use Rattle.dcm_text.specs.Shown.{dumped, dumped_piece}
use Rattle.dcm_text.proofs.Runs.{whole_run}

-- ---- what went out so far

pub record TextSoFar (old now : Option (List ℕ)) (all rest : List ℕ) : Type 0 where
  pub first : List ℕ
  pub whole : all ≡ first ++ rest
  pub grown : now ≡ append_known old first

pub text_none : (old : Option (List ℕ)) (all : List ℕ) → TextSoFar old old all all
text_none old all = record { first = []; whole = refl; grown = sym (known_nothing old) }

pub text_more : {old mid : Option (List ℕ)} {all rest : List ℕ} (new : Option (List ℕ)) (more after : List ℕ) → TextSoFar old mid all rest → rest ≡ more ++ after → new ≡ append_known mid more → TextSoFar old new all after
text_more {old} {mid} {all} {rest} new more after s e g = record {
  first = s.first ++ more;
  whole = s.whole ∙ ap (λ (x : List ℕ). s.first ++ x) e ∙ sym (append_assoc s.first more after);
  grown = g ∙ ap (λ (k : Option (List ℕ)). append_known k more) s.grown ∙ known_twice old s.first more;
}

-- the next of them broke off
pub text_failed : {T E : Type 0} {old mid : Option (List ℕ)} {all rest : List ℕ} (new : Option (List ℕ)) (more after : List ℕ) (r : Result T E) → TextSoFar old mid all rest → rest ≡ more ++ after → IsErr r → AppendsFront mid new more → Puts old new all r
text_failed {T} {E} {old} {mid} {all} {rest} new more after r s e failed front =
    subst (λ (x : List ℕ). Puts {T = T} {E = E} old new x r) (sym s.whole)
    (puts_behind old mid new s.first rest r s.grown (puts_err mid new rest r failed (subst (AppendsFront mid new) (sym e) (front_longer after front))))

pub all_written : (old now : Option (List ℕ)) (all rest : List ℕ) → TextSoFar old now all rest → rest ≡ [] → now ≡ append_known old all
all_written old now all rest s e =
    s.grown ∙ ap (append_known old) (sym (s.whole ∙ ap (λ (r : List ℕ). s.first ++ r) e ∙ append-nil s.first))

-- ---- what a run shows

abbrev pub shown : Run → List ℕ
shown r = flat_map dumped_piece r.0

pub dumped_run : (sets : Sets) (kind : TextKind) (text : List ℕ) (s : State) → s ≡ begun sets kind
    → dumped sets kind text ≡ shown (run true s text)
unfolding dumped
dumped_run sets kind text s e =
    ap (λ (ps : List Piece). flat_map dumped_piece ps) (sym (whole_run sets kind text))
    ∙ ap (λ (x : State). shown (run true x text)) (sym e)

pub shown_step : (r q : Run) (p : Piece) (bytes : List ℕ) → r ≡ onto p q → bytes ≡ dumped_piece p → shown r ≡ bytes ++ shown q
shown_step r q p bytes e h = ap shown e ∙ ap (λ (b : List ℕ). b ++ shown q) (sym h)
