-- What went out of a text so far.
use Rattle.std.proofs.Common.{◌≡◌, ◌∙◌, sym, ap, refl, subst, ℕ, List, [], ◌∷◌, ◌++◌, length, replicate, suc, ◌+◌, ◌-◌, ◌<◌, ◌≤◌, arith, Bool, true, Ok, Err, Option, append-nil, append_assoc}
use Rattle.std.specs.Prelude.{Result, IsErr}
use Rattle.std.specs.Io.KnownBytes.{append_known}
use Rattle.dcm_lemmas.proofs.Truth.{false_true}
use Rattle.dcm_lemmas.proofs.Options.{known_nothing, known_twice}
use Rattle.dcm_devices.specs.Device.{AppendsFront, Puts, Tells}
use Rattle.dcm_devices.specs.Writing.{Writer, Wrote}
use Rattle.dcm_devices.proofs.Writes.Puts.{puts_behind, puts_err, front_longer}

pub record SoFar (old now : Option (List ℕ)) (all rest : List ℕ) : Type 0 where
  pub first : List ℕ
  pub whole : all ≡ first ++ rest
  pub grown : now ≡ append_known old first

pub none_yet : (old : Option (List ℕ)) (all : List ℕ) → SoFar old old all all
none_yet old all = record { first = []; whole = refl; grown = sym (known_nothing old) }

pub one_more : {old mid : Option (List ℕ)} {all rest : List ℕ} (new : Option (List ℕ)) (more after : List ℕ) → SoFar old mid all rest → rest ≡ more ++ after → new ≡ append_known mid more → SoFar old new all after
one_more {old} {mid} {all} {rest} new more after s e g = record {
  first = s.first ++ more;
  whole = s.whole ∙ ap (λ (x : List ℕ). s.first ++ x) e ∙ sym (append_assoc s.first more after);
  grown = g ∙ ap (λ (k : Option (List ℕ)). append_known k more) s.grown ∙ known_twice old s.first more;
}

pub SoFar_of : {old now : Option (List ℕ)} {all rest same : List ℕ} → SoFar old now all rest → rest ≡ same → SoFar old now all same
SoFar_of {old} {now} {all} {rest} {same} s e = subst (SoFar old now all) e s

-- the next of them broke off
pub next_failed : {T E : Type 0} {old mid : Option (List ℕ)} {all rest : List ℕ} (new : Option (List ℕ)) (more after : List ℕ) (r : Result T E) → SoFar old mid all rest → rest ≡ more ++ after → IsErr r → AppendsFront mid new more → Puts old new all r
next_failed {T} {E} {old} {mid} {all} {rest} new more after r s e failed front =
    subst (λ (x : List ℕ). Puts {T = T} {E = E} old new x r) (sym s.whole)
    (puts_behind old mid new s.first rest r s.grown (puts_err mid new rest r failed (subst (AppendsFront mid new) (sym e) (front_longer after front))))

pub all_out : {old now : Option (List ℕ)} {all rest : List ℕ} → SoFar old now all rest → rest ≡ [] → now ≡ append_known old all
all_out {old} {now} {all} {rest} s e =
    s.grown ∙ ap (append_known old) (sym (s.whole ∙ ap (λ (r : List ℕ). s.first ++ r) e ∙ append-nil s.first))

-- the last of them
pub last_out : {T E : Type 0} {old mid : Option (List ℕ)} {all rest : List ℕ} (new : Option (List ℕ)) (r : Result T E) → SoFar old mid all rest → Puts mid new rest r → Puts old new all r
last_out {T} {E} {old} {mid} {all} {rest} new r s put =
    subst (λ (x : List ℕ). Puts {T = T} {E = E} old new x r) (sym s.whole) (puts_behind old mid new s.first rest r s.grown put)

-- the same bytes
pub wrote_as : {W T E : Type 0} {w : Writer W} {old new : W} {all : List ℕ} {r : Result T E} (same : List ℕ) → all ≡ same → Wrote w old new all r → Wrote w old new same r
wrote_as {W} {T} {E} {w} {old} {new} {all} {r} same e h = subst (λ (x : List ℕ). Wrote {T = T} {E = E} w old new x r) e h

-- ---- two parts, one after another

pub failed_first : {W T E : Type 0} {w : Writer W} {old new : W} {first : List ℕ} (second : List ℕ) (r : Result T E) → IsErr r → AppendsFront (w.contents old) (w.contents new) first → w.has_failed new ≡ true → Wrote w old new (first ++ second) r
failed_first second (Err x) failed front told = record { bytes = front_longer second front; failed = told }
failed_first second (Ok x) failed front told = absurd (false_true failed)

pub failed_alone : {W T E : Type 0} {w : Writer W} {old new : W} {all : List ℕ} (r : Result T E) → IsErr r → AppendsFront (w.contents old) (w.contents new) all → w.has_failed new ≡ true → Wrote w old new all r
failed_alone (Err x) failed front told = record { bytes = front; failed = told }
failed_alone (Ok x) failed front told = absurd (false_true failed)

pub both_out : {W T E : Type 0} {w : Writer W} {old mid new : W} (first : List ℕ) {second : List ℕ} {r : Result T E} → w.contents mid ≡ append_known (w.contents old) first → w.has_failed mid ≡ w.has_failed old → Wrote w mid new second r → Wrote w old new (first ++ second) r
both_out {W} {T} {E} {w} {old} {mid} {new} first {second} {r} out same h = record {
  bytes = puts_behind (w.contents old) (w.contents mid) (w.contents new) first second r out h.bytes;
  failed = tells_behind (w.has_failed old) (w.has_failed mid) (w.has_failed new) r same h.failed;
}
  where
    tells_behind : (old mid new : Bool) (r : Result T E) → mid ≡ old → Tells mid new r → Tells old new r
    tells_behind old mid new (Ok x) e h = h ∙ e
    tells_behind old mid new (Err x) e h = h

-- ---- lists

pub nothing_left : (bytes : List ℕ) → length bytes ≡ 0 → bytes ≡ []
nothing_left [] e = refl
nothing_left (b ∷ bs) e = absurd (omega (arith, e))

pub one_left : (n i : ℕ) → i < n → replicate {A = ℕ} (n - i) 32 ≡ 32 ∷ replicate {A = ℕ} (n - (i + 1)) 32
one_left n i h = let e : n - i ≡ suc (n - (i + 1)) = omega (arith, h) in ap (λ (k : ℕ). replicate {A = ℕ} k 32) e

pub none_left : (n i : ℕ) → n ≤ i → replicate {A = ℕ} (n - i) 32 ≡ []
none_left n i h = let e : n - i ≡ 0 = omega (arith, h) in ap (λ (k : ℕ). replicate {A = ℕ} k 32) e
