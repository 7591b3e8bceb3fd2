-- Lines one after another: after lines that failed no others are tried.
use Rattle.std.proofs.Common.{◌≡◌, ◌≢◌, ◌∙◌, ap, refl, ℕ, zero, suc, List, ◌++◌, Bool, true, false, Option, Result, Ok, Err, inl, inr}
use Rattle.std.specs.Prelude.{is_err}
use Rattle.std.specs.Io.KnownBytes.{append_known}
use Rattle.dcm_lemmas.proofs.Options.{known_twice}
use Rattle.dcm_devices.specs.Device.{AppendsFront, Puts, Tells}
use Rattle.dcm_devices.proofs.Writes.Puts.{front_longer, puts_behind}
use Rattle.dcm_cli.specs.ErrorLines.{Tries, emptied_line, emptied_lines}
use Rattle.dcm_cli.proofs.Passes.Alone.{put_failed, put_whole}

failed_now : {T E : Type 0} (old new : Bool) (r : Result T E) → is_err r ≡ true → Tells old new r → new ≡ true
failed_now old new (Ok x) e h = cc
failed_now old new (Err x) e h = h

as_before : {T E : Type 0} (old new : Bool) (r : Result T E) → is_err r ≡ false → Tells old new r → new ≡ old
as_before old new (Ok x) e h = h
as_before old new (Err x) e h = cc

-- the first ones fail
pub first_fails : {T E : Type 0} (held holds : Option (List ℕ)) (old new : Bool) (first more : List ℕ) (r : Result T E) → is_err r ≡ true → Puts held holds first r → Tells old new r → Tries held holds old new (first ++ more)
first_fails held holds old new first more r e bytes tells = inr (front_longer more (put_failed held holds first r e bytes), failed_now old new r e tells)

-- or go out, and then the others are tried
pub both_tried : {T E : Type 0} (held mid holds : Option (List ℕ)) (old now new : Bool) (first more : List ℕ) (r : Result T E) → is_err r ≡ false → Puts held mid first r → Tells old now r → Tries mid holds now new more → Tries held holds old new (first ++ more)
both_tried held mid holds old now new first more r e bytes tells (inl x) =
    inl (x.0 ∙ ap (λ (known : Option (List ℕ)). append_known known more) (put_whole held mid first r e bytes) ∙ known_twice held first more, x.1 ∙ as_before old now r e tells)
both_tried held mid holds old now new first more r e bytes tells (inr x) =
    inr (puts_behind {T = Unit {0}} {E = Unit {0}} held mid holds first more (Err tt) (put_whole held mid first r e bytes) x.0, x.1)

-- where dates were emptied there is a line
pub some_emptied : (count : ℕ) → count ≢ 0 → emptied_line count ≡ emptied_lines count
some_emptied zero none = absurd (none refl)
some_emptied (suc n) none = refl
