-- What a call does to its output, by the members of the writer.
use Rattle.std.specs.Prelude.{ℕ, List, Result}
pub use Rattle.dcm_devices.specs.Writing.{Writer}
use Rattle.dcm_devices.specs.Device as device
use Rattle.dcm_base.specs.Steps.Steps as steps

-- these bytes went out, or a beginning of them where the call failed
abbrev pub Puts : {W T E : Type 0} → Writer W → (old new : W) → List ℕ → Result T E → Type 0
Puts w old new bytes r = device.Puts (w.contents old) (w.contents new) bytes r

-- an Err leaves the writer failed, and an Ok leaves that as it was
abbrev pub Tells : {W T E : Type 0} → Writer W → (old new : W) → Result T E → Type 0
Tells w old new r = device.Tells (w.has_failed old) (w.has_failed new) r

-- from a state to another, all of a list was gone over, or a beginning of what it writes went out where the call failed
abbrev pub Goes : {S A W T E : Type 0} → (S → A → S) → (S → A → List ℕ) → Writer W → (held holds : W) → (old new : S)
    → List A → Result T E → Type 0
Goes step writes w held holds old new xs r = steps.Goes step writes old (w.contents held) new (w.contents holds) xs r

-- it went so, and an Err leaves the writer failed
pub record Went {S A W T E : Type 0} (step : S → A → S) (writes : S → A → List ℕ) (w : Writer W) (held holds : W)
    (old new : S) (xs : List A) (r : Result T E) : Type 0 where
  pub goes : Goes step writes w held holds old new xs r
  pub failed : Tells w held holds r
