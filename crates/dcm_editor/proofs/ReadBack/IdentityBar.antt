-- The bar where identity is taken out, by the atoms so far.
use Rattle.std.proofs.Common.{◌≡◌, refl, ℕ, ◌≤◌, List, [], ◌∷◌, Option, Some, None, Bool, true, false, cond}
use Rattle.std.specs.Prelude.{fold, if◌then◌else◌}
use Rattle.dcm_base.specs.declared.fault.Fault.{Fault}
use Rattle.dcm_base.specs.declared.fault.Fault.TheVariants.{NotAscending, IdentityStays}
use Rattle.dcm_base.specs.Reading.Bars.{is_above, innermost_reached, holds_identity, identity_fault, identity_bar}
use Rattle.dcm_base.specs.Reading.Reads.{INPUT_LIMIT, Reads}
use Rattle.dcm_base.specs.Reading.Stop.{HeadBar, Stop, is_early_bar}
use Rattle.dcm_base.specs.Steps.Atoms.{Atom}
use Rattle.dcm_base.specs.Tree.Front.{Front}
use Rattle.dcm_base.specs.declared.syntax.Syntax.{Syntax}
use Rattle.dcm_stream.specs.Ascending.{reached_after, innermost}
use Rattle.dcm_stream.specs.Reading.{finish, read_all}
use Rattle.dcm_stream.proofs.Steps.Follows.{answers}
use Rattle.dcm_stream.proofs.Steps.Ascending.{ascending_bars}
use Rattle.dcm_editor.proofs.ReadBack.Rises.{KeepsOrder}

abbrev pub identity : List Atom → HeadBar
identity atoms tag vr declared = if is_above tag (innermost (fold reached_after (None ∷ []) atoms)) then identity_fault tag else Some NotAscending

-- two tests that bar tags alike, bar identity alike
pub barred_alike : (a b : Bool) (fault : Option Fault) → cond {A = Option Fault} a None (Some NotAscending) ≡ cond b None (Some NotAscending) → cond {A = Option Fault} a fault (Some NotAscending) ≡ cond b fault (Some NotAscending)
barred_alike true true fault e = refl
barred_alike true false fault e = absurd cc
barred_alike false true fault e = absurd cc
barred_alike false false fault e = refl

never : (a b : Bool) → is_early_bar (cond a (cond b (Some IdentityStays) None) (Some NotAscending)) ≡ false
never true true = refl
never true false = refl
never false b = refl

pub passed_above : (a : Bool) (fault : Option Fault) → cond a fault (Some NotAscending) ≡ None → a ≡ true
passed_above true fault e = refl
passed_above false fault e = absurd cc

pub identity_in_order : KeepsOrder identity identity_bar
identity_in_order = record {
  same = record {
    agree = λ f atoms shows tag vr declared. barred_alike (is_above tag (innermost (fold reached_after (None ∷ []) atoms))) (is_above tag (innermost_reached f)) (identity_fault tag) (ascending_bars.agree f atoms shows tag vr declared);
    never_early = λ f tag vr declared. never (is_above tag (innermost_reached f)) (holds_identity tag);
  };
  late = λ atoms tag vr declared. never (is_above tag (innermost (fold reached_after (None ∷ []) atoms))) (holds_identity tag);
  above = λ atoms tag vr declared. passed_above (is_above tag (innermost (fold reached_after (None ∷ []) atoms))) (identity_fault tag);
}

-- the reading of a data set has an answer
pub identity_read : (s : Syntax) (start : ℕ) (bytes : List ℕ) → start ≤ INPUT_LIMIT → (f : Front) × (stop : Stop) × Reads identity_bar s start bytes f stop
identity_read s start bytes le =
    let a = answers identity identity_bar identity_in_order.same s start bytes le in
    (a.f, finish (read_all identity s start bytes).0, a.reads)
