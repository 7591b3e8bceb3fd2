-- The reading of a data set has an answer.
use Rattle.std.proofs.Common.{◌≡◌, ◌≤◌, ℕ, List, Bool, true, false, Some, None, cond, refl}
use Rattle.dcm_base.specs.declared.syntax.Syntax.{Syntax}
use Rattle.dcm_base.specs.declared.syntax.Syntax.TheVariants.{Implicit as implicit_in, Little as little_in, Big as big_in}
use Rattle.dcm_base.specs.Tables.Syntax.{Little}
use Rattle.dcm_base.specs.declared.fault.Fault.TheVariants.{FragmentsBarred}
use Rattle.dcm_base.specs.Tree.Front.{Front, front, nothing_open}
use Rattle.dcm_base.specs.Tree.Tree.{no_tree}
use Rattle.dcm_base.specs.Steps.Atoms.{Atom}
use Rattle.dcm_base.specs.Bytes.Spelling.{form}
use Rattle.dcm_base.specs.Reading.Stop.{Stop, Bar, HeadBar, is_early_bar}
use Rattle.dcm_base.specs.Reading.Bars.{no_bar, ascending_bar, fragments_bar, target_bar, is_fragment_form}
use Rattle.dcm_base.specs.Reading.Reads.{INPUT_LIMIT, Reads}
use Rattle.dcm_stream.specs.Ascending.{ascending}
use Rattle.dcm_stream.specs.Reading.{finish, read_all}
use Rattle.dcm_stream.specs.Follows.{BarsAs}
use Rattle.dcm_stream.proofs.Steps.Follows.{answers}
use Rattle.dcm_stream.proofs.Steps.Ascending.{ascending_bars}

-- where the atoms tell what is barred, the machine's answer is one
some_answer : (bars : List Atom → HeadBar) (bar : Bar) → BarsAs bars bar → (s : Syntax) (start : ℕ) (bytes : List ℕ) → start ≤ INPUT_LIMIT → (f : Front) × (stop : Stop) × Reads bar s start bytes f stop
some_answer bars bar told s start bytes le =
    let a = answers bars bar told s start bytes le in
    (a.f, finish (read_all bars s start bytes).0, a.reads)

abbrev nothing : Front
nothing = front no_tree nothing_open None false

plain_bars : BarsAs (λ atoms. no_bar nothing) no_bar
plain_bars = record { agree = λ f atoms shows tag vr declared. refl; never_early = λ f tag vr declared. refl }

pub never : (b : Bool) → is_early_bar (cond b (Some FragmentsBarred) None) ≡ false
never true = refl
never false = refl

fragments_bars : BarsAs (λ atoms. fragments_bar nothing) fragments_bar
fragments_bars = record { agree = λ f atoms shows tag vr declared. refl; never_early = λ f tag vr declared. never (is_fragment_form (form Little vr declared)) }

pub plain : (s : Syntax) (start : ℕ) (bytes : List ℕ) → start ≤ INPUT_LIMIT → (f : Front) × (stop : Stop) × Reads no_bar s start bytes f stop
plain = some_answer (λ atoms. no_bar nothing) no_bar plain_bars

pub in_order : (s : Syntax) (start : ℕ) (bytes : List ℕ) → start ≤ INPUT_LIMIT → (f : Front) × (stop : Stop) × Reads ascending_bar s start bytes f stop
in_order = some_answer ascending ascending_bar ascending_bars

pub native : (s : Syntax) (start : ℕ) (bytes : List ℕ) → start ≤ INPUT_LIMIT → (f : Front) × (stop : Stop) × Reads fragments_bar s start bytes f stop
native = some_answer (λ atoms. fragments_bar nothing) fragments_bar fragments_bars

-- for a conversion to a syntax
pub for_target : (target s : Syntax) (start : ℕ) (bytes : List ℕ) → start ≤ INPUT_LIMIT → (f : Front) × (stop : Stop) × Reads (target_bar target) s start bytes f stop
for_target (implicit_in d) s start bytes le = native s start bytes le
for_target (little_in d) s start bytes le = plain s start bytes le
for_target (big_in d) s start bytes le = native s start bytes le
