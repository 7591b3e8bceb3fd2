-- The line of a value, in parts.
use Rattle.std.proofs.Common.{◌≡◌, ap, sym, refl, ◌∙◌, Option, Some, None, Bool, true, length, take, drop, ◌+◌, ◌∷◌, ◌≤◌, arith, List, ℕ, [], ◌++◌, append_assoc}
use Rattle.std.specs.Prelude.{nat_eq, not, min, ◌-◌}
use Rattle.std.specs.Option.{ForSome}
use Rattle.std.proofs.lemmas.List.{length-drop, length-take-le}
use Rattle.std.proofs.lemmas.Bool.{ne_eqb}
use Rattle.dcm_base.specs.declared.mode.Mode.{Mode}
use Rattle.dcm_base.specs.declared.mode.Mode.TheVariants.{Short, Full}
use Rattle.dcm_base.specs.Dump.Dump.{open_line}
use Rattle.dcm_value.specs.Display.{at_once}
use Rattle.dcm_value.specs.Progress.{Progress, finishes, closing, closing_writes, end_writes}
use Rattle.dcm_sinks.specs.declared.dump.lines.Owner.{Owner}
use Rattle.dcm_base.specs.declared.tag.Tag.{Tag}
use Rattle.dcm_base.specs.declared.length.Length.{Length}
use Rattle.dcm_base.specs.declared.length.Length.TheVariants.{Known}
use Rattle.dcm_base.specs.declared.dictionary.Dictionary.{Dictionary}
use Rattle.dcm_sinks.specs.Layout.{line_rest}
use Rattle.dcm_sinks.specs.Lines.{value_of}
use Rattle.dcm_sinks.proofs.Dumps.ValueBytes.{is_filled}
use Rattle.dcm_sinks.specs.DumpSink.{DumpState, OpenValue, no_value, open_value, early_start, late_start, owner_start, owner_rest, close_writes}

-- its beginning
pub begins_in_parts : (mode : Mode) (start opening : List ℕ) → open_line mode start (at_once mode opening) ≡ early_start mode start ++ at_once mode opening
begins_in_parts Short start opening = refl
begins_in_parts Full start opening = refl

-- a value that is open, as the sink holds it
pub is_open : (value : Option Owner) (owner : Owner) (p : Progress) → Some owner ≡ value → value_of value p ≡ open_value owner p
is_open value owner p same = ap (λ (o : Option Owner). value_of o p) (sym same)

-- its bracket is there
pub is_begun : (value : Option Owner) (owner : Owner) (B : Type 0) → Some owner ≡ value → ForSome value (λ (o : Owner). B) → B
is_begun value owner B same b = b owner (sym same)

-- its end
pub ends_in_parts : (d : Dictionary) (mode : Mode) (level : ℕ) (value : OpenValue) (owner : Owner) (p : Progress) → value ≡ open_value owner p
    → close_writes d mode level value ≡ late_start mode (owner_start level owner) ++ (finishes p ++ owner_rest d owner p)
ends_in_parts d mode level value owner p is = ap (close_writes d mode level) is ∙ append_assoc (late_start mode (owner_start level owner)) (finishes p) (owner_rest d owner p)

-- what is written at once of the display comes before the rest of the line, or is nothing
pub around : (mode : Mode) (start closing end rest : List ℕ)
    → late_start mode start ++ ((at_once mode closing ++ end) ++ rest) ≡ at_once mode closing ++ ((late_start mode start ++ end) ++ rest)
around Short start closing end rest = sym (append_assoc start end rest)
around Full start closing end rest = append_assoc closing end rest

pub closes_in_parts : (d : Dictionary) (mode : Mode) (level : ℕ) (value : OpenValue) (owner : Owner) (p : Progress) → p.display.mode ≡ mode → value ≡ open_value owner p
    → close_writes d mode level value ≡ closing_writes p ++ ((late_start mode (owner_start level owner) ++ end_writes p) ++ owner_rest d owner p)
unfolding finishes
closes_in_parts d mode level value owner p same is =
    let start : List ℕ = owner_start level owner in
    let rest : List ℕ = owner_rest d owner p in
    ends_in_parts d mode level value owner p is
    ∙ ap (λ m. late_start mode start ++ ((at_once m (closing p) ++ end_writes p) ++ rest)) same
    ∙ around mode start (closing p) (end_writes p) rest
    ∙ ap (λ m. at_once m (closing p) ++ ((late_start mode start ++ end_writes p) ++ rest)) (sym same)

pub rest_same : (d : Dictionary) (t t' : Tag) (n n' k k' : ℕ) → t ≡ t' → n ≡ n' → k ≡ k' → line_rest d t (Known n) k ≡ line_rest d t' (Known n') k'
rest_same d t t' n n' k k' e f g =
    ap (λ (x : Tag). line_rest d x (Known n) k) e ∙ ap (λ (x : ℕ). line_rest d t' (Known x) k) f ∙ ap (λ (x : ℕ). line_rest d t' (Known n') x) g

-- states alike
pub same_state : (d : Dictionary) (mode : Mode) (lengths : List Length) (v w : OpenValue) (l m : Bool) → v ≡ w → l ≡ m
    → (let s : DumpState = record { dictionary = d; mode = mode; lengths = lengths; value = v; is_lost = l } in let t : DumpState = record { dictionary = d; mode = mode; lengths = lengths; value = w; is_lost = m } in s ≡ t)
same_state d mode lengths v w l m e f = cc

-- no value is open, as the sink holds it
pub is_none : (value taken : Option Owner) (p : Progress) → taken ≡ None → taken ≡ value → value_of value p ≡ no_value
is_none value taken p is same = ap (λ (o : Option Owner). value_of o p) (sym same ∙ is)

pub not_empty : (others : List ℕ) (t : Bool) → t ≡ nat_eq (length others) 0 → not t ≡ is_filled others
not_empty [] t e = ap not e
not_empty (b ∷ bs) t e = ap not (e ∙ ne_eqb (length (b ∷ bs)) 0 (λ z. let n : length (b ∷ bs) ≡ 0 = z in omega (arith, n)))

-- others come only behind the value's last byte
pub filled_full : (n missing seen size : ℕ) (bytes own others : List ℕ) → n ≡ min (length bytes) missing → missing + seen ≡ size → own ≡ take n bytes → others ≡ drop n bytes → is_filled others ≡ true → size ≤ seen + length own
filled_full n missing seen size bytes own [] e m o r f = cc
filled_full n missing seen size bytes own (b ∷ bs) e m o r f =
    let long : length (b ∷ bs) ≡ length bytes - n = ap length r ∙ length-drop n bytes in
    let some : length (b ∷ bs) ≡ length bs + 1 = omega arith in
    let short : length own ≡ n = ap length o ∙ length-take-le n bytes (omega arith) in
    omega arith
