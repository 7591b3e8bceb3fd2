-- The parts of a heading, one after the other.
use Rattle.std.proofs.Common.{◌≡◌, ◌∙◌, ap, sym, ℕ, List, [], ◌∷◌, ◌++◌, append_assoc, Option, Bool, codes, decimal}
use Rattle.dcm_names.specs.Names.{shown_name}
use Rattle.dcm_dumps.specs.Heading.{before_heading, of_total, heading}

-- the total after its stroke
total_joined : (stroke number total rest : List ℕ) → stroke ++ number ≡ total → stroke ++ (number ++ rest) ≡ total ++ rest
total_joined stroke number total rest e = sym (append_assoc stroke number rest) ∙ ap (λ (t : List ℕ). t ++ rest) e

pub heading_is : (is_first : Bool) (number : ℕ) (total : Option ℕ) (name : List ℕ) (b p d s t q n e : List ℕ) → b ≡ before_heading is_first → p ≡ codes "# dcmdump (" → d ≡ decimal number → s ++ t ≡ of_total total → q ≡ codes "): " → n ≡ shown_name name → e ≡ 10 ∷ 10 ∷ []
    → b ++ (p ++ (d ++ (s ++ (t ++ (q ++ (n ++ (e ++ []))))))) ≡ heading is_first number total name
heading_is is_first number total name b p d s t q n e before_is part digits joined close shown ends =
    let tail : q ++ (n ++ (e ++ [])) ≡ codes "): " ++ (shown_name name ++ 10 ∷ 10 ∷ []) = (λ i. close i ++ (shown i ++ (ends i ++ []))) in
    (λ i. before_is i ++ (part i ++ (digits i ++ (s ++ (t ++ tail i)))))
    ∙ ap (λ (x : List ℕ). before_heading is_first ++ (codes "# dcmdump (" ++ (decimal number ++ x))) (total_joined s t (of_total total) (codes "): " ++ (shown_name name ++ 10 ∷ 10 ∷ [])) joined)
