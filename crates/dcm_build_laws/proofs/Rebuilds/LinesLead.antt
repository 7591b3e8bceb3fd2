-- What the lines of a text build, none of which is refused.
use Rattle.std.proofs.Common.{◌≡◌, ◌∙◌, ap, sym, refl, subst, ℕ, ◌<◌, List, [], ◌∷◌, ◌++◌, length, reverse, append_assoc, cond, None, Bool, true, false, ◌&&◌, Ok, arith}
use Rattle.std.specs.Prelude.{◌==◌, nat_le}
use Rattle.std.specs.List.{list_all}
use Rattle.std.proofs.lemmas.Bool.Decides.{nat_tests}
use Rattle.std.proofs.lemmas.List.{append-nil, reverse-append, reverse-reverse}
use Rattle.std.proofs.lemmas.List.Folds.{list_all-append}
use Rattle.dcm_base.specs.Lines.Line.{Step, nothing, means}
use Rattle.dcm_base.specs.declared.mode.Mode.TheVariants.{Full}
use Rattle.dcm_base.specs.Tree.Tree.{Trees}
use Rattle.dcm_base.specs.Dump.Dump.{dump_set}
use Rattle.dcm_base.specs.Lines.Build.{Built, Progress, Lines, lines, lines_of, more_lines, with_line, moved, with_meaning, without_return, without_return_reversed}
use Rattle.dcm_base.specs.declared.dictionary.Dictionary.{Dictionary}
use Rattle.dcm_base.specs.Lines.Limits.{LINE_LIMIT}
use Rattle.dcm_build_laws.specs.DumpLines.{set_steps, joined, AllWithin, ArePrinted, EachMeans, TextMeans, SetReadsBack}
use Rattle.dcm_build_laws.specs.StepsBuild.{Leads}
use Rattle.dcm_build.proofs.Files.Lines.{lines_from, lines_are, run_lines, line_means}
use Rattle.dcm_build_laws.proofs.Rebuilds.DumpLines.{joined_both, printed_both, first_within, rest_within, ShortMeans, set_means}

abbrev pub is_printed : List ℕ → Bool
is_printed line = list_all (λ c. nat_le 32 c) line

-- ---- lines, one after another

abbrev pub LinesLead : List (List ℕ) → Built → Built → Type 0
LinesLead [] b c = b ≡ c
LinesLead (line ∷ more) b c = (d : Built) × (with_meaning (means line) b ≡ Ok d) × LinesLead more d c

lead_both : (xs ys : List (List ℕ)) (b c d : Built) → LinesLead xs b c → LinesLead ys c d → LinesLead (xs ++ ys) b d
lead_both [] ys b c d h k = subst (λ (x : Built). LinesLead ys x d) (sym h) k
lead_both (x ∷ xs) ys b c d h k = (h.0, h.1, lead_both xs ys h.0 c d h.2 k)

by_steps : (ls : List (List ℕ)) (steps : List Step) (b c : Built) → EachMeans ls steps → Leads steps b c → LinesLead ls b c
by_steps [] [] b c h k = k
by_steps [] (s ∷ steps) b c h k = absurd h
by_steps (l ∷ ls) [] b c h k = absurd h
by_steps (l ∷ ls) (s ∷ steps) b c h k = (k.0, ap (λ m. with_meaning m b) h.0 ∙ k.1, by_steps ls steps k.0 c h.1 k.2)

-- a text is lines that lead from one state to another, where none of them is too long
pub record TextLeads (text : List ℕ) (b c : Built) : Type 0 where
  pub its_lines : List (List ℕ)
  pub is : text ≡ joined its_lines
  pub printed : ArePrinted its_lines
  pub leads : AllWithin LINE_LIMIT its_lines → LinesLead its_lines b c

pub text_leads : (text : List ℕ) (steps : List Step) (b c : Built) → ShortMeans text steps → Leads steps b c → TextLeads text b c
text_leads text steps b c h k = record { its_lines = h.lines; is = h.is; printed = h.printed; leads = λ w. by_steps h.lines steps b c (h.mean w) k }

pub texts_lead : (x y : List ℕ) (b c d : Built) → TextLeads x b c → TextLeads y c d → TextLeads (x ++ y) b d
texts_lead x y b c d h k = record {
  its_lines = h.its_lines ++ k.its_lines;
  is = ap (λ (z : List ℕ). z ++ y) h.is ∙ ap (λ (z : List ℕ). joined h.its_lines ++ z) k.is ∙ sym (joined_both h.its_lines k.its_lines);
  printed = printed_both h.its_lines k.its_lines h.printed k.printed;
  leads = λ w. lead_both h.its_lines k.its_lines b c d (h.leads (first_within LINE_LIMIT h.its_lines k.its_lines w)) (k.leads (rest_within LINE_LIMIT h.its_lines k.its_lines w));
}

-- a line that shows nothing
pub silent_line : (line : List ℕ) (b : Built) → is_printed line ≡ true → means line ≡ nothing → TextLeads (line ++ 10 ∷ []) b b
silent_line line b h e = record { its_lines = line ∷ []; is = refl; printed = (h, tt); leads = λ w. (b, ap (λ m. with_meaning m b) e, refl) }

-- ---- the lines of a text

first_printed : (c : ℕ) (cs : List ℕ) → is_printed (c ∷ cs) ≡ true → nat_le 32 c ≡ true
first_printed c cs h = by_test (nat_le 32 c) h
  where
    by_test : (t : Bool) → (t && is_printed cs) ≡ true → t ≡ true
    by_test true e = refl
    by_test false e = cc

others_printed : (c : ℕ) (cs : List ℕ) → is_printed (c ∷ cs) ≡ true → is_printed cs ≡ true
others_printed c cs h = by_test (nat_le 32 c) h
  where
    by_test : (t : Bool) → (t && is_printed cs) ≡ true → is_printed cs ≡ true
    by_test true e = e
    by_test false e = cc

no_control : (c k : ℕ) → k < 32 → nat_le 32 c ≡ true → (c == k) ≡ false
no_control c k l p = grind (arith, nat_tests, l, p)

line_ends : (before line rest : List ℕ) → is_printed line ≡ true → lines_from before (line ++ 10 ∷ rest) ≡ more_lines (before ++ line) (lines_from [] rest)
line_ends before [] rest h = ap (λ (l : List ℕ). more_lines l (lines_from [] rest)) (sym (append-nil before))
line_ends before (c ∷ cs) rest h =
    ap (λ (t : Bool). cond t (more_lines before (lines_from [] (cs ++ 10 ∷ rest))) (lines_from (before ++ c ∷ []) (cs ++ 10 ∷ rest))) (no_control c 10 (omega arith) (first_printed c cs h))
    ∙ line_ends (before ++ c ∷ []) cs rest (others_printed c cs h)
    ∙ ap (λ (l : List ℕ). more_lines l (lines_from [] rest)) (append_assoc before (c ∷ []) cs)

lines_of_joined : (ls : List (List ℕ)) → ArePrinted ls → lines_from [] (joined ls) ≡ lines ls []
lines_of_joined [] h = refl
lines_of_joined (l ∷ ls) h = line_ends [] l (joined ls) h.0 ∙ ap (more_lines l) (lines_of_joined ls h.1)

pub lines_of_text : (text : List ℕ) (ls : List (List ℕ)) → text ≡ joined ls → ArePrinted ls → lines_of text ≡ lines ls []
lines_of_text text ls is h = lines_are text ∙ ap (lines_from []) is ∙ lines_of_joined ls h

pub lines_mean : (d : Dictionary) (level : ℕ) (set : Trees) → SetReadsBack set → AllWithin LINE_LIMIT (lines_of (dump_set d Full level set)).ended → TextMeans (dump_set d Full level set) (set_steps set)
lines_mean d level set h w =
    let m = set_means d level set h in
    record { lines = m.lines; is = m.is; printed = m.printed; mean = m.mean (subst (λ (l : Lines). AllWithin LINE_LIMIT l.ended) (lines_of_text (dump_set d Full level set) m.lines m.is m.printed) w) }

-- ---- no carriage return

reversed_printed : (line : List ℕ) → is_printed line ≡ true → is_printed (reverse line) ≡ true
reversed_printed [] h = refl
reversed_printed (c ∷ cs) h =
    ap is_printed (reverse-append (c ∷ []) cs) ∙ list_all-append (λ x. nat_le 32 x) (reverse cs) (c ∷ [])
    ∙ both (is_printed (reverse cs)) (nat_le 32 c) (reversed_printed cs (others_printed c cs h)) (first_printed c cs h)
  where
    both : (x y : Bool) → x ≡ true → y ≡ true → (x && (y && true)) ≡ true
    both true true p q = refl
    both x y p q = absurd (cc)

no_return_reversed : (line : List ℕ) → is_printed line ≡ true → without_return_reversed line ≡ line
no_return_reversed [] h = refl
no_return_reversed (c ∷ cs) h = ap (λ (t : Bool). cond t cs (c ∷ cs)) (no_control c 13 (omega arith) (first_printed c cs h))

pub no_return : (line : List ℕ) → is_printed line ≡ true → without_return line ≡ line
no_return line h = ap reverse (no_return_reversed (reverse line) (reversed_printed line h)) ∙ reverse-reverse line

-- ---- what they build

pub lines_run : (limit : ℕ) (ls : List (List ℕ)) (p : Progress) (b c : Built) → ArePrinted ls → AllWithin limit ls → p.told ≡ None → p.built ≡ b → LinesLead ls b c
    → ((run_lines limit p ls).told ≡ None) × ((run_lines limit p ls).built ≡ c)
lines_run limit [] p b c h w e is k = (e, is ∙ k)
lines_run limit (l ∷ ls) p b c h w e is k =
    let next : Progress = moved (length l) p (Ok k.0) in
    let step : with_line limit p l ≡ next = line_means limit p l e w.0 ∙ ap (λ (x : List ℕ). moved (length l) p (with_meaning (means x) p.built)) (no_return l h.0) ∙ ap (λ (x : Built). moved (length l) p (with_meaning (means l) x)) is ∙ ap (moved (length l) p) k.1 in
    let more = lines_run limit ls next k.0 c h.1 w.1 e refl k.2 in
    (ap (λ (q : Progress). (run_lines limit q ls).told) step ∙ more.0, ap (λ (q : Progress). (run_lines limit q ls).built) step ∙ more.1)
