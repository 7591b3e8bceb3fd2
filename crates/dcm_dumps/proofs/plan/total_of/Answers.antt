use Rattle.std.proofs.Common.{◌≡◌, ◌∙◌, ap, refl, arith, ℕ, ◌+◌, List, ◌∷◌, Option, Some, None}
use Rattle.std.specs.Option.{option_map}
use Rattle.dcm_table_words.specs.Plans.{name_as, names_from}
use Rattle.dcm_table_words.specs.Table.{Name, file}
use Rattle.dcm_table_words.specs.declared.plan.Name.{Name as Word}
use Rattle.dcm_dumps.specs.Words.{total_of}
use Rattle.dcm_dumps.proofs.plan.total_of.Goals as goal

counted : (total : ℕ) (o : Option ℕ) → option_map (λ n. total + n) (option_map (λ n. n + 1) o) ≡ option_map (λ n. total + 1 + n) o
counted total None = refl
counted total (Some n) = ap Some (omega arith)

-- a file is one more
one_more : (total : ℕ) (path : List ℕ) (names others : List Name) → names ≡ file path ∷ others → option_map (λ n. total + n) (total_of names) ≡ option_map (λ n. total + 1 + n) (total_of others)
one_more total path names others e = ap (λ (ns : List Name). option_map (λ n. total + n) (total_of ns)) e ∙ counted total (total_of others)

pub loop-name-preserved : goal.loop-name-preserved
loop-name-preserved c =
    let others : List Name = names_from c.args.names c.in-Some.next in
    record {
      seen = c.loop-name.invariant.seen
          ∙ one_more c.loop-name.total c.in_default-name.field-0.now (names_from c.args.names c.loop-name.place) others (c.in-Some.ensures.names ∙ ap (λ (n : Word). name_as n ∷ others) c.in_default-name.is);
      few = omega (arith, c.loop-name.invariant.few, c.in-Some.ensures.later);
      within = c.in-Some.ensures.within;
    }
