-- What obeying words over files in memory leaves, whether or not they ask for a table.
use Rattle.std.proofs.Common.{◌≡◌, ap, subst, refl, ℕ, List, [], ◌∷◌, true, false}
use Rattle.std.specs.Prelude.{codes, bytes_eq}
use Rattle.std.proofs.lemmas.Slice.Eq.{bytes_eq-Decides}
use Rattle.dcm_lemmas.proofs.Truth.{and_first, and_first_false, true_false}
use Rattle.dcm_devices.specs.declared.memory.MemOut.{MemOut}
use Rattle.dcm_files.specs.declared.memory.MemSystem.{MemSystem}
use Rattle.dcm_files.specs.Memory.{may_do}
use Rattle.dcm_cli.specs.InMemory.{ObeysInMemory}
use Rattle.dcm_cli.proofs.Runs.InMemory.{memory_reader, memory_writer, memory_change}
use Rattle.dcm_cli.proofs.Runs.ObeyingMemory.{obeys_left}
use Rattle.dcm_dumps.specs.Words.{asks_dumps, name_several}
use Rattle.dcm_dumps.specs.DumpsInMemory as dumps
use Rattle.dcm_dumps.specs.DumpsInMemory.{DumpsInMemory}
use Rattle.dcm_dumps.proofs.DumpsLeft.{dumps_left}
use Rattle.dcm_tables.specs.TableInMemory.{ListsAreReadWhole, TablesInMemory}
use Rattle.dcm_tree_words.specs.Trees.{asks_tree}
use Rattle.dcm_tables.specs.TableProgram.{ObeysAny, TreeRuns, asks_table, of_table, of_dumps, of_tree, of_others}
use Rattle.dcm_tables.proofs.TableLeft.{tables_left}

of_tool : (tool : List ℕ) → bytes_eq tool (codes "dcmdump") ≡ true → bytes_eq tool (codes "dcm2csv") ≡ false
of_tool tool is = ap (λ (t : List ℕ). bytes_eq t (codes "dcm2csv")) ((bytes_eq-Decides tool (codes "dcmdump")).0 is)

no_table : (words : List (List ℕ)) → asks_dumps words ≡ true → asks_table words ≡ false
unfolding asks_dumps
no_table [] asks = refl
no_table (tool ∷ words) asks = and_first_false (bytes_eq tool (codes "dcm2csv")) _ (of_tool tool (and_first (bytes_eq tool (codes "dcmdump")) _ (and_first _ (name_several words) asks)))

-- what is so of two writers and an output is so of the same ones by other names
pub moved : {A B C : Type 0} (P : A → B → C → Type 0) {a b : A} {f h : B} {r s : C} → a ≡ b → f ≡ h → r ≡ s → P a f r → P b h s
moved P {b = b} {f = f} {h = h} {r = r} {s = s} before output after holds =
    subst (λ z. P b h z) after (subst (λ y. P b y r) output (subst (λ x. P x f r) before holds))

module _ (Trees : TreeRuns MemSystem) (s new : MemSystem) (errors new_errors : MemOut) (status : ℕ) (words : List (List ℕ)) where
  abbrev Obeyed : Type 0
  Obeyed = ObeysAny may_do memory_reader memory_writer Trees words (memory_change errors new_errors) s status new

  pub tabled_of : asks_table words ≡ true → ListsAreReadWhole words s → Obeyed → TablesInMemory words s errors new.written new_errors status
  tabled_of asks lists (of_table is obeys) = λ o comes room. tables_left s new errors new_errors status words o comes room lists obeys
  tabled_of asks lists (of_dumps other is obeys) = absurd (true_false (asks_table words) asks other)
  tabled_of asks lists (of_tree other is asked runs) = absurd (true_false (asks_table words) asks other)
  tabled_of asks lists (of_others other is alone obeys) = absurd (true_false (asks_table words) asks other)

  pub dumped_of : asks_dumps words ≡ true → dumps.ListsAreReadWhole words s → Obeyed → DumpsInMemory words s errors new.written new_errors status
  dumped_of asks lists (of_table is obeys) = absurd (true_false (asks_table words) is (no_table words asks))
  dumped_of asks lists (of_dumps other is obeys) = λ o comes room. dumps_left s new errors new_errors status words o comes room lists obeys
  dumped_of asks lists (of_tree other is asked runs) = absurd (true_false (asks_dumps words) asks is)
  dumped_of asks lists (of_others other is alone obeys) = absurd (true_false (asks_dumps words) asks is)

  pub others_of : asks_table words ≡ false → asks_dumps words ≡ false → asks_tree words ≡ false → Obeyed → ObeysInMemory words s errors new.written new_errors status
  others_of asks shows alone (of_table is obeys) = absurd (true_false (asks_table words) is asks)
  others_of asks shows alone (of_dumps other is obeys) = absurd (true_false (asks_dumps words) is shows)
  others_of asks shows alone (of_tree other is asked runs) = absurd (true_false (asks_tree words) asked alone)
  others_of asks shows alone (of_others other is one obeys) = λ o comes room. obeys_left s new errors new_errors status words o comes room obeys
