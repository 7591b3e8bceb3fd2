-- A file's head has at most one answer.
use Rattle.std.proofs.Common.{◌≡◌, ◌∙◌, ◌≤◌, List, ◌++◌, length, take, drop, ℕ, refl, ap, sym, subst, arith, length-append}
use Rattle.std.proofs.lemmas.List.{take_at, drop_at}
use Rattle.dcm_base.specs.File.MetaGroup.{GroupReads}
use Rattle.dcm_base.specs.File.MetaReads.{MetaAnswer, MetaReads, too_short, no_prefix, with_group, answer_behind, PREFIX}
use Rattle.dcm_head.proofs.MetaGroups.OneGroup.{one_group, from_start}

-- two cuts behind 128 bytes
pub record SameCut (p x q y : List ℕ) : Type 0 where
  pub fronts : p ≡ q
  pub rests : x ≡ y

pub same_cut : (n : ℕ) (p x q y : List ℕ) → length p ≡ n → length q ≡ n → p ++ x ≡ q ++ y → SameCut p x q y
same_cut n p x q y a b h = record {
  fronts = sym (take_at p x n a) ∙ ap (take n) h ∙ take_at q y n b;
  rests = sym (drop_at p x n a) ∙ ap (drop n) h ∙ drop_at q y n b;
}

-- a file with a prefix has 132 bytes
pub long : (file preamble prefix bytes : List ℕ) → file ≡ preamble ++ (prefix ++ bytes) → length preamble ≡ 128 → length prefix ≡ 4 → 132 ≤ length file
long file preamble prefix bytes h a b =
    let all = ap length h ∙ length-append preamble (prefix ++ bytes) in
    let rest = length-append prefix bytes in
    omega arith

pub one_meta : (file : List ℕ) (answer other : MetaAnswer) → MetaReads file answer → MetaReads file other → answer ≡ other
one_meta file answer other (too_short few is) (too_short few' is') = is ∙ sym is'
one_meta file answer other (too_short few is) (no_prefix p x b h n m ne is') = absurd (let le = long file p x b h n m in omega arith)
one_meta file answer other (too_short few is) (with_group p b g e behind h n r is') = absurd (let le = long file p PREFIX b h n refl in omega arith)
one_meta file answer other (no_prefix p x b h n m ne is') (too_short few is) = absurd (let le = long file p x b h n m in omega arith)
one_meta file answer other (no_prefix p x b h n m ne is) (no_prefix p' x' b' h' n' m' ne' is') = is ∙ sym is'
one_meta file answer other (no_prefix p x b h n m ne is) (with_group p' b' g e behind h' n' r is') =
    absurd (
    let s = same_cut 128 p (x ++ b) p' (PREFIX ++ b') n n' (sym h ∙ h') in
    let t = same_cut 4 x b PREFIX b' m refl s.rests in
    ne t.fronts)
one_meta file answer other (with_group p b g e behind h n r is') (too_short few is) = absurd (let le = long file p PREFIX b h n refl in omega arith)
one_meta file answer other (with_group p' b' g e behind h' n' r is') (no_prefix p x b h n m ne is) =
    absurd (
    let s = same_cut 128 p (x ++ b) p' (PREFIX ++ b') n n' (sym h ∙ h') in
    let t = same_cut 4 x b PREFIX b' m refl s.rests in
    ne t.fronts)
one_meta file answer other (with_group p b g e behind h n r is) (with_group p' b' g' e' behind' h' n' r' is') =
    let s = same_cut 128 p (PREFIX ++ b) p' (PREFIX ++ b') n n' (sym h ∙ h') in
    let t = same_cut 4 PREFIX b PREFIX b' refl refl s.rests in
    let there : GroupReads b e' g' behind' = subst (λ (x : List ℕ). GroupReads x e' g' behind') (sym t.rests) r' in
    let o = one_group e e' 0 b g g' behind behind' (from_start b e g behind r) (from_start b e' g' behind' there) in
    is ∙ (λ i. answer_behind (length file) (s.fronts i) (o.elements_are i) (o.group_is i) (o.behind_is i)) ∙ sym is'
