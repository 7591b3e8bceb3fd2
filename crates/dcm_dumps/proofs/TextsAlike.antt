-- What names come to one after another, taken apart.
use Rattle.std.proofs.Common.{◌≡◌, ◌∙◌, sym, refl, subst, List, [], ◌∷◌, ◌++◌, append_assoc}
use Rattle.std.proofs.lemmas.List.{append-nil}
use Rattle.dcm_lemmas.proofs.Numbers.{max_assoc, max_none, none_max}
use Rattle.dcm_dumps.specs.DumpsInMemory.{Texts, no_texts, and_texts, Place, AllCome}

pub texts_assoc : (a b c : Texts) → and_texts (and_texts a b) c ≡ and_texts a (and_texts b c)
texts_assoc a b c = λ i. record { text = append_assoc a.text b.text c.text i; lines = append_assoc a.lines b.lines c.lines i; status = max_assoc a.status b.status c.status i }

pub texts_none : (a : Texts) → and_texts a no_texts ≡ a
texts_none a = λ i. record { text = append-nil a.text i; lines = append-nil a.lines i; status = max_none a.status i }

pub none_texts : (a : Texts) → and_texts no_texts a ≡ a
none_texts a = λ i. record { text = a.text; lines = a.lines; status = none_max a.status i }

pub both_texts : {a b c d : Texts} → a ≡ b → c ≡ d → and_texts a c ≡ and_texts b d
both_texts e f = λ i. and_texts (e i) (f i)

module _ {X : Type 0} (Comes : Place → X → Texts → Place → Type 0) where
  -- those of the first ones, and those of the others
  pub record Split (from : Place) (xs ys : List X) (t : Texts) (to : Place) : Type 0 where
    pub mid : Place
    pub first : Texts
    pub later : Texts
    pub of_first : AllCome Comes from xs first mid
    pub of_later : AllCome Comes mid ys later to
    pub whole : t ≡ and_texts first later

  pub split : (from : Place) (xs ys : List X) (t : Texts) (to : Place) → AllCome Comes from (xs ++ ys) t to → Split from xs ys t to
  split from [] ys t to come = record { mid = from; first = no_texts; later = t; of_first = (refl, refl); of_later = come; whole = sym (none_texts t) }
  split from (x ∷ xs) ys t to (mid, one, others, comes, rest, is) =
      let s = split mid xs ys others to rest in
      record {
        mid = s.mid;
        first = and_texts one s.first;
        later = s.later;
        of_first = (mid, one, s.first, comes, s.of_first, refl);
        of_later = s.of_later;
        whole = is ∙ both_texts refl s.whole ∙ sym (texts_assoc one s.first s.later);
      }
