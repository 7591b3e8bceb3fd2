-- Two trees with the same outputs that are changed in the same way.
use Rattle.std.proofs.Common.{◌≡◌, ◌∙◌, refl, sym, ap, subst, inl, inr, ◌⊎◌, ℕ, List, Option, Some, None}
use Rattle.dcm_lemmas.proofs.Options.{none_or_some}
use Rattle.dcm_files.specs.declared.folders.Found.{Found}
use Rattle.dcm_trees.specs.Place.{end_of_found, end_at, place_of_found, place_at}
use Rattle.dcm_tree_laws.specs.FileSystem.{Tree, Host, number_of, place_of}
use Rattle.dcm_tree_laws.specs.Flows.{AreAlike, AlikeAt, SameOutputs}

-- ---- what is at a place

pub alike_as : (t u : Tree) (a b x y : Option Found) → AlikeAt t u a b → x ≡ a → y ≡ b → AlikeAt t u x y
alike_as t u a b x y alike is at = subst (λ (o : Option Found). AlikeAt t u o y) (sym is) (subst (λ (o : Option Found). AlikeAt t u a o) (sym at) alike)

-- the bytes of this are kept
abbrev pub KeepsBytes : (before after : Tree) → Option Found → Type 0
KeepsBytes before after a = (f : Found) → a ≡ Some f → after.bytes (number_of f) ≡ before.bytes (number_of f)

pub alike_kept : (t u v w : Tree) (a b : Option Found) → KeepsBytes t v a → KeepsBytes u w b → AlikeAt t u a b → AlikeAt v w a b
alike_kept t u v w None None first second alike = tt
alike_kept t u v w (Some f) (Some g) first second alike = (alike.0, λ file. let x = alike.1 file in (x.0, first f refl ∙ x.1 ∙ sym (second g refl)))
alike_kept t u v w None (Some g) first second alike = absurd alike
alike_kept t u v w (Some f) None first second alike = absurd alike

pub alike_back : (t u : Tree) (a b : Option Found) → AlikeAt t u a b → AlikeAt u t b a
alike_back t u None None alike = tt
alike_back t u (Some f) (Some g) alike = (sym alike.0, λ file. let x = alike.1 (alike.0 ∙ file) in (sym x.0, sym x.1))
alike_back t u None (Some g) alike = absurd alike
alike_back t u (Some f) None alike = absurd alike

pub alike_none : {A : Type 0} (t u : Tree) (a b : Option Found) (g : Found) → AlikeAt t u a b → a ≡ None → b ≡ Some g → A
alike_none t u a b g alike none some =
    let lacks : AlikeAt t u None (Some g) = alike_as t u a b None (Some g) alike (sym none) (sym some) in absurd lacks

pub alike_some : (t u : Tree) (a b : Option Found) (f g : Found) → AlikeAt t u a b → a ≡ Some f → b ≡ Some g → AreAlike t u f g
alike_some t u a b f g alike is at = alike_as t u a b (Some f) (Some g) alike (sym is) (sym at)

pub same_end : (t u : Tree) (a b : Option Found) → AlikeAt t u a b → end_of_found a ≡ end_of_found b
same_end t u None None alike = refl
same_end t u (Some f) (Some g) alike = ap end_at alike.0
same_end t u None (Some g) alike = absurd alike
same_end t u (Some f) None alike = absurd alike

pub same_place : (t u : Tree) (a b : Option Found) → AlikeAt t u a b → place_of_found a ≡ place_of_found b
same_place t u None None alike = refl
same_place t u (Some f) (Some g) alike = ap place_at alike.0
same_place t u None (Some g) alike = absurd alike
same_place t u (Some f) None alike = absurd alike

-- ---- a change at one place

-- this is there, and each other place has what it had; the bytes of all that was are kept
pub record Changes (place : List ℕ) (what : Option Found) (before after : Tree) : Type 0 where
  pub there : after.at place ≡ what
  pub elsewhere : (other : List ℕ) → (other ≡ place) ⊎ (after.at other ≡ before.at other)
  pub bytes : (other : List ℕ) → KeepsBytes before after (before.at other)

changed_at : (t u v w : Tree) (place other : List ℕ) (a b : Option Found) → Changes place a t v → Changes place b u w → AlikeAt v w a b → AlikeAt t u (t.at other) (u.at other)
    → (other ≡ place) ⊎ (v.at other ≡ t.at other) → (other ≡ place) ⊎ (w.at other ≡ u.at other) → AlikeAt v w (v.at other) (w.at other)
changed_at t u v w place other a b first second now was (inl e) y = alike_as v w a b (v.at other) (w.at other) now (ap v.at e ∙ first.there) (ap w.at e ∙ second.there)
changed_at t u v w place other a b first second now was (inr d) (inl e) = alike_as v w a b (v.at other) (w.at other) now (ap v.at e ∙ first.there) (ap w.at e ∙ second.there)
changed_at t u v w place other a b first second now was (inr d) (inr e) =
    alike_as v w (t.at other) (u.at other) (v.at other) (w.at other) (alike_kept t u v w (t.at other) (u.at other) (first.bytes other) (second.bytes other) was) d e

-- both have the same at the path that is changed
pub both_change : {I O : Type 0} (h : Host I O) (output path : List ℕ) (t u v w : Tree) (a b : Option Found) → SameOutputs h output t u → Changes (place_of h path) a t v → Changes (place_of h path) b u w → AlikeAt v w a b → SameOutputs h output v w
both_change h output path t u v w a b same first second now = λ other of_output.
    changed_at t u v w (place_of h path) (place_of h other) a b first second now (same other of_output) (first.elsewhere (place_of h other)) (second.elsewhere (place_of h other))

-- ---- nothing that was is gone

pub record Keeps (before after : Tree) : Type 0 where
  pub there : (place : List ℕ) (f : Found) → before.at place ≡ Some f → after.at place ≡ Some f
  pub bytes : (place : List ℕ) (f : Found) → before.at place ≡ Some f → after.bytes (number_of f) ≡ before.bytes (number_of f)

pub all_kept : (t : Tree) → Keeps t t
all_kept t = record { there = λ place f is. is; bytes = λ place f is. refl }

pub then_keeps : (t u v : Tree) → Keeps t u → Keeps u v → Keeps t v
then_keeps t u v first second = record {
  there = λ place f is. second.there place f (first.there place f is);
  bytes = λ place f is. second.bytes place f (first.there place f is) ∙ first.bytes place f is;
}

kept_at : (t u : Tree) (place other : List ℕ) (f : Found) → t.at place ≡ None → t.at other ≡ Some f → (other ≡ place) ⊎ (u.at other ≡ t.at other) → u.at other ≡ Some f
kept_at t u place other f none is (inl e) = absurd (none_or_some (t.at place) f none (ap t.at (sym e) ∙ is))
kept_at t u place other f none is (inr e) = e ∙ is

pub new_keeps : (place : List ℕ) (what : Option Found) (t u : Tree) → t.at place ≡ None → Changes place what t u → Keeps t u
new_keeps place what t u none change = record {
  there = λ other f is. kept_at t u place other f none is (change.elsewhere other);
  bytes = λ other f is. change.bytes other f is;
}
