use Rattle.std.proofs.Common.{◌≡◌, ◌≤◌, ◌∙◌, sym, ap, refl, List, ℕ, length, drop, Some}
use Rattle.dcm_lemmas.proofs.Lists.{tail_is}
use Rattle.dcm_base.specs.declared.tag.Tag.{Tag}
use Rattle.dcm_base.specs.declared.vr.Vr.{Vr}
use Rattle.dcm_base.specs.declared.syntax.Syntax.{Syntax}
use Rattle.dcm_base.specs.declared.syntax.Syntax.TheVariants.{Implicit as implicit_in, Little as little_in, Big as big_in}
use Rattle.dcm_base.specs.declared.length.Length.{Length}
use Rattle.dcm_base.specs.Tables.Dictionary.{vr_in}
use Rattle.dcm_base.specs.Tables.Number.{number}
use Rattle.dcm_base.specs.Bytes.Head.{tag_at, vr_at, length_at, long_length}
use Rattle.dcm_base.specs.declared.dictionary.Dictionary.{Dictionary}
use Rattle.dcm_base.specs.Tables.Syntax.{Implicit}
use Rattle.dcm_head.specs.declared.head.HeadRead.TheVariants.{Done}
use Rattle.dcm_head.specs.HeadRead.{element_read}
use Rattle.dcm_head.proofs.Heads.Reads.{element_whole}
use Rattle.dcm_head.proofs.head.read_element.Goals as goal

implicit_whole : (d : Dictionary) (s : Syntax) (b : List ℕ) (tag : Tag) (vr : Vr) (l : Length) → s ≡ implicit_in d → 8 ≤ length b → tag ≡ tag_at s b → vr ≡ vr_in d tag → l ≡ long_length (number Implicit 4 (drop 4 b))
    → Done (record { tag = tag; vr = vr; length = l }) 8 ≡ element_read s b (vr_at s b)
unfolding vr_at length_at
implicit_whole d (implicit_in k) b tag vr l e le t v m =
    sym (element_whole (implicit_in k) b _ tag vr l 8 (ap (λ (x : Tag). Some (vr_in k x)) (sym t) ∙ ap Some (sym (v ∙ ap (λ (x : Dictionary). vr_in x tag) (sym (inner e))))) refl le t m)
  where
    inner : {a b : Dictionary} → implicit_in a ≡ implicit_in b → a ≡ b
    inner e = cc
implicit_whole d (little_in k) b tag vr l e le t v m = absurd cc
implicit_whole d (big_in k) b tag vr l e le t v m = absurd cc

pub returns-in-Implicit : goal.returns-in-Implicit
returns-in-Implicit c =
    implicit_whole _ c.args.syntax c.args.bytes.now c.args.tag c.vr_in-vr.result _ c.in-Implicit.is c.requires.eight c.requires.tag c.vr_in-vr.ensures
    (c.read_long-length.ensures ∙ ap (λ (x : List ℕ). long_length (number Implicit 4 x)) (tail_is 4 c.args.bytes.now))
