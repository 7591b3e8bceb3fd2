use Rattle.std.proofs.Common.{sym, subst, ap, refl, ◌∙◌, ◌++◌, ◌∷◌, get_or, ℕ, List, [], arith, length-append}
use Rattle.dcm_words.specs.Words.{and_path}
use Rattle.dcm_words.specs.declared.words.Said.{Said}
use Rattle.dcm_words.specs.Plans.{reader, PathsAre, said_with_words}
use Rattle.dcm_words.specs.Naming.{NamingIs}
use Rattle.dcm_words.proofs.WordLemmas.{placed, turn, limit_turn, move_turn, key_turn, element_turn, limit_refused, move_refused, key_refused, element_refused, stops, refused_as}
use Rattle.dcm_words.proofs.words.said_by.Goals as goal
use Rattle.dcm_words.proofs.words.said_by.Goals.{in-Read, in-Show, in-Decode, in-Element+in_ok-element_after-in-Element, in-Ways, in-WholeFile, in-DataSet, in-Bare, in-Target, in-Limit+in_ok-said-in-Limit, in-Retain, in-Pseudonyms, in-Move+in_ok-moved-in-Move, in-PixelsDealt, in-Key+in_ok-key_after-in-Key, in-Overwrite, in-Accepted, in-Path}

pub loop-i-preserved : goal.loop-i-preserved
loop-i-preserved c =
    let read = c.loop-i.invariant.read in
    let named = c.loop-i.invariant.named in
    let word : List ℕ = (get_or c.args.words.now c.loop-i.i (record { ref_ptr = (0, 0); now = [] })).now in
    elim c.match-word_of.branch [
      | in-Read w ↦ record {
        read = read;
        paths = subst (λ (s : Said). PathsAre s.paths read) (sym w.said-is) c.loop-i.invariant.paths;
        named = named;
        naming = subst (λ (s : Said). NamingIs s.naming named) (sym w.said-is) c.loop-i.invariant.naming;
        few = omega (arith, c.loop-i.invariant.few, w.i-is);
        the_rest = placed _ _ _ _ _ w.i-is (turn (reader c.args.tool) c.loop-i.i c.args.words.now _ _ _ _ c.loop-i-test.true w.in-Read.ensures refl (ap (λ (s : Said). said_with_words s read named) (sym w.said-is)) c.loop-i.invariant.the_rest);
      }
      | in-Show w ↦ record {
        read = read;
        paths = subst (λ (s : Said). PathsAre s.paths read) (sym w.said-is) c.loop-i.invariant.paths;
        named = named;
        naming = subst (λ (s : Said). NamingIs s.naming named) (sym w.said-is) c.loop-i.invariant.naming;
        few = omega (arith, c.loop-i.invariant.few, w.i-is);
        the_rest = placed _ _ _ _ _ w.i-is (turn (reader c.args.tool) c.loop-i.i c.args.words.now _ _ _ _ c.loop-i-test.true w.in-Show.ensures refl (ap (λ (s : Said). said_with_words s read named) (sym w.said-is)) c.loop-i.invariant.the_rest);
      }
      | in-Decode w ↦ record {
        read = read;
        paths = subst (λ (s : Said). PathsAre s.paths read) (sym w.said-is) c.loop-i.invariant.paths;
        named = named;
        naming = subst (λ (s : Said). NamingIs s.naming named) (sym w.said-is) c.loop-i.invariant.naming;
        few = omega (arith, c.loop-i.invariant.few, w.i-is);
        the_rest = placed _ _ _ _ _ w.i-is (turn (reader c.args.tool) c.loop-i.i c.args.words.now _ _ _ _ c.loop-i-test.true w.in-Decode.ensures refl (ap (λ (s : Said). said_with_words s read named) (sym w.said-is)) c.loop-i.invariant.the_rest);
      }
      | in-Element+in_ok-element_after-in-Element w ↦
          let name : List ℕ = w.in_ok-element_after-in-Element.field-0.now in
          let more = length-append named (name ∷ []) in
          record {
            read = read;
            paths = subst (λ (s : Said). PathsAre s.paths read) (sym w.said-is) c.loop-i.invariant.paths;
            named = named ++ name ∷ [];
            naming = subst (λ (s : Said). NamingIs s.naming (named ++ name ∷ [])) (sym w.said-is) (w.add.ensures named c.loop-i.invariant.naming);
            few = omega (arith, c.loop-i.invariant.few, w.i-is, more);
            the_rest = placed _ _ _ _ _ w.i-is (element_turn (reader c.args.tool) c.loop-i.i c.args.words.now _ _ _ name c.loop-i-test.true w.in-Element.ensures w.in_ok-element_after-in-Element.ensures (ap (λ (s : Said). said_with_words s read (named ++ name ∷ [])) (sym w.said-is)) c.loop-i.invariant.the_rest);
          }
      | in-Ways w ↦ record {
        read = read;
        paths = subst (λ (s : Said). PathsAre s.paths read) (sym w.said-is) c.loop-i.invariant.paths;
        named = named;
        naming = subst (λ (s : Said). NamingIs s.naming named) (sym w.said-is) c.loop-i.invariant.naming;
        few = omega (arith, c.loop-i.invariant.few, w.i-is);
        the_rest = placed _ _ _ _ _ w.i-is (turn (reader c.args.tool) c.loop-i.i c.args.words.now _ _ _ _ c.loop-i-test.true w.in-Ways.ensures refl (ap (λ (s : Said). said_with_words s read named) (sym w.said-is)) c.loop-i.invariant.the_rest);
      }
      | in-WholeFile w ↦ record {
        read = read;
        paths = subst (λ (s : Said). PathsAre s.paths read) (sym w.said-is) c.loop-i.invariant.paths;
        named = named;
        naming = subst (λ (s : Said). NamingIs s.naming named) (sym w.said-is) c.loop-i.invariant.naming;
        few = omega (arith, c.loop-i.invariant.few, w.i-is);
        the_rest = placed _ _ _ _ _ w.i-is (turn (reader c.args.tool) c.loop-i.i c.args.words.now _ _ _ _ c.loop-i-test.true w.in-WholeFile.ensures refl (ap (λ (s : Said). said_with_words s read named) (sym w.said-is)) c.loop-i.invariant.the_rest);
      }
      | in-DataSet w ↦ record {
        read = read;
        paths = subst (λ (s : Said). PathsAre s.paths read) (sym w.said-is) c.loop-i.invariant.paths;
        named = named;
        naming = subst (λ (s : Said). NamingIs s.naming named) (sym w.said-is) c.loop-i.invariant.naming;
        few = omega (arith, c.loop-i.invariant.few, w.i-is);
        the_rest = placed _ _ _ _ _ w.i-is (turn (reader c.args.tool) c.loop-i.i c.args.words.now _ _ _ _ c.loop-i-test.true w.in-DataSet.ensures refl (ap (λ (s : Said). said_with_words s read named) (sym w.said-is)) c.loop-i.invariant.the_rest);
      }
      | in-Bare w ↦ record {
        read = read;
        paths = subst (λ (s : Said). PathsAre s.paths read) (sym w.said-is) c.loop-i.invariant.paths;
        named = named;
        naming = subst (λ (s : Said). NamingIs s.naming named) (sym w.said-is) c.loop-i.invariant.naming;
        few = omega (arith, c.loop-i.invariant.few, w.i-is);
        the_rest = placed _ _ _ _ _ w.i-is (turn (reader c.args.tool) c.loop-i.i c.args.words.now _ _ _ _ c.loop-i-test.true w.in-Bare.ensures refl (ap (λ (s : Said). said_with_words s read named) (sym w.said-is)) c.loop-i.invariant.the_rest);
      }
      | in-Target w ↦ record {
        read = read;
        paths = subst (λ (s : Said). PathsAre s.paths read) (sym w.said-is) c.loop-i.invariant.paths;
        named = named;
        naming = subst (λ (s : Said). NamingIs s.naming named) (sym w.said-is) c.loop-i.invariant.naming;
        few = omega (arith, c.loop-i.invariant.few, w.i-is);
        the_rest = placed _ _ _ _ _ w.i-is (turn (reader c.args.tool) c.loop-i.i c.args.words.now _ _ _ _ c.loop-i-test.true w.in-Target.ensures refl (ap (λ (s : Said). said_with_words s read named) (sym w.said-is)) c.loop-i.invariant.the_rest);
      }
      | in-Retain w ↦ record {
        read = read;
        paths = subst (λ (s : Said). PathsAre s.paths read) (sym w.said-is) c.loop-i.invariant.paths;
        named = named;
        naming = subst (λ (s : Said). NamingIs s.naming named) (sym w.said-is) c.loop-i.invariant.naming;
        few = omega (arith, c.loop-i.invariant.few, w.i-is);
        the_rest = placed _ _ _ _ _ w.i-is (turn (reader c.args.tool) c.loop-i.i c.args.words.now _ (said_with_words c.loop-i.said read named) _ _ c.loop-i-test.true w.in-Retain.ensures refl (ap (λ o. said_with_words (record c.loop-i.said { choice = o }) read named) (sym w.and_option-said.ensures) ∙ ap (λ (s : Said). said_with_words s read named) (sym w.said-is)) c.loop-i.invariant.the_rest);
      }
      | in-Pseudonyms w ↦ record {
        read = read;
        paths = subst (λ (s : Said). PathsAre s.paths read) (sym w.said-is) c.loop-i.invariant.paths;
        named = named;
        naming = subst (λ (s : Said). NamingIs s.naming named) (sym w.said-is) c.loop-i.invariant.naming;
        few = omega (arith, c.loop-i.invariant.few, w.i-is);
        the_rest = placed _ _ _ _ _ w.i-is (turn (reader c.args.tool) c.loop-i.i c.args.words.now _ (said_with_words c.loop-i.said read named) _ _ c.loop-i-test.true w.in-Pseudonyms.ensures refl (ap (λ o. said_with_words (record c.loop-i.said { choice = o }) read named) (sym w.and_pseudonyms-said.ensures) ∙ ap (λ (s : Said). said_with_words s read named) (sym w.said-is)) c.loop-i.invariant.the_rest);
      }
      | in-Move+in_ok-moved-in-Move w ↦ record {
        read = read;
        paths = subst (λ (s : Said). PathsAre s.paths read) (sym w.said-is) c.loop-i.invariant.paths;
        named = named;
        naming = subst (λ (s : Said). NamingIs s.naming named) (sym w.said-is) c.loop-i.invariant.naming;
        few = omega (arith, c.loop-i.invariant.few, w.i-is);
        the_rest = placed _ _ _ _ _ w.i-is (move_turn (reader c.args.tool) c.loop-i.i c.args.words.now _ (said_with_words c.loop-i.said read named) _ _ c.loop-i-test.true w.in-Move.ensures (sym w.in_ok-moved-in-Move.ensures) (ap (λ o. said_with_words (record c.loop-i.said { choice = o }) read named) (sym w.and_move-said.ensures) ∙ ap (λ (s : Said). said_with_words s read named) (sym w.said-is)) c.loop-i.invariant.the_rest);
      }
      | in-PixelsDealt w ↦ record {
        read = read;
        paths = subst (λ (s : Said). PathsAre s.paths read) (sym w.said-is) c.loop-i.invariant.paths;
        named = named;
        naming = subst (λ (s : Said). NamingIs s.naming named) (sym w.said-is) c.loop-i.invariant.naming;
        few = omega (arith, c.loop-i.invariant.few, w.i-is);
        the_rest = placed _ _ _ _ _ w.i-is (turn (reader c.args.tool) c.loop-i.i c.args.words.now _ _ _ _ c.loop-i-test.true w.in-PixelsDealt.ensures refl (ap (λ (s : Said). said_with_words s read named) (sym w.said-is)) c.loop-i.invariant.the_rest);
      }
      | in-Key+in_ok-key_after-in-Key w ↦ record {
        read = read;
        paths = subst (λ (s : Said). PathsAre s.paths read) (sym w.said-is) c.loop-i.invariant.paths;
        named = named;
        naming = subst (λ (s : Said). NamingIs s.naming named) (sym w.said-is) c.loop-i.invariant.naming;
        few = omega (arith, c.loop-i.invariant.few, w.i-is);
        the_rest = placed _ _ _ _ _ w.i-is (key_turn (reader c.args.tool) c.loop-i.i c.args.words.now _ _ _ _ c.loop-i-test.true w.in-Key.ensures w.in_ok-key_after-in-Key.ensures (ap (λ (s : Said). said_with_words s read named) (sym w.said-is)) c.loop-i.invariant.the_rest);
      }
      | in-Overwrite w ↦ record {
        read = read;
        paths = subst (λ (s : Said). PathsAre s.paths read) (sym w.said-is) c.loop-i.invariant.paths;
        named = named;
        naming = subst (λ (s : Said). NamingIs s.naming named) (sym w.said-is) c.loop-i.invariant.naming;
        few = omega (arith, c.loop-i.invariant.few, w.i-is);
        the_rest = placed _ _ _ _ _ w.i-is (turn (reader c.args.tool) c.loop-i.i c.args.words.now _ _ _ _ c.loop-i-test.true w.in-Overwrite.ensures refl (ap (λ (s : Said). said_with_words s read named) (sym w.said-is)) c.loop-i.invariant.the_rest);
      }
      | in-Accepted w ↦ record {
        read = read;
        paths = subst (λ (s : Said). PathsAre s.paths read) (sym w.said-is) c.loop-i.invariant.paths;
        named = named;
        naming = subst (λ (s : Said). NamingIs s.naming named) (sym w.said-is) c.loop-i.invariant.naming;
        few = omega (arith, c.loop-i.invariant.few, w.i-is);
        the_rest = placed _ _ _ _ _ w.i-is (turn (reader c.args.tool) c.loop-i.i c.args.words.now _ _ _ _ c.loop-i-test.true w.in-Accepted.ensures refl (ap (λ (s : Said). said_with_words s read named) (sym w.said-is)) c.loop-i.invariant.the_rest);
      }
      | in-Path w ↦ record {
        read = and_path read word;
        paths = subst (λ (s : Said). PathsAre s.paths (and_path read word)) (sym w.said-is) (w.and_path-said.ensures read c.loop-i.invariant.paths);
        named = named;
        naming = subst (λ (s : Said). NamingIs s.naming named) (sym w.said-is) c.loop-i.invariant.naming;
        few = omega (arith, c.loop-i.invariant.few, w.i-is);
        the_rest = placed _ _ _ _ _ w.i-is (turn (reader c.args.tool) c.loop-i.i c.args.words.now _ _ _ _ c.loop-i-test.true w.in-Path.ensures refl (ap (λ (s : Said). said_with_words s (and_path read word) named) (sym w.said-is)) c.loop-i.invariant.the_rest);
      }
      | in-Limit+in_ok-said-in-Limit w ↦ record {
        read = read;
        paths = subst (λ (s : Said). PathsAre s.paths read) (sym w.said-is) c.loop-i.invariant.paths;
        named = named;
        naming = subst (λ (s : Said). NamingIs s.naming named) (sym w.said-is) c.loop-i.invariant.naming;
        few = omega (arith, c.loop-i.invariant.few, w.i-is);
        the_rest = placed _ _ _ _ _ w.i-is (limit_turn (reader c.args.tool) c.loop-i.i c.args.words.now _ _ _ _ c.loop-i-test.true w.in-Limit.ensures w.in_ok-said-in-Limit.ensures (ap (λ (s : Said). said_with_words s read named) (sym w.said-is)) c.loop-i.invariant.the_rest);
      }
    ]

pub returns-in_err-moved-in-Move : goal.returns-in_err-moved-in-Move
returns-in_err-moved-in-Move c =
    let refused = move_refused (reader c.args.tool) c.loop-i.i c.args.words.now (record { ref_ptr = (0, 0); now = [] }) (said_with_words c.loop-i.said c.loop-i.invariant.read c.loop-i.invariant.named) c.in_err-moved-in-Move.field-0.0 c.loop-i-test.true c.in-Move.ensures (sym c.in_err-moved-in-Move.ensures) in
    refused_as _ _ _ _ c.from_residual-in_err-moved-in-Move.ensures.1 (λ e is. is) (sym c.loop-i.invariant.the_rest ∙ refused)

pub returns-in_err-key_after-in-Key : goal.returns-in_err-key_after-in-Key
returns-in_err-key_after-in-Key c =
    let refused = key_refused (reader c.args.tool) c.loop-i.i c.args.words.now (record { ref_ptr = (0, 0); now = [] }) (said_with_words c.loop-i.said c.loop-i.invariant.read c.loop-i.invariant.named) c.in_err-key_after-in-Key.field-0.0 c.loop-i-test.true c.in-Key.ensures c.in_err-key_after-in-Key.ensures in
    refused_as _ _ _ _ c.from_residual-in_err-key_after-in-Key.ensures.1 (λ e is. is) (sym c.loop-i.invariant.the_rest ∙ refused)

pub returns-in_err-element_after-in-Element : goal.returns-in_err-element_after-in-Element
returns-in_err-element_after-in-Element c =
    let refused = element_refused (reader c.args.tool) c.loop-i.i c.args.words.now (record { ref_ptr = (0, 0); now = [] }) (said_with_words c.loop-i.said c.loop-i.invariant.read c.loop-i.invariant.named) c.in_err-element_after-in-Element.field-0.0 c.loop-i-test.true c.in-Element.ensures c.in_err-element_after-in-Element.ensures in
    refused_as _ _ _ _ c.from_residual.ensures.1 (λ e is. is) (sym c.loop-i.invariant.the_rest ∙ refused)

pub returns-in_err-said-in-Limit : goal.returns-in_err-said-in-Limit
returns-in_err-said-in-Limit c =
    let refused = limit_refused (reader c.args.tool) c.loop-i.i c.args.words.now (record { ref_ptr = (0, 0); now = [] }) (said_with_words c.loop-i.said c.loop-i.invariant.read c.loop-i.invariant.named) c.in_err-said-in-Limit.field-0.0 c.loop-i-test.true c.in-Limit.ensures c.in_err-said-in-Limit.ensures in
    refused_as _ _ _ _ c.from_residual-in_err-said-in-Limit.ensures.1 (λ e is. is) (sym c.loop-i.invariant.the_rest ∙ refused)

pub returns-in-Unknown : goal.returns-in-Unknown
returns-in-Unknown c = sym c.loop-i.invariant.the_rest ∙ stops (reader c.args.tool) c.loop-i.i c.args.words.now (record { ref_ptr = (0, 0); now = [] }) (said_with_words c.loop-i.said c.loop-i.invariant.read c.loop-i.invariant.named) c.loop-i-test.true c.in-Unknown.ensures
