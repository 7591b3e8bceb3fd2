-- The names that a reader answered are the first ones of its list.
use Rattle.std.proofs.Common.{◌≡◌, ◌∙◌, sym, ℕ, List, [], ◌∷◌, ◌++◌, Bool, true, false}
use Rattle.std.proofs.lemmas.List.{append-nil}
use Rattle.dcm_names.specs.Names.{names_of}
use Rattle.dcm_names.specs.Reader.{HasRead, ended_names, pending}
use Rattle.dcm_names.specs.declared.list_reader.ListReader.{ListReader}

pub first_names : (reader : ListReader) (b : Bool) (all : List ℕ) (names : List (List ℕ)) → reader.is_over ≡ b → HasRead reader all names → (others : List (List ℕ)) × (names_of all b ≡ names ++ others)
first_names reader true all names over has = ([], sym (has.over over) ∙ sym (append-nil names))
first_names reader false all names over has = (ended_names [] (pending reader), (has.going over).names)
