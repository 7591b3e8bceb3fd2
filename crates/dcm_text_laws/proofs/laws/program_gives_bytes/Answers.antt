use Rattle.dcm_text_laws.proofs.laws.program_gives_bytes.Goals as goal

pub returns : goal.returns
returns g c = λ before after bytes gets. gets.2
