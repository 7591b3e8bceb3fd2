use Rattle.std.proofs.Common.{◌∙◌, ap, rules, FitsSigned, ℤ, w32}
use Rattle.std.proofs.Math.Logic.{∥∥₁_elim}
use Rattle.std.proofs.Props.{props}
use Rattle.std.proofs.lemmas.Int.{to_z-of_z}
use Rattle.dcm_base.specs.Tables.Transfer.{without_pads}
use Rattle.dcm_dates.specs.declared.moving.DateKind.TheVariants.{Da, Dt}
use Rattle.dcm_dates.specs.Moved.{moved}
use Rattle.dcm_uid.specs.Pseudonym.{patient, pseudonym}
use Rattle.dcm_uid.specs.Uid.{new_value}
use Rattle.dcm_deid.proofs.MadeValues.{made_uid, made_pseudonym, made_date, made_date_time}
use Rattle.dcm_deid.proofs.key.UidKey.made_new.Goals as goal

pub returns-in-Uid : goal.returns-in-Uid
unfolding new_value
returns-in-Uid c =
    c.widened.ensures ∙ c.as_slice.ensures.value ∙ c.new_value.ensures
    ∙ made_uid c.args.options.now c.args.self.now.bytes.now c.args.made (without_pads c.args.value.now) c.in-Uid.is

pub returns-in-Pseudonym : goal.returns-in-Pseudonym
unfolding pseudonym patient
returns-in-Pseudonym c = ∥∥₁_elim c.args.self.now.is_key (Prim.hlevel props) (λ is.
    c.widened-in-Pseudonym.ensures ∙ c.as_slice-in-Pseudonym.ensures.value ∙ c.pseudonym.ensures c.args.self.now.bytes.now is
    ∙ made_pseudonym c.args.options.now c.args.self.now.bytes.now c.args.made (without_pads c.args.value.now) c.in-Pseudonym.is)

pub returns-in-MovedDate : goal.returns-in-MovedDate
returns-in-MovedDate c =
    let fits : FitsSigned w32 c.days_of-days.result = search rules in
    let days = to_z-of_z w32 c.days_of-days.result fits in
    c.moved.ensures ∙ ap (λ (z : ℤ). moved Da z c.without_pads.result.now) (days ∙ c.days_of-days.ensures)
    ∙ ap (moved Da _) c.without_pads.ensures.value
    ∙ made_date c.args.options.now c.args.self.now.bytes.now c.args.made (without_pads c.args.value.now) c.in-MovedDate.is

pub returns-in-MovedDateTime : goal.returns-in-MovedDateTime
returns-in-MovedDateTime c =
    let fits : FitsSigned w32 c.days_of-days.result = search rules in
    let days = to_z-of_z w32 c.days_of-days.result fits in
    c.moved-in-MovedDateTime.ensures ∙ ap (λ (z : ℤ). moved Dt z c.without_pads-in-MovedDateTime.result.now) (days ∙ c.days_of-days.ensures)
    ∙ ap (moved Dt _) c.without_pads-in-MovedDateTime.ensures.value
    ∙ made_date_time c.args.options.now c.args.self.now.bytes.now c.args.made (without_pads c.args.value.now) c.in-MovedDateTime.is
