use Rattle.std.proofs.Common.{◌≡◌, map, ap, ◌∙◌, arith}
use Rattle.settlement.specs.Closing.{paid_entry, told, close_rate}
use Rattle.settlement.specs.declared.amounts.LineAmount.TheVariants.{Charges, Payments}
use Rattle.settlement.proofs.Rates.{payments_within}
use Rattle.settlement.proofs.pays.close_pool.Goals as goal

pub overflow_cast-payments : goal.overflow_cast-payments
overflow_cast-payments g c =
    let es = c.args.entries.now.items in
    let rate : c.rate_for-rate.result.cents ≡ close_rate c.args.price.cents c.shown-shown.result es = c.rate_for-rate.ensures ∙ rw (c.total-charges.ensures, c.total-quantity.ensures, c.deref.ensures.0, c.deref-2.ensures.0) in
    let paid = c.total-payments.ensures ∙ ap (told Payments) (c.deref-3.ensures.0 ∙ c.pay.ensures ∙ ap (λ n. map (paid_entry n) es) rate) in
    let charges = c.total-charges.ensures ∙ ap (told Charges) c.deref.ensures.0 in
    omega (arith, paid, payments_within c.args.price.cents c.shown-shown.result es, charges)
