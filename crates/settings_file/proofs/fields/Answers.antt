use Rattle.settings_file.proofs.Outputs.{fits-so, so-fits, unfit, fit, none-so}
use Rattle.settings_file.proofs.fields.Goals as goal

pub returns-in_err-ok : goal.returns-in_err-ok
returns-in_err-ok c =
    none-so _ _ _ c.from_residual.ensures (λ e. unfit c.try_from.result _ _ c.ok.result c.ok.ensures.value c.try_from.ensures c.in_err-ok.was (fits-so c.args.asked e).vendor)

pub returns-in_err-ok-2 : goal.returns-in_err-ok-2
returns-in_err-ok-2 c =
    none-so _ _ _ c.from_residual-in_err-ok-2.ensures (λ e. unfit c.try_from-2.result _ _ c.ok-2.result c.ok-2.ensures.value c.try_from-2.ensures c.in_err-ok-2.was (fits-so c.args.asked e).period)

pub returns-in_err-ok-3 : goal.returns-in_err-ok-3
returns-in_err-ok-3 c =
    none-so _ _ _ c.from_residual-in_err-ok-3.ensures (λ e. unfit c.try_from-3.result _ _ c.ok-3.result c.ok-3.ensures.value c.try_from-3.ensures c.in_err-ok-3.was (fits-so c.args.asked e).mask0)

pub returns-in_err-ok-4 : goal.returns-in_err-ok-4
returns-in_err-ok-4 c =
    none-so _ _ _ c.from_residual-in_err-ok-4.ensures (λ e. unfit c.try_from-4.result _ _ c.ok-4.result c.ok-4.ensures.value c.try_from-4.ensures c.in_err-ok-4.was (fits-so c.args.asked e).mask1)

pub returns-in_err-ok-5 : goal.returns-in_err-ok-5
returns-in_err-ok-5 c =
    none-so _ _ _ c.from_residual-in_err-ok-5.ensures (λ e. unfit c.try_from-5.result _ _ c.ok-5.result c.ok-5.ensures.value c.try_from-5.ensures c.in_err-ok-5.was (fits-so c.args.asked e).mask2)

pub returns-in_err-ok-6 : goal.returns-in_err-ok-6
returns-in_err-ok-6 c =
    none-so _ _ _ c.from_residual-in_err-ok-6.ensures (λ e. unfit c.try_from-6.result _ _ c.ok-6.result c.ok-6.ensures.value c.try_from-6.ensures c.in_err-ok-6.was (fits-so c.args.asked e).id)

pub returns : goal.returns
returns c =
    let vendor = fit c.try_from.result _ _ _ c.ok.result c.ok.ensures.value c.try_from.ensures c.in_ok-ok.was in
    let period = fit c.try_from-2.result _ _ _ c.ok-2.result c.ok-2.ensures.value c.try_from-2.ensures c.in_ok-ok-2.was in
    let mask0 = fit c.try_from-3.result _ _ _ c.ok-3.result c.ok-3.ensures.value c.try_from-3.ensures c.in_ok-ok-3.was in
    let mask1 = fit c.try_from-4.result _ _ _ c.ok-4.result c.ok-4.ensures.value c.try_from-4.ensures c.in_ok-ok-4.was in
    let mask2 = fit c.try_from-5.result _ _ _ c.ok-5.result c.ok-5.ensures.value c.try_from-5.ensures c.in_ok-ok-5.was in
    let id = fit c.try_from-6.result _ _ _ c.ok-6.result c.ok-6.ensures.value c.try_from-6.ensures c.in_ok-ok-6.was in
    (so-fits c.args.asked (record { vendor = vendor.0; period = period.0; mask0 = mask0.0; mask1 = mask1.0; mask2 = mask2.0; id = id.0 }), λ i. record { vendor = vendor.1 i; period = period.1 i; mask0 = mask0.1 i; mask1 = mask1.1 i; mask2 = mask2.1 i; id = id.1 i })
