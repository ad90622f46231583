use Rattle.camp_options.proofs.Common.{codes, ap, ap₂, ◌≡◌, ◌∙◌, app_of_fields, app_of, new_app, with_rule, program, with_version}
use Rattle.std.proofs.lemmas.Result.{IfOk-weaker}
use Rattle.camp_options.proofs.words.command.Goals as goal

pub returns : goal.returns
returns c =
    let short : app_of c.after_help.result ≡ new_app (codes "camp") = ap app_of_fields c.after_help.ensures ∙ ap app_of_fields c.override_usage.ensures ∙ c.new.ensures.app in
    let long : app_of c.after_long_help.result ≡ new_app (codes "camp") = ap app_of_fields c.after_long_help.ensures ∙ short in
    let bare : app_of c.version.result ≡ with_version (new_app (codes "camp")) = ap app_of_fields c.version.ensures ∙ ap with_version long in
    let one = c.in_ok-arg.ensures.shape c.flag.ensures.local ∙ ap₂ with_rule bare c.flag.ensures.rule in
    let two = c.in_ok-arg-2.ensures.shape c.tries.ensures.local ∙ ap₂ with_rule one c.tries.ensures.rule in
    let three = c.in_ok-arg-3.ensures.shape c.flag-2.ensures.local ∙ ap₂ with_rule two c.flag-2.ensures.rule in
    IfOk-weaker c.arg-4.result _ (λ command. app_of command ≡ program) (λ command added. added.shape c.limits.ensures.local ∙ ap₂ with_rule three c.limits.ensures.rule) c.arg-4.ensures
