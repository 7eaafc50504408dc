use Rattle.std.proofs.Common.{◌≡◌, ◌∙◌, refl, ap, length, subst, Some, None, arith}
use Rattle.cov_edit.specs.History.{option_count}
use Rattle.cov_hist.specs.Past.{first_open, values_of}
use Rattle.cov_lines.specs.States.{Serving}
use Rattle.cov_lines.proofs.Filling.{whole-found, whole-stops}
use Rattle.cov_lines.proofs.state.ServerState.find_whole.Goals as goal

pub returns-in-Ok-clause-found : goal.returns-in-Ok-clause-found
returns-in-Ok-clause-found c =
    let st = c.args.self.now.state in
    let partial = c.args.partial.now in
    let count : c.count.result ≡ option_count st.history = c.count.ensures.count ∙ ap length c.options.ensures ∙ ap (λ (v : Serving). option_count v.state.history) c.self.view_is in
    whole-found (option_count st.history) partial c.in-Ok.choice (subst (λ n. first_open n partial ≡ None) count c.in-Ok.ensures.whole) (c.in-Ok.ensures.choice ∙ ap (λ n. values_of n partial) count)

pub returns-in-Ok-clause-whole : goal.returns-in-Ok-clause-whole
returns-in-Ok-clause-whole c =
    c.in-Ok.ensures.count ∙ c.count.ensures.count ∙ ap length c.options.ensures ∙ ap (λ (v : Serving). option_count v.state.history) c.self.view_is

pub returns-in-Err-clause-found : goal.returns-in-Err-clause-found
returns-in-Err-clause-found c =
    let st = c.args.self.now.state in
    let partial = c.args.partial.now in
    let option = c.in-Err.option in
    let count : c.count.result ≡ option_count st.history = c.count.ensures.count ∙ ap length c.options.ensures ∙ ap (λ (v : Serving). option_count v.state.history) c.self.view_is in
    let below = c.in-Err.ensures.within in
    whole-stops (option_count st.history) partial st option refl (subst (λ n. first_open n partial ≡ Some option) count c.in-Err.ensures.open) (omega (arith, count, below))
