use Rattle.std.proofs.Common.{◌≡◌, ◌∙◌, ap, subst, sym}
use Rattle.cov_journal.proofs.CallerLemmas.{some_to}
use Rattle.cov_lines.specs.States.{State, starting}
use Rattle.cov_store.specs.Stands.{IsStored, StandsFor}
use Rattle.cov_lines.proofs.server.Server.open.Goals as goal

pub returns-in-Ok-of_store-clause-stands : goal.returns-in-Ok-of_store-clause-stands
returns-in-Ok-of_store-clause-stands g c history =
    some_to (λ image. StandsFor image history → c.in-Ok.store.history ≡ history) (λ image. StandsFor image history → c.in-Ok-of_store.server.state ≡ starting history)
    (λ image given stands. c.in-Ok-of_store.ensures.begins ∙ ap starting (given stands)) (g.D.Disk.contents c.args.disk.now) (c.in-Ok.ensures.stands history)

pub returns-in-Ok-of_store-clause-stored : goal.returns-in-Ok-of_store-clause-stored
returns-in-Ok-of_store-clause-stored g c image now =
    subst (λ (st : State). IsStored image st.history) (sym c.in-Ok-of_store.ensures.begins) (c.in-Ok.ensures.stored image now)
