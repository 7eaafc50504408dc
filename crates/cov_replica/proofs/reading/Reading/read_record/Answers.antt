use Rattle.std.proofs.Common.{◌≡◌, ℕ, List, Ok, Err, ◌∙◌, ap, subst}
use Rattle.cov_replica.specs.Accepting.{Accepts}
use Rattle.cov_replica.specs.Taken.{judged}
use Rattle.cov_replica.proofs.Steps.{err_alike, parts_are}
use Rattle.cov_replica.proofs.reading.Reading.read_record.Goals as goal

pub returns-in-Ok-clause-accepted : goal.returns-in-Ok-clause-accepted
returns-in-Ok-clause-accepted c =
    let s = c.args.self.now in
    let parts = parts_are c.deref.result.now s.bytes.items c.split_at.result.0.now c.split_at.result.1.now s.at c.args.count c.deref.ensures.value c.split_at.ensures.front c.split_at.ensures.back in
    let told = c.in-Ok.ensures.accepted in
    (told.0, subst (λ r. judged s.engine.history s.digest r ≡ Ok told.0) parts told.1, told.2)

pub returns-in-Ok-clause-digest : goal.returns-in-Ok-clause-digest
returns-in-Ok-clause-digest c =
    let s = c.args.self.now in
    let parts = parts_are c.deref.result.now s.bytes.items c.split_at.result.0.now c.split_at.result.1.now s.at c.args.count c.deref.ensures.value c.split_at.ensures.front c.split_at.ensures.back in
    c.in-Ok.ensures.digest ∙ ap (λ r. r.digest) parts

pub returns-in-Err-clause-accepted : goal.returns-in-Err-clause-accepted
returns-in-Err-clause-accepted c =
    let s = c.args.self.now in
    let parts = parts_are c.deref.result.now s.bytes.items c.split_at.result.0.now c.split_at.result.1.now s.at c.args.count c.deref.ensures.value c.split_at.ensures.front c.split_at.ensures.back in
    subst (λ r. Accepts {X = Unit {0}} (judged s.engine.history s.digest r) s.engine.history c.accept.new.engine.history (Err c.in-Err.fault)) parts
    (err_alike (List ℕ) (Unit {0}) (judged s.engine.history s.digest (record { payload = c.split_at.result.0.now; digest = c.split_at.result.1.now })) s.engine.history c.accept.new.engine.history c.in-Err.fault c.in-Err.ensures.accepted)
