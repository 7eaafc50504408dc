use Rattle.std.proofs.Common.{◌≡◌, ◌∙◌, ◌<◌, Some, length}
use Rattle.cov_journal.specs.Moments.{KeepsImages}
use Rattle.cov_journal.proofs.CallerLemmas.{keeps_both, some_to}
use Rattle.cov_store.specs.Stands.{StandsFor}
use Rattle.cov_store.proofs.Opens.{gives, kept_on, opened_faulty, opened_stands, reason_since, stands_later, stands_on, stands_since, stored_now, tells}
use Rattle.cov_store.proofs.store.Store.open.Goals as goal

pub returns-in-Ok-clause-cause : goal.returns-in-Ok-clause-cause
returns-in-Ok-clause-cause g c =
    reason_since (g.D.Disk.faults c.args.disk.now) (g.D.Disk.faults c.open.new.disk) (g.D.Disk.faults c.replay_all.new.disk) c.replay_all.result c.open.ensures.later c.replay_all.ensures.reason

pub returns-in-Ok-clause-stands : goal.returns-in-Ok-clause-stands
returns-in-Ok-clause-stands g c history =
    let told = c.in-Ok.ensures.contents in
    gives (g.D.Disk.contents c.args.disk.now) history (g.D.Disk.faults c.args.disk.now) (g.D.Disk.faults c.replay_all.new.disk) c.replay_all.result
    (opened_stands (g.D.Disk.contents c.args.disk.now) (g.D.Disk.contents c.open.new.disk) told c.replay_all.result c.replay_all.ensures.replays)
    (opened_faulty (g.D.Disk.contents c.args.disk.now) (g.D.Disk.contents c.open.new.disk) told c.replay_all.result c.replay_all.ensures.replays)
    (returns-in-Ok-clause-cause g c)

pub returns-in-Ok-clause-damage : goal.returns-in-Ok-clause-damage
returns-in-Ok-clause-damage g c number cause =
    let told = c.in-Ok.ensures.contents in
    tells (g.D.Disk.contents c.args.disk.now) number cause (g.D.Disk.faults c.args.disk.now) (g.D.Disk.faults c.replay_all.new.disk) c.replay_all.result
    (opened_stands (g.D.Disk.contents c.args.disk.now) (g.D.Disk.contents c.open.new.disk) told c.replay_all.result c.replay_all.ensures.replays)
    (opened_faulty (g.D.Disk.contents c.args.disk.now) (g.D.Disk.contents c.open.new.disk) told c.replay_all.result c.replay_all.ensures.replays)
    (returns-in-Ok-clause-cause g c)

pub returns-in-Ok-clause-opened : goal.returns-in-Ok-clause-opened
returns-in-Ok-clause-opened g c =
    opened_stands (g.D.Disk.contents c.args.disk.now) (g.D.Disk.contents c.open.new.disk) c.in-Ok.ensures.contents c.replay_all.result c.replay_all.ensures.replays

pub returns-in-Ok-clause-faulty : goal.returns-in-Ok-clause-faulty
returns-in-Ok-clause-faulty g c =
    opened_faulty (g.D.Disk.contents c.args.disk.now) (g.D.Disk.contents c.open.new.disk) c.in-Ok.ensures.contents c.replay_all.result c.replay_all.ensures.replays

pub returns-in-Ok-clause-kept : goal.returns-in-Ok-clause-kept
returns-in-Ok-clause-kept g c =
    some_to (λ image. 13 < length image → g.D.Disk.contents c.open.new.disk ≡ Some image) (λ image. 13 < length image → g.D.Disk.contents c.replay_all.new.disk ≡ Some image)
    (λ image kept long. c.replay_all.ensures.same ∙ kept long) (g.D.Disk.contents c.args.disk.now) c.open.ensures.kept

pub returns-in-Ok-clause-images : goal.returns-in-Ok-clause-images
returns-in-Ok-clause-images g c =
    some_to (λ image. 13 < length image → KeepsImages g.D.Disk.images g.D.Disk.moment g.D.Disk.images_since c.args.disk.now c.open.new.disk)
    (λ image. 13 < length image → KeepsImages g.D.Disk.images g.D.Disk.moment g.D.Disk.images_since c.args.disk.now c.replay_all.new.disk)
    (λ image keeps long. keeps_both g.D.Disk.images g.D.Disk.moment g.D.Disk.images_since c.args.disk.now c.open.new.disk c.replay_all.new.disk (keeps long) c.replay_all.ensures.images)
    (g.D.Disk.contents c.args.disk.now) c.open.ensures.images

pub returns-in-Ok-clause-stored : goal.returns-in-Ok-clause-stored
returns-in-Ok-clause-stored g c =
    stored_now g.D.Disk.contents g.D.Disk.images g.D.Disk.moment g.D.Disk.images_since g.met.D.Disk.as_read g.met.D.Disk.told g.met.D.Disk.counts_now
    c.open.new.disk c.replay_all.new.disk c.replay_all.result c.in-Ok.ensures.only c.replay_all.ensures.images c.replay_all.ensures.replays

pub returns-in-Ok-clause-any_moment : goal.returns-in-Ok-clause-any_moment
returns-in-Ok-clause-any_moment g c history all =
    kept_on g.D.Disk.contents g.D.Disk.images g.D.Disk.moment g.D.Disk.images_since g.met.D.Disk.as_read g.met.D.Disk.told g.met.D.Disk.counts_now
    c.args.disk.now c.open.new.disk c.replay_all.new.disk (λ image. StandsFor image history)
    (stands_since g.D.Disk.contents g.D.Disk.images g.D.Disk.moment g.D.Disk.images_since g.met.D.Disk.as_read g.met.D.Disk.told g.met.D.Disk.counts_now
    c.args.disk.now c.open.new.disk history all c.open.ensures.any_moment) c.replay_all.ensures.images

pub returns-in-Err-NotAStore-clause-any_moment : goal.returns-in-Err-NotAStore-clause-any_moment
returns-in-Err-NotAStore-clause-any_moment g c history all =
    stands_since g.D.Disk.contents g.D.Disk.images g.D.Disk.moment g.D.Disk.images_since g.met.D.Disk.as_read g.met.D.Disk.told g.met.D.Disk.counts_now
    c.args.disk.now c.open.new.disk history all c.open.ensures.any_moment

pub returns-in-Err-DiskFault-clause-any_moment : goal.returns-in-Err-DiskFault-clause-any_moment
returns-in-Err-DiskFault-clause-any_moment g c history all =
    stands_since g.D.Disk.contents g.D.Disk.images g.D.Disk.moment g.D.Disk.images_since g.met.D.Disk.as_read g.met.D.Disk.told g.met.D.Disk.counts_now
    c.args.disk.now c.open.new.disk history all c.open.ensures.any_moment

pub returns-in-Ok-clause-stays : goal.returns-in-Ok-clause-stays
returns-in-Ok-clause-stays g c =
    stands_later (g.D.Disk.contents c.args.disk.now) (g.D.Disk.contents c.open.new.disk) (g.D.Disk.contents c.replay_all.new.disk) c.open.ensures.stays c.replay_all.ensures.same

pub returns-in-Err-NotAStore-clause-stays : goal.returns-in-Err-NotAStore-clause-stays
returns-in-Err-NotAStore-clause-stays g c = stands_on (g.D.Disk.contents c.args.disk.now) (g.D.Disk.contents c.open.new.disk) c.open.ensures.stays

pub returns-in-Err-DiskFault-clause-stays : goal.returns-in-Err-DiskFault-clause-stays
returns-in-Err-DiskFault-clause-stays g c = stands_on (g.D.Disk.contents c.args.disk.now) (g.D.Disk.contents c.open.new.disk) c.open.ensures.stays

pub returns-in-Err-Memory-clause-stays : goal.returns-in-Err-Memory-clause-stays
returns-in-Err-Memory-clause-stays g c = stands_on (g.D.Disk.contents c.args.disk.now) (g.D.Disk.contents c.open.new.disk) c.open.ensures.stays
