use Rattle.std.proofs.Common.{◌≡◌, slice_set, refl, sym, subst}
use Rattle.std.specs.List.{AllByRecursion}
use Rattle.cov_visible.specs.Carrying.{CanInsert, CanDelete, IsInserted, IsChanged, CanCarryOutIn, AreCarriedOut}
use Rattle.cov_visible.proofs.Rising.{found-place, no-place}
use Rattle.cov_visible.proofs.StoredFiles.{get-here, one-changed, none-changed, of-four, unchanged}
use Rattle.cov_visible.proofs.resolved_edit.carry_out.Goals as goal

pub insert-requires : goal.insert-requires
insert-requires c =
    get-here (CanInsert c.args.at c.in-Insert.anchor c.in-Insert.line) c.in-Insert.file c.args.files.now c.in-Some.index c.index-files-index.result
    (found-place _ c.in-Insert.file _ _ c.index_of.ensures.place c.in-Some.is) (subst (λ s. AllByRecursion (CanCarryOutIn c.args.at s) c.args.files.now) c.in-Insert.is c.requires.can)

pub delete-requires : goal.delete-requires
delete-requires c =
    get-here (CanDelete c.args.at c.in-Delete.line) c.in-Delete.file c.args.files.now c.in-Some-index_of.index c.index-files-index-in-Some-index_of.result
    (found-place _ c.in-Delete.file _ _ c.index_of-in-Delete.ensures.place c.in-Some-index_of.is) (subst (λ s. AllByRecursion (CanCarryOutIn c.args.at s) c.args.files.now) c.in-Delete.is c.requires.can)

pub returns-in-Some : goal.returns-in-Some
returns-in-Some c =
    subst (λ s. AreCarriedOut c.args.at s c.args.files.now (slice_set c.args.files.now c.in-Some.index c.insert.new.self)) (sym c.in-Insert.is)
    (one-changed c.in-Insert.file (IsInserted c.args.at c.in-Insert.anchor c.in-Insert.line c.in-Insert.text c.in-Insert.vis) c.args.files.now c.in-Some.index c.index-files-index.result
    c.insert.new.self c.requires.rising (found-place _ c.in-Insert.file _ _ c.index_of.ensures.place c.in-Some.is) c.insert.ensures)

pub returns-in-Some-index_of : goal.returns-in-Some-index_of
returns-in-Some-index_of c =
    subst (λ s. AreCarriedOut c.args.at s c.args.files.now (slice_set c.args.files.now c.in-Some-index_of.index c.delete.new.self)) (sym c.in-Delete.is)
    (one-changed c.in-Delete.file (IsChanged c.args.at c.in-Delete.line c.in-Delete.vis) c.args.files.now c.in-Some-index_of.index c.index-files-index-in-Some-index_of.result
    c.delete.new.self c.requires.rising (found-place _ c.in-Delete.file _ _ c.index_of-in-Delete.ensures.place c.in-Some-index_of.is) c.delete.ensures)

pub returns-in-Insert : goal.returns-in-Insert
returns-in-Insert c =
    subst (λ s. AreCarriedOut c.args.at s c.args.files.now c.args.files.now) (sym c.in-Insert.is)
    (none-changed c.in-Insert.file (IsInserted c.args.at c.in-Insert.anchor c.in-Insert.line c.in-Insert.text c.in-Insert.vis) c.args.files.now
    (no-place _ c.in-Insert.file _ c.index_of.ensures.place c.in-None.is))

pub returns-in-Delete : goal.returns-in-Delete
returns-in-Delete c =
    subst (λ s. AreCarriedOut c.args.at s c.args.files.now c.args.files.now) (sym c.in-Delete.is)
    (none-changed c.in-Delete.file (IsChanged c.args.at c.in-Delete.line c.in-Delete.vis) c.args.files.now
    (no-place _ c.in-Delete.file _ c.index_of-in-Delete.ensures.place c.in-None-index_of.is))

pub returns : goal.returns
returns c =
    of-four
    (λ n. subst (λ s. AreCarriedOut c.args.at s c.args.files.now c.args.files.now) (sym n.5) (unchanged n.0 (λ old new. new ≡ old) (λ e. refl) c.args.files.now))
    (λ r. subst (λ s. AreCarriedOut c.args.at s c.args.files.now c.args.files.now) (sym r.3) (unchanged r.0 (λ old new. new ≡ old) (λ e. refl) c.args.files.now))
    (λ m. subst (λ s. AreCarriedOut c.args.at s c.args.files.now c.args.files.now) (sym m.3) (unchanged m.0 (λ old new. new ≡ old) (λ e. refl) c.args.files.now))
    (λ r. subst (λ s. AreCarriedOut c.args.at s c.args.files.now c.args.files.now) (sym r.2) (unchanged r.0 (λ old new. new ≡ old) (λ e. refl) c.args.files.now))
    c.in-New.is
